-- A macroblock's step, plane by plane: what the code on one plane computes and counts is what the definition's edges leave in it and smooth.
-- Assumes nothing.
use mathlib.Core.Path.{◌≡◌, refl, sym, ap, ap₂, subst, ◌∙◌}
use mathlib.Core.Bool.{Bool, true, false, cond}
use Prim.Native.Nat.{ℕ, zero, suc, ◌+◌, ◌-◌, ◌*◌, ◌/◌, ◌≤◌, ◌<◌}
use native.Mathlib.Nat.{add-mul, add-zero}
use native.Mathlib.Omega.{arith}
use lib.Dec.{ltb}
use borrow.Author.Tests.{ltb-true, le-ltb, lt-ltb}
use Rattle.kernels.specs.Segment.{Kernel, half}
use Rattle.kernels.proofs.KernelLaws.{half-most}
use Rattle.planes.specs.Planes.{Planes, Plane, luma, chroma_u, chroma_v, Grid, side, stride, grid_row, grid_column}
use Rattle.planes.specs.Edges.{Direction, vertical, horizontal, first_row, first_column, borders, insides}
use Rattle.planes.specs.Private.Worked.{Worked, work_edge, WorkedPlanes, samples_of, total_of, unworked}
use Rattle.planes.specs.Layout.{grid_of}
use Rattle.planes.specs.declared.layout.PlaneLayout.{PlaneLayout}
use Rattle.frame.specs.Private.Ranges.{Stepped}
use Rattle.planes.specs.Steps.{steps}
use Rattle.frame.specs.declared.plane.Square.{Square}
use Rattle.frame.specs.Private.PlaneEdges.{square_at, along, left_from, top_from, inner_at, inner_from, plane_from}
use Rattle.planes.specs.Macroblock.{Plan, filter, lead}
use Rattle.frame.proofs.Bases.{edge_base, work-from}
use Rattle.planes.proofs.StepParts.{edge_of}
use Rattle.planes.proofs.WorkedParts.{work_macroblock, macroblock-samples, macroblock-total, work_at, four-parts, macroblock-at, borders-none, borders-at, insides-none, insides-at}

-- (a - h) rows above, counted in samples
rows-up : (a h s b : ℕ) → h ≤ a → (a - h) * s + b ≡ a * s + b - h * s
rows-up a h s b le = omega (arith, add-mul (a - h) h s, ap (λ (n : ℕ). n * s) same)
  where
    same : a - h + h ≡ a
    same = omega arith

rows-down : (a o h s b : ℕ) → h ≤ o → (a + o - h) * s + b ≡ a * s + b + (o - h) * s
rows-down a o h s b le = omega (arith, add-mul a (o - h) s, ap (λ (n : ℕ). n * s) same)
  where
    same : a + (o - h) ≡ a + o - h
    same = omega arith

times-side : (q : Plane) (n : ℕ) → 0 < n → 4 ≤ side q * n
times-side luma n h = omega arith
times-side chroma_u n h = omega arith
times-side chroma_v n h = omega arith

if-so : {X : Type 0} (b : Bool) (x x' y : X) → (b ≡ true → x ≡ x') → cond b x y ≡ cond b x' y
if-so true x x' y h = h refl
if-so false x x' y h = refl

module _ (g : Grid) (r c : ℕ) where
  -- the index of the first sample of the macroblock's square
  abbrev pub corner : Plane → ℕ
  corner q = side q * r * stride g q + side q * c

  at_base : (q : Plane) (d : Direction) (off : ℕ) (k : Kernel) (l : Worked) (n : ℕ) → edge_base g r c (edge_of q d off k) ≡ n
      → work_edge g r c (edge_of q d off k) l ≡ along d k (stride g q) n (side q) l
  at_base q d off k l n e = work-from g r c (edge_of q d off k) l ∙ ap (λ (b : ℕ). along d k (stride g q) b (side q) l) e

  -- ---- the edge at a border, and one within

  border-v : (q : Plane) (k : Kernel) (l : Worked) → 0 < c → work_edge g r c (edge_of q vertical 0 k) l ≡ along vertical k (stride g q) (corner q - half k) (side q) l
  border-v q k l h = at_base q vertical 0 k l (corner q - half k) (unfold edge_base first_row first_column in (omega (arith, times-side q c h, half-most k)))

  border-h : (q : Plane) (k : Kernel) (l : Worked) → 0 < r → work_edge g r c (edge_of q horizontal 0 k) l ≡ along horizontal k (stride g q) (corner q - half k * stride g q) (side q) l
  border-h q k l h =
      at_base q horizontal 0 k l (corner q - half k * stride g q)
      (unfold edge_base first_row first_column in
      (ap (λ (n : ℕ). (n - half k) * stride g q + side q * c) (add-zero (side q * r)) ∙ rows-up (side q * r) (half k) (stride g q) (side q * c) (omega (arith, times-side q r h, half-most k))))

  inner-v : (q : Plane) (off : ℕ) (k : Kernel) (l : Worked) → half k ≤ off → work_edge g r c (edge_of q vertical off k) l ≡ along vertical k (stride g q) (corner q + (off - half k)) (side q) l
  inner-v q off k l h = at_base q vertical off k l (corner q + (off - half k)) (unfold edge_base first_row first_column in (omega arith))

  inner-h : (q : Plane) (off : ℕ) (k : Kernel) (l : Worked) → half k ≤ off
      → work_edge g r c (edge_of q horizontal off k) l ≡ along horizontal k (stride g q) (corner q + (off - half k) * stride g q) (side q) l
  inner-h q off k l h = at_base q horizontal off k l (corner q + (off - half k) * stride g q) (unfold edge_base first_row first_column in (rows-down (side q * r) off (half k) (stride g q) (side q * c) h))

  -- ---- the parts of the step, plane by plane

  abbrev pub square : Plane → Square
  square q = square_at (side q) (stride g q) r c

  left_is : (q : Plane) (k : Kernel) (l : Worked) → cond (ltb 0 c) (work_edge g r c (edge_of q vertical 0 k) l) l ≡ left_from k (side q) (square q) l
  unfolding left_from
  left_is q k l = if-so (ltb 0 c) _ _ l (λ e. border-v q k l (ltb-true 0 c e))

  top-is : (q : Plane) (k : Kernel) (l : Worked) → cond (ltb 0 r) (work_edge g r c (edge_of q horizontal 0 k) l) l ≡ top_from k (side q) (square q) l
  unfolding top_from
  top-is q k l = if-so (ltb 0 r) _ _ l (λ e. border-h q k l (ltb-true 0 r e))

  -- inner edge n
  inner_is : (q : Plane) (d : Direction) (n off : ℕ) (k : Kernel) (l : Worked) → 4 * n ≡ off → 1 ≤ n → work_edge g r c (edge_of q d off k) l ≡ inner_at d k (side q) (square q) n l
  inner_is q vertical n off k l e h = inner-v q off k l (omega (arith, half-most k)) ∙ ap (λ (o : ℕ). along vertical k (stride g q) (corner q + (o - half k)) (side q) l) (sym e)
  inner_is q horizontal n off k l e h = inner-h q off k l (omega (arith, half-most k)) ∙ ap (λ (o : ℕ). along horizontal k (stride g q) (corner q + (o - half k) * stride g q) (side q) l) (sym e)

-- ---- the four parts, as records

module _ (g : Grid) (chroma : Bool) (outer inner : Kernel) (inside : Bool) (r c : ℕ) where
  -- a border's edge, in a plane that is filtered or not
  at-border : Direction → Plane → Bool → Worked → Worked
  at-border d q on l = cond (ltb 0 (lead d r c)) (cond on (work_edge g r c (edge_of q d 0 outer) l) l) l

  borders-is : (d : Direction) (p : WorkedPlanes)
      → work_at g (filter chroma outer inner inside) r c (borders d) p
      ≡ record { y = at-border d luma true p.y; u = at-border d chroma_u chroma p.u; v = at-border d chroma_v chroma p.v }
  unfolding at-border
  borders-is d p = by (lead d r c) refl
    where
      by : (n : ℕ) → lead d r c ≡ n
          → work_at g (filter chroma outer inner inside) r c (borders d) p
          ≡ record { y = at-border d luma true p.y; u = at-border d chroma_u chroma p.u; v = at-border d chroma_v chroma p.v }
      by zero e =
          borders-none g chroma outer inner inside r c d p e
          ∙ ap (λ (t : Bool). record {
            y = cond t (cond true (work_edge g r c (edge_of luma d 0 outer) p.y) p.y) p.y;
            u = cond t (cond chroma (work_edge g r c (edge_of chroma_u d 0 outer) p.u) p.u) p.u;
            v = cond t (cond chroma (work_edge g r c (edge_of chroma_v d 0 outer) p.v) p.v) p.v;
          }) (sym (le-ltb 0 (lead d r c) (omega arith)))
      by (suc n) e =
          borders-at g chroma outer inner inside r c d p (omega arith)
          ∙ ap (λ (t : Bool). record {
            y = cond t (cond true (work_edge g r c (edge_of luma d 0 outer) p.y) p.y) p.y;
            u = cond t (cond chroma (work_edge g r c (edge_of chroma_u d 0 outer) p.u) p.u) p.u;
            v = cond t (cond chroma (work_edge g r c (edge_of chroma_v d 0 outer) p.v) p.v) p.v;
          }) (sym (lt-ltb 0 (lead d r c) (omega arith)))

  three : Direction → Worked → Worked
  three d l = work_edge g r c (edge_of luma d 12 inner) (work_edge g r c (edge_of luma d 8 inner) (work_edge g r c (edge_of luma d 4 inner) l))

  one : Direction → Plane → Worked → Worked
  one d q l = cond inside (cond chroma (work_edge g r c (edge_of q d 4 inner) l) l) l

  -- as the code has them, edge after edge
  three-is : (d : Direction) (l : Worked) → cond inside (three d l) l ≡ inner_from d inner inside 16 (square g r c luma) l
  unfolding inner_from steps three
  three-is d l =
      if-so inside _ _ l
      (λ _. inner_is g r c luma d 3 12 inner _ refl (omega arith)
      ∙ ap (inner_at d inner 16 (square g r c luma) 3) (inner_is g r c luma d 2 8 inner _ refl (omega arith) ∙ ap (inner_at d inner 16 (square g r c luma) 2) (inner_is g r c luma d 1 4 inner l refl (omega arith))))

  one-is : (d : Direction) (q : Plane) (l : Worked) → chroma ≡ true → side q ≡ 8 → one d q l ≡ inner_from d inner inside (side q) (square g r c q) l
  unfolding inner_from steps one
  one-is d q l e e8 =
      if-so inside _ _ l
      (λ _. ap (λ (b : Bool). cond b (work_edge g r c (edge_of q d 4 inner) l) l) e ∙ inner_is g r c q d 1 4 inner l refl (omega arith)
      ∙ ap (λ (n : ℕ). steps (inner_at d inner (side q) (square g r c q)) 1 (n / 4 - 1) l) (sym e8))

insides-is : (g : Grid) (chroma : Bool) (outer inner : Kernel) (inside : Bool) (r c : ℕ) (d : Direction) (p : WorkedPlanes)
    → work_at g (filter chroma outer inner inside) r c (insides d) p
    ≡ record { y = cond inside (three g chroma outer inner inside r c d p.y) p.y; u = one g chroma outer inner inside r c d chroma_u p.u; v = one g chroma outer inner inside r c d chroma_v p.v }
unfolding three one
insides-is g chroma outer inner true r c d p = insides-at g chroma outer inner r c d p
insides-is g chroma outer inner false r c d p = insides-none g chroma outer inner r c d p

-- the step, as a record of three planes
step_is : (g : Grid) (chroma : Bool) (outer inner : Kernel) (inside : Bool) (m : ℕ) (p : WorkedPlanes) (r c : ℕ) → grid_row g m ≡ r → grid_column g m ≡ c
    → work_macroblock g (λ _. filter chroma outer inner inside) m p
    ≡ record {
      y = cond inside (three g chroma outer inner inside r c horizontal (at-border g chroma outer inner inside r c horizontal luma true (cond inside (three g chroma outer inner inside r c vertical (at-border g chroma outer inner inside r c vertical luma true p.y)) (at-border g chroma outer inner inside r c vertical luma true p.y)))) (at-border g chroma outer inner inside r c horizontal luma true (cond inside (three g chroma outer inner inside r c vertical (at-border g chroma outer inner inside r c vertical luma true p.y)) (at-border g chroma outer inner inside r c vertical luma true p.y)));
      u = one g chroma outer inner inside r c horizontal chroma_u (at-border g chroma outer inner inside r c horizontal chroma_u chroma (one g chroma outer inner inside r c vertical chroma_u (at-border g chroma outer inner inside r c vertical chroma_u chroma p.u)));
      v = one g chroma outer inner inside r c horizontal chroma_v (at-border g chroma outer inner inside r c horizontal chroma_v chroma (one g chroma outer inner inside r c vertical chroma_v (at-border g chroma outer inner inside r c vertical chroma_v chroma p.v)));
    }
step_is g chroma outer inner inside m p r c er ec =
    macroblock-at g (λ _. filter chroma outer inner inside) m p
    ∙ four-parts g plan (grid_row g m) (grid_column g m) p
    ∙ ap₂ (λ (a b : ℕ). work_at g plan a b (insides horizontal) (work_at g plan a b (borders horizontal) (work_at g plan a b (insides vertical) (work_at g plan a b (borders vertical) p)))) er ec
    ∙ ap (λ (x : WorkedPlanes). work_at g plan r c (insides horizontal) (work_at g plan r c (borders horizontal) (work_at g plan r c (insides vertical) x))) (borders-is g chroma outer inner inside r c vertical p)
    ∙ ap (λ (x : WorkedPlanes). work_at g plan r c (insides horizontal) (work_at g plan r c (borders horizontal) x)) (insides-is g chroma outer inner inside r c vertical _)
    ∙ ap (λ (x : WorkedPlanes). work_at g plan r c (insides horizontal) x) (borders-is g chroma outer inner inside r c horizontal _)
    ∙ insides-is g chroma outer inner inside r c horizontal _
  where
    plan : Plan
    plan = filter chroma outer inner inside

-- ---- the code's planes

module _ (g : Grid) (outer inner : Kernel) (inside : Bool) (r c : ℕ) where
  -- luma, whether or not chroma is filtered too
  luma-is : (chroma : Bool) (l : Worked)
      → cond inside (three g chroma outer inner inside r c horizontal (at-border g chroma outer inner inside r c horizontal luma true (cond inside (three g chroma outer inner inside r c vertical (at-border g chroma outer inner inside r c vertical luma true l)) (at-border g chroma outer inner inside r c vertical luma true l)))) (at-border g chroma outer inner inside r c horizontal luma true (cond inside (three g chroma outer inner inside r c vertical (at-border g chroma outer inner inside r c vertical luma true l)) (at-border g chroma outer inner inside r c vertical luma true l)))
      ≡ plane_from outer inner inside 16 (square g r c luma) l
  unfolding plane_from at-border
  luma-is chroma l =
      three-is g chroma outer inner inside r c horizontal _
      ∙ ap (inner_from horizontal inner inside 16 (square g r c luma))
      (top-is g r c luma outer _
      ∙ ap (top_from outer 16 (square g r c luma))
      (three-is g chroma outer inner inside r c vertical _ ∙ ap (inner_from vertical inner inside 16 (square g r c luma)) (left_is g r c luma outer l)))

  -- a chroma plane under the normal filter
  chroma-is : (q : Plane) (l : Worked) → side q ≡ 8
      → one g true outer inner inside r c horizontal q (at-border g true outer inner inside r c horizontal q true (one g true outer inner inside r c vertical q (at-border g true outer inner inside r c vertical q true l)))
      ≡ plane_from outer inner inside (side q) (square g r c q) l
  unfolding plane_from at-border
  chroma-is q l e8 =
      one-is g true outer inner inside r c horizontal q _ refl e8
      ∙ ap (inner_from horizontal inner inside (side q) (square g r c q))
      (top-is g r c q outer _
      ∙ ap (top_from outer (side q) (square g r c q))
      (one-is g true outer inner inside r c vertical q _ refl e8 ∙ ap (inner_from vertical inner inside (side q) (square g r c q)) (left_is g r c q outer l)))

-- a plane that the simple filter leaves alone
none_is : (g : Grid) (outer inner : Kernel) (inside : Bool) (r c : ℕ) (q : Plane) (l : Worked)
    → one g false outer inner inside r c horizontal q (at-border g false outer inner inside r c horizontal q false (one g false outer inner inside r c vertical q (at-border g false outer inner inside r c vertical q false l))) ≡ l
unfolding one at-border
none_is g outer inner inside r c q l = same inside _ ∙ same (ltb 0 r) _ ∙ same inside _ ∙ same (ltb 0 c) l
  where
    same : (b : Bool) (x : Worked) → cond b x x ≡ x
    same true x = refl
    same false x = refl

module _ (g : Grid) (m : ℕ) (r c : ℕ) (er : grid_row g m ≡ r) (ec : grid_column g m ≡ c) (outer inner : Kernel) (inside : Bool) (p : WorkedPlanes) where
  -- the step under the normal filter
  pub normal-step :
      work_macroblock g (λ _. filter true outer inner inside) m p
      ≡ record { y = plane_from outer inner inside 16 (square g r c luma) p.y; u = plane_from outer inner inside 8 (square g r c chroma_u) p.u; v = plane_from outer inner inside 8 (square g r c chroma_v) p.v }
  normal-step =
      step_is g true outer inner inside m p r c er ec
      ∙ (λ i. record { y = luma-is g outer inner inside r c true p.y i; u = chroma-is g outer inner inside r c chroma_u p.u refl i; v = chroma-is g outer inner inside r c chroma_v p.v refl i })

  -- the step under the simple filter: luma alone
  pub simple-step : work_macroblock g (λ _. filter false outer inner inside) m p ≡ record { y = plane_from outer inner inside 16 (square g r c luma) p.y; u = p.u; v = p.v }
  simple-step =
      step_is g false outer inner inside m p r c er ec
      ∙ (λ i. record { y = luma-is g outer inner inside r c false p.y i; u = none_is g outer inner inside r c chroma_u p.u i; v = none_is g outer inner inside r c chroma_v p.v i })

-- ---- what the code's planes and totals come to

module _ (layout : PlaneLayout) where
  pub stepped : (plan : Plan) (m : ℕ) (p p' : Planes) (a b c r : ℕ) → r ≡ a + b + c
      → record { y = record { samples = p'.y; smoothed = 0 + a }; u = record { samples = p'.u; smoothed = 0 + b }; v = record { samples = p'.v; smoothed = 0 + c } } ≡ work_macroblock (grid_of layout) (λ _. plan) m (unworked p)
      → Stepped layout plan m p p' r
  stepped plan m p p' a b c r er e = record {
    planes = ap samples_of e ∙ macroblock-samples (grid_of layout) (λ _. plan) m (unworked p);
    smoothed = omega (arith, er, ap total_of e ∙ macroblock-total (grid_of layout) (λ _. plan) m (unworked p));
  }

  -- under a plan that is the same
  pub stepped-as : (m : ℕ) (p p' : Planes) (r : ℕ) {plan plan' : Plan} → plan ≡ plan' → Stepped layout plan m p p' r → Stepped layout plan' m p p' r
  stepped-as m p p' r e s = subst (λ (x : Plan). Stepped layout x m p p' r) e s
