-- Where the taps of a macroblock's edges lie.
use mathlib.Core.Path.{◌≡◌, refl, ap, ◌∙◌}
use mathlib.Core.Logic.{inl, inr}
use mathlib.Core.List.{List, [], ◌∷◌, ◌++◌}
use Prim.Native.Nat.{ℕ, zero, suc, ◌+◌, ◌-◌, ◌*◌, ◌/◌, ◌%◌, ◌≤◌, ◌<◌}
use native.Mathlib.Nat.{le_trans, mul-le-mul_left, mod-lt, not-suc-le-zero, zero-mul}
use native.Mathlib.Omega.{arith}
use lib.Arith.{digits_div, digits_mod}
use lib.Dec.{T, leb, leb→le, ltb, ltb→lt}
use Rattle.kernels.specs.Segment.{Kernel, half, taps}
use Rattle.planes.specs.Planes.{Plane, luma, chroma_u, chroma_v, Grid, side, stride, macroblocks, grid_column, StridesHold}
use Rattle.planes.specs.Edges.{Direction, vertical, horizontal, tap_at, first_row, first_column, Edge, edge_tap, Place, border, within, borders, insides, places}
use Rattle.planes.specs.Macroblock.{Plan, leave, filter, filtered, lead, edge_at, edges_at}
use Rattle.planes.specs.Reach.{Stands, Box, Near}
use Rattle.planes.proofs.AllOf.{All, none, ◌&◌, all_append, all-only}
use Rattle.kernels.proofs.KernelLaws.{half-most}

-- ---- a macroblock's square lies inside the stride

pub side-least : (q : Plane) → 8 ≤ side q
side-least luma = omega arith
side-least chroma_u = omega arith
side-least chroma_v = omega arith

pub factor-positive : (a b m : ℕ) → m < a * b → 0 < a
factor-positive zero b m h = absurd (not-suc-le-zero (rw zero-mul at h))
factor-positive (suc a) b m h = omega arith

-- the c-th of n squares of z samples
pub square-within : (z c n : ℕ) → c < n → z * c + z ≤ z * n
square-within z c n h = omega (arith, mul-le-mul_left z h)

-- for a macroblock in column c
unfoldable pub Wide : Grid → (c : ℕ) → Type 0
Wide g c = (q : Plane) → side q * c + side q ≤ stride g q

pub wide : (g : Grid) → StridesHold g → (m : ℕ) → m < macroblocks g → Wide g (grid_column g m)
unfolding StridesHold Wide
wide g ok m hm q = le_trans (square-within (side q) (grid_column g m) g.columns (mod-lt m (factor-positive g.columns g.rows m hm))) (ok q)

-- ---- the row and the column of a tap

pub row-column : (s a b i : ℕ) → b < s → i ≡ a * s + b → (i / s ≡ a) × (i % s ≡ b)
row-column s a b i h e = (ap (λ (k : ℕ). k / s) e ∙ digits_div a h, ap (λ (k : ℕ). k % s) e ∙ digits_mod a h)

-- position j of an edge of the square of z samples at `top`, `left` has a tap here
unfoldable pub Tap : Direction → (z top left j row column : ℕ) → Type 0
Tap vertical z top left j row column = (row ≡ top + j) × (left ≤ column + 4) × (column < left + z)
Tap horizontal z top left j row column = (top ≤ row + 4) × (row < top + z) × (column ≡ left + j)

module _ (z s top left offset h : ℕ) (most : h ≤ 4) (inside : offset + 4 ≤ z) (fits : left + z ≤ s) where
  tap-in : (d : Direction) (j t i : ℕ) → h ≤ lead d top left + offset → j < z → t < h + h
      → i ≡ tap_at d s (first_row d top offset h) (first_column d left offset h) j t → Tap d z top left j (i / s) (i % s)
  unfolding first_row first_column Tap
  tap-in vertical j t i back hj q eq = let (er, ec) = row-column s (top + j) (left + offset - h + t) i (omega arith) eq in omega arith
  tap-in horizontal j t i back hj q eq = let (er, ec) = row-column s (top + offset - h + t) (left + j) i (omega arith) eq in omega arith

-- an inner tap is near the square
inner-near : (z s top left offset h : ℕ) → h ≤ 4 → offset + 4 ≤ z → (d : Direction) (j t i : ℕ) → h ≤ lead d top left + offset → j < z → 1 ≤ t → t + 1 < h + h
    → i ≡ tap_at d s (first_row d top offset h) (first_column d left offset h) j t → Stands s i (Near z top left)
unfolding first_row first_column Near Box
inner-near z s top left offset h most inside vertical j t i back hj p q eq =
    record { row = top + j; column = left + offset - h + t; at = eq; there = inl (omega arith) }
inner-near z s top left offset h most inside horizontal j t i back hj p q eq =
    record { row = top + offset - h + t; column = left + j; at = eq; there = inr (omega arith) }

-- two positions of an edge share no tap (RFC 6386, section 15.1, lines 4807 and 4808)
pub positions-apart : (d : Direction) (z top left j j' row column : ℕ) → Tap d z top left j row column → Tap d z top left j' row column → j ≡ j'
unfolding Tap
positions-apart vertical z top left j j' row column t t' = omega arith
positions-apart horizontal z top left j j' row column t t' = omega arith

-- ---- an edge that its macroblock has: it lies in the square, and its taps in the grid

pub record Fits (r c : ℕ) (e : Edge) : Type 0 where
  pub inside : e.offset + 4 ≤ side e.on
  pub back : half e.kernel ≤ lead e.direction (side e.on * r) (side e.on * c) + e.offset

module _ (g : Grid) (r c : ℕ) (e : Edge) (f : Fits r c e) (w : side e.on * c + side e.on ≤ stride g e.on) where
  pub edge-tap : (j t : ℕ) → j < side e.on → t < taps e.kernel
      → Tap e.direction (side e.on) (side e.on * r) (side e.on * c) j (edge_tap g r c e j t / stride g e.on) (edge_tap g r c e j t % stride g e.on)
  unfolding edge_tap taps
  edge-tap j t hj q =
      tap-in (side e.on) (stride g e.on) (side e.on * r) (side e.on * c) e.offset (half e.kernel) (half-most e.kernel) f.inside w
      e.direction j t (edge_tap g r c e j t) f.back hj q refl

-- where an inner tap stands
pub edge-near : (g : Grid) (r c : ℕ) (e : Edge) → Fits r c e → (j t i : ℕ) → j < side e.on → 1 ≤ t → t + 1 < taps e.kernel → i ≡ edge_tap g r c e j t
    → Stands (stride g e.on) i (Near (side e.on) (side e.on * r) (side e.on * c))
unfolding edge_tap taps
edge-near g r c e f j t i hj p q eq =
    inner-near (side e.on) (stride g e.on) (side e.on * r) (side e.on * c) e.offset (half e.kernel) (half-most e.kernel) f.inside
    e.direction j t i f.back hj p q eq

-- a place that lies in its square
unfoldable pub InSquare : Place → Type 0
InSquare (border q d) = Unit {0}
InSquare (within q d offset) = (4 ≤ offset) × (offset + 4 ≤ side q)

within-square : (q : Plane) (d : Direction) (offset : ℕ) → T (leb 4 offset) → T (leb (offset + 4) (side q)) → InSquare (within q d offset)
unfolding InSquare
within-square q d offset a b = (leb→le 4 offset a, leb→le (offset + 4) (side q) b)

borders-in : (d : Direction) → All InSquare (borders d)
unfolding InSquare borders
borders-in d = tt & tt & tt & none

insides_in : (d : Direction) → All InSquare (insides d)
unfolding insides
insides_in d =
    within-square luma d 4 tt tt & within-square luma d 8 tt tt & within-square luma d 12 tt tt
    & within-square chroma_u d 4 tt tt & within-square chroma_v d 4 tt tt & none

pub places-in : (d : Direction) → All InSquare (borders d ++ insides d)
places-in d = all_append (borders-in d) (insides_in d)

border-fits : (q : Plane) (d : Direction) (k : Kernel) (r c : ℕ) → 1 ≤ lead d r c → Fits r c (record { on = q; direction = d; offset = 0; kernel = k })
border-fits q vertical k r c p =
    record { inside = omega (arith, side-least q); back = omega (arith, half-most k, side-least q, mul-le-mul_left (side q) p) }
border-fits q horizontal k r c p =
    record { inside = omega (arith, side-least q); back = omega (arith, half-most k, side-least q, mul-le-mul_left (side q) p) }

edge-fits : (plan : Plan) (r c : ℕ) (q : Place) → InSquare q → All (Fits r c) (edge_at plan r c q)
unfolding edge_at InSquare
edge-fits leave r c q ok = none
edge-fits (filter chroma outer inner inside) r c (border q d) ok =
    all-only (ltb 0 (lead d r c)) (λ t. all-only (filtered chroma q) (λ _. border-fits q d outer r c (ltb→lt 0 (lead d r c) t) & none))
edge-fits (filter chroma outer inner inside) r c (within q d offset) ok =
    let m = half-most inner in
    let f : Fits r c (record { on = q; direction = d; offset = offset; kernel = inner }) = record { inside = ok.1; back = omega arith } in
    all-only inside (λ _. all-only (filtered chroma q) (λ _. f & none))

pub edges-fit-at : (plan : Plan) (r c : ℕ) (qs : List Place) → All InSquare qs → All (Fits r c) (edges_at plan r c qs)
unfolding edges_at
edges-fit-at plan r c [] none = none
edges-fit-at plan r c (q ∷ qs) (p & ps) = all_append (edge-fits plan r c q p) (edges-fit-at plan r c qs ps)

-- every edge that a macroblock has fits it
pub edges_fit : (plan : Plan) (r c : ℕ) → All (Fits r c) (edges_at plan r c places)
unfolding places
edges_fit plan r c = edges-fit-at plan r c places (all_append (places-in vertical) (places-in horizontal))
