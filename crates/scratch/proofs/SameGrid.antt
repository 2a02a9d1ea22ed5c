-- A pass reads and writes the grid alone: on planes that share the grid's samples it leaves planes that share them.
use mathlib.Core.Path.{◌≡◌, refl, sym, ap, ◌∙◌}
use mathlib.Core.Logic.{⊎_elim}
use mathlib.Core.Bool.{Bool, true, false}
use mathlib.Core.List.{List, [], ◌∷◌}
use Prim.Native.Nat.{ℕ, suc, ◌+◌, ◌*◌, ◌/◌, ◌%◌, ◌≤◌, ◌<◌}
use native.Mathlib.Nat.{le_refl, mod-lt, div-lt_iff_lt-mul, mul_comm, div-add-mod'}
use native.Mathlib.Omega.{arith}
use lib.Dec.{eqb}
use lib.ListN.{length, get_or, set, length-set}
use lib.Seq.{get_or-set_same, get_or-set_other}
use borrow.Author.Tests.{eqb-true, eqb-false}
use Rattle.kernels.specs.Segment.{Kernel, taps, scatter, segment}
use Rattle.kernels.proofs.SegmentLaws.{stored, segment-is, stored_same, length-stored}
use Rattle.planes.specs.Steps.{steps}
use Rattle.planes.specs.Planes.{Plane, luma, chroma_u, chroma_v, Planes, Grid, side, stride, plane, on_plane, Sample, macroblocks, grid_row, grid_column, StridesHold, PlanesHold}
use Rattle.planes.specs.Edges.{Direction, vertical, horizontal, Edge, edge_tap, filter_edge, places}
use Rattle.planes.specs.Macroblock.{Plan, edges_at, filter_edges, filter_macroblock}
use Rattle.planes.proofs.Divided.{InGridDivided, grid-divides}
use Rattle.planes.proofs.AllOf.{All, none, ◌&◌}
use Rattle.planes.proofs.Steps.{steps-rel}
use Rattle.planes.proofs.Fits.{Fits, Tap, Wide, wide, edge-tap, edges_fit, square-within, factor-positive}
use Rattle.planes.proofs.Final.{outside-keeps}
use Rattle.planes.proofs.Alike.{length-steps}
use Rattle.planes.proofs.PastGrid.{row_in}
use Rattle.scratch.specs.Copies.{copy_grid}
use Rattle.scratch.proofs.CopyLaws.{copied-in, copied-out, copied-length, planes-same, in-or-out}

-- ---- lists

-- both have the indices of D, and the same there
pub record Shares (D : ℕ → Type 0) (l l' : List ℕ) : Type 0 where
  pub same : (i : ℕ) → D i → get_or l i 0 ≡ get_or l' i 0
  pub left : (i : ℕ) → D i → i < length l
  pub right : (i : ℕ) → D i → i < length l'

set-shares : (D : ℕ → Type 0) (l l' : List ℕ) (j v : ℕ) → D j → Shares D l l' → Shares D (set l j v) (set l' j v)
set-shares D l l' j v d s = record {
  same = λ i di. at i di (eqb i j) refl;
  left = λ i di. omega (arith, length-set l j v, s.left i di);
  right = λ i di. omega (arith, length-set l' j v, s.right i di);
}
  where
    at : (i : ℕ) → D i → (t : Bool) → eqb i j ≡ t → get_or (set l j v) i 0 ≡ get_or (set l' j v) i 0
    at i di true e =
        let q : i ≡ j = eqb-true i j e in
        ap (λ (k : ℕ). get_or (set l j v) k 0) q ∙ get_or-set_same l j v 0 (s.left j d)
        ∙ sym (ap (λ (k : ℕ). get_or (set l' j v) k 0) q ∙ get_or-set_same l' j v 0 (s.right j d))
    at i di false e =
        get_or-set_other l j i v 0 (eqb-false i j e) ∙ s.same i di ∙ sym (get_or-set_other l' j i v 0 (eqb-false i j e))

scatter-shares : (D : ℕ → Type 0) (at : ℕ → ℕ) (vs : List ℕ) (t : ℕ) (l l' : List ℕ) → ((k : ℕ) → t ≤ k → k < t + length vs → D (at k))
    → Shares D l l' → Shares D (scatter at t vs l) (scatter at t vs l')
unfolding scatter
scatter-shares D at [] t l l' h s = s
scatter-shares D at (v ∷ vs) t l l' h s =
    scatter-shares D at vs (suc t) (set l (at t) v) (set l' (at t) v) (λ k a b. h k (omega arith) (omega arith))
    (set-shares D l l' (at t) v (h t (le_refl t) (omega arith)) s)

segment-shares : (D : ℕ → Type 0) (k : Kernel) (at : ℕ → ℕ) (l l' : List ℕ) → ((t : ℕ) → t < taps k → D (at t)) → Shares D l l' → Shares D (segment k at l) (segment k at l')
segment-shares D k at l l' h s =
    rw (segment-is k at l, segment-is k at l', stored_same k at at l l' (λ t a. s.same (at t) (h t a)))
    (scatter-shares D at (stored k at l') 1 l l' (λ t a b. h t (omega (arith, length-stored k at l'))) s)

-- ---- planes

abbrev Inside : Grid → Plane → ℕ → Type 0
Inside g q i = InGridDivided g (record { on = q; index = i })

unfoldable pub SameGrid : Grid → Planes → Planes → Type 0
SameGrid g p p' = (q : Plane) → Shares (Inside g q) (plane q p) (plane q p')

on_same : (g : Grid) (q : Plane) (f : List ℕ → List ℕ) (p p' : Planes) → SameGrid g p p' → Shares (Inside g q) (f (plane q p)) (f (plane q p')) → SameGrid g (on_plane q f p) (on_plane q f p')
unfolding SameGrid
on_same g luma f p p' al a luma = a
on_same g luma f p p' al a chroma_u = al chroma_u
on_same g luma f p p' al a chroma_v = al chroma_v
on_same g chroma_u f p p' al a luma = al luma
on_same g chroma_u f p p' al a chroma_u = a
on_same g chroma_u f p p' al a chroma_v = al chroma_v
on_same g chroma_v f p p' al a luma = al luma
on_same g chroma_v f p p' al a chroma_u = al chroma_u
on_same g chroma_v f p p' al a chroma_v = a

-- ---- an edge: its taps lie in the grid

module _ (g : Grid) (r c : ℕ) (low : r < g.rows) (right : c < g.columns) where
  tap-inside : (d : Direction) (q : Plane) (j row column : ℕ) → j < side q → Tap d (side q) (side q * r) (side q * c) j row column
      → (row < side q * g.rows) × (column < side q * g.columns)
  unfolding Tap
  tap-inside vertical q j row column hj t = omega (arith, square-within (side q) r g.rows low, square-within (side q) c g.columns right)
  tap-inside horizontal q j row column hj t = omega (arith, square-within (side q) r g.rows low, square-within (side q) c g.columns right)

  edge-inside : Wide g c → (e : Edge) → Fits r c e → (j : ℕ) → j < side e.on → (t : ℕ) → t < taps e.kernel → Inside g e.on (edge_tap g r c e j t)
  unfolding InGridDivided Wide
  edge-inside w e f j hj t ht =
      tap-inside e.direction e.on j (edge_tap g r c e j t / stride g e.on) (edge_tap g r c e j t % stride g e.on) hj (edge-tap g r c e f (w e.on) j t hj ht)

  edge_same : Wide g c → (e : Edge) → Fits r c e → (l l' : List ℕ) → Shares (Inside g e.on) l l' → Shares (Inside g e.on) (filter_edge g r c e l) (filter_edge g r c e l')
  unfolding filter_edge
  edge_same w e f l l' s =
      steps-rel (Shares (Inside g e.on)) (λ j. segment e.kernel (edge_tap g r c e j)) (λ j. segment e.kernel (edge_tap g r c e j)) (side e.on)
      (λ j b m m' h. segment-shares (Inside g e.on) e.kernel (edge_tap g r c e j) m m' (edge-inside w e f j b) h) 0 (side e.on) (omega arith) l l' s

  edges-same : Wide g c → (es : List Edge) → All (Fits r c) es → (p p' : Planes) → SameGrid g p p' → SameGrid g (filter_edges g r c es p) (filter_edges g r c es p')
  unfolding filter_edges SameGrid
  edges-same w [] none p p' s = s
  edges-same w (e ∷ es) (f & fs) p p' s =
      edges-same w es fs (on_plane e.on (filter_edge g r c e) p) (on_plane e.on (filter_edge g r c e) p')
      (on_same g e.on (filter_edge g r c e) p p' s (edge_same w e f (plane e.on p) (plane e.on p') (s e.on)))

-- ---- macroblocks

module _ (g : Grid) (plan : ℕ → Plan) (ok : StridesHold g) where
  macroblock-same : (m : ℕ) → m < macroblocks g → (p p' : Planes) → SameGrid g p p' → SameGrid g (filter_macroblock g plan m p) (filter_macroblock g plan m p')
  unfolding filter_macroblock
  macroblock-same m hm =
      edges-same g (grid_row g m) (grid_column g m)
      ((div-lt_iff_lt-mul (factor-positive g.columns g.rows m hm)).1 (rw mul_comm at hm))
      (mod-lt m (factor-positive g.columns g.rows m hm))
      (wide g ok m hm) (edges_at (plan m) (grid_row g m) (grid_column g m) places) (edges_fit (plan m) (grid_row g m) (grid_column g m))

  steps-same : (k n : ℕ) → k + n ≤ macroblocks g → (p p' : Planes) → SameGrid g p p' → SameGrid g (steps (filter_macroblock g plan) k n p) (steps (filter_macroblock g plan) k n p')
  steps-same = steps-rel (SameGrid g) (filter_macroblock g plan) (filter_macroblock g plan) (macroblocks g) macroblock-same

  -- a sample of the grid lies in planes that hold it
  inside-length : (p : Planes) → PlanesHold g p → (x : Sample) → InGridDivided g x → x.index < length (plane x.on p)
  unfolding PlanesHold InGridDivided
  inside-length p held x h =
      let q = x.on in
      omega (arith, div-add-mod' x.index (stride g q), row_in (side q * g.columns) (stride g q) (x.index / stride g q) (side q * g.rows) (length (plane q p)) h.0 (held q))

  pub copy-same : (p t : Planes) → PlanesHold g p → PlanesHold g t → SameGrid g (copy_grid g p t) p
  unfolding SameGrid
  copy-same p t hp ht q = record {
    same = λ i h. copied-in g p t ok ht (record { on = q; index = i }) h;
    left = λ i h. omega (arith, copied-length g p t q, inside-length t ht (record { on = q; index = i }) h);
    right = λ i h. inside-length p hp (record { on = q; index = i }) h;
  }

  -- steps on a copy are the copy of the steps
  pub steps-copy : (k n : ℕ) → k + n ≤ macroblocks g → (p t : Planes) → PlanesHold g p → PlanesHold g t
      → steps (filter_macroblock g plan) k n (copy_grid g p t) ≡ copy_grid g (steps (filter_macroblock g plan) k n p) t
  unfolding SameGrid
  steps-copy k n b p t hp ht =
      planes-same (steps (filter_macroblock g plan) k n (copy_grid g p t)) (copy_grid g (steps (filter_macroblock g plan) k n p) t)
      (λ q. length-steps g plan k n (copy_grid g p t) q ∙ copied-length g p t q ∙ sym (copied-length g (steps (filter_macroblock g plan) k n p) t q))
      (λ x. ⊎_elim
      (λ h. (steps-same k n b (copy_grid g p t) p (copy-same p t hp ht) x.on).same x.index h ∙ sym (copied-in g (steps (filter_macroblock g plan) k n p) t ok ht x h))
      (λ h. outside-keeps g plan k n (copy_grid g p t) x b (λ i. h (grid-divides g ok x i)) ∙ copied-out g p t ok x h ∙ sym (copied-out g (steps (filter_macroblock g plan) k n p) t ok x h))
      (in-or-out g x))
