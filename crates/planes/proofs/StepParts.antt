-- A macroblock's step in parts.
use mathlib.Core.Path.{◌≡◌, refl, sym, ap, ◌∙◌}
use mathlib.Core.List.{List, [], ◌∷◌, ◌++◌, append_assoc}
use Prim.Native.Nat.{ℕ}
use Rattle.kernels.specs.Segment.{Kernel}
use Rattle.planes.specs.Planes.{Plane, Planes, Grid, grid_row, grid_column}
use Rattle.planes.specs.Edges.{Direction, Edge, Place, places}
use Rattle.planes.specs.Macroblock.{Plan, leave, edge_at, edges_at, filter_edges, filter_macroblock}

pub edges_at-append : (plan : Plan) (r c : ℕ) (front back : List Place) → edges_at plan r c (front ++ back) ≡ edges_at plan r c front ++ edges_at plan r c back
unfolding edges_at
edges_at-append plan r c [] back = refl
edges_at-append plan r c (q ∷ qs) back =
    ap (λ (l : List Edge). edge_at plan r c q ++ l) (edges_at-append plan r c qs back) ∙ sym (append_assoc (edge_at plan r c q) (edges_at plan r c qs) (edges_at plan r c back))

-- the edges at some places
unfoldable pub filter_at : Grid → Plan → (r c : ℕ) → List Place → Planes → Planes
filter_at g plan r c qs = filter_edges g r c (edges_at plan r c qs)

pub macroblock-parts : (g : Grid) (plan : ℕ → Plan) (m : ℕ) (p : Planes) → filter_macroblock g plan m p ≡ filter_at g (plan m) (grid_row g m) (grid_column g m) places p
unfolding filter_macroblock filter_at
macroblock-parts g plan m p = refl

-- ---- edges

abbrev pub edge_of : Plane → Direction → (offset : ℕ) → Kernel → Edge
edge_of q d offset k = record { on = q; direction = d; offset = offset; kernel = k }

-- level 0
pub leave-at : (g : Grid) (r c : ℕ) (qs : List Place) (p : Planes) → filter_at g leave r c qs p ≡ p
unfolding filter_at edges_at edge_at filter_edges
leave-at g r c [] p = refl
leave-at g r c (q ∷ qs) p = leave-at g r c qs p
