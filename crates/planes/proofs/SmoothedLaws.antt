-- How many positions of a macroblock can be smoothed, and where none is.
use mathlib.Core.Path.{◌≡◌, refl, ap, ◌∙◌}
use mathlib.Core.Bool.{Bool, true, false}
use mathlib.Core.List.{List, [], ◌∷◌, ◌++◌}
use Prim.Native.Nat.{ℕ, ◌+◌, ◌≤◌}
use native.Mathlib.Omega.{arith}
use Rattle.kernels.specs.Segment.{segment, passes_at, mark}
use Rattle.kernels.proofs.SegmentLaws.{mark-most}
use Rattle.planes.specs.Planes.{Planes, Grid, side, plane, on_plane, grid_row, grid_column}
use Rattle.planes.specs.Edges.{Edge, edge_tap, filter_edge, Place, border, within, borders, insides, places}
use Rattle.planes.specs.Macroblock.{Plan, leave, filter, filtered, lead, only, edge_at, edges_at}
use Rattle.planes.specs.Smoothed.{edge_smoothed, edges_smoothed, macroblock_smoothed}
use Rattle.planes.proofs.Tally.{tally-most}
use lib.Dec.{ltb}

pub edge-most : (g : Grid) (r c : ℕ) (e : Edge) (l : List ℕ) → edge_smoothed g r c e l ≤ side e.on
unfolding edge_smoothed
edge-most g r c e l =
    omega (arith, tally-most (λ j. segment e.kernel (edge_tap g r c e j)) (λ j l'. mark (passes_at e.kernel (edge_tap g r c e j) l')) 1 (λ j l'. mark-most (passes_at e.kernel (edge_tap g r c e j) l')) 0 (side e.on) l)

-- how long the edges are
positions : List Edge → ℕ
positions [] = 0
positions (e ∷ es) = side e.on + positions es

edges_most : (g : Grid) (r c : ℕ) (es : List Edge) (p : Planes) → edges_smoothed g r c es p ≤ positions es
unfolding edges_smoothed positions
edges_most g r c [] p = omega arith
edges_most g r c (e ∷ es) p = omega (arith, edge-most g r c e (plane e.on p), edges_most g r c es (on_plane e.on (filter_edge g r c e) p))

place_side : Place → ℕ
place_side (border q d) = side q
place_side (within q d offset) = side q

sides : List Place → ℕ
sides [] = 0
sides (q ∷ qs) = place_side q + sides qs

positions-append : (es fs : List Edge) → positions (es ++ fs) ≡ positions es + positions fs
unfolding positions
positions-append [] fs = omega arith
positions-append (e ∷ es) fs = omega (arith, positions-append es fs)

only-most : (b : Bool) (es : List Edge) → positions (only b es) ≤ positions es
unfolding only positions
only-most true es = omega arith
only-most false es = omega arith

place-most : (plan : Plan) (r c : ℕ) (q : Place) → positions (edge_at plan r c q) ≤ place_side q
unfolding edge_at positions place_side
place-most leave r c q = omega arith
place-most (filter chroma outer inner inside) r c (border q d) =
    let e : List Edge = record { on = q; direction = d; offset = 0; kernel = outer } ∷ [] in
    omega (arith, only-most (ltb 0 (lead d r c)) (only (filtered chroma q) e), only-most (filtered chroma q) e)
place-most (filter chroma outer inner inside) r c (within q d offset) =
    let e : List Edge = record { on = q; direction = d; offset = offset; kernel = inner } ∷ [] in
    omega (arith, only-most inside (only (filtered chroma q) e), only-most (filtered chroma q) e)

places-most : (plan : Plan) (r c : ℕ) (qs : List Place) → positions (edges_at plan r c qs) ≤ sides qs
unfolding edges_at positions sides
places-most plan r c [] = omega arith
places-most plan r c (q ∷ qs) = omega (arith, positions-append (edge_at plan r c q) (edges_at plan r c qs), place-most plan r c q, places-most plan r c qs)

-- 128 of luma, 32 of each chroma plane
pub macroblock-most : (g : Grid) (plan : ℕ → Plan) (m : ℕ) (p : Planes) → macroblock_smoothed g plan m p ≤ 192
unfolding macroblock_smoothed places borders insides sides place_side
macroblock-most g plan m p =
    omega (arith, edges_most g (grid_row g m) (grid_column g m) (edges_at (plan m) (grid_row g m) (grid_column g m) places) p, places-most (plan m) (grid_row g m) (grid_column g m) places)

-- level 0
none-at : (g : Grid) (r c : ℕ) (qs : List Place) (p : Planes) → edges_smoothed g r c (edges_at leave r c qs) p ≡ 0
unfolding edges_at edge_at edges_smoothed
none-at g r c [] p = refl
none-at g r c (q ∷ qs) p = none-at g r c qs p

pub left-smoothed : (g : Grid) (plan : ℕ → Plan) (m : ℕ) (p : Planes) → plan m ≡ leave → macroblock_smoothed g plan m p ≡ 0
unfolding macroblock_smoothed
left-smoothed g plan m p e =
    ap (λ (x : Plan). edges_smoothed g (grid_row g m) (grid_column g m) (edges_at x (grid_row g m) (grid_column g m) places) p) e
    ∙ none-at g (grid_row g m) (grid_column g m) places p

-- a step's count depends on its own plan
pub same-smoothed : (g : Grid) (plan plan' : ℕ → Plan) (m : ℕ) (p : Planes) → plan m ≡ plan' m → macroblock_smoothed g plan m p ≡ macroblock_smoothed g plan' m p
unfolding macroblock_smoothed
same-smoothed g plan plan' m p e = ap (λ (x : Plan). edges_smoothed g (grid_row g m) (grid_column g m) (edges_at x (grid_row g m) (grid_column g m) places) p) e
