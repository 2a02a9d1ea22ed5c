-- Which samples an edge and a macroblock's step leave alone.
use mathlib.Core.Path.{◌≡◌, refl, ap, ◌∙◌}
use mathlib.Core.Logic.{inl, inr}
use mathlib.Core.List.{List, [], ◌∷◌}
use Prim.Native.Nat.{ℕ, ◌+◌, ◌*◌, ◌≤◌, ◌<◌}
use native.Mathlib.Nat.{mod-lt, div-lt_iff_lt-mul, mul_comm}
use native.Mathlib.Omega.{arith}
use lib.ListN.{get_or}
use Rattle.kernels.specs.Segment.{taps, segment}
use Rattle.planes.specs.Steps.{Clear}
use Rattle.planes.specs.Planes.{Plane, luma, chroma_u, chroma_v, Planes, Grid, side, stride, plane, on_plane, Sample, sample, macroblocks, grid_row, grid_column}
use Rattle.planes.specs.Edges.{Edge, edge_tap, filter_edge, places}
use Rattle.planes.specs.Macroblock.{Plan, edges_at, filter_edges, filter_macroblock}
use Rattle.planes.specs.Reach.{Stands, Box, Near, Reach, Own, InGrid}
use Rattle.planes.proofs.AllOf.{All, none, ◌&◌}
use Rattle.planes.proofs.Steps.{Local, steps-keep}
use Rattle.kernels.proofs.SegmentLaws.{segment-other}
use Rattle.planes.proofs.Fits.{square-within, factor-positive, Fits, edge-near, edges_fit}

-- ---- an edge

-- position j of the edge writes the index i
unfoldable pub Writes : Grid → (r c : ℕ) → Edge → (j i : ℕ) → Type 0
Writes g r c e j i = (t : ℕ) × (1 ≤ t) × (t + 1 < taps e.kernel) × (i ≡ edge_tap g r c e j t)

pub positions-local : (g : Grid) (r c : ℕ) (e : Edge) (n : ℕ) → Local (λ l i. get_or l i 0) (Writes g r c e) (λ j. segment e.kernel (edge_tap g r c e j)) n
unfolding Local Writes
positions-local g r c e n j l i _ no-tap = segment-other e.kernel (edge_tap g r c e j) l i (λ t p q eq. no-tap (t, p, q, eq))

pub edge_other : (g : Grid) (r c : ℕ) (e : Edge) (l : List ℕ) (i : ℕ) → ((j : ℕ) → j < side e.on → ¬ Writes g r c e j i) → get_or (filter_edge g r c e l) i 0 ≡ get_or l i 0
unfolding filter_edge Clear
edge_other g r c e l i h =
    steps-keep (λ l' i'. get_or l' i' 0) (Writes g r c e) (λ j. segment e.kernel (edge_tap g r c e j)) (side e.on) (positions-local g r c e (side e.on))
    0 (side e.on) l i (omega arith) (λ j a b. h j b)

-- so it writes near its macroblock's square alone
pub edge-local : (g : Grid) (r c : ℕ) (e : Edge) (l : List ℕ) (i : ℕ) → Fits r c e
    → ¬ Stands (stride g e.on) i (Near (side e.on) (side e.on * r) (side e.on * c)) → get_or (filter_edge g r c e l) i 0 ≡ get_or l i 0
unfolding Writes
edge-local g r c e l i f far = edge_other g r c e l i (λ j hj (t, p, q, eq). far (edge-near g r c e f j t i hj p q eq))

-- ---- a macroblock's step

-- A change of one plane leaves a sample alone if it does so wherever R holds, and R holds of the sample's plane.
pub on-other : (q : Plane) (f : List ℕ → List ℕ) (p : Planes) (x : Sample) (R : Plane → Type 0)
    → (R q → get_or (f (plane q p)) x.index 0 ≡ get_or (plane q p) x.index 0) → R x.on → sample (on_plane q f p) x ≡ sample p x
on-other q f p x R h r = go q x.on h r
  where
    go : (q w : Plane) → (R q → get_or (f (plane q p)) x.index 0 ≡ get_or (plane q p) x.index 0) → R w → get_or (plane w (on_plane q f p)) x.index 0 ≡ get_or (plane w p) x.index 0
    go luma luma h r = h r
    go luma chroma_u h r = refl
    go luma chroma_v h r = refl
    go chroma_u luma h r = refl
    go chroma_u chroma_u h r = h r
    go chroma_u chroma_v h r = refl
    go chroma_v luma h r = refl
    go chroma_v chroma_u h r = refl
    go chroma_v chroma_v h r = h r

pub edges-local : (g : Grid) (r c : ℕ) (es : List Edge) → All (Fits r c) es → (p : Planes) (x : Sample)
    → ¬ Stands (stride g x.on) x.index (Near (side x.on) (side x.on * r) (side x.on * c)) → sample (filter_edges g r c es p) x ≡ sample p x
unfolding filter_edges
edges-local g r c [] none p x far = refl
edges-local g r c (e ∷ es) (f & fs) p x far =
    edges-local g r c es fs (on_plane e.on (filter_edge g r c e) p) x far
    ∙ on-other e.on (filter_edge g r c e) p x (λ q. ¬ Stands (stride g q) x.index (Near (side q) (side q * r) (side q * c)))
    (λ far'. edge-local g r c e (plane e.on p) x.index f far') far

-- a sample that macroblock m cannot reach keeps its value in m's step
pub macroblock-local : (g : Grid) (plan : ℕ → Plan) → Local sample (Reach g) (filter_macroblock g plan) (macroblocks g)
unfolding Local Reach filter_macroblock
macroblock-local g plan m p x hm far =
    edges-local g (grid_row g m) (grid_column g m) (edges_at (plan m) (grid_row g m) (grid_column g m) places) (edges_fit (plan m) (grid_row g m) (grid_column g m)) p x far

-- its own plan alone counts
pub same-plan : (g : Grid) (plan plan' : ℕ → Plan) (m : ℕ) (p : Planes) → plan m ≡ plan' m → filter_macroblock g plan m p ≡ filter_macroblock g plan' m p
unfolding filter_macroblock
same-plan g plan plan' m p e = ap (λ (z : Plan). filter_edges g (grid_row g m) (grid_column g m) (edges_at z (grid_row g m) (grid_column g m) places) p) e

-- ---- reach

pub own-reach : (g : Grid) (m : ℕ) (x : Sample) → Own g m x → Reach g m x
unfolding Own Reach Near Box
own-reach g m x o = record { row = o.row; column = o.column; at = o.at; there = inl (omega (arith, o.there)) }

-- what a macroblock can reach lies in the grid
pub reach-in-grid : (g : Grid) (m : ℕ) (x : Sample) → m < macroblocks g → Reach g m x → InGrid g x
unfolding Reach Near Box InGrid
reach-in-grid g m x hm near = record { row = near.row; column = near.column; at = near.at; there = go near.there }
  where
    z : ℕ
    z = side x.on

    low : z * grid_row g m + z ≤ z * g.rows
    low = square-within z (grid_row g m) g.rows ((div-lt_iff_lt-mul (factor-positive g.columns g.rows m hm)).1 (rw mul_comm at hm))

    right : z * grid_column g m + z ≤ z * g.columns
    right = square-within z (grid_column g m) g.columns (mod-lt m (factor-positive g.columns g.rows m hm))

    go : Near z (z * grid_row g m) (z * grid_column g m) near.row near.column → Box 0 (z * g.rows) 0 (z * g.columns) near.row near.column
    go (inl b) = omega (arith, low, right)
    go (inr b) = omega (arith, low, right)
