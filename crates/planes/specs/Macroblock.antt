-- The step of one macroblock (RFC 6386, section 15.1, lines 4750 to 4794).
use Rattle.std.specs.Prelude.{Bool, true, false, List, [], ◌∷◌, ◌++◌, ℕ, ltb}
use Rattle.kernels.specs.Segment.{Kernel}
use Rattle.planes.specs.Planes.{Plane, luma, chroma_u, chroma_v, Planes, Grid, on_plane, grid_row, grid_column}
use Rattle.planes.specs.Edges.{Direction, vertical, horizontal, Edge, filter_edge, Place, border, within, places}

-- What the settings and a macroblock's entry ask for. At level 0 it is left alone (section 15, lines 4690 to 4693).
-- Else: whether chroma is filtered as well as luma (the simple filter takes luma alone: section 15.2, lines 4839 and 4840), the kernels at its borders and within, and whether the edges within are filtered (lines 4785 to 4794).
pub data Plan : Type 0 where
  leave : Plan
  filter : (chroma : Bool) (outer inner : Kernel) (inside : Bool) → Plan

abbrev pub filtered : (chroma : Bool) → Plane → Bool
filtered chroma luma = true
filtered chroma chroma_u = chroma
filtered chroma chroma_v = chroma

-- how far a macroblock lies from the grid's left border, for vertical edges, or from its upper border, for horizontal ones
abbrev pub lead : Direction → (row column : ℕ) → ℕ
lead vertical row column = column
lead horizontal row column = row

-- the list, if the test passes
unfoldable pub only : {A : Type 0} → Bool → List A → List A
only true l = l
only false l = []

-- The edge that is filtered at a place, or none, for the macroblock in row r, column c.
-- Its left border is an edge unless it is in the leftmost column, its upper one unless it is in the topmost row (steps 1 and 3).
unfoldable pub edge_at : Plan → (r c : ℕ) → Place → List Edge
edge_at leave r c place = []
edge_at (filter chroma outer inner inside) r c (border q d) =
    only (ltb 0 (lead d r c)) (only (filtered chroma q) (record { on = q; direction = d; offset = 0; kernel = outer } ∷ []))
edge_at (filter chroma outer inner inside) r c (within q d offset) =
    only inside (only (filtered chroma q) (record { on = q; direction = d; offset = offset; kernel = inner } ∷ []))

unfoldable pub edges_at : Plan → (r c : ℕ) → List Place → List Edge
edges_at plan r c [] = []
edges_at plan r c (place ∷ rest) = edge_at plan r c place ++ edges_at plan r c rest

-- edge after edge: a later one meets what an earlier one stored (lines 4804 to 4806)
unfoldable pub filter_edges : Grid → (r c : ℕ) → List Edge → Planes → Planes
filter_edges g r c [] p = p
filter_edges g r c (e ∷ es) p = filter_edges g r c es (on_plane e.on (filter_edge g r c e) p)

-- the step of macroblock m: document 01's step
unfoldable pub filter_macroblock : Grid → (plan : ℕ → Plan) → (m : ℕ) → Planes → Planes
filter_macroblock g plan m = filter_edges g (grid_row g m) (grid_column g m) (edges_at (plan m) (grid_row g m) (grid_column g m) places)
