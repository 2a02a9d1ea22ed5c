-- How many positions are smoothed: those whose test passes at the moment they are met (RFC 6386, lines 5014 and 5103 to 5117). A position counts even if its numbers come out equal.
use Rattle.std.specs.Prelude.{List, [], ◌∷◌, ℕ, ◌+◌}
use Rattle.kernels.specs.Segment.{segment, passes_at, mark}
use Rattle.planes.specs.Steps.{tally}
use Rattle.planes.specs.Planes.{Planes, Grid, side, plane, on_plane, grid_row, grid_column}
use Rattle.planes.specs.Edges.{Edge, edge_tap, filter_edge, places}
use Rattle.planes.specs.Macroblock.{Plan, edges_at}

-- how many positions of an edge are smoothed: each is tested on the samples as the positions before it left them
unfoldable pub edge_smoothed : Grid → (r c : ℕ) → Edge → List ℕ → ℕ
edge_smoothed g r c e =
    tally (λ j. segment e.kernel (edge_tap g r c e j)) (λ j l. mark (passes_at e.kernel (edge_tap g r c e j) l)) 0 (side e.on)

-- how many positions of a list of edges: each edge on the planes as the edges before it left them, in the order of `filter_edges`
unfoldable pub edges_smoothed : Grid → (r c : ℕ) → List Edge → Planes → ℕ
edges_smoothed g r c [] p = 0
edges_smoothed g r c (e ∷ es) p = edge_smoothed g r c e (plane e.on p) + edges_smoothed g r c es (on_plane e.on (filter_edge g r c e) p)

-- how many positions the step of macroblock m smooths
unfoldable pub macroblock_smoothed : Grid → (plan : ℕ → Plan) → (m : ℕ) → Planes → ℕ
macroblock_smoothed g plan m = edges_smoothed g (grid_row g m) (grid_column g m) (edges_at (plan m) (grid_row g m) (grid_column g m) places)
