use mathlib.Core.Path.{◌≡◌}
use Prim.Native.Nat.{◌+◌, ◌≤◌}
use lib.ListN.{length}
use Rattle.planes.specs.Edges.{vertical}
use Rattle.edges.specs.EdgeFrom.{edge_from, smoothed_from}
use Rattle.edges.proofs.vertical.normal_rows.Given as goal

abbrev pub invariant-loop-n : goal.invariant-loop-n
invariant-loop-n g l =
    (l.n ≤ l.rows) × (l.plane ≡ edge_from vertical (g.E.NormalEdge.kernel l.edge.threshold l.edge.interior l.edge.limit) l.place.stride l.place.at l.n l.initial.plane) × (length l.plane ≡ length l.initial.plane)
    × (l.missed + smoothed_from vertical (g.E.NormalEdge.kernel l.edge.threshold l.edge.interior l.edge.limit) l.place.stride l.place.at l.n l.initial.plane ≡ l.n)
