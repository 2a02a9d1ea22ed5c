use mathlib.Core.Path.{◌≡◌}
use Prim.Native.Nat.{◌≤◌}
use lib.ListN.{length}
use Rattle.kernels.specs.Segment.{simple_segment}
use Rattle.planes.specs.Edges.{vertical}
use Rattle.edges.specs.EdgeFrom.{edge_from, smoothed_from}
use Rattle.edges.proofs.vertical.simple_rows.Given as goal

abbrev pub invariant-loop-n : goal.invariant-loop-n
invariant-loop-n l =
    (l.n ≤ l.rows) × (l.plane ≡ edge_from vertical (simple_segment l.edge_limit) l.place.stride l.place.at l.n l.initial.plane) × (length l.plane ≡ length l.initial.plane)
    × (l.smoothed ≡ smoothed_from vertical (simple_segment l.edge_limit) l.place.stride l.place.at l.n l.initial.plane)
