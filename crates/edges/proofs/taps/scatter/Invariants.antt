use mathlib.Core.Path.{◌≡◌}
use Prim.Native.Nat.{◌≤◌}
use lib.ListN.{length}
use Rattle.edges.specs.Private.Runs.{store_row}
use Rattle.edges.proofs.taps.scatter.Given as goal

abbrev pub invariant-loop-n : goal.invariant-loop-n
invariant-loop-n g l =
    (l.n ≤ g.row.N) × (l.plane ≡ store_row l.n l.at l.row l.initial.plane) × (length l.plane ≡ length l.initial.plane)
