use mathlib.Core.Path.{◌≡◌}
use Prim.Native.Nat.{◌-◌, ◌≤◌}
use lib.ListN.{length}
use Rattle.edges.specs.Private.Runs.{store_rows}
use Rattle.edges.proofs.horizontal.scatter_rows.Given as goal

abbrev pub invariant-loop-k : goal.invariant-loop-k
invariant-loop-k g l =
    (l.first ≤ l.k) × (l.k ≤ l.end) × (l.plane ≡ store_rows g.row.N l.place.stride l.place.at l.first (l.k - l.first) l.rows l.initial.plane) × (length l.plane ≡ length l.initial.plane)
