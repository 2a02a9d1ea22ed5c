use mathlib.Core.Path.{◌≡◌}
use Prim.Native.Nat.{◌+◌, ◌*◌, ◌≤◌}
use lib.ListN.{length}
use Rattle.arithmetic.specs.Tables.{fill}
use Rattle.edges.specs.Private.Runs.{row_at}
use Rattle.edges.proofs.horizontal.gather_rows.Given as goal

abbrev pub invariant-loop-k : goal.invariant-loop-k
invariant-loop-k g l =
    (l.k ≤ g.row.M) × (l.rows ≡ fill l.k (λ k. row_at g.row.N (l.place.at + k * l.place.stride) l.plane) l.initial.rows) × (length l.initial.rows ≡ g.row.M)
