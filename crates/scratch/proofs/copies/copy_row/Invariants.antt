use Rattle.scratch.specs.Copies.{copy_row}
use lib.ListN.{length}
use Prim.Native.Nat.{◌≤◌}
use mathlib.Core.Path.{◌≡◌}
use Rattle.scratch.proofs.copies.copy_row.Given as goal

abbrev pub invariant-loop-k : goal.invariant-loop-k
invariant-loop-k l =
    (l.k ≤ l.n) × ((l.into ≡ copy_row l.source l.from l.k l.initial.into) × (length l.into ≡ length l.initial.into))
