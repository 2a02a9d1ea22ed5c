use Rattle.scratch.specs.Copies.{copy_rows}
use lib.ListN.{length}
use Prim.Native.Nat.{◌≤◌}
use mathlib.Core.Path.{◌≡◌}
use Rattle.scratch.proofs.copies.copy_rows.Given as goal

abbrev pub invariant-loop-r : goal.invariant-loop-r
invariant-loop-r l =
    (l.r ≤ l.n) × ((l.into ≡ copy_rows l.source l.stride l.w l.r l.initial.into) × (length l.into ≡ length l.initial.into))
