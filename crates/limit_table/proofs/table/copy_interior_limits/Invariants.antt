use mathlib.Core.Path.{◌≡◌}
use Prim.Native.Nat.{◌≤◌}
use lib.ListN.{length}
use Rattle.arithmetic.specs.Tables.{fill}
use Rattle.limit_table.specs.InteriorLimits.{interior_byte}
use Rattle.limit_table.proofs.table.copy_interior_limits.Given as goal

abbrev pub invariant-loop-i : goal.invariant-loop-i
invariant-loop-i l =
    (l.i ≤ l.n) × (l.into ≡ fill l.i interior_byte l.initial.into) × (length l.into ≡ length l.initial.into)
