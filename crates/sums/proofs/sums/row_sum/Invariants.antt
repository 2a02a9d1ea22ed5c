use Rattle.std.proofs.Common.{◌≡◌, ◌*◌, ◌≤◌, length}
use Rattle.sums.specs.Sums.{row_sum}
use Rattle.sums.proofs.sums.row_sum.Given as goal

abbrev pub invariant-loop-x : goal.invariant-loop-x
invariant-loop-x l =
    (length l.yielded ≤ length l.a) × (l.sum ≤ 65025 * length l.yielded) × (l.sum ≡ row_sum l.a 0 l.b 0 (length l.yielded))
