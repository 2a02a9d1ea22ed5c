use Rattle.std.proofs.Common.{◌≡◌, ◌+◌, ◌≤◌, ◌<◌, ◌^◌}
use Rattle.sums.specs.Sums.{rows_sum}
use Rattle.sums.proofs.sums.plane_sum.Given as goal

abbrev pub invariant-loop-n : goal.invariant-loop-n
invariant-loop-n l = (l.n ≤ l.h) × ((l.sum < 2 ^ 64) × (l.sum ≡ l.start + rows_sum l.a.samples.now l.a.stride l.b.samples.now l.b.stride l.w l.n))
