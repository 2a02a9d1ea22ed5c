-- The filter value and the adjustment are signed bytes. Assumes nothing.
use Rattle.std.proofs.Common.{ℕ, ◌<◌, Bool, ℤ}
use lib.Signed.{mag}
use Rattle.arithmetic.specs.Numbers.{clamp}
use Rattle.arithmetic.specs.Numbers as numbers
use Rattle.kernels.specs.Kernels.{filter_value, loss_of, adjustment}
use Rattle.arithmetic.proofs.Ranges.{in-shr, clamp-in}

pub filter-in : (o : Bool) (p1 p0 q0 q1 : ℤ) → mag (filter_value o p1 p0 q0 q1) < 128
unfolding filter_value
filter-in o p1 p0 q0 q1 = clamp-in _

pub adjustment-in : (o : Bool) (a b c d : ℕ) → mag (adjustment o a b c d) < 128
unfolding adjustment loss_of numbers.shr
adjustment-in o a b c d = in-shr 8 (clamp _) (clamp-in _)
