-- The numbers of a window without clamps: how large they are.
-- Assumes nothing.
use Rattle.std.proofs.Common.{◌<◌, pos, ◌-ℤ◌}
use lib.Signed.{mag}
use Rattle.kernels.specs.declared.taps.Near.{Near}
use Rattle.kernels.specs.Private.Taps.{step_of, sum_of}
use Rattle.arithmetic.proofs.Ranges.{in-add, in-sub, in-mul}

-- ---- how large

pub step_in : (w : Near) → w.p0 < 256 → w.q0 < 256 → mag (step_of w) < 1536
unfolding step_of
step_in w hp hq = in-mul 3 (pos w.q0 -ℤ pos w.p0) tt (in-sub (pos w.q0) (pos w.p0) hq hp)

pub sum-in : (w : Near) → w.p1 < 256 → w.p0 < 256 → w.q0 < 256 → w.q1 < 256 → mag (sum_of w) < 2048
unfolding sum_of
sum-in w h1 h0 k0 k1 = in-add (step_of w) (pos w.p1 -ℤ pos w.q1) (step_in w h0 k0) (in-sub (pos w.p1) (pos w.q1) h1 k1)
