use Rattle.std.proofs.Common.{◌<◌, rules}
use Rattle.arithmetic.proofs.Ranges as R
use Rattle.kernels.specs.declared.taps.Near.{Near}
use Rattle.kernels.specs.Private.Taps.{step_of}
use Rattle.kernels.proofs.tries.step.Goals as goal

pub returns : goal.returns
unfolding step_of
returns c =
    let w : Near = c.args.w in
    let p0 : w.p0 < 256 = search rules in
    let q0 : w.q0 < 256 = search rules in
    (R.mul 3 (R.sub (R.sample q0) (R.sample p0) tt) tt tt).val
