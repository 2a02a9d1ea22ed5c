use Rattle.std.proofs.Common.{◌<◌, arith, w64, of_z, rules}
use Rattle.arithmetic.proofs.Ranges as R
use Rattle.kernels.specs.declared.taps.Near.{Near}
use Rattle.kernels.specs.Private.Taps.{step_of, sum_of}
use Rattle.kernels.proofs.Plain.{step_in, sum-in}
use Rattle.kernels.proofs.MovedTaps.{holds}
use Rattle.kernels.proofs.tries.try_low.Goals as goal

pub six-requires : goal.six-requires
six-requires g c =
    let w : Near = c.args.w.near in
    let p1 : w.p1 < 256 = search rules in
    let p0 : w.p0 < 256 = search rules in
    let q0 : w.q0 < 256 = search rules in
    let q1 : w.q1 < 256 = search rules in
    let value : R.Is w64 (of_z w64 c.sum.result) (sum_of w) 2048 = R.got c.sum.type_inv c.sum.ensures (sum-in w p1 p0 q0 q1) in
    holds value (omega arith)

pub four-requires : goal.four-requires
four-requires g c =
    let w : Near = c.args.w.near in
    let p0 : w.p0 < 256 = search rules in
    let q0 : w.q0 < 256 = search rules in
    let value : R.Is w64 (of_z w64 c.step.result) (step_of w) 1536 = R.got c.step.type_inv c.step.ensures (step_in w p0 q0) in
    holds value (omega arith)
