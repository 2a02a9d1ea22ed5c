use Rattle.std.proofs.Common.{◌<◌, w64, of_z, rules}
use Rattle.arithmetic.proofs.Ranges as R
use Rattle.kernels.specs.Private.Taps.{step_of, sum_of}
use Rattle.kernels.proofs.Plain.{step_in}
use Rattle.kernels.specs.declared.taps.Near.{Near}
use Rattle.kernels.proofs.tries.sum.Goals as goal

pub overflow_add-result : goal.overflow_add-result
overflow_add-result c =
    let w : Near = c.args.w in
    let p1 : w.p1 < 256 = search rules in
    let q1 : w.q1 < 256 = search rules in
    let value : R.Is w64 (of_z w64 c.step.result) (step_of w) 1536 = R.got c.step.type_inv c.step.ensures (step_in w (search rules) (search rules)) in
    R.add? value (R.sub (R.sample p1) (R.sample q1) tt) tt

pub returns : goal.returns
unfolding sum_of
returns c =
    let w : Near = c.args.w in
    let p1 : w.p1 < 256 = search rules in
    let q1 : w.q1 < 256 = search rules in
    let value : R.Is w64 (of_z w64 c.step.result) (step_of w) 1536 = R.got c.step.type_inv c.step.ensures (step_in w (search rules) (search rules)) in
    (R.add value (R.sub (R.sample p1) (R.sample q1) tt) tt).val
