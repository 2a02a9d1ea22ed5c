use Rattle.std.proofs.Common.{ℤ, ap, ◌∙◌, w16, w64, of_z}
use Rattle.arithmetic.specs.Numbers.{u2s, at_most123}
use Rattle.arithmetic.proofs.Ranges as R
use Rattle.kernels.specs.declared.taps.Near.{Near}
use Rattle.kernels.specs.Kernels.{filter_value}
use Rattle.kernels.specs.Private.Moves.{capped}
use Rattle.kernels.proofs.SignedBytes.{filter-in}
use Rattle.kernels.proofs.whole.capped.Goals as goal

pub returns : goal.returns
unfolding capped
returns c =
    let w : Near = c.args.w in
    let a : ℤ = filter_value c.args.outer (u2s w.p1) (u2s w.p0) (u2s w.q0) (u2s w.q1) in
    let value : R.Is w16 (of_z w16 c.window_value.result) a 128 = R.got c.window_value.type_inv c.window_value.ensures (filter-in _ _ _ _ _) in
    let less : R.Is w16 (of_z w16 c.at_most_123.result) (at_most123 a) 128 = R.got c.at_most_123.type_inv (c.at_most_123.ensures ∙ ap at_most123 value.val) (R.most-in a value.inr) in
    (R.cast {w' = w64} less tt).val
