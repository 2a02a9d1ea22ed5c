use Rattle.std.proofs.Common.{◌≡◌, false, List, ℤ, sym, ap, ◌∙◌, arith, w16, w64, of_z, rules}
use Rattle.arithmetic.proofs.Ranges as R
use Rattle.kernels.specs.declared.taps.Near.{Near}
use Rattle.kernels.specs.Kernels.{wide_value}
use Rattle.kernels.specs.Private.Windows.{stored_cut, softened_four, widened_six, smoothed}
use Rattle.kernels.specs.Private.Moves.{capped, four, six}
use Rattle.kernels.proofs.SignedBytes.{filter-in}
use Rattle.kernels.proofs.MovedTaps.{holds, capped-in, four-cut, six-cut}
use Rattle.kernels.proofs.Windows.{left}
use Rattle.kernels.proofs.whole.smooth.Goals as goal

pub returns-then-not-low_variance : goal.returns-then-not-low_variance
unfolding smoothed
returns-then-not-low_variance g c = c.adjust.ensures.window_after ∙ sym (left _ _ c.low_variance.ensures c.if-not-low_variance.true)

pub six-requires : goal.six-requires
six-requires g c =
    let narrow : R.Is w16 (of_z w16 c.window_value-v.result) _ 128 = R.got c.window_value-v.type_inv c.window_value-v.ensures (filter-in _ _ _ _ _) in
    holds (R.cast {w' = w64} narrow tt) (omega arith)

pub four-requires : goal.four-requires
four-requires g c =
    let value : R.Is w64 (of_z w64 c.capped.result) _ 128 = R.got c.capped.type_inv c.capped.ensures (capped-in false _) in
    holds value (omega arith)

pub returns-then-this-ne0 : goal.returns-then-this-ne0
unfolding smoothed wide_value
returns-then-this-ne0 g c =
    let x = c.args in
    let w : Near = x.w.near in
    let narrow : R.Is w16 (of_z w16 c.window_value-v.result) (wide_value w.p1 w.p0 w.q0 w.q1) 128 = R.got c.window_value-v.type_inv c.window_value-v.ensures (filter-in _ _ _ _ _) in
    let e : c.store_cut.new.window ≡ widened_six x.window.now x.w =
    c.store_cut.ensures ∙ ap (λ (vs : List ℤ). stored_cut 1 vs x.window.now) (c.six.ensures ∙ ap (λ (v : ℤ). six v x.w) (R.cast {w' = w64} narrow tt).val) ∙ six-cut x.w x.window.now in
    search rules

pub returns-else-this-ne0 : goal.returns-else-this-ne0
unfolding smoothed
returns-else-this-ne0 g c =
    let x = c.args in
    let w : Near = x.w.near in
    let value : R.Is w64 (of_z w64 c.capped.result) (capped false w) 128 = R.got c.capped.type_inv c.capped.ensures (capped-in false w) in
    let e : c.store_cut-else-this-ne0.new.window ≡ softened_four x.window.now w =
    c.store_cut-else-this-ne0.ensures ∙ ap (λ (vs : List ℤ). stored_cut 2 vs x.window.now) (c.four.ensures ∙ ap (λ (v : ℤ). four v w) value.val) ∙ four-cut w x.window.now in
    search rules
