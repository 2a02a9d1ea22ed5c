use Rattle.std.proofs.Common.{sym, refl, ap, ◌∙◌, rules, w32, w64}
use Rattle.arithmetic.specs.Outcome.{gives}
use Rattle.arithmetic.proofs.Ranges as R
use Rattle.kernels.specs.declared.taps.Near.{Near}
use Rattle.kernels.specs.Kernels.{adjustment}
use Rattle.kernels.specs.Segment.{common_adjust, half, taps}
use Rattle.kernels.specs.Private.Windows.{adjusted}
use Rattle.kernels.specs.Private.Taps.{near_of}
use Rattle.kernels.proofs.SignedBytes.{adjustment-in}
use Rattle.kernels.proofs.LentWindows.{first-lent, first-adjust}
use Rattle.kernels.proofs.Windows.{common-window}
use Rattle.kernels.proofs.segments.adjust_first.Goals as goal

pub overflow_cast-result : goal.overflow_cast-result
overflow_cast-result c = R.cast? (R.got {w = w64} c.adjust.type_inv c.adjust.ensures.value (adjustment-in _ _ _ _ _)) tt

pub returns-clause-result_value : goal.returns-clause-result_value
unfolding half taps near_of
returns-clause-result_value c =
    let x = c.args in
    let a = R.cast {w' = w32} (R.got {w = w64} c.adjust.type_inv c.adjust.ensures.value (adjustment-in _ _ _ _ _)) tt in
    ap gives (a.val ∙ ap (λ (w : Near). adjustment x.outer w.p1 w.p0 w.q0 w.q1) c.near_of-taps.ensures) ∙ first-adjust x.outer x.seg.now c.in_ok-window.window.now (search rules) (search rules)

pub returns-clause-seg_after : goal.returns-clause-seg_after
unfolding half taps near_of
returns-clause-seg_after c =
    let x = c.args in
    first-lent (common_adjust x.outer) x.seg.now 4 refl (search rules) c.in_ok-window.window.now (search rules) c.adjust.new.window _
    (c.adjust.ensures.window_after ∙ ap (adjusted 4 x.outer c.in_ok-window.window.now) c.near_of-taps.ensures ∙ sym (common-window c.in_ok-window.window.now x.outer)) (search rules)
