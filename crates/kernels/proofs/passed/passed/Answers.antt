use Rattle.std.proofs.Common.{sym, ◌∙◌}
use Rattle.kernels.proofs.Filtered.{of-answer}
use Rattle.kernels.proofs.Decided.{outer-far}
use Rattle.kernels.proofs.passed.passed.Goals as goal

pub returns-else-outer_near : goal.returns-else-outer_near
returns-else-outer_near g c =
    let x = c.args in
    of-answer c.if-outer_near.false (outer-far _ x.limits x.window.now _ c.taps_of-w.ensures (sym c.outer_near.ensures ∙ c.if-outer_near.false))
