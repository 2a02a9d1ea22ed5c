use Rattle.std.proofs.Common.{sym, ◌∙◌}
use Rattle.kernels.proofs.Filtered.{of-answer}
use Rattle.kernels.proofs.Decided.{inner-far}
use Rattle.kernels.proofs.passed.beyond.Goals as goal

pub returns-else-inner_near : goal.returns-else-inner_near
returns-else-inner_near g c =
    let x = c.args in
    of-answer c.if-inner_near.false (inner-far _ x.window.now x.w x.s c.requires.window (sym c.inner_near.ensures ∙ c.if-inner_near.false))
