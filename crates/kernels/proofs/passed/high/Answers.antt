use Rattle.kernels.proofs.Cuts.{was-stored}
use Rattle.kernels.proofs.Filtered.{of-answer}
use Rattle.kernels.proofs.Decided.{high-plain}
use Rattle.kernels.proofs.passed.high.Goals as goal

pub returns-then-try_high : goal.returns-then-try_high
returns-then-try_high g c =
    let x = c.args in
    let r = c.try_high.ensures in
    of-answer c.if-try_high.true (high-plain _ x.window.now x.w x.s c.requires.window c.requires.beyond c.requires.within (r.told c.if-try_high.true) _ (was-stored c.try_high.result _ _ r.bytes c.if-try_high.true))
