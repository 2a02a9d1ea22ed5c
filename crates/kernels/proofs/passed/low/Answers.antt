use Rattle.kernels.proofs.Cuts.{was-stored}
use Rattle.kernels.proofs.Filtered.{of-answer}
use Rattle.kernels.proofs.Decided.{low-plain}
use Rattle.kernels.proofs.passed.low.Goals as goal

pub returns-then-try_low : goal.returns-then-try_low
returns-then-try_low g c =
    let x = c.args in
    let r = c.try_low.ensures in
    of-answer c.if-try_low.true (low-plain _ x.window.now x.w x.s c.requires.window c.requires.low (r.told c.if-try_low.true) _ (was-stored c.try_low.result _ _ r.bytes c.if-try_low.true))
