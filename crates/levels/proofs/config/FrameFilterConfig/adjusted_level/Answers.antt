use Rattle.std.proofs.Common.{sym, ◌∙◌, arith}
use Rattle.std.proofs.lemmas.Int.{ints}
use Rattle.levels.proofs.Levels.{with-deltas}
use Rattle.levels.proofs.config.FrameFilterConfig.adjusted_level.Goals as goal

pub returns-then-self : goal.returns-then-self
returns-then-self c =
    let x = c.args in
    let p = x.prediction in
    omega (arith, ints) ∙ sym (with-deltas x.self x.segment p.reference p.inter_mode p.mode c.if-self.true)
