use native.Mathlib.Omega.{arith}
use Rattle.planes.proofs.PastGrid.{macroblocks-most}
use Rattle.scratch.proofs.CopyLaws.{both-pass}
use Rattle.search.proofs.CandidateLaws.{copy_refused, copy_done, candidate-none, candidate-zero, candidate-pass}
use Rattle.search.proofs.candidates.make_candidate.Goals as goal

pub returns-in_default-clause-made : goal.returns-in_default-clause-made
returns-in_default-clause-made g c =
    candidate-none _ _ _ _ _ _ _ (copy_refused _ _ c.try_copy_grid.ensures.number c.in_default.not-Ok) _ c.try_copy_grid.ensures.copied

pub returns-then-pair-eq0-clause-made : goal.returns-then-pair-eq0-clause-made
returns-then-pair-eq0-clause-made g c =
    let (p, t) = both-pass _ _ _ (copy_done _ _ c.try_copy_grid.ensures.number _ c.in-Ok.is) in
    candidate-zero _ _ _ _ _ _ _ p t _ c.if-pair-eq0.true c.try_copy_grid.ensures.copied

pub returns-clause-made : goal.returns-clause-made
returns-clause-made g c =
    let (p, t) = both-pass _ _ _ (copy_done _ _ c.try_copy_grid.ensures.number _ c.in-Ok.is) in
    candidate-pass _ _ _ _ _ _ _ p t _ _ _ _ c.if-pair-eq0.false (omega (arith, macroblocks-most _ _ p))
    c.try_copy_grid.ensures.copied c.settings_at-config.ensures c.filter_frame.ensures.passed.filtered
