use Rattle.search.specs.Search.{planes_of_candidate}
use Rattle.search.proofs.Endings.{ended}
use Rattle.search.proofs.search.search_all.Goals as goal

pub returns-clause-ended : goal.returns-clause-ended
unfolding planes_of_candidate
returns-clause-ended g c =
    let h = c.search_trials-best.ensures.tried in
    ended _ _ _ _ _ c.base_sharpness-base.ensures c.requires.sum_value h.best _ _ c.requires.ready h.scratch c.make_candidate.ensures.made
