use Rattle.search.specs.Search.{planes_of_candidate}
use Rattle.stills.proofs.Pairs.{pairs-none, ended}
use Rattle.stills.proofs.full_search.find_best.Goals as goal

pub try_pairs-best-requires-clause-starts : goal.try_pairs-best-requires-clause-starts
try_pairs-best-requires-clause-starts g c =
    pairs-none _ _ _ _ c.base_sharpness-base.ensures c.requires.sum_value

pub returns-clause-ended : goal.returns-clause-ended
unfolding planes_of_candidate
returns-clause-ended g c =
    ended _ _ _ _ _ c.requires.ready c.try_pairs-best.ensures.tried c.make_candidate.ensures.made
