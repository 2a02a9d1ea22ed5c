use Rattle.std.proofs.Common.{ap, ◌∙◌}
use Rattle.planes.specs.Layout.{grid_of}
use Rattle.planes.specs.Planes.{Planes}
use Rattle.sums.specs.SourceRecord.{source_in}
use Rattle.sums.specs.Sums.{sum_answer}
use Rattle.search.specs.Search.{planes_of_candidate}
use Rattle.search.proofs.Scores.{made, scored-sum, scored-always}
use Rattle.stills.specs.FullSearch.{pair_at}
use Rattle.stills.proofs.Pairs.{pair-taken}
use Rattle.stills.proofs.full_search.try_pair.Goals as goal

pub returns-in_default-clause-tried : goal.returns-in_default-clause-tried
unfolding planes_of_candidate
returns-in_default-clause-tried g c =
    absurd (scored-always _ _ c.requires.ready _ _ c.make_candidate.ensures.made _
    (c.reconstruction_ssd.ensures ∙ ap (λ (p : Planes). sum_answer (grid_of c.args.input.«layout») p (source_in c.args.input.«source»)) c.read-made.ensures)
    _ c.in_default.is)

pub returns-clause-tried : goal.returns-clause-tried
unfolding pair_at planes_of_candidate
returns-clause-tried g c =
    let h = c.make_candidate.ensures.made in
    record {
      best =
          pair-taken _ _ c.args.i _ _ _ c.take.ensures
          (scored-sum _ _ c.requires.ready _ _ h _
          (c.reconstruction_ssd.ensures ∙ ap (λ (p : Planes). sum_answer (grid_of c.args.input.«layout») p (source_in c.args.input.«source»)) c.read-made.ensures)
          _ c.in-Ok.is);
      scratch = made _ _ c.requires.ready _ _ h;
    }
