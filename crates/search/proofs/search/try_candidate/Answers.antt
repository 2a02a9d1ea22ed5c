use Rattle.std.proofs.Common.{ap, ◌∙◌}
use Rattle.planes.specs.Layout.{grid_of}
use Rattle.planes.specs.Planes.{Planes}
use Rattle.sums.specs.SourceRecord.{source_in}
use Rattle.sums.specs.Sums.{sum_answer}
use Rattle.scratch.proofs.AlikeLaws.{alike_self, alike-copy}
use Rattle.search.specs.Search.{planes_of_candidate}
use Rattle.search.proofs.Scores.{made, scored-sum, scored-always}
use Rattle.search.proofs.TrialLaws.{tried-skip, tried-take}
use Rattle.search.proofs.search.try_candidate.Goals as goal

pub returns-in_default-clause-tried : goal.returns-in_default-clause-tried
returns-in_default-clause-tried g c = record { best = tried-skip _ _ _ c.in_default.is; scratch = alike_self _ _ }

pub returns-in_default-reconstruction_ssd-clause-tried : goal.returns-in_default-reconstruction_ssd-clause-tried
unfolding planes_of_candidate
returns-in_default-reconstruction_ssd-clause-tried g c =
    absurd (scored-always _ _ c.requires.ready _ _ c.make_candidate.ensures.made _
    (c.reconstruction_ssd.ensures ∙ ap (λ (p : Planes). sum_answer (grid_of c.args.input.«layout») p (source_in c.args.input.«source»)) c.read-made.ensures)
    _ c.in_default-reconstruction_ssd.is)

pub returns-clause-tried : goal.returns-clause-tried
unfolding planes_of_candidate
returns-clause-tried g c =
    let h = c.make_candidate.ensures.made in
    record {
      best =
          tried-take _ _ _ _ _ _ c.in-Some.is
          (scored-sum _ _ c.requires.ready _ _ h _
          (c.reconstruction_ssd.ensures ∙ ap (λ (p : Planes). sum_answer (grid_of c.args.input.«layout») p (source_in c.args.input.«source»)) c.read-made.ensures)
          _ c.in-Ok.is)
          c.take.ensures;
      scratch = alike-copy _ _ _ _ c.requires.ready.scratch (made _ _ c.requires.ready _ _ h);
    }
