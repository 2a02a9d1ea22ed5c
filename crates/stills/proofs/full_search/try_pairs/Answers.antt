use Rattle.std.proofs.Common.{refl, ◌∙◌, arith}
use Rattle.planes.proofs.Loans.{loans_on}
use Rattle.scratch.proofs.AlikeLaws.{alike-copy, alike_then}
use Rattle.search.specs.Search.{score, planes_of_candidate}
use Rattle.stills.proofs.Pairs.{pairs-more, pairs_end}
use Rattle.stills.proofs.full_search.try_pairs.Goals as goal

pub loop-i-preserved : goal.loop-i-preserved
unfolding score planes_of_candidate
loop-i-preserved g c =
    let i = c.loop-i.invariant in
    let t = c.try_pair-best.ensures in (
      omega (arith, c.loop-i-test.true),
      loans_on _ _ _ i.1 t.loans,
      pairs-more _ _ _ _ _ _ refl i.2 t.tried.best,
      alike_then _ _ _ _ i.3 (alike-copy _ _ _ _ (i.3.same ∙ c.requires.ready.scratch) t.tried.scratch),
    )

pub returns-clause-tried : goal.returns-clause-tried
returns-clause-tried g c =
    let i = c.loop-i.invariant in
    record { best = pairs_end _ _ _ _ i.2 (omega (arith, i.0, c.loop-i-test.false)); scratch = i.3 }
