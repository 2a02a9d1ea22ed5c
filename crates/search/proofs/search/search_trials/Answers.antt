use Rattle.std.proofs.Common.{refl, arith}
use Rattle.planes.proofs.Loans.{own_loans, loans_on}
use Rattle.scratch.proofs.AlikeLaws.{alike_self, alike_then}
use Rattle.search.specs.Search.{score, planes_of_candidate}
use Rattle.search.proofs.TrialLaws.{trials-none, trials-more, count-more}
use Rattle.search.proofs.search.search_trials.Goals as goal

pub loop-i-init : goal.loop-i-init
loop-i-init g c = (omega arith, own_loans _, trials-none _ _ _, omega (arith, c.requires.count_value), alike_self _ _)

pub loop-i-preserved : goal.loop-i-preserved
unfolding score planes_of_candidate
loop-i-preserved g c =
    let i = c.loop-i.invariant in
    let t = c.try_candidate-next.ensures in (
      omega (arith, c.loop-i-test.true),
      loans_on _ _ _ i.1 t.loans,
      trials-more _ _ _ _ _ _ _ _ _ refl i.2 c.next_trial-trial.ensures t.tried.best c.note_winner-best.ensures,
      count-more _ 0 _ _ _ _ _ _ refl i.3 t.tried.best c.note_winner-best.ensures,
      alike_then _ _ _ _ i.4 t.tried.scratch,
    )
