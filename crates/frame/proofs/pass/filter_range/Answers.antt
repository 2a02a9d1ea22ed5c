use Rattle.std.proofs.Common.{arith}
use Rattle.planes.specs.Pictures.{planes_lent}
use Rattle.planes.proofs.Loans.{own_loans, loans_on}
use Rattle.frame.proofs.Passes.{no-turn, one-turn, no-count, one-count, few-after, sound_on}
use Rattle.frame.proofs.Soundness.{few-macroblocks}
use Rattle.frame.proofs.pass.filter_range.Goals as goal

pub loop-m-init : goal.loop-m-init
loop-m-init g c =
    let W = g.E.Entries.pass in (
      (omega arith, c.requires.range.ordered),
      own_loans _,
      record { planes = no-turn W _ _ _ c.args.from _; smoothed = no-count W _ _ _ c.args.from _ },
    )

pub filter_macroblock-smoothed-requires-clause-sound : goal.filter_macroblock-smoothed-requires-clause-sound
filter_macroblock-smoothed-requires-clause-sound g c =
    let i = c.loop-m.invariant in
    sound_on g.E.Entries.pass c.args.layout _ _ c.args.from _ _ (planes_lent c.loop-m.picture) (c.requires.range.sound (omega (arith, i.0, c.loop-m-test.true))) i.2.planes

pub overflow_add-smoothed : goal.overflow_add-smoothed
overflow_add-smoothed g c =
    let i = c.loop-m.invariant in
    let few = few-macroblocks _ _ _ _ (c.requires.range.sound (omega (arith, i.0, c.loop-m-test.true))) in
    omega (
      arith,
      few-after g.E.Entries.pass _ _ _ _ _ c.loop-m.m _ _ _ _ i.2.smoothed c.filter_macroblock-smoothed.ensures.stepped.smoothed,
      few,
      c.requires.range.within,
      c.loop-m-test.true,
    )

pub loop-m-preserved : goal.loop-m-preserved
loop-m-preserved g c =
    let W = g.E.Entries.pass in
    let i = c.loop-m.invariant in
    let s = c.filter_macroblock-smoothed.ensures in (
      (omega (arith, i.0), omega (arith, c.loop-m-test.true)),
      loans_on _ _ _ i.1 s.loans,
      record {
        planes = one-turn W _ _ _ _ _ c.loop-m.m _ _ (planes_lent c.filter_macroblock-smoothed.new.picture) i.0.0 c.plan-plan.ensures i.2.planes s.stepped.planes;
        smoothed = one-count W _ _ _ _ _ c.loop-m.m _ _ _ _ i.0.0 c.plan-plan.ensures i.2.planes i.2.smoothed s.stepped.smoothed;
      },
    )
