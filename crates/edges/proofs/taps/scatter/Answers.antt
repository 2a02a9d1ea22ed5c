use mathlib.Core.Path.{refl, ap, ◌∙◌}
use native.Mathlib.Omega.{arith}
use lib.ListN.{get_or, length-set}
use lib.IntN.{pos}
use Rattle.edges.proofs.TapNumbers as N
use Rattle.arithmetic.specs.Numbers.{s2u}
use Rattle.edges.specs.Private.Runs.{SignedRow}
use Rattle.edges.proofs.RowStores.{store-none, store-turn}
use Rattle.edges.proofs.taps.scatter.Goals as goal

pub loop-n-init : goal.loop-n-init
loop-n-init g c = (omega arith, store-none _ _ _, refl)

pub s2u16-requires : goal.s2u16-requires
unfolding SignedRow
s2u16-requires g c = N.stays (get_or c.args.row c.loop-n.n (pos 0)) (c.requires.signed_row c.loop-n.n (omega arith))

pub loop-n-preserved : goal.loop-n-preserved
unfolding SignedRow
loop-n-preserved g c =
    (omega arith, store-turn c.loop-n.n c.args.at c.args.row c.args.plane.now _ _ c.loop-n.invariant.1 (c.s2u16.ensures ∙ ap s2u (N.back (get_or c.args.row c.loop-n.n (pos 0)) (c.requires.signed_row c.loop-n.n (omega arith)))), simp length-set c.loop-n.invariant.2)
