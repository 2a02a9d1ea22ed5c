use Rattle.std.proofs.Common.{◌-◌, ◌/◌, ap, ◌∙◌, arith, rules}
use Rattle.kernels.specs.Private.Windows.{cut}
use Rattle.kernels.proofs.Stores.{store-none, store-turn}
use Rattle.kernels.proofs.store.store_cut.Goals as goal

pub loop-n-init : goal.loop-n-init
loop-n-init g c = (omega arith, store-none ((g.row.W - g.row.N) / 2) c.args.values c.args.window.now, search rules)

pub loop-n-preserved : goal.loop-n-preserved
loop-n-preserved g c =
    (omega arith, store-turn c.loop-n.n ((g.row.W - g.row.N) / 2) c.args.values _ _ _ (omega (arith, c.loop-n.invariant.2)) c.loop-n.invariant.1 (c.cut.ensures ∙ ap cut (search rules)), c.loop-n.invariant.2)
