use mathlib.Core.Path.{sym, ◌∙◌}
use mathlib.Core.Bool.{true}
use Rattle.edges.proofs.TapNumbers as N
use Rattle.edges.specs.Private.Runs.{widened}
use Rattle.edges.proofs.TapPositions.{mb-taps}
use Rattle.edges.proofs.normal.MacroblockEdgeNormalEdge.on_taps.Goals as goal

pub widened-requires-clause-w_bound : goal.widened-requires-clause-w_bound
widened-requires-clause-w_bound c = N.within (N.chosen true c.args.taps.near c.normal_passes-yes.ensures c.tap_value.ensures c.pick-w.ensures)

pub returns : goal.returns
returns c =
    let moved = N.chosen true c.args.taps.near c.normal_passes-yes.ensures c.tap_value.ensures c.pick-w.ensures in
    c.widened.ensures
    ∙ (λ i. widened (c.high_variance-high.ensures i) (moved.val i) c.args.taps)
    ∙ sym (mb-taps c.args.edge.threshold c.args.edge.interior c.args.edge.limit c.args.taps c.requires)
