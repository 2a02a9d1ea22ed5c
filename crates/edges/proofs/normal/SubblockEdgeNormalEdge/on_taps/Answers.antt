use mathlib.Core.Path.{sym, ap, ◌∙◌}
use mathlib.Core.Bool.{Bool}
use Rattle.edges.proofs.TapNumbers as N
use Rattle.edges.specs.Private.Runs.{softened, high_of, value_of}
use Rattle.edges.proofs.TapPositions.{sub-taps}
use Rattle.edges.proofs.normal.SubblockEdgeNormalEdge.on_taps.Goals as goal

pub softened-requires-clause-a_bound : goal.softened-requires-clause-a_bound
softened-requires-clause-a_bound c = N.within (N.chosen (high_of c.args.edge.threshold c.args.taps.near) c.args.taps.near c.normal_passes-yes.ensures (c.tap_value.ensures ∙ ap (λ (b : Bool). value_of b c.args.taps.near) c.high_variance-high.ensures) c.pick-a.ensures)

pub returns : goal.returns
returns c =
    let moved = N.chosen (high_of c.args.edge.threshold c.args.taps.near) c.args.taps.near c.normal_passes-yes.ensures (c.tap_value.ensures ∙ ap (λ (b : Bool). value_of b c.args.taps.near) c.high_variance-high.ensures) c.pick-a.ensures in
    c.softened.ensures
    ∙ (λ i. softened (c.high_variance-high.ensures i) (moved.val i) c.args.taps)
    ∙ sym (sub-taps c.args.edge.threshold c.args.edge.interior c.args.edge.limit c.args.taps c.requires)
