use mathlib.Core.Path.{sym, ◌∙◌}
use mathlib.Core.Bool.{true}
use Rattle.edges.proofs.TapNumbers as N
use Rattle.edges.proofs.TapPositions.{simple-taps}
use Rattle.edges.proofs.position.simple_position.Goals as goal

pub gain-requires : goal.gain-requires
gain-requires c =
    let moved = N.chosen true c.args.taps c.simple_passes.ensures c.tap_value.ensures c.pick-a.ensures in
    N.within moved

pub raised-requires-clause-a_bound : goal.raised-requires-clause-a_bound
raised-requires-clause-a_bound c =
    let moved = N.chosen true c.args.taps c.simple_passes.ensures c.tap_value.ensures c.pick-a.ensures in
    let up = N.gain-given moved c.gain.ensures in
    N.within-256 up tt

pub loss-requires : goal.loss-requires
loss-requires c =
    let moved = N.chosen true c.args.taps c.simple_passes.ensures c.tap_value.ensures c.pick-a.ensures in
    N.within moved

pub lowered-requires-clause-a_bound : goal.lowered-requires-clause-a_bound
lowered-requires-clause-a_bound c =
    let moved = N.chosen true c.args.taps c.simple_passes.ensures c.tap_value.ensures c.pick-a.ensures in
    let down = N.loss-given moved c.loss.ensures in
    N.within-256 down tt

pub returns : goal.returns
returns c =
    let moved = N.chosen true c.args.taps c.simple_passes.ensures c.tap_value.ensures c.pick-a.ensures in
    let up = N.gain-given moved c.gain.ensures in
    let down = N.loss-given moved c.loss.ensures in
    let p0 = N.gained c.args.taps.p0 c.requires.p0-in up c.raised.ensures in
    let q0 = N.lost c.args.taps.q0 c.requires.q0-in down c.lowered.ensures in
    (λ i. record { p0 = p0 i; q0 = q0 i }) ∙ sym (simple-taps c.args.edge c.args.taps c.requires)
