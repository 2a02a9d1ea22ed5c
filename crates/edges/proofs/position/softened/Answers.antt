use mir.Syntax.{w16}
use Rattle.arithmetic.proofs.Ranges as R
use Rattle.edges.proofs.TapNumbers as N
use Rattle.arithmetic.specs.Numbers.{shr}
use Rattle.edges.specs.Private.Runs.{softened}
use Rattle.edges.proofs.position.softened.Goals as goal

pub overflow_add-down : goal.overflow_add-down
overflow_add-down c =
    let down = N.loss-given (N.tap c.args.a c.requires.a_bound) c.loss-down.ensures in
    R.add? down (R.lit w16 1 tt) tt

pub raised-requires-clause-a_bound : goal.raised-requires-clause-a_bound
raised-requires-clause-a_bound c =
    let down = N.loss-given (N.tap c.args.a c.requires.a_bound) c.loss-down.ensures in
    let outer = N.zero-or (R.shr 2 (R.add down (R.lit w16 1 tt) tt) tt) c.args.high tt tt c.pick-outer.ensures in
    N.within-256 outer tt

pub raised-requires-2-clause-a_bound : goal.raised-requires-2-clause-a_bound
raised-requires-2-clause-a_bound c =
    let up = N.gain-given (N.tap c.args.a c.requires.a_bound) c.gain.ensures in
    N.within-256 up tt

pub lowered-requires-clause-a_bound : goal.lowered-requires-clause-a_bound
lowered-requires-clause-a_bound c =
    let down = N.loss-given (N.tap c.args.a c.requires.a_bound) c.loss-down.ensures in
    N.within-256 down tt

pub lowered-requires-2-clause-a_bound : goal.lowered-requires-2-clause-a_bound
lowered-requires-2-clause-a_bound c =
    let down = N.loss-given (N.tap c.args.a c.requires.a_bound) c.loss-down.ensures in
    let outer = N.zero-or (R.shr 2 (R.add down (R.lit w16 1 tt) tt) tt) c.args.high tt tt c.pick-outer.ensures in
    N.within-256 outer tt

pub returns : goal.returns
unfolding softened shr
returns c =
    let down = N.loss-given (N.tap c.args.a c.requires.a_bound) c.loss-down.ensures in
    let outer = N.zero-or (R.shr 2 (R.add down (R.lit w16 1 tt) tt) tt) c.args.high tt tt c.pick-outer.ensures in
    let up = N.gain-given (N.tap c.args.a c.requires.a_bound) c.gain.ensures in
    let t = c.args.taps in
    let s = c.requires.signed in
    let p2 = N.back t.p2 s.p2-in in
    let p1 = N.gained t.near.p1 s.near-in.p1-in outer c.raised.ensures in
    let p0 = N.gained t.near.p0 s.near-in.p0-in up c.raised-2.ensures in
    let q0 = N.lost t.near.q0 s.near-in.q0-in down c.lowered.ensures in
    let q1 = N.lost t.near.q1 s.near-in.q1-in outer c.lowered-2.ensures in
    let q2 = N.back t.q2 s.q2-in in
    (λ i. record { p2 = p2 i; p1 = p1 i; p0 = p0 i; q0 = q0 i; q1 = q1 i; q2 = q2 i })
