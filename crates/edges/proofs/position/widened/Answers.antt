use Rattle.arithmetic.proofs.Ranges as R
use Rattle.edges.proofs.TapNumbers as N
use Rattle.edges.specs.Private.Runs.{widened}
use Rattle.edges.proofs.position.widened.Goals as goal

pub overflow_add-up : goal.overflow_add-up
overflow_add-up c =
    let wide = N.zero-or (N.tap c.args.w c.requires.w_bound) c.args.high tt tt c.pick-wide.ensures in
    let near = N.or-zero (N.tap c.args.w c.requires.w_bound) c.args.high tt tt c.pick-near.ensures in
    let a0 = N.part-given wide 27 c.part-a0.ensures in
    R.add? a0 (N.gain-given near c.gain.ensures) tt

pub overflow_add-down : goal.overflow_add-down
overflow_add-down c =
    let wide = N.zero-or (N.tap c.args.w c.requires.w_bound) c.args.high tt tt c.pick-wide.ensures in
    let near = N.or-zero (N.tap c.args.w c.requires.w_bound) c.args.high tt tt c.pick-near.ensures in
    let a0 = N.part-given wide 27 c.part-a0.ensures in
    R.add? a0 (N.loss-given near c.loss.ensures) tt

pub raised-requires-clause-a_bound : goal.raised-requires-clause-a_bound
raised-requires-clause-a_bound c =
    let wide = N.zero-or (N.tap c.args.w c.requires.w_bound) c.args.high tt tt c.pick-wide.ensures in
    N.within-256 (N.part-given wide 9 c.part-a2.ensures) tt

pub raised-requires-2-clause-a_bound : goal.raised-requires-2-clause-a_bound
raised-requires-2-clause-a_bound c =
    let wide = N.zero-or (N.tap c.args.w c.requires.w_bound) c.args.high tt tt c.pick-wide.ensures in
    N.within-256 (N.part-given wide 18 c.part-a1.ensures) tt

pub raised-requires-3-clause-a_bound : goal.raised-requires-3-clause-a_bound
raised-requires-3-clause-a_bound c =
    let wide = N.zero-or (N.tap c.args.w c.requires.w_bound) c.args.high tt tt c.pick-wide.ensures in
    let near = N.or-zero (N.tap c.args.w c.requires.w_bound) c.args.high tt tt c.pick-near.ensures in
    let a0 = N.part-given wide 27 c.part-a0.ensures in
    let up = R.add a0 (N.gain-given near c.gain.ensures) tt in
    N.within-256 up tt

pub lowered-requires-clause-a_bound : goal.lowered-requires-clause-a_bound
lowered-requires-clause-a_bound c =
    let wide = N.zero-or (N.tap c.args.w c.requires.w_bound) c.args.high tt tt c.pick-wide.ensures in
    let near = N.or-zero (N.tap c.args.w c.requires.w_bound) c.args.high tt tt c.pick-near.ensures in
    let a0 = N.part-given wide 27 c.part-a0.ensures in
    let down = R.add a0 (N.loss-given near c.loss.ensures) tt in
    N.within-256 down tt

pub lowered-requires-2-clause-a_bound : goal.lowered-requires-2-clause-a_bound
lowered-requires-2-clause-a_bound c =
    let wide = N.zero-or (N.tap c.args.w c.requires.w_bound) c.args.high tt tt c.pick-wide.ensures in
    N.within-256 (N.part-given wide 18 c.part-a1.ensures) tt

pub lowered-requires-3-clause-a_bound : goal.lowered-requires-3-clause-a_bound
lowered-requires-3-clause-a_bound c =
    let wide = N.zero-or (N.tap c.args.w c.requires.w_bound) c.args.high tt tt c.pick-wide.ensures in
    N.within-256 (N.part-given wide 9 c.part-a2.ensures) tt

pub returns : goal.returns
unfolding widened
returns c =
    let wide = N.zero-or (N.tap c.args.w c.requires.w_bound) c.args.high tt tt c.pick-wide.ensures in
    let near = N.or-zero (N.tap c.args.w c.requires.w_bound) c.args.high tt tt c.pick-near.ensures in
    let a0 = N.part-given wide 27 c.part-a0.ensures in
    let a1 = N.part-given wide 18 c.part-a1.ensures in
    let a2 = N.part-given wide 9 c.part-a2.ensures in
    let up = R.add a0 (N.gain-given near c.gain.ensures) tt in
    let down = R.add a0 (N.loss-given near c.loss.ensures) tt in
    let t = c.args.taps in
    let s = c.requires.signed in
    let p2 = N.gained t.p2 s.p2-in a2 c.raised.ensures in
    let p1 = N.gained t.near.p1 s.near-in.p1-in a1 c.raised-2.ensures in
    let p0 = N.gained t.near.p0 s.near-in.p0-in up c.raised-3.ensures in
    let q0 = N.lost t.near.q0 s.near-in.q0-in down c.lowered.ensures in
    let q1 = N.lost t.near.q1 s.near-in.q1-in a1 c.lowered-2.ensures in
    let q2 = N.lost t.q2 s.q2-in a2 c.lowered-3.ensures in
    (λ i. record { p2 = p2 i; p1 = p1 i; p0 = p0 i; q0 = q0 i; q1 = q1 i; q2 = q2 i })
