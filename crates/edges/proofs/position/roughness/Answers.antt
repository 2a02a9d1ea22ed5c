use Rattle.edges.proofs.TapNumbers as N
use Rattle.edges.proofs.position.roughness.Goals as goal

pub returns : goal.returns
returns c =
    let t = c.args.taps in
    let s = c.requires in
    (N.max-of
    (N.max-of (N.dist-is t.p3 t.p2 s.p3-in s.p2-in c.distance.ensures) (N.dist-is t.p2 t.near.p1 s.p2-in s.near-in.p1-in c.distance-2.ensures) c.max-left.ensures.value)
    (N.max-of (N.dist-is t.q3 t.q2 s.q3-in s.q2-in c.distance-3.ensures) (N.dist-is t.q2 t.near.q1 s.q2-in s.near-in.q1-in c.distance-4.ensures) c.max-right.ensures.value)
    c.max.ensures.value).val
