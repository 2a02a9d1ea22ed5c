use mathlib.Core.Path.{◌∙◌}
use lib.Signed.{le_z}
use mir.Syntax.{w16}
use Rattle.arithmetic.proofs.Ranges as R
use Rattle.edges.proofs.TapNumbers as N
use Rattle.kernels.specs.Kernels.{apart, edge_value}
use Rattle.edges.proofs.position.simple_passes.Goals as goal

pub overflow_mul-result : goal.overflow_mul-result
overflow_mul-result c = R.mul? 4 (N.dist-is c.args.taps.p0 c.args.taps.q0 c.requires.p0-in c.requires.q0-in c.distance.ensures) tt tt

pub overflow_add-result : goal.overflow_add-result
overflow_add-result c =
    let t = c.args.taps in
    R.add? (R.mul 4 (N.dist-is t.p0 t.q0 c.requires.p0-in c.requires.q0-in c.distance.ensures) tt tt) (N.dist-is t.p1 t.q1 c.requires.p1-in c.requires.q1-in c.distance-2.ensures) tt

pub returns : goal.returns
unfolding edge_value
returns c =
    let t = c.args.taps in
    let left = (R.add (R.mul 4 (N.dist-is t.p0 t.q0 c.requires.p0-in c.requires.q0-in c.distance.ensures) tt tt) (N.dist-is t.p1 t.q1 c.requires.p1-in c.requires.q1-in c.distance-2.ensures) tt).val in
    let right = (R.add (R.mul 2 (N.known {A = 256} tt c.from.ensures c.ranges.edge.fits) tt tt) (R.lit w16 1 tt) tt).val in
    (λ i. le_z (left i) (right i)) ∙ N.edge_test (apart t.p0 t.q0) (apart t.p1 t.q1) c.args.edge
