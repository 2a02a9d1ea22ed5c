use mathlib.Core.Path.{◌∙◌}
use mathlib.Core.Bool.{◌&&◌}
use lib.Signed.{le_z}
use mir.Syntax.{w16}
use Rattle.arithmetic.proofs.Ranges as R
use Rattle.edges.proofs.TapNumbers as N
use Rattle.kernels.specs.Kernels.{apart, filter_yes}
use Rattle.edges.specs.Private.Runs.{simple_passes}
use Rattle.edges.proofs.position.normal_passes.Goals as goal

pub returns : goal.returns
unfolding filter_yes
returns c =
    let t = c.args.taps in
    let near = t.near in
    let rough = N.known {A = 257} tt c.roughness.ensures (N.roughness-most t c.requires) in
    let vary = N.known {A = 257} tt c.variance.ensures (N.variance-most near c.requires.near-in) in
    let most = (N.max-of rough vary c.max-most.ensures.value).val in
    let limit = (R.gave {w = w16} c.from.type_inv c.from.ensures).val in
    (λ i. c.simple_passes.ensures i && le_z (most i) (limit i))
    ∙ N.tests-are (simple_passes c.args.edge.limit near)
    (apart t.p3 t.p2) (apart t.p2 near.p1) (apart near.p1 near.p0) (apart t.q3 t.q2) (apart t.q2 near.q1) (apart near.q1 near.q0) c.args.edge.interior
