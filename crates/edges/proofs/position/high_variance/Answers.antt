use mathlib.Core.Path.{◌∙◌}
use lib.Signed.{lt_z}
use Rattle.edges.proofs.TapNumbers as N
use Rattle.kernels.specs.Kernels.{apart, hev}
use Rattle.edges.proofs.position.high_variance.Goals as goal

pub returns : goal.returns
unfolding hev
returns c =
    let t = c.args.taps in
    let v = (N.known {A = 257} tt c.variance.ensures (N.variance-most t c.requires)).val in
    let limit = (N.known {A = 256} tt c.from.ensures c.ranges.threshold.fits).val in
    (λ i. lt_z (limit i) (v i)) ∙ N.ltb-max c.args.threshold (apart t.p1 t.p0) (apart t.q1 t.q0)
