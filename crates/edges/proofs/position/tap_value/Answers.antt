use mathlib.Core.Path.{◌∙◌}
use mathlib.Core.Bool.{cond}
use lib.IntN.{pos, ◌+ℤ◌, ◌*ℤ◌}
use Rattle.arithmetic.proofs.Ranges as R
use Rattle.edges.proofs.TapNumbers as N
use Rattle.arithmetic.specs.Numbers.{clamp}
use Rattle.kernels.specs.Kernels.{filter_value}
use Rattle.edges.proofs.position.tap_value.Goals as goal

pub returns : goal.returns
unfolding filter_value
returns c =
    let t = c.args.taps in
    let o = (R.sub (N.tap t.p1 c.requires.p1-in) (N.tap t.q1 c.requires.q1-in) tt).val in
    let d = (R.sub (N.tap t.q0 c.requires.q0-in) (N.tap t.p0 c.requires.p0-in) tt).val in
    (N.known {A = 128} tt (c.filter_value.ensures ∙ (λ i. clamp (cond c.args.outer (clamp (o i)) (pos 0) +ℤ pos 3 *ℤ d i))) (R.clamp-in _)).val
