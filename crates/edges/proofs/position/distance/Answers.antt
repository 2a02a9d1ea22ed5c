use mathlib.Core.Path.{ap, ◌∙◌}
use lib.IntN.{ℤ, pos, nat_abs}
use Rattle.arithmetic.proofs.Ranges as R
use Rattle.edges.proofs.TapNumbers as N
use Rattle.kernels.specs.Kernels.{apart}
use Rattle.edges.proofs.position.distance.Goals as goal

pub returns : goal.returns
unfolding apart
returns c =
    let d = R.sub (N.tap c.args.a c.requires.a_bound) (N.tap c.args.b c.requires.b_bound) tt in
    (N.known {A = 257} tt (c.abs.ensures.value ∙ ap (λ (z : ℤ). pos (nat_abs z)) d.val) (N.apart-most c.args.a c.args.b c.requires.a_bound c.requires.b_bound)).val
