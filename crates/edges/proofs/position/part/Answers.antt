use mathlib.Core.Path.{◌∙◌}
use native.Mathlib.Omega.{arith}
use lib.IntN.{pos}
use mir.Syntax.{w16}
use mir.Val.{of_z}
use Rattle.arithmetic.proofs.Ranges as R
use Rattle.kernels.proofs.Cuts.{part-is}
use Rattle.edges.proofs.TapNumbers as N
use Rattle.edges.proofs.position.part.Goals as goal

pub returns : goal.returns
returns c =
    let factor : R.Is w16 (of_z w16 c.from.result) (pos c.args.k) 28 = N.known tt c.from.ensures (omega (arith, c.requires.k_bound)) in
    let p = R.add (R.mul_u factor (N.tap c.args.w c.requires.w_bound) tt) (R.lit w16 63 tt) tt in (R.shr 128 p tt).val ∙ part-is c.args.k c.args.w p tt
