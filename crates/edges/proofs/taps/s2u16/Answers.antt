use mathlib.Core.Path.{sym, ap, ◌∙◌}
use lib.IntN.{nat_abs}
use mir.Syntax.{w16}
use Rattle.arithmetic.proofs.Ranges as R
use Rattle.edges.proofs.TapNumbers as N
use Rattle.edges.proofs.taps.s2u16.Goals as goal

pub returns : goal.returns
returns c = ap nat_abs (R.add (N.tap c.args.v c.requires) (R.lit w16 128 tt) tt).val ∙ sym (N.s2u-of c.args.v c.requires)
