use mir.Syntax.{w16}
use Rattle.arithmetic.proofs.Ranges as R
use Rattle.edges.proofs.TapNumbers as N
use Rattle.arithmetic.specs.Numbers.{u2s}
use Rattle.edges.proofs.taps.u2s16.Goals as goal

pub returns : goal.returns
unfolding u2s
returns c = (R.sub (N.known {A = 256} tt c.from.ensures c.ranges.v.fits) (R.lit w16 128 tt) tt).val
