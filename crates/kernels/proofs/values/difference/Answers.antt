use Rattle.std.proofs.Common.{sym, ◌∙◌, w16}
use Rattle.arithmetic.proofs.Ranges as R
use Rattle.kernels.proofs.Apart.{difference-signed}
use Rattle.kernels.proofs.values.difference.Goals as goal

pub returns : goal.returns
returns c = (R.sub (R.of_u w16 {A = 256} tt c.ranges.a.fits) (R.of_u w16 {A = 256} tt c.ranges.b.fits) tt).val ∙ sym (difference-signed c.args.a c.args.b)
