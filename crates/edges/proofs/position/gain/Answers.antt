use mathlib.Core.Path.{ap, ◌∙◌}
use mir.Syntax.{w16}
use Rattle.arithmetic.proofs.Ranges as R
use Rattle.edges.proofs.TapNumbers as N
use Rattle.arithmetic.specs.Numbers.{at_most123}
use Rattle.kernels.proofs.Cuts.{gain-is}
use Rattle.edges.proofs.position.gain.Goals as goal

pub overflow_add-result : goal.overflow_add-result
overflow_add-result c = R.add? (N.known {A = 128} tt (c.at_most_123.ensures ∙ ap at_most123 (N.back c.args.a c.requires)) (R.most-in c.args.a c.requires)) (R.lit w16 3 tt) tt

pub returns : goal.returns
returns c = (R.shr 8 (R.add (N.known {A = 128} tt (c.at_most_123.ensures ∙ ap at_most123 (N.back c.args.a c.requires)) (R.most-in c.args.a c.requires)) (R.lit w16 3 tt) tt) tt).val ∙ gain-is c.args.a c.requires
