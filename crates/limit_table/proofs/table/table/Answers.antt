use mathlib.Core.Path.{refl}
use Rattle.arithmetic.specs.Tables.{table}
use Rattle.arithmetic.specs.Limits.{at_least_one, interior_limit}
use Rattle.limit_table.specs.InteriorLimits.{interior_limits}
use Rattle.limit_table.proofs.table.table.Goals as goal

pub returns : goal.returns
unfolding interior_limits table interior_limit at_least_one
returns c = refl
