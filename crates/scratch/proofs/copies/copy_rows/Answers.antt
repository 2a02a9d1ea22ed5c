use Rattle.scratch.proofs.CopyLaws.{rows_none, rows_more, row-length}
use native.Mathlib.Omega.{arith}
use lib.ListN.{length}
use mathlib.Core.Path.{ap, ◌∙◌}
use Rattle.scratch.proofs.copies.copy_rows.Goals as goal

pub loop-r-init : goal.loop-r-init
loop-r-init c = (omega arith, (rows_none _ _ _ _, omega arith))

pub loop-r-preserved : goal.loop-r-preserved
loop-r-preserved c = (omega arith, (rows_more _ _ _ _ _ _ _ c.loop-r.invariant.1.0 c.copy_row.ensures, ap length c.copy_row.ensures ∙ row-length _ _ _ _ ∙ c.loop-r.invariant.1.1))
