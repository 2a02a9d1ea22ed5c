use Rattle.scratch.proofs.CopyLaws.{row-none, row_more}
use native.Mathlib.Omega.{arith}
use lib.ListN.{length-set}
use Rattle.scratch.proofs.copies.copy_row.Goals as goal

pub loop-k-init : goal.loop-k-init
loop-k-init c = (omega arith, (row-none _ _ _, omega arith))

pub loop-k-preserved : goal.loop-k-preserved
loop-k-preserved c = (omega arith, (row_more _ _ _ _ _ c.loop-k.invariant.1.0, simp length-set c.loop-k.invariant.1.1))
