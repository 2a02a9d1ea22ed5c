use mathlib.Core.Path.{ap}
use native.Mathlib.Omega.{arith}
use Rattle.kernels.specs.Segment.{mark}
use Rattle.edges.proofs.vertical.note.Goals as goal

pub returns-then-passed : goal.returns-then-passed
unfolding mark
returns-then-passed c = omega (arith, ap mark c.if-passed.true)

pub returns : goal.returns
unfolding mark
returns c = omega (arith, ap mark c.if-passed.false)
