use native.Mathlib.Omega.{arith}
use mathlib.Core.Path.{sym, ◌∙◌}
use Rattle.kernels.proofs.KernelLaws.{half-most}
use Rattle.frame.proofs.PlaneEdges.{left-did, left-not}
use Rattle.frame.proofs.plane.left.Goals as goal

pub overflow_sub-square : goal.overflow_sub-square
overflow_sub-square g c = omega (arith, c.requires.left c.if-square-gt0.true, c.HALF.ensures, g.met.E.Edge.half_is c.args.edge, half-most (g.E.Edge.kernel c.args.edge))

pub returns-then-square-gt0 : goal.returns-then-square-gt0
returns-then-square-gt0 g c =
    let x = c.args in
    left-did (g.E.Edge.kernel x.edge) g.row.N x.square x.plane.now g.bound-3.several c.requires c.HALF.result _ _ (c.HALF.ensures ∙ sym (g.met.E.Edge.half_is x.edge)) c.if-square-gt0.true (rw c.place.ensures at c.vertical.ensures.plane_after) (rw c.place.ensures at c.vertical.ensures.value)

pub returns-else-square-gt0 : goal.returns-else-square-gt0
returns-else-square-gt0 g c = left-not (g.E.Edge.kernel c.args.edge) g.row.N c.args.square c.args.plane.now g.bound-3.several c.requires c.if-square-gt0.false
