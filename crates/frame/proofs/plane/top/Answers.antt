use native.Mathlib.Nat.{mul-le-mul_right}
use native.Mathlib.Omega.{arith}
use mathlib.Core.Path.{sym, ◌∙◌}
use Prim.Native.Nat.{◌≤◌}
use Rattle.kernels.proofs.KernelLaws.{half-most}
use Rattle.frame.proofs.PlaneEdges.{top-did, top-not}
use Rattle.frame.proofs.plane.top.Goals as goal

pub overflow_mul-at : goal.overflow_mul-at
overflow_mul-at g c =
    let near : c.HALF.result ≤ 4 = omega (arith, c.HALF.ensures, g.met.E.Edge.half_is c.args.edge, half-most (g.E.Edge.kernel c.args.edge)) in
    omega (arith, c.requires.within, c.requires.above c.if-square-gt0.true, mul-le-mul_right c.args.square.stride near)

pub overflow_sub-at : goal.overflow_sub-at
overflow_sub-at g c =
    let near : c.HALF.result ≤ 4 = omega (arith, c.HALF.ensures, g.met.E.Edge.half_is c.args.edge, half-most (g.E.Edge.kernel c.args.edge)) in
    omega (arith, c.requires.above c.if-square-gt0.true, mul-le-mul_right c.args.square.stride near)

pub returns-then-square-gt0 : goal.returns-then-square-gt0
returns-then-square-gt0 g c =
    let x = c.args in
    top-did (g.E.Edge.kernel x.edge) g.row.N x.square x.plane.now g.bound-3.several c.requires c.HALF.result _ _ (c.HALF.ensures ∙ sym (g.met.E.Edge.half_is x.edge)) c.if-square-gt0.true (rw c.place.ensures at c.horizontal.ensures.plane_after) (rw c.place.ensures at c.horizontal.ensures.value)

pub returns-else-square-gt0 : goal.returns-else-square-gt0
returns-else-square-gt0 g c = top-not (g.E.Edge.kernel c.args.edge) g.row.N c.args.square c.args.plane.now g.bound-3.several c.requires c.if-square-gt0.false
