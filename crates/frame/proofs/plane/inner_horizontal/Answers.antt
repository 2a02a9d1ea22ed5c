use mathlib.Core.Path.{sym, ◌∙◌}
use native.Mathlib.Omega.{arith}
use Rattle.kernels.proofs.KernelLaws.{half-most}
use Rattle.planes.specs.Edges.{horizontal}
use Rattle.frame.specs.Private.PlaneEdges.{inner_at}
use Rattle.frame.proofs.EdgesWithin.{did-first, did-next, within-most}
use Rattle.frame.proofs.PlaneEdges.{horizontal-did, inner-not, inner-all, few-fit}
use Rattle.frame.proofs.plane.inner_horizontal.Goals as goal

pub returns-then-not-inside : goal.returns-then-not-inside
returns-then-not-inside g c = inner-not horizontal (g.E.Edge.kernel c.args.edge) g.row.N c.args.square c.args.inside c.args.plane.now c.if-not-inside.true

pub loop-n-init : goal.loop-n-init
loop-n-init g c = (omega arith, omega (arith, g.bound-3.several), did-first (inner_at horizontal (g.E.Edge.kernel c.args.edge) g.row.N c.args.square) g.row.N)

pub overflow_sub-at : goal.overflow_sub-at
overflow_sub-at g c = omega (arith, c.loop-n.invariant.0, c.HALF.ensures, g.met.E.Edge.half_is c.args.edge, half-most (g.E.Edge.kernel c.args.edge))

pub overflow_add-smoothed : goal.overflow_add-smoothed
overflow_add-smoothed g c =
    omega (arith, within-most _ _ _ _ g.row.N _ _ c.horizontal-smoothed.ensures.value, few-fit g.row.N c.loop-n.n c.loop-n.smoothed g.bound-3.counted c.loop-n-test.true c.loop-n.invariant.2.few)

pub loop-n-preserved : goal.loop-n-preserved
loop-n-preserved g c =
    let x = c.args in
    let k = g.E.Edge.kernel x.edge in (
      omega arith,
      omega (arith, c.loop-n-test.true),
      did-next (inner_at horizontal k g.row.N x.square) g.row.N c.loop-n.n c.loop-n.invariant.0 c.loop-n.invariant.2
          (horizontal-did k g.row.N x.square x.plane.now g.bound-3.several c.requires c.loop-n.n c.HALF.result c.loop-n.plane _ _ c.loop-n.auto.plane (c.HALF.ensures ∙ sym (g.met.E.Edge.half_is x.edge)) c.loop-n.invariant.0 c.loop-n-test.true (rw c.place.ensures at c.horizontal-smoothed.ensures.plane_after) (rw c.place.ensures at c.horizontal-smoothed.ensures.value)),
    )

pub returns : goal.returns
returns g c = inner-all horizontal (g.E.Edge.kernel c.args.edge) g.row.N c.args.square c.args.inside c.loop-n.n c.args.plane.now c.loop-n.plane c.loop-n.smoothed c.if-not-inside.false (omega arith) c.loop-n.invariant.2
