use mathlib.Core.Path.{refl, sym, ap, ◌∙◌}
use mathlib.Core.Bool.{Bool}
use native.Mathlib.Omega.{arith}
use Rattle.kernels.specs.Segment.{simple_segment}
use Rattle.planes.specs.Layout.{grid_of, planes_of}
use Rattle.planes.specs.Pictures.{planes_lent}
use Rattle.edges.specs.NormalKernels.{outer_of, inner_of}
use Rattle.planes.specs.Planes.{luma, chroma_u, chroma_v}
use Rattle.calls.specs.Pass.{plan_with}
use Rattle.planes.specs.Private.Worked.{unworked}
use Rattle.frame.proofs.Squares.{square-of}
use Rattle.frame.proofs.PlaneSteps.{normal-step, simple-step, stepped, stepped-as}
use Rattle.frame.proofs.step.filter_with.Goals as goal

pub filter_plane-requires : goal.filter_plane-requires
filter_plane-requires c = rw c.square-luma.ensures (square-of (grid_of c.args.layout) (planes_lent c.args.picture.now) c.args.m c.requires.sound.strides c.requires.sound.planes c.requires.m_bound luma)

pub filter_plane-a-requires : goal.filter_plane-a-requires
filter_plane-a-requires c = rw c.square-luma.ensures (square-of (grid_of c.args.layout) (planes_lent c.args.picture.now) c.args.m c.requires.sound.strides c.requires.sound.planes c.requires.m_bound luma)

pub filter_plane-requires-else-simple : goal.filter_plane-requires-else-simple
filter_plane-requires-else-simple c = rw c.square-chroma.ensures (square-of (grid_of c.args.layout) (planes_lent c.args.picture.now) c.args.m c.requires.sound.strides c.requires.sound.planes c.requires.m_bound chroma_u)

pub filter_plane-requires-else-simple-2 : goal.filter_plane-requires-else-simple-2
filter_plane-requires-else-simple-2 c = rw c.square-chroma.ensures (square-of (grid_of c.args.layout) (planes_lent c.args.picture.now) c.args.m c.requires.sound.strides c.requires.sound.planes c.requires.m_bound chroma_v)

pub returns-then-simple-clause-stepped : goal.returns-then-simple-clause-stepped
unfolding plan_with
returns-then-simple-clause-stepped c =
    let x = c.args in
    let p = planes_lent x.picture.now in
    let y = rw c.square-luma.ensures at c.filter_plane.ensures in
    stepped-as x.layout x.m p _ _ (ap (λ (b : Bool). plan_with b x.limits x.inside) (sym c.if-simple.true))
    (stepped x.layout _ x.m p (planes_of _ x.picture.now.u.now x.picture.now.v.now) _ 0 0 _ (omega arith)
    ((λ i. record { y = y.worked 0 i; u = record { samples = x.picture.now.u.now; smoothed = 0 }; v = record { samples = x.picture.now.v.now; smoothed = 0 } })
    ∙ sym (simple-step (grid_of x.layout) x.m _ _ refl refl (simple_segment x.limits.mbedge_limit) (simple_segment x.limits.sub_bedge_limit) x.inside (unworked p))))

pub returns-else-simple-clause-stepped : goal.returns-else-simple-clause-stepped
unfolding plan_with
returns-else-simple-clause-stepped c =
    let x = c.args in
    let p = planes_lent x.picture.now in
    let y = rw c.square-luma.ensures at c.filter_plane-a.ensures in
    let u = rw c.square-chroma.ensures at c.filter_plane-else-simple.ensures in
    let v = rw c.square-chroma.ensures at c.filter_plane-else-simple-2.ensures in
    stepped-as x.layout x.m p _ _ (ap (λ (b : Bool). plan_with b x.limits x.inside) (sym c.if-simple.false))
    (stepped x.layout _ x.m p (planes_of _ _ _) _ _ _ _ refl
    ((λ i. record { y = y.worked 0 i; u = u.worked 0 i; v = v.worked 0 i })
    ∙ sym (normal-step (grid_of x.layout) x.m _ _ refl refl (outer_of x.limits) (inner_of x.limits) x.inside (unworked p))))
