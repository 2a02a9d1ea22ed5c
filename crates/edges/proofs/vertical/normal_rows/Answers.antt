use mathlib.Core.Path.{refl, sym, ap, ◌∙◌}
use Prim.Native.Nat.{ℕ, ◌+◌, ◌*◌, ◌-◌, ◌≤◌}
use native.Mathlib.Omega.{arith}
use lib.ListN.{length}
use Rattle.kernels.specs.Segment.{mark}
use Rattle.planes.specs.Edges.{vertical}
use Rattle.edges.proofs.NormalKinds.{kind-taps}
use Rattle.edges.proofs.VerticalRows.{row_within, from-none, row_next, length_from, counted_none, counted_next}
use Rattle.edges.proofs.vertical.normal_rows.Goals as goal

pub loop-n-init : goal.loop-n-init
loop-n-init g c =
    let x = c.args in
    let k = g.E.NormalEdge.kernel x.edge.threshold x.edge.interior x.edge.limit in
    (omega arith, from-none vertical _ _ _ _, refl, omega (arith, c.requires.missed_value, counted_none vertical k x.place.stride x.place.at x.plane.now))

pub loop-n-preserved : goal.loop-n-preserved
loop-n-preserved g c =
    let x = c.args in
    let n = c.loop-n.n in
    let k = g.E.NormalEdge.kernel x.edge.threshold x.edge.interior x.edge.limit in
    let fit : x.place.at + n * x.place.stride + 8 ≤ length c.loop-n.plane = omega (arith, row_within x.place.at n (x.rows - 1) x.place.stride 8 (omega arith) c.requires.stride_in_bounds, c.loop-n.invariant.2) in
    let ends = ap (λ (t : ℕ). x.place.at + n * x.place.stride + t) (sym (kind-taps x.edge.threshold x.edge.interior x.edge.limit g.met.E.NormalEdge.kind)) in
    let e = row_next k x.place.stride x.place.at n (x.place.at + n * x.place.stride + 8) x.plane.now c.loop-n.plane c.on_window-answer.new.seg c.loop-n.invariant.1 ends fit c.on_window-answer.ensures.seg_after in
    let counted = counted_next k x.place.stride x.place.at n (x.place.at + n * x.place.stride + 8) x.plane.now c.loop-n.plane c.loop-n.invariant.1 ends fit c.on_window-answer.ensures.value in
    (omega arith, e, ap length e ∙ length_from vertical k x.place.stride x.place.at (n + 1) x.plane.now, omega (arith, c.note.ensures, counted, ap mark c.passed_in-passed.ensures, c.loop-n.invariant.3))
