use mathlib.Core.Path.{refl, sym, ap, ◌∙◌}
use Prim.Native.Nat.{ℕ, ◌+◌, ◌*◌, ◌-◌, ◌≤◌}
use native.Mathlib.Omega.{arith}
use lib.ListN.{length}
use Rattle.kernels.specs.Segment.{simple_segment, mark}
use Rattle.planes.specs.Edges.{vertical}
use Rattle.kernels.proofs.SegmentLaws.{mark-most}
use Rattle.edges.proofs.EdgeRoom.{simple-four}
use Rattle.edges.proofs.RunTurns.{counts}
use Rattle.edges.proofs.VerticalRows.{row_within, from-none, row_next, length_from, counted_none, counted-most, counted_next}
use Rattle.edges.proofs.vertical.simple_rows.Goals as goal

pub loop-n-init : goal.loop-n-init
loop-n-init c = let x = c.args in (omega arith, from-none vertical _ _ _ _, refl, counted_none vertical (simple_segment x.edge_limit) x.place.stride x.place.at x.plane.now)

pub overflow_add-smoothed : goal.overflow_add-smoothed
overflow_add-smoothed c =
    let x = c.args in
    omega (arith, c.loop-n.invariant.0, c.loop-n.invariant.3, counted-most vertical (simple_segment x.edge_limit) x.place.stride x.place.at c.loop-n.n x.plane.now, c.from-smoothed.ensures, counts c.passed_in-passed.result, mark-most c.passed_in-passed.result)

pub loop-n-preserved : goal.loop-n-preserved
loop-n-preserved c =
    let x = c.args in
    let n = c.loop-n.n in
    let k = simple_segment x.edge_limit in
    let fit : x.place.at + n * x.place.stride + 4 ≤ length c.loop-n.plane = omega (arith, row_within x.place.at n (x.rows - 1) x.place.stride 4 (omega arith) c.requires, c.loop-n.invariant.2) in
    let ends = ap (λ (t : ℕ). x.place.at + n * x.place.stride + t) (sym (simple-four x.edge_limit)) in
    let e = row_next k x.place.stride x.place.at n (x.place.at + n * x.place.stride + 4) x.plane.now c.loop-n.plane c.simple_segment-answer.new.seg c.loop-n.invariant.1 ends fit c.simple_segment-answer.ensures.seg_after in
    let counted = counted_next k x.place.stride x.place.at n (x.place.at + n * x.place.stride + 4) x.plane.now c.loop-n.plane c.loop-n.invariant.1 ends fit c.simple_segment-answer.ensures.result_value in
    (omega arith, e, ap length e ∙ length_from vertical k x.place.stride x.place.at (n + 1) x.plane.now, omega (arith, c.from-smoothed.ensures, counts c.passed_in-passed.result, counted, ap mark c.passed_in-passed.ensures, c.loop-n.invariant.3))
