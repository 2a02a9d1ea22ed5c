use Rattle.kernels.specs.Segment.{common_adjust}
use Rattle.kernels.proofs.LentWindows.{rest-window}
use Rattle.kernels.proofs.segments.common_adjust.Goals as goal

pub returns-clause-seg_after : goal.returns-clause-seg_after
returns-clause-seg_after c =
    let x = c.args in
    rest-window x.base x.seg.now c.if-base-seg.false (common_adjust x.use_outer_taps) _ c.adjust_first.ensures.seg_after
