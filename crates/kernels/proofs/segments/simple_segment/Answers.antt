use Rattle.std.proofs.Common.{◌∙◌}
use Rattle.kernels.specs.Segment.{simple_segment}
use Rattle.kernels.proofs.LentWindows.{rest-window, rest-answer}
use Rattle.kernels.proofs.segments.simple_segment.Goals as goal

pub returns-clause-result_value : goal.returns-clause-result_value
returns-clause-result_value c =
    let x = c.args in
    c.simple_first.ensures.result_value ∙ rest-answer x.base x.seg.now c.if-base-seg.false (simple_segment x.edge_limit)

pub returns-clause-seg_after : goal.returns-clause-seg_after
returns-clause-seg_after c =
    let x = c.args in
    rest-window x.base x.seg.now c.if-base-seg.false (simple_segment x.edge_limit) _ c.simple_first.ensures.seg_after
