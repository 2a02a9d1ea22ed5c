use Rattle.std.proofs.Common.{◌∙◌}
use Rattle.kernels.specs.Segment.{normal}
use Rattle.kernels.proofs.LentWindows.{rest-window, rest-answer}
use Rattle.kernels.proofs.segments.normal_filter.Goals as goal

pub returns-clause-result_value : goal.returns-clause-result_value
returns-clause-result_value g c =
    let x = c.args in
    c.normal_first.ensures.result_value ∙ rest-answer x.base x.seg.now c.if-base-seg.false (normal _ x.limits.threshold x.limits.interior x.limits.limit)

pub returns-clause-seg_after : goal.returns-clause-seg_after
returns-clause-seg_after g c =
    let x = c.args in
    rest-window x.base x.seg.now c.if-base-seg.false (normal _ x.limits.threshold x.limits.interior x.limits.limit) _ c.normal_first.ensures.seg_after
