use Rattle.std.proofs.Common.{◌∙◌, rules}
use Rattle.kernels.specs.Segment.{normal}
use Rattle.kernels.proofs.KernelLaws.{normal-taps}
use Rattle.kernels.proofs.Filtered.{window-passes}
use Rattle.kernels.proofs.LentWindows.{first-lent, first-answer}
use Rattle.kernels.proofs.segments.normal_first.Goals as goal

pub returns-clause-result_value : goal.returns-clause-result_value
returns-clause-result_value g c =
    let m = c.args.limits in
    first-answer (normal _ m.threshold m.interior m.limit) c.args.seg.now 8 (normal-taps _ _ _ _) (search rules) c.in_ok-window.window.now (search rules) c.passed.result
    (c.passed.ensures.yes ∙ window-passes _ m.threshold m.interior m.limit c.in_ok-window.window.now)

pub returns-clause-seg_after : goal.returns-clause-seg_after
returns-clause-seg_after g c =
    let m = c.args.limits in
    first-lent (normal _ m.threshold m.interior m.limit) c.args.seg.now 8 (normal-taps _ _ _ _) (search rules) c.in_ok-window.window.now (search rules) c.passed.new.window _ c.passed.ensures.bytes (search rules)
