use Rattle.std.proofs.Common.{refl, rules}
use Rattle.kernels.specs.Segment.{simple_segment, half, taps}
use Rattle.kernels.proofs.LentWindows.{first-lent, first-answer}
use Rattle.kernels.proofs.segments.simple_first.Goals as goal

pub returns-clause-result_value : goal.returns-clause-result_value
unfolding half taps
returns-clause-result_value c =
    first-answer (simple_segment c.args.edge) c.args.seg.now 4 refl (search rules) c.in_ok-window.window.now (search rules) c.simple_passed.result c.simple_passed.ensures.value

pub returns-clause-seg_after : goal.returns-clause-seg_after
unfolding half taps
returns-clause-seg_after c =
    first-lent (simple_segment c.args.edge) c.args.seg.now 4 refl (search rules) c.in_ok-window.window.now (search rules) c.simple_passed.new.window _ c.simple_passed.ensures.window_after (search rules)
