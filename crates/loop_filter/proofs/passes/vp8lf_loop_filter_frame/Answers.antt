use Rattle.std.proofs.Common.{rules}
use Rattle.levels.specs.declared.config.FrameFilterConfig.{FrameFilterConfig}
use Rattle.planes.specs.Layout.{planes_of}
use Rattle.calls.specs.Pass.{Call, key_pass}
use Rattle.calls.specs.PassCalls.{key_call, key_lists}
use Rattle.frame_calls.specs.Skip.{key_frame_pass, frame_call}
use Rattle.loop_filter.specs.Settings.{layout_of}
use Rattle.loop_filter.proofs.Numbers16.{same-settings}
use Rattle.loop_filter.proofs.Returns.{passed}
use Rattle.loop_filter.proofs.passes.vp8lf_loop_filter_frame.Goals as goal

pub returns : goal.returns
returns c =
    let x = c.args in
    let f = c.ranges in
    let call : FrameFilterConfig → Call key_frame_pass = λ q. frame_call key_pass (key_call (planes_of x.y.now x.u.now x.v.now) (layout_of x.mb_cols x.mb_rows x.y_stride x.uv_stride) (key_lists x.modes.now x.segments.now x.flags.now) q x.start x.allowance) in
    let same = same-settings c.settings-config.ensures f.segment_level_0 f.segment_level_1 f.segment_level_2 f.segment_level_3 f.ref_delta_current f.bpred_mode_delta f.ref_delta_last f.ref_delta_golden f.ref_delta_altref f.zero_mv_mode_delta f.other_mv_mode_delta f.split_mv_mode_delta in
    passed key_frame_pass call c.loop_filter_frame-answer.new.picture (search rules) (search rules) (search rules) same c.loop_filter_frame-answer.ensures.passed c.put_progress.ensures
