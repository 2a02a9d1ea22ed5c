use Rattle.std.proofs.Common.{rules}
use Rattle.levels.specs.declared.config.FrameFilterConfig.{FrameFilterConfig}
use Rattle.planes.specs.Layout.{planes_of}
use Rattle.calls.specs.Pass.{Call, inter_pass}
use Rattle.calls.specs.PassCalls.{inter_call, inter_lists}
use Rattle.loop_filter.specs.Settings.{layout_of}
use Rattle.loop_filter.proofs.Numbers16.{same-settings}
use Rattle.loop_filter.proofs.Returns.{passed}
use Rattle.loop_filter.proofs.passes.vp8lf_filter_inter_frame.Goals as goal

pub returns : goal.returns
returns c =
    let x = c.args in
    let f = c.ranges in
    let call : FrameFilterConfig → Call inter_pass = λ q. inter_call (planes_of x.y.now x.u.now x.v.now) (layout_of x.mb_cols x.mb_rows x.y_stride x.uv_stride) (inter_lists x.modes.now x.segments.now x.flags.now x.references.now x.inter_modes.now) q x.start x.allowance in
    let same = same-settings c.settings-config.ensures f.segment_level_0 f.segment_level_1 f.segment_level_2 f.segment_level_3 f.ref_delta_current f.bpred_mode_delta f.ref_delta_last f.ref_delta_golden f.ref_delta_altref f.zero_mv_mode_delta f.other_mv_mode_delta f.split_mv_mode_delta in
    passed inter_pass call c.filter_frame-answer.new.picture (search rules) (search rules) (search rules) same c.filter_frame-answer.ensures.passed c.put_progress.ensures
