use Rattle.std.proofs.Common.{rules}
use Rattle.levels.specs.declared.config.FrameFilterConfig.{FrameFilterConfig}
use Rattle.planes.specs.Layout.{planes_of}
use Rattle.calls.specs.Pass.{inter_pass}
use Rattle.calls.specs.PassCalls.{inter_lists}
use Rattle.search.specs.Search.{SearchCall, inter_search}
use Rattle.sums.specs.Source.{source_of}
use Rattle.loop_filter.specs.Settings.{layout_of}
use Rattle.loop_filter.proofs.Numbers16.{same-settings}
use Rattle.loop_filter.proofs.Returns.{level-searched}
use Rattle.loop_filter.proofs.selects.vp8lf_select_filter_level_inter.Goals as goal

pub returns : goal.returns
returns c =
    let x = c.args in
    let f = c.ranges in
    let call : FrameFilterConfig → SearchCall inter_pass = λ q. inter_search (layout_of x.mb_cols x.mb_rows x.y_stride x.uv_stride) q (inter_lists x.modes.now x.segments.now x.flags.now x.references.now x.inter_modes.now) (planes_of x.y.now x.u.now x.v.now) (planes_of x.scratch_y.now x.scratch_u.now x.scratch_v.now) (source_of x.width x.height x.src_y.now x.src_u.now x.src_v.now x.src_y_stride x.src_uv_stride) in
    let same = same-settings c.settings-config.ensures f.segment_level_0 f.segment_level_1 f.segment_level_2 f.segment_level_3 f.ref_delta_current f.bpred_mode_delta f.ref_delta_last f.ref_delta_golden f.ref_delta_altref f.zero_mv_mode_delta f.other_mv_mode_delta f.split_mv_mode_delta in
    level-searched inter_pass call c.select_filter_level-answer.new.scratch (search rules) (search rules) (search rules) same c.select_filter_level-answer.ensures.searched c.put_level.ensures
