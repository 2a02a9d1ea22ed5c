use mathlib.Core.Path.{refl, sym, ap, ◌∙◌}
use Rattle.arithmetic.specs.Outcome.{number_of}
use Rattle.levels.specs.Answers.{level_outcome}
use Rattle.levels.specs.Levels.{inter_answer}
use Rattle.levels.specs.declared.config.FrameFilterConfig.{FrameFilterConfig}
use Rattle.loop_filter.specs.Returned.{out_of}
use Rattle.loop_filter.proofs.Numbers16.{same-settings}
use Rattle.loop_filter.proofs.Returns.{returned}
use Rattle.loop_filter.proofs.level.vp8lf_calculate_mb_filter_level_inter.Goals as goal

pub returns-in-Ok : goal.returns-in-Ok
unfolding number_of out_of
returns-in-Ok c =
    let x = c.args in
    let f = c.ranges in
    let e = sym (ap level_outcome c.in-Ok.is) ∙ c.calculate_mb_filter_level_inter.ensures ∙ ap (λ (q : FrameFilterConfig). inter_answer q x.segment x.reference x.inter_mode x.mode) (same-settings c.settings-config.ensures f.segment_level_0 f.segment_level_1 f.segment_level_2 f.segment_level_3 f.ref_delta_current f.bpred_mode_delta f.ref_delta_last f.ref_delta_golden f.ref_delta_altref f.zero_mv_mode_delta f.other_mv_mode_delta f.split_mv_mode_delta) in
    returned e (record { number = refl; out = refl })

pub returns-in-Err : goal.returns-in-Err
unfolding number_of out_of
returns-in-Err c =
    let x = c.args in
    let f = c.ranges in
    let e = sym (ap level_outcome c.in-Err.is) ∙ c.calculate_mb_filter_level_inter.ensures ∙ ap (λ (q : FrameFilterConfig). inter_answer q x.segment x.reference x.inter_mode x.mode) (same-settings c.settings-config.ensures f.segment_level_0 f.segment_level_1 f.segment_level_2 f.segment_level_3 f.ref_delta_current f.bpred_mode_delta f.ref_delta_last f.ref_delta_golden f.ref_delta_altref f.zero_mv_mode_delta f.other_mv_mode_delta f.split_mv_mode_delta) in
    returned e (record { number = c.from.ensures; out = refl })
