-- The settings that a host passes as numbers, as the record of crate `levels`.
use Rattle.std.specs.Prelude.{Bool, [], ◌∷◌, ℕ, ℤ}
use Rattle.planes.specs.declared.layout.PlaneLayout.{PlaneLayout}
use Rattle.levels.specs.declared.config.FrameFilterConfig.{FrameFilterConfig}

abbrev pub settings_of :
    (simple key : Bool) (level sharpness : ℕ) (segmentation absolute : Bool) (s0 s1 s2 s3 : ℤ) (deltas : Bool) (current bpred last golden altref zero other split : ℤ) → FrameFilterConfig
settings_of simple key level sharpness segmentation absolute s0 s1 s2 s3 deltas current bpred last golden altref zero other split =
    record {
      «simple» = simple;
      key_frame = key;
      loop_filter_level = level;
      sharpness_level = sharpness;
      segmentation_enabled = segmentation;
      segment_abs = absolute;
      segment_lf_level = s0 ∷ s1 ∷ s2 ∷ s3 ∷ [];
      delta_enabled = deltas;
      ref_delta_current = current;
      bpred_mode_delta = bpred;
      ref_delta_last = last;
      ref_delta_golden = golden;
      ref_delta_altref = altref;
      zero_mv_mode_delta = zero;
      other_mv_mode_delta = other;
      split_mv_mode_delta = split;
    }

abbrev pub layout_of : (columns rows luma_stride chroma_stride : ℕ) → PlaneLayout
layout_of columns rows luma_stride chroma_stride = record { mb_cols = columns; mb_rows = rows; y_stride = luma_stride; uv_stride = chroma_stride }
