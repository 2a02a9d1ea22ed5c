-- The bench figures A to L of document 01: what is given, what the definitions make of it, and what the paper prints.
use Rattle.std.specs.Prelude.{◌≡◌, refl, Bool, true, false, List, [], ◌∷◌, map, ℕ, ℤ, pos, negsuc}
use Rattle.arithmetic.specs.Outcome.{Outcome, gives}
use Rattle.arithmetic.specs.Numbers.{clamp, u2s, s2u, shr}
use Rattle.arithmetic.specs.Limits.{at_least_one, interior_limit, hev_threshold, mbedge_limit, sub_bedge_limit, with_interior, derive}
use Rattle.kernels.specs.Kernels as kernels
use Rattle.kernels.specs.Segment.{Kernel, simple_segment, subblock_filter, mb_filter, half, taps, smooth, gather, scatter, segment, fits_at, windowed}
use Rattle.arithmetic.specs.declared.limits.LoopFilterParams.{LoopFilterParams}
use Rattle.levels.specs.Encodings.{mode_of, reference_of, inter_mode_of, bad_mode, bad_reference, bad_inter_mode, bad_entry}
use Rattle.levels.specs.Levels as levels
use Rattle.levels.specs.Levels.{key_answer, inter_answer}
use Rattle.levels.specs.declared.config.FrameFilterConfig.{FrameFilterConfig}

pub data Name : Type 0 where
  A B C D E F G H I-at-20 I-at-19 J K L : Name

-- what a figure is about
pub data Value : Type 0 where
  limits : (interior threshold macroblock inner : ℕ) → Value
  levelled : (key inter : Outcome ℕ) → Value
  window : List ℕ → Value

pub record Figure : Type 0 where
  pub name : Name
  pub given : Value
  pub printed : Value

abbrev pub limits_of : LoopFilterParams → Value
limits_of p = limits p.interior_limit p.hev_threshold p.mbedge_limit p.sub_bedge_limit

abbrev pub derived : ℕ → ℕ → Bool → Value
derived level sharpness key = limits_of (derive level sharpness key)

-- the header's level, the number that segment 0 adds, and the delta of each reference; every other number is 0
abbrev pub settings : (header : ℕ) (adds delta : ℤ) → FrameFilterConfig
settings header adds delta =
    record {
      simple = false;
      key_frame = false;
      loop_filter_level = header;
      sharpness_level = 0;
      segmentation_enabled = true;
      segment_abs = false;
      segment_lf_level = adds ∷ pos 0 ∷ pos 0 ∷ pos 0 ∷ [];
      delta_enabled = true;
      ref_delta_current = delta;
      bpred_mode_delta = pos 0;
      ref_delta_last = delta;
      ref_delta_golden = delta;
      ref_delta_altref = delta;
      zero_mv_mode_delta = pos 0;
      other_mv_mode_delta = pos 0;
      split_mv_mode_delta = pos 0;
    }

-- what both level calls answer for a macroblock of segment 0 and mode Dc; the inter call's has reference Last and inter mode Nearest
abbrev pub levels_of : (header : ℕ) (adds delta : ℤ) → Value
levels_of header adds delta = levelled (key_answer (settings header adds delta) 0 0) (inter_answer (settings header adds delta) 0 1 2 0)

abbrev pub filtered : Kernel → List ℕ → Value
filtered k l = window (windowed k l 0)

abbrev pub figures : List Figure
figures =
    record { name = A; given = derived 63 0 true; printed = limits 63 2 193 189 }
    ∷ record { name = B; given = derived 0 0 true; printed = limits 1 0 5 1 }
    ∷ record { name = C; given = derived 32 4 true; printed = limits 5 1 73 69 }
    ∷ record { name = D; given = derived 32 5 false; printed = limits 4 2 72 68 }
    ∷ record { name = E; given = derived 3 5 true; printed = limits 1 0 11 7 }
    ∷ record { name = F; given = derived 255 0 true; printed = limits 255 2 255 255 }
    ∷ record { name = G; given = levels_of 10 (negsuc 19) (pos 5); printed = levelled (gives 5) (gives 5) }
    ∷ record { name = H; given = levels_of 60 (pos 10) (negsuc 9); printed = levelled (gives 53) (gives 53) }
    ∷ record { name = I-at-20; given = filtered (simple_segment 20) (100 ∷ 100 ∷ 108 ∷ 108 ∷ []); printed = window (100 ∷ 102 ∷ 106 ∷ 108 ∷ []) }
    ∷ record { name = I-at-19; given = filtered (simple_segment 19) (100 ∷ 100 ∷ 108 ∷ 108 ∷ []); printed = window (100 ∷ 100 ∷ 108 ∷ 108 ∷ []) }
    ∷ record { name = J; given = filtered (simple_segment 8) (100 ∷ 100 ∷ 104 ∷ 100 ∷ []); printed = window (100 ∷ 101 ∷ 102 ∷ 100 ∷ []) }
    ∷ record {
      name = K;
      given = filtered (mb_filter 0 1 20) (100 ∷ 100 ∷ 100 ∷ 100 ∷ 108 ∷ 108 ∷ 108 ∷ 108 ∷ []);
      printed = window (100 ∷ 101 ∷ 102 ∷ 103 ∷ 105 ∷ 106 ∷ 107 ∷ 108 ∷ []);
    }
    ∷ record {
      name = L;
      given = filtered (subblock_filter 0 1 20) (108 ∷ 108 ∷ 108 ∷ 108 ∷ 100 ∷ 100 ∷ 100 ∷ 100 ∷ []);
      printed = window (108 ∷ 108 ∷ 107 ∷ 105 ∷ 103 ∷ 101 ∷ 100 ∷ 100 ∷ []);
    }
    ∷ []

-- all of them hold
pub figures-hold : map (λ f. f.given) figures ≡ map (λ f. f.printed) figures
unfolding clamp u2s s2u shr at_least_one interior_limit hev_threshold mbedge_limit sub_bedge_limit with_interior derive
    half taps smooth gather scatter segment fits_at windowed
    kernels.apart kernels.edge_value kernels.filter_value kernels.gain_of kernels.loss_of kernels.adjustment kernels.adjusted_p0 kernels.adjusted_q0 kernels.common_adjust
    kernels.simple_yes kernels.simple_segment kernels.filter_yes kernels.hev kernels.segment_yes kernels.segment_hev kernels.outer_step kernels.subblock_filter
    kernels.part kernels.wide_value kernels.mb_filter
    mode_of reference_of inter_mode_of bad_mode bad_reference bad_inter_mode bad_entry
    levels.clamp_level levels.segment_number levels.level_in_segment levels.base_level levels.segment_level levels.ref_delta levels.intra_mode_delta levels.inter_mode_delta levels.mode_delta
    levels.adjusted_level levels.inter_level levels.key_level levels.level_of levels.key_level_of levels.inter_answer levels.key_answer
figures-hold = refl
