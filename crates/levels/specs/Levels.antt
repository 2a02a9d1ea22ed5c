-- RFC 6386, section 20.6, calculate_filter_parameters (lines 9152 to 9212): the level of a macroblock, over the integers.
-- Section 9.3 (lines 1871 to 1875) has the segments' adjustments, and section 9.4 (lines 1948 to 1984) the deltas.
-- In the RFC the header's level is 0..63 and a delta has 6 bits and a sign; by document 01 the level is any byte and the other numbers have any 16 bits.
use Rattle.std.specs.Prelude.{cond, ℕ, min, ℤ, pos, ◌+ℤ◌, nat_abs, get_or, Option, None, Some}
use Rattle.std.specs.Int.Signed.{lt_z}
use Rattle.arithmetic.specs.Outcome.{Outcome, gives, refuses}
use Rattle.levels.specs.Encodings.{mode_of, reference_of, inter_mode_of, bad_mode, bad_entry}
use Rattle.levels.specs.declared.config.FrameFilterConfig.{FrameFilterConfig}
use Rattle.levels.specs.declared.modes.IntraYMode.{IntraYMode}
use Rattle.levels.specs.declared.modes.IntraYMode.TheVariants as mode
use Rattle.levels.specs.declared.modes.RefFrame.TheVariants as frame
use Rattle.levels.specs.declared.modes.InterMode.TheVariants as way
use Rattle.levels.specs.declared.modes.RefFrame.{RefFrame}
use Rattle.levels.specs.declared.modes.InterMode.{InterMode}

-- limits to 0..63 (lines 9177 to 9180 and 9209 to 9212)
unfoldable pub clamp_level : ℤ → ℤ
clamp_level v = cond (lt_z (pos 63) v) (pos 63) (cond (lt_z v (pos 0)) (pos 0) v)

-- lf_level[segment_id]; a segment above 3 counts as 3
unfoldable pub segment_number : FrameFilterConfig → (segment : ℕ) → ℤ
segment_number config segment = get_or config.segment_lf_level (min segment 3) (pos 0)

-- with segmentation, the number replaces the header's level or is added to it (lines 9169 to 9174)
unfoldable pub level_in_segment : FrameFilterConfig → (segment : ℕ) → ℤ
level_in_segment config segment =
    cond config.segment_abs
    (segment_number config segment)
    (pos config.loop_filter_level +ℤ segment_number config segment)

-- the level before the first clamp (lines 9165 to 9175)
unfoldable pub base_level : FrameFilterConfig → (segment : ℕ) → ℤ
base_level config segment = cond config.segmentation_enabled (level_in_segment config segment) (pos config.loop_filter_level)

-- the level after the first clamp, which is there whether or not deltas follow
unfoldable pub segment_level : FrameFilterConfig → (segment : ℕ) → ℤ
segment_level config segment = clamp_level (base_level config segment)

-- ref_delta[ref_frame] (line 9194), in the order of the frames (lines 8591 to 8594); CURRENT_FRAME is no reference
unfoldable pub ref_delta : FrameFilterConfig → Option RefFrame → ℤ
ref_delta config None = config.ref_delta_current
ref_delta config (Some frame.Last) = config.ref_delta_last
ref_delta config (Some frame.Golden) = config.ref_delta_golden
ref_delta config (Some frame.AltRef) = config.ref_delta_altref

-- what the mode adds without a reference (lines 9198 and 9199)
unfoldable pub intra_mode_delta : FrameFilterConfig → IntraYMode → ℤ
intra_mode_delta config mode.Dc = pos 0
intra_mode_delta config mode.V = pos 0
intra_mode_delta config mode.H = pos 0
intra_mode_delta config mode.Tm = pos 0
intra_mode_delta config mode.B = config.bpred_mode_delta

-- what the inter mode adds with a reference (lines 9201 to 9206). The RFC has no reference without an inter mode; the Rust gives it the other delta.
unfoldable pub inter_mode_delta : FrameFilterConfig → Option InterMode → ℤ
inter_mode_delta config (Some way.Zero) = config.zero_mv_mode_delta
inter_mode_delta config (Some way.Split) = config.split_mv_mode_delta
inter_mode_delta config (Some way.Nearest) = config.other_mv_mode_delta
inter_mode_delta config (Some way.Near) = config.other_mv_mode_delta
inter_mode_delta config (Some way.New) = config.other_mv_mode_delta
inter_mode_delta config None = config.other_mv_mode_delta

-- mode_delta (lines 9196 to 9206)
unfoldable pub mode_delta : FrameFilterConfig → Option RefFrame → Option InterMode → IntraYMode → ℤ
mode_delta config None inter_mode mode = intra_mode_delta config mode
mode_delta config (Some frame) inter_mode mode = inter_mode_delta config inter_mode

-- the level before the second clamp (lines 9191 to 9207)
unfoldable pub adjusted_level : FrameFilterConfig → (segment : ℕ) → Option RefFrame → Option InterMode → IntraYMode → ℤ
adjusted_level config segment reference inter_mode mode =
    cond config.delta_enabled
    (segment_level config segment +ℤ ref_delta config reference +ℤ mode_delta config reference inter_mode mode)
    (segment_level config segment)

-- ---- the two levels, after the second clamp. They are never negative, so `nat_abs` only takes them to ℕ.

unfoldable pub inter_level : FrameFilterConfig → (segment : ℕ) → Option RefFrame → Option InterMode → IntraYMode → ℕ
inter_level config segment reference inter_mode mode = nat_abs (clamp_level (adjusted_level config segment reference inter_mode mode))

-- The key level ignores references: every macroblock has ref_delta[CURRENT_FRAME], and only B has a mode delta.
unfoldable pub key_level : FrameFilterConfig → (segment : ℕ) → IntraYMode → ℕ
key_level config segment mode =
    nat_abs
    (clamp_level
    (cond config.delta_enabled
    (segment_level config segment +ℤ config.ref_delta_current +ℤ intra_mode_delta config mode)
    (segment_level config segment)))

-- ---- of an entry's bytes

unfoldable pub level_of : FrameFilterConfig → (segment reference inter_mode mode : ℕ) → ℕ
level_of config segment reference inter_mode mode = inter_level config segment (reference_of reference) (inter_mode_of inter_mode) (mode_of mode)

unfoldable pub key_level_of : FrameFilterConfig → (segment mode : ℕ) → ℕ
key_level_of config segment mode = key_level config segment (mode_of mode)

-- ---- what the calls answer: refusal 6 alone, or the level

unfoldable pub inter_answer : FrameFilterConfig → (segment reference inter_mode mode : ℕ) → Outcome ℕ
inter_answer config segment reference inter_mode mode =
    cond (bad_entry reference inter_mode mode) (refuses 6) (gives (level_of config segment reference inter_mode mode))

unfoldable pub key_answer : FrameFilterConfig → (segment mode : ℕ) → Outcome ℕ
key_answer config segment mode = cond (bad_mode mode) (refuses 6) (gives (key_level_of config segment mode))
