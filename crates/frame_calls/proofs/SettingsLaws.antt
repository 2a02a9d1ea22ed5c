-- A frame call is also its pass at settings that give every macroblock level 0 at header level 0 and are those given at any other. The code
-- needs no such settings; a decoder that has only the passes can make a frame call so.
use mathlib.Core.Path.{◌≡◌, refl, ap, ◌∙◌, fun_ext}
use mathlib.Core.Bool.{Bool, true, false, cond, not, ◌&&◌}
use Prim.Native.Nat.{ℕ}
use lib.Dec.{eqb}
use borrow.Author.Tests.{eqb-true}
use Rattle.levels.specs.Levels.{clamp_level, base_level, segment_level, adjusted_level, key_level, inter_level}
use Rattle.levels.specs.declared.config.FrameFilterConfig.{FrameFilterConfig}
use Rattle.planes.specs.Steps.{steps, tally}
use Rattle.planes.specs.Smoothed.{macroblock_smoothed}
use Rattle.planes.specs.Planes.{Planes}
use Rattle.planes.specs.Macroblock.{Plan, leave, filter_macroblock}
use Rattle.calls.specs.Entries.{Entry}
use Rattle.calls.specs.Pass.{Pass, Call, key_pass, inter_pass, inside_of, plan_at, key_plan, inter_plan, refusal, step, count, next, answer, planes_after}
use Rattle.arithmetic.specs.Outcome.{gives, refuses}
use Rattle.calls.specs.Smoothed.{step_smoothed, part}
use Rattle.calls.specs.Answers.{Passed}
use Rattle.std.proofs.Common.{Result}
use Rattle.calls.specs.declared.answers.Done.{Done}
use Rattle.calls.specs.declared.answers.PassRefusal.{PassRefusal}
use Rattle.frame_calls.specs.Skip.{filter_off, skipping, frame_call}

-- ---- the settings

-- those given, but at header level 0 without segments and deltas
unfoldable pub pass_settings : FrameFilterConfig → FrameFilterConfig
pass_settings config =
    record {
      simple = config.simple;
      key_frame = config.key_frame;
      loop_filter_level = config.loop_filter_level;
      sharpness_level = config.sharpness_level;
      segmentation_enabled = config.segmentation_enabled && not (filter_off config);
      segment_abs = config.segment_abs;
      segment_lf_level = config.segment_lf_level;
      delta_enabled = config.delta_enabled && not (filter_off config);
      ref_delta_current = config.ref_delta_current;
      bpred_mode_delta = config.bpred_mode_delta;
      ref_delta_last = config.ref_delta_last;
      ref_delta_golden = config.ref_delta_golden;
      ref_delta_altref = config.ref_delta_altref;
      zero_mv_mode_delta = config.zero_mv_mode_delta;
      other_mv_mode_delta = config.other_mv_mode_delta;
      split_mv_mode_delta = config.split_mv_mode_delta;
    }

and-on : (b : Bool) → (b && not false) ≡ b
and-on true = refl
and-on false = refl

and-off : (b : Bool) → (b && not true) ≡ false
and-off true = refl
and-off false = refl

-- at any other header level they stay
stays : (s : FrameFilterConfig) → filter_off s ≡ false → pass_settings s ≡ s
unfolding pass_settings
stays s on =
    λ i. record {
      simple = s.simple;
      key_frame = s.key_frame;
      loop_filter_level = s.loop_filter_level;
      sharpness_level = s.sharpness_level;
      segmentation_enabled = kept s.segmentation_enabled i;
      segment_abs = s.segment_abs;
      segment_lf_level = s.segment_lf_level;
      delta_enabled = kept s.delta_enabled i;
      ref_delta_current = s.ref_delta_current;
      bpred_mode_delta = s.bpred_mode_delta;
      ref_delta_last = s.ref_delta_last;
      ref_delta_golden = s.ref_delta_golden;
      ref_delta_altref = s.ref_delta_altref;
      zero_mv_mode_delta = s.zero_mv_mode_delta;
      other_mv_mode_delta = s.other_mv_mode_delta;
      split_mv_mode_delta = s.split_mv_mode_delta;
    }
  where
    kept : (b : Bool) → (b && not (filter_off s)) ≡ b
    kept b = ap (λ (off : Bool). b && not off) on ∙ and-on b

-- ---- the levels at header level 0

module _ (s : FrameFilterConfig) (off : filter_off s ≡ true) where
  gone : (b : Bool) → (b && not (filter_off s)) ≡ false
  gone b = ap (λ (o : Bool). b && not o) off ∙ and-off b

  key-level-0 : (e : Entry) → key_level (pass_settings s) e.segment e.mode ≡ 0
  unfolding key_level segment_level base_level pass_settings filter_off clamp_level
  key-level-0 e = rw (gone s.delta_enabled, gone s.segmentation_enabled, eqb-true s.loop_filter_level 0 off) refl

  inter-level-0 : (e : Entry) → inter_level (pass_settings s) e.segment e.reference e.inter_mode e.mode ≡ 0
  unfolding inter_level adjusted_level segment_level base_level pass_settings filter_off clamp_level
  inter-level-0 e = rw (gone s.delta_enabled, gone s.segmentation_enabled, eqb-true s.loop_filter_level 0 off) refl

-- ---- the plans

-- the pass at `pass_settings` has the frame call's plans
unfoldable pub Quiet : Pass → Type 0
Quiet W = (s : FrameFilterConfig) (e : Entry) → W.plan (pass_settings s) e ≡ (skipping W).plan s e

pub key-quiet : Quiet key_pass
unfolding Quiet key_plan plan_at
key-quiet s e = by (filter_off s) refl
  where
    by : (b : Bool) → filter_off s ≡ b → key_plan (pass_settings s) e ≡ cond b leave (key_plan s e)
    by true off = ap (λ (level : ℕ). plan_at (pass_settings s) level (inside_of e)) (key-level-0 s off e)
    by false on = ap (λ (t : FrameFilterConfig). key_plan t e) (stays s on)

pub inter-quiet : Quiet inter_pass
unfolding Quiet inter_plan plan_at
inter-quiet s e = by (filter_off s) refl
  where
    by : (b : Bool) → filter_off s ≡ b → inter_plan (pass_settings s) e ≡ cond b leave (inter_plan s e)
    by true off = ap (λ (level : ℕ). plan_at (pass_settings s) level (inside_of e)) (inter-level-0 s off e)
    by false on = ap (λ (t : FrameFilterConfig). inter_plan t e) (stays s on)

-- ---- a call

-- a call of the pass with other settings
abbrev pub at-settings : {W : Pass} → FrameFilterConfig → Call W → Call W
at-settings s a = record { grid = a.grid; settings = s; carried = a.carried; lent = a.lent; start = a.start; allowance = a.allowance }

module _ (W : Pass) (quiet : Quiet W) (a : Call W) where
  same-planes : planes_after W (at-settings (pass_settings a.settings) a) ≡ planes_after (skipping W) (frame_call W a)
  unfolding planes_after refusal count step Quiet
  same-planes =
      ap (λ (plan : ℕ → Plan). cond (eqb (refusal W a) 0) (steps (filter_macroblock a.grid plan) a.start (count W a) a.lent) a.lent)
      (fun_ext (λ m. quiet a.settings (W.entry a.carried m)))

  same-part : part W (at-settings (pass_settings a.settings) a) ≡ part (skipping W) (frame_call W a)
  unfolding part refusal count step step_smoothed Quiet
  same-part =
      ap (λ (plan : ℕ → Plan). cond (eqb (refusal W a) 0) (gives (tally (filter_macroblock a.grid plan) (macroblock_smoothed a.grid plan) a.start (count W a) a.lent)) (refuses (refusal W a)))
      (fun_ext (λ m. quiet a.settings (W.entry a.carried m)))

  same_answer : answer W (at-settings (pass_settings a.settings) a) ≡ answer (skipping W) (frame_call W a)
  unfolding answer refusal count next
  same_answer = refl

  pub framed : (s : FrameFilterConfig) (r : Result Done PassRefusal) (after : Planes) → s ≡ pass_settings a.settings → Passed W (at-settings s a) r after → Passed (skipping W) (frame_call W a) r after
  framed s r after e passed = record {
    answered = passed.answered ∙ ap (λ (t : FrameFilterConfig). answer W (at-settings t a)) e ∙ same_answer;
    counted = passed.counted ∙ ap (λ (t : FrameFilterConfig). part W (at-settings t a)) e ∙ same-part;
    filtered = passed.filtered ∙ ap (λ (t : FrameFilterConfig). planes_after W (at-settings t a)) e ∙ same-planes;
  }
