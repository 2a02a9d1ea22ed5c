-- What the code of a frame call does: the pass where the header level is not 0, else the judgement alone. For every pass.
use Rattle.std.proofs.Common.{◌≡◌, sym, ap, subst, ◌∙◌, cond, Bool, true, false, ℕ, length, Result, Ok, Err}
use Rattle.levels.specs.declared.config.FrameFilterConfig.{FrameFilterConfig}
use Rattle.planes.specs.Planes.{Planes, macroblocks}
use Rattle.planes.specs.Macroblock.{leave}
use Rattle.planes.specs.Layout.{grid_of}
use Rattle.planes.specs.declared.layout.PlaneLayout.{PlaneLayout}
use Rattle.planes.proofs.Tally.{tally-none}
use Rattle.planes.proofs.SmoothedLaws.{left-smoothed}
use Rattle.calls.specs.Pass.{Pass, Call, step}
use Rattle.calls.specs.PassCalls.{call_of}
use Rattle.calls.specs.Smoothed.{step_smoothed}
use Rattle.calls.specs.Answers.{Passed}
use Rattle.calls.specs.declared.answers.Done.{Done}
use Rattle.calls.specs.declared.answers.PassRefusal.{PassRefusal}
use Rattle.judge.specs.Batches.{seen, batch_of}
use Rattle.judge.specs.declared.batch.Batch.{Batch}
use Rattle.judge.proofs.Judgement.{seen_of, refusal_meets, batch_meets}
use Rattle.frame_calls.specs.Skip.{filter_off, skipping, frame_call}
use Rattle.frame_calls.proofs.SkipLaws.{beside-pass, steps-skipped}

module _ (W : Pass) (layout : PlaneLayout) (carried : W.Carried) (config : FrameFilterConfig) (p : Planes) (start allowance : ℕ) where
  abbrev the_call : Call W
  the_call = call_of W layout carried config p start allowance

  -- ---- another header level than 0

  pub unskipped : filter_off config ≡ false → (r : Result Done PassRefusal) (after : Planes) → Passed W the_call r after → Passed (skipping W) (frame_call W the_call) r after
  unskipped on r after passed =
      let beside = beside-pass W the_call in
      record {
        answered = passed.answered ∙ sym beside.same_answer;
        counted = passed.counted ∙ sym (beside.same-part on);
        filtered = passed.filtered ∙ sym (beside.not-skipped on);
      }

  -- ---- header level 0

  module _ (y u v : ℕ) (r : Result Batch PassRefusal) (ey : y ≡ length p.y) (eu : u ≡ length p.u) (ev : v ≡ length p.v)
      (e : r ≡ batch_of (seen (grid_of layout) y u v (W.wrong_length carried (macroblocks (grid_of layout))) (W.bad_entry carried) start allowance)) where
    judged : batch_of (seen_of (skipping W) (frame_call W the_call)) ≡ r
    judged = sym (e ∙ rw (ey, eu, ev))

    pub skip-refused : (n : PassRefusal) (x : Result Done PassRefusal) → r ≡ Err n → x ≡ Err n → Passed (skipping W) (frame_call W the_call) x p
    skip-refused n x h q =
        subst (λ (z : Result Done PassRefusal). Passed (skipping W) (frame_call W the_call) z p) (sym q) (refusal_meets (skipping W) (frame_call W the_call) n (judged ∙ h))

    pub skipped : filter_off config ≡ true → (b : Batch) → r ≡ Ok b → Passed (skipping W) (frame_call W the_call) (Ok (record { «count» = b.«done».«count»; «next» = b.«done».«next»; «smoothed» = 0 })) p
    unfolding step_smoothed
    skipped off b h =
        (batch_meets (skipping W) (frame_call W the_call) b (judged ∙ h)).done 0 p
        (sym (tally-none (step (skipping W) (grid_of layout) config (W.entry carried)) (step_smoothed (skipping W) (grid_of layout) config (W.entry carried)) _ _
        (λ m b l q. left-smoothed (grid_of layout) (λ i. (skipping W).plan config (W.entry carried i)) m q (ap (λ (t : Bool). cond t leave (W.plan config (W.entry carried m))) off)) p))
        (sym (steps-skipped W (grid_of layout) config (W.entry carried) _ _ p off))
