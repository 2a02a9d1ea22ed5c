-- Laws of the passes: a turn of their loop, what their judge's answer comes to, and what its range asks. Assumes nothing.
use Rattle.std.proofs.Common.{◌≡◌, sym, subst, ap, ap₂, ◌∙◌, false, ℕ, ◌+◌, ◌-◌, ◌*◌, ◌≤◌, ◌<◌, arith, length, Result, Ok, Err}
use Rattle.levels.specs.declared.config.FrameFilterConfig.{FrameFilterConfig}
use Rattle.planes.specs.Steps.{steps, tally}
use Rattle.planes.specs.Planes.{Plane, luma, chroma_u, chroma_v, Planes, plane, Grid, macroblocks}
use Rattle.planes.specs.Macroblock.{Plan, filter_macroblock}
use Rattle.planes.specs.Smoothed.{macroblock_smoothed}
use Rattle.planes.specs.Layout.{grid_of}
use Rattle.planes.specs.declared.layout.PlaneLayout.{PlaneLayout}
use Rattle.calls.specs.Entries.{Entry}
use Rattle.calls.specs.Pass.{Pass, Call, step}
use Rattle.calls.specs.PassCalls.{call_of}
use Rattle.calls.specs.Smoothed.{step_smoothed}
use Rattle.calls.specs.Answers.{Passed}
use Rattle.calls.specs.declared.answers.Done.{Done}
use Rattle.calls.specs.declared.answers.PassRefusal.{PassRefusal}
use Rattle.frame.specs.Private.Ranges.{Sound, Range}
use Rattle.judge.specs.Batches.{seen, batch_of}
use Rattle.judge.specs.declared.batch.Batch.{Batch}
use Rattle.judge.proofs.Judgement.{Sized, Meets, seen_of, refusal_meets, batch_meets}
use Rattle.planes.proofs.Steps.{steps-last}
use Rattle.planes.proofs.Tally.{tally-last, tally-most}
use Rattle.planes.proofs.SmoothedLaws.{macroblock-most, same-smoothed}
use Rattle.planes.proofs.Alike.{length-steps}
use Rattle.frame.proofs.Soundness.{sound, sound-kept}

-- ---- a turn of the loop

-- a step looks at the plan of its own macroblock alone
own-plan : (g : Grid) (plan : ℕ → Plan) (P : Plan) (m : ℕ) (p : Planes) → P ≡ plan m → filter_macroblock g (λ _. P) m p ≡ filter_macroblock g plan m p
unfolding filter_macroblock
own-plan g plan P m p e = rw e

module _ (W : Pass) (g : Grid) (settings : FrameFilterConfig) (entries : ℕ → Entry) (from : ℕ) (p₀ : Planes) where
  pub no-turn : p₀ ≡ steps (step W g settings entries) from (from - from) p₀
  unfolding steps
  no-turn = let e : from - from ≡ 0 = omega arith in rw e

  pub one-turn : (m : ℕ) (P : Plan) (p p' : Planes) → from ≤ m → P ≡ W.plan settings (entries m)
      → p ≡ steps (step W g settings entries) from (m - from) p₀ → p' ≡ filter_macroblock g (λ _. P) m p
      → p' ≡ steps (step W g settings entries) from (m + 1 - from) p₀
  unfolding step
  one-turn m P p p' h e q r =
      let i : m + 1 - from ≡ m - from + 1 = omega arith in
      let j : from + (m - from) ≡ m = omega arith in
      r ∙ own-plan g (λ k. W.plan settings (entries k)) P m p e
      ∙ rw (i, steps-last (step W g settings entries) from (m - from) p₀, j, q)

  pub no-count : 0 ≡ tally (step W g settings entries) (step_smoothed W g settings entries) from (from - from) p₀
  unfolding tally
  no-count = let e : from - from ≡ 0 = omega arith in rw e

  -- what a turn adds to the total
  pub one-count : (m : ℕ) (P : Plan) (p : Planes) (s s' : ℕ) → from ≤ m → P ≡ W.plan settings (entries m)
      → p ≡ steps (step W g settings entries) from (m - from) p₀ → s ≡ tally (step W g settings entries) (step_smoothed W g settings entries) from (m - from) p₀
      → s' ≡ macroblock_smoothed g (λ _. P) m p → s + s' ≡ tally (step W g settings entries) (step_smoothed W g settings entries) from (m + 1 - from) p₀
  unfolding step_smoothed
  one-count m P p s s' h e q es r =
      let i : m + 1 - from ≡ m - from + 1 = omega arith in
      let j : from + (m - from) ≡ m = omega arith in
      ap₂ {C = ℕ} (λ x y. x + y) es (r ∙ same-smoothed g (λ _. P) (λ k. W.plan settings (entries k)) m p e)
      ∙ rw (i, tally-last (step W g settings entries) (step_smoothed W g settings entries) from (m - from) p₀, j, q)

  -- no total comes near 2 ^ 64
  pub few-counted : (m : ℕ) → tally (step W g settings entries) (step_smoothed W g settings entries) from (m - from) p₀ ≤ 192 * m
  unfolding step_smoothed
  few-counted m =
      omega (arith, tally-most (step W g settings entries) (step_smoothed W g settings entries) 192 (λ k p. macroblock-most g (λ i. W.plan settings (entries i)) k p) from (m - from) p₀)

  pub few-after : (m : ℕ) (P : Plan) (p : Planes) (s s' : ℕ) → s ≡ tally (step W g settings entries) (step_smoothed W g settings entries) from (m - from) p₀
      → s' ≡ macroblock_smoothed g (λ _. P) m p → s + s' ≤ 192 * (m + 1)
  few-after m P p s s' es r = omega (arith, few-counted m, macroblock-most g (λ _. P) m p)

-- ---- what a turn asks

-- the grid still lies in the planes after the steps before
pub sound_on : (W : Pass) (layout : PlaneLayout) (settings : FrameFilterConfig) (entries : ℕ → Entry) (from n : ℕ) (p₀ p : Planes)
    → Sound layout p₀.y p₀.u p₀.v → p ≡ steps (step W (grid_of layout) settings entries) from n p₀ → Sound layout p.y p.u p.v
unfolding step
sound_on W layout settings entries from n p₀ p s e =
    let same = λ (q : Plane). ap (λ (x : Planes). length (plane q x)) e ∙ length-steps (grid_of layout) (λ m. W.plan settings (entries m)) from n p₀ q in
    sound-kept layout p₀.y p₀.u p₀.v p.y p.u p.v (same luma) (same chroma_u) (same chroma_v) s

-- ---- what the judge's answer comes to

module _ (W : Pass) (layout : PlaneLayout) (carried : W.Carried) (config : FrameFilterConfig) (p : Planes) (start allowance : ℕ) where
  abbrev pub the_call : Call W
  the_call = call_of W layout carried config p start allowance

  module _ (y u v : ℕ) (r : Result Batch PassRefusal) (ey : y ≡ length p.y) (eu : u ≡ length p.u) (ev : v ≡ length p.v)
      (e : r ≡ batch_of (seen (grid_of layout) y u v (W.wrong_length carried (macroblocks (grid_of layout))) (W.bad_entry carried) start allowance)) where
    judged : batch_of (seen_of W the_call) ≡ r
    judged = sym (e ∙ rw (ey, eu, ev))

    pub refused : (n : PassRefusal) (x : Result Done PassRefusal) → r ≡ Err n → x ≡ Err n → Passed W the_call x p
    refused n x h e = subst (λ (y : Result Done PassRefusal). Passed W the_call y p) (sym e) (refusal_meets W the_call n (judged ∙ h))

    pub batched : (b : Batch) → r ≡ Ok b → Meets W the_call b
    batched b h = batch_meets W the_call b (judged ∙ h)

  sized-sound : Sized W the_call → Sound layout p.y p.u p.v
  sized-sound s = sound layout p.y p.u p.v s.large s.strides s.short

  pub range_of : (b : Batch) → Meets W the_call b → Range layout p b.«from» b.«to»
  range_of b m = record {
    ordered = m.ordered;
    within = m.within;
    sound = λ h. sized-sound (m.sized (omega (arith, h)));
  }

  pub listed_of : (b : Batch) → Meets W the_call b → b.«from» < b.«to» → W.wrong_length carried (macroblocks (grid_of layout)) ≡ false
  listed_of b m h = (m.sized (omega (arith, h))).lengths
