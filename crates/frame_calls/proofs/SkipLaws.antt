-- The frame call beside its pass: the same answer on every call; the planes as lent at header level 0, and as the pass leaves them at any other. For every pass.
use mathlib.Core.Path.{◌≡◌, refl, ap, ◌∙◌}
use mathlib.Core.Bool.{Bool, true, false, cond}
use mathlib.Core.List.{List}
use Prim.Native.Nat.{ℕ}
use lib.Dec.{eqb}
use Rattle.planes.specs.Steps.{steps, tally}
use Rattle.planes.specs.Smoothed.{macroblock_smoothed}
use Rattle.arithmetic.specs.Outcome.{Outcome, gives, refuses}
use Rattle.planes.specs.Planes.{Planes, Grid}
use Rattle.planes.specs.Macroblock.{Plan, leave, filter_macroblock}
use Rattle.planes.specs.Edges.{places}
use Rattle.calls.specs.Entries.{Entry}
use Rattle.levels.specs.declared.config.FrameFilterConfig.{FrameFilterConfig}
use Rattle.calls.specs.Pass.{Pass, Call, refusal, step, count, next, answer, planes_after}
use Rattle.calls.specs.Calls.{Picture, LastLeft, Calls, first_macroblocks}
use Rattle.calls.specs.Smoothed.{step_smoothed, part, first_smoothed}
use Rattle.planes.proofs.Steps.{steps-inv}
use Rattle.planes.proofs.StepParts.{macroblock-parts, leave-at}
use Rattle.calls.proofs.Demand3.{demand-3}
use Rattle.calls.proofs.Parts.{every-part, parts-promised}
use Rattle.planes.proofs.Tally.{tally-none}
use Rattle.planes.proofs.SmoothedLaws.{left-smoothed}
use Rattle.frame_calls.specs.Skip.{filter_off, skipping, frame_call, BesidePass, BesideSteps, SkippedList}

-- steps that leave every macroblock alone
steps-leave : (g : Grid) (from n : ℕ) (p : Planes) → steps (filter_macroblock g (λ _. leave)) from n p ≡ p
steps-leave g from n p =
    steps-inv (filter_macroblock g (λ _. leave)) (λ q. q ≡ p) (λ m q e. macroblock-parts g (λ _. leave) m q ∙ leave-at g _ _ places q ∙ e) from n p refl

module _ (W : Pass) (g : Grid) (config : FrameFilterConfig) (entries : ℕ → Entry) (from n : ℕ) (p : Planes) where
  -- its steps, where the header level turns the filter off or not
  abbrev steps_if : Bool → Planes
  steps_if off = steps (filter_macroblock g (λ m. cond off leave (W.plan config (entries m)))) from n p

  pub steps-skipped : filter_off config ≡ true → steps (step (skipping W) g config entries) from n p ≡ p
  unfolding step
  steps-skipped off = ap steps_if off ∙ steps-leave g from n p

  pub steps-not-skipped : filter_off config ≡ false → steps (step (skipping W) g config entries) from n p ≡ steps (step W g config entries) from n p
  unfolding step
  steps-not-skipped on = ap steps_if on

module _ (W : Pass) where
  pub beside-pass : (a : Call W) → BesidePass W a
  unfolding answer refusal count next planes_after part step step_smoothed
  beside-pass a = record {
    skipped-part = λ off n e. (every-part (skipping W)).left_alone (frame_call W a) (λ m b l. ap (λ (t : Bool). cond t leave (W.plan a.settings (W.entry a.carried m))) off) n e;
    same-part = λ on. ap smoothed_if on;
    same_answer = refl;
    skipped = λ off. ap kept (steps-skipped W a.grid a.settings (W.entry a.carried) a.start (count W a) a.lent off) ∙ same (eqb (refusal W a) 0);
    not-skipped = λ on. ap kept (steps-not-skipped W a.grid a.settings (W.entry a.carried) a.start (count W a) a.lent on);
  }
    where
      -- what an accepted call leaves, or what was lent
      kept : Planes → Planes
      kept p = cond (eqb (refusal W a) 0) p a.lent

      -- the part, where the header level turns the filter off or not
      smoothed_if : Bool → Outcome ℕ
      smoothed_if off =
          cond (eqb (refusal W a) 0)
          (gives (tally (filter_macroblock a.grid (plans off)) (macroblock_smoothed a.grid (plans off)) a.start (count W a) a.lent))
          (refuses (refusal W a))
        where
          plans : Bool → ℕ → Plan
          plans b m = cond b leave (W.plan a.settings (W.entry a.carried m))

      same : (b : Bool) → cond b a.lent a.lent ≡ a.lent
      same true = refl
      same false = refl

  pub beside-steps : (pic : Picture) (p : Planes) → BesideSteps W pic p
  unfolding first_macroblocks
  beside-steps pic p = record {
    skipped = λ off k. steps-skipped W pic.grid pic.settings pic.entries 0 k p off;
    not-skipped = λ on k. steps-not-skipped W pic.grid pic.settings pic.entries 0 k p on;
  }

  none_of : (pic : Picture) (p : Planes) → filter_off pic.settings ≡ true → (k : ℕ) → first_smoothed (skipping W) pic k p ≡ 0
  unfolding first_smoothed step_smoothed
  none_of pic p off k =
      tally-none (step (skipping W) pic.grid pic.settings pic.entries) (step_smoothed (skipping W) pic.grid pic.settings pic.entries) 0 k
      (λ m b l q. left-smoothed pic.grid (λ i. (skipping W).plan pic.settings (pic.entries i)) m q (ap (λ (b : Bool). cond b leave (W.plan pic.settings (pic.entries m))) off)) p

  pub skipped-list : (pic : Picture) (p : Planes) (list : List (Call (skipping W))) (h : LastLeft)
      → Calls (skipping W) pic (record { planes = p; start = 0 }) list h → filter_off pic.settings ≡ true → SkippedList W pic p list h
  skipped-list pic p list h calls off =
      let promise = demand-3 (skipping W) pic p list h calls in
      record {
        planes = promise.planes ∙ (beside-steps pic p).skipped off _;
        added = promise.added;
        none-smoothed = (parts-promised (skipping W) pic p list h calls).added ∙ none_of pic p off _;
        start = promise.start;
      }
