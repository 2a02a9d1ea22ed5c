-- Laws of the judge: its answer is `answer`, its macroblocks are those of `planes_after`, and where it names one the tests of the grid have passed. Assumes nothing.
use Rattle.std.proofs.Common.{◌≡◌, refl, ap, subst, ◌∙◌, Bool, true, false, ℕ, ◌+◌, ◌-◌, ◌≤◌, ◌<◌, min, arith, ltb, eqb, length, Result, Ok, Err}
use borrow.Author.Tests.{ltb-false}
use Rattle.arithmetic.specs.Outcome.{gives}
use Rattle.planes.specs.Steps.{steps, tally}
use Rattle.planes.specs.Planes.{Planes, macroblocks}
use Rattle.planes.specs.GridRefusals.{zero_grid, too_large, bad_strides, short_planes, after_grid, short_by}
use Rattle.planes.proofs.GridLaws.{none}
use Rattle.calls.specs.Pass.{Pass, Call, refusal, step, count, next, answer, planes_after}
use Rattle.calls.specs.Answers.{pass_refusal_number, Passed}
use Rattle.calls.specs.Smoothed.{step_smoothed, part}
use Rattle.calls.specs.declared.answers.PassRefusal.{PassRefusal}
use Rattle.calls.specs.declared.answers.PassRefusal.TheVariants.{TooLarge, BadStrides, ShortPlane, WrongLength, BadEntry, StartBeyond}
use Rattle.judge.specs.Batches.{Seen, none_to_do, accepted_batch, done_of, batch_of}
use Rattle.judge.specs.declared.batch.Batch.{Batch}

-- ---- what it comes to, for a call

abbrev pub seen_of : (W : Pass) → Call W → Seen
seen_of W a = record {
  grid = a.grid;
  y_length = length a.lent.y;
  u_length = length a.lent.u;
  v_length = length a.lent.v;
  wrong_length = W.wrong_length a.carried (macroblocks a.grid);
  bad_entry = W.bad_entry a.carried;
  start = a.start;
  allowance = a.allowance;
}

-- the grid's tests pass
pub record Sized (W : Pass) (a : Call W) : Type 0 where
  pub large : too_large a.grid ≡ false
  pub strides : bad_strides a.grid ≡ false
  pub short : short_by a.grid (length a.lent.y) (length a.lent.u) (length a.lent.v) ≡ false
  pub lengths : W.wrong_length a.carried (macroblocks a.grid) ≡ false

-- what the steps of a call smooth, count of them from k on
abbrev pub smoothed_by : (W : Pass) → Call W → (k count : ℕ) → ℕ
smoothed_by W a k count = tally (step W a.grid a.settings (W.entry a.carried)) (step_smoothed W a.grid a.settings (W.entry a.carried)) k count a.lent

-- the planes after so many steps from k on
abbrev pub turned : (W : Pass) → Call W → (k count : ℕ) → Planes
turned W a k count = steps (step W a.grid a.settings (W.entry a.carried)) k count a.lent

-- what a batch promises: its macroblocks done are the call
pub record Meets (W : Pass) (a : Call W) (b : Batch) : Type 0 where
  pub ordered : b.«from» ≤ b.«to»
  pub within : b.«to» ≤ macroblocks a.grid
  pub sized : 0 < b.«to» → Sized W a
  pub done : (smoothed : ℕ) (after : Planes) → smoothed ≡ smoothed_by W a b.«from» (b.«to» - b.«from») → after ≡ turned W a b.«from» (b.«to» - b.«from»)
      → Passed W a (Ok (done_of b smoothed)) after

-- a refusal, or a batch that meets the call
unfoldable Judges : (W : Pass) → Call W → Result Batch PassRefusal → Type 0
Judges W a (Err r) = Passed W a (Err r) a.lent
Judges W a (Ok b) = Meets W a b

module _ (W : Pass) (a : Call W) where
  refused : (p : PassRefusal) → refusal W a ≡ pass_refusal_number p → eqb (pass_refusal_number p) 0 ≡ false → Passed W a (Err p) a.lent
  unfolding answer planes_after part
  refused p r n = record {
    answered = rw (r, n);
    counted = rw (r, n);
    filtered = rw (r, n);
  }

  zero-met : zero_grid a.grid ≡ true → Meets W a none_to_do
  unfolding answer planes_after refusal count next part steps tally
  zero-met z =
      let e = none a.grid z in
      let i : min a.allowance (macroblocks a.grid - a.start) ≡ 0 = omega (arith, e) in
      let j : min (a.start + 0) (macroblocks a.grid) ≡ 0 = omega (arith, e) in
      record {
        ordered = omega arith;
        within = omega arith;
        sized = λ h. absurd (omega arith);
        done = λ s after e l. record {
          answered = rw (z, i, j);
          counted = ap gives e ∙ rw (z, i);
          filtered = l ∙ rw (z, i);
        };
      }

  accepted-met : refusal W a ≡ 0 → a.start ≤ macroblocks a.grid → Sized W a → Meets W a (accepted_batch (macroblocks a.grid) a.start a.allowance)
  unfolding answer planes_after count next part
  accepted-met r h s =
      let c = min a.allowance (macroblocks a.grid - a.start) in
      let i : min (a.start + c) (macroblocks a.grid) ≡ a.start + c = omega arith in
      let j : a.start + c - a.start ≡ c = omega arith in
      record {
        ordered = omega arith;
        within = omega arith;
        sized = λ _. s;
        done = λ n after e l. record {
          answered = rw (r, i);
          counted = ap gives (e ∙ ap (smoothed_by W a a.start) j) ∙ rw r;
          filtered = l ∙ ap (turned W a a.start) j ∙ rw r;
        };
      }

  same-short : short_planes a.grid a.lent ≡ short_by a.grid (length a.lent.y) (length a.lent.u) (length a.lent.v)
  unfolding short_planes short_by
  same-short = refl

  abbrev judged : Result Batch PassRefusal
  judged = batch_of (seen_of W a)

  -- by the tests, in their order
  by-tests : (z t b h o n k : Bool)
      → zero_grid a.grid ≡ z → too_large a.grid ≡ t → bad_strides a.grid ≡ b
      → short_by a.grid (length a.lent.y) (length a.lent.u) (length a.lent.v) ≡ h
      → W.wrong_length a.carried (macroblocks a.grid) ≡ o → W.bad_entry a.carried ≡ n → ltb (macroblocks a.grid) a.start ≡ k
      → Judges W a judged
  unfolding Judges batch_of refusal after_grid pass_refusal_number
  by-tests true t b h o n k e1 e2 e3 e4 e5 e6 e7 = rw e1 (zero-met e1)
  by-tests false true b h o n k e1 e2 e3 e4 e5 e6 e7 = rw (e1, e2) (refused TooLarge (rw (e1, e2)) refl)
  by-tests false false true h o n k e1 e2 e3 e4 e5 e6 e7 = rw (e1, e2, e3) (refused BadStrides (rw (e1, e2, e3)) refl)
  by-tests false false false true o n k e1 e2 e3 e4 e5 e6 e7 = rw (e1, e2, e3, e4) (refused ShortPlane (rw (e1, e2, e3, same-short ∙ e4)) refl)
  by-tests false false false false true n k e1 e2 e3 e4 e5 e6 e7 = rw (e1, e2, e3, e4, e5) (refused WrongLength (rw (e1, e2, e3, same-short ∙ e4, e5)) refl)
  by-tests false false false false false true k e1 e2 e3 e4 e5 e6 e7 = rw (e1, e2, e3, e4, e5, e6) (refused BadEntry (rw (e1, e2, e3, same-short ∙ e4, e5, e6)) refl)
  by-tests false false false false false false true e1 e2 e3 e4 e5 e6 e7 = rw (e1, e2, e3, e4, e5, e6, e7) (refused StartBeyond (rw (e1, e2, e3, same-short ∙ e4, e5, e6, e7)) refl)
  by-tests false false false false false false false e1 e2 e3 e4 e5 e6 e7 =
      rw (e1, e2, e3, e4, e5, e6, e7)
      (accepted-met (rw (e1, e2, e3, same-short ∙ e4, e5, e6, e7)) (ltb-false (macroblocks a.grid) a.start e7)
      (record { large = e2; strides = e3; short = e4; lengths = e5 }))

  judges : Judges W a judged
  judges = by-tests (zero_grid a.grid) (too_large a.grid) (bad_strides a.grid) (short_by a.grid (length a.lent.y) (length a.lent.u) (length a.lent.v))
      (W.wrong_length a.carried (macroblocks a.grid)) (W.bad_entry a.carried) (ltb (macroblocks a.grid) a.start) refl refl refl refl refl refl refl

  pub refusal_meets : (r : PassRefusal) → batch_of (seen_of W a) ≡ Err r → Passed W a (Err r) a.lent
  unfolding Judges
  refusal_meets r e = subst (Judges W a) e judges

  pub batch_meets : (b : Batch) → batch_of (seen_of W a) ≡ Ok b → Meets W a b
  unfolding Judges
  batch_meets b e = subst (Judges W a) e judges
