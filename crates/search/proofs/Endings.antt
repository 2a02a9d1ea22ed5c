-- How a search ends: with the best candidate of all trials, left in the scratch planes.
use mathlib.Core.Path.{◌≡◌, refl, sym, ap, ◌∙◌}
use mathlib.Core.Bool.{Bool, true, false, cond}
use Prim.Native.Nat.{ℕ, ◌^◌}
use lib.Dec.{eqb, leb}
use native.Mathlib.Omega.{arith}
use borrow.Author.Tests.{eq-eqb, ne_eqb, eqb-true, eqb-false, lt-leb}
use Rattle.arithmetic.specs.Outcome.{gives, refuses}
use Rattle.planes.specs.Steps.{steps}
use Rattle.planes.specs.Planes.{Planes}
use Rattle.calls.specs.Pass.{Pass}
use Rattle.sums.specs.Sums.{error_sum, past_source, sum_too_large}
use Rattle.planes.specs.GridRefusals.{past_grid}
use Rattle.sums.specs.Bytes.{BytePlanes}
use Rattle.scratch.specs.Copies.{copy_grid, copied_grid}
use Rattle.search.specs.Candidates.{coarse}
use Rattle.search.specs.Search.{SearchCall, candidate_of, candidate_planes, planes_of_candidate, score, base_sharpness, search, choice, any_too_large, search_refusal, unfiltered_answer, search_answer, scratch_after, Searched}
use Rattle.sums.specs.Answers.{search_refusal_number}
use Rattle.sums.specs.declared.answers.SearchRefusal.{SearchRefusal}
use Rattle.search.specs.Answers.{params_outcome}
use Rattle.scratch.specs.Private.Alike.{Alike}
use Rattle.search.specs.Private.Ready.{Ready}
use Rattle.search.specs.Private.SearchCode.{after_trial, start_at, Ended, chosen_by}
use Rattle.std.specs.Prelude.{Ok, Err}
use Rattle.search.specs.declared.trials.Best.{Best}
use Rattle.search.proofs.TrialLaws.{all-trials, stand}
use Rattle.search.proofs.Scores.{candidate-made}
use Rattle.search.proofs.PassBytes.{score-fits, none-too-large}

module _ (W : Pass) (a : SearchCall W) where
  -- level 0 scores the unfiltered planes
  pub zero-score : (k : ℕ) → score W a (record { level = 0; sharpness = k }) ≡ error_sum a.grid a.reconstruction a.source
  unfolding score planes_of_candidate candidate_planes
  zero-score k = refl

  module _ (base sum : ℕ) (r : Best) (eb : base ≡ base_sharpness a.settings) (es : sum ≡ error_sum a.grid a.reconstruction a.source)
      (er : r ≡ steps (after_trial (score W a) base) 0 88 (start_at base sum)) where
    best-is : r ≡ stand (score W a) (base_sharpness a.settings) (coarse (score W a) (base_sharpness a.settings)).best.level (search W a)
    unfolding search
    best-is =
        er ∙ (λ i. steps (after_trial (score W a) (eb i)) 0 88 (start_at (eb i) ((es ∙ sym (zero-score (base_sharpness a.settings))) i)))
        ∙ all-trials (score W a) (base_sharpness a.settings)

    pub ended : (t after : Planes) → Ready W a → Alike a.grid a.scratch t
        → after ≡ copied_grid a.grid (planes_of_candidate W a (candidate_of r.«params».«pair»)) t → Ended W a r after
    unfolding choice
    ended t after ready al ea = record {
      best = ap chosen_by best-is;
      scratch =
          candidate-made W a (candidate_of r.«params».«pair») t after ready.planes (al.same ∙ ready.scratch) ea
          ∙ ap (λ (f : Best). copy_grid a.grid (planes_of_candidate W a (candidate_of f.«params».«pair»)) t) best-is ∙ al.over (planes_of_candidate W a (search W a).best);
    }

  -- no sum is too large where 1, 2, 3, 8 and 9 refuse nothing
  module _ (bp : BytePlanes a.reconstruction) (bs : BytePlanes a.source.samples) where
    pub small : past_grid a.grid a.reconstruction 0 ≡ 0 → past_source a.grid a.source 0 ≡ 0
        → (any_too_large (score W a) (search W a).scored ≡ false) × (sum_too_large (error_sum a.grid a.reconstruction a.source) ≡ false)
    unfolding sum_too_large
    small e f = (
      none-too-large W a bp bs e f (search W a).scored,
      ap (λ (n : ℕ). leb (2 ^ 64) n) (sym (zero-score 0)) ∙ lt-leb (2 ^ 64) (score W a (record { level = 0; sharpness = 0 })) (score-fits W a bp bs e f (record { level = 0; sharpness = 0 })),
    )

  -- an unfiltered sum: the search is not refused
  pub started : (n : ℕ) → gives n ≡ unfiltered_answer W a → (search_refusal W a ≡ 0) × (n ≡ error_sum a.grid a.reconstruction a.source)
  unfolding unfiltered_answer
  started n e = by (eqb (search_refusal W a) 0) (eqb-true (search_refusal W a) 0) e
    where
      by : (b : Bool) → (b ≡ true → search_refusal W a ≡ 0) → gives n ≡ cond b (gives (error_sum a.grid a.reconstruction a.source)) (refuses (search_refusal W a))
          → (search_refusal W a ≡ 0) × (n ≡ error_sum a.grid a.reconstruction a.source)
      by true h e = (h refl, cc)
      by false h e = let z : ◌≡◌ {A = ℕ} 0 1 = cc in absurd (omega arith)

  -- no unfiltered sum: the search is refused by that number
  pub not-started : (n : ℕ) → refuses n ≡ unfiltered_answer W a → (search_refusal W a ≡ 0 → ⊥) × (n ≡ search_refusal W a)
  unfolding unfiltered_answer
  not-started n e = by (eqb (search_refusal W a) 0) (eqb-false (search_refusal W a) 0) e
    where
      by : (b : Bool) → (b ≡ false → search_refusal W a ≡ 0 → ⊥) → refuses n ≡ cond b (gives (error_sum a.grid a.reconstruction a.source)) (refuses (search_refusal W a))
          → (search_refusal W a ≡ 0 → ⊥) × (n ≡ search_refusal W a)
      by true h e = let z : ◌≡◌ {A = ℕ} 0 1 = cc in absurd (omega arith)
      by false h e = (h refl, cc)

  -- a search that ended
  pub chosen : search_refusal W a ≡ 0 → (r : Best) (after : Planes) → Ended W a r after
      → Searched W a (params_outcome (Ok r.«params»)) after
  unfolding search_answer scratch_after
  chosen acc r after e =
      let n : eqb (search_refusal W a) 0 ≡ true = eq-eqb (search_refusal W a) 0 acc in
      record { answer = rw n (ap gives e.best); scratch = rw n e.scratch }

-- a search that is refused
pub refused : (W : Pass) (a : SearchCall W) (w : SearchRefusal) (after : Planes) → refuses (search_refusal_number w) ≡ unfiltered_answer W a → after ≡ a.scratch → Searched W a (params_outcome (Err w)) after
unfolding search_answer scratch_after
refused W a w after h k =
    let (never, e) = not-started W a (search_refusal_number w) h in
    let n : eqb (search_refusal W a) 0 ≡ false = ne_eqb (search_refusal W a) 0 never in
    record { answer = rw n (ap refuses e); scratch = rw n k }

-- a search that refuses leaves the scratch planes as they were lent
pub refused-keeps : (W : Pass) (a : SearchCall W) → (search_refusal W a ≡ 0 → ⊥) → scratch_after W a ≡ a.scratch
unfolding scratch_after
refused-keeps W a h = rw (ne_eqb (search_refusal W a) 0 h)
