-- The pairs of the loop are the steps of the definition, and what is left of them is what a call answers. Assumes nothing.
use mathlib.Core.Path.{◌≡◌, refl, sym, ap, ◌∙◌}
use mathlib.Core.Bool.{Bool, true, false, cond}
use mathlib.Core.List.{◌∷◌}
use Prim.Native.Nat.{ℕ, ◌+◌}
use lib.Dec.{eqb, ltb}
use borrow.Author.Tests.{eq-eqb, ne_eqb}
use Rattle.arithmetic.specs.Outcome.{gives, refuses}
use Rattle.planes.specs.Planes.{Planes}
use Rattle.planes.specs.Steps.{steps}
use Rattle.calls.specs.Pass.{Pass}
use Rattle.sums.specs.Answers.{search_refusal_number}
use Rattle.sums.specs.Sums.{error_sum}
use Rattle.sums.specs.declared.answers.SearchRefusal.{SearchRefusal}
use Rattle.scratch.specs.Copies.{copy_grid, copied_grid}
use Rattle.scratch.proofs.CopyLaws.{steps_next}
use Rattle.search.specs.Candidates.{Candidate, Standing, consider, unfiltered}
use Rattle.search.specs.Search.{SearchCall, candidate_of, planes_of_candidate, score, base_sharpness, search_refusal, unfiltered_answer}
use Rattle.search.specs.Private.Ready.{Ready}
use Rattle.search.specs.Private.SearchCode.{pair_of}
use Rattle.search.proofs.Endings.{zero-score, not-started}
use Rattle.search.proofs.Scores.{candidate-made}
use Rattle.stills.specs.Answers.{full_outcome}
use Rattle.stills.specs.FullSearch.{pair_at, after_pairs, full_search, full_choice, full_answer, scratch_after_full, FullSearched}
use Rattle.stills.specs.Private.FullCode.{best_of, taken, AllTried, Ended}
use Rattle.std.specs.Prelude.{Ok, Err}
use Rattle.stills.specs.declared.answers.Best.{Best}

module _ (W : Pass) (a : SearchCall W) where
  taken_is : (s : Standing) (c : Candidate) → taken (best_of s) (pair_of c) (score W a c) ≡ best_of (consider (score W a) (base_sharpness a.settings) s c)
  unfolding taken consider
  taken_is s c = by (ltb (score W a c) s.sum)
    where
      by : (b : Bool) → cond b (record { «pair» = pair_of c; «sum» = score W a c }) (best_of s)
          ≡ best_of (record { best = cond b c s.best; sum = cond b (score W a c) s.sum; scored = c ∷ s.scored })
      by true = refl
      by false = refl

  pub pair-taken : (i : ℕ) (b r : Best) (n : ℕ) → r ≡ taken b (pair_of (pair_at i)) n → n ≡ score W a (pair_at i)
      → r ≡ taken b (pair_of (pair_at i)) (score W a (pair_at i))
  pair-taken i b r n e h = e ∙ ap (taken b (pair_of (pair_at i))) h

  pub pairs-more : (i : ℕ) (b r : Best) (other : Candidate → ℕ) → other ≡ score W a → b ≡ best_of (after_pairs W a i)
      → r ≡ taken b (pair_of (pair_at i)) (other (pair_at i)) → r ≡ best_of (after_pairs W a (i + 1))
  unfolding after_pairs
  pairs-more i b r other eo eb er =
      er ∙ (λ k. taken (eb k) (pair_of (pair_at i)) (eo k (pair_at i)))
      ∙ taken_is (after_pairs W a i) (pair_at i)
      ∙ ap best_of (sym (steps_next (λ i s. consider (score W a) (base_sharpness a.settings) s (pair_at i)) i (unfiltered (score W a) (base_sharpness a.settings))))

  pub pairs_end : (i : ℕ) (b : Best) → b ≡ best_of (after_pairs W a i) → i ≡ 504 → b ≡ best_of (full_search W a)
  unfolding full_search
  pairs_end i b e h = e ∙ ap (λ (k : ℕ). best_of (after_pairs W a k)) h

  -- before the first pair, unfiltered stands
  pub pairs-none : (base sum : ℕ) → base ≡ base_sharpness a.settings → sum ≡ error_sum a.grid a.reconstruction a.source
      → record { «pair» = record { «level» = 0; «sharpness» = base }; «sum» = sum } ≡ best_of (after_pairs W a 0)
  unfolding after_pairs steps unfiltered
  pairs-none base sum eb es = λ k. record { «pair» = record { «level» = 0; «sharpness» = eb k }; «sum» = (es ∙ sym (zero-score W a (base_sharpness a.settings))) k }

  pub ended : (r : Best) (t after : Planes) → Ready W a → AllTried W a r t
      → after ≡ copied_grid a.grid (planes_of_candidate W a (candidate_of r.«pair»)) t → Ended W a r after
  ended r t after ready h e = record {
    best = h.best;
    scratch =
        candidate-made W a (candidate_of r.«pair») t after ready.planes (h.scratch.same ∙ ready.scratch) e
        ∙ ap (λ (f : Best). copy_grid a.grid (planes_of_candidate W a (candidate_of f.«pair»)) t) h.best
        ∙ h.scratch.over (planes_of_candidate W a (full_search W a).best);
  }

  pub chosen : search_refusal W a ≡ 0 → (r : Best) (after : Planes) → Ended W a r after → FullSearched W a (full_outcome (Ok r)) after
  unfolding full_answer scratch_after_full full_choice
  chosen accepted r after h =
      let n : eqb (search_refusal W a) 0 ≡ true = eq-eqb (search_refusal W a) 0 accepted in
      record { answer = rw n (ap (λ (b : Best). gives (record { level = b.«pair».«level»; sharpness = b.«pair».«sharpness»; sum = b.«sum» })) h.best); scratch = rw n h.scratch }

  pub refused : (w : SearchRefusal) (after : Planes) → refuses (search_refusal_number w) ≡ unfiltered_answer W a → after ≡ a.scratch → FullSearched W a (full_outcome (Err w)) after
  unfolding full_answer scratch_after_full
  refused w after h k =
      let (never, e) = not-started W a (search_refusal_number w) h in
      let n : eqb (search_refusal W a) 0 ≡ false = ne_eqb (search_refusal W a) 0 never in
      record { answer = rw n (ap refuses e); scratch = rw n k }
