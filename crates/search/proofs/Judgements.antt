-- Which refusal a search gives, from the judgements that come before it. Assumes nothing.
use mathlib.Core.Path.{◌≡◌, refl, sym, ap, ◌∙◌}
use mathlib.Core.Bool.{Bool, true, false, cond, ◌||◌}
use Prim.Native.Nat.{ℕ}
use native.Mathlib.Omega.{arith}
use borrow.Author.Tests.{ne_eqb}
use Rattle.arithmetic.specs.Outcome.{refuses}
use Rattle.planes.specs.Planes.{Grid, macroblocks}
use Rattle.planes.specs.GridRefusals.{zero_grid, past_grid}
use Rattle.calls.specs.Pass.{Pass}
use Rattle.sums.specs.Bytes.{BytePlanes}
use Rattle.sums.specs.Source.{Source, source_too_large, bad_source}
use Rattle.sums.specs.Sums.{error_sum, past_source, sum_too_large, sum_answer}
use Rattle.search.specs.Search.{SearchCall, score, search, any_too_large, past_entries, search_refusal, unfiltered_answer}
use Rattle.sums.specs.Answers.{search_refusal_number}
use Rattle.sums.specs.declared.answers.SearchRefusal.{SearchRefusal}
use Rattle.planes.proofs.PastGrid.{grid-none, grid-passes}
use Rattle.search.specs.Private.Ready.{Ready}
use Rattle.sums.proofs.SumRefusals.{some_search, sum_stops, source-passes}
use Rattle.sums.proofs.SumRefusals.{judged as judged-sum}

-- ---- 6

module _ (W : Pass) (g : Grid) (carried : W.Carried) (rest : ℕ) where
  pub entries_stop : (n : ℕ) → n ≡ past_entries W g carried 0 → (n ≡ 0 → ⊥) → past_entries W g carried rest ≡ n
  unfolding past_entries
  entries_stop n e nz = by (zero_grid g || W.wrong_length carried (macroblocks g)) (W.bad_entry carried) e
    where
      by : (a b : Bool) → n ≡ cond a 0 (cond b 6 0) → cond a rest (cond b 6 rest) ≡ n
      by true b q = absurd (nz q)
      by false true q = sym q
      by false false q = absurd (nz q)

  pub entries_pass : past_entries W g carried 0 ≡ 0 → past_entries W g carried rest ≡ rest
  unfolding past_entries
  entries_pass e = by (zero_grid g || W.wrong_length carried (macroblocks g)) (W.bad_entry carried) e
    where
      by : (a b : Bool) → ◌≡◌ {A = ℕ} (cond a 0 (cond b 6 0)) 0 → cond a rest (cond b 6 rest) ≡ rest
      by true b q = refl
      by false true q = absurd (omega arith)
      by false false q = refl

module _ (W : Pass) (a : SearchCall W) where
  -- where 1, 2, 3, 8 and 9 refuse nothing, no sum is too large
  abbrev pub Small : Type 0
  Small =
      past_grid a.grid a.reconstruction 0 ≡ 0 → past_source a.grid a.source 0 ≡ 0
      → (any_too_large (score W a) (search W a).scored ≡ false) × (sum_too_large (error_sum a.grid a.reconstruction a.source) ≡ false)

  pub refused_by : (n : SearchRefusal) → search_refusal_number n ≡ search_refusal W a → refuses (search_refusal_number n) ≡ unfiltered_answer W a
  unfolding unfiltered_answer
  refused_by n e = rw (← e, ne_eqb (search_refusal_number n) 0 (some_search n)) refl

  module _ (p : past_grid a.grid a.reconstruction 0 ≡ 0) where
    -- 1, 2, 3 of the scratch planes, 8 and 9
    pub scratch_stops : (n : SearchRefusal) → search_refusal_number n ≡ past_grid a.grid a.scratch (past_source a.grid a.source 0) → search_refusal_number n ≡ search_refusal W a
    unfolding search_refusal
    scratch_stops n e =
        sym (grid-passes a.grid a.reconstruction _ p
        ∙ sum_stops a.grid a.scratch a.source (past_entries W a.grid a.carried (cond (any_too_large (score W a) (search W a).scored) 10 0)) (search_refusal_number n) e (some_search n))

    module _ (t : past_grid a.grid a.scratch 0 ≡ 0) (s : past_source a.grid a.source 0 ≡ 0) where
      late : search_refusal W a ≡ past_entries W a.grid a.carried (cond (any_too_large (score W a) (search W a).scored) 10 0)
      unfolding search_refusal
      late = grid-passes a.grid a.reconstruction _ p ∙ grid-passes a.grid a.scratch _ t ∙ source-passes a.grid a.source _ s

      pub entries_refused : (n : SearchRefusal) → search_refusal_number n ≡ past_entries W a.grid a.carried 0 → search_refusal_number n ≡ search_refusal W a
      entries_refused n e =
          sym (late ∙ entries_stop W a.grid a.carried (cond (any_too_large (score W a) (search W a).scored) 10 0) (search_refusal_number n) e (some_search n))

      pub summed : Small → past_entries W a.grid a.carried 0 ≡ 0 → sum_answer a.grid a.reconstruction a.source ≡ unfiltered_answer W a
      unfolding sum_answer unfiltered_answer
      summed small e =
          let k = small p s in
          let none : search_refusal W a ≡ 0 = late ∙ entries_pass W a.grid a.carried (cond (any_too_large (score W a) (search W a).scored) 10 0) e ∙ ap (λ (b : Bool). cond b 10 0) k.0 in
          rw (judged-sum a.grid a.reconstruction a.source p s, k.1, none) refl

-- ---- an accepted search

source-none : (g : Grid) (s : Source) (rest : ℕ) → past_source g s rest ≡ 0 → past_source g s 0 ≡ 0
unfolding past_source
source-none g s rest e = by (source_too_large g s) (bad_source s) e
  where
    by : (a b : Bool) → ◌≡◌ {A = ℕ} (cond a 8 (cond b 9 rest)) 0 → ◌≡◌ {A = ℕ} (cond a 8 (cond b 9 0)) 0
    by true b e = absurd (omega arith)
    by false true e = absurd (omega arith)
    by false false e = refl

pub accepted-ready : (W : Pass) (a : SearchCall W) → BytePlanes a.reconstruction → BytePlanes a.source.samples → search_refusal W a ≡ 0 → Ready W a
unfolding search_refusal
accepted-ready W a bytes source_bytes e =
    let (p, e1) = grid-none a.grid a.reconstruction _ e in
    let (t, e2) = grid-none a.grid a.scratch _ e1 in
    record { planes = p; scratch = t; source = source-none a.grid a.source _ e2; bytes = bytes; source_bytes = source_bytes }
