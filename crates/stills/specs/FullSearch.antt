-- The full search: unfiltered and every level 1 to 63 with every sharpness 0 to 7 are scored. What a call of it answers, and what it leaves in the scratch planes (change request 1).
-- The call, its candidates' scores, its refusals and the base sharpness are those of the search. One text for key and inter frames: `Pass` says in what they differ.
use Rattle.std.specs.Prelude.{◌≡◌, cond, ℕ, ◌+◌, ◌/◌, ◌%◌, eqb}
use Rattle.arithmetic.specs.Outcome.{Outcome, gives, refuses}
use Rattle.planes.specs.Planes.{Planes}
use Rattle.planes.specs.Steps.{steps}
use Rattle.calls.specs.Pass.{Pass}
use Rattle.scratch.specs.Copies.{copy_grid}
use Rattle.search.specs.Candidates.{Candidate, Standing, consider, unfiltered}
use Rattle.search.specs.Search.{SearchCall, planes_of_candidate, score, base_sharpness, search_refusal}

-- pair i of the 504 above unfiltered, in the order of ties: the levels 1 to 63 upward, each with the sharpness values 0 to 7 upward
unfoldable pub pair_at : (i : ℕ) → Candidate
pair_at i = record { level = 1 + i / 8; sharpness = i % 8 }

-- Unfiltered is scored first, then n pairs. Only a strictly smaller sum replaces, so of equal sums the earliest stays.
unfoldable pub after_pairs : (W : Pass) → SearchCall W → (n : ℕ) → Standing
after_pairs W a n =
    steps (λ i s. consider (score W a) (base_sharpness a.settings) s (pair_at i)) 0 n
    (unfiltered (score W a) (base_sharpness a.settings))

unfoldable pub full_search : (W : Pass) → SearchCall W → Standing
full_search W a = after_pairs W a 504

-- what is chosen, and its error sum
pub record FullChoice : Type 0 where
  pub level : ℕ
  pub sharpness : ℕ
  pub sum : ℕ

unfoldable pub full_choice : Standing → FullChoice
full_choice s = record { level = s.best.level; sharpness = s.best.sharpness; sum = s.sum }

-- what the call answers; it is refused as the search is
unfoldable pub full_answer : (W : Pass) → SearchCall W → Outcome FullChoice
full_answer W a = cond (eqb (search_refusal W a) 0) (gives (full_choice (full_search W a))) (refuses (search_refusal W a))

-- the scratch planes as it leaves them
unfoldable pub scratch_after_full : (W : Pass) → SearchCall W → Planes
scratch_after_full W a =
    cond (eqb (search_refusal W a) 0) (copy_grid a.grid (planes_of_candidate W a (full_search W a).best) a.scratch) a.scratch

-- what a full search promises of its answer and of the scratch planes
pub record FullSearched (W : Pass) (a : SearchCall W) (r : Outcome FullChoice) (after : Planes) : Type 0 where
  pub answer : r ≡ full_answer W a
  pub scratch : after ≡ scratch_after_full W a
