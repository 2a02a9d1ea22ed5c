-- What the private functions of the search promise. `proofs/TrialLaws.antt` joins it to `specs/Candidates.antt`.
use Rattle.std.specs.Prelude.{◌≡◌, Option, Some, None, cond, not, ◌||◌, ℕ, ◌+◌, ◌-◌, ◌*◌, eqb, ltb}
use Rattle.planes.specs.Planes.{Planes}
use Rattle.planes.specs.Steps.{steps}
use Rattle.calls.specs.Pass.{Pass}
use Rattle.scratch.specs.Copies.{copy_grid}
use Rattle.scratch.specs.Private.Alike.{Alike}
use Rattle.search.specs.Candidates.{Candidate, near}
use Rattle.search.specs.Search.{SearchCall, candidate_of, planes_of_candidate, score, search, Choice, choice}
use Rattle.search.specs.declared.trials.Best.{Best}
use Rattle.search.specs.declared.candidates.Pair.{Pair}

abbrev pub pair_of : Candidate → Pair
pair_of c = record { «level» = c.level; «sharpness» = c.sharpness }

-- ---- the trials of a search: 16 coarse levels, 64 levels of which those near the winner count, 8 sharpness values

abbrev pub coarse_at : ℕ → ℕ
coarse_at i = cond (ltb i 15) (4 * i + 4) 63

-- a level near the winner, but the best of the moment
unfoldable pub near_trial : (base level : ℕ) → Best → Option Pair
near_trial base l f = cond (not (near f.«winner» l) || eqb l f.«params».«pair».«level») None (Some (record { «level» = l; «sharpness» = base }))

-- another sharpness of the best level, unless that is 0
unfoldable pub sharpness_trial : (base sharpness : ℕ) → Best → Option Pair
sharpness_trial base k f = cond (eqb f.«params».«pair».«level» 0 || eqb k base) None (Some (record { «level» = f.«params».«pair».«level»; «sharpness» = k }))

unfoldable pub trial_of : (base i : ℕ) → Best → Option Pair
trial_of base i f =
    cond (ltb i 16) (Some (record { «level» = coarse_at i; «sharpness» = base }))
    (cond (ltb i 80) (near_trial base (i - 16) f) (sharpness_trial base (i - 80) f))

unfoldable pub taken : Best → Pair → (sum : ℕ) → Best
taken f p n =
    cond (ltb n f.«sum»)
    (record { «params» = record { «pair» = p; «count» = cond (eqb p.«level» 0) 0 1 + f.«params».«count» }; «sum» = n; «winner» = f.«winner» })
    (record { «params» = record { «pair» = f.«params».«pair»; «count» = cond (eqb p.«level» 0) 0 1 + f.«params».«count» }; «sum» = f.«sum»; «winner» = f.«winner» })

-- the level that is best after the coarse ones is the winner
unfoldable pub with_winner : (i : ℕ) → Best → Best
with_winner i f =
    cond (ltb i 16) (record { «params» = f.«params»; «sum» = f.«sum»; «winner» = f.«params».«pair».«level» }) f

unfoldable pub tried : (score : Candidate → ℕ) → Option Pair → Best → Best
tried score None f = f
tried score (Some p) f = taken f p (score (candidate_of p))

unfoldable pub after_trial : (score : Candidate → ℕ) → (base i : ℕ) → Best → Best
after_trial score base i f = with_winner i (tried score (trial_of base i f) f)

abbrev pub start_at : (base sum : ℕ) → Best
start_at base sum = record { «params» = record { «pair» = record { «level» = 0; «sharpness» = base }; «count» = 0 }; «sum» = sum; «winner» = 0 }

pub record Tried (W : Pass) (a : SearchCall W) (t : Option Pair) (before r : Best) (after : Planes) : Type 0 where
  pub best : r ≡ tried (score W a) t before
  pub scratch : Alike a.grid a.scratch after

-- ---- a whole search

pub record AllTried (W : Pass) (a : SearchCall W) (base : ℕ) (start r : Best) (after : Planes) : Type 0 where
  pub best : r ≡ steps (after_trial (score W a) base) 0 88 start
  pub scratch : Alike a.grid a.scratch after

-- the level, the sharpness and the count of a choice
abbrev pub chosen_by : Best → Choice
chosen_by f = record { level = f.«params».«pair».«level»; sharpness = f.«params».«pair».«sharpness»; count = f.«params».«count» }

pub record Ended (W : Pass) (a : SearchCall W) (r : Best) (after : Planes) : Type 0 where
  pub best : chosen_by r ≡ choice (search W a)
  pub scratch : after ≡ copy_grid a.grid (planes_of_candidate W a (search W a).best) a.scratch
