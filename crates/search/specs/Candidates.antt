-- Which candidates a search scores, and which it chooses (document 01, Search). `score` is a candidate's error sum.
use Rattle.std.specs.Prelude.{Bool, cond, ◌&&◌, List, [], ◌∷◌, ℕ, zero, suc, ◌+◌, eqb, ltb, leb}

pub record Candidate : Type 0 where
  pub level : ℕ
  pub sharpness : ℕ

-- the best candidate so far, its sum, and all that were scored, the latest first
pub record Standing : Type 0 where
  pub best : Candidate
  pub sum : ℕ
  pub scored : List Candidate

-- from the left
unfoldable pub fold : {S X : Type 0} → (S → X → S) → S → List X → S
fold f s [] = s
fold f s (x ∷ xs) = fold f (f s x) xs

-- those that pass the test
unfoldable pub keep : {X : Type 0} → (X → Bool) → List X → List X
keep f [] = []
keep f (x ∷ xs) = cond (f x) (x ∷ keep f xs) (keep f xs)

-- n numbers from a on
unfoldable pub upward : (a n : ℕ) → List ℕ
upward a zero = []
upward a (suc n) = a ∷ upward (suc a) n

-- 4, 8 to 60, 63
unfoldable pub coarse_levels : List ℕ
coarse_levels = 4 ∷ 8 ∷ 12 ∷ 16 ∷ 20 ∷ 24 ∷ 28 ∷ 32 ∷ 36 ∷ 40 ∷ 44 ∷ 48 ∷ 52 ∷ 56 ∷ 60 ∷ 63 ∷ []

-- within 3 of the winner
unfoldable pub near : (winner level : ℕ) → Bool
near winner level = leb winner (level + 3) && leb level (winner + 3)

-- how many were scored at a level above 0
unfoldable pub above_zero : List Candidate → ℕ
above_zero [] = 0
above_zero (c ∷ cs) = cond (eqb c.level 0) 0 1 + above_zero cs

module _ (score : Candidate → ℕ) (base : ℕ) where
  -- a candidate is scored; only a strictly smaller sum replaces
  unfoldable pub consider : Standing → Candidate → Standing
  consider s c = record {
    best = cond (ltb (score c) s.sum) c s.best;
    sum = cond (ltb (score c) s.sum) (score c) s.sum;
    scored = c ∷ s.scored;
  }

  -- a level at the base sharpness
  abbrev pub at_base : ℕ → Candidate
  at_base level = record { level = level; sharpness = base }

  -- level 0 first
  unfoldable pub unfiltered : Standing
  unfiltered = record { best = at_base 0; sum = score (at_base 0); scored = at_base 0 ∷ [] }

  unfoldable pub coarse : Standing
  coarse = fold (λ s level. consider s (at_base level)) unfiltered coarse_levels

  -- the level that is best at that moment is passed over
  unfoldable pub other_level : Standing → (level : ℕ) → Standing
  other_level s level = cond (eqb level s.best.level) s (consider s (at_base level))

  -- all within 3 of the winner inside 0..63, upward
  unfoldable pub refined : Standing
  refined = fold other_level coarse (keep (near coarse.best.level) (upward 0 64))

  unfoldable pub other_sharpness : Standing → (sharpness : ℕ) → Standing
  other_sharpness s sharpness = cond (eqb sharpness base) s (consider s (record { level = s.best.level; sharpness = sharpness }))

  -- if the best is not 0, the other sharpness values 0 to 7 upward
  unfoldable pub searched : Standing
  searched = cond (eqb refined.best.level 0) refined (fold other_sharpness refined (upward 0 8))
