-- What a search chooses: no scored candidate has a smaller sum, and the count lies in 19 to 30.
use mathlib.Core.Path.{◌≡◌, refl}
use mathlib.Core.Bool.{Bool, true, false, cond}
use mathlib.Core.List.{List, [], ◌∷◌}
use Prim.Native.Nat.{ℕ, ◌≤◌, ◌<◌}
use native.Mathlib.Omega.{arith}
use lib.Dec.{eqb, ltb}
use borrow.Author.Tests.{ltb-true, ltb-false}
use Rattle.calls.specs.Pass.{Pass}
use Rattle.planes.proofs.AllOf.{All, none, ◌&◌, all_map}
use Rattle.search.specs.Candidates.{Candidate, Standing, fold, keep, upward, coarse_levels, near, consider, at_base, unfiltered, coarse, other_level, refined, other_sharpness, searched}
use Rattle.search.specs.Search.{SearchCall, score, base_sharpness, search}

module _ (score : Candidate → ℕ) (base : ℕ) where
  -- the best is a candidate of this sum, and no scored one has a smaller
  pub record Least (s : Standing) : Type 0 where
    pub sum : s.sum ≡ score s.best
    pub least : All (λ c. s.sum ≤ score c) s.scored

  least-consider : (s : Standing) (c : Candidate) → Least s → Least (consider score base s c)
  unfolding consider
  least-consider s c h = by (ltb (score c) s.sum) (ltb-true (score c) s.sum) (ltb-false (score c) s.sum)
    where
      by : (b : Bool) → (b ≡ true → score c < s.sum) → (b ≡ false → s.sum ≤ score c)
          → Least (record { best = cond b c s.best; sum = cond b (score c) s.sum; scored = c ∷ s.scored })
      by true f g = let lt = f refl in record { sum = refl; least = ◌&◌ {x = c} (omega arith) (all_map (λ x l. omega arith) h.least) }
      by false f g = record { sum = h.sum; least = ◌&◌ {x = c} (g refl) h.least }

  least-fold : (step : Standing → ℕ → Standing) → ((s : Standing) (x : ℕ) → Least s → Least (step s x)) → (xs : List ℕ) (s : Standing) → Least s → Least (fold step s xs)
  unfolding fold
  least-fold step h [] s l = l
  least-fold step h (x ∷ xs) s l = least-fold step h xs (step s x) (h s x l)

  least-or : (b : Bool) (s t : Standing) → Least s → Least t → Least (cond b s t)
  least-or true s t h k = h
  least-or false s t h k = k

  least-coarse : Least (coarse score base)
  unfolding coarse unfiltered
  least-coarse =
      least-fold (λ s level. consider score base s (at_base score base level)) (λ s x h. least-consider s (at_base score base x) h) coarse_levels (unfiltered score base)
      (record { sum = refl; least = ◌&◌ {x = at_base score base 0} (omega arith) none })

  least-refined : Least (refined score base)
  unfolding refined other_level
  least-refined =
      least-fold (other_level score base) (λ s x h. least-or (eqb x s.best.level) s (consider score base s (at_base score base x)) h (least-consider s (at_base score base x) h))
      (keep (near (coarse score base).best.level) (upward 0 64)) (coarse score base) least-coarse

  pub least-searched : Least (searched score base)
  unfolding searched other_sharpness
  least-searched =
      least-or (eqb (refined score base).best.level 0) (refined score base) (fold (other_sharpness score base) (refined score base) (upward 0 8)) least-refined
      (least-fold (other_sharpness score base) (λ s x h. least-or (eqb x base) s (consider score base s (record { level = s.best.level; sharpness = x })) h (least-consider s (record { level = s.best.level; sharpness = x }) h))
      (upward 0 8) (refined score base) least-refined)

-- the law of a search
pub none-smaller : (W : Pass) (a : SearchCall W) → Least (score W a) (base_sharpness a.settings) (search W a)
unfolding search
none-smaller W a = least-searched (score W a) (base_sharpness a.settings)
