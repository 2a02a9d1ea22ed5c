-- The number of candidates that a search scores at a level above 0 lies in 19 to 30.
use mathlib.Core.Path.{◌≡◌, refl, sym, ap, subst, ◌∙◌}
use mathlib.Core.Bool.{Bool, true, false, cond, ◌&&◌}
use mathlib.Core.Logic.{◌⊎◌, inl, inr, ⊎_elim}
use mathlib.Core.List.{List, [], ◌∷◌}
use Prim.Native.Nat.{ℕ, zero, suc, ◌+◌, ◌≤◌, ◌<◌, min}
use native.Mathlib.Omega.{arith}
use lib.Dec.{T, eqb, ltb, leb, leb→le}
use lib.ListN.{length}
use borrow.Author.Tests.{ltb-true, ltb-false, leb-true, eqb-true, eqb-false, ne_eqb, lt-ltb, le-ltb}
use Rattle.calls.specs.Pass.{Pass}
use Rattle.planes.proofs.AllOf.{All, none, ◌&◌}
use Rattle.search.specs.Candidates.{Candidate, Standing, fold, keep, upward, coarse_levels, near, above_zero, consider, at_base, unfiltered, coarse, other_level, refined, other_sharpness, searched}
use Rattle.search.specs.Search.{SearchCall, score, base_sharpness, search}

-- ---- a test of every number below n

every : (f : ℕ → Bool) → ℕ → Bool
every f zero = true
every f (suc n) = f n && every f n

pub both : (a b : Bool) → (a && b) ≡ true → (a ≡ true) × (b ≡ true)
both true b e = (refl, e)
both false b e = let z : ◌≡◌ {A = ℕ} 0 1 = cc in absurd (omega arith)

every-at : (f : ℕ → Bool) (n : ℕ) → every f n ≡ true → (k : ℕ) → k < n → f k ≡ true
unfolding every
every-at f zero e k h = absurd (omega arith)
every-at f (suc n) e k h = by (eqb k n) refl (λ lt. every-at f n (both (f n) (every f n) e).1 k lt)
  where
    by : (b : Bool) → eqb k n ≡ b → (k < n → f k ≡ true) → f k ≡ true
    by true q rest = ap f (eqb-true k n q) ∙ (both (f n) (every f n) e).0
    by false q rest = rest (omega (arith, eqb-false k n q))

-- how many levels are near a winner: 4 to 7
nearest : ℕ → ℕ
nearest w = length (keep (near w) (upward 0 64))

nearest-test : every (λ w. leb 4 (nearest w) && leb (nearest w) 7) 64 ≡ true
unfolding every nearest keep near upward
nearest-test = refl

nearest_in : (w : ℕ) → w < 64 → (4 ≤ nearest w) × (nearest w ≤ 7)
nearest_in w h =
    let (a, b) = both (leb 4 (nearest w)) (leb (nearest w) 7) (every-at (λ w. leb 4 (nearest w) && leb (nearest w) 7) 64 nearest-test w h) in
    (leb-true 4 (nearest w) a, leb-true (nearest w) 7 b)

-- how many values are not the base: of 0 to 7, 7
others : ℕ → List ℕ → ℕ
others base [] = 0
others base (x ∷ xs) = cond (eqb x base) 0 1 + others base xs

others-test : every (λ b. eqb (others b (upward 0 8)) 7) 8 ≡ true
unfolding every others upward
others-test = refl

others-seven : (b : ℕ) → b < 8 → others b (upward 0 8) ≡ 7
others-seven b h = eqb-true (others b (upward 0 8)) 7 (every-at (λ b. eqb (others b (upward 0 8)) 7) 8 others-test b h)

unfoldable Grid : ℕ → Type 0
Grid x = (4 ≤ x) × (x ≤ 63)

unfoldable Winner : ℕ → Type 0
Winner w = ((w ≡ 0) ⊎ (4 ≤ w)) × (w < 64)

grid-level : (x : ℕ) → T (leb 4 x) → T (leb x 63) → Grid x
unfolding Grid
grid-level x a b = (leb→le 4 x a, leb→le x 63 b)

all-coarse : All Grid coarse_levels
unfolding coarse_levels
all-coarse =
    grid-level 4 tt tt & grid-level 8 tt tt & grid-level 12 tt tt & grid-level 16 tt tt & grid-level 20 tt tt & grid-level 24 tt tt & grid-level 28 tt tt & grid-level 32 tt tt
    & grid-level 36 tt tt & grid-level 40 tt tt & grid-level 44 tt tt & grid-level 48 tt tt & grid-level 52 tt tt & grid-level 56 tt tt & grid-level 60 tt tt & grid-level 63 tt tt & none

module _ (score : Candidate → ℕ) (base : ℕ) where
  abbrev n : Standing → ℕ
  n s = above_zero s.scored

  counts : (s : Standing) (c : Candidate) → 0 < c.level → n (consider score base s c) ≡ n s + 1
  unfolding consider above_zero
  counts s c h = rw (ne_eqb c.level 0 (λ z. omega arith)) (omega arith)

  counts-most : (s : Standing) (c : Candidate) → n (consider score base s c) ≤ n s + 1
  unfolding consider above_zero
  counts-most s c = by (eqb c.level 0)
    where
      by : (b : Bool) → cond b 0 1 + above_zero s.scored ≤ above_zero s.scored + 1
      by true = omega arith
      by false = omega arith

  level-of : (s : Standing) (c : Candidate) → ((consider score base s c).best.level ≡ c.level) ⊎ ((consider score base s c).best.level ≡ s.best.level)
  unfolding consider
  level-of s c = by (ltb (score c) s.sum)
    where
      by : (b : Bool) → ((cond b c s.best).level ≡ c.level) ⊎ ((cond b c s.best).level ≡ s.best.level)
      by true = inl refl
      by false = inr refl

  -- ---- the coarse levels

  coarse-count : n (coarse score base) ≡ 16
  unfolding coarse unfiltered fold coarse_levels consider above_zero
  coarse-count = refl

  winner-fold : (xs : List ℕ) → All Grid xs → (s : Standing) → Winner s.best.level → Winner (fold (λ s level. consider score base s (at_base score base level)) s xs).best.level
  unfolding fold Winner Grid
  winner-fold [] none s h = h
  winner-fold (x ∷ xs) (g & gs) s h =
      winner-fold xs gs (consider score base s (at_base score base x))
      (⊎_elim (λ e. (inr (omega arith), omega arith)) (λ e. subst (λ (l : ℕ). ((l ≡ 0) ⊎ (4 ≤ l)) × (l < 64)) (sym e) h) (level-of s (at_base score base x)))

  winner : Winner (coarse score base).best.level
  unfolding coarse unfiltered Winner
  winner = winner-fold coarse_levels all-coarse (unfiltered score base) (inl refl, omega arith)

  -- ---- the refinement

  ind : ℕ → ℕ → ℕ
  ind w a = cond (ltb w a) 0 1

  ind-less : (w a : ℕ) → ind w (suc a) ≤ ind w a
  unfolding ind
  ind-less w a = by (ltb w a) (ltb w (suc a)) (ltb-true w a) (ltb-false w (suc a))
    where
      by : (x y : Bool) → (x ≡ true → w < a) → (y ≡ false → suc a ≤ w) → cond y 0 1 ≤ cond x 0 1
      by true true f g = omega arith
      by true false f g = absurd (omega (arith, f refl, g refl))
      by false true f g = omega arith
      by false false f g = omega arith

  ind-own : (w : ℕ) → (ind w w ≡ 1) × (ind w (suc w) ≡ 0)
  unfolding ind
  ind-own w = (rw (le-ltb w w (omega arith)), rw (lt-ltb w (suc w) (omega arith)))

  module _ (w : ℕ) (ok : (w ≡ 0) ⊎ (4 ≤ w)) where
    near-three : (a : ℕ) → near w a ≡ true → w ≤ a + 3
    unfolding near
    near-three a e = leb-true w (a + 3) (both (leb w (a + 3)) (leb a (w + 3)) e).0

    -- the level in turn is the best: it is the winner
    is-winner : (a : ℕ) (s : Standing) → (s.best.level ≡ w) ⊎ (s.best.level < a) → eqb a s.best.level ≡ true → a ≡ w
    is-winner a s (inl e) q = eqb-true a s.best.level q ∙ e
    is-winner a s (inr l) q = absurd (omega (arith, eqb-true a s.best.level q))

    -- a level that is scored is above 0
    above : (a : ℕ) (s : Standing) → (s.best.level ≡ w) ⊎ (s.best.level < a) → near w a ≡ true → eqb a s.best.level ≡ false → 0 < a
    above zero s (inl e) c q = ⊎_elim (λ z. absurd (eqb-false 0 s.best.level q (sym (e ∙ z)))) (λ f. absurd (omega (arith, near-three 0 c))) ok
    above zero s (inr l) c q = absurd (omega arith)
    above (suc a) s h c q = omega arith

    skip : (s : Standing) (a : ℕ) → eqb a s.best.level ≡ true → other_level score base s a ≡ s
    unfolding other_level
    skip s a q = rw q

    take-it : (s : Standing) (a : ℕ) → eqb a s.best.level ≡ false → other_level score base s a ≡ consider score base s (at_base score base a)
    unfolding other_level
    take-it s a q = rw q

    ind-at : (a : ℕ) → a ≡ w → (ind w a ≡ 1) × (ind w (suc a) ≡ 0)
    ind-at a e = (ap (ind w) e ∙ (ind-own w).0, ap (λ (k : ℕ). ind w (suc k)) e ∙ (ind-own w).1)

    -- levels upward from a: all that are near are scored, but the winner if it is still the best
    refine : (a m : ℕ) (s : Standing) → (s.best.level ≡ w) ⊎ (s.best.level < a)
        → (n s + length (keep (near w) (upward a m)) ≤ n (fold (other_level score base) s (keep (near w) (upward a m))) + ind w a)
        × (n (fold (other_level score base) s (keep (near w) (upward a m))) ≤ n s + length (keep (near w) (upward a m)))
    unfolding upward keep fold
    refine a zero s h = omega arith
    refine a (suc m) s h = step (near w a) refl (eqb a s.best.level) refl (refine (suc a) m s (later h)) (refine (suc a) m (consider score base s (at_base score base a)) (then h))
      where
        later : (s.best.level ≡ w) ⊎ (s.best.level < a) → (s.best.level ≡ w) ⊎ (s.best.level < suc a)
        later (inl e) = inl e
        later (inr l) = inr (omega arith)

        then : (s.best.level ≡ w) ⊎ (s.best.level < a) → ((consider score base s (at_base score base a)).best.level ≡ w) ⊎ ((consider score base s (at_base score base a)).best.level < suc a)
        then h = ⊎_elim (λ e. inr (omega arith)) (λ e. ⊎_elim (λ k. inl (e ∙ k)) (λ k. inr (omega arith)) h) (level-of s (at_base score base a))

        xs : List ℕ
        xs = keep (near w) (upward (suc a) m)

        step : (b : Bool) → near w a ≡ b → (t : Bool) → eqb a s.best.level ≡ t
            → (n s + length xs ≤ n (fold (other_level score base) s xs) + ind w (suc a)) × (n (fold (other_level score base) s xs) ≤ n s + length xs)
            → (n (consider score base s (at_base score base a)) + length xs ≤ n (fold (other_level score base) (consider score base s (at_base score base a)) xs) + ind w (suc a))
            × (n (fold (other_level score base) (consider score base s (at_base score base a)) xs) ≤ n (consider score base s (at_base score base a)) + length xs)
            → (n s + length (cond b (a ∷ xs) xs) ≤ n (fold (other_level score base) s (cond b (a ∷ xs) xs)) + ind w a)
            × (n (fold (other_level score base) s (cond b (a ∷ xs) xs)) ≤ n s + length (cond b (a ∷ xs) xs))
        step false e t q p r = omega (arith, ind-less w a)
        step true e true q p r =
            let (i, j) = ind-at a (is-winner a s h q) in
            let f = ap (λ (z : Standing). n (fold (other_level score base) z xs)) (skip s a q) in omega arith
        step true e false q p r =
            let k = counts s (at_base score base a) (above a s h e q) in
            let f = ap (λ (z : Standing). n (fold (other_level score base) z xs)) (take-it s a q) in omega (arith, ind-less w a)

  refined-count : (19 ≤ n (refined score base)) × (n (refined score base) ≤ 23)
  unfolding refined Winner nearest ind
  refined-count =
      let w = (coarse score base).best.level in
      let k = nearest-near w winner.1 in
      omega (arith, refine w winner.0 0 64 (coarse score base) (inl refl), coarse-count, k, ind-most w)
    where
      most : (b : Bool) → cond b 0 1 ≤ 1
      most true = omega arith
      most false = omega arith

      ind-most : (w : ℕ) → ind w 0 ≤ 1
      ind-most w = most (ltb w 0)

      nearest-near : (w : ℕ) → w < 64 → (4 ≤ length (keep (near w) (upward 0 64))) × (length (keep (near w) (upward 0 64)) ≤ 7)
      nearest-near w h = nearest_in w h

  -- ---- the other sharpness values

  same_at : (s : Standing) (x : ℕ) → eqb x base ≡ true → other_sharpness score base s x ≡ s
  unfolding other_sharpness
  same_at s x e = rw e

  scored-at : (s : Standing) (x : ℕ) → eqb x base ≡ false → other_sharpness score base s x ≡ consider score base s (record { level = s.best.level; sharpness = x })
  unfolding other_sharpness
  scored-at s x e = rw e

  -- scoring never lessens the count
  counts-least : (s : Standing) (c : Candidate) → n s ≤ n (consider score base s c)
  unfolding consider above_zero
  counts-least s c = omega arith

  sweep : (xs : List ℕ) (s : Standing) → (n s ≤ n (fold (other_sharpness score base) s xs)) × (n (fold (other_sharpness score base) s xs) ≤ n s + others base xs)
  unfolding fold others
  sweep [] s = omega arith
  sweep (x ∷ xs) s = by (eqb x base) refl (sweep xs (other_sharpness score base s x))
    where
      by : (b : Bool) → eqb x base ≡ b
          → (n (other_sharpness score base s x) ≤ n (fold (other_sharpness score base) (other_sharpness score base s x) xs)) × (n (fold (other_sharpness score base) (other_sharpness score base s x) xs) ≤ n (other_sharpness score base s x) + others base xs)
          → (n s ≤ n (fold (other_sharpness score base) (other_sharpness score base s x) xs)) × (n (fold (other_sharpness score base) (other_sharpness score base s x) xs) ≤ n s + (cond b 0 1 + others base xs))
      by true e h = let k = ap n (same_at s x e) in omega arith
      by false e h = let k = ap n (scored-at s x e) in let m = counts-most s (record { level = s.best.level; sharpness = x }) in let l = counts-least s (record { level = s.best.level; sharpness = x }) in omega arith

  pub count-in : base < 8 → (19 ≤ n (searched score base)) × (n (searched score base) ≤ 30)
  unfolding searched
  count-in h = by (eqb (refined score base).best.level 0)
    where
      by : (b : Bool) → (19 ≤ n (cond b (refined score base) (fold (other_sharpness score base) (refined score base) (upward 0 8)))) × (n (cond b (refined score base) (fold (other_sharpness score base) (refined score base) (upward 0 8))) ≤ 30)
      by true = omega (arith, refined-count)
      by false = omega (arith, refined-count, sweep (upward 0 8) (refined score base), others-seven base h)

-- the law of a search
pub count-of-search : (W : Pass) (a : SearchCall W) → (19 ≤ above_zero (search W a).scored) × (above_zero (search W a).scored ≤ 30)
unfolding search base_sharpness
count-of-search W a = count-in (score W a) (min a.settings.sharpness_level 7) (omega arith)
