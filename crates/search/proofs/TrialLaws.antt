-- The trials of the search's loop are the folds of its definition.
use mathlib.Core.Path.{◌≡◌, refl, sym, ap, ◌∙◌}
use mathlib.Core.Bool.{Bool, true, false, cond, not, ◌||◌}
use mathlib.Core.List.{List, [], ◌∷◌}
use Prim.Native.Nat.{ℕ, zero, suc, ◌+◌, ◌-◌, ◌≤◌, ◌<◌}
use native.Mathlib.Nat.{zero-add, add-suc}
use native.Mathlib.Omega.{arith}
use lib.Dec.{eqb, ltb}
use borrow.Author.Tests.{lt-ltb, le-ltb}
use Rattle.planes.specs.Steps.{steps}
use Rattle.planes.proofs.Steps.{steps-add}
use Rattle.search.specs.Candidates.{Candidate, Standing, fold, keep, upward, coarse_levels, near, above_zero, consider, at_base, unfiltered, coarse, other_level, refined, other_sharpness, searched}
use Rattle.search.specs.Search.{candidate_of}
use Rattle.search.specs.Private.SearchCode.{pair_of, coarse_at, near_trial, sharpness_trial, trial_of, taken, with_winner, tried, after_trial, start_at}
use Rattle.scratch.proofs.CopyLaws.{steps_next}
use Rattle.search.specs.declared.trials.Best.{Best}
use Rattle.search.specs.declared.candidates.Pair.{Pair}
use Rattle.std.specs.Prelude.{Option, Some, None}

module _ (score : Candidate → ℕ) (f : Best) where
  pub tried-skip : (t : Option Pair) → t ≡ None → f ≡ tried score t f
  unfolding tried
  tried-skip t e = rw e refl

  pub tried-take : (t : Option Pair) (x : Pair) (r : Best) (n : ℕ) → t ≡ Some x → n ≡ score (candidate_of x) → r ≡ taken f x n → r ≡ tried score t f
  unfolding tried
  tried-take t x r n e s h = rw (e, ← s) h

winner-is : (i : ℕ) (f : Best) → ltb i 16 ≡ true → with_winner i f ≡ record { «params» = f.«params»; «sum» = f.«sum»; «winner» = f.«params».«pair».«level» }
unfolding with_winner
winner-is i f e = rw e

winner-not : (i : ℕ) (f : Best) → ltb i 16 ≡ false → with_winner i f ≡ f
unfolding with_winner
winner-not i f e = rw e

-- ---- trials, one after the other

module _ (score : Candidate → ℕ) (base : ℕ) where
  pub trials-none : (s : Best) → s ≡ steps (after_trial score base) 0 0 s
  unfolding steps
  trials-none s = refl

  pub trials-more : (i : ℕ) (s f next r : Best) (t : Option Pair) (other : Candidate → ℕ) → other ≡ score → f ≡ steps (after_trial score base) 0 i s → t ≡ trial_of base i f → next ≡ tried other t f → r ≡ with_winner i next
      → r ≡ steps (after_trial score base) 0 (i + 1) s
  unfolding after_trial
  trials-more i s f next r t other es ef et en er =
      er ∙ ap (with_winner i) (en ∙ (λ k. tried (es k) (et k) f)) ∙ ap (after_trial score base i) ef ∙ sym (steps_next (after_trial score base) i s)

  taken-count : (f : Best) (p : Pair) (n : ℕ) → (taken f p n).«params».«count» ≤ f.«params».«count» + 1
  unfolding taken
  taken-count f p n = by (ltb n f.«sum») (eqb p.«level» 0)
    where
      by : (a b : Bool) → (cond {A = Best} a
          (record { «params» = record { «pair» = p; «count» = cond b 0 1 + f.«params».«count» }; «sum» = n; «winner» = f.«winner» })
          (record { «params» = record { «pair» = f.«params».«pair»; «count» = cond b 0 1 + f.«params».«count» }; «sum» = f.«sum»; «winner» = f.«winner» })).«params».«count» ≤ f.«params».«count» + 1
      by true true = omega arith
      by true false = omega arith
      by false true = omega arith
      by false false = omega arith

  tried-count : (t : Option Pair) (f : Best) → (tried score t f).«params».«count» ≤ f.«params».«count» + 1
  unfolding tried
  tried-count None f = omega arith
  tried-count (Some p) f = taken-count f p (score (candidate_of p))

  winner-count : (i : ℕ) (f : Best) → (with_winner i f).«params».«count» ≡ f.«params».«count»
  unfolding with_winner
  winner-count i f = by (ltb i 16)
    where
      by : (b : Bool) → (cond {A = Best} b (record { «params» = f.«params»; «sum» = f.«sum»; «winner» = f.«params».«pair».«level» }) f).«params».«count» ≡ f.«params».«count»
      by true = refl
      by false = refl

  pub count-more : (i : ℕ) (f next r : Best) (t : Option Pair) (other : Candidate → ℕ) → other ≡ score → f.«params».«count» ≤ i → next ≡ tried other t f → r ≡ with_winner i next → r.«params».«count» ≤ i + 1
  count-more i f next r t other es h en er =
      omega (arith, ap (λ (z : Best). z.«params».«count») er ∙ winner-count i next, ap (λ (z : Best). z.«params».«count») (en ∙ (λ k. tried (es k) t f)), tried-count t f)

-- ---- the fold that they are

module _ (score : Candidate → ℕ) (base : ℕ) where
  -- what the loop holds of a standing
  abbrev pub stand : (winner : ℕ) → Standing → Best
  stand w s = record { «params» = record { «pair» = pair_of s.best; «count» = above_zero s.scored }; «sum» = s.sum; «winner» = w }

  taken_is : (w : ℕ) (s : Standing) (c : Candidate) → taken (stand w s) (pair_of c) (score c) ≡ stand w (consider score base s c)
  unfolding taken consider above_zero
  taken_is w s c = by (ltb (score c) s.sum)
    where
      by : (b : Bool) → cond b
          (record { «params» = record { «pair» = pair_of c; «count» = cond (eqb c.level 0) 0 1 + above_zero s.scored }; «sum» = score c; «winner» = w })
          (record { «params» = record { «pair» = pair_of s.best; «count» = cond (eqb c.level 0) 0 1 + above_zero s.scored }; «sum» = s.sum; «winner» = w })
          ≡ stand w (record { best = cond b c s.best; sum = cond b (score c) s.sum; scored = c ∷ s.scored })
      by true = refl
      by false = refl

  coarse-trial : (w i : ℕ) (s : Standing) → i < 16 → after_trial score base i (stand w s) ≡ stand (consider score base s (at_base score base (coarse_at i))).best.level (consider score base s (at_base score base (coarse_at i)))
  unfolding after_trial trial_of tried
  coarse-trial w i s h =
      let e : ltb i 16 ≡ true = lt-ltb i 16 h in
      rw e (ap (with_winner i) (taken_is w s (at_base score base (coarse_at i))) ∙ winner-is i (stand w (consider score base s (at_base score base (coarse_at i)))) e)

  -- a level of the refinement, by whether it is near
  abbrev near_level : (winner : ℕ) → Standing → (level : ℕ) → Standing
  near_level w s l = cond (near w l) (other_level score base s l) s

  near-turn : (w l : ℕ) (s : Standing) → l < 64 → after_trial score base (16 + l) (stand w s) ≡ stand w (near_level w s l)
  unfolding after_trial trial_of near_trial tried other_level
  near-turn w l s h =
      let e : ltb (16 + l) 16 ≡ false = le-ltb (16 + l) 16 (omega arith) in
      let f : ltb (16 + l) 80 ≡ true = lt-ltb (16 + l) 80 (omega arith) in
      let d : 16 + l - 16 ≡ l = omega arith in
      rw (e, f, d) (winner-not (16 + l) _ e ∙ by (near w l) (eqb l s.best.level))
    where
      by : (a b : Bool) → tried score (cond (not a || b) None (Some (record { «level» = l; «sharpness» = base }))) (stand w s)
          ≡ stand w (cond a (cond b s (consider score base s (at_base score base l))) s)
      by true true = refl
      by true false = taken_is w s (at_base score base l)
      by false b = refl

  -- another sharpness, unless the best level is 0
  abbrev any_sharpness : Standing → (sharpness : ℕ) → Standing
  any_sharpness s k = cond (eqb s.best.level 0) s (other_sharpness score base s k)

  sharp-trial : (w k : ℕ) (s : Standing) → k < 8 → after_trial score base (80 + k) (stand w s) ≡ stand w (any_sharpness s k)
  unfolding after_trial trial_of sharpness_trial tried other_sharpness
  sharp-trial w k s h =
      let e : ltb (80 + k) 16 ≡ false = le-ltb (80 + k) 16 (omega arith) in
      let f : ltb (80 + k) 80 ≡ false = le-ltb (80 + k) 80 (omega arith) in
      let d : 80 + k - 80 ≡ k = omega arith in
      rw (e, f, d) (winner-not (80 + k) _ e ∙ by (eqb s.best.level 0) (eqb k base))
    where
      by : (a b : Bool) → tried score (cond (a || b) None (Some (record { «level» = s.best.level; «sharpness» = k }))) (stand w s)
          ≡ stand w (cond a s (cond b s (consider score base s (record { level = s.best.level; sharpness = k }))))
      by true b = refl
      by false true = refl
      by false false = taken_is w s (record { level = s.best.level; sharpness = k })

  -- n trials from d + a on
  run : (f : ℕ → Best → Best) (h : Standing → Best) (step : Standing → ℕ → Standing) (d a n : ℕ)
      → ((k : ℕ) (s : Standing) → k < a + n → f (d + k) (h s) ≡ h (step s k)) → (s : Standing) → steps f (d + a) n (h s) ≡ h (fold step s (upward a n))
  unfolding steps fold upward
  run f h step d a zero e s = refl
  run f h step d a (suc n) e s =
      ap (steps f (suc (d + a)) n) (e a s (omega arith)) ∙ ap (λ (m : ℕ). steps f m n (h (step s a))) (sym (add-suc d a))
      ∙ run f h step d (suc a) n (λ k s' l. e k s' (omega arith)) (step s a)

  -- the coarse levels by their numbers
  by_number : (s : Standing) → fold (λ s i. consider score base s (at_base score base (coarse_at i))) s (upward 0 16) ≡ fold (λ s level. consider score base s (at_base score base level)) s coarse_levels
  unfolding fold upward coarse_levels
  by_number s = refl

  kept : (w : ℕ) (xs : List ℕ) (s : Standing) → fold (near_level w) s xs ≡ fold (other_level score base) s (keep (near w) xs)
  unfolding fold keep
  kept w [] s = refl
  kept w (x ∷ xs) s = by (near w x) (kept w xs (other_level score base s x)) (kept w xs s)
    where
      by : (b : Bool) → fold (near_level w) (other_level score base s x) xs ≡ fold (other_level score base) (other_level score base s x) (keep (near w) xs)
          → fold (near_level w) s xs ≡ fold (other_level score base) s (keep (near w) xs)
          → fold (near_level w) (cond b (other_level score base s x) s) xs ≡ fold (other_level score base) s (cond b (x ∷ keep (near w) xs) (keep (near w) xs))
      by true p q = p
      by false p q = q

  same-level : (s : Standing) (k : ℕ) → (other_sharpness score base s k).best.level ≡ s.best.level
  unfolding other_sharpness consider
  same-level s k = by (eqb k base) (ltb (score (record { level = s.best.level; sharpness = k })) s.sum)
    where
      by : (a b : Bool) → (cond a s (record { best = cond b (record { level = s.best.level; sharpness = k }) s.best; sum = cond b (score (record { level = s.best.level; sharpness = k })) s.sum; scored = record { level = s.best.level; sharpness = k } ∷ s.scored })).best.level ≡ s.best.level
      by true b = refl
      by false true = refl
      by false false = refl

  swept : (xs : List ℕ) (s : Standing) → fold any_sharpness s xs ≡ cond (eqb s.best.level 0) s (fold (other_sharpness score base) s xs)
  unfolding fold
  swept [] s = by (eqb s.best.level 0)
    where
      by : (b : Bool) → s ≡ cond b s s
      by true = refl
      by false = refl
  swept (x ∷ xs) s =
      by (eqb s.best.level 0) refl (swept xs s) (swept xs (other_sharpness score base s x) ∙ ap (λ (l : ℕ). cond (eqb l 0) (other_sharpness score base s x) (fold (other_sharpness score base) (other_sharpness score base s x) xs)) (same-level s x))
    where
      by : (b : Bool) → eqb s.best.level 0 ≡ b
          → fold any_sharpness s xs ≡ cond (eqb s.best.level 0) s (fold (other_sharpness score base) s xs)
          → fold any_sharpness (other_sharpness score base s x) xs ≡ cond (eqb s.best.level 0) (other_sharpness score base s x) (fold (other_sharpness score base) (other_sharpness score base s x) xs)
          → fold any_sharpness (cond b s (other_sharpness score base s x)) xs ≡ cond b s (fold (other_sharpness score base) (other_sharpness score base s x) xs)
      by true e p q = p ∙ ap (λ (t : Bool). cond t s (fold (other_sharpness score base) s xs)) e
      by false e p q = q ∙ ap (λ (t : Bool). cond t (other_sharpness score base s x) (fold (other_sharpness score base) (other_sharpness score base s x) xs)) e

  first-trials : steps (after_trial score base) 0 16 (start_at base (score (at_base score base 0))) ≡ stand (coarse score base).best.level (coarse score base)
  unfolding coarse unfiltered above_zero
  first-trials =
      run (after_trial score base) (λ s. stand s.best.level s) (λ s i. consider score base s (at_base score base (coarse_at i))) 0 0 16
      (λ k s h. ap (λ (i : ℕ). after_trial score base i (stand s.best.level s)) (zero-add k) ∙ coarse-trial s.best.level k s (omega arith)) (unfiltered score base)
      ∙ ap (λ (s : Standing). stand s.best.level s) (by_number (unfiltered score base))

  -- all trials are the search
  pub all-trials : steps (after_trial score base) 0 88 (start_at base (score (at_base score base 0))) ≡ stand (coarse score base).best.level (searched score base)
  unfolding searched refined
  all-trials =
      steps-add F 0 16 72 (start_at base (score (at_base score base 0)))
      ∙ ap (steps F 16 72) first
      ∙ steps-add F 16 64 8 (stand w s₁)
      ∙ ap (steps F 80 8) (run F (stand w) (near_level w) 16 0 64 (λ k s h. near-turn w k s (omega arith)) s₁ ∙ ap (stand w) (kept w (upward 0 64) s₁))
      ∙ run F (stand w) any_sharpness 80 0 8 (λ k s h. sharp-trial w k s (omega arith)) (refined score base)
      ∙ ap (stand w) (swept (upward 0 8) (refined score base))
    where
      F : ℕ → Best → Best
      F = after_trial score base

      s₁ : Standing
      s₁ = coarse score base

      w : ℕ
      w = s₁.best.level

      first : steps F 0 16 (start_at base (score (at_base score base 0))) ≡ stand w s₁
      first = first-trials
