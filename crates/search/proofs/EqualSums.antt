-- Where every candidate has the same sum, level 0 stays the best, and 19 candidates above it are scored. So it is of a zero grid and of lists of wrong length, where no pass changes a sample.
-- Assumes nothing.
use mathlib.Core.Path.{◌≡◌, refl, sym, ap, subst, ◌∙◌}
use mathlib.Core.Bool.{Bool, true, false, cond, ◌||◌}
use mathlib.Core.List.{List, [], ◌∷◌}
use Prim.Native.Nat.{ℕ, ◌+◌, ◌-◌, ◌<◌, min}
use native.Mathlib.Omega.{arith}
use lib.Dec.{eqb, ltb}
use borrow.Author.Tests.{le-ltb, ne_eqb}
use Rattle.levels.specs.declared.config.FrameFilterConfig.{FrameFilterConfig}
use Rattle.planes.specs.Planes.{Planes, Grid, macroblocks}
use Rattle.planes.specs.GridRefusals.{zero_grid, too_large, bad_strides, short_planes, after_grid}
use Rattle.planes.specs.Steps.{steps}
use Rattle.calls.specs.Pass.{Pass, refusal, step, count, planes_after}
use Rattle.planes.proofs.GridLaws.{none}
use Rattle.search.specs.Candidates.{Candidate, Standing, fold, keep, upward, coarse_levels, near, above_zero, consider, at_base, unfiltered, coarse, other_level, refined, other_sharpness, searched}
use Rattle.sums.specs.Sums.{error_sum}
use Rattle.search.specs.Search.{SearchCall, settings_at, pass_over, candidate_planes, planes_of_candidate, score, base_sharpness, search, choice}

-- ---- equal sums

module _ (sum : Candidate → ℕ) (base k : ℕ) (same : (c : Candidate) → sum c ≡ k) where
  -- level 0 is the best, and n candidates above it were scored
  pub record Kept (s : Standing) (n : ℕ) : Type 0 where
    pub best-kept : s.best ≡ at_base sum base 0
    pub sum_kept : s.sum ≡ k
    pub counted : above_zero s.scored ≡ n

  not-smaller : (s : Standing) (c : Candidate) → s.sum ≡ k → ltb (sum c) s.sum ≡ false
  not-smaller s c e = le-ltb (sum c) s.sum (omega (arith, same c))

  scores : (s : Standing) (n level : ℕ) → 0 < level → Kept s n → Kept (consider sum base s (at_base sum base level)) (n + 1)
  unfolding consider above_zero
  scores s n level h kept =
      let c = at_base sum base level in
      let e = not-smaller s c kept.sum_kept in
      record {
        best-kept = ap (λ (b : Bool). cond b c s.best) e ∙ kept.best-kept;
        sum_kept = ap (λ (b : Bool). cond b (sum c) s.sum) e ∙ kept.sum_kept;
        counted = rw (ne_eqb level 0 (λ z. omega arith), kept.counted) (omega arith);
      }

  first : Kept (unfiltered sum base) 0
  unfolding unfiltered above_zero
  first = record { best-kept = refl; sum_kept = same (at_base sum base 0); counted = refl }

  by-grid : Kept (coarse sum base) 16
  unfolding coarse fold coarse_levels
  by-grid =
      let go : (s : Standing) (n level : ℕ) → 0 < level → Kept s n → Kept (consider sum base s (at_base sum base level)) (n + 1) = scores in
      go _ 15 63 (omega arith) (go _ 14 60 (omega arith) (go _ 13 56 (omega arith) (go _ 12 52 (omega arith) (go _ 11 48 (omega arith) (go _ 10 44 (omega arith)
      (go _ 9 40 (omega arith) (go _ 8 36 (omega arith) (go _ 7 32 (omega arith) (go _ 6 28 (omega arith) (go _ 5 24 (omega arith) (go _ 4 20 (omega arith)
      (go _ 3 16 (omega arith) (go _ 2 12 (omega arith) (go _ 1 8 (omega arith) (go _ 0 4 (omega arith) first)))))))))))))))

  -- the best level is passed over, any other is scored
  passes_over : (s : Standing) (n : ℕ) → Kept s n → Kept (other_level sum base s 0) n
  unfolding other_level
  passes_over s n kept =
      subst (λ (b : Bool). Kept (cond b s (consider sum base s (at_base sum base 0))) n)
      (sym (ap (λ (c : Candidate). eqb 0 c.level) kept.best-kept)) kept

  other : (s : Standing) (n level : ℕ) → 0 < level → Kept s n → Kept (other_level sum base s level) (n + 1)
  unfolding other_level
  other s n level h kept =
      subst (λ (b : Bool). Kept (cond b s (consider sum base s (at_base sum base level))) (n + 1))
      (sym (ap (λ (c : Candidate). eqb level c.level) kept.best-kept ∙ ne_eqb level 0 (λ z. omega arith))) (scores s n level h kept)

  near-zero : keep (near 0) (upward 0 64) ≡ 0 ∷ 1 ∷ 2 ∷ 3 ∷ []
  unfolding keep near upward
  near-zero = refl

  stepped : Kept (fold (other_level sum base) (coarse sum base) (0 ∷ 1 ∷ 2 ∷ 3 ∷ [])) 19
  unfolding fold
  stepped = other _ 18 3 (omega arith) (other _ 17 2 (omega arith) (other _ 16 1 (omega arith) (passes_over _ 16 by-grid)))

  by-steps : Kept (refined sum base) 19
  unfolding refined
  by-steps =
      subst (λ (l : List ℕ). Kept (fold (other_level sum base) (coarse sum base) l) 19)
      (sym (ap (λ (c : Candidate). keep (near c.level) (upward 0 64)) by-grid.best-kept ∙ near-zero)) stepped

  pub unfiltered-wins : Kept (searched sum base) 19
  unfolding searched
  unfiltered-wins =
      subst (λ (b : Bool). Kept (cond b (refined sum base) (fold (other_sharpness sum base) (refined sum base) (upward 0 8))) 19) (sym (ap (λ (c : Candidate). eqb c.level 0) by-steps.best-kept)) by-steps

-- ---- a pass that changes nothing

-- 5, unless 1, 2 or 3 comes before it
never-zero : (g : Grid) (p : Planes) → eqb (after_grid g p 5) 0 ≡ false
unfolding after_grid
never-zero g p = by (too_large g) (bad_strides g) (short_planes g p)
  where
    by : (x y z : Bool) → eqb (cond x 1 (cond y 2 (cond z 3 5))) 0 ≡ false
    by true y z = refl
    by false true z = refl
    by false false true = refl
    by false false false = refl

same-either : {X : Type 0} (b : Bool) (x : X) → cond b x x ≡ x
same-either true x = refl
same-either false x = refl

module _ (W : Pass) (g : Grid) (f : FrameFilterConfig) (carried : W.Carried) (p : Planes) where
  abbrev F : ℕ → Planes → Planes
  F = step W g f (W.entry carried)

  abbrev rest : ℕ
  rest = cond (W.bad_entry carried) 6 (cond (ltb (macroblocks g) 0) 7 0)

  abbrev accepted : Bool
  accepted = eqb (cond (zero_grid g) 0 (after_grid g p (cond (W.wrong_length carried (macroblocks g)) 5 rest))) 0

  no_steps : zero_grid g ≡ true → steps F 0 (min (macroblocks g) (macroblocks g - 0)) p ≡ p
  unfolding steps
  no_steps q = ap (λ (n : ℕ). steps F 0 (min n (n - 0)) p) (none g q)

  not-accepted : zero_grid g ≡ false → W.wrong_length carried (macroblocks g) ≡ true → accepted ≡ false
  not-accepted q h =
      ap (λ (z : Bool). eqb (cond z 0 (after_grid g p (cond (W.wrong_length carried (macroblocks g)) 5 rest))) 0) q
      ∙ ap (λ (o : Bool). eqb (after_grid g p (cond o 5 rest)) 0) h
      ∙ never-zero g p

  idle : (zero_grid g || W.wrong_length carried (macroblocks g)) ≡ true → pass_over W g f carried p ≡ p
  unfolding pass_over planes_after refusal count
  idle h = by (zero_grid g) refl h
    where
      by : (z : Bool) → zero_grid g ≡ z → (z || W.wrong_length carried (macroblocks g)) ≡ true → cond accepted (steps F 0 (min (macroblocks g) (macroblocks g - 0)) p) p ≡ p
      by true q e = ap (λ (x : Planes). cond accepted x p) (no_steps q) ∙ same-either accepted p
      by false q e = ap (λ (b : Bool). cond b (steps F 0 (min (macroblocks g) (macroblocks g - 0)) p) p) (not-accepted q e)

-- ---- a search with nothing to choose from

module _ (W : Pass) (a : SearchCall W) (h : (zero_grid a.grid || W.wrong_length a.carried (macroblocks a.grid)) ≡ true) where
  -- so scratch is left as the unfiltered copy
  pub planes-stay : (c : Candidate) → planes_of_candidate W a c ≡ a.reconstruction
  unfolding planes_of_candidate candidate_planes
  planes-stay c = by (eqb c.level 0)
    where
      by : (b : Bool) → cond b a.reconstruction (pass_over W a.grid (settings_at a.settings c) a.carried a.reconstruction) ≡ a.reconstruction
      by true = refl
      by false = idle W a.grid (settings_at a.settings c) a.carried a.reconstruction h

  all-equal : (c : Candidate) → score W a c ≡ error_sum a.grid a.reconstruction a.source
  unfolding score
  all-equal c = ap (λ (p : Planes). error_sum a.grid p a.source) (planes-stay c)

  -- level 0, the base sharpness, 19
  pub nothing-to-choose : choice (search W a) ≡ record { level = 0; sharpness = base_sharpness a.settings; count = 19 }
  unfolding choice search
  nothing-to-choose =
      let kept = unfiltered-wins (score W a) (base_sharpness a.settings) (error_sum a.grid a.reconstruction a.source) all-equal in
      λ i. record { level = (kept.best-kept i).level; sharpness = (kept.best-kept i).sharpness; count = kept.counted i }
