-- A candidate that is made in the scratch planes. Assumes nothing.
use mathlib.Core.Path.{◌≡◌, refl, sym, ap, ap₂, ◌∙◌}
use mathlib.Core.Bool.{Bool, true, false, cond}
use Prim.Native.Nat.{ℕ, ◌≤◌}
use lib.Dec.{eqb}
use lib.ListN.{length}
use borrow.Author.Tests.{eq-eqb, ne_eqb}
use Rattle.levels.specs.declared.config.FrameFilterConfig.{FrameFilterConfig}
use Rattle.std.specs.Prelude.{Result, Ok, Err}
use Rattle.arithmetic.specs.Outcome.{outcome, number_of}
use Rattle.planes.specs.GridRefusals.{past_grid, grid_refusal_number}
use Rattle.planes.specs.declared.grid.GridRefusal.{GridRefusal}
use Rattle.planes.specs.Planes.{Plane, Planes, Grid, plane, macroblocks}
use Rattle.calls.specs.Pass.{Pass, planes_after}
use Rattle.scratch.specs.Copies.{copy_grid, copied_grid}
use Rattle.planes.proofs.PastGrid.{past-lengths}
use Rattle.scratch.proofs.CopyLaws.{copied, not-copied, some-refusal}
use Rattle.scratch.proofs.Passes.{all-allowed, pass-copy, pass-length}
use Rattle.search.specs.Candidates.{Candidate}
use Rattle.search.specs.Search.{settings_at, pass_over, candidate_planes}

pub candidate-length : (W : Pass) (g : Grid) (settings : FrameFilterConfig) (carried : W.Carried) (p : Planes) (c : Candidate) (q : Plane)
    → length (plane q (candidate_planes W g settings carried p c)) ≡ length (plane q p)
unfolding candidate_planes pass_over
candidate-length W g settings carried p c q = by (eqb c.level 0)
  where
    by : (b : Bool) → length (plane q (cond b p (pass_over W g (settings_at settings c) carried p))) ≡ length (plane q p)
    by true = refl
    by false = pass-length W g (settings_at settings c) carried 0 (macroblocks g) p q

-- so a candidate is refused where the reconstruction is
pub candidate-past : (W : Pass) (g : Grid) (settings : FrameFilterConfig) (carried : W.Carried) (p : Planes) (c : Candidate) (rest : ℕ)
    → past_grid g (candidate_planes W g settings carried p c) rest ≡ past_grid g p rest
candidate-past W g settings carried p c rest = past-lengths g (candidate_planes W g settings carried p c) p rest (candidate-length W g settings carried p c)

-- what a copy answers
module _ (r : Result Unit GridRefusal) (n : ℕ) (e : number_of (outcome grid_refusal_number r) ≡ n) where
  pub copy_refused : ((u : Unit) → r ≡ Ok u → ⊥) → n ≡ 0 → ⊥
  unfolding number_of
  copy_refused h z = by r refl
    where
      by : (s : Result Unit GridRefusal) → r ≡ s → ⊥
      by (Ok u) q = h u q
      by (Err w) q = some-refusal w (sym (ap (λ (s : Result Unit GridRefusal). number_of (outcome grid_refusal_number s)) q) ∙ e ∙ z)

  pub copy_done : (u : Unit) → r ≡ Ok u → n ≡ 0
  unfolding number_of
  copy_done u q = sym e ∙ ap (λ (s : Result Unit GridRefusal). number_of (outcome grid_refusal_number s)) q

module _ (W : Pass) (g : Grid) (settings : FrameFilterConfig) (carried : W.Carried) (p t : Planes) (c : Candidate) where
  -- where the reconstruction or the scratch planes are refused, no candidate is made
  pub candidate-none : (past_grid g p (past_grid g t 0) ≡ 0 → ⊥) → (after : Planes) → after ≡ copied_grid g p t → after ≡ copied_grid g (candidate_planes W g settings carried p c) t
  candidate-none h after e =
      e ∙ sym (not-copied g p t h)
      ∙ not-copied g (candidate_planes W g settings carried p c) t
      (λ z. h (sym (candidate-past W g settings carried p c (past_grid g t 0)) ∙ z))

  module _ (ep : past_grid g p 0 ≡ 0) (et : past_grid g t 0 ≡ 0) where
    pub candidate-copied : copied_grid g (candidate_planes W g settings carried p c) t ≡ copy_grid g (candidate_planes W g settings carried p c) t
    candidate-copied =
        copied g (candidate_planes W g settings carried p c) t (candidate-past W g settings carried p c 0 ∙ ep) et

    unfiltered-copy : (after : Planes) → c.level ≡ 0 → after ≡ copy_grid g p t → after ≡ copy_grid g (candidate_planes W g settings carried p c) t
    unfolding candidate_planes
    unfiltered-copy after e h = rw (eq-eqb c.level 0 e) h

    filtered-copy : (copy after : Planes) (f : FrameFilterConfig) (allowance : ℕ) → (c.level ≡ 0 → ⊥) → macroblocks g ≤ allowance → copy ≡ copy_grid g p t → f ≡ settings_at settings c
        → after ≡ planes_after W (record { grid = g; settings = f; carried = carried; lent = copy; start = 0; allowance = allowance })
        → after ≡ copy_grid g (candidate_planes W g settings carried p c) t
    unfolding candidate_planes pass_over
    filtered-copy copy after f allowance nz h ec ef e =
        rw (ne_eqb c.level 0 nz)
        (e
        ∙ ap₂ (λ (x : Planes) (k : FrameFilterConfig). planes_after W (record { grid = g; settings = k; carried = carried; lent = x; start = 0; allowance = allowance })) ec ef
        ∙ all-allowed W g (settings_at settings c) carried 0 (copy_grid g p t) allowance h
        ∙ pass-copy W g (settings_at settings c) carried 0 (macroblocks g) p t ep et)

    pub candidate-zero : (after : Planes) → c.level ≡ 0 → after ≡ copied_grid g p t → after ≡ copied_grid g (candidate_planes W g settings carried p c) t
    candidate-zero after e h = unfiltered-copy after e (h ∙ copied g p t ep et) ∙ sym candidate-copied

    pub candidate-pass : (copy after : Planes) (f : FrameFilterConfig) (allowance : ℕ) → (c.level ≡ 0 → ⊥) → macroblocks g ≤ allowance → copy ≡ copied_grid g p t → f ≡ settings_at settings c
        → after ≡ planes_after W (record { grid = g; settings = f; carried = carried; lent = copy; start = 0; allowance = allowance })
        → after ≡ copied_grid g (candidate_planes W g settings carried p c) t
    candidate-pass copy after f allowance nz h ec ef e = filtered-copy copy after f allowance nz h (ec ∙ copied g p t ep et) ef e ∙ sym candidate-copied
