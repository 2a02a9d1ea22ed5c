-- A pass over a copy is the copy of the pass. Assumes nothing.
use mathlib.Core.Path.{◌≡◌, refl, sym, ◌∙◌}
use mathlib.Core.Bool.{Bool, true, false, cond}
use Prim.Native.Nat.{ℕ, ◌-◌, ◌≤◌, min}
use native.Mathlib.Omega.{arith}
use lib.Dec.{eqb, ltb}
use lib.ListN.{length}
use borrow.Author.Tests.{eqb-true, ltb-false}
use Rattle.levels.specs.declared.config.FrameFilterConfig.{FrameFilterConfig}
use Rattle.planes.specs.GridRefusals.{zero_grid, past_grid}
use Rattle.planes.specs.Macroblock.{filter_macroblock}
use Rattle.planes.specs.Planes.{Plane, Planes, Grid, plane, macroblocks}
use Rattle.planes.specs.Steps.{steps}
use Rattle.planes.proofs.Alike.{length-steps}
use Rattle.planes.proofs.GridLaws.{none}
use Rattle.planes.proofs.PastGrid.{Sound, grid-sound, with-grid, past_is, grid-passes}
use Rattle.calls.specs.Pass.{Pass, Call, refusal, step, count, planes_after}
use Rattle.scratch.specs.Copies.{copy_grid}
use Rattle.scratch.proofs.CopyLaws.{copy-past, no-grid}
use Rattle.scratch.proofs.SameGrid.{steps-copy}

-- ---- a pass over a copy

module _ (W : Pass) (g : Grid) (settings : FrameFilterConfig) (carried : W.Carried) (start : ℕ) where
  abbrev call : Planes → (allowance : ℕ) → Call W
  call p allowance = record { grid = g; settings = settings; carried = carried; lent = p; start = start; allowance = allowance }

  abbrev rest : ℕ
  rest = cond (W.wrong_length carried (macroblocks g)) 5 (cond (W.bad_entry carried) 6 (cond (ltb (macroblocks g) start) 7 0))

  -- 5, 6 and 7 are what is left to refuse
  pub refusal_is : (p : Planes) (allowance : ℕ) → zero_grid g ≡ false → past_grid g p 0 ≡ 0 → refusal W (call p allowance) ≡ rest
  unfolding refusal
  refusal_is p allowance z e = rw z (sym (past_is g p rest z) ∙ grid-passes g p rest e)

  -- an allowance of all macroblocks or more does all of them
  pub all-allowed : (p : Planes) (allowance : ℕ) → macroblocks g ≤ allowance → planes_after W (call p allowance) ≡ planes_after W (call p (macroblocks g))
  unfolding planes_after count refusal
  all-allowed p allowance h =
      let e : min allowance (macroblocks g - start) ≡ min (macroblocks g) (macroblocks g - start) = omega arith in
      λ i. cond (eqb (refusal W (call p (macroblocks g))) 0) (steps (step W g settings (W.entry carried)) start (e i) p) p

  idle : (p : Planes) (allowance : ℕ) → zero_grid g ≡ true → planes_after W (call p allowance) ≡ p
  unfolding planes_after count refusal steps
  idle p allowance z =
      let e : min allowance (macroblocks g - start) ≡ 0 = omega (arith, none g z) in
      rw (z, e)

  -- where nothing is left to refuse, the start lies in the grid
  started : rest ≡ 0 → start ≤ macroblocks g
  started e = by (W.wrong_length carried (macroblocks g)) (W.bad_entry carried) (ltb (macroblocks g) start) (ltb-false (macroblocks g) start) e
    where
      by : (a b d : Bool) → (d ≡ false → start ≤ macroblocks g) → ◌≡◌ {A = ℕ} (cond a 5 (cond b 6 (cond d 7 0))) 0 → start ≤ macroblocks g
      by true b d h e = absurd (omega arith)
      by false true d h e = absurd (omega arith)
      by false false true h e = absurd (omega arith)
      by false false false h e = h refl

  module _ (allowance : ℕ) where
    -- where there is a grid
    pass-copy-held : (p t : Planes) → past_grid g p 0 ≡ 0 → past_grid g (copy_grid g p t) 0 ≡ 0 → zero_grid g ≡ false → Sound g p → Sound g t
        → planes_after W (call (copy_grid g p t) allowance) ≡ copy_grid g (planes_after W (call p allowance)) t
    unfolding planes_after count step
    pass-copy-held p t ep ec z op ot =
        rw (refusal_is (copy_grid g p t) allowance z ec, refusal_is p allowance z ep) (by (eqb rest 0) refl)
      where
        n : ℕ
        n = min allowance (macroblocks g - start)

        F : ℕ → Planes → Planes
        F = filter_macroblock g (λ m. W.plan settings (W.entry carried m))

        by : (b : Bool) → eqb rest 0 ≡ b → cond b (steps F start n (copy_grid g p t)) (copy_grid g p t) ≡ copy_grid g (cond b (steps F start n p) p) t
        by true e =
            steps-copy g (λ m. W.plan settings (W.entry carried m)) op.strides start n (omega (arith, started (eqb-true rest 0 e))) p t op.planes ot.planes
        by false e = refl

    pub pass-copy : (p t : Planes) → past_grid g p 0 ≡ 0 → past_grid g t 0 ≡ 0
        → planes_after W (call (copy_grid g p t) allowance) ≡ copy_grid g (planes_after W (call p allowance)) t
    pass-copy p t ep et = with-grid g p ep
        (λ z. idle (copy_grid g p t) allowance z ∙ no-grid g p t z ∙ sym (no-grid g (planes_after W (call p allowance)) t z))
        (λ z ok. pass-copy-held p t ep (copy-past g p t ∙ et) z ok (grid-sound g t et z))

    -- the lengths stay
    pub pass-length : (p : Planes) (q : Plane) → length (plane q (planes_after W (call p allowance))) ≡ length (plane q p)
    unfolding planes_after step
    pass-length p q =
        either (eqb (refusal W (call p allowance)) 0) (steps (filter_macroblock g (λ m. W.plan settings (W.entry carried m))) start (count W (call p allowance)) p)
        (length-steps g (λ m. W.plan settings (W.entry carried m)) start (count W (call p allowance)) p q)
      where
        either : (b : Bool) (x : Planes) → length (plane q x) ≡ length (plane q p) → length (plane q (cond b x p)) ≡ length (plane q p)
        either true x e = e
        either false x e = refl
