-- The leading rows that are final: that no macroblock left can reach them; and that they are the most.
use mathlib.Core.Path.{◌≡◌, refl, sym, ap, ◌∙◌, subst}
use mathlib.Core.Logic.{inl, inr, ◌≢◌}
use mathlib.Core.Bool.{Bool, true, false, cond}
use Prim.Native.Nat.{ℕ, ◌+◌, ◌*◌, ◌≤◌, ◌<◌}
use native.Mathlib.Nat.{mod-lt, mul-le-mul_left, le-div_iff_mul-le, div-mul-le_self, le_trans, zero-div}
use native.Mathlib.Omega.{arith}
use lib.Dec.{eqb, ltb}
use borrow.Author.Tests.{ne_eqb, eqb-true, eqb-false, ltb-false}
use Rattle.arithmetic.specs.Outcome.{Outcome, gives, refuses}
use Rattle.planes.specs.Steps.{Clear}
use Rattle.planes.specs.Planes.{Plane, luma, chroma_u, chroma_v, Grid, side, stride, Sample, row_of, column_of, macroblocks, grid_row, grid_column, StridesHold}
use Rattle.planes.specs.Reach.{Box, Near, Reach}
use Rattle.planes.specs.GridRefusals.{zero_grid, too_large}
use Rattle.calls.specs.FinalRows.{Rows, rows_in, rows_above, rows_final, final_rows, Reached, LeadingRows}
use Rattle.planes.proofs.Fits.{factor-positive, square-within, row-column, side-least}
use Rattle.planes.proofs.Local.{reach-in-grid}
use Rattle.planes.proofs.Divided.{reach-divides, reach-divided}
use Rattle.calls.proofs.CallFacts.{zero-macroblocks, not-zero-macroblocks}

-- ---- that they are final, and the most

-- the later ones reach no higher than macroblock `start`
module _ (g : Grid) (start : ℕ) where
  above : (q : Plane) (m row column : ℕ) → start ≤ m → m < macroblocks g → row < rows_above (side q * grid_row g start)
      → ¬ Near (side q) (side q * grid_row g m) (side q * grid_column g m) row column
  unfolding Near Box
  above q m row column l hm h near = go near
    where
      down : side q * grid_row g start ≤ side q * grid_row g m
      down = mul-le-mul_left (side q) ((le-div_iff_mul-le (factor-positive g.columns g.rows m hm)).1 (le_trans (div-mul-le_self start g.columns) l))

      go : Near (side q) (side q * grid_row g m) (side q * grid_column g m) row column → ⊥
      go (inl b) = omega (arith, down)
      go (inr b) = omega (arith, down)

  rows-clear : StridesHold g → (x : Sample) → start ≤ macroblocks g → row_of g x < rows_final g x.on start → Clear (Reach g) start (macroblocks g) x
  unfolding Clear rows_final
  rows-clear ok x l h m a b reached = go (eqb start (macroblocks g)) refl h
    where
      go : (t : Bool) → eqb start (macroblocks g) ≡ t → row_of g x < cond t (side x.on * g.rows) (rows_above (side x.on * grid_row g start)) → ⊥
      go true e h = omega (arith, eqb-true start (macroblocks g) e)
      go false e h = above x.on m (row_of g x) (column_of g x) a b h (reach-divides g ok x m b reached)

  -- macroblock `start` itself reaches the row below these, at its own columns
  row-reached : (q : Plane) → StridesHold g → start < macroblocks g → Reached g start q (rows_above (side q * grid_row g start))
  unfolding StridesHold Near Box
  row-reached q ok hm =
      record {
        where-it-is = x;
        in-plane = refl;
        in_row = at.0;
        in-grid = reach-in-grid g start x hm (reach-divided g start x near);
        by = start;
        not-begun = omega arith;
        in_frame = hm;
        reached = reach-divided g start x near;
      }
    where
      x : Sample
      x = record { on = q; index = (rows_above (side q * grid_row g start)) * stride g q + side q * grid_column g start }

      right : side q * grid_column g start + side q ≤ side q * g.columns
      right = square-within (side q) (grid_column g start) g.columns (mod-lt start (factor-positive g.columns g.rows start hm))

      at : (row_of g x ≡ rows_above (side q * grid_row g start)) × (column_of g x ≡ side q * grid_column g start)
      at = row-column (stride g q) (rows_above (side q * grid_row g start)) (side q * grid_column g start) x.index (omega (arith, right, ok q, side-least q)) refl

      near : Near (side q) (side q * grid_row g start) (side q * grid_column g start) (row_of g x) (column_of g x)
      near = inr (omega (arith, at.0, at.1, side-least q))

  rows-most : (q : Plane) → StridesHold g → start ≤ macroblocks g → rows_final g q start < side q * g.rows → Reached g start q (rows_final g q start)
  unfolding rows_final
  rows-most q ok l h = go (eqb start (macroblocks g)) refl h
    where
      go : (t : Bool) → eqb start (macroblocks g) ≡ t → cond t (side q * g.rows) (rows_above (side q * grid_row g start)) < side q * g.rows
          → Reached g start q (cond t (side q * g.rows) (rows_above (side q * grid_row g start)))
      go true e h = absurd (omega arith)
      go false e h = row-reached q ok (less (eqb-false start (macroblocks g) e) l)
        where
          less : start ≢ macroblocks g → start ≤ macroblocks g → start < macroblocks g
          less ne l = omega arith

-- ---- what `final_rows` gives

module _ (g : Grid) (start : ℕ) where
  no-rows-lead : zero_grid g ≡ true → LeadingRows g start (record { luma = 0; chroma = 0 })
  unfolding zero_grid
  no-rows-lead z = record { clear = λ _ x h. absurd (none x.on (row_of g x) h); most = λ h _ q _. absurd (omega (arith, zero-macroblocks g.columns g.rows z)) }
    where
      none : (q : Plane) (row : ℕ) → row < rows_in q (record { luma = 0; chroma = 0 }) → ⊥
      none luma row h = omega arith
      none chroma_u row h = omega arith
      none chroma_v row h = omega arith

  given-rows : Rows
  given-rows = record { luma = rows_final g luma start; chroma = rows_final g chroma_u start }

  same_rows : (q : Plane) → rows_in q given-rows ≡ rows_final g q start
  unfolding given-rows rows_final
  same_rows luma = refl
  same_rows chroma_u = refl
  same_rows chroma_v = refl

  given-lead : start ≤ macroblocks g → LeadingRows g start given-rows
  given-lead l = record {
    clear = λ ok x h. rows-clear g start ok x l (rw (same_rows x.on) at h);
    most = λ _ ok q h. rw (same_rows q) (rows-most g start q ok l (rw (same_rows q) at h));
  }

  by_cases :
      (z t s : Bool) (r : Rows) → zero_grid g ≡ z → ltb (macroblocks g) start ≡ s
      → cond {A = Outcome Rows} z (gives (record { luma = 0; chroma = 0 })) (cond t (refuses 1) (cond s (refuses 7) (gives given-rows))) ≡ gives r → LeadingRows g start r
  by_cases true t s r ez es e = let o : record { luma = 0; chroma = 0 } ≡ r = cc in subst (λ (w : Rows). LeadingRows g start w) o (no-rows-lead ez)
  by_cases false true s r ez es e = let z : ◌≡◌ {A = ℕ} 0 1 = cc in absurd (omega arith)
  by_cases false false true r ez es e = let z : ◌≡◌ {A = ℕ} 0 1 = cc in absurd (omega arith)
  by_cases false false false r ez es e =
      let o : given-rows ≡ r = cc in
      subst (λ (w : Rows). LeadingRows g start w) o (given-lead (ltb-false (macroblocks g) start es))

  -- they are clear of all macroblocks from `start` on, and the most that are
  pub leading-rows : (r : Rows) → final_rows g start ≡ gives r → LeadingRows g start r
  unfolding final_rows given-rows
  leading-rows r e = by_cases (zero_grid g) (too_large g) (ltb (macroblocks g) start) r refl refl e

-- from start 0 there are none
module _ (g : Grid) where
  none-at-first : zero_grid g ≡ false → (q : Plane) → rows_final g q 0 ≡ 0
  unfolding zero_grid rows_final
  none-at-first z q =
      let some = not-zero-macroblocks g.columns g.rows z in
      rw (ne_eqb 0 (macroblocks g) (λ e. omega arith), zero-div) (omega arith)

  first-by-cases :
      (z t s : Bool) (r : Rows) → zero_grid g ≡ z
      → cond {A = Outcome Rows} z (gives (record { luma = 0; chroma = 0 })) (cond t (refuses 1) (cond s (refuses 7) (gives (given-rows g 0)))) ≡ gives r → (q : Plane) → rows_in q r ≡ 0
  first-by-cases true t s r ez e q = let o : record { luma = 0; chroma = 0 } ≡ r = cc in sym (ap (rows_in q) o) ∙ none q
    where
      none : (q : Plane) → rows_in q (record { luma = 0; chroma = 0 }) ≡ 0
      none luma = refl
      none chroma_u = refl
      none chroma_v = refl
  first-by-cases false true s r ez e q = let z : ◌≡◌ {A = ℕ} 0 1 = cc in absurd (omega arith)
  first-by-cases false false true r ez e q = let z : ◌≡◌ {A = ℕ} 0 1 = cc in absurd (omega arith)
  first-by-cases false false false r ez e q = let o : given-rows g 0 ≡ r = cc in sym (ap (rows_in q) o) ∙ same_rows g 0 q ∙ none-at-first ez q

  pub no-rows-at-first : (r : Rows) → final_rows g 0 ≡ gives r → (q : Plane) → rows_in q r ≡ 0
  unfolding final_rows given-rows
  no-rows-at-first r e = first-by-cases (zero_grid g) (too_large g) (ltb (macroblocks g) 0) r refl e
