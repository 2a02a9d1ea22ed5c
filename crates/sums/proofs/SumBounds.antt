-- No accepted sum of bytes reaches 2 ^ 64.
use mathlib.Core.Path.{◌≡◌, refl, sym, ◌∙◌}
use mathlib.Core.Bool.{Bool, true, false, cond, ◌||◌}
use mathlib.Core.Logic.{⊎_elim}
use mathlib.Core.List.{List}
use Prim.Native.Nat.{ℕ, zero, suc, ◌+◌, ◌*◌, ◌-◌, ◌≤◌, ◌<◌, ◌^◌}
use native.Mathlib.Nat.{mul-le-mul, eq-zero-or-pos}
use native.Mathlib.Omega.{arith}
use lib.Dec.{eqb}
use lib.ListN.{get_or}
use borrow.Author.Tests.{eqb-true, eqb-false, lt-leb}
use Rattle.planes.specs.Planes.{luma, chroma_u, chroma_v, Planes, Grid}
use Rattle.planes.specs.GridRefusals.{zero_grid, too_large, bad_strides, short_planes, after_grid, past_grid}
use Rattle.planes.proofs.PastGrid.{grid-passes, grid-stops}
use Rattle.sums.specs.Source.{Source, source_too_large, bad_source}
use Rattle.sums.specs.Source as of
use Rattle.sums.specs.Sums.{squared, row_sum, rows_sum, plane_sum, error_sum, past_source, sum_too_large, sum_refusal}
use Rattle.sums.specs.Bytes.{Bytes, BytePlanes}
use Rattle.sums.specs.Private.SumCode.{Summable}
use Rattle.sums.proofs.SumRefusals.{source-stops, summable, judged, no-sample-wide, no-sample-high}

-- ---- tests

lt-too : (n : ℕ) → n < 2 ^ 64 → sum_too_large n ≡ false
unfolding sum_too_large
lt-too n h = lt-leb (2 ^ 64) n h

no-ten : (b : Bool) → b ≡ false → ◌≡◌ {A = ℕ} (cond b 10 0) 10 → ⊥
no-ten true e f = let z : ◌≡◌ {A = ℕ} 0 1 = cc in omega arith
no-ten false e f = omega arith

small-grid : (g : Grid) (p : Planes) → past_grid g p 0 ≡ 10 → ⊥
unfolding past_grid after_grid
small-grid g p e = by (zero_grid g) (too_large g) (bad_strides g) (short_planes g p) e
  where
    by : (z a b d : Bool) → ◌≡◌ {A = ℕ} (cond z 0 (cond a 1 (cond b 2 (cond d 3 0)))) 10 → ⊥
    by true a b d e = omega arith
    by false true b d e = omega arith
    by false false true d e = omega arith
    by false false false true e = omega arith
    by false false false false e = omega arith

small-source : (g : Grid) (s : Source) → past_source g s 0 ≡ 10 → ⊥
unfolding past_source
small-source g s e = by (source_too_large g s) (bad_source s) e
  where
    by : (a b : Bool) → ◌≡◌ {A = ℕ} (cond a 8 (cond b 9 0)) 10 → ⊥
    by true b e = omega arith
    by false true e = omega arith
    by false false e = omega arith

-- a grid without a macroblock has room for no sample
pub no-samples : (g : Grid) (s : Source) → zero_grid g ≡ true → (s.width ≤ 16 * g.columns) × (s.height ≤ 16 * g.rows) → (p : Planes) → error_sum g p s ≡ 0
unfolding zero_grid
no-samples g s z k p = by (eqb g.columns 0) (eqb g.rows 0) (eqb-true g.columns 0) (eqb-true g.rows 0) z
  where
    by : (a b : Bool) → (a ≡ true → g.columns ≡ 0) → (b ≡ true → g.rows ≡ 0) → (a || b) ≡ true → error_sum g p s ≡ 0
    by true b ha hb e = no-sample-wide g p s (omega (arith, ha refl))
    by false true ha hb e = no-sample-high g p s (omega (arith, hb refl))
    by false false ha hb e = let z : ◌≡◌ {A = ℕ} 0 1 = cc in absurd (omega arith)

-- ---- a bound

squared-byte : (x y : ℕ) → x < 256 → y < 256 → squared x y ≤ 65025
unfolding squared
squared-byte x y a b = mul-le-mul {n₁ = (x - y) + (y - x)} {m₁ = (x - y) + (y - x)} {n₂ = 255} {m₂ = 255} (omega arith) (omega arith)

module _ (a b : List ℕ) (ba : Bytes a) (bb : Bytes b) where
  row-most : (i j n : ℕ) → row_sum a i b j n ≤ 65025 * n
  unfolding row_sum Bytes
  row-most i j zero = omega arith
  row-most i j (suc n) = omega (arith, row-most i j n, squared-byte (get_or a (i + n) 0) (get_or b (j + n) 0) (ba (i + n)) (bb (j + n)))

  rows-most : (s t w h : ℕ) → w ≤ 16384 → rows_sum a s b t w h ≤ 1065369600 * h
  unfolding rows_sum
  rows-most s t w zero k = omega arith
  rows-most s t w (suc h) k = omega (arith, rows-most s t w h k, row-most (h * s) (h * t) w)

module _ (g : Grid) (p : Planes) (s : Source) (bp : BytePlanes p) (bs : BytePlanes s.samples) where
  sum-most : Summable g p s → error_sum g p s < 2 ^ 64
  unfolding error_sum plane_sum BytePlanes
  sum-most m =
      omega (
        arith,
        rows-most p.y s.samples.y (bp luma) (bs luma) g.luma_stride s.luma_stride (of.wide s luma) (of.high s luma) m.y.wide,
        m.y.high,
        rows-most p.u s.samples.u (bp chroma_u) (bs chroma_u) g.chroma_stride s.chroma_stride (of.wide s chroma_u) (of.high s chroma_u) m.u.wide,
        m.u.high,
        rows-most p.v s.samples.v (bp chroma_v) (bs chroma_v) g.chroma_stride s.chroma_stride (of.wide s chroma_v) (of.high s chroma_v) m.v.wide,
        m.v.high,
      )

  -- where 1, 2, 3, 8 and 9 refuse nothing
  pub sum_fits : past_grid g p 0 ≡ 0 → past_source g s 0 ≡ 0 → error_sum g p s < 2 ^ 64
  sum_fits e f =
      ⊎_elim (λ w. omega (arith, no-sample-wide g p s w))
      (λ w. ⊎_elim (λ h. omega (arith, no-sample-high g p s h)) (λ h. sum-most (summable g p s e f w h)) (eq-zero-or-pos s.height))
      (eq-zero-or-pos s.width)

  -- 10 never happens
  pub never-ten : sum_refusal g p s ≡ 10 → ⊥
  unfolding sum_refusal
  never-ten e = by (eqb (past_grid g p 0) 0) (eqb (past_source g s 0) 0) refl refl
    where
      by : (a b : Bool) → eqb (past_grid g p 0) 0 ≡ a → eqb (past_source g s 0) 0 ≡ b → ⊥
      by true true ea eb =
          let x = eqb-true (past_grid g p 0) 0 ea in let y = eqb-true (past_source g s 0) 0 eb in
          no-ten (sum_too_large (error_sum g p s)) (lt-too (error_sum g p s) (sum_fits x y)) (sym (judged g p s x y) ∙ e)
      by true false ea eb =
          let x = eqb-true (past_grid g p 0) 0 ea in
          small-source g s (sym (source-stops g s (cond (sum_too_large (error_sum g p s)) 10 0) (past_source g s 0) refl (eqb-false (past_source g s 0) 0 eb))
          ∙ sym (grid-passes g p (past_source g s (cond (sum_too_large (error_sum g p s)) 10 0)) x) ∙ e)
      by false b ea eb =
          small-grid g p (sym (grid-stops g p (past_source g s (cond (sum_too_large (error_sum g p s)) 10 0)) (past_grid g p 0) refl (eqb-false (past_grid g p 0) 0 ea)) ∙ e)
