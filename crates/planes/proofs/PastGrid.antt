-- What comes after refusals 1, 2 and 3, and what they leave of a grid and its planes where none holds. Assumes nothing.
use mathlib.Core.Path.{◌≡◌, refl, sym}
use mathlib.Core.Bool.{Bool, true, false, cond, ◌||◌}
use Prim.Native.Nat.{ℕ, ◌+◌, ◌-◌, ◌*◌, ◌≤◌, ◌<◌}
use native.Mathlib.Nat.{mul-le-mul_right}
use native.Mathlib.Omega.{arith}
use lib.Dec.{ltb}
use lib.ListN.{length}
use borrow.Author.Tests.{ltb-false, ne_eqb}
use Rattle.planes.specs.Planes.{Plane, luma, chroma_u, chroma_v, Planes, Grid, side, stride, plane, macroblocks, StridesHold, PlanesHold}
use Rattle.planes.specs.GridRefusals.{zero_grid, too_large, bad_strides, needed, short_planes, after_grid, past_grid}
use Rattle.planes.proofs.GridLaws.{neither, none, grid_fits}

true-false : {A : Type 0} → true ≡ false → A
true-false e = let z : ◌≡◌ {A = ℕ} 0 1 = cc in absurd (omega arith)

-- row n of h is within what h rows take
pub row_in : (w s n h len : ℕ) → n < h → (h - 1) * s + w ≤ len → n * s + w ≤ len
row_in w s n h len lt fits = omega (arith, mul-le-mul_right {m = n} {n = h - 1} s (omega arith))

-- ---- whether there is a grid

pub grid-there : (g : Grid) → (g.columns ≡ 0 → ⊥) → (g.rows ≡ 0 → ⊥) → zero_grid g ≡ false
unfolding zero_grid
grid-there g a b = rw (ne_eqb g.columns 0 a, ne_eqb g.rows 0 b)

-- ---- the lengths alone decide

pub past-lengths : (g : Grid) (p p' : Planes) (rest : ℕ) → ((q : Plane) → length (plane q p) ≡ length (plane q p')) → past_grid g p rest ≡ past_grid g p' rest
unfolding past_grid after_grid short_planes
past-lengths g p p' rest len =
    λ i. cond (zero_grid g) rest (cond (too_large g) 1 (cond (bad_strides g) 2
    (cond (ltb (len luma i) (needed g luma) || ltb (len chroma_u i) (needed g chroma_u) || ltb (len chroma_v i) (needed g chroma_v)) 3 rest)))

-- ---- what 1, 2 and 3 leave

pub record Few (g : Grid) : Type 0 where
  pub columns : g.columns ≤ 1024
  pub rows : g.rows ≤ 1024

pub few : (g : Grid) → too_large g ≡ false → Few g
unfolding too_large
few g a =
    let (b, d) = neither (ltb 1024 g.columns) (ltb 1024 g.rows) a in
    record { columns = ltb-false 1024 g.columns b; rows = ltb-false 1024 g.rows d }

pub record Sound (g : Grid) (p : Planes) : Type 0 where
  pub few : Few g
  pub strides : StridesHold g
  pub planes : PlanesHold g p

sound : (g : Grid) (p : Planes) → too_large g ≡ false → bad_strides g ≡ false → short_planes g p ≡ false → Sound g p
unfolding bad_strides short_planes needed StridesHold PlanesHold
sound g p a b d = record { few = few g a; strides = wide; planes = long }
  where
    ys : ℕ
    ys = g.luma_stride

    us : ℕ
    us = g.chroma_stride

    rows_fit : (ltb ys (16 * g.columns) || ltb us (8 * g.columns)) ≡ false
    rows_fit =
        (neither (ltb ys (16 * g.columns) || ltb us (8 * g.columns)) (ltb 65536 ys)
        (neither (ltb ys (16 * g.columns) || ltb us (8 * g.columns) || ltb 65536 ys) (ltb 65536 us) b).0).0

    luma-fits : 16 * g.columns ≤ ys
    luma-fits = ltb-false ys (16 * g.columns) (neither (ltb ys (16 * g.columns)) (ltb us (8 * g.columns)) rows_fit).0

    chroma-fits : 8 * g.columns ≤ us
    chroma-fits = ltb-false us (8 * g.columns) (neither (ltb ys (16 * g.columns)) (ltb us (8 * g.columns)) rows_fit).1

    wide : (q : Plane) → side q * g.columns ≤ stride g q
    wide luma = luma-fits
    wide chroma_u = chroma-fits
    wide chroma_v = chroma-fits

    yu : (ltb (length p.y) (needed g luma) || ltb (length p.u) (needed g chroma_u)) ≡ false
    yu = (neither (ltb (length p.y) (needed g luma) || ltb (length p.u) (needed g chroma_u)) (ltb (length p.v) (needed g chroma_v)) d).0

    long : (q : Plane) → (side q * g.rows - 1) * stride g q + side q * g.columns ≤ length (plane q p)
    long luma = ltb-false (length p.y) (needed g luma) (neither (ltb (length p.y) (needed g luma)) (ltb (length p.u) (needed g chroma_u)) yu).0
    long chroma_u = ltb-false (length p.u) (needed g chroma_u) (neither (ltb (length p.y) (needed g luma)) (ltb (length p.u) (needed g chroma_u)) yu).1
    long chroma_v =
        ltb-false (length p.v) (needed g chroma_v)
        (neither (ltb (length p.y) (needed g luma) || ltb (length p.u) (needed g chroma_u)) (ltb (length p.v) (needed g chroma_v)) d).1

module _ (g : Grid) (p : Planes) where
  pub grid-sound : past_grid g p 0 ≡ 0 → zero_grid g ≡ false → Sound g p
  unfolding past_grid after_grid
  grid-sound e z = by (zero_grid g) (too_large g) (bad_strides g) (short_planes g p) refl refl refl refl z e
    where
      by : (z a b d : Bool) → zero_grid g ≡ z → too_large g ≡ a → bad_strides g ≡ b → short_planes g p ≡ d → z ≡ false
          → ◌≡◌ {A = ℕ} (cond z 0 (cond a 1 (cond b 2 (cond d 3 0)))) 0 → Sound g p
      by true a b d ez ea eb ed there e = true-false there
      by false true b d ez ea eb ed there e = absurd (omega arith)
      by false false true d ez ea eb ed there e = absurd (omega arith)
      by false false false true ez ea eb ed there e = absurd (omega arith)
      by false false false false ez ea eb ed there e = sound g p ea eb ed

  pub grid-small : past_grid g p 0 ≡ 0 → 0 < g.columns → 0 < g.rows → (g.columns ≤ 1024) × (g.rows ≤ 1024)
  grid-small e a b = let k = grid-sound e (grid-there g (λ z. omega arith) (λ z. omega arith)) in omega (arith, k.few)

-- by whether there is a grid
pub with-grid : {A : Type 0} (g : Grid) (p : Planes) → past_grid g p 0 ≡ 0 → (zero_grid g ≡ true → A) → (zero_grid g ≡ false → Sound g p → A) → A
with-grid {A} g p e f h = by (zero_grid g) refl
  where
    by : (b : Bool) → zero_grid g ≡ b → A
    by true z = f z
    by false z = h z (grid-sound g p e z)

-- a grid that is not refused has at most 1024 × 1024 macroblocks
pub macroblocks-most : (g : Grid) (p : Planes) → past_grid g p 0 ≡ 0 → macroblocks g ≤ 1048576
macroblocks-most g p e =
    with-grid g p e (λ z. omega (arith, none g z)) (λ z ok. grid_fits g.columns g.rows ok.few.columns ok.few.rows)

-- ---- what comes after them

module _ (g : Grid) (p : Planes) where
  pub past_is : (rest : ℕ) → zero_grid g ≡ false → past_grid g p rest ≡ after_grid g p rest
  unfolding past_grid
  past_is rest z = rw z

  -- where none of 1, 2 and 3 holds, the rest is judged
  pub grid-passes : (rest : ℕ) → past_grid g p 0 ≡ 0 → past_grid g p rest ≡ rest
  unfolding past_grid after_grid
  grid-passes rest e = by (zero_grid g) (too_large g) (bad_strides g) (short_planes g p) e
    where
      by : (z a b d : Bool) → ◌≡◌ {A = ℕ} (cond z 0 (cond a 1 (cond b 2 (cond d 3 0)))) 0 → cond z rest (cond a 1 (cond b 2 (cond d 3 rest))) ≡ rest
      by true a b d e = refl
      by false true b d e = absurd (omega arith)
      by false false true d e = absurd (omega arith)
      by false false false true e = absurd (omega arith)
      by false false false false e = refl

  -- where one holds, it is the refusal
  pub grid-stops : (rest n : ℕ) → n ≡ past_grid g p 0 → (n ≡ 0 → ⊥) → past_grid g p rest ≡ n
  unfolding past_grid after_grid
  grid-stops rest n e nz = by (zero_grid g) (too_large g) (bad_strides g) (short_planes g p) e
    where
      by : (z a b d : Bool) → n ≡ cond z 0 (cond a 1 (cond b 2 (cond d 3 0))) → cond z rest (cond a 1 (cond b 2 (cond d 3 rest))) ≡ n
      by true a b d e = absurd (nz e)
      by false true b d e = sym e
      by false false true d e = sym e
      by false false false true e = sym e
      by false false false false e = absurd (nz e)

  -- where nothing is refused, neither 1, 2 and 3 nor the rest is
  pub grid-none : (rest : ℕ) → past_grid g p rest ≡ 0 → (past_grid g p 0 ≡ 0) × (rest ≡ 0)
  unfolding past_grid after_grid
  grid-none rest e = by (zero_grid g) (too_large g) (bad_strides g) (short_planes g p) e
    where
      by : (z a b d : Bool) → ◌≡◌ {A = ℕ} (cond z rest (cond a 1 (cond b 2 (cond d 3 rest)))) 0 → (◌≡◌ {A = ℕ} (cond z 0 (cond a 1 (cond b 2 (cond d 3 0)))) 0) × (rest ≡ 0)
      by true a b d e = (refl, e)
      by false true b d e = absurd (omega arith)
      by false false true d e = absurd (omega arith)
      by false false false true e = absurd (omega arith)
      by false false false false e = (refl, e)
