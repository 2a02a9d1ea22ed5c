-- Laws of the refusals of a grid, and what is left where none holds. Assumes nothing.
use mathlib.Core.Path.{◌≡◌, refl, subst}
use mathlib.Core.Bool.{Bool, true, false, ◌||◌}
use mathlib.Core.Logic.{⊎_elim}
use Prim.Native.Nat.{ℕ, ◌*◌, ◌≤◌, ◌<◌}
use native.Mathlib.Nat.{mul-le-mul, zero-mul, mul-zero, eq-zero-or-pos}
use lib.Dec.{T, ltb, eqb}
use lib.ListN.{length}
use borrow.Author.Tests.{ltb-false, eqb-true, eqb-false}
use Rattle.planes.specs.Planes.{Planes, Grid, macroblocks}
use Rattle.planes.specs.GridRefusals.{zero_grid, too_large, bad_strides, short_planes, after_grid, past_grid, short_by, grid_refusal}
use Rattle.planes.specs.Layout.{grid_of}
use Rattle.planes.specs.Private.GridBounds.{Small, Bounded}
use Rattle.planes.specs.declared.layout.PlaneLayout.{PlaneLayout}

-- ---- numbers

pub grid_fits : (c r : ℕ) → c ≤ 1024 → r ≤ 1024 → c * r ≤ 1048576
grid_fits c r h k = mul-le-mul {n₁ = c} {m₁ = r} {n₂ = 1024} {m₂ = 1024} h k

pos_of : (n : ℕ) → (n ≡ 0 → ⊥) → 0 < n
pos_of n h = ⊎_elim (λ z. absurd (h z)) (λ z. z) (eq-zero-or-pos n)

pub neither : (a b : Bool) → (a || b) ≡ false → (a ≡ false) × (b ≡ false)
neither true b e = absurd (subst T e tt)
neither false b e = (refl, e)

-- ---- what the tests leave

pub none : (g : Grid) → zero_grid g ≡ true → macroblocks g ≡ 0
unfolding zero_grid
none g e = by (eqb g.columns 0) (eqb g.rows 0) (eqb-true g.columns 0) (eqb-true g.rows 0) e
  where
    by : (a b : Bool) → (a ≡ true → g.columns ≡ 0) → (b ≡ true → g.rows ≡ 0) → (a || b) ≡ true → g.columns * g.rows ≡ 0
    by true b f h e = rw (f refl, zero-mul)
    by false b f h e = rw (h e, mul-zero)

module _ (l : PlaneLayout) where
  pub small : too_large (grid_of l) ≡ false → Small l
  unfolding too_large
  small e =
      let n = neither (ltb 1024 l.mb_cols) (ltb 1024 l.mb_rows) e in
      record { columns = ltb-false 1024 l.mb_cols n.0; rows = ltb-false 1024 l.mb_rows n.1 }

  -- what 2 leaves
  pub record Strides : Type 0 where
    pub wide : 16 * l.mb_cols ≤ l.y_stride
    pub wide_c : 8 * l.mb_cols ≤ l.uv_stride
    pub below : l.y_stride ≤ 65536
    pub below_c : l.uv_stride ≤ 65536

  pub strides : bad_strides (grid_of l) ≡ false → Strides
  unfolding bad_strides
  strides e =
      let n = neither (ltb l.y_stride (16 * l.mb_cols) || ltb l.uv_stride (8 * l.mb_cols) || ltb 65536 l.y_stride) (ltb 65536 l.uv_stride) e in
      let m = neither (ltb l.y_stride (16 * l.mb_cols) || ltb l.uv_stride (8 * l.mb_cols)) (ltb 65536 l.y_stride) n.0 in
      let k = neither (ltb l.y_stride (16 * l.mb_cols)) (ltb l.uv_stride (8 * l.mb_cols)) m.0 in
      record {
        wide = ltb-false l.y_stride (16 * l.mb_cols) k.0;
        wide_c = ltb-false l.uv_stride (8 * l.mb_cols) k.1;
        below = ltb-false 65536 l.y_stride m.1;
        below_c = ltb-false 65536 l.uv_stride n.1;
      }

  pub some : zero_grid (grid_of l) ≡ false → (0 < l.mb_cols) × (0 < l.mb_rows)
  unfolding zero_grid
  some e =
      let n = neither (eqb l.mb_cols 0) (eqb l.mb_rows 0) e in
      (pos_of l.mb_cols (eqb-false l.mb_cols 0 n.0), pos_of l.mb_rows (eqb-false l.mb_rows 0 n.1))

  pub bounded : zero_grid (grid_of l) ≡ false → too_large (grid_of l) ≡ false → bad_strides (grid_of l) ≡ false → Bounded l
  bounded z t b =
      let s = small t in let k = strides b in
      record { some_columns = (some z).0; some_rows = (some z).1; columns = s.columns; rows = s.rows; luma_stride = k.below; chroma_stride = k.below_c }

-- ---- the number of the refusal, and which test gave it

-- of planes
pub by_lengths : (g : Grid) (p : Planes) → grid_refusal g (length p.y) (length p.u) (length p.v) ≡ past_grid g p 0
unfolding grid_refusal past_grid after_grid short_by short_planes
by_lengths g p = refl
