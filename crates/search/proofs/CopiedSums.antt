-- The error sum reads the grid alone: that of a copy is that of what was copied. Assumes nothing.
use mathlib.Core.Path.{◌≡◌, refl, sym, ap₂, ◌∙◌}
use mathlib.Core.Bool.{true}
use mathlib.Core.List.{List}
use Prim.Native.Nat.{ℕ, zero, suc, ◌+◌, ◌*◌, ◌≤◌, ◌<◌}
use native.Mathlib.Omega.{arith}
use lib.ListN.{get_or}
use Rattle.planes.specs.GridRefusals.{zero_grid, past_grid}
use Rattle.planes.specs.Planes.{Plane, luma, chroma_u, chroma_v, Planes, Grid, side, stride, plane, StridesHold, PlanesHold}
use Rattle.planes.proofs.Divided.{InGridDivided}
use Rattle.planes.proofs.Fits.{row-column}
use Rattle.planes.proofs.PastGrid.{Sound, with-grid}
use Rattle.sums.specs.Source.{Source}
use Rattle.sums.specs.Source as of
use Rattle.sums.specs.Sums.{squared, row_sum, rows_sum, plane_sum, error_sum, past_source}
use Rattle.sums.proofs.SumBounds.{no-samples}
use Rattle.sums.proofs.SumRefusals.{in-grid}
use Rattle.scratch.specs.Copies.{copy_grid}
use Rattle.scratch.proofs.CopyLaws.{copied-in}

row_same : (a a' : List ℕ) (i : ℕ) (b : List ℕ) (j n : ℕ) → ((k : ℕ) → k < n → get_or a (i + k) 0 ≡ get_or a' (i + k) 0) → row_sum a i b j n ≡ row_sum a' i b j n
unfolding row_sum
row_same a a' i b j zero h = refl
row_same a a' i b j (suc n) h =
    ap₂ (λ (x y : ℕ). x + squared y (get_or b (j + n) 0)) (row_same a a' i b j n (λ k l. h k (omega arith))) (h n (omega arith))

rows_same : (a a' : List ℕ) (s : ℕ) (b : List ℕ) (t w n : ℕ) → ((r k : ℕ) → r < n → k < w → get_or a (r * s + k) 0 ≡ get_or a' (r * s + k) 0) → rows_sum a s b t w n ≡ rows_sum a' s b t w n
unfolding rows_sum
rows_same a a' s b t w zero h = refl
rows_same a a' s b t w (suc n) h =
    ap₂ (λ (x y : ℕ). x + y) (rows_same a a' s b t w n (λ r k l m. h r k (omega arith) m)) (row_same a a' (n * s) b (n * t) w (λ k l. h n k (omega arith) l))

module _ (g : Grid) (x t : Planes) (s : Source) (et : past_grid g t 0 ≡ 0) (es : past_source g s 0 ≡ 0) where
  plane-copy : Sound g t → (q : Plane) → plane_sum g (copy_grid g x t) s q ≡ plane_sum g x s q
  unfolding plane_sum StridesHold PlanesHold InGridDivided
  plane-copy ok q =
      rows_same (plane q (copy_grid g x t)) (plane q x) (stride g q) (plane q s.samples) (of.stride_of s q) (of.wide s q) (of.high s q)
      (λ r k a b.
      let m = within q in
      let (er, ek) = row-column (stride g q) r k (r * stride g q + k) (omega (arith, ok.strides q)) refl in
      copied-in g x t ok.strides ok.planes (record { on = q; index = r * stride g q + k }) (omega arith, omega arith))
    where
      within : (q : Plane) → (of.wide s q ≤ side q * g.columns) × (of.high s q ≤ side q * g.rows)
      within luma = in-grid g s es
      within chroma_u = let k = in-grid g s es in omega arith
      within chroma_v = let k = in-grid g s es in omega arith

  pub sum-copy : error_sum g (copy_grid g x t) s ≡ error_sum g x s
  unfolding error_sum
  sum-copy = with-grid g t et
      (λ z. empty z (copy_grid g x t) ∙ sym (empty z x))
      (λ z ok. λ i. plane-copy ok luma i + plane-copy ok chroma_u i + plane-copy ok chroma_v i)
    where
      empty : zero_grid g ≡ true → (p : Planes) → error_sum g p s ≡ 0
      empty z p = no-samples g s z (in-grid g s es) p
