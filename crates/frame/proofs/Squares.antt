-- The square of each macroblock lies in its plane.
-- Assumes nothing.
use Prim.Native.Nat.{ℕ, ◌+◌, ◌-◌, ◌*◌, ◌≤◌, ◌<◌}
use native.Mathlib.Nat.{add-mul, mul-le-mul_left, mul-le-mul_right, mod-lt, div-lt_iff_lt-mul, mul_comm}
use native.Mathlib.Omega.{arith}
use lib.ListN.{length}
use Rattle.planes.specs.Planes.{Plane, Planes, Grid, side, stride, plane, macroblocks, grid_row, grid_column, StridesHold, PlanesHold}
use Rattle.frame.specs.Private.PlaneEdges.{Inside, square_at}
use Rattle.planes.proofs.Fits.{side-least, factor-positive, square-within}

pub row_in : (g : Grid) (m : ℕ) → m < macroblocks g → grid_row g m < g.rows
row_in g m h = (div-lt_iff_lt-mul (factor-positive g.columns g.rows m h)).1 (omega (arith, mul_comm g.columns g.rows))

pub column-in : (g : Grid) (m : ℕ) → m < macroblocks g → grid_column g m < g.columns
column-in g m h = mod-lt m (factor-positive g.columns g.rows m h)

-- the square of z samples in row r, column c of a grid that lies in a plane of n samples
square-in : (z s r c rows columns n : ℕ) → 4 ≤ z → r < rows → c < columns → z * columns ≤ s → (z * rows - 1) * s + z * columns ≤ n → Inside z (square_at z s r c) n
square-in z s r c rows columns n hz hr hc hs hn =
    record {
      within =
          omega (arith, square-within z c columns hc, add-mul (z * r) (z - 1) s, mul-le-mul_right s last);
      left = λ h. omega (arith, mul-le-mul_left z h);
      above = λ h. omega (arith, mul-le-mul_right s (up h));
      wide = omega (arith, square-within z c columns hc);
    }
  where
    last : z * r + (z - 1) ≤ z * rows - 1
    last = omega (arith, square-within z r rows hr)

    up : 0 < r → 4 ≤ z * r
    up h = omega (arith, mul-le-mul_left z h)

-- of a macroblock of the grid
pub square-of : (g : Grid) (p : Planes) (m : ℕ) → StridesHold g → PlanesHold g p → m < macroblocks g → (q : Plane)
    → Inside (side q) (square_at (side q) (stride g q) (grid_row g m) (grid_column g m)) (length (plane q p))
unfolding StridesHold PlanesHold
square-of g p m strides planes h q =
    square-in (side q) (stride g q) (grid_row g m) (grid_column g m) g.rows g.columns (length (plane q p)) (omega (arith, side-least q)) (row_in g m h) (column-in g m h) (strides q) (planes q)
