-- Where no row of the grid is longer than a stride, as 2 has it, a sample of the grid stands at one row and column alone: its index divided by the stride, and the remainder.
use mathlib.Core.Path.{sym, subst}
use mathlib.Core.Logic.{inl, inr}
use Prim.Native.Nat.{ℕ, ◌+◌, ◌*◌, ◌/◌, ◌%◌, ◌≤◌, ◌<◌}
use native.Mathlib.Nat.{div-add-mod', mod-lt}
use native.Mathlib.Omega.{arith}
use Rattle.planes.specs.Planes.{Grid, side, stride, Sample, row_of, column_of, macroblocks, grid_row, grid_column, StridesHold}
use Rattle.planes.specs.Reach.{Stands, Box, Near, Reach, InGrid}
use Rattle.planes.proofs.Fits.{row-column, square-within, factor-positive}

-- its quotient and its remainder are a place where an index stands
pub stands-divided : (s i : ℕ) (P : (row column : ℕ) → Type 0) → P (i / s) (i % s) → Stands s i P
stands-divided s i P h = record { row = i / s; column = i % s; at = sym (div-add-mod' i s); there = h }

-- and the only one whose column is below the stride
pub divides : (s i : ℕ) (P : (row column : ℕ) → Type 0) → ((row column : ℕ) → P row column → column < s) → Stands s i P → P (i / s) (i % s)
divides s i P short x =
    let (er, ec) = row-column s x.row x.column i (short x.row x.column x.there) x.at in
    subst (P (i / s)) (sym ec) (subst (λ (r : ℕ). P r x.column) (sym er) x.there)

-- in the grid, by division
unfoldable pub InGridDivided : Grid → Sample → Type 0
InGridDivided g x = (row_of g x < side x.on * g.rows) × (column_of g x < side x.on * g.columns)

module _ (g : Grid) (ok : StridesHold g) (x : Sample) where
  -- reach by division agrees
  pub reach-divides : (m : ℕ) → m < macroblocks g → Reach g m x
      → Near (side x.on) (side x.on * grid_row g m) (side x.on * grid_column g m) (row_of g x) (column_of g x)
  unfolding Reach Near Box StridesHold
  reach-divides m hm = divides (stride g x.on) x.index (Near z top left) short
    where
      z : ℕ
      z = side x.on

      top : ℕ
      top = z * grid_row g m

      left : ℕ
      left = z * grid_column g m

      right : z * grid_column g m + z ≤ z * g.columns
      right = square-within z (grid_column g m) g.columns (mod-lt m (factor-positive g.columns g.rows m hm))

      short : (row column : ℕ) → Near z top left row column → column < stride g x.on
      short row column (inl b) = omega (arith, b, right, ok x.on)
      short row column (inr b) = omega (arith, b, right, ok x.on)

  -- and so does the grid
  pub grid-divides : InGrid g x → InGridDivided g x
  unfolding InGrid InGridDivided Box StridesHold
  grid-divides i =
      let b = divides (stride g x.on) x.index (Box 0 (side x.on * g.rows) 0 (side x.on * g.columns)) (λ row column b. omega (arith, b, ok x.on)) i in
      (b.1, b.3)

pub reach-divided : (g : Grid) (m : ℕ) (x : Sample) → Near (side x.on) (side x.on * grid_row g m) (side x.on * grid_column g m) (row_of g x) (column_of g x) → Reach g m x
unfolding Reach
reach-divided g m x h = stands-divided (stride g x.on) x.index (Near (side x.on) (side x.on * grid_row g m) (side x.on * grid_column g m)) h

pub grid-divided : (g : Grid) (x : Sample) → InGridDivided g x → InGrid g x
unfolding InGrid InGridDivided Box
grid-divided g x h = stands-divided (stride g x.on) x.index (Box 0 (side x.on * g.rows) 0 (side x.on * g.columns)) (omega (arith, h))
