-- The leading rows of samples that are final when a pass is to go on from `start`, for callers who send rows down. No paper has this call.
use Rattle.std.specs.Prelude.{◌≡◌, cond, ℕ, ◌-◌, ◌*◌, ◌≤◌, ◌<◌, eqb, ltb, Result, Ok, Err}
use Rattle.arithmetic.specs.Outcome.{Outcome, gives, refuses}
use Rattle.planes.specs.Steps.{Clear}
use Rattle.planes.specs.Planes.{Plane, luma, chroma_u, chroma_v, Grid, side, Sample, row_of, macroblocks, grid_row, StridesHold}
use Rattle.planes.specs.Reach.{Reach, InGrid}
use Rattle.planes.specs.GridRefusals.{zero_grid, too_large}
use Rattle.calls.specs.Answers.{pass_refusal_number}
use Rattle.calls.specs.declared.answers.PassRefusal.{PassRefusal}
use Rattle.calls.specs.declared.final_rows.FinalRows.{FinalRows}

-- so many rows, counted in samples, of luma and of each chroma plane
pub record Rows : Type 0 where
  pub luma : ℕ
  pub chroma : ℕ

abbrev pub rows_in : Plane → Rows → ℕ
rows_in luma r = r.luma
rows_in chroma_u r = r.chroma
rows_in chroma_v r = r.chroma

-- the rows above all that a macroblock can reach, its square's first row being `top`
abbrev pub rows_above : (top : ℕ) → ℕ
rows_above top = top - 3

-- In one plane: all rows, where no macroblock is left; else those above what the first one left can reach. Later ones lie in its row or below.
unfoldable pub rows_final : Grid → Plane → (start : ℕ) → ℕ
rows_final g q start = cond (eqb start (macroblocks g)) (side q * g.rows) (rows_above (side q * grid_row g start))

-- zero columns or rows first, then 1, then 7; the strides are not read
unfoldable pub final_rows : Grid → (start : ℕ) → Outcome Rows
final_rows g start =
    cond (zero_grid g) (gives (record { luma = 0; chroma = 0 }))
    (cond (too_large g) (refuses 1)
    (cond (ltb (macroblocks g) start) (refuses 7)
    (gives (record { luma = rows_final g luma start; chroma = rows_final g chroma_u start }))))

-- what `final_rows` answers, in document 01's numbers
abbrev pub final_rows_outcome : Result FinalRows PassRefusal → Outcome Rows
final_rows_outcome (Ok rows) = gives (record { luma = rows.«luma»; chroma = rows.«chroma» })
final_rows_outcome (Err r) = refuses (pass_refusal_number r)

-- ---- what the rows are

-- a sample of plane q, in the grid and in this row, that a macroblock from `start` on can reach
pub record Reached (g : Grid) (start : ℕ) (q : Plane) (row : ℕ) : Type 0 where
  pub where-it-is : Sample
  pub in-plane : where-it-is.on ≡ q
  pub in_row : row_of g where-it-is ≡ row
  pub in-grid : InGrid g where-it-is
  pub by : ℕ
  pub not-begun : start ≤ by
  pub in_frame : by < macroblocks g
  pub reached : Reach g by where-it-is

pub record LeadingRows (g : Grid) (start : ℕ) (r : Rows) : Type 0 where
  -- no macroblock from `start` on can reach a sample in them, where the strides are such as 2 does not refuse
  pub clear : StridesHold g → (x : Sample) → row_of g x < rows_in x.on r → Clear (Reach g) start (macroblocks g) x
  -- reach allows no more of them: a sample of the next row, if there is one, can be reached
  pub most : 0 < macroblocks g → StridesHold g → (q : Plane) → rows_in q r < side q * g.rows → Reached g start q (rows_in q r)
