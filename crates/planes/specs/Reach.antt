-- Which samples a macroblock can reach.
use Rattle.std.specs.Prelude.{◌≡◌, ◌⊎◌, ℕ, ◌+◌, ◌-◌, ◌*◌, ◌≤◌, ◌<◌}
use Rattle.planes.specs.Planes.{Grid, side, stride, Sample, grid_row, grid_column}

-- The index stands at some row and column, counted in samples, of which P holds.
-- Where a stride is shorter than a row of the grid, an index may stand at more than one; 2 refuses such strides.
pub record Stands (stride index : ℕ) (P : (row column : ℕ) → Type 0) : Type 0 where
  pub row : ℕ
  pub column : ℕ
  pub at : index ≡ row * stride + column
  pub there : P row column

unfoldable pub Box : (top bottom left right row column : ℕ) → Type 0
Box top bottom left right row column = (top ≤ row) × (row < bottom) × (left ≤ column) × (column < right)

-- In or near the square of `size` samples whose corner is at `top`, `left`: in it or 3 columns left of it along its rows, in it or 3 rows above it along its columns.
-- `-` stops at 0, the grid's border.
unfoldable pub Near : (size top left row column : ℕ) → Type 0
Near size top left row column =
    Box top (top + size) (left - 3) (left + size) row column ⊎ Box (top - 3) (top + size) left (left + size) row column

-- macroblock m can reach the sample: document 01's term
unfoldable pub Reach : Grid → (m : ℕ) → Sample → Type 0
Reach g m x = Stands (stride g x.on) x.index (Near (side x.on) (side x.on * grid_row g m) (side x.on * grid_column g m))

-- the sample is one of macroblock m's own square
unfoldable pub Own : Grid → (m : ℕ) → Sample → Type 0
Own g m x =
    Stands (stride g x.on) x.index
    (Box (side x.on * grid_row g m) (side x.on * grid_row g m + side x.on) (side x.on * grid_column g m) (side x.on * grid_column g m + side x.on))

-- the sample lies in the grid
unfoldable pub InGrid : Grid → Sample → Type 0
InGrid g x = Stands (stride g x.on) x.index (Box 0 (side x.on * g.rows) 0 (side x.on * g.columns))
