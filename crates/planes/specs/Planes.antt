-- The three planes of a frame, cut into a grid of macroblocks (RFC 6386, section 15.1, lines 4772 and 4773).
use Rattle.std.specs.Prelude.{List, ℕ, ◌+◌, ◌-◌, ◌*◌, ◌/◌, ◌%◌, ◌≤◌, length, get_or}

pub data Plane : Type 0 where
  luma chroma_u chroma_v : Plane

-- the samples of each plane, row after row
pub record Planes : Type 0 where
  pub y : List ℕ
  pub u : List ℕ
  pub v : List ℕ

-- how many macroblocks stand in a row and in a column, and from one row of samples to the next
pub record Grid : Type 0 where
  pub columns : ℕ
  pub rows : ℕ
  pub luma_stride : ℕ
  pub chroma_stride : ℕ

-- a macroblock's square is so many samples wide and high: 16x16 luma, 8x8 chroma
abbrev pub side : Plane → ℕ
side luma = 16
side chroma_u = 8
side chroma_v = 8

abbrev pub stride : Grid → Plane → ℕ
stride g luma = g.luma_stride
stride g chroma_u = g.chroma_stride
stride g chroma_v = g.chroma_stride

abbrev pub plane : Plane → Planes → List ℕ
plane luma p = p.y
plane chroma_u p = p.u
plane chroma_v p = p.v

-- one plane changed by f, the others kept
abbrev pub on_plane : Plane → (f : List ℕ → List ℕ) → Planes → Planes
on_plane luma f p = record { y = f p.y; u = p.u; v = p.v }
on_plane chroma_u f p = record { y = p.y; u = f p.u; v = p.v }
on_plane chroma_v f p = record { y = p.y; u = p.u; v = f p.v }

-- a sample: its plane, and its index there
pub record Sample : Type 0 where
  pub on : Plane
  pub index : ℕ

-- what it holds
abbrev pub sample : Planes → Sample → ℕ
sample p x = get_or (plane x.on p) x.index 0

-- the row and the column that it stands in, counted in samples
abbrev pub row_of : Grid → Sample → ℕ
row_of g x = x.index / stride g x.on

abbrev pub column_of : Grid → Sample → ℕ
column_of g x = x.index % stride g x.on

-- document 01's n
abbrev pub macroblocks : Grid → ℕ
macroblocks g = g.columns * g.rows

-- macroblock m, from 0, in raster order (lines 4744 and 4745): its row, and its column
abbrev pub grid_row : Grid → (m : ℕ) → ℕ
grid_row g m = m / g.columns

abbrev pub grid_column : Grid → (m : ℕ) → ℕ
grid_column g m = m % g.columns

-- A row of the grid's samples is no longer than a stride, and the grid no longer than its planes. Where the grid has a macroblock, document 01's 2 and 3 refuse what does not meet these.
unfoldable pub StridesHold : Grid → Type 0
StridesHold g = (q : Plane) → side q * g.columns ≤ stride g q

unfoldable pub PlanesHold : Grid → Planes → Type 0
PlanesHold g p = (q : Plane) → (side q * g.rows - 1) * stride g q + side q * g.columns ≤ length (plane q p)
