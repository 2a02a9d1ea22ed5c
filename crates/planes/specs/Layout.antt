-- The grid that a caller's planes record names, and the planes that it lends.
use Rattle.std.specs.Prelude.{List, ℕ}
use Rattle.planes.specs.Planes.{Planes, Grid}
use Rattle.planes.specs.declared.layout.PlaneLayout.{PlaneLayout}

abbrev pub grid_of : PlaneLayout → Grid
grid_of l = record { columns = l.mb_cols; rows = l.mb_rows; luma_stride = l.y_stride; chroma_stride = l.uv_stride }

abbrev pub planes_of : (y u v : List ℕ) → Planes
planes_of y u v = record { y = y; u = u; v = v }
