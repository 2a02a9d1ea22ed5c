-- What 1 and 2 leave of a grid, for the functions that judge what comes after.
use Rattle.std.specs.Prelude.{◌≤◌, ◌<◌}
use Rattle.planes.specs.declared.layout.PlaneLayout.{PlaneLayout}

-- what 1 leaves
pub record Small (layout : PlaneLayout) : Type 0 where
  pub columns : layout.mb_cols ≤ 1024
  pub rows : layout.mb_rows ≤ 1024

-- what 2 leaves, of a grid that is not zero
pub record Bounded (layout : PlaneLayout) : Type 0 where
  pub some_columns : 0 < layout.mb_cols
  pub some_rows : 0 < layout.mb_rows
  pub columns : layout.mb_cols ≤ 1024
  pub rows : layout.mb_rows ≤ 1024
  pub luma_stride : layout.y_stride ≤ 65536
  pub chroma_stride : layout.uv_stride ≤ 65536
