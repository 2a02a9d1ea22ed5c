-- What the private functions that filter macroblocks ask of their callers. Where a call has a macroblock to do, document 01's 1, 2, 3 and 5 leave nothing else.
use Rattle.std.specs.Prelude.{◌≡◌, List, ℕ, ◌-◌, ◌≤◌, ◌<◌}
use Rattle.planes.specs.Steps.{steps, tally}
use Rattle.planes.specs.Planes.{Planes, StridesHold, PlanesHold, macroblocks}
use Rattle.planes.specs.Macroblock.{Plan, filter_macroblock}
use Rattle.planes.specs.Smoothed.{macroblock_smoothed}
use Rattle.planes.specs.Layout.{grid_of, planes_of}
use Rattle.planes.specs.declared.layout.PlaneLayout.{PlaneLayout}

-- the grid lies in its planes, and no index reaches 2 ^ 64
pub record Sound (layout : PlaneLayout) (y u v : List ℕ) : Type 0 where
  pub strides : StridesHold (grid_of layout)
  pub planes : PlanesHold (grid_of layout) (planes_of y u v)
  pub columns : layout.mb_cols ≤ 1024
  pub rows : layout.mb_rows ≤ 1024
  pub luma_stride : layout.y_stride ≤ 65536
  pub chroma_stride : layout.uv_stride ≤ 65536

-- macroblocks `from` to `to` - 1, of planes p; where there are none, nothing is asked of the planes
pub record Range (layout : PlaneLayout) (p : Planes) (from to : ℕ) : Type 0 where
  pub ordered : from ≤ to
  pub within : to ≤ macroblocks (grid_of layout)
  pub sound : from < to → Sound layout p.y p.u p.v

-- the step of macroblock m under a plan: the planes that it left, and r positions smoothed
pub record Stepped (layout : PlaneLayout) (plan : Plan) (m : ℕ) (before after : Planes) (r : ℕ) : Type 0 where
  pub planes : after ≡ filter_macroblock (grid_of layout) (λ _. plan) m before
  pub smoothed : r ≡ macroblock_smoothed (grid_of layout) (λ _. plan) m before

-- steps `from` to `to` - 1 of a pass
pub record Ranged (f : ℕ → Planes → Planes) (counted : ℕ → Planes → ℕ) (from to : ℕ) (before after : Planes) (r : ℕ) : Type 0 where
  pub planes : after ≡ steps f from (to - from) before
  pub smoothed : r ≡ tally f counted from (to - from) before
