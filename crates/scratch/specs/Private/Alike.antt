-- Scratch planes that a call has written in the grid alone.
use Rattle.std.specs.Prelude.{◌≡◌, length}
use Rattle.planes.specs.GridRefusals.{past_grid}
use Rattle.planes.specs.Planes.{Plane, Planes, Grid, plane}
use Rattle.scratch.specs.Copies.{copy_grid}

-- Planes into which the grid is copied alike: t differs from s in the grid's samples alone.
pub record Alike (g : Grid) (s t : Planes) : Type 0 where
  pub over : (p : Planes) → copy_grid g p t ≡ copy_grid g p s
  pub same : past_grid g t 0 ≡ past_grid g s 0
  pub lengths : (q : Plane) → length (plane q t) ≡ length (plane q s)
