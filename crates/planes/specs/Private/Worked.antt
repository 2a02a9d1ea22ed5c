-- A plane whose samples some edges have changed, with how many of their positions were smoothed.
use Rattle.std.specs.Prelude.{List, ℕ, ◌+◌}
use Rattle.planes.specs.Planes.{Planes, Grid}
use Rattle.planes.specs.Edges.{Edge, filter_edge}
use Rattle.planes.specs.Smoothed.{edge_smoothed}

pub record Worked : Type 0 where
  pub samples : List ℕ
  pub smoothed : ℕ

-- one edge more
unfoldable pub work_edge : Grid → (r c : ℕ) → Edge → Worked → Worked
work_edge g r c e w = record { samples = filter_edge g r c e w.samples; smoothed = w.smoothed + edge_smoothed g r c e w.samples }

-- three of them
pub record WorkedPlanes : Type 0 where
  pub y : Worked
  pub u : Worked
  pub v : Worked

abbrev pub samples_of : WorkedPlanes → Planes
samples_of p = record { y = p.y.samples; u = p.u.samples; v = p.v.samples }

abbrev pub total_of : WorkedPlanes → ℕ
total_of p = p.y.smoothed + p.u.smoothed + p.v.smoothed

-- nothing is smoothed yet
abbrev pub unworked : Planes → WorkedPlanes
unworked p = record { y = record { samples = p.y; smoothed = 0 }; u = record { samples = p.u; smoothed = 0 }; v = record { samples = p.v; smoothed = 0 } }
