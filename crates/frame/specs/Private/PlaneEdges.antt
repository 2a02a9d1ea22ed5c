-- One plane of a macroblock, its edges in document 01's order: what the private functions on one plane promise.
use Rattle.std.specs.Prelude.{Bool, cond, ◌≡◌, List, ℕ, ◌+◌, ◌-◌, ◌*◌, ◌/◌, ◌≤◌, ◌<◌, ltb}
use Rattle.kernels.specs.Segment.{Kernel, half}
use Rattle.planes.specs.Steps.{steps}
use Rattle.planes.specs.Edges.{Direction, vertical, horizontal}
use Rattle.planes.specs.Private.Worked.{Worked}
use Rattle.edges.specs.EdgeFrom.{edge_from, smoothed_from}
use Rattle.edges.specs.declared.place.EdgePlace.{EdgePlace}
use Rattle.frame.specs.declared.plane.Square.{Square}

-- the square of a macroblock in a plane of squares of `side` samples
abbrev pub square_at : (side stride row column : ℕ) → Square
square_at side stride row column = record { stride = stride; corner = side * row * stride + side * column; row = row; column = column }

-- the place of an edge in its plane, by its first tap
abbrev pub place_of : Square → (at : ℕ) → EdgePlace
place_of q at = record { stride = q.stride; at = at }

-- it lies among `length` samples, as does what is left of it and above it
pub record Inside (side : ℕ) (q : Square) (length : ℕ) : Type 0 where
  pub within : q.corner + (side - 1) * q.stride + side ≤ length
  pub left : 0 < q.column → 4 ≤ q.corner
  pub above : 0 < q.row → 4 * q.stride ≤ q.corner
  pub wide : side ≤ q.stride

-- an edge from the index of its first tap, with how many of its positions are smoothed
unfoldable pub along : Direction → Kernel → (stride base length : ℕ) → Worked → Worked
along d k s base n w = record { samples = edge_from d k s base n w.samples; smoothed = w.smoothed + smoothed_from d k s base n w.samples }

-- what a function on a plane did: f, of which r positions were smoothed, at most `most`
pub record Did (most : ℕ) (f : Worked → Worked) (before after : List ℕ) (r : ℕ) : Type 0 where
  pub few : r ≤ most
  pub worked : (n : ℕ) → record { samples = after; smoothed = n + r } ≡ f (record { samples = before; smoothed = n })

-- ---- the edges of a plane, each from its first tap

unfoldable pub left_from : Kernel → (side : ℕ) → Square → Worked → Worked
left_from k side q l = cond (ltb 0 q.column) (along vertical k q.stride (q.corner - half k) side l) l

unfoldable pub top_from : Kernel → (side : ℕ) → Square → Worked → Worked
top_from k side q l = cond (ltb 0 q.row) (along horizontal k q.stride (q.corner - half k * q.stride) side l) l

-- inner edge n lies 4 * n samples into the square
abbrev pub inner_at : Direction → Kernel → (side : ℕ) → Square → (n : ℕ) → Worked → Worked
inner_at vertical k side q n = along vertical k q.stride (q.corner + (4 * n - half k)) side
inner_at horizontal k side q n = along horizontal k q.stride (q.corner + (4 * n - half k) * q.stride) side

unfoldable pub inner_from : Direction → Kernel → (inside : Bool) (side : ℕ) → Square → Worked → Worked
inner_from d k inside side q l = cond inside (steps (inner_at d k side q) 1 (side / 4 - 1) l) l

unfoldable pub plane_from : (outer inner : Kernel) (inside : Bool) (side : ℕ) → Square → Worked → Worked
plane_from outer inner inside side q l = inner_from horizontal inner inside side q (top_from outer side q (inner_from vertical inner inside side q (left_from outer side q l)))

-- how many positions these are, at most
abbrev pub positions_of : (side : ℕ) → ℕ
positions_of side = side + side * (side / 4 - 1) + side + side * (side / 4 - 1)
