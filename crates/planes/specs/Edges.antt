-- The edges of a macroblock and the segments across them (RFC 6386, section 15.1).
use Rattle.std.specs.Prelude.{List, [], ◌∷◌, ◌++◌, ℕ, ◌+◌, ◌-◌, ◌*◌}
use Rattle.kernels.specs.Segment.{Kernel, half, segment}
use Rattle.planes.specs.Steps.{steps}
use Rattle.planes.specs.Planes.{Plane, luma, chroma_u, chroma_v, Grid, side, stride}

-- Segments lie at a right angle to their edge (lines 4720 to 4723). A vertical edge has its positions one below the other, each with its taps from left to right; a horizontal edge the other way round.
pub data Direction : Type 0 where
  vertical horizontal : Direction

-- the index of tap t at position j, where tap 0 of position 0 is at `row`, `column`
abbrev pub tap_at : Direction → (stride row column j t : ℕ) → ℕ
tap_at vertical s row column j t = (row + j) * s + (column + t)
tap_at horizontal s row column j t = (row + t) * s + (column + j)

-- Where tap 0 of position 0 is, of an edge `offset` samples right of or below the corner of a square at `top`, `left`: the edge lies in the middle of its taps.
-- No edge that a macroblock has lies nearer than `half` to the grid's border, so that `-` is exact.
unfoldable pub first_row : Direction → (top offset half : ℕ) → ℕ
first_row vertical top offset half = top
first_row horizontal top offset half = top + offset - half

unfoldable pub first_column : Direction → (left offset half : ℕ) → ℕ
first_column vertical left offset half = left + offset - half
first_column horizontal left offset half = left

-- an edge of a macroblock, `offset` samples right of its left border or below its upper one, and the kernel for its segments
pub record Edge : Type 0 where
  pub on : Plane
  pub direction : Direction
  pub offset : ℕ
  pub kernel : Kernel

-- the index of tap t at position j of an edge, its macroblock in row r, column c of the grid
unfoldable pub edge_tap : Grid → (r c : ℕ) → Edge → (j t : ℕ) → ℕ
edge_tap g r c e j t =
    tap_at e.direction (stride g e.on)
    (first_row e.direction (side e.on * r) e.offset (half e.kernel))
    (first_column e.direction (side e.on * c) e.offset (half e.kernel)) j t

-- an edge is filtered segment by segment; luma edges are 16 long, chroma edges 8 (lines 4800 and 4801)
unfoldable pub filter_edge : Grid → (r c : ℕ) → Edge → List ℕ → List ℕ
filter_edge g r c e = steps (λ j. segment e.kernel (edge_tap g r c e j)) 0 (side e.on)

-- ---- where a macroblock may have edges

-- at its left or upper border; within, `offset` samples from that border
pub data Place : Type 0 where
  border : Plane → Direction → Place
  within : Plane → Direction → (offset : ℕ) → Place

-- steps 1 and 3 of lines 4750 to 4770: the edge to the neighbour, in each plane (lines 9284 to 9289 and 9331 to 9336)
unfoldable pub borders : Direction → List Place
borders d = border luma d ∷ border chroma_u d ∷ border chroma_v d ∷ []

-- steps 2 and 4: the edges between subblocks (lines 4736 to 4742; in this order in lines 9312 to 9326 and 9363 to 9377)
unfoldable pub insides : Direction → List Place
insides d = within luma d 4 ∷ within luma d 8 ∷ within luma d 12 ∷ within chroma_u d 4 ∷ within chroma_v d 4 ∷ []

-- the sixteen, in the order in which they are taken: left border, inner vertical, upper border, inner horizontal
unfoldable pub places : List Place
places = (borders vertical ++ insides vertical) ++ (borders horizontal ++ insides horizontal)
