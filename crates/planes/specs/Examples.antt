-- Small frames, computed. Figures are document 01's; I, K and L are of the kernels alone.
use Rattle.std.specs.Prelude.{◌≡◌, refl, Bool, true, false, List, [], ◌∷◌, ◌++◌, ℕ, zero, suc, ◌+◌, ◌-◌, ◌*◌, ◌≤◌, get_or, replicate}
use Rattle.std.proofs.Common.{inl, inr, arith}
use Rattle.arithmetic.specs.Numbers.{clamp, u2s, s2u, shr}
use Rattle.kernels.specs.Kernels as kernels
use Rattle.kernels.specs.Segment.{Kernel, simple_segment, subblock_filter, mb_filter, half, taps, smooth, gather, scatter, segment, passes, passes_at, mark}
use Rattle.planes.specs.Steps.{steps, tally, Clear}
use Rattle.planes.specs.Planes.{Plane, luma, chroma_u, chroma_v, Planes, Grid, side, stride}
use Rattle.planes.specs.Edges.{vertical, horizontal, first_row, first_column, edge_tap, filter_edge, borders, insides, places}
use Rattle.planes.specs.Macroblock.{Plan, leave, filter, only, edge_at, edges_at, filter_edges, filter_macroblock}
use Rattle.planes.specs.Smoothed.{edge_smoothed, edges_smoothed, macroblock_smoothed}
use Rattle.planes.specs.Reach.{Box, Near, Reach}

abbrev copies : ℕ → List ℕ → List ℕ
copies zero l = []
copies (suc n) l = l ++ copies n l

-- ---- two macroblocks side by side, of 100 and of 108, with one column of samples outside the grid

abbrev pair : Grid
pair = record { columns = 2; rows = 1; luma_stride = 33; chroma_stride = 17 }

-- a row of the pair, n samples of each
abbrev steep : (n : ℕ) → List ℕ
steep n = replicate n 100 ++ replicate n 108 ++ 7 ∷ []

abbrev before : Planes
before = record { y = copies 16 (steep 16); u = copies 8 (steep 8); v = copies 8 (steep 8) }

-- The normal filter: figure K in every row of every plane.
abbrev normal : (interior : ℕ) (inside : Bool) (m : ℕ) → Plan
normal interior inside m = filter true (mb_filter 0 interior 20) (subblock_filter 0 interior 20) inside

abbrev smoothed : (n : ℕ) → List ℕ
smoothed n = replicate (n - 3) 100 ++ 101 ∷ 102 ∷ 103 ∷ 105 ∷ 106 ∷ 107 ∷ replicate (n - 3) 108 ++ 7 ∷ []

-- The simple filter: figure I in every row of luma, and chroma left alone.
abbrev simple : (m : ℕ) → Plan
simple m = filter false (simple_segment 20) (simple_segment 20) true

abbrev softened : (n : ℕ) → List ℕ
softened n = replicate (n - 1) 100 ++ 102 ∷ 106 ∷ replicate (n - 1) 108 ++ 7 ∷ []

-- ---- one above the other: figure K in every column

abbrev stack : Grid
stack = record { columns = 1; rows = 2; luma_stride = 16; chroma_stride = 8 }

-- a plane whose n columns all hold l
abbrev layers : (n : ℕ) → List ℕ → List ℕ
layers n [] = []
layers n (a ∷ l) = replicate n a ++ layers n l

abbrev stacked : ((n : ℕ) → List ℕ) → Planes
stacked f = record { y = layers 16 (f 16); u = layers 8 (f 8); v = layers 8 (f 8) }

-- ---- inner edges, and their order

abbrev single : Grid
single = record { columns = 1; rows = 1; luma_stride = 16; chroma_stride = 8 }

-- four samples of 108 and four of 100, in turn: with one such pair, as in chroma, figure L
abbrev striped : ℕ → List ℕ
striped zero = []
striped (suc n) = replicate 4 108 ++ (replicate 4 100 ++ striped n)

abbrev luma_line : List ℕ
luma_line = 108 ∷ 108 ∷ 107 ∷ 105 ∷ 103 ∷ 101 ∷ 102 ∷ 103 ∷ 105 ∷ 106 ∷ 107 ∷ 105 ∷ 103 ∷ 101 ∷ 100 ∷ 100 ∷ []

abbrev chroma_line : List ℕ
chroma_line = 108 ∷ 108 ∷ 107 ∷ 105 ∷ 103 ∷ 101 ∷ 100 ∷ 100 ∷ []

-- planes all of whose rows, or all of whose columns, are the same
abbrev rows_of : (line chroma : List ℕ) → Planes
rows_of line chroma = record { y = copies 16 line; u = copies 8 chroma; v = copies 8 chroma }

abbrev columns_of : (line chroma : List ℕ) → Planes
columns_of line chroma = record { y = layers 16 line; u = layers 8 chroma; v = layers 8 chroma }

-- 104 right of and below the corner at row 4, column 4, and 100 elsewhere
abbrev corner : Planes
corner = record { y = copies 4 (replicate 16 100) ++ copies 12 (replicate 4 100 ++ replicate 12 104); u = replicate 64 128; v = replicate 64 128 }

-- 100 in the upper rows, and 101 and 105 below them: an edge between 100 and 105 is too large for the limit 10, until the vertical edges have made it smaller
abbrev uneven : Planes
uneven = record { y = copies 4 (replicate 16 100) ++ copies 12 (replicate 4 101 ++ replicate 12 105); u = replicate 64 128; v = replicate 64 128 }

abbrev narrow : (m : ℕ) → Plan
narrow m = filter true (mb_filter 0 1 10) (subblock_filter 0 1 10) true

-- ---- what they are computed to be

pub record Frames : Type 0 where
  pub normal-frame : steps (filter_macroblock pair (normal 1 false)) 0 2 before ≡ record { y = copies 16 (smoothed 16); u = copies 8 (smoothed 8); v = copies 8 (smoothed 8) }
  pub simple-frame : steps (filter_macroblock pair simple) 0 2 before ≡ record { y = copies 16 (softened 16); u = before.u; v = before.v }
  pub stacked-frame : steps (filter_macroblock stack (normal 1 false)) 0 2 (stacked steep) ≡ stacked smoothed
  pub inner-vertical : filter_macroblock single (normal 8 true) 0 (rows_of (striped 2) (striped 1)) ≡ rows_of luma_line chroma_line
  pub inner-horizontal : filter_macroblock single (normal 8 true) 0 (columns_of (striped 2) (striped 1)) ≡ columns_of luma_line chroma_line
  -- how many positions are smoothed: the border between two macroblocks, in luma and in both chroma planes
  pub normal-count : tally (filter_macroblock pair (normal 1 false)) (macroblock_smoothed pair (normal 1 false)) 0 2 before ≡ 32
  -- that border, and all inner edges of luma, whose samples come out equal
  pub simple-count : tally (filter_macroblock pair simple) (macroblock_smoothed pair simple) 0 2 before ≡ 208
  -- each as it is met: of the samples as lent 116 would pass
  pub uneven-count : macroblock_smoothed single narrow 0 uneven ≡ 118
  -- below and right of the corner: the order of RFC 6386, section 15.1, and the other one
  pub vertical-first : get_or (filter_macroblock single (normal 1 true) 0 corner).y (4 * 16 + 5) 0 ≡ 102
  pub horizontal-first : get_or (filter_edges single 0 0 (edges_at (normal 1 true 0) 0 0 (insides horizontal ++ insides vertical)) corner).y (4 * 16 + 5) 0 ≡ 101

pub frames : Frames
unfolding clamp u2s s2u shr half taps smooth gather scatter segment passes passes_at mark tally edge_smoothed edges_smoothed macroblock_smoothed
    kernels.apart kernels.edge_value kernels.filter_value kernels.gain_of kernels.loss_of kernels.adjustment kernels.adjusted_p0 kernels.adjusted_q0 kernels.common_adjust
    kernels.simple_yes kernels.simple_segment kernels.filter_yes kernels.hev kernels.segment_yes kernels.segment_hev kernels.outer_step kernels.subblock_filter
    kernels.part kernels.wide_value kernels.mb_filter
    steps first_row first_column edge_tap filter_edge borders insides places only edge_at edges_at filter_edges filter_macroblock
frames = record { normal-frame = refl; simple-frame = refl; stacked-frame = refl; inner-vertical = refl; inner-horizontal = refl; normal-count = refl; simple-count = refl; uneven-count = refl; vertical-first = refl; horizontal-first = refl }

-- ---- what holds of all planes

-- level 0
pub left_alone : (g : Grid) (m : ℕ) (p : Planes) → filter_macroblock g (λ _. leave) m p ≡ p
unfolding filter_macroblock places borders insides edges_at edge_at filter_edges
left_alone g m p = refl

-- figure M: a single macroblock with no inner edges, of which nothing is smoothed
pub figure-m :
    (chroma : Bool) (outer inner : Kernel) (p : Planes)
    → (filter_macroblock single (λ _. filter chroma outer inner false) 0 p ≡ p) × (macroblock_smoothed single (λ _. filter chroma outer inner false) 0 p ≡ 0)
unfolding filter_macroblock macroblock_smoothed places borders insides edges_at edge_at only filter_edges edges_smoothed
figure-m chroma outer inner p = (refl, refl)

-- figure N: two columns, one row, halted after 1: luma columns 0 to 12 and chroma columns 0 to 4 are final
pub figure-n : (q : Plane) (row column : ℕ) → column + 4 ≤ side q → Clear (Reach pair) 1 2 (record { on = q; index = row * stride pair q + column })
unfolding Clear Reach Near Box
figure-n q row column h m a b = go q h m (omega arith)
  where
    go : (q : Plane) → column + 4 ≤ side q → (m : ℕ) → m ≡ 1 → ¬ Reach pair m (record { on = q; index = row * stride pair q + column })
    go luma h m e near = far (rw e at near)
      where
        far : ¬ Reach pair 1 (record { on = luma; index = row * stride pair luma + column })
        far r = by r.there
          where
            by : Near (side luma) 0 (side luma) r.row r.column → ⊥
            by (inl c) = omega (arith, c, r.at)
            by (inr c) = omega (arith, c, r.at)
    go chroma_u h m e near = far (rw e at near)
      where
        far : ¬ Reach pair 1 (record { on = chroma_u; index = row * stride pair chroma_u + column })
        far r = by r.there
          where
            by : Near (side chroma_u) 0 (side chroma_u) r.row r.column → ⊥
            by (inl c) = omega (arith, c, r.at)
            by (inr c) = omega (arith, c, r.at)
    go chroma_v h m e near = far (rw e at near)
      where
        far : ¬ Reach pair 1 (record { on = chroma_v; index = row * stride pair chroma_v + column })
        far r = by r.there
          where
            by : Near (side chroma_v) 0 (side chroma_v) r.row r.column → ⊥
            by (inl c) = omega (arith, c, r.at)
            by (inr c) = omega (arith, c, r.at)
