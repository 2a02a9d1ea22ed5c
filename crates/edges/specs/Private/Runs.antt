-- Horizontal edges as the private functions that filter them promise it: rows of taps, which are signed samples, the kernels on them by value, and rows stored back.
use Rattle.std.specs.Prelude.{Bool, cond, List, [], ◌∷◌, ℕ, zero, suc, ◌+◌, ◌-◌, ◌*◌, ◌≤◌, ◌<◌, max, leb, get_or, set, ℤ, pos, ◌+ℤ◌, ◌-ℤ◌}
use Rattle.std.specs.Int.Signed.{mag}
use Rattle.arithmetic.specs.Numbers.{clamp, u2s, s2u, shr}
use Rattle.arithmetic.specs.Tables.{table}
use Rattle.kernels.specs.Kernels.{apart, edge_value, filter_yes, hev, filter_value, part, gain_of, loss_of}
use Rattle.kernels.specs.Segment.{Kernel, smooth, mark}
use Rattle.planes.specs.Steps.{steps}
use Rattle.arithmetic.specs.declared.limits.LoopFilterParams.{LoopFilterParams}
use Rattle.kernels.specs.declared.limits.EdgeLimits.{EdgeLimits}
use Rattle.edges.specs.declared.position.FourTaps.{FourTaps}
use Rattle.edges.specs.declared.position.EightTaps.{EightTaps}
use Rattle.edges.specs.declared.position.InnerTaps.{InnerTaps}
use Rattle.edges.specs.declared.position.EdgeTaps.{EdgeTaps}
use Rattle.edges.specs.Taps.{inner_taps}

-- ---- rows

-- n samples from `at` on, as taps
unfoldable pub row_at : (n at : ℕ) → List ℕ → List ℤ
row_at n at l = table n (λ j. u2s (get_or l (at + j) 0))

-- the taps of a row, stored from `at` on
unfoldable pub store_row : (n at : ℕ) → List ℤ → List ℕ → List ℕ
store_row n at r = steps (λ j l. set l (at + j) (s2u (get_or r j (pos 0)))) 0 n

-- the taps of a row lie in -128..127
unfoldable pub SignedRow : (n : ℕ) → List ℤ → Type 0
SignedRow n r = (j : ℕ) → j < n → mag (get_or r j (pos 0)) < 128

-- m rows of n samples
unfoldable pub rows_at : (m n stride at : ℕ) → List ℕ → List (List ℤ)
rows_at m n s at l = table m (λ k. row_at n (at + k * s) l)

-- m rows of n taps in -128..127
unfoldable pub SignedRows : (m n : ℕ) → List (List ℤ) → Type 0
SignedRows m n t = (k j : ℕ) → k < m → j < n → mag (get_or (get_or t k []) j (pos 0)) < 128

-- row k of rows of taps, stored
abbrev pub store_row_of : (n stride at k : ℕ) → List (List ℤ) → List ℕ → List ℕ
store_row_of n s at k t = store_row n (at + k * s) (get_or t k [])

-- `count` rows from `first` on
unfoldable pub store_rows : (n stride at first count : ℕ) → List (List ℤ) → List ℕ → List ℕ
store_rows n s at first count t = steps (λ i. store_row_of n s at (first + i) t) 0 count

-- m rows of n samples, `stride` apart, lie among `length` samples, and none reaches into the next
pub record RowsIn (m n stride at length : ℕ) : Type 0 where
  pub within : at + (m - 1) * stride + n ≤ length
  pub apart : n ≤ stride

-- tap j of row k
abbrev pub tap_of : List (List ℤ) → (k j : ℕ) → ℤ
tap_of t k j = get_or (get_or t k []) j (pos 0)

-- v stored there
abbrev pub store_tap : (k j : ℕ) → ℤ → List (List ℤ) → List (List ℤ)
store_tap k j v t = set t k (set (get_or t k []) j v)

-- position j of eight rows, or of four
abbrev pub eight_at : List (List ℤ) → (j : ℕ) → EightTaps
eight_at t j = record {
  p3 = tap_of t 0 j;
  p2 = tap_of t 1 j;
  near = record { p1 = tap_of t 2 j; p0 = tap_of t 3 j; q0 = tap_of t 4 j; q1 = tap_of t 5 j };
  q2 = tap_of t 6 j;
  q3 = tap_of t 7 j;
}

abbrev pub four_at : List (List ℤ) → (j : ℕ) → FourTaps
four_at t j = record { p1 = tap_of t 0 j; p0 = tap_of t 1 j; q0 = tap_of t 2 j; q1 = tap_of t 3 j }

-- ---- a kernel on taps

-- what a normal edge takes of a macroblock's limits, of which `edge_limit` names one
abbrev pub limits_of : (edge_limit : LoopFilterParams → ℕ) → LoopFilterParams → EdgeLimits
limits_of edge_limit p = record { threshold = p.hev_threshold; interior = p.interior_limit; limit = edge_limit p }

-- taps in -128..127
pub record SignedSix (s : InnerTaps) : Type 0 where
  pub p2-in : mag s.p2 < 128
  pub p1-in : mag s.p1 < 128
  pub p0-in : mag s.p0 < 128
  pub q0-in : mag s.q0 < 128
  pub q1-in : mag s.q1 < 128
  pub q2-in : mag s.q2 < 128

-- the samples that taps stand for
abbrev pub four_samples : FourTaps → List ℕ
four_samples s = s2u s.p1 ∷ s2u s.p0 ∷ s2u s.q0 ∷ s2u s.q1 ∷ []

-- the inner taps of a segment of four after the kernel
unfoldable pub edge_taps : Kernel → FourTaps → EdgeTaps
edge_taps k s = let vs = smooth k (four_samples s) in record { p0 = u2s (get_or vs 1 0); q0 = u2s (get_or vs 2 0) }

-- the inner taps stored at position j of eight rows
unfoldable pub store_inner : (j : ℕ) → InnerTaps → List (List ℤ) → List (List ℤ)
store_inner j s t =
    store_tap 6 j s.q2 (store_tap 5 j s.q1 (store_tap 4 j s.q0 (store_tap 3 j s.p0 (store_tap 2 j s.p1 (store_tap 1 j s.p2 t)))))

-- eight rows of n taps after the kernel, the outermost as they were
unfoldable pub run_of_eight : Kernel → (n : ℕ) → List (List ℤ) → List (List ℤ)
run_of_eight k n t =
    get_or t 0 []
    ∷ table n (λ j. (inner_taps k (eight_at t j)).p2) ∷ table n (λ j. (inner_taps k (eight_at t j)).p1) ∷ table n (λ j. (inner_taps k (eight_at t j)).p0)
    ∷ table n (λ j. (inner_taps k (eight_at t j)).q0) ∷ table n (λ j. (inner_taps k (eight_at t j)).q1) ∷ table n (λ j. (inner_taps k (eight_at t j)).q2)
    ∷ get_or t 7 [] ∷ []

-- four
unfoldable pub run_of_four : Kernel → (n : ℕ) → List (List ℤ) → List (List ℤ)
run_of_four k n t = get_or t 0 [] ∷ table n (λ j. (edge_taps k (four_at t j)).p0) ∷ table n (λ j. (edge_taps k (four_at t j)).q0) ∷ get_or t 3 [] ∷ []

-- ---- tests on taps, and how many positions pass

abbrev pub simple_passes : (edge : ℕ) → FourTaps → Bool
simple_passes edge s = leb (edge_value s.p1 s.p0 s.q0 s.q1) edge

abbrev pub normal_passes : (interior edge : ℕ) → EightTaps → Bool
normal_passes interior edge s = filter_yes interior edge s.p3 s.p2 s.near.p1 s.near.p0 s.near.q0 s.near.q1 s.q2 s.q3

abbrev pub high_of : (threshold : ℕ) → FourTaps → Bool
high_of threshold s = hev threshold s.p1 s.p0 s.q0 s.q1

abbrev pub value_of : (outer : Bool) → FourTaps → ℤ
value_of outer s = filter_value outer s.p1 s.p0 s.q0 s.q1

-- of the first n positions
unfoldable pub marks_of : (test : ℕ → Bool) → (n : ℕ) → ℕ
marks_of test zero = 0
marks_of test (suc n) = marks_of test n + mark (test n)

-- ---- numbers on the way

-- the largest differences that the tests of high variance and of the interior limit read
abbrev pub variance : FourTaps → ℕ
variance s = max (apart s.p1 s.p0) (apart s.q1 s.q0)

abbrev pub roughness : EightTaps → ℕ
roughness s = max (max (apart s.p3 s.p2) (apart s.p2 s.near.p1)) (max (apart s.q3 s.q2) (apart s.q2 s.near.q1))

-- mb_filter after its tests, with w as 0 where nothing changes
unfoldable pub widened : (high : Bool) (w : ℤ) → EightTaps → InnerTaps
widened high w s =
    let wide = cond high (pos 0) w in
    let near = cond high w (pos 0) in
    record {
      p2 = clamp (s.p2 +ℤ part 9 wide);
      p1 = clamp (s.near.p1 +ℤ part 18 wide);
      p0 = clamp (s.near.p0 +ℤ (part 27 wide +ℤ gain_of near));
      q0 = clamp (s.near.q0 -ℤ (part 27 wide +ℤ loss_of near));
      q1 = clamp (s.near.q1 -ℤ part 18 wide);
      q2 = clamp (s.q2 -ℤ part 9 wide);
    }

-- subblock_filter after its tests, with a as 0 where nothing changes
unfoldable pub softened : (high : Bool) (a : ℤ) → EightTaps → InnerTaps
softened high a s =
    let outer = cond high (pos 0) (shr (loss_of a +ℤ pos 1) 1) in
    record { p2 = s.p2; p1 = clamp (s.near.p1 +ℤ outer); p0 = clamp (s.near.p0 +ℤ gain_of a); q0 = clamp (s.near.q0 -ℤ loss_of a); q1 = clamp (s.near.q1 -ℤ outer); q2 = s.q2 }
