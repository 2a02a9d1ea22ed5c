-- The kernels on a window, step by step. `l` is the window's samples; a capital letter is a sample as stored, 0..255.
use Rattle.std.specs.Prelude.{◌≡◌, ℕ, ◌-◌, ◌/◌, Bool, true, false, cond, ◌&&◌, List, [], ◌∷◌, map, ℤ, pos, ◌+ℤ◌, ◌-ℤ◌, int_le, int_lt, nat_le, slice_index, unsigned_abs}
use Rattle.arithmetic.specs.Numbers.{u2s, s2u}
use Rattle.kernels.specs.declared.limits.EdgeLimits.{EdgeLimits}
use Rattle.kernels.specs.declared.taps.Near.{Near}
use Rattle.kernels.specs.declared.taps.Taps.{Taps}
use Rattle.kernels.specs.Kernels.{apart, adjusted_p0, adjusted_q0, outer_step, part, wide_value, segment_yes}
use Rattle.kernels.specs.Segment.{scatter, segment, normal}

-- ---- tests

-- what filter_yes tests beside the edge
unfoldable pub neighbours_near : (interior P3 P2 P1 P0 Q0 Q1 Q2 Q3 : ℕ) → Bool
neighbours_near interior P3 P2 P1 P0 Q0 Q1 Q2 Q3 =
    nat_le (apart (pos P3) (pos P2)) interior && nat_le (apart (pos P2) (pos P1)) interior && nat_le (apart (pos P1) (pos P0)) interior
    && nat_le (apart (pos Q3) (pos Q2)) interior && nat_le (apart (pos Q2) (pos Q1)) interior && nat_le (apart (pos Q1) (pos Q0)) interior

-- the negation of hev
unfoldable pub low_variance : (threshold P1 P0 Q0 Q1 : ℕ) → Bool
low_variance threshold P1 P0 Q0 Q1 = nat_le (apart (pos P1) (pos P0)) threshold && nat_le (apart (pos Q1) (pos Q0)) threshold

-- ---- numbers

unfoldable pub in_byte : ℤ → Bool
in_byte v = int_le (pos 0) v && int_lt v (pos 256)

-- limits to 0..255
unfoldable pub cut : ℤ → ℕ
cut v = cond (int_lt v (pos 0)) 0 (cond (int_lt v (pos 256)) (unsigned_abs v) 255)

-- ---- samples stored next to one another, from `first` on

abbrev pub stored : (first : ℕ) → List ℕ → List ℕ → List ℕ
stored first vs l = scatter (λ t. t) first vs l

-- numbers, cut
abbrev pub stored_cut : (first : ℕ) → List ℤ → List ℕ → List ℕ
stored_cut first vs l = stored first (map cut vs) l

-- the two at the edge after common_adjust, in the middle of a window of n
unfoldable pub adjusted : (n : ℕ) (outer : Bool) → List ℕ → Near → List ℕ
adjusted n outer l w = stored ((n - 2) / 2) (adjusted_p0 outer w.p1 w.p0 w.q0 w.q1 ∷ adjusted_q0 outer w.p1 w.p0 w.q0 w.q1 ∷ []) l

-- the inner four after subblock_filter without high variance
unfoldable pub softened_four : List ℕ → Near → List ℕ
softened_four l w =
    stored 2 (s2u (u2s w.p1 +ℤ outer_step w.p1 w.p0 w.q0 w.q1)
    ∷ adjusted_p0 false w.p1 w.p0 w.q0 w.q1
    ∷ adjusted_q0 false w.p1 w.p0 w.q0 w.q1
    ∷ s2u (u2s w.q1 -ℤ outer_step w.p1 w.p0 w.q0 w.q1) ∷ []) l

-- the inner six after mb_filter without high variance
unfoldable pub widened_six : List ℕ → Taps → List ℕ
widened_six l w =
    let v = wide_value w.near.p1 w.near.p0 w.near.q0 w.near.q1 in
    stored 1 (s2u (u2s w.p2 +ℤ part 9 v)
    ∷ s2u (u2s w.near.p1 +ℤ part 18 v)
    ∷ s2u (u2s w.near.p0 +ℤ part 27 v)
    ∷ s2u (u2s w.near.q0 -ℤ part 27 v)
    ∷ s2u (u2s w.near.q1 -ℤ part 18 v)
    ∷ s2u (u2s w.q2 -ℤ part 9 v) ∷ []) l

-- where the tests of the kernel pass, of which mb_filter is wide
unfoldable pub smoothed : (wide : Bool) (threshold : ℕ) → List ℕ → Taps → List ℕ
smoothed wide threshold l w =
    cond (low_variance threshold w.near.p1 w.near.p0 w.near.q0 w.near.q1) (cond wide (widened_six l w) (softened_four l w.near)) (adjusted 8 true l w.near)

-- ---- what the normal kernels answer

-- whether filter_yes passes on the window
unfoldable pub window_yes : (interior edge : ℕ) → List ℕ → Bool
window_yes interior edge l =
    segment_yes interior edge
    (slice_index l 0) (slice_index l 1) (slice_index l 2) (slice_index l 3)
    (slice_index l 4) (slice_index l 5) (slice_index l 6) (slice_index l 7)

-- the answer of a kernel on the window l, and the window that it leaves
pub record Filtered (wide : Bool) (limits : EdgeLimits) (l : List ℕ) (passed : Bool) (l' : List ℕ) : Type 0 where
  pub yes : passed ≡ window_yes limits.interior limits.limit l
  pub bytes : l' ≡ segment (normal wide limits.threshold limits.interior limits.limit) (λ t. t) l
