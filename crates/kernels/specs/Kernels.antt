-- RFC 6386, sections 15.2 and 15.3: the kernels, on the samples of one segment p3 p2 p1 p0 | q0 q1 q2 q3.
-- A capital letter is a sample as stored, 0..255; a small one is its `u2s`, as in the RFC's listings.
use Rattle.std.specs.Prelude.{ℕ, ◌+◌, ◌*◌, ◌/◌, Bool, true, false, cond, ◌&&◌, ◌||◌, List, [], ◌∷◌, ℤ, pos, ◌+ℤ◌, ◌-ℤ◌, ◌*ℤ◌, nat_le, nat_lt, unsigned_abs}
use Rattle.arithmetic.specs.Numbers.{clamp, u2s, s2u, shr}

-- abs of a difference (line 4901)
unfoldable pub apart : ℤ → ℤ → ℕ
apart a b = unsigned_abs (a -ℤ b)

-- what both tests compare with the edge limit (lines 5014 and 5112). As printed the second term is halved alone; the Rust does the same.
unfoldable pub edge_value : (p1 p0 q0 q1 : ℤ) → ℕ
edge_value p1 p0 q0 q1 = apart p0 q0 * 2 + apart p1 q1 / 2

-- ---- common_adjust (lines 4945 to 5000)

-- a before it is divided (line 4967)
unfoldable pub filter_value : (outer : Bool) (p1 p0 q0 q1 : ℤ) → ℤ
filter_value outer p1 p0 q0 q1 = clamp (cond outer (clamp (p1 -ℤ q1)) (pos 0) +ℤ pos 3 *ℤ (q0 -ℤ p0))

-- b, which p0 gains (line 4972)
unfoldable pub gain_of : ℤ → ℤ
gain_of a = shr (clamp (a +ℤ pos 3)) 3

-- the answer, which q0 loses (line 4978)
unfoldable pub loss_of : ℤ → ℤ
loss_of a = shr (clamp (a +ℤ pos 4)) 3

unfoldable pub adjustment : (outer : Bool) (P1 P0 Q0 Q1 : ℕ) → ℤ
adjustment outer P1 P0 Q0 Q1 = loss_of (filter_value outer (u2s P1) (u2s P0) (u2s Q0) (u2s Q1))

unfoldable pub adjusted_p0 : (outer : Bool) (P1 P0 Q0 Q1 : ℕ) → ℕ
adjusted_p0 outer P1 P0 Q0 Q1 = s2u (u2s P0 +ℤ gain_of (filter_value outer (u2s P1) (u2s P0) (u2s Q0) (u2s Q1)))

unfoldable pub adjusted_q0 : (outer : Bool) (P1 P0 Q0 Q1 : ℕ) → ℕ
adjusted_q0 outer P1 P0 Q0 Q1 = s2u (u2s Q0 -ℤ adjustment outer P1 P0 Q0 Q1)

unfoldable pub common_adjust : (outer : Bool) (P1 P0 Q0 Q1 : ℕ) → List ℕ
common_adjust outer P1 P0 Q0 Q1 = P1 ∷ adjusted_p0 outer P1 P0 Q0 Q1 ∷ adjusted_q0 outer P1 P0 Q0 Q1 ∷ Q1 ∷ []

-- ---- simple_segment (lines 5006 to 5016): its test is on the samples as stored

unfoldable pub simple_yes : (edge P1 P0 Q0 Q1 : ℕ) → Bool
simple_yes edge P1 P0 Q0 Q1 = nat_le (edge_value (pos P1) (pos P0) (pos Q0) (pos Q1)) edge

unfoldable pub simple_segment : (edge P1 P0 Q0 Q1 : ℕ) → List ℕ
simple_segment edge P1 P0 Q0 Q1 = cond (simple_yes edge P1 P0 Q0 Q1) (common_adjust true P1 P0 Q0 Q1) (P1 ∷ P0 ∷ Q0 ∷ Q1 ∷ [])

-- ---- filter_yes (lines 5103 to 5117) and hev (lines 5127 to 5133)

unfoldable pub filter_yes : (interior edge : ℕ) (p3 p2 p1 p0 q0 q1 q2 q3 : ℤ) → Bool
filter_yes interior edge p3 p2 p1 p0 q0 q1 q2 q3 =
    nat_le (edge_value p1 p0 q0 q1) edge
    && nat_le (apart p3 p2) interior && nat_le (apart p2 p1) interior && nat_le (apart p1 p0) interior
    && nat_le (apart q3 q2) interior && nat_le (apart q2 q1) interior && nat_le (apart q1 q0) interior

unfoldable pub hev : (threshold : ℕ) (p1 p0 q0 q1 : ℤ) → Bool
hev threshold p1 p0 q0 q1 = nat_lt threshold (apart p1 p0) || nat_lt threshold (apart q1 q0)

-- both, of the samples of a segment
unfoldable pub segment_yes : (interior edge P3 P2 P1 P0 Q0 Q1 Q2 Q3 : ℕ) → Bool
segment_yes interior edge P3 P2 P1 P0 Q0 Q1 Q2 Q3 =
    filter_yes interior edge (u2s P3) (u2s P2) (u2s P1) (u2s P0) (u2s Q0) (u2s Q1) (u2s Q2) (u2s Q3)

unfoldable pub segment_hev : (threshold P1 P0 Q0 Q1 : ℕ) → Bool
segment_hev threshold P1 P0 Q0 Q1 = hev threshold (u2s P1) (u2s P0) (u2s Q0) (u2s Q1)

-- ---- subblock_filter (lines 5161 to 5187): the outer pair moves by half the answer, unless the variance is high

unfoldable pub outer_step : (P1 P0 Q0 Q1 : ℕ) → ℤ
outer_step P1 P0 Q0 Q1 = shr (adjustment false P1 P0 Q0 Q1 +ℤ pos 1) 1

unfoldable pub subblock_filter : (threshold interior edge P3 P2 P1 P0 Q0 Q1 Q2 Q3 : ℕ) → List ℕ
subblock_filter threshold interior edge P3 P2 P1 P0 Q0 Q1 Q2 Q3 =
    cond (segment_yes interior edge P3 P2 P1 P0 Q0 Q1 Q2 Q3)
    (cond (segment_hev threshold P1 P0 Q0 Q1)
    (P3 ∷ P2 ∷ P1 ∷ adjusted_p0 true P1 P0 Q0 Q1 ∷ adjusted_q0 true P1 P0 Q0 Q1 ∷ Q1 ∷ Q2 ∷ Q3 ∷ [])
    (P3 ∷ P2
    ∷ s2u (u2s P1 +ℤ outer_step P1 P0 Q0 Q1)
    ∷ adjusted_p0 false P1 P0 Q0 Q1
    ∷ adjusted_q0 false P1 P0 Q0 Q1
    ∷ s2u (u2s Q1 -ℤ outer_step P1 P0 Q0 Q1)
    ∷ Q2 ∷ Q3 ∷ []))
    (P3 ∷ P2 ∷ P1 ∷ P0 ∷ Q0 ∷ Q1 ∷ Q2 ∷ Q3 ∷ [])

-- ---- MBfilter (lines 5217 to 5275): without high variance three pairs move by 27, 18 and 9 parts in 128 of w

-- a of a pair (lines 5246, 5252 and 5258)
unfoldable pub part : (k : ℕ) (w : ℤ) → ℤ
part k w = clamp (shr (pos k *ℤ w +ℤ pos 63) 7)

-- w (line 5239)
unfoldable pub wide_value : (P1 P0 Q0 Q1 : ℕ) → ℤ
wide_value P1 P0 Q0 Q1 = filter_value true (u2s P1) (u2s P0) (u2s Q0) (u2s Q1)

unfoldable pub mb_filter : (threshold interior edge P3 P2 P1 P0 Q0 Q1 Q2 Q3 : ℕ) → List ℕ
mb_filter threshold interior edge P3 P2 P1 P0 Q0 Q1 Q2 Q3 =
    cond (segment_yes interior edge P3 P2 P1 P0 Q0 Q1 Q2 Q3)
    (cond (segment_hev threshold P1 P0 Q0 Q1)
    (P3 ∷ P2 ∷ P1 ∷ adjusted_p0 true P1 P0 Q0 Q1 ∷ adjusted_q0 true P1 P0 Q0 Q1 ∷ Q1 ∷ Q2 ∷ Q3 ∷ [])
    (P3
    ∷ s2u (u2s P2 +ℤ part 9 (wide_value P1 P0 Q0 Q1))
    ∷ s2u (u2s P1 +ℤ part 18 (wide_value P1 P0 Q0 Q1))
    ∷ s2u (u2s P0 +ℤ part 27 (wide_value P1 P0 Q0 Q1))
    ∷ s2u (u2s Q0 -ℤ part 27 (wide_value P1 P0 Q0 Q1))
    ∷ s2u (u2s Q1 -ℤ part 18 (wide_value P1 P0 Q0 Q1))
    ∷ s2u (u2s Q2 -ℤ part 9 (wide_value P1 P0 Q0 Q1))
    ∷ Q3 ∷ []))
    (P3 ∷ P2 ∷ P1 ∷ P0 ∷ Q0 ∷ Q1 ∷ Q2 ∷ Q3 ∷ [])
