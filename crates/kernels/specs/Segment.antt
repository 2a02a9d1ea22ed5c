-- A segment: the samples across an edge at one position of it (RFC 6386, section 15.1), read from a list at the indices that `at` names, and the inner ones stored back.
-- A window of a slice, a position of a vertical edge and one of a horizontal edge differ in `at` alone.
use Rattle.std.specs.Prelude.{ℕ, zero, suc, ◌+◌, ◌-◌, Bool, true, false, cond, List, [], ◌∷◌, length, take, drop, ℤ, nat_le, slice_index, slice_set}
use Rattle.arithmetic.specs.Outcome.{Outcome, gives, refuses}
use Rattle.kernels.specs.Kernels as K
use Rattle.kernels.specs.Kernels.{adjustment}

-- a kernel with its limits
pub data Kernel : Type 0 where
  common_adjust : (outer : Bool) → Kernel
  simple_segment : (edge : ℕ) → Kernel
  subblock_filter : (threshold interior edge : ℕ) → Kernel
  mb_filter : (threshold interior edge : ℕ) → Kernel

-- the two normal kernels, of which mb_filter is the wide one
abbrev pub normal : (wide : Bool) (threshold interior edge : ℕ) → Kernel
normal wide threshold interior edge = cond wide (mb_filter threshold interior edge) (subblock_filter threshold interior edge)

-- how many samples it takes on each side of the edge
unfoldable pub half : Kernel → ℕ
half (common_adjust outer) = 2
half (simple_segment edge) = 2
half (subblock_filter threshold interior edge) = 4
half (mb_filter threshold interior edge) = 4

-- both sides
unfoldable pub taps : Kernel → ℕ
taps k = half k + half k

abbrev four : {X : Type 0} → (ℕ → ℕ → ℕ → ℕ → X) → List ℕ → X
four f ts = f (slice_index ts 0) (slice_index ts 1) (slice_index ts 2) (slice_index ts 3)

abbrev eight : {X : Type 0} → (ℕ → ℕ → ℕ → ℕ → ℕ → ℕ → ℕ → ℕ → X) → List ℕ → X
eight f ts = f (slice_index ts 0) (slice_index ts 1) (slice_index ts 2) (slice_index ts 3) (slice_index ts 4) (slice_index ts 5) (slice_index ts 6) (slice_index ts 7)

-- the samples of a segment after the kernel
unfoldable pub smooth : Kernel → List ℕ → List ℕ
smooth (common_adjust outer) = four (K.common_adjust outer)
smooth (simple_segment edge) = four (K.simple_segment edge)
smooth (subblock_filter threshold interior edge) = eight (K.subblock_filter threshold interior edge)
smooth (mb_filter threshold interior edge) = eight (K.mb_filter threshold interior edge)

-- Whether the kernel's test passes on the samples of a segment: the segment then counts as smoothed, even if its numbers come out equal.
-- common_adjust has no test.
unfoldable pub passes : Kernel → List ℕ → Bool
passes (common_adjust outer) = λ _. false
passes (simple_segment edge) = four (K.simple_yes edge)
passes (subblock_filter threshold interior edge) = eight (K.segment_yes interior edge)
passes (mb_filter threshold interior edge) = eight (K.segment_yes interior edge)

-- n samples, from the one that `at t` names on
unfoldable pub gather : (at : ℕ → ℕ) (t n : ℕ) → List ℕ → List ℕ
gather at t zero l = []
gather at t (suc n) l = slice_index l (at t) ∷ gather at (suc t) n l

-- the numbers stored at the indices that `at t`, `at (t + 1)`, .. name
unfoldable pub scatter : (at : ℕ → ℕ) (t : ℕ) → List ℕ → List ℕ → List ℕ
scatter at t [] l = l
scatter at t (v ∷ vs) l = scatter at (suc t) vs (slice_set l (at t) v)

-- All taps are read. The outermost two, `const` in the RFC's listings, are never written.
unfoldable pub segment : Kernel → (at : ℕ → ℕ) → List ℕ → List ℕ
segment k at l = scatter at 1 (take (taps k - 2) (drop 1 (smooth k (gather at 0 (taps k) l)))) l

-- whether its test passes on the samples as they stand there
unfoldable pub passes_at : Kernel → (at : ℕ → ℕ) → List ℕ → Bool
passes_at k at l = passes k (gather at 0 (taps k) l)

-- what a segment adds to a count
unfoldable pub mark : Bool → ℕ
mark true = 1
mark false = 0

-- ---- a window of a slice

-- the window fits at base: 4 is refused on this alone
unfoldable pub fits_at : Kernel → List ℕ → (base : ℕ) → Bool
fits_at k l base = nat_le (base + taps k) (length l)

-- the slice after a call of the kernel
unfoldable pub windowed : Kernel → List ℕ → (base : ℕ) → List ℕ
windowed k l base = cond (fits_at k l base) (segment k (λ t. base + t) l) l

-- what the call answers: whether the test passed on the window as it was lent
unfoldable pub window_answer : Kernel → List ℕ → (base : ℕ) → Outcome Bool
window_answer k l base = cond (fits_at k l base) (gives (passes_at k (λ t. base + t) l)) (refuses 4)

unfoldable pub adjust_answer : (outer : Bool) → List ℕ → (base : ℕ) → Outcome ℤ
adjust_answer outer l base =
    cond (fits_at (common_adjust outer) l base)
    (gives (adjustment outer (slice_index l base) (slice_index l (base + 1)) (slice_index l (base + 2)) (slice_index l (base + 3))))
    (refuses 4)
