-- Windows of eight samples that are decided within bounds, and their numbers where nothing needs a clamp.
use Rattle.std.specs.Prelude.{◌≡◌, ℕ, ◌+◌, ◌*◌, ◌≤◌, Bool, true, cond, ◌&&◌, List, ℤ, pos, ◌+ℤ◌, ◌-ℤ◌, ◌*ℤ◌, nat_le, slice_index}
use Rattle.kernels.specs.declared.limits.EdgeLimits.{EdgeLimits}
use Rattle.kernels.specs.declared.taps.Near.{Near}
use Rattle.kernels.specs.declared.taps.Taps.{Taps}
use Rattle.kernels.specs.declared.bounds.Bounds.{Bounds}
use Rattle.kernels.specs.Kernels.{apart}
use Rattle.kernels.specs.Private.Windows.{low_variance, stored_cut}
use Rattle.kernels.specs.Private.Moves.{two, four, six}

-- the taps of a window of four, and of one of eight
unfoldable pub near_of : List ℕ → Near
near_of l = record { p1 = slice_index l 0; p0 = slice_index l 1; q0 = slice_index l 2; q1 = slice_index l 3 }

unfoldable pub taps_of : List ℕ → Taps
taps_of l = record {
  p3 = slice_index l 0;
  p2 = slice_index l 1;
  near = record { p1 = slice_index l 2; p0 = slice_index l 3; q0 = slice_index l 4; q1 = slice_index l 5 };
  q2 = slice_index l 6;
  q3 = slice_index l 7;
}

-- ---- tests

-- the distances of filter_yes that neither p0 nor q0 is part of
unfoldable pub outer_near : (interior : ℕ) → Taps → Bool
outer_near interior w =
    (nat_le (apart (pos w.p2) (pos w.p3)) interior && nat_le (apart (pos w.p2) (pos w.near.p1)) interior)
    && (nat_le (apart (pos w.q2) (pos w.q3)) interior && nat_le (apart (pos w.q2) (pos w.near.q1)) interior)

-- the other two, which are also those of hev
abbrev pub inner_near : (limit : ℕ) → Taps → Bool
inner_near limit w = low_variance limit w.near.p1 w.near.p0 w.near.q0 w.near.q1

-- what the edge test compares, times two
abbrev pub edge_sum : Near → ℕ
edge_sum w = apart (pos w.p0) (pos w.q0) * 4 + apart (pos w.p1) (pos w.q1)

-- what the bounds keep
pub record Safe (s : Bounds) : Type 0 where
  pub low : s.inner ≤ s.limits.threshold
  pub within : s.inner ≤ s.limits.interior
  pub sums : 5 * s.step + 2 * s.inner ≤ s.sum
  pub edges : s.sum ≤ 2 * s.limits.limit + 1
  pub few : s.sum ≤ 123

-- the bounds of a kernel
pub record Bounded (limits : EdgeLimits) (s : Bounds) : Type 0 where
  pub of-limits : s.limits ≡ limits
  pub safe : Safe s

-- ---- numbers, without clamps

-- a of common_adjust without the outer taps
unfoldable pub step_of : Near → ℤ
step_of w = pos 3 *ℤ (pos w.q0 -ℤ pos w.p0)

-- and with them
unfoldable pub sum_of : Near → ℤ
sum_of w = step_of w +ℤ (pos w.p1 -ℤ pos w.q1)

-- ---- a store that is tried

-- with high variance, and with low
abbrev pub plain_high : List ℕ → Taps → List ℕ
plain_high l w = stored_cut 3 (two (sum_of w.near) w.near) l

abbrev pub plain_low : (wide : Bool) → List ℕ → Taps → List ℕ
plain_low wide l w = cond wide (stored_cut 1 (six (sum_of w.near) w) l) (stored_cut 2 (four (step_of w.near) w.near) l)

-- r tells that the samples were stored, which it does only where the test passed
pub record Tried (test : Bool) (l stored : List ℕ) (r : Bool) (l' : List ℕ) : Type 0 where
  pub told : r ≡ true → test ≡ true
  pub bytes : l' ≡ cond r stored l

-- ---- a window whose outer distances passed, and with the bounds that it is tried with

pub record Outer (interior : ℕ) (l : List ℕ) (w : Taps) : Type 0 where
  pub taps : w ≡ taps_of l
  pub near : outer_near interior w ≡ true

pub record Window (l : List ℕ) (w : Taps) (s : Bounds) : Type 0 where
  pub outer : Outer s.limits.interior l w
  pub safe : Safe s
