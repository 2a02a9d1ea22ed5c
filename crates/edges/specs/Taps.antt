-- What NormalEdge asks of a kind of edge: its kernel on taps, which are samples as signed numbers (RFC 6386, sections 15.2 and 15.3), and which kernel that is.
use Rattle.std.specs.Prelude.{List, [], ◌∷◌, ℕ, ◌<◌, get_or}
use Rattle.std.specs.Int.Signed.{mag}
use Rattle.arithmetic.specs.Numbers.{u2s, s2u}
use Rattle.kernels.specs.Segment.{Kernel, smooth, subblock_filter, mb_filter}
use Rattle.edges.specs.declared.position.FourTaps.{FourTaps}
use Rattle.edges.specs.declared.position.EightTaps.{EightTaps}
use Rattle.edges.specs.declared.position.InnerTaps.{InnerTaps}

-- taps in -128..127
pub record SignedFour (s : FourTaps) : Type 0 where
  pub p1-in : mag s.p1 < 128
  pub p0-in : mag s.p0 < 128
  pub q0-in : mag s.q0 < 128
  pub q1-in : mag s.q1 < 128

pub record SignedEight (s : EightTaps) : Type 0 where
  pub p3-in : mag s.p3 < 128
  pub p2-in : mag s.p2 < 128
  pub near-in : SignedFour s.near
  pub q2-in : mag s.q2 < 128
  pub q3-in : mag s.q3 < 128

-- the samples that taps stand for
abbrev pub eight_samples : EightTaps → List ℕ
eight_samples s = s2u s.p3 ∷ s2u s.p2 ∷ s2u s.near.p1 ∷ s2u s.near.p0 ∷ s2u s.near.q0 ∷ s2u s.near.q1 ∷ s2u s.q2 ∷ s2u s.q3 ∷ []

-- the inner taps of a segment of eight after the kernel
unfoldable pub inner_taps : Kernel → EightTaps → InnerTaps
inner_taps k s =
    let vs = smooth k (eight_samples s) in
    record { p2 = u2s (get_or vs 1 0); p1 = u2s (get_or vs 2 0); p0 = u2s (get_or vs 3 0); q0 = u2s (get_or vs 4 0); q1 = u2s (get_or vs 5 0); q2 = u2s (get_or vs 6 0) }

-- a kernel, by its threshold and its interior and edge limits, and how many samples on each side of the edge it may change
pub data NormalKind : ((threshold interior edge : ℕ) → Kernel) → (changed : ℕ) → Type 0 where
  macroblock : NormalKind mb_filter 3
  subblock : NormalKind subblock_filter 2
