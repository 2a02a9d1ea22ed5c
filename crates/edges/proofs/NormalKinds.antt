-- What generic code knows of either kind of normal edge.
use mathlib.Core.Path.{◌≡◌, refl}
use mathlib.Core.Bool.{Bool, true, false, cond}
use mathlib.Core.Logic.{◌⊎◌, inl, inr}
use mathlib.Core.List.{List}
use Prim.Native.Nat.{ℕ, ◌≤◌}
use native.Mathlib.Omega.{arith}
use lib.ListN.{get_or}
use Rattle.kernels.specs.Kernels as K
use Rattle.kernels.specs.Segment.{Kernel, mb_filter, subblock_filter, half, taps, smooth, passes}
use Rattle.edges.specs.declared.position.EightTaps.{EightTaps}
use Rattle.edges.specs.Taps.{SignedEight, inner_taps, NormalKind, macroblock, subblock}
use Rattle.edges.specs.Private.Runs.{SignedSix}
use Rattle.edges.proofs.TapPositions.{mb-in, sub_in}

-- of eight samples, p2 and q2 are P and Q
pub record Outer (l : List ℕ) (P Q : ℕ) : Type 0 where
  pub second : get_or l 1 0 ≡ P
  pub seventh : get_or l 6 0 ≡ Q

outer-cond : (c : Bool) {l l' : List ℕ} {P Q : ℕ} → Outer l P Q → Outer l' P Q → Outer (cond c l l') P Q
outer-cond true h h' = h
outer-cond false h h' = h'

outer : {l : List ℕ} {P Q : ℕ} → get_or l 1 0 ≡ P → get_or l 6 0 ≡ Q → Outer l P Q
outer e f = record { second = e; seventh = f }

sub-outer : (threshold interior edge : ℕ) (ts : List ℕ) → Outer (smooth (subblock_filter threshold interior edge) ts) (get_or ts 1 0) (get_or ts 6 0)
unfolding smooth K.subblock_filter
sub-outer threshold interior edge ts =
    outer-cond (K.segment_yes interior edge (get_or ts 0 0) (get_or ts 1 0) (get_or ts 2 0) (get_or ts 3 0) (get_or ts 4 0) (get_or ts 5 0) (get_or ts 6 0) (get_or ts 7 0))
    (outer-cond (K.segment_hev threshold (get_or ts 2 0) (get_or ts 3 0) (get_or ts 4 0) (get_or ts 5 0)) (outer refl refl) (outer refl refl))
    (outer refl refl)

pub kind-few : {kernel : (threshold interior edge : ℕ) → Kernel} {changed : ℕ} → NormalKind kernel changed → changed ≤ 3
kind-few macroblock = omega arith
kind-few subblock = omega arith

module _ (threshold interior edge : ℕ) where
  pub kind-taps : {kernel : (threshold interior edge : ℕ) → Kernel} {changed : ℕ} → NormalKind kernel changed → taps (kernel threshold interior edge) ≡ 8
  unfolding taps half
  kind-taps macroblock = refl
  kind-taps subblock = refl

  -- either kind has the same test
  pub kind-test : {kernel : (threshold interior edge : ℕ) → Kernel} {changed : ℕ} → NormalKind kernel changed → (ts : List ℕ) → passes (mb_filter threshold interior edge) ts ≡ passes (kernel threshold interior edge) ts
  unfolding passes
  kind-test macroblock ts = refl
  kind-test subblock ts = refl

  -- taps stay taps
  pub kind-signed : {kernel : (threshold interior edge : ℕ) → Kernel} {changed : ℕ} → NormalKind kernel changed → (s : EightTaps) → SignedEight s → SignedSix (inner_taps (kernel threshold interior edge) s)
  kind-signed macroblock s h = mb-in threshold interior edge s h
  kind-signed subblock s h = sub_in threshold interior edge s h

  -- the rows 1 to 6 may change, or of these the second and the seventh do not
  pub kind-reach : {kernel : (threshold interior edge : ℕ) → Kernel} {changed : ℕ} → NormalKind kernel changed
      → (changed ≡ 3) ⊎ ((changed ≡ 2) × ((ts : List ℕ) → Outer (smooth (kernel threshold interior edge) ts) (get_or ts 1 0) (get_or ts 6 0)))
  kind-reach macroblock = inl refl
  kind-reach subblock = inr (refl, sub-outer threshold interior edge)
