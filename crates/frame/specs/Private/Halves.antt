-- How many samples the kernels of a plane's edges take on each side.
use Rattle.std.specs.Prelude.{◌≡◌, ℕ, refl}
use Rattle.kernels.specs.Segment.{Kernel, half, simple_segment}
use Rattle.edges.specs.Taps.{NormalKind, macroblock, subblock}

pub normal-half : {k : (threshold interior edge : ℕ) → Kernel} {changed : ℕ} → NormalKind k changed → (threshold interior edge : ℕ) → half (k threshold interior edge) ≡ 4
unfolding half
normal-half macroblock threshold interior edge = refl
normal-half subblock threshold interior edge = refl

pub simple-half : (edge : ℕ) → half (simple_segment edge) ≡ 2
unfolding half
simple-half edge = refl
