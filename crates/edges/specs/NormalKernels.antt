-- The normal kernels of a macroblock's limits (RFC 6386, section 15.4): at its borders, and within it.
use Rattle.std.specs.Prelude.{ℕ}
use Rattle.kernels.specs.Segment.{Kernel, subblock_filter, mb_filter}
use Rattle.arithmetic.specs.declared.limits.LoopFilterParams.{LoopFilterParams}

abbrev pub outer_of : LoopFilterParams → Kernel
outer_of p = mb_filter p.hev_threshold p.interior_limit p.mbedge_limit

abbrev pub inner_of : LoopFilterParams → Kernel
inner_of p = subblock_filter p.hev_threshold p.interior_limit p.sub_bedge_limit

-- either kind of normal kernel, of whose limits `edge` names one of a macroblock's
abbrev pub kernel_of : (kernel : (threshold interior edge : ℕ) → Kernel) (edge : LoopFilterParams → ℕ) → LoopFilterParams → Kernel
kernel_of kernel edge p = kernel p.hev_threshold p.interior_limit (edge p)
