-- What the kernels answer, in document 01's terms.
use Rattle.std.specs.Prelude.{Bool, ℕ, ℤ, Result}
use Rattle.arithmetic.specs.Outcome.{Outcome, outcome}
use Rattle.kernels.specs.declared.answers.KernelRefusal.{KernelRefusal}
use Rattle.kernels.specs.declared.answers.KernelRefusal.TheVariants.{NoWindow}

-- document 01's number
abbrev pub kernel_refusal_number : KernelRefusal → ℕ
kernel_refusal_number NoWindow = 4

-- `common_adjust`: the adjustment, or 4
abbrev pub adjust_outcome : Result ℤ KernelRefusal → Outcome ℤ
adjust_outcome r = outcome kernel_refusal_number r

-- the other kernels: whether the test passed, or 4
abbrev pub kernel_outcome : Result Bool KernelRefusal → Outcome Bool
kernel_outcome r = outcome kernel_refusal_number r
