use Rattle.std.proofs.Common.{ℕ, ◌+◌, ◌-◌, ◌%◌, ◌^◌, ◌<◌, subst, arith}
use Rattle.kernels.proofs.Apart.{near-is}
use Rattle.kernels.proofs.near.in_reach.Goals as goal

pub returns : goal.returns
returns c =
    λ a e. near-is a c.args.b c.args.limit ((c.args.top + (2 ^ 64 - c.args.b)) % 2 ^ 64) (subst (λ (n : ℕ). n < 4096) e c.requires.0) c.requires.1 (omega arith) (omega (arith, e, c.requires.0, c.requires.1))
