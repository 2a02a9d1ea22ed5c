-- The limits of specs/Numbers.antt as the methods of std compute them.
use Rattle.std.proofs.Common.{◌≡◌, ℤ, pos, negsuc, arith}
use Rattle.std.proofs.lemmas.Grind.{common_steps}
use Rattle.std.specs.Int.{int_min, int_max}
use Rattle.arithmetic.specs.Numbers.{clamp, at_most123, within255}

pub byte_limits : (v : ℤ) → int_max (negsuc 127) (int_min v (pos 127)) ≡ clamp v
unfolding clamp
byte_limits (pos n) = grind (arith, common_steps)
byte_limits (negsuc n) = grind (arith, common_steps)

pub limit_123 : (v : ℤ) → int_min v (pos 123) ≡ at_most123 v
unfolding at_most123
limit_123 (pos n) = grind (arith, common_steps)
limit_123 (negsuc n) = grind (arith, common_steps)

pub limits_255 : (v : ℤ) → int_max (negsuc 254) (int_min v (pos 255)) ≡ within255 v
unfolding within255
limits_255 (pos n) = grind (arith, common_steps)
limits_255 (negsuc n) = grind (arith, common_steps)
