use Rattle.std.proofs.Common.{◌≡◌, sym, ltb, arith, le-leb, lt-ltb, zero, suc, Bool, true, false, refl, cond, ◌&&◌, ℤ, pos, ap, w64, ◌∙◌, of_z, to_z}
use lib.Signed.{le_z, lt_z}
use Rattle.std.proofs.Common.{Less, Equal, Greater, negsuc}
use Rattle.std.specs.Ordering.{is_le, is_lt, int_cmp}
use Rattle.kernels.specs.Private.Windows.{in_byte}
use Rattle.arithmetic.proofs.Ranges as R
use Rattle.kernels.proofs.store.in_byte.Goals as goal

less : (a b : Bool) → is_lt (cond a Less (cond b Greater Equal)) ≡ a
less true b = refl
less false true = refl
less false false = refl

from-zero : (z : ℤ) → is_le (int_cmp (pos 0) z) ≡ le_z (pos 0) z
from-zero (pos zero) = refl
from-zero (pos (suc n)) =
    ap (λ (b : Bool). is_le (cond b Less (cond (ltb (suc n) 0) Greater Equal))) (lt-ltb 0 (suc n) (omega arith)) ∙ sym (le-leb 0 (suc n) (omega arith))
from-zero (negsuc n) = refl

pub returns : goal.returns
unfolding in_byte
returns c =
    let z : ℤ = to_z w64 (of_z w64 c.args.v) in
    c.contains.ensures.value ∙ (λ i. from-zero z i && less (lt_z z (pos 256)) (lt_z (pos 256) z) i)
    ∙ ap (λ (z : ℤ). le_z (pos 0) z && lt_z z (pos 256)) (R.held {w = w64} c.ranges.v).val
