use mathlib.Core.Path.{◌≡◌, ap, ◌∙◌}
use mathlib.Core.Bool.{Bool, cond}
use Prim.Native.Nat.{◌^◌, ◌<◌}
use lib.IntN.{ℤ, pos}
use lib.Signed.{mag}
use lib.Dec.{lit<}
use mir.Syntax.{w16}
use mir.Val.{SFits, to_z, of_z}
use Rattle.arithmetic.specs.Numbers.{clamp, within255}
use Rattle.arithmetic.proofs.Ranges as R
use Rattle.arithmetic.proofs.signed.filter_value.Goals as goal

-- what `within_255` gives
step : {r d : ℤ} → SFits w16 d → mag r < 2 ^ 15 → r ≡ within255 (to_z w16 (of_z w16 d)) → R.Is w16 (of_z w16 r) (within255 d) 256
step f t e = R.got t (e ∙ ap within255 (R.held f).val) (R.within_in _)

-- what `pick` gives, of what `clamp` gives
taps : {r l o : ℤ} (outer : Bool) → SFits w16 o → mag l < 2 ^ 15 → l ≡ clamp (to_z w16 (of_z w16 o)) → mag r < 2 ^ 15 → r ≡ cond outer (to_z w16 (of_z w16 l)) (pos 0)
    → R.Is w16 (of_z w16 r) (cond outer (clamp o) (pos 0)) 128
taps {o = o} outer f t e t' e' =
    let limited = R.got {w = w16} t (e ∙ ap clamp (R.held f).val) (R.clamp-in _) in
    R.got t' (e' ∙ ap (λ (v : ℤ). cond outer v (pos 0)) limited.val) (R.cond-in outer (clamp o) (pos 0) (R.clamp-in _) (lit< tt))

pub overflow_mul-within_255 : goal.overflow_mul-within_255
overflow_mul-within_255 c = R.mul? 3 (step c.ranges.d c.within_255.type_inv c.within_255.ensures) tt tt

pub overflow_add-pick : goal.overflow_add-pick
overflow_add-pick c =
    R.add? (taps c.args.outer c.ranges.o c.clamp.type_inv c.clamp.ensures c.pick.type_inv c.pick.ensures)
    (R.mul 3 (step c.ranges.d c.within_255.type_inv c.within_255.ensures) tt tt) tt

pub returns : goal.returns
returns c =
    let a = taps c.args.outer c.ranges.o c.clamp.type_inv c.clamp.ensures c.pick.type_inv c.pick.ensures in
    let b = R.mul 3 (step c.ranges.d c.within_255.type_inv c.within_255.ensures) tt tt in
    (R.got {w = w16} c.clamp-2.type_inv (c.clamp-2.ensures ∙ ap clamp (R.add a b tt).val ∙ R.limited-first _ c.args.d a.inr) (R.clamp-in _)).val
