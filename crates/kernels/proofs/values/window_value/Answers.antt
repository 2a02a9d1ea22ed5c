use Rattle.std.proofs.Common.{◌≡◌, ℕ, ◌^◌, ◌<◌, cond, ℤ, pos, ◌+ℤ◌, ◌-ℤ◌, ◌*ℤ◌, ◌∙◌, w16, to_z, of_z, rules}
use lib.Signed.{mag}
use Rattle.arithmetic.specs.Numbers.{clamp, u2s}
use Rattle.kernels.specs.declared.taps.Near.{Near}
use Rattle.kernels.specs.Kernels.{filter_value}
use Rattle.arithmetic.proofs.Ranges as R
use Rattle.kernels.proofs.values.window_value.Goals as goal

-- the difference that a call of `difference` gave
apart : (a b : ℕ) (h : a < 256) (k : b < 256) {r : ℤ} (ok : mag r < 2 ^ 15) (e : r ≡ u2s a -ℤ u2s b) → to_z w16 (of_z w16 r) ≡ u2s a -ℤ u2s b
apart a b h k ok e = (R.got {w = w16} ok e (R.difference-in a b h k)).val

pub returns : goal.returns
unfolding filter_value
returns c =
    let w : Near = c.args.w in
    let p1 : w.p1 < 256 = search rules in
    let p0 : w.p0 < 256 = search rules in
    let q0 : w.q0 < 256 = search rules in
    let q1 : w.q1 < 256 = search rules in
    let o = apart w.p1 w.q1 p1 q1 c.difference.type_inv c.difference.ensures in
    let d = apart w.q0 w.p0 q0 p0 c.difference-2.type_inv c.difference-2.ensures in
    (R.got {w = w16} c.filter_value.type_inv (c.filter_value.ensures ∙ (λ i. clamp (cond c.args.outer (clamp (o i)) (pos 0) +ℤ pos 3 *ℤ d i))) (R.clamp-in _)).val
