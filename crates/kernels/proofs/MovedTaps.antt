-- The samples that a filter value moves, cut, are those that the kernels store.
-- Assumes nothing.
use Rattle.std.proofs.Common.{◌≡◌, ℕ, ◌+◌, ◌-◌, ◌*◌, ◌/◌, ◌<◌, Bool, true, false, T, ltb, leb, List, [], ◌∷◌, ℤ, pos, ◌+ℤ◌, ◌-ℤ◌, ◌*ℤ◌, neg_ℤ, sym, ap, ◌∙◌, subst, lt_of_lt_of_le, lit<, to_z, ◌≤◌}
use mir.Syntax.{Width}
use lib.Signed.{mag, shr_z}
use Rattle.arithmetic.specs.Numbers.{u2s, s2u, shr, at_most123}
use Rattle.arithmetic.proofs.Ranges as R
use Rattle.kernels.specs.declared.taps.Near.{Near}
use Rattle.kernels.specs.declared.taps.Taps.{Taps}
use Rattle.kernels.specs.Kernels.{filter_value, gain_of, loss_of, adjustment, adjusted_p0, adjusted_q0, outer_step, part, wide_value}
use Rattle.kernels.specs.Private.Windows.{cut, stored, stored_cut, adjusted, softened_four, widened_six}
use Rattle.kernels.specs.Private.Moves.{capped, two, four, part_of, six}
use Rattle.kernels.proofs.SignedBytes.{filter-in}
use Rattle.kernels.proofs.Cuts.{moved, gain-is, loss-is, half_is, part_small}

up : (p : ℕ) (a b : ℤ) → a ≡ b → cut (pos p +ℤ a) ≡ s2u (u2s p +ℤ b)
up p a b e = moved p a ∙ ap (λ (z : ℤ). s2u (u2s p +ℤ z)) e

down : (p : ℕ) (a b : ℤ) → a ≡ b → cut (pos p -ℤ a) ≡ s2u (u2s p -ℤ b)
down p a b e = moved p (neg_ℤ a) ∙ ap (λ (z : ℤ). s2u (u2s p -ℤ z)) e

-- a local that holds a number within a bound is within it
pub holds : {w : Width} {n : ℕ} {z : ℤ} {A : ℕ} → R.Is w n z A → A ≤ 2048 → mag (to_z w n) < 2048
holds {w} {n} {z} {A} p h = subst (λ (v : ℤ). mag v < 2048) (sym p.val) (lt_of_lt_of_le p.inr h)

pub capped-in : (o : Bool) (w : Near) → mag (capped o w) < 128
unfolding capped
capped-in o w = R.most-in (filter_value o (u2s w.p1) (u2s w.p0) (u2s w.q0) (u2s w.q1)) (filter-in o _ _ _ _)

pub two-cut : (o : Bool) (n : ℕ) (w : Near) (l : List ℕ) → stored_cut ((n - 2) / 2) (two (capped o w) w) l ≡ adjusted n o l w
unfolding capped two adjusted adjusted_p0 adjusted_q0 adjustment
two-cut o n w l =
    let f : ℤ = filter_value o (u2s w.p1) (u2s w.p0) (u2s w.q0) (u2s w.q1) in
    let h : mag f < 128 = filter-in o _ _ _ _ in
    λ i. stored ((n - 2) / 2) (up w.p0 _ (gain_of f) (gain-is f h) i ∷ down w.q0 _ (loss_of f) (loss-is f h) i ∷ []) l

pub four-cut : (w : Near) (l : List ℕ) → stored_cut 2 (four (capped false w) w) l ≡ softened_four l w
unfolding capped four softened_four adjusted_p0 adjusted_q0 adjustment outer_step
four-cut w l =
    let f : ℤ = filter_value false (u2s w.p1) (u2s w.p0) (u2s w.q0) (u2s w.q1) in
    let h : mag f < 128 = filter-in false _ _ _ _ in
    let half : shr_z (at_most123 f +ℤ pos 12) 16 ≡ shr (loss_of f +ℤ pos 1) 1 = half_is f h in
    λ i. stored 2
    (up w.p1 _ (shr (loss_of f +ℤ pos 1) 1) half i ∷ up w.p0 _ (gain_of f) (gain-is f h) i ∷ down w.q0 _ (loss_of f) (loss-is f h) i ∷ down w.q1 _ (shr (loss_of f +ℤ pos 1) 1) half i ∷ []) l

part-is : (k : ℕ) (v : ℤ) → T (ltb 0 k) → T (leb (k * 128 + 64) (128 * 128)) → mag v < 128 → part_of k v ≡ part k v
part-is k v t u h = part_small k v (R.in-add (pos k *ℤ v) (pos 63) (R.in-mul k v t h) (lit< tt)) u

pub six-cut : (w : Taps) (l : List ℕ) → stored_cut 1 (six (wide_value w.near.p1 w.near.p0 w.near.q0 w.near.q1) w) l ≡ widened_six l w
unfolding six widened_six wide_value
six-cut w l =
    let n : Near = w.near in
    let v : ℤ = filter_value true (u2s n.p1) (u2s n.p0) (u2s n.q0) (u2s n.q1) in
    let h : mag v < 128 = filter-in true _ _ _ _ in
    let nine : part_of 9 v ≡ part 9 v = part-is 9 v tt tt h in
    let eighteen : part_of 18 v ≡ part 18 v = part-is 18 v tt tt h in
    let more : part_of 27 v ≡ part 27 v = part-is 27 v tt tt h in
    λ i. stored 1
    (up w.p2 _ (part 9 v) nine i ∷ up n.p1 _ (part 18 v) eighteen i ∷ up n.p0 _ (part 27 v) more i
    ∷ down n.q0 _ (part 27 v) more i ∷ down n.q1 _ (part 18 v) eighteen i ∷ down w.q2 _ (part 9 v) nine i ∷ []) l
