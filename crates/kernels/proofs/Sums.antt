-- Windows within the bound 123 of the sum: no clamp changes a number of them, so that what is stored plainly is what the kernels store.
-- Assumes nothing.
use Rattle.std.proofs.Common.{◌≡◌, ℕ, zero, suc, ◌+◌, ◌-◌, ◌*◌, ◌<◌, ◌≤◌, Bool, true, false, cond, ltb, List, ℤ, pos, negsuc, ◌+ℤ◌, ◌-ℤ◌, ◌*ℤ◌, neg_ℤ, nat_abs, sym, refl, ap, ◌∙◌, le_refl, arith, ltb-false, ltb-true}
use lib.IntN.{sub_ℕ, +ℤ_comm, +ℤ_idl}
use lib.Signed.{mag}
use Rattle.arithmetic.specs.Numbers.{clamp, u2s, at_most123}
use Rattle.arithmetic.proofs.Ranges as R
use Rattle.kernels.specs.declared.taps.Near.{Near}
use Rattle.kernels.specs.declared.taps.Taps.{Taps}
use Rattle.kernels.specs.Kernels.{apart, filter_value, wide_value}
use Rattle.kernels.specs.Private.Windows.{stored_cut, adjusted, softened_four, widened_six}
use Rattle.kernels.specs.Private.Taps.{edge_sum, step_of, sum_of}
use Rattle.kernels.specs.Private.Moves.{capped, two, four, six}
use Rattle.kernels.proofs.Apart.{difference-signed, apart-sym}
use Rattle.kernels.proofs.MovedTaps.{two-cut, four-cut, six-cut}

-- ---- absolute values

abs-sub : (a b : ℕ) → nat_abs (sub_ℕ a b) ≤ a + b
abs-sub a b = pick (ltb a b) refl
  where
    pick : (t : Bool) → ltb a b ≡ t → nat_abs (cond t (negsuc (b - suc a)) (pos (a - b))) ≤ a + b
    pick true e = omega (arith, ltb-true a b e)
    pick false e = omega arith

abs-add : (x y : ℤ) → nat_abs (x +ℤ y) ≤ nat_abs x + nat_abs y
abs-add (pos a) (pos b) = le_refl (a + b)
abs-add (pos a) (negsuc b) = abs-sub a (suc b)
abs-add (negsuc a) (pos b) = omega (arith, abs-sub b (suc a))
abs-add (negsuc a) (negsuc b) = omega arith

abs_neg : (n : ℕ) → nat_abs (neg_ℤ (pos n)) ≡ n
abs_neg zero = refl
abs_neg (suc n) = refl

abs-mul : (k : ℕ) (x : ℤ) → nat_abs (pos k *ℤ x) ≡ k * nat_abs x
abs-mul k (pos n) = refl
abs-mul k (negsuc n) = abs_neg (k * suc n)

mag-abs : (x : ℤ) → mag x ≤ nat_abs x
mag-abs (pos n) = le_refl n
mag-abs (negsuc n) = omega arith

few : (v : ℤ) → nat_abs v ≤ 123 → at_most123 v ≡ v
few (pos n) h = pick (ltb n 123) refl
  where
    pick : (t : Bool) → ltb n 123 ≡ t → at_most123 (pos n) ≡ pos n
    pick true e = R.most-below (pos n) e
    pick false e = R.most-above (pos n) e ∙ ap pos (omega (arith, ltb-false n 123 e))
few (negsuc n) h = R.most-below (negsuc n) refl

three : (x y : ℤ) (d o : ℕ) → nat_abs x ≡ d → nat_abs y ≡ o → d * 4 + o ≤ 123 → nat_abs (pos 3 *ℤ x +ℤ y) ≤ 123
three x y d o e f h = omega (arith, abs-add (pos 3 *ℤ x) y, abs-mul 3 x)

small : (v : ℤ) → nat_abs v ≤ 123 → mag v < 128
small v h = omega (arith, mag-abs v)

-- ---- the filter value

module _ (w : Near) (h : edge_sum w ≤ 123) where
  abbrev d : ℤ
  d = pos w.q0 -ℤ pos w.p0

  abbrev o : ℤ
  o = pos w.p1 -ℤ pos w.q1

  -- with the outer taps, and without them
  abbrev wide : ℤ
  wide = filter_value true (u2s w.p1) (u2s w.p0) (u2s w.q0) (u2s w.q1)

  abbrev narrow : ℤ
  narrow = filter_value false (u2s w.p1) (u2s w.p0) (u2s w.q0) (u2s w.q1)

  d-is : nat_abs d ≡ apart (pos w.p0) (pos w.q0)
  unfolding apart
  d-is = apart-sym w.q0 w.p0

  o_is : nat_abs o ≡ apart (pos w.p1) (pos w.q1)
  unfolding apart
  o_is = refl

  o-few : nat_abs o ≤ 123
  o-few = omega (arith, o_is)

  step-few : nat_abs (step_of w) ≤ 123
  unfolding step_of
  step-few = omega (arith, abs-mul 3 d, d-is)

  sum-few : nat_abs (sum_of w) ≤ 123
  unfolding sum_of step_of
  sum-few = three d o (apart (pos w.p0) (pos w.q0)) (apart (pos w.p1) (pos w.q1)) d-is o_is h

  step_is : step_of w ≡ narrow
  unfolding filter_value step_of
  step_is =
      sym (ap clamp (+ℤ_idl (pos 3 *ℤ (u2s w.q0 -ℤ u2s w.p0)) ∙ ap (λ (z : ℤ). pos 3 *ℤ z) (difference-signed w.q0 w.p0))
      ∙ R.clamp-id (pos 3 *ℤ d) (small (pos 3 *ℤ d) step-few))

  sum_is : sum_of w ≡ wide
  unfolding filter_value sum_of step_of
  sum_is =
      sym (ap clamp ((λ j. clamp (difference-signed w.p1 w.q1 j) +ℤ pos 3 *ℤ difference-signed w.q0 w.p0 j)
      ∙ ap (λ (z : ℤ). z +ℤ pos 3 *ℤ d) (R.clamp-id o (small o o-few))
      ∙ +ℤ_comm o (pos 3 *ℤ d))
      ∙ R.clamp-id (pos 3 *ℤ d +ℤ o) (small (pos 3 *ℤ d +ℤ o) sum-few))

  step-capped : step_of w ≡ capped false w
  unfolding capped
  step-capped = sym (few (step_of w) step-few) ∙ ap at_most123 step_is

  sum-capped : sum_of w ≡ capped true w
  unfolding capped
  sum-capped = sym (few (sum_of w) sum-few) ∙ ap at_most123 sum_is

  -- ---- what is stored

  pub two-is : (l : List ℕ) → stored_cut 3 (two (sum_of w) w) l ≡ adjusted 8 true l w
  two-is l = ap (λ (a : ℤ). stored_cut 3 (two a w) l) sum-capped ∙ two-cut true 8 w l

  pub four-is : (l : List ℕ) → stored_cut 2 (four (step_of w) w) l ≡ softened_four l w
  four-is l = ap (λ (a : ℤ). stored_cut 2 (four a w) l) step-capped ∙ four-cut w l

pub six-is : (w : Taps) → edge_sum w.near ≤ 123 → (l : List ℕ) → stored_cut 1 (six (sum_of w.near) w) l ≡ widened_six l w
unfolding wide_value
six-is w h l = ap (λ (v : ℤ). stored_cut 1 (six v w) l) (sum_is w.near h) ∙ six-cut w l
