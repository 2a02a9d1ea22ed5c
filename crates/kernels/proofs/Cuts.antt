-- Samples as stored in place of signed ones: the bound 0..255, the bound 123, and the parts of w that need no bound.
-- Assumes nothing.
use Rattle.std.proofs.Common.{◌≡◌, ℕ, zero, suc, ◌+◌, ◌-◌, ◌*◌, ◌<◌, Bool, true, false, cond, ◌&&◌, T, eqb, ltb, leb, ℤ, pos, negsuc, ◌+ℤ◌, ◌-ℤ◌, ◌*ℤ◌, neg_ℤ, nat_abs, sym, refl, ap, ◌∙◌, subst, lt_of_lt_of_le, not-suc-le-zero, arith, lit<, eqb→eq, leb→le, to_z, ltb-false, ltb-true, le-ltb, lt-ltb, eqb-true, le-leb}
use Rattle.std.proofs.lemmas.Grind.{common_steps}
use mathlib.Core.Bool.{false≢true}
use lib.IntN.{sub_ℕ, +ℤ_assoc, +ℤ_comm, -ℤ-+ℤ_cancel}
use Rattle.std.specs.Int.{int_min, int_max}
use lib.Signed.{mag, lt_z, non_neg, shr_z}
use borrow.Author.Tests.{eqb-false}
use mir.Syntax.{Width}
use Rattle.arithmetic.specs.Numbers.{clamp, u2s, s2u, shr, at_most123}
use Rattle.kernels.specs.Kernels.{gain_of, loss_of, part}
use Rattle.kernels.specs.Private.Windows.{in_byte, cut}
use Rattle.arithmetic.proofs.Ranges as R

-- ---- the bound 0..255

pub cut_low : (v : ℤ) → lt_z v (pos 0) ≡ true → cut v ≡ 0
unfolding cut
cut_low v e = rw e

pub cut-mid : (v : ℤ) → lt_z v (pos 0) ≡ false → lt_z v (pos 256) ≡ true → cut v ≡ nat_abs v
unfolding cut
cut-mid v e f = rw (e, f)

pub cut_high : (v : ℤ) → lt_z v (pos 0) ≡ false → lt_z v (pos 256) ≡ false → cut v ≡ 255
unfolding cut
cut_high v e f = rw (e, f)

byte_limits : (v : ℤ) → int_max (pos 0) (int_min v (pos 255)) ≡ pos (cut v)
unfolding cut
byte_limits (pos n) = grind (arith, common_steps)
byte_limits (negsuc n) = grind (arith, common_steps)

-- as std computes it
pub cut-is : (v : ℤ) → nat_abs (int_max (pos 0) (int_min v (pos 255))) ≡ cut v
cut-is v = ap nat_abs (byte_limits v)

-- a number that needs no cut
pub record Plain (v : ℤ) : Type 0 where
  pub sign : T (non_neg v)
  pub size : nat_abs v < 256
  pub same : nat_abs v ≡ cut v

pub plain : (v : ℤ) → lt_z v (pos 0) ≡ false → lt_z v (pos 256) ≡ true → Plain v
plain (pos n) e f = record { sign = tt; size = ltb-true n 256 f; same = sym (cut-mid (pos n) e f) }
plain (negsuc n) e f = absurd (subst T e tt)

pub in-byte : (v : ℤ) → in_byte v ≡ true → Plain v
unfolding in_byte
in-byte (pos n) e = plain (pos n) (le-ltb n 0 (omega arith)) (sym (ap (λ (t : Bool). t && ltb n 256) (le-leb 0 n (omega arith))) ∙ e)
in-byte (negsuc n) e = absurd (subst (λ (t : Bool). T (cond t false true)) e tt)

-- such a number in a local, cast to a byte; and the tests that say so, joined
module _ {w : Width} {n : ℕ} {z : ℤ} {A : ℕ} (p : R.Is w n z A) where
  pub told : {f : Bool} → f ≡ in_byte (to_z w n) → f ≡ true → Plain z
  told e t = in-byte z (sym (e ∙ ap in_byte p.val) ∙ t)

  pub byte : Plain z → nat_abs (to_z w n) ≡ cut z
  byte h = ap nat_abs p.val ∙ h.same

pub join : {f g : Bool} {P Q : Type 0} → (f ≡ true → P) → (g ≡ true → Q) → (f && g) ≡ true → P × Q
join {f = true} {g = true} p q t = (p refl, q refl)
join {f = true} {g = false} p q t = absurd (false≢true t)
join {f = false} p q t = absurd (false≢true t)

-- what a list is after a store that answers whether it was made
pub was-stored : {X : Type 0} {m : X} (r : Bool) (x l : X) → m ≡ cond r x l → r ≡ true → m ≡ x
was-stored r x l e t = e ∙ ap (λ (u : Bool). cond u x l) t

-- s2u limits v to -128..127 and adds 128
s2u-cut : (v : ℤ) → s2u v ≡ cut (v +ℤ pos 128)
unfolding s2u
s2u-cut (pos n) = pick (ltb n 128) refl
  where
    pick : (t : Bool) → ltb n 128 ≡ t → nat_abs (clamp (pos n) +ℤ pos 128) ≡ cut (pos (n + 128))
    pick true e =
        ap (λ (z : ℤ). nat_abs (z +ℤ pos 128)) (R.clamp-mid (pos n) refl e)
        ∙ sym (cut-mid (pos (n + 128)) (le-ltb (n + 128) 0 (omega arith)) (lt-ltb (n + 128) 256 (omega (arith, ltb-true n 128 e))))
    pick false e =
        ap (λ (z : ℤ). nat_abs (z +ℤ pos 128)) (R.clamp-high (pos n) refl e)
        ∙ sym (cut_high (pos (n + 128)) (le-ltb (n + 128) 0 (omega arith)) (le-ltb (n + 128) 256 (omega (arith, ltb-false n 128 e))))
s2u-cut (negsuc n) = pick (ltb 127 n) refl
  where
    pick : (t : Bool) → ltb 127 n ≡ t → nat_abs (clamp (negsuc n) +ℤ pos 128) ≡ cut (sub_ℕ 128 (suc n))
    pick true e =
        ap (λ (z : ℤ). nat_abs (z +ℤ pos 128)) (R.clamp-low (negsuc n) e)
        ∙ sym (ap (λ (t : Bool). cut (cond t (negsuc (suc n - suc 128)) (pos (128 - suc n)))) (lt-ltb 128 (suc n) (omega (arith, ltb-true 127 n e)))
        ∙ cut_low (negsuc (suc n - suc 128)) refl)
    pick false e =
        let below : ltb 128 (suc n) ≡ false = le-ltb 128 (suc n) (omega (arith, ltb-false 127 n e)) in
        ap (λ (z : ℤ). nat_abs (z +ℤ pos 128)) (R.clamp-mid (negsuc n) e refl)
        ∙ ap (λ (t : Bool). nat_abs (cond t (negsuc (suc n - suc 128)) (pos (128 - suc n)))) below
        ∙ sym (ap (λ (t : Bool). cut (cond t (negsuc (suc n - suc 128)) (pos (128 - suc n)))) below
        ∙ cut-mid (pos (128 - suc n)) (le-ltb (128 - suc n) 0 (omega arith)) (lt-ltb (128 - suc n) 256 (omega arith)))

-- the sample p after its signed number changes by a
pub moved : (p : ℕ) (a : ℤ) → cut (pos p +ℤ a) ≡ s2u (u2s p +ℤ a)
unfolding u2s
moved p a =
    ap cut (sym (+ℤ_assoc (pos p -ℤ pos 128) a (pos 128) ∙ ap (λ (z : ℤ). (pos p -ℤ pos 128) +ℤ z) (+ℤ_comm a (pos 128)) ∙ sym (+ℤ_assoc (pos p -ℤ pos 128) (pos 128) a)
    ∙ ap (λ (z : ℤ). z +ℤ a) (-ℤ-+ℤ_cancel (pos p) (pos 128))))
    ∙ sym (s2u-cut ((pos p -ℤ pos 128) +ℤ a))

-- the same of a local that holds p changed by a
pub raised : {w : Width} {n : ℕ} {A : ℕ} (p : ℕ) {a b : ℤ} → a ≡ b → R.Is w n (pos p +ℤ a) A → cut (to_z w n) ≡ s2u (u2s p +ℤ b)
raised p {a} e i = ap cut i.val ∙ moved p a ∙ ap (λ (z : ℤ). s2u (u2s p +ℤ z)) e

pub lowered : {w : Width} {n : ℕ} {A : ℕ} (p : ℕ) {a b : ℤ} → a ≡ b → R.Is w n (pos p -ℤ a) A → cut (to_z w n) ≡ s2u (u2s p -ℤ b)
lowered p {a} e i = ap cut i.val ∙ moved p (neg_ℤ a) ∙ ap (λ (z : ℤ). s2u (u2s p -ℤ z)) e

-- ---- the bound 123, over all signed bytes

-- f holds at each number below n
abbrev pub all : (ℕ → Bool) → ℕ → Bool
all f zero = true
all f (suc n) = f n && all f n

first : (a b : Bool) → T (a && b) → T a
first true b t = tt
first false b t = t

rest : (a b : Bool) → T (a && b) → T b
rest true b t = t
rest false b t = absurd t

pub all-at : (f : ℕ → Bool) (n : ℕ) → T (all f n) → (k : ℕ) → k < n → T (f k)
all-at f zero t k h = absurd (not-suc-le-zero h)
all-at f (suc n) t k h = pick (all-at f n (rest (f n) (all f n) t) k) (eqb k n) refl
  where
    pick : (k < n → T (f k)) → (b : Bool) → eqb k n ≡ b → T (f k)
    pick g true e = subst (λ (m : ℕ). T (f m)) (sym (eqb-true k n e)) (first (f n) (all f n) t)
    pick g false e = let ne : k ≡ n → ⊥ = eqb-false k n e in g (omega arith)

-- integers compared
abbrev eq_z : ℤ → ℤ → Bool
eq_z (pos a) (pos b) = eqb a b
eq_z (pos a) (negsuc b) = false
eq_z (negsuc a) (pos b) = false
eq_z (negsuc a) (negsuc b) = eqb a b

eq_z-eq : (x y : ℤ) → T (eq_z x y) → x ≡ y
eq_z-eq (pos a) (pos b) t = ap pos (eqb→eq a b t)
eq_z-eq (pos a) (negsuc b) t = absurd t
eq_z-eq (negsuc a) (pos b) t = absurd t
eq_z-eq (negsuc a) (negsuc b) t = ap negsuc (eqb→eq a b t)

-- two functions that agree on each of -128..127
agree : (f g : ℤ → ℤ) → T (all (λ n. eq_z (f (pos n)) (g (pos n))) 128) → T (all (λ n. eq_z (f (negsuc n)) (g (negsuc n))) 128) → (a : ℤ) → mag a < 128 → f a ≡ g a
agree f g t u (pos n) h = eq_z-eq (f (pos n)) (g (pos n)) (all-at (λ k. eq_z (f (pos k)) (g (pos k))) 128 t n h)
agree f g t u (negsuc n) h = eq_z-eq (f (negsuc n)) (g (negsuc n)) (all-at (λ k. eq_z (f (negsuc k)) (g (negsuc k))) 128 u n h)

pub gain-is : (a : ℤ) → mag a < 128 → shr_z (at_most123 a +ℤ pos 3) 8 ≡ gain_of a
unfolding at_most123 gain_of shr clamp
gain-is = agree (λ a. shr_z (at_most123 a +ℤ pos 3) 8) gain_of tt tt

pub loss-is : (a : ℤ) → mag a < 128 → shr_z (at_most123 a +ℤ pos 4) 8 ≡ loss_of a
unfolding at_most123 loss_of shr clamp
loss-is = agree (λ a. shr_z (at_most123 a +ℤ pos 4) 8) loss_of tt tt

-- half of the loss, rounded up
pub half_is : (a : ℤ) → mag a < 128 → shr_z (at_most123 a +ℤ pos 12) 16 ≡ shr (loss_of a +ℤ pos 1) 1
unfolding at_most123 loss_of shr clamp
half_is = agree (λ a. shr_z (at_most123 a +ℤ pos 12) 16) (λ a. shr (loss_of a +ℤ pos 1) 1) tt tt

-- ---- the parts of w

pub part_small : (k : ℕ) (v : ℤ) {A : ℕ} → mag (pos k *ℤ v +ℤ pos 63) < A → T (leb A (128 * 128)) → shr_z (pos k *ℤ v +ℤ pos 63) 128 ≡ part k v
unfolding part shr
part_small k v {A} h t =
    sym (R.clamp-id (shr_z (pos k *ℤ v +ℤ pos 63) 128) (R.in-shr-by 128 128 (pos k *ℤ v +ℤ pos 63) (lit< tt) (lt_of_lt_of_le h (leb→le A (128 * 128) t))))

pub part-is : {w : Width} {n : ℕ} (k : ℕ) (v : ℤ) {A : ℕ} → R.Is w n (pos k *ℤ v +ℤ pos 63) A → T (leb A (128 * 128)) → shr_z (pos k *ℤ v +ℤ pos 63) 128 ≡ part k v
part-is k v p t = part_small k v p.inr t
