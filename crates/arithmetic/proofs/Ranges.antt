-- Signed machine numbers in ranges: a local of width w that holds the bits n of an integer z with `mag z < A`, that is -A ≤ z < A.
-- Each operation takes what is known of its operands to what is known of its result, and to what the machine asks.
-- Assumes nothing.
use mathlib.Core.Path.{◌≡◌, refl, sym, ap, subst, ◌∙◌}
use mathlib.Core.Bool.{Bool, true, false, cond}
use Prim.Native.Nat.{ℕ, zero, suc, ◌+◌, ◌-◌, ◌*◌, ◌^◌, ◌≤◌, ◌<◌}
use native.Mathlib.Nat.{lt_of_lt_of_le, lt_of_le_of_lt, mul-le-mul_left, mul-le-mul_right, mul-suc, suc-mul, le_refl, le_trans, le_of_lt, div-lt_iff_lt-mul}
use native.Mathlib.Omega.{arith}
use lib.Dec.{T, leb, ltb, leb→le, ltb→lt, lit<}
use lib.IntN.{ℤ, pos, negsuc, neg_ℤ, sub_ℕ, ◌+ℤ◌, ◌-ℤ◌, ◌*ℤ◌, nat_abs}
use lib.Signed.{mag, lt_z, non_neg, shr_z, mag_shr}
use borrow.Author.Tests.{ltb-true, ltb-false, le-ltb, lt-ltb}
use mir.Syntax.{Width, w64}
use mir.Val.{bits, hbits, Fits, SFits, to_z, of_z}
use mir.Facts.{to_z-of_z, to_z_pos}
use Rattle.arithmetic.specs.Numbers.{clamp, u2s, at_most123, within255}

-- ---- magnitudes
pub sub_by : (b : Bool) (x y : ℤ) (N : ℕ) → (b ≡ true → mag x < N) → (b ≡ false → mag y < N) → mag (cond b x y) < N
sub_by true x y N f g = f refl
sub_by false x y N f g = g refl

pub mag-sub : (a b N : ℕ) → (a < b → b - suc a < N) → (b ≤ a → a - b < N) → mag (sub_ℕ a b) < N
mag-sub a b N f g = sub_by (ltb a b) (negsuc (b - suc a)) (pos (a - b)) N (λ e. f (ltb-true a b e)) (λ e. g (ltb-false a b e))

pub in-add : (x y : ℤ) {A B : ℕ} → mag x < A → mag y < B → mag (x +ℤ y) < A + B
in-add (pos a) (pos b) h k = omega arith
in-add (pos a) (negsuc b) {A} {B} h k = mag-sub a (suc b) (A + B) (λ p. omega arith) (λ p. omega arith)
in-add (negsuc a) (pos b) {A} {B} h k = mag-sub b (suc a) (A + B) (λ p. omega arith) (λ p. omega arith)
in-add (negsuc a) (negsuc b) h k = omega arith

pub in-sub : (x y : ℤ) {A B : ℕ} → mag x < A → mag y < B → mag (x -ℤ y) < A + B
in-sub (pos a) (pos zero) h k = omega arith
in-sub (negsuc a) (pos zero) {A} {B} h k = mag-sub zero (suc a) (A + B) (λ p. omega arith) (λ p. omega arith)
in-sub (pos a) (pos (suc b)) {A} {B} h k = mag-sub a (suc b) (A + B) (λ p. omega arith) (λ p. omega arith)
in-sub (negsuc a) (pos (suc b)) h k = omega arith
in-sub (pos a) (negsuc b) h k = omega arith
in-sub (negsuc a) (negsuc b) {A} {B} h k = mag-sub (suc b) (suc a) (A + B) (λ p. omega arith) (λ p. omega arith)

mag-neg-pos : (n N : ℕ) → n ≤ N → 0 < N → mag (neg_ℤ (pos n)) < N
mag-neg-pos zero N h k = k
mag-neg-pos (suc n) N h k = h

mul-pos : (k A : ℕ) → 0 < k → 0 < A → 0 < k * A
mul-pos zero A h i = elim h [ ]
mul-pos (suc k) zero h i = elim i [ ]
mul-pos (suc k) (suc A) h i = omega (arith, mul-le-mul_left (suc k) i)

pub in-mul : (k : ℕ) (x : ℤ) {A : ℕ} → T (ltb 0 k) → mag x < A → mag (pos k *ℤ x) < k * A
in-mul k (pos a) {A} t h = omega (arith, ltb→lt 0 k t, mul-le-mul_left k h, mul-suc k a)
in-mul k (negsuc a) {A} t h = mag-neg-pos (k * suc a) (k * A) (mul-le-mul_left k h) (mul-pos k A (ltb→lt 0 k t) (omega arith))

pub in-shr : (m : ℕ) (x : ℤ) {A : ℕ} → mag x < A → mag (shr_z x m) < A
in-shr m x h = lt_of_le_of_lt (mag_shr x m) h

-- ---- a local
-- the bits n of width w are those of z, and -A ≤ z < A
pub record Is (w : Width) (n : ℕ) (z : ℤ) (A : ℕ) : Type 0 where
  pub val : to_z w n ≡ z
  pub inr : mag z < A

-- A is within the width's range
abbrev pub Room : Width → ℕ → Type 0
Room w A = T (leb A (2 ^ hbits w))

pub sf : {w : Width} {z : ℤ} {A : ℕ} → Room w A → mag z < A → SFits w z
sf {w} {z} {A} t h = record { sfits = lt_of_lt_of_le h (leb→le A (2 ^ hbits w) t) }

-- what is written reads back
pub wrote : {w : Width} {y z : ℤ} {A : ℕ} → Room w A → y ≡ z → mag z < A → Is w (of_z w y) z A
wrote {w} {y} {z} {A} t e h = record { val = ap (λ (v : ℤ). to_z w (of_z w v)) e ∙ to_z-of_z (sf t h); inr = h }

asks : {w : Width} {y z : ℤ} {A : ℕ} → Room w A → y ≡ z → mag z < A → SFits w y
asks {w} t e h = subst (SFits w) (sym e) (sf t h)

-- a parameter, or a call's result
pub held : {w : Width} {z : ℤ} → SFits w z → Is w (of_z w z) z (2 ^ hbits w)
held f = record { val = to_z-of_z f; inr = f.sfits }

pub gave : {w : Width} {r z : ℤ} → mag r < 2 ^ hbits w → r ≡ z → Is w (of_z w r) z (2 ^ hbits w)
gave {w} {r} {z} h e = record { val = to_z-of_z (record { sfits = h }) ∙ e; inr = subst (λ (v : ℤ). mag v < 2 ^ hbits w) e h }

module _ {w : Width} {m n : ℕ} {x y : ℤ} {A B : ℕ} (p : Is w m x A) (q : Is w n y B) where
  pub add : Room w (A + B) → Is w (of_z w (to_z w m +ℤ to_z w n)) (x +ℤ y) (A + B)
  add t = wrote t (λ i. p.val i +ℤ q.val i) (in-add x y p.inr q.inr)

  pub add? : Room w (A + B) → SFits w (to_z w m +ℤ to_z w n)
  add? t = asks t (λ i. p.val i +ℤ q.val i) (in-add x y p.inr q.inr)

  pub sub : Room w (A + B) → Is w (of_z w (to_z w m -ℤ to_z w n)) (x -ℤ y) (A + B)
  sub t = wrote t (λ i. p.val i -ℤ q.val i) (in-sub x y p.inr q.inr)

module _ (k : ℕ) {w : Width} {n : ℕ} {x : ℤ} {A : ℕ} (p : Is w n x A) (t : T (ltb 0 k)) (r : Room w (k * A)) where
  pub mul : Is w (of_z w (pos k *ℤ to_z w n)) (pos k *ℤ x) (k * A)
  mul = wrote r (λ i. pos k *ℤ p.val i) (in-mul k x t p.inr)

  pub mul? : SFits w (pos k *ℤ to_z w n)
  mul? = asks r (λ i. pos k *ℤ p.val i) (in-mul k x t p.inr)

module _ (m : ℕ) {w : Width} {n : ℕ} {x : ℤ} {A : ℕ} (p : Is w n x A) (r : Room w A) where
  pub shr : Is w (of_z w (shr_z (to_z w n) m)) (shr_z x m) A
  shr = wrote r (λ i. shr_z (p.val i) m) (in-shr m x p.inr)

module _ {w w' : Width} {n : ℕ} {x : ℤ} {A : ℕ} (p : Is w n x A) (r : Room w' A) where
  pub cast : Is w' (of_z w' (to_z w n)) x A
  cast = wrote r p.val p.inr

  pub cast? : SFits w' (to_z w n)
  cast? = asks r p.val p.inr

-- an unsigned number below A, cast to a signed width
pub of_u : (w : Width) {n A : ℕ} → Room w A → n < A → Is w n (pos n) A
of_u w {n} {A} r h = record { val = to_z_pos w (lt_of_lt_of_le h (leb→le A (2 ^ hbits w) r)); inr = h }

pub sample : {n : ℕ} → n < 256 → Is w64 n (pos n) 256
sample h = of_u w64 tt h

-- a literal: `lit 128 tt`, and of a negative one `lit_neg`
pub lit : (w : Width) (n : ℕ) → Room w (suc n) → Is w n (pos n) (suc n)
lit w n r = of_u w r (le_refl (suc n))

-- ---- the clamp
pub clamp-low : (v : ℤ) → lt_z v (negsuc 127) ≡ true → clamp v ≡ negsuc 127
unfolding clamp
clamp-low v e = rw e

pub clamp-mid : (v : ℤ) → lt_z v (negsuc 127) ≡ false → lt_z v (pos 128) ≡ true → clamp v ≡ v
unfolding clamp
clamp-mid v e f = rw (e, f)

pub clamp-high : (v : ℤ) → lt_z v (negsuc 127) ≡ false → lt_z v (pos 128) ≡ false → clamp v ≡ pos 127
unfolding clamp
clamp-high v e f = rw (e, f)

pub mid-in : (v : ℤ) → lt_z v (negsuc 127) ≡ false → lt_z v (pos 128) ≡ true → mag v < 128
mid-in (pos n) e f = ltb-true n 128 f
mid-in (negsuc n) e f = omega (arith, ltb-false 127 n e)

pub clamp-in : (v : ℤ) → mag (clamp v) < 128
unfolding clamp
clamp-in v = sub_by (lt_z v (negsuc 127)) (negsuc 127) (cond (lt_z v (pos 128)) v (pos 127)) 128 (λ e. lit< tt) (λ e. sub_by (lt_z v (pos 128)) v (pos 127) 128 (λ f. mid-in v e f) (λ f. lit< tt))

pub clamp-id : (v : ℤ) → mag v < 128 → clamp v ≡ v
clamp-id (pos n) h = clamp-mid (pos n) refl (lt-ltb n 128 h)
clamp-id (negsuc n) h = clamp-mid (negsuc n) (le-ltb 127 n (omega arith)) refl

-- ---- bytes
pub tighten : {w : Width} {n : ℕ} {z : ℤ} {A B : ℕ} → Is w n z A → mag z < B → Is w n z B
tighten p h = record { val = p.val; inr = h }

pub u2s-in : (n : ℕ) → n < 256 → mag (u2s n) < 128
unfolding u2s
u2s-in n h = mag-sub n 128 128 (λ p. omega arith) (λ p. omega arith)

pub difference-in : (a b : ℕ) → a < 256 → b < 256 → mag (u2s a -ℤ u2s b) < 256
difference-in a b h k = in-sub (u2s a) (u2s b) (u2s-in a h) (u2s-in b k)

pub up-non_neg : (z : ℤ) → mag z < 128 → T (non_neg (z +ℤ pos 128))
up-non_neg (pos n) h = tt
up-non_neg (negsuc n) h = subst (λ (b : Bool). T (non_neg (cond b (negsuc (suc n - suc 128)) (pos (128 - suc n))))) (sym (le-ltb 128 (suc n) h)) tt

pub up_lt : (z : ℤ) → mag z < 128 → nat_abs (z +ℤ pos 128) < 256
up_lt (pos n) h = omega arith
up_lt (negsuc n) h = subst (λ (b : Bool). nat_abs (cond b (negsuc (suc n - suc 128)) (pos (128 - suc n))) < 256) (sym (le-ltb 128 (suc n) h)) (omega arith)

-- a local whose number is not negative, cast to an unsigned width
pub cast_u? : {w : Width} {n : ℕ} {z : ℤ} {A : ℕ} (w' : Width) → Is w n z A → T (non_neg z) → nat_abs z < 2 ^ bits w' → T (non_neg (to_z w n)) × Fits w' (nat_abs (to_z w n))
cast_u? w' p t h = (subst (λ (v : ℤ). T (non_neg v)) (sym p.val) t, subst (λ (v : ℤ). Fits w' (nat_abs v)) (sym p.val) (record { fits = h }))

-- ---- the callees' results
-- a call's result whose number has a range of its own
pub got : {w : Width} {r z : ℤ} {A : ℕ} → mag r < 2 ^ hbits w → r ≡ z → mag z < A → Is w (of_z w r) z A
got h e i = tighten (gave h e) i

-- a product with an unsigned factor
pub in-mul_u : (k : ℕ) (x : ℤ) {K A : ℕ} → k < K → mag x < A → mag (pos k *ℤ x) < K * A
in-mul_u k (pos a) {K} {A} h g = omega (arith, mul-le-mul_right a h, mul-le-mul_left K g, mul-suc K a, suc-mul k a, mul-suc-pos K A h g)
  where
    mul-suc-pos : (K A : ℕ) → k < K → a < A → 0 < K * A
    mul-suc-pos K A h g = mul-pos K A (omega arith) (omega arith)
in-mul_u k (negsuc a) {K} {A} h g =
    mag-neg-pos (k * suc a) (K * A) (le_trans (mul-le-mul_right (suc a) (le_of_lt h)) (mul-le-mul_left K g)) (mul-pos K A (omega arith) (omega arith))

module _ {w : Width} {m n k : ℕ} {x : ℤ} {K A : ℕ} (p : Is w m (pos k) K) (q : Is w n x A) (r : Room w (K * A)) where
  pub mul_u : Is w (of_z w (to_z w m *ℤ to_z w n)) (pos k *ℤ x) (K * A)
  mul_u = wrote r (λ i. p.val i *ℤ q.val i) (in-mul_u k x p.inr q.inr)

-- a shift that narrows the range
pub in-shr-by : (m A : ℕ) (x : ℤ) → 0 < m → mag x < A * m → mag (shr_z x m) < A
in-shr-by m A (pos n) k h = (div-lt_iff_lt-mul k).1 h
in-shr-by m A (negsuc n) k h = (div-lt_iff_lt-mul k).1 h

-- the lesser of a number and 123
pub most-below : (v : ℤ) → lt_z v (pos 123) ≡ true → at_most123 v ≡ v
unfolding at_most123
most-below v e = rw e

pub most-above : (v : ℤ) → lt_z v (pos 123) ≡ false → at_most123 v ≡ pos 123
unfolding at_most123
most-above v e = rw e

pub most-in : (v : ℤ) → mag v < 128 → mag (at_most123 v) < 128
unfolding at_most123
most-in v h = sub_by (lt_z v (pos 123)) v (pos 123) 128 (λ e. h) (λ e. lit< tt)

-- one of two numbers
pub cond-in : (b : Bool) (x y : ℤ) {N : ℕ} → mag x < N → mag y < N → mag (cond b x y) < N
cond-in true x y h k = h
cond-in false x y h k = k

-- ---- three times a difference, which may be limited first

clamp-top : (n : ℕ) → 127 ≤ n → clamp (pos n) ≡ pos 127
clamp-top n h = pick (ltb n 128) refl
  where
    pick : (t : Bool) → ltb n 128 ≡ t → clamp (pos n) ≡ pos 127
    pick true e = clamp-mid (pos n) refl e ∙ ap pos (omega (arith, ltb-true n 128 e))
    pick false e = clamp-high (pos n) refl e

clamp-bottom : (n : ℕ) → 127 ≤ n → clamp (negsuc n) ≡ negsuc 127
clamp-bottom n h = pick (ltb 127 n) refl
  where
    pick : (t : Bool) → ltb 127 n ≡ t → clamp (negsuc n) ≡ negsuc 127
    pick true e = clamp-low (negsuc n) e
    pick false e = clamp-mid (negsuc n) e refl ∙ ap negsuc (omega (arith, ltb-false 127 n e))

-- a sum of x and a number that settles it
far-up : (x : ℤ) (m : ℕ) → mag x < 128 → 255 ≤ m → clamp (x +ℤ pos m) ≡ pos 127
far-up (pos a) m h k = clamp-top (a + m) (omega arith)
far-up (negsuc a) m h k =
    ap (λ (t : Bool). clamp (cond t (negsuc (suc a - suc m)) (pos (m - suc a)))) (le-ltb m (suc a) (omega arith)) ∙ clamp-top (m - suc a) (omega arith)

far-down : (x : ℤ) (m : ℕ) → mag x < 128 → 254 ≤ m → clamp (x +ℤ negsuc m) ≡ negsuc 127
far-down (pos a) m h k =
    ap (λ (t : Bool). clamp (cond t (negsuc (suc m - suc a)) (pos (a - suc m)))) (lt-ltb a (suc m) (omega arith)) ∙ clamp-bottom (suc m - suc a) (omega arith)
far-down (negsuc a) m h k = clamp-bottom (suc (a + m)) (omega arith)

pub within_low : (v : ℤ) → lt_z v (negsuc 254) ≡ true → within255 v ≡ negsuc 254
unfolding within255
within_low v e = rw e

pub within-mid : (v : ℤ) → lt_z v (negsuc 254) ≡ false → lt_z v (pos 256) ≡ true → within255 v ≡ v
unfolding within255
within-mid v e f = rw (e, f)

pub within-high : (v : ℤ) → lt_z v (negsuc 254) ≡ false → lt_z v (pos 256) ≡ false → within255 v ≡ pos 255
unfolding within255
within-high v e f = rw (e, f)

pub within_in : (v : ℤ) → mag (within255 v) < 256
unfolding within255
within_in v = sub_by (lt_z v (negsuc 254)) (negsuc 254) (cond (lt_z v (pos 256)) v (pos 255)) 256 (λ e. lit< tt) (λ e. sub_by (lt_z v (pos 256)) v (pos 255) 256 (λ f. mid v e f) (λ f. lit< tt))
  where
    mid : (v : ℤ) → lt_z v (negsuc 254) ≡ false → lt_z v (pos 256) ≡ true → mag v < 256
    mid (pos n) e f = ltb-true n 256 f
    mid (negsuc n) e f = omega (arith, ltb-false 254 n e)

pub limited-first : (x d : ℤ) → mag x < 128 → clamp (x +ℤ pos 3 *ℤ within255 d) ≡ clamp (x +ℤ pos 3 *ℤ d)
limited-first x (pos n) h = pick (ltb n 256) refl
  where
    pick : (t : Bool) → ltb n 256 ≡ t → clamp (x +ℤ pos 3 *ℤ within255 (pos n)) ≡ clamp (x +ℤ pos 3 *ℤ pos n)
    pick true e = ap (λ (v : ℤ). clamp (x +ℤ pos 3 *ℤ v)) (within-mid (pos n) refl e)
    pick false e =
        ap (λ (v : ℤ). clamp (x +ℤ pos 3 *ℤ v)) (within-high (pos n) refl e)
        ∙ far-up x 765 h (leb→le 255 765 tt) ∙ sym (far-up x (3 * n) h (omega (arith, ltb-false n 256 e)))
limited-first x (negsuc n) h = pick (ltb 254 n) refl
  where
    three : pos 3 *ℤ negsuc n ≡ negsuc (3 * n + 2)
    three = let e : 3 * suc n ≡ suc (3 * n + 2) = omega arith in ap (λ (k : ℕ). neg_ℤ (pos k)) e

    pick : (t : Bool) → ltb 254 n ≡ t → clamp (x +ℤ pos 3 *ℤ within255 (negsuc n)) ≡ clamp (x +ℤ pos 3 *ℤ negsuc n)
    pick true e =
        ap (λ (v : ℤ). clamp (x +ℤ pos 3 *ℤ v)) (within_low (negsuc n) e)
        ∙ far-down x 764 h (leb→le 254 764 tt) ∙ sym (ap (λ (v : ℤ). clamp (x +ℤ v)) three ∙ far-down x (3 * n + 2) h (omega (arith, ltb-true 254 n e)))
    pick false e = ap (λ (v : ℤ). clamp (x +ℤ pos 3 *ℤ v)) (within-mid (negsuc n) e refl)
