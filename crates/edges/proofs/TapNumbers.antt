-- Numbers of the runs: taps of 16 bits in -128..127, and what the faster arithmetic rests on.
use mathlib.Core.Path.{◌≡◌, refl, sym, ap, subst, ◌∙◌}
use mathlib.Core.Bool.{Bool, true, false, cond, ◌&&◌, ◌||◌}
use Prim.Native.Nat.{ℕ, suc, ◌+◌, ◌*◌, ◌/◌, ◌≤◌, ◌<◌, max, suc-le-suc}
use native.Mathlib.Nat.{le-max_left, le-max_right, max-le, max-eq_left, max-eq_right, le_of_lt, le_of_suc-le-suc, lt_of_lt_of_le}
use native.Mathlib.Omega.{arith}
use lib.Dec.{T, leb, ltb, leb→le, le→leb, ltb→lt, lit<}
use lib.IntN.{ℤ, pos, ◌+ℤ◌, ◌-ℤ◌, nat_abs, +ℤ-neg_ℤ_cancel, -ℤ-+ℤ_cancel}
use lib.Signed.{mag, nat_abs-le, pos-nat_abs}
use borrow.Author.Tests.{ltb-true, ltb-false, le-ltb, lt-ltb}
use mir.Syntax.{w16}
use mir.Val.{to_z, of_z}
use Rattle.std.specs.Int.{int_max}
use Rattle.arithmetic.specs.Numbers.{clamp, u2s, s2u, shr}
use Rattle.kernels.specs.Kernels.{apart, filter_value, gain_of, loss_of, part}
use Rattle.arithmetic.proofs.Ranges as R
use Rattle.edges.specs.declared.position.FourTaps.{FourTaps}
use Rattle.edges.specs.declared.position.EightTaps.{EightTaps}
use Rattle.edges.specs.Taps.{SignedFour, SignedEight}
use Rattle.edges.specs.Private.Runs.{variance, roughness, value_of}

-- ---- a tap in a local

pub tap : (z : ℤ) → mag z < 128 → R.Is w16 (of_z w16 z) z 128
tap z h = R.wrote tt refl h

pub back : (z : ℤ) → mag z < 128 → to_z w16 (of_z w16 z) ≡ z
back z h = (tap z h).val

pub stays : (z : ℤ) → mag z < 128 → mag (to_z w16 (of_z w16 z)) < 128
stays z h = subst (λ (v : ℤ). mag v < 128) (sym (back z h)) h

-- a number that is known to be z, as where a call has given it
pub known : {y z : ℤ} {A : ℕ} → R.Room w16 A → y ≡ z → mag z < A → R.Is w16 (of_z w16 y) z A
known t e h = R.wrote t e h

-- ---- samples and taps

pub s2u-of : (v : ℤ) → mag v < 128 → s2u v ≡ nat_abs (v +ℤ pos 128)
unfolding s2u
s2u-of v h = ap (λ (z : ℤ). nat_abs (z +ℤ pos 128)) (R.clamp-id v h)

pub u2s-s2u : (z : ℤ) → u2s (s2u z) ≡ clamp z
unfolding u2s s2u
u2s-s2u z =
    ap (λ (v : ℤ). v -ℤ pos 128) (pos-nat_abs (clamp z +ℤ pos 128) (R.up-non_neg (clamp z) (R.clamp-in z)))
    ∙ +ℤ-neg_ℤ_cancel (clamp z) (pos 128)

pub again : (z : ℤ) → mag z < 128 → u2s (s2u z) ≡ z
again z h = u2s-s2u z ∙ R.clamp-id z h

pub s2u-u2s : (n : ℕ) → n < 256 → s2u (u2s n) ≡ n
unfolding u2s
s2u-u2s n h = s2u-of (u2s n) (R.u2s-in n h) ∙ ap nat_abs (-ℤ-+ℤ_cancel (pos n) (pos 128))

pub s2u-byte : (z : ℤ) → s2u z < 256
unfolding s2u
s2u-byte z = R.up_lt (clamp z) (R.clamp-in z)

-- ---- distances

pub apart-most : (a b : ℤ) → mag a < 128 → mag b < 128 → apart a b < 257
unfolding apart
apart-most a b h k = omega (arith, nat_abs-le (a -ℤ b) (R.in-sub a b h k))

-- the result of `distance`
pub dist-is : (a b : ℤ) {r : ℤ} → mag a < 128 → mag b < 128 → r ≡ pos (apart (to_z w16 (of_z w16 a)) (to_z w16 (of_z w16 b))) → R.Is w16 (of_z w16 r) (pos (apart a b)) 257
dist-is a b h k e = known tt (e ∙ (λ i. pos (apart (back a h i) (back b k i)))) (apart-most a b h k)

-- ---- tests

same_test : (a b : Bool) → (T a → T b) → (T b → T a) → a ≡ b
same_test true true f g = refl
same_test true false f g = absurd (f tt)
same_test false true f g = absurd (g tt)
same_test false false f g = refl

pub max-is : (a b : ℕ) → int_max (pos a) (pos b) ≡ pos (max a b)
max-is a b = by (ltb b a) refl
  where
    by : (t : Bool) → ltb b a ≡ t → cond (ltb b a) (pos a) (pos b) ≡ pos (max a b)
    by true e = rw (e, max-eq_left (le_of_lt (ltb-true b a e)))
    by false e = rw (e, max-eq_right (ltb-false b a e))

pub max-below : (a b n : ℕ) → a < n → b < n → max a b < n
max-below a b Prim.Native.Nat.zero h k = elim h [ ]
max-below a b (suc n) h k = suc-le-suc (max-le (le_of_suc-le-suc h) (le_of_suc-le-suc k))

-- the larger of two such distances
pub max-of : {m n x y : ℕ} {r : ℤ} → R.Is w16 m (pos x) 257 → R.Is w16 n (pos y) 257 → r ≡ int_max (to_z w16 m) (to_z w16 n) → R.Is w16 (of_z w16 r) (pos (max x y)) 257
max-of {m} {n} {x} {y} p q e = known tt (e ∙ (λ i. int_max (p.val i) (q.val i)) ∙ max-is x y) (max-below x y 257 p.inr q.inr)

both : (a b : Bool) → T a → T b → T (a && b)
both true b s t = t
both false b s t = s

first : (a b : Bool) → T (a && b) → T a
first true b t = tt
first false b t = t

second : (a b : Bool) → T (a && b) → T b
second true b t = t
second false b t = absurd t

pub leb-max : (a b c : ℕ) → leb (max a b) c ≡ leb a c && leb b c
leb-max a b c =
    same_test (leb (max a b) c) (leb a c && leb b c)
    (λ t. let h : max a b ≤ c = leb→le (max a b) c t in
    both (leb a c) (leb b c) (le→leb a c (omega (arith, le-max_left a b))) (le→leb b c (omega (arith, le-max_right a b))))
    (λ t. le→leb (max a b) c (max-le (leb→le a c (first (leb a c) (leb b c) t)) (leb→le b c (second (leb a c) (leb b c) t))))

pub ltb-max : (t a b : ℕ) → ltb t (max a b) ≡ ltb t a || ltb t b
ltb-max t a b = by (ltb t a) (ltb t b) refl refl
  where
    by : (x y : Bool) → ltb t a ≡ x → ltb t b ≡ y → ltb t (max a b) ≡ x || y
    by true y e f = lt-ltb t (max a b) (lt_of_lt_of_le (ltb-true t a e) (le-max_left a b))
    by false true e f = lt-ltb t (max a b) (lt_of_lt_of_le (ltb-true t b f) (le-max_right a b))
    by false false e f = le-ltb t (max a b) (max-le (ltb-false t a e) (ltb-false t b f))

-- 4 d + d' ≤ 2 e + 1 exactly where 2 d + d' / 2 ≤ e
pub edge_test : (d d' e : ℕ) → leb (4 * d + d') (2 * e + 1) ≡ leb (d * 2 + d' / 2) e
edge_test d d' e =
    same_test (leb (4 * d + d') (2 * e + 1)) (leb (d * 2 + d' / 2) e)
    (λ t. let h : 4 * d + d' ≤ 2 * e + 1 = leb→le (4 * d + d') (2 * e + 1) t in le→leb (d * 2 + d' / 2) e (omega arith))
    (λ t. let h : d * 2 + d' / 2 ≤ e = leb→le (d * 2 + d' / 2) e t in le→leb (4 * d + d') (2 * e + 1) (omega arith))

-- the six comparisons behind one maximum
pub six-tests : (e a b c d f g : Bool) → e && (((a && b) && (d && f)) && (c && g)) ≡ e && a && b && c && d && f && g
six-tests false a b c d f g = refl
six-tests true false b c d f g = refl
six-tests true true false c d f g = refl
six-tests true true true true false f g = refl
six-tests true true true true true false g = refl
six-tests true true true true true true g = refl
six-tests true true true false false f g = refl
six-tests true true true false true false g = refl
six-tests true true true false true true g = refl

pub tests-are : (e : Bool) (a b c d f g i : ℕ) → e && leb (max (max (max a b) (max d f)) (max c g)) i ≡ e && leb a i && leb b i && leb c i && leb d i && leb f i && leb g i
tests-are e a b c d f g i =
    ap (λ (t : Bool). e && t)
    (leb-max (max (max a b) (max d f)) (max c g) i
    ∙ (λ j. (leb-max (max a b) (max d f) i ∙ (λ k. leb-max a b i k && leb-max d f i k)) j && leb-max c g i j))
    ∙ six-tests e (leb a i) (leb b i) (leb c i) (leb d i) (leb f i) (leb g i)

-- ---- ranges

pub gain-in : (a : ℤ) → mag (gain_of a) < 128
unfolding gain_of shr
gain-in a = R.in-shr 8 (clamp (a +ℤ pos 3)) (R.clamp-in _)

pub loss-in : (a : ℤ) → mag (loss_of a) < 128
unfolding loss_of shr
loss-in a = R.in-shr 8 (clamp (a +ℤ pos 4)) (R.clamp-in _)

pub part_in : (k : ℕ) (w : ℤ) → mag (part k w) < 128
unfolding part
part_in k w = R.clamp-in _

-- what a call is handed of such a local
pub within : {n : ℕ} {z : ℤ} {A : ℕ} → R.Is w16 n z A → mag (to_z w16 n) < A
within {n} {z} {A} p = subst (λ (v : ℤ). mag v < A) (sym p.val) p.inr

pub within-256 : {n : ℕ} {z : ℤ} {A : ℕ} → R.Is w16 n z A → T (leb A 256) → mag (to_z w16 n) < 256
within-256 {A} p t = lt_of_lt_of_le (within p) (leb→le A 256 t)

-- ---- what a call gives of such a local

module _ {n A : ℕ} {z r : ℤ} (p : R.Is w16 n z A) where
  pub gain-given : r ≡ gain_of (to_z w16 n) → R.Is w16 (of_z w16 r) (gain_of z) 128
  gain-given e = known tt (e ∙ ap gain_of p.val) (gain-in z)

  pub loss-given : r ≡ loss_of (to_z w16 n) → R.Is w16 (of_z w16 r) (loss_of z) 128
  loss-given e = known tt (e ∙ ap loss_of p.val) (loss-in z)

  pub part-given : (k : ℕ) → r ≡ part k (to_z w16 n) → R.Is w16 (of_z w16 r) (part k z) 128
  part-given k e = known tt (e ∙ ap (part k) p.val) (part_in k z)

  -- 0 or the number, as a test chooses
  pub zero-or : (b : Bool) → R.Room w16 A → T (ltb 0 A) → r ≡ cond b (pos 0) (to_z w16 n) → R.Is w16 (of_z w16 r) (cond b (pos 0) z) A
  zero-or b room t e = known room (e ∙ ap (cond b (pos 0)) p.val) (R.cond-in b (pos 0) z (ltb→lt 0 A t) p.inr)

  pub or-zero : (b : Bool) → R.Room w16 A → T (ltb 0 A) → r ≡ cond b (to_z w16 n) (pos 0) → R.Is w16 (of_z w16 r) (cond b z (pos 0)) A
  or-zero b room t e = known room (e ∙ ap (λ (v : ℤ). cond b v (pos 0)) p.val) (R.cond-in b z (pos 0) p.inr (ltb→lt 0 A t))

-- the results of `raised` and `lowered`
pub gained : (p : ℤ) {n A : ℕ} {a r : ℤ} → mag p < 128 → R.Is w16 n a A → r ≡ clamp (to_z w16 (of_z w16 p) +ℤ to_z w16 n) → to_z w16 (of_z w16 r) ≡ clamp (p +ℤ a)
gained p h q e = (known {A = 128} tt (e ∙ (λ i. clamp (back p h i +ℤ q.val i))) (R.clamp-in _)).val

pub lost : (p : ℤ) {n A : ℕ} {a r : ℤ} → mag p < 128 → R.Is w16 n a A → r ≡ clamp (to_z w16 (of_z w16 p) -ℤ to_z w16 n) → to_z w16 (of_z w16 r) ≡ clamp (p -ℤ a)
lost p h q e = (known {A = 128} tt (e ∙ (λ i. clamp (back p h i -ℤ q.val i))) (R.clamp-in _)).val

-- ---- of taps

pub variance-most : (s : FourTaps) → SignedFour s → variance s < 257
variance-most s h = max-below _ _ 257 (apart-most s.p1 s.p0 h.p1-in h.p0-in) (apart-most s.q1 s.q0 h.q1-in h.q0-in)

pub roughness-most : (s : EightTaps) → SignedEight s → roughness s < 257
roughness-most s h =
    max-below _ _ 257 (max-below _ _ 257 (apart-most s.p3 s.p2 h.p3-in h.p2-in) (apart-most s.p2 s.near.p1 h.p2-in h.near-in.p1-in))
    (max-below _ _ 257 (apart-most s.q3 s.q2 h.q3-in h.q2-in) (apart-most s.q2 s.near.q1 h.q2-in h.near-in.q1-in))

-- what a position moves by: the value that its test lets pass
pub chosen : {y passes : Bool} {v r : ℤ} (outer : Bool) (s : FourTaps) → y ≡ passes → v ≡ value_of outer s → r ≡ cond y (to_z w16 (of_z w16 v)) (pos 0) → R.Is w16 (of_z w16 r) (cond passes (value_of outer s) (pos 0)) 128
unfolding filter_value
chosen {passes = passes} outer s ey ev e =
    let value = (known {A = 128} tt ev (R.clamp-in _)).val in
    known tt (e ∙ (λ i. cond (ey i) (value i) (pos 0))) (R.cond-in passes (value_of outer s) (pos 0) (R.clamp-in _) (lit< tt))
