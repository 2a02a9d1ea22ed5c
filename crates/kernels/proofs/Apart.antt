-- Distances of samples: on the samples as stored they are those of the signed samples.
-- Assumes nothing.
use Rattle.std.proofs.Common.{◌≡◌, ℕ, zero, suc, ◌+◌, ◌-◌, ◌*◌, ◌/◌, ◌%◌, ◌^◌, ◌<◌, ◌≤◌, Bool, true, false, cond, not, ◌&&◌, ◌||◌, ltb, leb, ◌⊎◌, ℤ, pos, negsuc, ◌+ℤ◌, ◌-ℤ◌, neg_ℤ, nat_abs, sym, refl, ap, ◌∙◌, inl, inr, arith, ltb-false, ltb-true, le-ltb, lt-ltb, le-leb, leb-false, leb-true}
use lib.IntN.{sub_ℕ, neg_ℤ-+ℤ, neg_ℤ-neg_ℤ, +ℤ_assoc, +ℤ_comm, +ℤ-neg_ℤ_cancel}
use borrow.Author.Tests.{lt-leb}
use Rattle.arithmetic.specs.Numbers.{u2s}
use Rattle.kernels.specs.Kernels.{apart, edge_value, simple_yes, filter_yes, hev, segment_yes, segment_hev}
use Rattle.kernels.specs.Private.Windows.{neighbours_near, low_variance}

pub pos-sub : (a b : ℕ) → pos a -ℤ pos b ≡ sub_ℕ a b
pos-sub a zero = ap pos (omega arith) ∙ sym (ap (λ (t : Bool). cond t (negsuc (0 - suc a)) (pos (a - 0))) (le-ltb a 0 (omega arith)))
pos-sub a (suc b) = refl

pub apart_below : (a b : ℕ) → a < b → apart (pos a) (pos b) ≡ b - a
unfolding apart
apart_below a b h = ap nat_abs (pos-sub a b) ∙ ap (λ (t : Bool). nat_abs (cond t (negsuc (b - suc a)) (pos (a - b)))) (lt-ltb a b h) ∙ omega arith

pub apart_above : (a b : ℕ) → b ≤ a → apart (pos a) (pos b) ≡ a - b
unfolding apart
apart_above a b h = ap nat_abs (pos-sub a b) ∙ ap (λ (t : Bool). nat_abs (cond t (negsuc (b - suc a)) (pos (a - b)))) (le-ltb a b h)

-- a and b stand n apart, in either order
abbrev Ends : ℕ → ℕ → ℕ → Type 0
Ends a b n = (b ≡ a + n) ⊎ (a ≡ b + n)

ends : (a b : ℕ) → Ends a b (apart (pos a) (pos b))
ends a b = pick (ltb a b) refl
  where
    pick : (s : Bool) → ltb a b ≡ s → Ends a b (apart (pos a) (pos b))
    pick true q = let h : a < b = ltb-true a b q in inl (omega (arith, apart_below a b h))
    pick false q = let h : b ≤ a = ltb-false a b q in inr (omega (arith, apart_above a b h))

-- differences that are cut at 0
pub apart-both : (a b : ℕ) → apart (pos a) (pos b) ≡ (a - b) + (b - a)
apart-both a b = pick (ends a b)
  where
    pick : Ends a b (apart (pos a) (pos b)) → apart (pos a) (pos b) ≡ (a - b) + (b - a)
    pick (inl e) = omega arith
    pick (inr e) = omega arith

pub apart-sym : (a b : ℕ) → apart (pos a) (pos b) ≡ apart (pos b) (pos a)
apart-sym a b = omega (arith, apart-both a b, apart-both b a)

pub triangle : (a b c : ℕ) → apart (pos a) (pos c) ≤ apart (pos a) (pos b) + apart (pos b) (pos c)
triangle a b c = omega (arith, apart-both a b, apart-both b c, apart-both a c)

-- a difference does not change where both numbers lose the same
sub-both : (a b k : ℤ) → (a -ℤ k) -ℤ (b -ℤ k) ≡ a -ℤ b
sub-both a b k =
    ap (λ (z : ℤ). (a -ℤ k) +ℤ z) (neg_ℤ-+ℤ b (neg_ℤ k) ∙ ap (λ (z : ℤ). neg_ℤ b +ℤ z) (neg_ℤ-neg_ℤ k))
    ∙ +ℤ_assoc a (neg_ℤ k) (neg_ℤ b +ℤ k)
    ∙ ap (λ (z : ℤ). a +ℤ z) (+ℤ_comm (neg_ℤ k) (neg_ℤ b +ℤ k) ∙ +ℤ-neg_ℤ_cancel (neg_ℤ b) k)

pub difference-signed : (a b : ℕ) → u2s a -ℤ u2s b ≡ pos a -ℤ pos b
unfolding u2s
difference-signed a b = sub-both (pos a) (pos b) (pos 128)

pub apart-signed : (a b : ℕ) → apart (u2s a) (u2s b) ≡ apart (pos a) (pos b)
unfolding apart
apart-signed a b = ap nat_abs (difference-signed a b)

pub edge-signed : (a b c d : ℕ) → edge_value (u2s a) (u2s b) (u2s c) (u2s d) ≡ edge_value (pos a) (pos b) (pos c) (pos d)
unfolding edge_value
edge-signed a b c d = rw (apart-signed b c, apart-signed a d)

-- ---- the tests of the samples as stored

cond_same : {X : Type 0} (x : X) (t : Bool) → x ≡ cond t x x
cond_same x true = refl
cond_same x false = refl

first-last : {X : Type 0} (x y : X) (e a b c d f g : Bool) → cond (e && a && b && c && d && f && g) x y ≡ cond (a && b && c && d && f && g) (cond e x y) y
first-last x y true a b c d f g = refl
first-last x y false a b c d f g = cond_same y (a && b && c && d && f && g)

-- filter_yes tests the neighbours, then the edge
pub yes-in-turn : (i e P3 P2 P1 P0 Q0 Q1 Q2 Q3 : ℕ) {X : Type 0} (x y : X)
    → cond (segment_yes i e P3 P2 P1 P0 Q0 Q1 Q2 Q3) x y ≡ cond (neighbours_near i P3 P2 P1 P0 Q0 Q1 Q2 Q3) (cond (simple_yes e P1 P0 Q0 Q1) x y) y
unfolding segment_yes filter_yes simple_yes neighbours_near
yes-in-turn i e P3 P2 P1 P0 Q0 Q1 Q2 Q3 x y =
    (λ j. cond (leb (edge-signed P1 P0 Q0 Q1 j) e
    && leb (apart-signed P3 P2 j) i && leb (apart-signed P2 P1 j) i && leb (apart-signed P1 P0 j) i
    && leb (apart-signed Q3 Q2 j) i && leb (apart-signed Q2 Q1 j) i && leb (apart-signed Q1 Q0 j) i) x y)
    ∙ first-last x y (leb (edge_value (pos P1) (pos P0) (pos Q0) (pos Q1)) e)
    (leb (apart (pos P3) (pos P2)) i) (leb (apart (pos P2) (pos P1)) i) (leb (apart (pos P1) (pos P0)) i)
    (leb (apart (pos Q3) (pos Q2)) i) (leb (apart (pos Q2) (pos Q1)) i) (leb (apart (pos Q1) (pos Q0)) i)

above : (t d : ℕ) → ltb t d ≡ not (leb d t)
above t d = pick (leb d t) refl
  where
    pick : (b : Bool) → leb d t ≡ b → ltb t d ≡ not (leb d t)
    pick true e = le-ltb t d (leb-true d t e) ∙ sym (ap not e)
    pick false e = lt-ltb t d (leb-false d t e) ∙ sym (ap not e)

either : {X : Type 0} (x y : X) (a b : Bool) → cond (not a || not b) x y ≡ cond (a && b) y x
either x y true true = refl
either x y true false = refl
either x y false b = refl

-- hev leads where low variance does not
pub hev-low : (t P1 P0 Q0 Q1 : ℕ) {X : Type 0} (x y : X) → cond (segment_hev t P1 P0 Q0 Q1) x y ≡ cond (low_variance t P1 P0 Q0 Q1) y x
unfolding segment_hev hev low_variance
hev-low t P1 P0 Q0 Q1 x y =
    (λ j. cond (ltb t (apart-signed P1 P0 j) || ltb t (apart-signed Q1 Q0 j)) x y)
    ∙ (λ j. cond (above t (apart (pos P1) (pos P0)) j || above t (apart (pos Q1) (pos Q0)) j) x y)
    ∙ either x y (leb (apart (pos P1) (pos P0)) t) (leb (apart (pos Q1) (pos Q0)) t)

-- |a - b| <= i, by the difference that wraps
pub near-is : (a b i r : ℕ) → a + i < 4096 → b < 4096 → r < 2 ^ 64 → (r + b) % 2 ^ 64 ≡ a + i → leb r (2 * i) ≡ leb (apart (pos a) (pos b)) i
near-is a b i r ha hb hr e = pick (leb r (2 * i)) refl (ends a b)
  where
    pick : (t : Bool) → leb r (2 * i) ≡ t → Ends a b (apart (pos a) (pos b)) → leb r (2 * i) ≡ leb (apart (pos a) (pos b)) i
    pick true p (inl q) = p ∙ sym (le-leb (apart (pos a) (pos b)) i (omega (arith, leb-true r (2 * i) p)))
    pick true p (inr q) = p ∙ sym (le-leb (apart (pos a) (pos b)) i (omega (arith, leb-true r (2 * i) p)))
    pick false p (inl q) = p ∙ sym (lt-leb (apart (pos a) (pos b)) i (omega (arith, leb-false r (2 * i) p)))
    pick false p (inr q) = p ∙ sym (lt-leb (apart (pos a) (pos b)) i (omega (arith, leb-false r (2 * i) p)))

-- two tests of one limit that come to one
two-tests : (x y z l : ℕ) → (x ≤ l → y ≤ l → z ≤ l) → (z ≤ l → x ≤ l) → (z ≤ l → y ≤ l) → (leb x l && leb y l) ≡ leb z l
two-tests x y z l f g h = pick (leb x l) (leb y l) (leb z l) refl refl refl
  where
    pick : (s t u : Bool) → leb x l ≡ s → leb y l ≡ t → leb z l ≡ u → (leb x l && leb y l) ≡ leb z l
    pick true true u p q r = (λ j. p j && q j) ∙ sym (le-leb z l (f (leb-true x l p) (leb-true y l q)))
    pick true false true p q r = let k : y ≤ l = h (leb-true z l r) in absurd (omega (arith, leb-false y l q))
    pick true false false p q r = (λ j. p j && q j) ∙ sym r
    pick false t true p q r = let k : x ≤ l = g (leb-true z l r) in absurd (omega (arith, leb-false x l p))
    pick false t false p q r = (λ j. p j && leb y l) ∙ sym r

-- 4|d| + |o| is the larger of |4d + o| and |4d - o|
pub larger-sum : (l p1 p0 q0 q1 : ℕ) → (leb (apart (pos (4 * q0 + p1)) (pos (4 * p0 + q1))) l && leb (apart (pos (4 * q0 + q1)) (pos (4 * p0 + p1))) l)
    ≡ leb (apart (pos p0) (pos q0) * 4 + apart (pos p1) (pos q1)) l
larger-sum l p1 p0 q0 q1 = pick (ends p0 q0) (ends p1 q1)
  where
    a : apart (pos (4 * q0 + p1)) (pos (4 * p0 + q1)) ≡ (4 * q0 + p1 - (4 * p0 + q1)) + (4 * p0 + q1 - (4 * q0 + p1))
    a = apart-both (4 * q0 + p1) (4 * p0 + q1)

    b : apart (pos (4 * q0 + q1)) (pos (4 * p0 + p1)) ≡ (4 * q0 + q1 - (4 * p0 + p1)) + (4 * p0 + p1 - (4 * q0 + q1))
    b = apart-both (4 * q0 + q1) (4 * p0 + p1)

    pick : Ends p0 q0 (apart (pos p0) (pos q0)) → Ends p1 q1 (apart (pos p1) (pos q1))
        → (leb (apart (pos (4 * q0 + p1)) (pos (4 * p0 + q1))) l && leb (apart (pos (4 * q0 + q1)) (pos (4 * p0 + p1))) l) ≡ leb (apart (pos p0) (pos q0) * 4 + apart (pos p1) (pos q1)) l
    pick (inl d) (inl o) = two-tests _ _ _ l (λ h k. omega (arith, a, b)) (λ h. omega (arith, a)) (λ h. omega (arith, b))
    pick (inl d) (inr o) = two-tests _ _ _ l (λ h k. omega (arith, a, b)) (λ h. omega (arith, a)) (λ h. omega (arith, b))
    pick (inr d) (inl o) = two-tests _ _ _ l (λ h k. omega (arith, a, b)) (λ h. omega (arith, a)) (λ h. omega (arith, b))
    pick (inr d) (inr o) = two-tests _ _ _ l (λ h k. omega (arith, a, b)) (λ h. omega (arith, a)) (λ h. omega (arith, b))

-- the test of the edge, doubled
pub twice : (x y e : ℕ) → leb (x * 4 + y) (2 * e + 1) ≡ leb (x * 2 + y / 2) e
twice x y e = pick (leb (x * 4 + y) (2 * e + 1)) refl
  where
    pick : (t : Bool) → leb (x * 4 + y) (2 * e + 1) ≡ t → leb (x * 4 + y) (2 * e + 1) ≡ leb (x * 2 + y / 2) e
    pick true p = p ∙ sym (le-leb (x * 2 + y / 2) e (omega (arith, leb-true (x * 4 + y) (2 * e + 1) p)))
    pick false p = p ∙ sym (lt-leb (x * 2 + y / 2) e (omega (arith, leb-false (x * 4 + y) (2 * e + 1) p)))
