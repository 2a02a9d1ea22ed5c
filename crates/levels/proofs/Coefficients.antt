-- Laws of the coefficient test and of the first coefficient's place. Assumes nothing.
use mathlib.Core.Path.{◌≡◌, refl, sym, ap, ◌∙◌}
use Rattle.std.specs.Prelude.{◌≢◌}
use mathlib.Core.Bool.{Bool, true, false, cond, ◌||◌}
use mathlib.Core.List.{List, [], ◌∷◌, ◌++◌}
use Prim.Native.Nat.{ℕ, zero, suc, ◌+◌, ◌≤◌, ◌<◌}
use native.Mathlib.Nat.{le_antisymm, le_of_suc-le-suc, lt_of_not-le}
use native.Mathlib.Omega.{arith}
use lib.Dec.{ltb, leb-zero, leb-suc-suc}
use lib.IntN.{ℤ, pos, negsuc}
use lib.ListN.{length, get_or}
use Rattle.levels.specs.Coefficients.{is_not_zero, has_coeffs, first_coeff, IsFirst, FirstPlace}

-- ---- a number, by the test of its bits

zero_of : (z : ℤ) → is_not_zero z ≡ false → z ≡ pos 0
unfolding is_not_zero
zero_of (pos zero) h = refl
zero_of (pos (suc n)) h = cc
zero_of (negsuc n) h = cc

-- ---- a list

-- one number more in front
module _ (x : ℤ) (xs : List ℤ) where
  here : is_not_zero x ≡ true → IsFirst (x ∷ xs) 0
  here h = record { within = omega arith; zeros-before = λ k i. absurd (omega arith); not-zero-there = λ i. h }

  further : (place : ℕ) → is_not_zero x ≡ false → IsFirst xs place → IsFirst (x ∷ xs) (suc place)
  further place h f =
      record {
        within = omega (arith, f.within);
        zeros-before = before;
        not-zero-there = λ i. f.not-zero-there (omega arith);
      }
    where
      before : (k : ℕ) → k < suc place → get_or (x ∷ xs) k (pos 0) ≡ pos 0
      before zero i = zero_of x h
      before (suc k) i = f.zeros-before k (omega arith)

  is-first : (b : Bool) (place : ℕ) → is_not_zero x ≡ b → IsFirst xs place → IsFirst (x ∷ xs) (cond b 0 (suc place))
  is-first true place h f = here h
  is-first false place h f = further place h f

first : (l : List ℤ) → IsFirst l (first_coeff l)
unfolding first_coeff
first [] = record { within = omega arith; zeros-before = λ k i. absurd (omega arith); not-zero-there = λ i. absurd (omega arith) }
first (x ∷ xs) = is-first x xs (is_not_zero x) (first_coeff xs) refl (first xs)

-- of two first places none lies after the other: a number before the one is 0, and that at the other is not
not_after : (l : List ℤ) (i j : ℕ) → IsFirst l i → IsFirst l j → j < i → ⊥
unfolding is_not_zero
not_after l i j f g h =
    let within : j < length l = omega (arith, f.within) in
    let is_set : is_not_zero (get_or l j (pos 0)) ≡ true = g.not-zero-there within in
    let is-0 : is_not_zero (get_or l j (pos 0)) ≡ false = ap is_not_zero (f.zeros-before j h) in
    let both : true ≡ false = sym is_set ∙ is-0 in
    let z : ◌≡◌ {A = ℕ} 0 1 = cc in
    omega arith

same_place : (l : List ℤ) (i j : ℕ) → IsFirst l i → IsFirst l j → i ≡ j
same_place l i j f g = le_antisymm (le_of_suc-le-suc (lt_of_not-le (not_after l i j f g))) (le_of_suc-le-suc (lt_of_not-le (not_after l j i g f)))

-- ---- what the code finds

-- ---- the test

tested : (b h : Bool) (place n : ℕ) → h ≡ ltb place n → (b || h) ≡ ltb (cond b 0 (suc place)) (suc n)
tested true h place n e = sym (leb-suc-suc 0 n ∙ leb-zero n)
tested false h place n e = e ∙ sym (leb-suc-suc (suc place) n)

pub coeffs_first : (l : List ℤ) → has_coeffs l ≡ ltb (first_coeff l) (length l)
unfolding has_coeffs first_coeff
coeffs_first [] = refl
coeffs_first (x ∷ xs) = tested (is_not_zero x) (has_coeffs xs) (first_coeff xs) (length xs) (coeffs_first xs)

-- ---- two parts

parted : (b h : Bool) (p q n m : ℕ) → p ≡ cond h q (n + m) → cond b 0 (suc p) ≡ cond (b || h) (cond b 0 (suc q)) (suc n + m)
parted true h p q n m e = refl
parted false true p q n m e = ap suc e
parted false false p q n m e = omega arith

in_parts : (l m : List ℤ) → first_coeff (l ++ m) ≡ cond (has_coeffs l) (first_coeff l) (length l + first_coeff m)
unfolding has_coeffs first_coeff
in_parts [] m = omega arith
in_parts (x ∷ xs) m = parted (is_not_zero x) (has_coeffs xs) (first_coeff (xs ++ m)) (first_coeff xs) (length xs) (first_coeff m) (in_parts xs m)

-- ---- what is promised

pub first-place : (l : List ℤ) → FirstPlace l
first-place l = record { first = first l; no_other = λ place f. same_place l place (first_coeff l) f (first l); test = coeffs_first l; in_parts = in_parts l }

is-set : (z : ℤ) → z ≢ pos 0 → is_not_zero z ≡ true
unfolding is_not_zero
is-set (pos zero) n = absurd (n refl)
is-set (pos (suc m)) n = refl
is-set (negsuc m) n = refl

-- told by what the search through the list finds
pub is_first_coeff : (l : List ℤ) (place : ℕ) → place ≤ length l → ((k : ℕ) → k < place → get_or l k (pos 0) ≡ pos 0) → (place < length l → get_or l place (pos 0) ≢ pos 0) → place ≡ first_coeff l
is_first_coeff l place h zeros there =
    same_place l place (first_coeff l) (record { within = h; zeros-before = zeros; not-zero-there = λ i. is-set (get_or l place (pos 0)) (there i) }) (first l)
