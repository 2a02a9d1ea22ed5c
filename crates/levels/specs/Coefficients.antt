-- Document 01, Passes: whether some number of a list of coefficients is not 0. An empty list has none. The RFC asks whether a coefficient is coded (section 15.1, line 4790; section 20.6, lines 9303 to 9308).
-- Change request 4: the place of the first that is not 0.
use Rattle.std.specs.Prelude.{◌≡◌, Bool, true, false, cond, ◌||◌, List, [], ◌∷◌, ◌++◌, ℕ, zero, suc, ◌+◌, ◌≤◌, ◌<◌, ltb, ℤ, pos, negsuc, length, get_or}

unfoldable pub is_not_zero : ℤ → Bool
is_not_zero (pos zero) = false
is_not_zero (pos (suc n)) = true
is_not_zero (negsuc n) = true

unfoldable pub has_coeffs : List ℤ → Bool
has_coeffs [] = false
has_coeffs (x ∷ xs) = is_not_zero x || has_coeffs xs

-- the place, from 0, of the first number that is not 0; the list's length if all are 0
unfoldable pub first_coeff : List ℤ → ℕ
first_coeff [] = 0
first_coeff (x ∷ xs) = cond (is_not_zero x) 0 (suc (first_coeff xs))

-- ---- what is promised of it

-- told by the numbers
pub record IsFirst (l : List ℤ) (place : ℕ) : Type 0 where
  pub within : place ≤ length l
  pub zeros-before : (k : ℕ) → k < place → get_or l k (pos 0) ≡ pos 0
  pub not-zero-there : place < length l → is_not_zero (get_or l place (pos 0)) ≡ true

pub record FirstPlace (l : List ℤ) : Type 0 where
  pub first : IsFirst l (first_coeff l)
  pub no_other : (place : ℕ) → IsFirst l place → place ≡ first_coeff l
  -- the test is answered from the place
  pub test : has_coeffs l ≡ ltb (first_coeff l) (length l)
  -- a list in two parts: where the first part has none, places go on in the second
  pub in_parts : (m : List ℤ) → first_coeff (l ++ m) ≡ cond (has_coeffs l) (first_coeff l) (length l + first_coeff m)
