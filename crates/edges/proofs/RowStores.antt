-- Rows of taps stored into a plane.
use mathlib.Core.Path.{◌≡◌, refl, sym, ap, ◌∙◌}
use mathlib.Core.Logic.{◌≢◌}
use mathlib.Core.List.{List, []}
use Prim.Native.Nat.{ℕ, zero, suc, ◌+◌, ◌*◌, ◌/◌, ◌%◌, ◌≤◌, ◌<◌}
use native.Mathlib.Numerals.{add-one}
use native.Mathlib.Omega.{arith}
use lib.Arith.{digits_div, digits_mod}
use lib.ListN.{length, get_or, set, length-set}
use lib.Seq.{set_comm, set-get_or}
use lib.IntN.{ℤ, pos}
use Rattle.arithmetic.specs.Numbers.{s2u}
use Rattle.planes.specs.Steps.{steps}
use Rattle.edges.specs.Private.Runs.{store_row, store_row_of, store_rows}
use Rattle.planes.proofs.Steps.{steps-suc, steps-inv}
use Rattle.planes.proofs.RowsFirst.{steps-past, steps-commute}

-- ---- one row, a store a turn

pub store-none : (at : ℕ) (r : List ℤ) (l : List ℕ) → l ≡ store_row 0 at r l
unfolding store_row steps
store-none at r l = refl

pub store-turn : (n at : ℕ) (r : List ℤ) (l p : List ℕ) (v : ℕ) → p ≡ store_row n at r l → v ≡ s2u (get_or r n (pos 0)) → set p (at + n) v ≡ store_row (n + 1) at r l
unfolding store_row
store-turn n at r l p v e f =
    (λ i. set (e i) (at + n) (f i))
    ∙ sym (ap (λ (m : ℕ). steps (λ j l'. set l' (at + j) (s2u (get_or r j (pos 0)))) 0 m l) (add-one n) ∙ steps-suc (λ j l'. set l' (at + j) (s2u (get_or r j (pos 0)))) n l)

pub length-row : (n at : ℕ) (r : List ℤ) (l : List ℕ) → length (store_row n at r l) ≡ length l
unfolding store_row
length-row n at r l =
    steps-inv (λ j l'. set l' (at + j) (s2u (get_or r j (pos 0)))) (λ l'. length l' ≡ length l) (λ j l' e. length-set l' (at + j) _ ∙ e) 0 n l refl

-- a row of what is there already
pub store_same : (n at : ℕ) (r : List ℤ) (l : List ℕ) → ((j : ℕ) → j < n → s2u (get_or r j (pos 0)) ≡ get_or l (at + j) 0) → store_row n at r l ≡ l
unfolding store_row steps
store_same zero at r l h = refl
store_same (suc n) at r l h =
    steps-suc (λ j l'. set l' (at + j) (s2u (get_or r j (pos 0)))) n l
    ∙ (λ i. set (store_same n at r l (λ j p. h j (omega arith)) i) (at + n) (h n (omega arith) i))
    ∙ set-get_or l (at + n) 0

-- ---- rows and columns

pub column_apart : (s base t t' j j' : ℕ) → j < s → j' < s → base + t * s + j ≡ base + t' * s + j' → j ≡ j'
column_apart s base t t' j j' h h' e = sym (digits_mod t h) ∙ ap (λ (x : ℕ). x % s) (omega arith) ∙ digits_mod t' h'

pub row_apart : (s base t t' j j' : ℕ) → j < s → j' < s → base + t * s + j ≡ base + t' * s + j' → t ≡ t'
row_apart s base t t' j j' h h' e = sym (digits_div t h) ∙ ap (λ (x : ℕ). x / s) (omega arith) ∙ digits_div t' h'

-- two rows
pub rows-commute : (n s base t t' : ℕ) (r r' : List ℤ) (l : List ℕ) → n ≤ s → t ≢ t'
    → store_row n (base + t * s) r (store_row n (base + t' * s) r' l) ≡ store_row n (base + t' * s) r' (store_row n (base + t * s) r l)
unfolding store_row
rows-commute n s base t t' r r' l w ne =
    steps-commute (λ j l'. set l' (base + t * s + j) (s2u (get_or r j (pos 0)))) (λ j l'. set l' (base + t' * s + j) (s2u (get_or r' j (pos 0)))) n n
    (λ i j a b z. set_comm z (base + t' * s + j) (base + t * s + i) _ _ (λ e. ne (sym (row_apart s base t' t j i (omega arith) (omega arith) e)))) l

-- ---- rows, one a turn

module _ (n s at first : ℕ) (t : List (List ℤ)) (l : List ℕ) where
  pub rows-none : l ≡ store_rows n s at first 0 t l
  unfolding store_rows steps
  rows-none = refl

  pub rows-turn : (i : ℕ) (p p' : List ℕ) → p ≡ store_rows n s at first i t l → p' ≡ store_row_of n s at (first + i) t p → p' ≡ store_rows n s at first (i + 1) t l
  unfolding store_rows
  rows-turn i p p' e f =
      f ∙ ap (store_row_of n s at (first + i) t) e
      ∙ sym (ap (λ (m : ℕ). steps (λ j. store_row_of n s at (first + j) t) 0 m l) (add-one i) ∙ steps-suc (λ j. store_row_of n s at (first + j) t) i l)

-- where the rows 1 and 6 are what is there already, the four between them are enough
pub four-enough : (n s at : ℕ) (t : List (List ℤ)) (l : List ℕ) → n ≤ s → store_row_of n s at 1 t l ≡ l → store_row_of n s at 6 t l ≡ l → store_rows n s at 1 6 t l ≡ store_rows n s at 2 4 t l
unfolding store_rows steps
four-enough n s at t l w e1 e6 =
    ap (λ (z : List ℕ). store_row_of n s at 6 t (store_row_of n s at 5 t (store_row_of n s at 4 t (store_row_of n s at 3 t (store_row_of n s at 2 t z))))) e1
    ∙ steps-past (store_row_of n s at 6 t) (λ i. store_row_of n s at (2 + i) t) 4 (λ i h z. rows-commute n s at 6 (2 + i) (get_or t 6 []) (get_or t (2 + i) []) z w (λ e. absurd (omega arith))) l
    ∙ ap (λ (z : List ℕ). store_row_of n s at 5 t (store_row_of n s at 4 t (store_row_of n s at 3 t (store_row_of n s at 2 t z)))) e6
