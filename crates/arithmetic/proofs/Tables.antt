-- Tables, and an array that a loop fills entry by entry.
use mathlib.Core.Path.{◌≡◌, refl, sym, ◌∙◌}
use mathlib.Core.List.{List, [], ◌∷◌, ◌++◌, append-nil}
use mathlib.Core.Logic.{⊎_elim}
use Prim.Native.Nat.{ℕ, zero, suc, ◌+◌, ◌<◌}
use native.Mathlib.Numerals.{add-one}
use native.Mathlib.Nat.{eq-or-lt_of_le}
use native.Mathlib.Omega.{arith}
use lib.ListN.{length, get_or, set, drop, length-append, get_or-append}
use lib.Seq.{get_or_at, drop-cons, append_snoc, set_at, drop-length}
use Rattle.arithmetic.specs.Tables.{table, fill}

module _ {A : Type 0} where
  pub length-table : (n : ℕ) (g : ℕ → A) → length (table n g) ≡ n
  unfolding table
  length-table zero g = refl
  length-table (suc n) g = length-append (table n g) (g n ∷ []) ∙ omega (arith, length-table n g)

  pub get_or-table : (n : ℕ) (g : ℕ → A) (i : ℕ) (d : A) → i < n → get_or (table n g) i d ≡ g i
  unfolding table
  get_or-table zero g i d h = absurd (omega arith)
  get_or-table (suc n) g i d h = ⊎_elim
      (λ e. rw e (get_or_at (table n g) (g n) [] d n (length-table n g)))
      (λ p. get_or-append (table n g) (g n ∷ []) d i (omega (arith, length-table n g)) ∙ get_or-table n g i d (omega arith))
      (eq-or-lt_of_le {n = i} {m = n} (omega arith))

  -- a store at the end of what is written
  step : (p : List A) (l : List A) (n : ℕ) (v : A) → n < length l → set (p ++ drop n l) (length p) v ≡ (p ++ (v ∷ [])) ++ drop (suc n) l
  step p l n v h = rw (drop-cons l n v h) (set_at p (get_or l n v) (drop (suc n) l) v (length p) refl ∙ sym (append_snoc p v (drop (suc n) l)))

  pub fill_none : (g : ℕ → A) (l : List A) → l ≡ fill 0 g l
  unfolding fill table
  fill_none g l = refl

  fill_step : (n : ℕ) (g : ℕ → A) (l : List A) → n < length l → set (fill n g l) n (g n) ≡ fill (n + 1) g l
  unfolding fill table
  fill_step n g l h =
      let k : length (table n g) ≡ n = length-table n g in
      let s : set (table n g ++ drop n l) (length (table n g)) (g n) ≡ (table n g ++ (g n ∷ [])) ++ drop (suc n) l = step (table n g) l n (g n) h in
      rw add-one (rw k at s)

  fill-all : (n : ℕ) (g : ℕ → A) (l : List A) → length l ≡ n → fill n g l ≡ table n g
  unfolding fill
  fill-all n g l e =
      let d : drop (length l) l ≡ [] = drop-length l in
      let d' : drop n l ≡ [] = rw e at d in rw (d', append-nil)

  -- a turn: the array o has n of its entries, and takes one more
  pub fill-turn : (n : ℕ) (g : ℕ → A) (l o : List A) (v : A) → o ≡ fill n g l → n < length l → v ≡ g n → set o n v ≡ fill (n + 1) g l
  fill-turn n g l o v e h p = rw (e, p) (fill_step n g l h)

  -- the end: all of its entries
  pub fill_end : (n m : ℕ) (g : ℕ → A) (l o : List A) → o ≡ fill n g l → n ≡ m → length l ≡ m → o ≡ table m g
  fill_end n m g l o e p q = e ∙ rw p (fill-all m g l q)
