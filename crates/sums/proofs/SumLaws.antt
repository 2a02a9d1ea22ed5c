-- Laws of the sums.
use mathlib.Core.Path.{◌≡◌, refl, ap, ap₂, subst, ◌∙◌}
use mathlib.Core.Bool.{Bool, true, false, cond}
use mathlib.Core.List.{List}
use Prim.Native.Nat.{ℕ, zero, suc, ◌+◌, ◌*◌, ◌-◌, ◌≤◌, ◌<◌, ◌^◌}
use native.Mathlib.Numerals.{add-one}
use native.Mathlib.Nat.{add-zero, add-suc}
use native.Mathlib.Omega.{arith}
use lib.Dec.{ltb}
use lib.ListN.{length, get_or, drop}
use borrow.Rule.Slice.PartMut.{mid_of}
use Rattle.std.proofs.Common.{get_or-take, get_or-drop, length-take-le, length-drop, zero-add}
use borrow.Author.Tests.{lt-ltb, le-ltb, ltb-true, ltb-false}
use Rattle.std.specs.Int.{abs_diff}
use Rattle.sums.specs.Sums.{squared, row_sum, rows_sum}
use Rattle.sums.specs.Private.SumCode.{fitting}
use Rattle.std.specs.Prelude.{Result, Ok, Err}
use Rattle.sums.specs.declared.answers.SearchRefusal.{SearchRefusal}
use Rattle.sums.specs.declared.answers.SearchRefusal.TheVariants.{SumTooLarge}

-- ---- squares

pub squared_apart : (a b : ℕ) → abs_diff a b * abs_diff a b ≡ squared a b
unfolding squared
squared_apart a b = ap (λ (n : ℕ). n * n) (omega arith)

-- ---- rows

pub row-none : (a : List ℕ) (i : ℕ) (b : List ℕ) (j : ℕ) → 0 ≡ row_sum a i b j 0
unfolding row_sum
row-none a i b j = refl

pub row_more : (a : List ℕ) (i : ℕ) (b : List ℕ) (j n sum t : ℕ) → sum ≡ row_sum a i b j n → t ≡ squared (get_or a (i + n) 0) (get_or b (j + n) 0) → sum + t ≡ row_sum a i b j (n + 1)
unfolding row_sum
row_more a i b j n sum t e f = rw (add-one, e, f)

-- parts of both planes that are lent as rows of their own
module _ (a : List ℕ) (i : ℕ) (b : List ℕ) (j w : ℕ) where
  part : (n : ℕ) → n ≤ w → row_sum (mid_of i w a) 0 (mid_of j w b) 0 n ≡ row_sum a i b j n
  unfolding row_sum
  part zero h = refl
  part (suc n) h =
      ap₂ {C = ℕ} (λ x y. x + y) (part n (omega arith))
      (ap (λ (k : ℕ). squared (get_or (mid_of i w a) k 0) (get_or (mid_of j w b) k 0)) (zero-add n)
      ∙ ap₂ squared (get_or-take w (drop i a) n 0 (omega arith) ∙ get_or-drop i a n 0) (get_or-take w (drop j b) n 0 (omega arith) ∙ get_or-drop j b n 0))

  pub lent : (d e : ℕ) → d ≡ w → e ≡ w → i + w ≤ length a → row_sum (mid_of i d a) 0 (mid_of j e b) 0 (length (mid_of i d a)) ≡ row_sum a i b j w
  lent d e ed ee fit =
      (λ k. row_sum (mid_of i (ed k) a) 0 (mid_of j (ee k) b) 0 (length (mid_of i (ed k) a)))
      ∙ ap (row_sum (mid_of i w a) 0 (mid_of j w b) 0) (length-take-le w (drop i a) (omega (arith, length-drop i a)))
      ∙ part w (omega arith)

module _ (a : List ℕ) (s : ℕ) (b : List ℕ) (t w : ℕ) where
  pub rows_none : 0 ≡ rows_sum a s b t w 0
  unfolding rows_sum
  rows_none = refl

  pub rows_more : (n : ℕ) → rows_sum a s b t w (n + 1) ≡ rows_sum a s b t w n + row_sum a (n * s) b (n * t) w
  unfolding rows_sum
  rows_more n = rw add-one

  grows-by : (n d : ℕ) → rows_sum a s b t w n ≤ rows_sum a s b t w (n + d)
  unfolding rows_sum
  grows-by n zero = rw add-zero (omega arith)
  grows-by n (suc d) = rw add-suc (omega (arith, grows-by n d))

  -- more rows never sum to less
  pub grows : (n h : ℕ) → n ≤ h → rows_sum a s b t w n ≤ rows_sum a s b t w h
  grows n h le = subst (λ (m : ℕ). rows_sum a s b t w n ≤ rows_sum a s b t w m) (omega arith) (grows-by n (h - n))

-- no samples sum to 0
pub no-width : (a : List ℕ) (s : ℕ) (b : List ℕ) (t h : ℕ) → rows_sum a s b t 0 h ≡ 0
unfolding rows_sum row_sum
no-width a s b t zero = refl
no-width a s b t (suc h) = omega (arith, no-width a s b t h)

pub no-height : (a : List ℕ) (s : ℕ) (b : List ℕ) (t w : ℕ) → rows_sum a s b t w 0 ≡ 0
unfolding rows_sum
no-height a s b t w = refl

-- ---- sums that fit

pub sum_is : (n : ℕ) → n < 2 ^ 64 → Ok n ≡ fitting n
unfolding fitting
sum_is n h = rw (lt-ltb n (2 ^ 64) h)

pub sum_over : (n : ℕ) → 2 ^ 64 ≤ n → Err SumTooLarge ≡ fitting n
unfolding fitting
sum_over n h = rw (le-ltb n (2 ^ 64) h)

-- ---- three sums, one after the other

fits-below : (n : ℕ) (m : ℕ) → Ok m ≡ fitting n → (m ≡ n) × (n < 2 ^ 64)
unfolding fitting
fits-below n m e = by (ltb n (2 ^ 64)) (ltb-true n (2 ^ 64)) e
  where
    by : (t : Bool) → (t ≡ true → n < 2 ^ 64) → Ok m ≡ cond t (Ok n) (Err SumTooLarge) → (m ≡ n) × (n < 2 ^ 64)
    by true h e = (cc, h refl)
    by false h e = let z : ◌≡◌ {A = ℕ} 0 1 = cc in absurd (omega arith)

refuses-above : (n : ℕ) (r : SearchRefusal) → Err r ≡ fitting n → (r ≡ SumTooLarge) × (2 ^ 64 ≤ n)
unfolding fitting
refuses-above n r e = by (ltb n (2 ^ 64)) (ltb-false n (2 ^ 64)) e
  where
    by : (t : Bool) → (t ≡ false → 2 ^ 64 ≤ n) → Err r ≡ cond t (Ok n) (Err SumTooLarge) → (r ≡ SumTooLarge) × (2 ^ 64 ≤ n)
    by true h e = let z : ◌≡◌ {A = ℕ} 0 1 = cc in absurd (omega arith)
    by false h e = (cc, h refl)

module _ (p q r : ℕ) where
  pub over-one : (x : SearchRefusal) → Err x ≡ fitting (0 + p) → Err x ≡ fitting (p + q + r)
  over-one x e = let k = refuses-above (0 + p) x e in ap Err k.0 ∙ sum_over (p + q + r) (omega (arith, k.1))

  pub over-two : (a : ℕ) (x : SearchRefusal) → Ok a ≡ fitting (0 + p) → Err x ≡ fitting (a + q) → Err x ≡ fitting (p + q + r)
  over-two a x e f = let k = refuses-above (a + q) x f in ap Err k.0 ∙ sum_over (p + q + r) (omega (arith, fits-below (0 + p) a e, k.1))

  pub all_three : (a b : ℕ) (x : Result ℕ SearchRefusal) → Ok a ≡ fitting (0 + p) → Ok b ≡ fitting (a + q) → x ≡ fitting (b + r) → x ≡ fitting (p + q + r)
  all_three a b x e f g = g ∙ ap fitting (omega (arith, fits-below (0 + p) a e, fits-below (a + q) b f))
