-- Laws of what is counted over numbered steps.
use mathlib.Core.Path.{◌≡◌, refl, sym, ap, ap₂, ◌∙◌}
use Prim.Native.Nat.{ℕ, zero, suc, ◌+◌, ◌*◌, ◌≤◌, ◌<◌}
use native.Mathlib.Nat.{suc-add, add-suc, zero-add, add-zero, add_assoc, mul-suc}
use native.Mathlib.Omega.{arith}
use Rattle.planes.specs.Steps.{steps, tally}

module _ {S : Type 0} (f : ℕ → S → S) (counted : ℕ → S → ℕ) where
  -- the parts of a run add up
  pub tally-add : (from a b : ℕ) (s : S) → tally f counted from (a + b) s ≡ tally f counted from a s + tally f counted (from + a) b (steps f from a s)
  unfolding steps tally
  tally-add from zero b s = rw (zero-add, add-zero) (sym (zero-add (tally f counted from b s)))
  tally-add from (suc a) b s =
      rw (suc-add a b, add-suc from a, ← (suc-add from a))
      (ap (λ (n : ℕ). counted from s + n) (tally-add (suc from) a b (f from s)) ∙ sym (add_assoc (counted from s) _ _))

  -- one more: what a turn of a loop counts
  pub tally-last : (from a : ℕ) (s : S) → tally f counted from (a + 1) s ≡ tally f counted from a s + counted (from + a) (steps f from a s)
  unfolding tally
  tally-last from a s = tally-add from a 1 s ∙ ap (λ (n : ℕ). tally f counted from a s + n) (add-zero (counted (from + a) (steps f from a s)))

  pub tally-turn : (n : ℕ) (s : S) → tally f counted 0 (n + 1) s ≡ tally f counted 0 n s + counted n (steps f 0 n s)
  tally-turn n s = tally-last 0 n s ∙ ap (λ (j : ℕ). tally f counted 0 n s + counted j (steps f 0 n s)) (zero-add n)

  -- at most `most` at each
  pub tally-most : (most : ℕ) → ((j : ℕ) (s : S) → counted j s ≤ most) → (from n : ℕ) (s : S) → tally f counted from n s ≤ most * n
  unfolding tally
  tally-most most h from zero s = omega arith
  tally-most most h from (suc n) s = omega (arith, h from s, tally-most most h (suc from) n (f from s), mul-suc most n)

  -- where none of them counts
  pub tally-none : (from n : ℕ) → ((j : ℕ) → from ≤ j → j < from + n → (s : S) → counted j s ≡ 0) → (s : S) → tally f counted from n s ≡ 0
  unfolding tally
  tally-none from zero h s = refl
  tally-none from (suc n) h s =
      omega (arith, h from (omega arith) (omega arith) s, tally-none (suc from) n (λ j a b. h j (omega (arith, a)) (omega (arith, b))) (f from s))

-- steps that are the same below n, and count the same
pub tally-ext :
    {S : Type 0} (f f' : ℕ → S → S) (c c' : ℕ → S → ℕ) (n : ℕ) → ((j : ℕ) → j < n → (s : S) → f j s ≡ f' j s) → ((j : ℕ) → j < n → (s : S) → c j s ≡ c' j s)
    → (k m : ℕ) → k + m ≤ n → (s : S) → tally f c k m s ≡ tally f' c' k m s
unfolding tally
tally-ext f f' c c' n h g k zero b s = refl
tally-ext f f' c c' n h g k (suc m) b s =
    ap₂ {C = ℕ} (λ x y. x + y) (g k (omega arith) s) (tally-ext f f' c c' n h g (suc k) m (omega arith) (f k s) ∙ ap (tally f' c' (suc k) m) (h k (omega arith) s))
