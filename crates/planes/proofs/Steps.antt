-- Laws of numbered steps.
use mathlib.Core.Path.{◌≡◌, refl, sym, ap, ◌∙◌}
use Prim.Native.Nat.{ℕ, zero, suc, ◌+◌, ◌-◌, ◌≤◌, ◌<◌}
use native.Mathlib.Nat.{suc-add, add-suc, zero-add, add-zero, le_refl}
use native.Mathlib.Numerals.{add-one}
use native.Mathlib.Omega.{arith}
use Rattle.planes.specs.Steps.{steps, Clear}

module _ {S : Type 0} (f : ℕ → S → S) where
  pub steps-add : (from a b : ℕ) (s : S) → steps f from (a + b) s ≡ steps f (from + a) b (steps f from a s)
  unfolding steps
  steps-add from zero b s = rw (zero-add, add-zero)
  steps-add from (suc a) b s = rw (suc-add a b, add-suc from a, ← (suc-add from a)) (steps-add (suc from) a b (f from s))

  -- one more: what a turn of a loop does
  pub steps-last : (from a : ℕ) (s : S) → steps f from (a + 1) s ≡ f (from + a) (steps f from a s)
  unfolding steps
  steps-last from a s = steps-add from a 1 s

  pub steps-suc : (j : ℕ) (s : S) → steps f 0 (suc j) s ≡ f j (steps f 0 j s)
  steps-suc j s = ap (λ (k : ℕ). steps f 0 k s) (sym (add-one j)) ∙ steps-last 0 j s ∙ ap (λ (k : ℕ). f k (steps f 0 j s)) (zero-add j)

  -- the first k, then the others of n
  pub steps-split : (k n : ℕ) (s : S) → k ≤ n → steps f 0 n s ≡ steps f k (n - k) (steps f 0 k s)
  steps-split k n s h =
      ap (λ (j : ℕ). steps f 0 j s) (rest k n h) ∙ steps-add 0 k (n - k) s ∙ ap (λ (j : ℕ). steps f j (n - k) (steps f 0 k s)) (zero-add k)
    where
      rest : (k n : ℕ) → k ≤ n → n ≡ k + (n - k)
      rest k n h = omega arith

  -- what every step keeps
  pub steps-inv : (Q : S → Type 0) → ((j : ℕ) (s : S) → Q s → Q (f j s)) → (k c : ℕ) (s : S) → Q s → Q (steps f k c s)
  unfolding steps
  steps-inv Q h k zero s q = q
  steps-inv Q h k (suc c) s q = steps-inv Q h (suc k) c (f k s) (h k s q)

-- two runs, side by side: what is between them before step j, and after it
pub steps-thread :
    {S : Type 0} (Rel : ℕ → S → S → Type 0) (f f' : ℕ → S → S) (a n : ℕ)
    → ((j : ℕ) → a ≤ j → j < n → (s s' : S) → Rel j s s' → Rel (suc j) (f j s) (f' j s'))
    → (k c : ℕ) → a ≤ k → k + c ≤ n → (s s' : S) → Rel k s s' → Rel (k + c) (steps f k c s) (steps f' k c s')
unfolding steps
steps-thread Rel f f' a n h k zero l b s s' r = rw add-zero r
steps-thread Rel f f' a n h k (suc c) l b s s' r =
    rw (add-suc k c, ← (suc-add k c))
    (steps-thread Rel f f' a n h (suc k) c (omega arith) (omega arith) (f k s) (f' k s') (h k l (omega arith) s s' r))

pub steps-rel :
    {S : Type 0} (Rel : S → S → Type 0) (f f' : ℕ → S → S) (n : ℕ)
    → ((j : ℕ) → j < n → (s s' : S) → Rel s s' → Rel (f j s) (f' j s'))
    → (k c : ℕ) → k + c ≤ n → (s s' : S) → Rel s s' → Rel (steps f k c s) (steps f' k c s')
steps-rel Rel f f' n h k c b = steps-thread (λ _. Rel) f f' 0 n (λ j _. h j) k c (omega arith) b

-- steps that are the same below n
pub steps-ext :
    {S : Type 0} (f f' : ℕ → S → S) (n : ℕ) → ((j : ℕ) → j < n → (s : S) → f j s ≡ f' j s)
    → (k c : ℕ) → k + c ≤ n → (s : S) → steps f k c s ≡ steps f' k c s
unfolding steps
steps-ext f f' n h k zero b s = refl
steps-ext f f' n h k (suc c) b s = ap (steps f (suc k) c) (h k (omega arith) s) ∙ steps-ext f f' n h (suc k) c (omega arith) (f' k s)

-- ---- what steps leave alone

module _ {S X : Type 0} (get : S → X → ℕ) (Reach : ℕ → X → Type 0) where
  -- a step leaves alone what it cannot reach
  unfoldable pub Local : (ℕ → S → S) → ℕ → Type 0
  Local f n = (m : ℕ) (s : S) (x : X) → m < n → ¬ Reach m x → get (f m s) x ≡ get s x

  pub clear_later : (k j n : ℕ) (x : X) → k ≤ j → Clear Reach k n x → Clear Reach j n x
  unfolding Clear
  clear_later k j n x h clear m a b = clear m (omega arith) b

  -- c steps from k on leave alone what none of those from k on can reach
  pub steps-keep : (f : ℕ → S → S) (n : ℕ) → Local f n → (k c : ℕ) (s : S) (x : X) → k + c ≤ n → Clear Reach k n x → get (steps f k c s) x ≡ get s x
  unfolding steps Local Clear
  steps-keep f n loc k zero s x h clear = refl
  steps-keep f n loc k (suc c) s x h clear =
      steps-keep f n loc (suc k) c (f k s) x (omega arith) (λ m a b. clear m (omega arith) b) ∙ loc k s x (omega arith) (clear k (le_refl k) (omega arith))

  -- so after the first k it has its final value
  pub steps-final : (f : ℕ → S → S) (n : ℕ) → Local f n → (k : ℕ) (s : S) (x : X) → k ≤ n → Clear Reach k n x → get (steps f 0 k s) x ≡ get (steps f 0 n s) x
  steps-final f n loc k s x h clear =
      sym (ap (λ (z : S). get z x) (steps-split f k n s h) ∙ steps-keep f n loc k (n - k) (steps f 0 k s) x (omega arith) clear)
