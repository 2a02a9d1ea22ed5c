-- A segment: it reads its taps alone, writes its inner taps alone, and keeps the length.
use Rattle.std.proofs.Common.{◌≡◌, ℕ, zero, suc, ◌+◌, ◌-◌, ◌<◌, ◌≤◌, Bool, true, false, ◌≢◌, ◌⊎◌, List, [], ◌∷◌, length, get_or, take, drop, set, sym, refl, ap, ◌∙◌, subst, ap₂, inl, inr, le_refl, le_of_suc-le-suc, not-suc-le-zero, add-zero, add-suc, suc-add, suc-ne-zero, arith, length-drop, length-set, length-take-le, get_or-drop, get_or-set_other, get_or-take, get_or-set_same}
use native.Mathlib.Nat.{suc_inj}
use Rattle.kernels.specs.Segment.{Kernel, taps, smooth, gather, scatter, segment, passes, passes_at, mark}
use Rattle.kernels.proofs.KernelLaws.{keeps}

-- ---- gathering

pub gather-same :
    (at at' : ℕ → ℕ) (t n : ℕ) (l l' : List ℕ) → ((k : ℕ) → t ≤ k → k < t + n → get_or l (at k) 0 ≡ get_or l' (at' k) 0)
    → gather at t n l ≡ gather at' t n l'
unfolding gather
gather-same at at' t zero l l' h = refl
gather-same at at' t (suc n) l l' h =
    ap₂ {C = List ℕ} (λ x xs. x ∷ xs) (h t (le_refl t) (omega arith)) (gather-same at at' (suc t) n l l' (λ k a b. h k (omega arith) (omega arith)))

-- ---- scattering

pub length-scatter : (at : ℕ → ℕ) (t : ℕ) (vs : List ℕ) (l : List ℕ) → length (scatter at t vs l) ≡ length l
unfolding scatter
length-scatter at t [] l = refl
length-scatter at t (v ∷ vs) l = length-scatter at (suc t) vs (set l (at t) v) ∙ length-set l (at t) v

pub scatter-other :
    (at : ℕ → ℕ) (vs : List ℕ) (t : ℕ) (l : List ℕ) (i : ℕ) → ((k : ℕ) → t ≤ k → k < t + length vs → i ≢ at k)
    → get_or (scatter at t vs l) i 0 ≡ get_or l i 0
unfolding scatter
scatter-other at [] t l i h = refl
scatter-other at (v ∷ vs) t l i h =
    scatter-other at vs (suc t) (set l (at t) v) i (λ k a b. h k (omega arith) (omega arith)) ∙ get_or-set_other l (at t) i v 0 (h t (le_refl t) (omega arith))

pub scatter-at :
    (at : ℕ → ℕ) (vs : List ℕ) (t : ℕ) (l : List ℕ) (k : ℕ) → k < length vs → at (t + k) < length l
    → ((k' : ℕ) → t + k < k' → k' < t + length vs → at (t + k) ≢ at k') → get_or (scatter at t vs l) (at (t + k)) 0 ≡ get_or vs k 0
unfolding scatter
scatter-at at [] t l k h fit apart = absurd (not-suc-le-zero h)
scatter-at at (v ∷ vs) t l zero h fit apart =
    scatter-other at vs (suc t) (set l (at t) v) (at (t + 0)) (λ k a b. apart k (omega arith) (omega arith))
    ∙ rw (add-zero t) (get_or-set_same l (at t) v 0 (rw (add-zero t) at fit))
scatter-at at (v ∷ vs) t l (suc k) h fit apart =
    rw (add-suc t k, ← (suc-add t k))
    (scatter-at at vs (suc t) (set l (at t) v) k (le_of_suc-le-suc h) (rw (length-set, suc-add t k, ← (add-suc t k)) fit)
    (λ k' a b. rw (suc-add t k, ← (add-suc t k)) (apart k' (omega arith) (omega arith))))

-- ---- a segment

-- what is stored at its inner taps
unfoldable pub stored : Kernel → (ℕ → ℕ) → List ℕ → List ℕ
stored k at l = take (taps k - 2) (drop 1 (smooth k (gather at 0 (taps k) l)))

pub segment-is : (k : Kernel) (at : ℕ → ℕ) (l : List ℕ) → segment k at l ≡ scatter at 1 (stored k at l) l
unfolding segment stored
segment-is k at l = refl

-- it depends on the taps alone
pub stored_same :
    (k : Kernel) (at at' : ℕ → ℕ) (l l' : List ℕ) → ((t : ℕ) → t < taps k → get_or l (at t) 0 ≡ get_or l' (at' t) 0) → stored k at l ≡ stored k at' l'
unfolding stored
stored_same k at at' l l' h = rw (gather-same at at' 0 (taps k) l l' (λ t _ b. h t (omega arith)))

-- and so does its test
pub passes_same :
    (k : Kernel) (at at' : ℕ → ℕ) (l l' : List ℕ) → ((t : ℕ) → t < taps k → get_or l (at t) 0 ≡ get_or l' (at' t) 0) → passes_at k at l ≡ passes_at k at' l'
unfolding passes_at
passes_same k at at' l l' h = ap (passes k) (gather-same at at' 0 (taps k) l l' (λ t _ b. h t (omega arith)))

pub mark-most : (b : Bool) → mark b ≤ 1
unfolding mark
mark-most true = omega arith
mark-most false = omega arith

pub length-stored : (k : Kernel) (at : ℕ → ℕ) (l : List ℕ) → length (stored k at l) ≡ taps k - 2
unfolding stored
length-stored k at l =
    let vs = smooth k (gather at 0 (taps k) l) in
    length-take-le (taps k - 2) (drop 1 vs) (omega (arith, length-drop 1 vs, (keeps k (gather at 0 (taps k) l)).len))

-- the inner samples of what the kernel gives
pub stored_at : (k : Kernel) (at : ℕ → ℕ) (l : List ℕ) (i : ℕ) → i < taps k - 2 → get_or (stored k at l) i 0 ≡ get_or (smooth k (gather at 0 (taps k) l)) (1 + i) 0
unfolding stored
stored_at k at l i h =
    let vs = smooth k (gather at 0 (taps k) l) in get_or-take (taps k - 2) (drop 1 vs) i 0 h ∙ get_or-drop 1 vs i 0

pub length-segment : (k : Kernel) (at : ℕ → ℕ) (l : List ℕ) → length (segment k at l) ≡ length l
length-segment k at l = ap length (segment-is k at l) ∙ length-scatter at 1 (stored k at l) l

pub segment-other : (k : Kernel) (at : ℕ → ℕ) (l : List ℕ) (i : ℕ) → ((t : ℕ) → 1 ≤ t → t + 1 < taps k → i ≢ at t) → get_or (segment k at l) i 0 ≡ get_or l i 0
segment-other k at l i no-tap =
    ap (λ (z : List ℕ). get_or z i 0) (segment-is k at l)
    ∙ scatter-other at (stored k at l) 1 l i (λ t a b. no-tap t a (omega (arith, length-stored k at l)))

-- ---- two lists that differ only at some indices

-- of one length, and the same at each index that is not in D
pub record Agree (D : ℕ → Type 0) (l l' : List ℕ) : Type 0 where
  pub len : length l ≡ length l'
  pub same : (i : ℕ) → ¬ D i → get_or l i 0 ≡ get_or l' i 0

set_same : (l l' : List ℕ) (i v x : ℕ) → length l ≡ length l' → get_or l x 0 ≡ get_or l' x 0 → get_or (set l i v) x 0 ≡ get_or (set l' i v) x 0
set_same [] [] i v x e h = refl
set_same [] (b ∷ bs) i v x e h = absurd (suc-ne-zero (length bs) (sym e))
set_same (a ∷ cs) [] i v x e h = absurd (suc-ne-zero (length cs) e)
set_same (a ∷ cs) (b ∷ bs) zero v zero e h = refl
set_same (a ∷ cs) (b ∷ bs) zero v (suc x) e h = h
set_same (a ∷ cs) (b ∷ bs) (suc i) v zero e h = h
set_same (a ∷ cs) (b ∷ bs) (suc i) v (suc x) e h = set_same cs bs i v x (suc_inj e) h

scatter-agree : (D : ℕ → Type 0) (at : ℕ → ℕ) (t : ℕ) (vs : List ℕ) (l l' : List ℕ) → Agree D l l' → Agree D (scatter at t vs l) (scatter at t vs l')
unfolding scatter
scatter-agree D at t [] l l' a = a
scatter-agree D at t (v ∷ vs) l l' a =
    scatter-agree D at (suc t) vs (set l (at t) v) (set l' (at t) v)
    (record { len = length-set l (at t) v ∙ a.len ∙ sym (length-set l' (at t) v); same = λ i n. set_same l l' (at t) v i a.len (a.same i n) })

-- of w taps, D has none, or all of the inner ones
unfoldable pub Passes : (D : ℕ → Type 0) (at : ℕ → ℕ) (w : ℕ) → Type 0
Passes D at w = ((t : ℕ) → t < w → ¬ D (at t)) ⊎ ((t : ℕ) → 1 ≤ t → t + 1 < w → D (at t))

-- then the segment widens the difference no further
pub segment-agree : (D : ℕ → Type 0) (k : Kernel) (at : ℕ → ℕ) (l l' : List ℕ) → Passes D at (taps k) → Agree D l l' → Agree D (segment k at l) (segment k at l')
unfolding Passes
segment-agree D k at l l' (inl clean) a =
    rw (segment-is k at l, segment-is k at l', stored_same k at at l l' (λ t h. a.same (at t) (clean t h))) (scatter-agree D at 1 (stored k at l') l l' a)
segment-agree D k at l l' (inr inner) a = record {
  len = length-segment k at l ∙ a.len ∙ sym (length-segment k at l');
  same = λ i n.
      segment-other k at l i (λ t p q e. n (subst D (sym e) (inner t p q)))
      ∙ a.same i n
      ∙ sym (segment-other k at l' i (λ t p q e. n (subst D (sym e) (inner t p q))));
}
