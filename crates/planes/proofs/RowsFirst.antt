-- An edge stored tap by tap, each along the whole edge, in place of position by position.
use mathlib.Core.Path.{◌≡◌, refl, sym, ap, ◌∙◌}
use mathlib.Core.List.{List, [], ◌∷◌}
use Prim.Native.Nat.{ℕ, zero, suc, ◌+◌, ◌-◌, ◌*◌, ◌≤◌, ◌<◌}
use native.Mathlib.Nat.{add-suc, suc-add, add-zero}
use native.Mathlib.Omega.{arith}
use lib.ListN.{length, get_or, set}
use lib.Seq.{set_comm}
use Rattle.kernels.specs.Segment.{taps, scatter}
use Rattle.planes.specs.Steps.{steps}
use Rattle.planes.specs.Planes.{Grid, side, stride}
use Rattle.planes.specs.Edges.{Edge, edge_tap, filter_edge}
use Rattle.planes.proofs.Steps.{steps-suc, steps-ext}
use Rattle.kernels.proofs.SegmentLaws.{stored, length-stored}
use Rattle.planes.proofs.Fits.{Fits}
use Rattle.planes.proofs.ReadFirst.{edge-positions-apart, read_first}

-- ---- steps that change places

module _ {S : Type 0} where
  -- one change, with steps that it commutes with
  pub steps-past : (f : S → S) (h : ℕ → S → S) (n : ℕ) → ((j : ℕ) → j < n → (s : S) → f (h j s) ≡ h j (f s))
      → (s : S) → f (steps h 0 n s) ≡ steps h 0 n (f s)
  unfolding steps
  steps-past f h zero c s = refl
  steps-past f h (suc n) c s =
      ap f (steps-suc h n s) ∙ c n (omega arith) (steps h 0 n s) ∙ ap (h n) (steps-past f h n (λ j b. c j (omega arith)) s) ∙ sym (steps-suc h n (f s))

  -- two runs that commute step by step
  pub steps-commute : (f h : ℕ → S → S) (m n : ℕ) → ((i j : ℕ) → i < m → j < n → (s : S) → f i (h j s) ≡ h j (f i s))
      → (s : S) → steps f 0 m (steps h 0 n s) ≡ steps h 0 n (steps f 0 m s)
  unfolding steps
  steps-commute f h zero n c s = refl
  steps-commute f h (suc m) n c s =
      steps-suc f m (steps h 0 n s)
      ∙ ap (f m) (steps-commute f h m n (λ i j a b. c i j (omega arith) b) s)
      ∙ steps-past (f m) h n (λ j b. c m j (omega arith) b) (steps f 0 m s)
      ∙ ap (steps h 0 n) (sym (steps-suc f m s))

  -- n runs of m steps, where steps of different runs commute, are m runs of n
  module _ (f : ℕ → ℕ → S → S) where
    one_more : (n m : ℕ) → ((j t t' : ℕ) → j < n → t < m → t' < m → (s : S) → f n t (f j t' s) ≡ f j t' (f n t s)) → (s : S)
        → steps (f n) 0 m (steps (λ t. steps (λ j. f j t) 0 n) 0 m s) ≡ steps (λ t. steps (λ j. f j t) 0 (suc n)) 0 m s
    unfolding steps
    one_more n zero c s = refl
    one_more n (suc m) c s =
        steps-suc (f n) m (steps rows 0 (suc m) s)
        ∙ ap (λ (z : S). f n m (steps (f n) 0 m z)) (steps-suc rows m s)
        ∙ ap (f n m) (steps-commute (f n) (λ j. f j m) m n (λ t j a b. c j t m b (omega arith) (omega arith)) (steps rows 0 m s))
        ∙ ap (λ (z : S). f n m (rows m z)) (one_more n m (λ j t t' a b d. c j t t' a (omega arith) (omega arith)) s)
        ∙ sym (steps-suc (λ j. f j m) n (steps (λ t. steps (λ j. f j t) 0 (suc n)) 0 m s))
        ∙ sym (steps-suc (λ t. steps (λ j. f j t) 0 (suc n)) m s)
      where
        rows : ℕ → S → S
        rows t = steps (λ j. f j t) 0 n

    none : (m : ℕ) (s : S) → s ≡ steps (λ t. steps (λ j. f j t) 0 0) 0 m s
    unfolding steps
    none zero s = refl
    none (suc m) s = none m s ∙ sym (steps-suc (λ t. steps (λ j. f j t) 0 0) m s)

    pub steps-exchange : (n m : ℕ) → ((j j' t t' : ℕ) → j < j' → j' < n → t < m → t' < m → (s : S) → f j' t (f j t' s) ≡ f j t' (f j' t s))
        → (s : S) → steps (λ j. steps (f j) 0 m) 0 n s ≡ steps (λ t. steps (λ j. f j t) 0 n) 0 m s
    unfolding steps
    steps-exchange zero m c s = none m s
    steps-exchange (suc n) m c s =
        steps-suc (λ j. steps (f j) 0 m) n s
        ∙ ap (steps (f n) 0 m) (steps-exchange n m (λ j j' t t' a b. c j j' t t' a (omega arith)) s)
        ∙ one_more n m (λ j t t' a. c j n t t' a (omega arith)) s

-- ---- stores as steps

steps-shift : {S : Type 0} (f : ℕ → S → S) (k c : ℕ) (s : S) → steps f (suc k) c s ≡ steps (λ j. f (suc j)) k c s
unfolding steps
steps-shift f k zero s = refl
steps-shift f k (suc c) s = steps-shift f (suc k) c (f (suc k) s)

pub scatter-steps : (at : ℕ → ℕ) (vs : List ℕ) (t : ℕ) (l : List ℕ) → scatter at t vs l ≡ steps (λ i l'. set l' (at (t + i)) (get_or vs i 0)) 0 (length vs) l
unfolding scatter steps
scatter-steps at [] t l = refl
scatter-steps at (v ∷ vs) t l =
    scatter-steps at vs (suc t) (set l (at t) v)
    ∙ steps-ext (λ i l'. set l' (at (suc t + i)) (get_or vs i 0)) (λ i l'. set l' (at (t + suc i)) (get_or vs i 0)) (length vs)
    (λ i _ l'. ap (λ (x : ℕ). set l' (at x) (get_or vs i 0)) (suc-add t i ∙ sym (add-suc t i))) 0 (length vs) (omega arith) (set l (at t) v)
    ∙ sym (steps-shift (λ i l'. set l' (at (t + i)) (get_or (v ∷ vs) i 0)) 0 (length vs) (set l (at t) v))
    ∙ ap (λ (x : ℕ). steps (λ i l'. set l' (at (t + i)) (get_or (v ∷ vs) i 0)) 1 (length vs) (set l (at x) v)) (sym (add-zero t))

-- ---- an edge

module _ (g : Grid) (r c : ℕ) (e : Edge) (f : Fits r c e) (w : side e.on * c + side e.on ≤ stride g e.on) (l : List ℕ) where
  -- the store at inner tap i of position j, of what is read from l
  unfoldable pub store : (j i : ℕ) → List ℕ → List ℕ
  store j i l' = set l' (edge_tap g r c e j (1 + i)) (get_or (stored e.kernel (edge_tap g r c e j) l) i 0)

  store-commutes : (j j' i i' : ℕ) → j < j' → j' < side e.on → i < taps e.kernel - 2 → i' < taps e.kernel - 2 → (l' : List ℕ)
      → store j' i (store j i' l') ≡ store j i' (store j' i l')
  unfolding store
  store-commutes j j' i i' h hj hi hi' l' =
      set_comm l' (edge_tap g r c e j (1 + i')) (edge_tap g r c e j' (1 + i)) _ _
      (λ eq. absurd (omega (arith, edge-positions-apart g r c e f w j j' (1 + i') (1 + i) (omega arith) hj (omega arith) (omega arith) eq)))

  -- all is read first; then, inner tap after inner tap, each is stored at all positions
  pub rows-first : filter_edge g r c e l ≡ steps (λ i. steps (λ j. store j i) 0 (side e.on)) 0 (taps e.kernel - 2) l
  unfolding store
  rows-first =
      read_first g r c e f w l
      ∙ steps-ext (λ j. scatter (edge_tap g r c e j) 1 (stored e.kernel (edge_tap g r c e j) l)) (λ j. steps (store j) 0 (taps e.kernel - 2)) (side e.on)
      (λ j _ l'. scatter-steps (edge_tap g r c e j) (stored e.kernel (edge_tap g r c e j) l) 1 l' ∙ ap (λ (n : ℕ). steps (store j) 0 n l') (length-stored e.kernel (edge_tap g r c e j) l))
      0 (side e.on) (omega arith) l
      ∙ steps-exchange store (side e.on) (taps e.kernel - 2) store-commutes l
