-- Numbers stored next to one another, a store a turn; and numbers of which all are bytes.
-- Assumes nothing.
use Rattle.std.proofs.Common.{◌≡◌, ℕ, zero, suc, ◌+◌, ◌<◌, Bool, true, false, ◌&&◌, List, [], ◌∷◌, length, get_or, take, set, ℤ, pos, sym, refl, ap, ◌∙◌, arith, add-zero, add-one, not-suc-le-zero, le_of_suc-le-suc}
use mathlib.Core.Bool.{false≢true}
use Rattle.std.specs.List.{list_all}
use Rattle.kernels.specs.Segment.{scatter}
use Rattle.kernels.specs.Private.Windows.{in_byte, cut, stored_cut}

pub store-none : (first : ℕ) (vs : List ℤ) (l : List ℕ) → l ≡ stored_cut first (take 0 vs) l
unfolding scatter
store-none first vs l = refl

step : (n first : ℕ) (vs : List ℤ) (l : List ℕ) → n < length vs
    → set (stored_cut first (take n vs) l) (first + n) (cut (get_or vs n (pos 0))) ≡ stored_cut first (take (suc n) vs) l
unfolding scatter
step n first [] l h = absurd (not-suc-le-zero h)
step zero first (v ∷ vs) l h = ap (λ (k : ℕ). set l k (cut v)) (add-zero first)
step (suc n) first (v ∷ vs) l h =
    ap (λ (k : ℕ). set (stored_cut (suc first) (take n vs) (set l first (cut v))) k (cut (get_or vs n (pos 0)))) (omega arith)
    ∙ step n (suc first) vs (set l first (cut v)) (le_of_suc-le-suc h)

pub store-turn : (n first : ℕ) (vs : List ℤ) (l m : List ℕ) (v : ℕ) → n < length vs → m ≡ stored_cut first (take n vs) l → v ≡ cut (get_or vs n (pos 0))
    → set m (first + n) v ≡ stored_cut first (take (n + 1) vs) l
store-turn n first vs l m v h e f =
    (λ i. set (e i) (first + n) (f i)) ∙ step n first vs l h ∙ sym (ap (λ (k : ℕ). stored_cut first (take k vs) l) (add-one n))

-- both of two tests
pub first-of : (a b : Bool) → (a && b) ≡ true → a ≡ true
first-of true b t = refl
first-of false b t = t

pub rest-of : (a b : Bool) → (a && b) ≡ true → b ≡ true
rest-of true b t = t
rest-of false b t = absurd (false≢true t)

pub byte-at : (n : ℕ) (vs : List ℤ) → n < length vs → list_all in_byte vs ≡ true → in_byte (get_or vs n (pos 0)) ≡ true
byte-at n [] h e = absurd (not-suc-le-zero h)
byte-at zero (v ∷ vs) h e = first-of (in_byte v) (list_all in_byte vs) e
byte-at (suc n) (v ∷ vs) h e = byte-at n vs (le_of_suc-le-suc h) (rest-of (in_byte v) (list_all in_byte vs) e)
