-- A segment of samples next to one another: a window. A part of a list that is lent to a kernel and comes back is a segment of the whole list.
use Rattle.std.proofs.Common.{◌≡◌, le_refl, ℕ, zero, suc, ◌+◌, ◌-◌, ◌<◌, ◌≤◌, Bool, cond, List, [], ◌∷◌, ◌++◌, length, get_or, take, drop, set, sym, refl, ap, ◌∙◌, ap₂, append_assoc, le-add_right, add-zero, add-suc, zero-add, suc-ne-zero, add-one, arith, length-drop, length-take-le, get_or-drop, take_all, drop-cons, get_or-take, take-suc, drop-set-lt, le-leb, leb, leb-true, leb-false, true, false}
use mathlib.Core.Path.{fun_ext}
use native.Mathlib.Nat.{suc_inj}
use borrow.Author.Tests.{lt-leb}
use lib.Seq.{sets, sets-eq, take-set-le, take-set-lt, drop-set-add}
use borrow.Rule.Slice.PartMut.{mid_of, put_mid, put_same, mid_len}
use Rattle.arithmetic.specs.Outcome.{gives, refuses}
use Rattle.kernels.specs.Segment.{Kernel, half, taps, smooth, gather, scatter, segment, passes_at, fits_at, windowed, window_answer, adjust_answer}
use Rattle.kernels.specs.Kernels.{adjustment}
use Rattle.kernels.proofs.KernelLaws.{half-least, keeps}
use Rattle.kernels.proofs.SegmentLaws.{stored, segment-is, stored_same, passes_same, length-stored}

-- ---- a part that is lent and comes back

module _ (a n : ℕ) (xs : List ℕ) (i v : ℕ) (within : i < n) where
  mid-set : mid_of a n (set xs (a + i) v) ≡ set (mid_of a n xs) i v
  mid-set = rw (drop-set-add a xs i v, take-set-lt n (drop a xs) i v within)

  put-set : (ys : List ℕ) → put_mid a n (set xs (a + i) v) ys ≡ put_mid a n xs ys
  put-set ys = rw (take-set-le a xs (a + i) v (le-add_right a i), drop-set-add a xs i v, drop-set-lt n (drop a xs) i v within)

-- stores into the part are stores into the whole
scatter-lent :
    (a n : ℕ) (at : ℕ → ℕ) (vs : List ℕ) (t : ℕ) (xs : List ℕ) → ((k : ℕ) → t ≤ k → k < t + length vs → at k < n)
    → put_mid a n xs (scatter at t vs (mid_of a n xs)) ≡ scatter (λ k. a + at k) t vs xs
unfolding scatter
scatter-lent a n at [] t xs inside = put_same a n xs
scatter-lent a n at (v ∷ vs) t xs inside =
    let h : at t < n = inside t (omega arith) (omega arith) in
    sym (put-set a n xs (at t) v h (scatter at (suc t) vs (set (mid_of a n xs) (at t) v)))
    ∙ ap (λ (ys : List ℕ). put_mid a n (set xs (a + at t) v) (scatter at (suc t) vs ys)) (sym (mid-set a n xs (at t) v h))
    ∙ scatter-lent a n at vs (suc t) (set xs (a + at t) v) (λ k p q. inside k (omega arith) (omega arith))

-- a segment of n samples lent from a on is a segment of the whole
pub segment-lent :
    (k : Kernel) (a n : ℕ) (at : ℕ → ℕ) (xs : List ℕ) → ((t : ℕ) → t < taps k → at t < n)
    → put_mid a n xs (segment k at (mid_of a n xs)) ≡ segment k (λ t. a + at t) xs
segment-lent k a n at xs inside =
    ap (put_mid a n xs) (segment-is k at (mid_of a n xs))
    ∙ ap (λ (vs : List ℕ). put_mid a n xs (scatter at 1 vs (mid_of a n xs)))
    (stored_same k at (λ t. a + at t) (mid_of a n xs) xs (λ t h. get_or-take n (drop a xs) (at t) 0 (inside t h) ∙ get_or-drop a xs (at t) 0))
    ∙ scatter-lent a n at (stored k (λ t. a + at t) xs) 1 xs (λ t p q. inside t (omega (arith, length-stored k (λ t. a + at t) xs, half-least k)))
    ∙ sym (segment-is k (λ t. a + at t) xs)

-- index functions that are the same
pub segment-at : (k : Kernel) (at at' : ℕ → ℕ) (xs : List ℕ) → ((t : ℕ) → at t ≡ at' t) → segment k at xs ≡ segment k at' xs
segment-at k at at' xs h = ap (λ (f : ℕ → ℕ). segment k f xs) (fun_ext h)

-- a window lent from mid-row, `plane[a..e]`, in the form that the lender meets it
pub window-lent :
    (k : Kernel) (a e : ℕ) (xs ys : List ℕ) → e ≡ a + taps k → ys ≡ segment k (λ t. 0 + t) (mid_of a (e - a) xs)
    → put_mid a (e - a) xs ys ≡ segment k (λ t. a + t) xs
window-lent k a e xs ys ee ey =
    ap (put_mid a (e - a) xs) ey
    ∙ segment-lent k a (e - a) (λ t. 0 + t) xs (λ t h. omega arith)
    ∙ segment-at k (λ t. a + (0 + t)) (λ t. a + t) xs (λ t. ap (λ (i : ℕ). a + i) (zero-add t))

-- a window that fits is not refused
pub windowed-fits : (k : Kernel) (l : List ℕ) (base : ℕ) → base + taps k ≤ length l → windowed k l base ≡ segment k (λ t. base + t) l
unfolding windowed fits_at
windowed-fits k l base h = ap (λ (b : Bool). cond b (segment k (λ t. base + t) l) l) (le-leb (base + taps k) (length l) h)

pub answer-fits : (k : Kernel) (l : List ℕ) (base : ℕ) → base + taps k ≤ length l → window_answer k l base ≡ gives (passes_at k (λ t. base + t) l)
unfolding window_answer fits_at
answer-fits k l base h = ap (λ (b : Bool). cond b (gives (passes_at k (λ t. base + t) l)) (refuses 4)) (le-leb (base + taps k) (length l) h)

-- the test on a window lent from mid-row is that on the whole
pub answer-lent : (k : Kernel) (a e : ℕ) (xs : List ℕ) → e ≡ a + taps k → e ≤ length xs → window_answer k (mid_of a (e - a) xs) 0 ≡ gives (passes_at k (λ t. a + t) xs)
answer-lent k a e xs ee fit =
    answer-fits k (mid_of a (e - a) xs) 0 (omega (arith, mid_len a e xs fit))
    ∙ ap gives (passes_same k (λ t. 0 + t) (λ t. a + t) (mid_of a (e - a) xs) xs
    (λ t h. get_or-take (e - a) (drop a xs) (0 + t) 0 (omega arith) ∙ get_or-drop a xs (0 + t) 0 ∙ ap (λ (i : ℕ). get_or xs (a + i) 0) (zero-add t)))

-- the same, from what a kernel's contract says of the part
pub windowed-lent :
    (k : Kernel) (a e : ℕ) (xs ys : List ℕ) → e ≡ a + taps k → e ≤ length xs → ys ≡ windowed k (mid_of a (e - a) xs) 0
    → put_mid a (e - a) xs ys ≡ segment k (λ t. a + t) xs
windowed-lent k a e xs ys ee fit ey =
    window-lent k a e xs ys ee (ey ∙ windowed-fits k (mid_of a (e - a) xs) 0 (omega (arith, mid_len a e xs fit)))

-- ---- the first samples of a list, lent as an array

module _ (k : Kernel) (l : List ℕ) where
  lent-first : taps k ≤ length l → (ys m : List ℕ) → ys ≡ segment k (λ t. t) (take (taps k) l) → m ≡ ys ++ drop (taps k) l → m ≡ windowed k l 0
  lent-first fit ys m ey em =
      em ∙ ap (λ (zs : List ℕ). zs ++ drop (taps k) l) ey
      ∙ segment-lent k 0 (taps k) (λ t. t) l (λ t h. h) ∙ sym (windowed-fits k l 0 (omega (arith, fit)))

  answer-first : taps k ≤ length l → (r : Bool) → r ≡ passes_at k (λ t. t) (take (taps k) l) → gives r ≡ window_answer k l 0
  answer-first fit r er =
      ap gives (er ∙ passes_same k (λ t. t) (λ t. 0 + t) (take (taps k) l) l (λ t h. get_or-take (taps k) l t 0 h ∙ ap (λ (i : ℕ). get_or l i 0) (sym (zero-add t))))
      ∙ sym (answer-fits k l 0 (omega (arith, fit)))

  module _ (n : ℕ) (en : taps k ≡ n) (fit : n ≤ length l) (w : List ℕ) (ew : w ≡ take n l) where
    pub first-lent : (ys m : List ℕ) → ys ≡ segment k (λ t. t) w → m ≡ ys ++ drop n l → m ≡ windowed k l 0
    first-lent ys m ey em =
        lent-first (omega (arith, en, fit)) ys m (ey ∙ ap (segment k (λ t. t)) (ew ∙ ap (λ (i : ℕ). take i l) (sym en))) (em ∙ ap (λ (i : ℕ). ys ++ drop i l) (sym en))

    pub first-answer : (r : Bool) → r ≡ passes_at k (λ t. t) w → gives r ≡ window_answer k l 0
    first-answer r er = answer-first (omega (arith, en, fit)) r (er ∙ ap (passes_at k (λ t. t)) (ew ∙ ap (λ (i : ℕ). take i l) (sym en)))

pub first-adjust : (o : Bool) (l w : List ℕ) → 4 ≤ length l → w ≡ take 4 l
    → gives (adjustment o (get_or w 0 0) (get_or w 1 0) (get_or w 2 0) (get_or w 3 0)) ≡ adjust_answer o l 0
unfolding adjust_answer fits_at taps half
first-adjust o l w fit e =
    ap (λ (v : List ℕ). gives (adjustment o (get_or v 0 0) (get_or v 1 0) (get_or v 2 0) (get_or v 3 0))) e
    ∙ (λ i. gives (adjustment o (get_or-take 4 l 0 0 (omega arith) i) (get_or-take 4 l 1 0 (omega arith) i) (get_or-take 4 l 2 0 (omega arith) i) (get_or-take 4 l 3 0 (omega arith) i)))
    ∙ sym (ap (λ (b : Bool). cond b (gives (adjustment o (get_or l 0 0) (get_or l 1 0) (get_or l 2 0) (get_or l 3 0))) (refuses 4)) (le-leb 4 (length l) fit))

-- ---- the rest of a list from base on, lent

abbrev pub rest_of : (base : ℕ) → List ℕ → List ℕ
rest_of base l = mid_of base (length l - base) l

fits-rest : (n base : ℕ) (l : List ℕ) → base ≤ length l → leb (0 + n) (length (rest_of base l)) ≡ leb (base + n) (length l)
fits-rest n base l within = pick (leb (base + n) (length l)) refl
  where
    long : length (rest_of base l) ≡ length l - base
    long = mid_len base (length l) l (le_refl (length l))

    pick : (b : Bool) → leb (base + n) (length l) ≡ b → leb (0 + n) (length (rest_of base l)) ≡ b
    pick true e = le-leb (0 + n) (length (rest_of base l)) (omega (arith, long, leb-true (base + n) (length l) e))
    pick false e = lt-leb (0 + n) (length (rest_of base l)) (omega (arith, long, within, leb-false (base + n) (length l) e))

rest-tap : (base : ℕ) (l : List ℕ) (t : ℕ) → base + t < length l → get_or (rest_of base l) (0 + t) 0 ≡ get_or l (base + t) 0
rest-tap base l t h =
    ap (λ (i : ℕ). get_or (rest_of base l) i 0) (zero-add t)
    ∙ get_or-take (length l - base) (drop base l) t 0 (omega (arith, h)) ∙ get_or-drop base l t 0

module _ (base : ℕ) (l : List ℕ) (within : base ≤ length l) where
  pub rest-window : (k : Kernel) (m : List ℕ) → m ≡ windowed k (rest_of base l) 0 → put_mid base (length l - base) l m ≡ windowed k l base
  unfolding windowed fits_at
  rest-window k m e =
      ap (put_mid base (length l - base) l) (e ∙ ap (λ (b : Bool). cond b (segment k (λ t. 0 + t) (rest_of base l)) (rest_of base l)) (fits-rest (taps k) base l within))
      ∙ pick (leb (base + taps k) (length l)) refl
    where
      pick : (b : Bool) → leb (base + taps k) (length l) ≡ b
          → put_mid base (length l - base) l (cond b (segment k (λ t. 0 + t) (rest_of base l)) (rest_of base l)) ≡ cond b (segment k (λ t. base + t) l) l
      pick true f =
          segment-lent k base (length l - base) (λ t. 0 + t) l (λ t h. omega (arith, h, leb-true (base + taps k) (length l) f))
          ∙ segment-at k (λ t. base + (0 + t)) (λ t. base + t) l (λ t. ap (λ (i : ℕ). base + i) (zero-add t))
      pick false f = put_same base (length l - base) l

  pub rest-answer : (k : Kernel) → window_answer k (rest_of base l) 0 ≡ window_answer k l base
  unfolding window_answer fits_at
  rest-answer k =
      ap (λ (b : Bool). cond b (gives (passes_at k (λ t. 0 + t) (rest_of base l))) (refuses 4)) (fits-rest (taps k) base l within)
      ∙ pick (leb (base + taps k) (length l)) refl
    where
      pick : (b : Bool) → leb (base + taps k) (length l) ≡ b → cond b (gives (passes_at k (λ t. 0 + t) (rest_of base l))) (refuses 4) ≡ cond b (gives (passes_at k (λ t. base + t) l)) (refuses 4)
      pick true f = ap gives (passes_same k (λ t. 0 + t) (λ t. base + t) (rest_of base l) l (λ t h. rest-tap base l t (omega (arith, h, leb-true (base + taps k) (length l) f))))
      pick false f = refl

-- ---- a window is taken out, given to the kernel and put back

gather-next : (l : List ℕ) (base t n : ℕ) → base + t + n ≤ length l → gather (λ k. base + k) t n l ≡ take n (drop (base + t) l)
unfolding gather
gather-next l base t zero h = refl
gather-next l base t (suc n) h =
    rw (drop-cons l (base + t) 0 (omega arith))
    (ap (λ (xs : List ℕ). get_or l (base + t) 0 ∷ xs) (gather-next l base (suc t) n (omega arith) ∙ ap (λ (k : ℕ). take n (drop k l)) (add-suc base t)))

scatter-next : (l : List ℕ) (base t : ℕ) (vs : List ℕ) → scatter (λ k. base + k) t vs l ≡ sets l (base + t) vs
unfolding scatter
scatter-next l base t [] = refl
scatter-next l base t (v ∷ vs) = scatter-next (set l (base + t) v) base (suc t) vs ∙ ap (λ (k : ℕ). sets (set l (base + t) v) k vs) (add-suc base t)

-- a list of n + 2: its first, the n between, its last
ends : (n : ℕ) (vs : List ℕ) → length vs ≡ suc (suc n) → vs ≡ get_or vs 0 0 ∷ (take n (drop 1 vs) ++ get_or vs (suc n) 0 ∷ [])
ends n [] e = absurd (suc-ne-zero (suc n) (sym e))
ends n (v ∷ vs) e = ap (λ (xs : List ℕ). v ∷ xs) (sym (take_all (suc n) vs (omega (arith, suc_inj e))) ∙ take-suc vs n 0 (omega (arith, suc_inj e)))

module _ (k : Kernel) (n : ℕ) (en : taps k ≡ suc (suc n)) (base : ℕ) (l : List ℕ) (fit : base + suc (suc n) ≤ length l) where
  win : List ℕ
  win = take (suc (suc n)) (drop base l)

  vs : List ℕ
  vs = smooth k win

  mid : List ℕ
  mid = take n (drop 1 vs)

  length-vs : length vs ≡ suc (suc n)
  unfolding vs
  length-vs = (keeps k win).len ∙ en

  length-mid : length mid ≡ n
  unfolding mid
  length-mid = length-take-le n (drop 1 vs) (omega (arith, length-drop 1 vs, length-vs))

  given : vs ≡ get_or l base 0 ∷ (mid ++ get_or l (base + suc n) 0 ∷ [])
  unfolding vs win mid
  given =
      ends n vs length-vs
      ∙ ap₂ (λ (a b : ℕ). a ∷ (mid ++ b ∷ []))
      ((keeps k win).first ∙ get_or-take (suc (suc n)) (drop base l) 0 0 (omega arith) ∙ get_or-drop base l 0 0 ∙ ap (λ (i : ℕ). get_or l i 0) (add-zero base))
      (ap (λ (i : ℕ). get_or vs i 0) (sym last) ∙ (keeps k win).last ∙ ap (λ (i : ℕ). get_or win i 0) last
      ∙ get_or-take (suc (suc n)) (drop base l) (suc n) 0 (omega arith) ∙ get_or-drop base l (suc n) 0)
    where
      last : taps k - 1 ≡ suc n
      last = omega arith

  stores : segment k (λ t. base + t) l ≡ take (base + 1) l ++ mid ++ drop (base + 1 + length mid) l
  unfolding mid vs win stored
  stores =
      segment-is k (λ t. base + t) l
      ∙ ap₂ (λ (w : ℕ) (ts : List ℕ). scatter (λ t. base + t) 1 (take w (drop 1 (smooth k ts))) l) inner
      (ap (λ (w : ℕ). gather (λ t. base + t) 0 w l) en ∙ gather-next l base 0 (suc (suc n)) (omega arith) ∙ ap (λ (b : ℕ). take (suc (suc n)) (drop b l)) (add-zero base))
      ∙ scatter-next l base 1 mid ∙ sets-eq mid l (base + 1) (omega (arith, length-mid))
    where
      inner : taps k - 2 ≡ n
      inner = omega arith

  join : take (base + 1) l ++ mid ++ drop (base + 1 + length mid) l ≡ take base l ++ (get_or l base 0 ∷ (mid ++ get_or l (base + suc n) 0 ∷ [])) ++ drop (base + suc (suc n)) l
  join =
      ap₂ (λ (xs ys : List ℕ). xs ++ mid ++ ys)
      (ap (λ (j : ℕ). take j l) (add-one base) ∙ take-suc l base 0 (omega arith))
      (ap (λ (j : ℕ). drop j l) before ∙ drop-cons l (base + suc n) 0 (omega arith) ∙ ap (λ (j : ℕ). get_or l (base + suc n) 0 ∷ drop j l) after)
      ∙ simp append_assoc
    where
      before : base + 1 + length mid ≡ base + suc n
      before = omega (arith, length-mid)

      after : suc (base + suc n) ≡ base + suc (suc n)
      after = omega arith

  window-of : segment k (λ t. base + t) l ≡ take base l ++ smooth k (take (suc (suc n)) (drop base l)) ++ drop (base + suc (suc n)) l
  unfolding vs win
  window-of = stores ∙ join ∙ sym (ap (λ (xs : List ℕ). take base l ++ xs ++ drop (base + suc (suc n)) l) given)

pub window :
    (k : Kernel) (base : ℕ) (l : List ℕ) → base + taps k ≤ length l
    → segment k (λ t. base + t) l ≡ take base l ++ smooth k (take (taps k) (drop base l)) ++ drop (base + taps k) l
unfolding taps
window k base l fit =
    window-of k (taps k - 2) two base l (omega (arith, two))
    ∙ ap (λ (w : ℕ). take base l ++ smooth k (take w (drop base l)) ++ drop (base + w) l) (sym two)
  where
    two : taps k ≡ suc (suc (taps k - 2))
    two = omega (arith, half-least k)
