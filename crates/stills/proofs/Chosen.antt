-- What the full search chooses: `Promise` holds of every call. Assumes nothing.
use mathlib.Core.Path.{◌≡◌, refl, sym, ap, subst, ◌∙◌}
use mathlib.Core.Bool.{Bool, true, false, cond, ◌&&◌, ◌||◌}
use mathlib.Core.List.{List, [], ◌∷◌}
use mathlib.Core.Logic.{inl, inr}
use Prim.Native.Nat.{ℕ, zero, suc, ◌+◌, ◌-◌, ◌*◌, ◌/◌, ◌%◌, ◌≤◌, ◌<◌}
use native.Mathlib.Omega.{arith}
use native.Mathlib.Nat.{mod-lt, div-add-mod'}
use lib.Dec.{eqb, ltb, leb}
use lib.ListN.{length}
use borrow.Author.Tests.{ltb-true, ltb-false, eqb-true, eqb-false, leb-true}
use Rattle.levels.specs.declared.config.FrameFilterConfig.{FrameFilterConfig}
use Rattle.planes.specs.GridRefusals.{zero_grid}
use Rattle.planes.specs.Planes.{Planes, macroblocks}
use Rattle.planes.specs.Steps.{steps}
use Rattle.planes.proofs.Fits.{row-column}
use Rattle.calls.specs.Pass.{Pass}
use Rattle.sums.specs.Sums.{error_sum}
use Rattle.scratch.proofs.CopyLaws.{steps_next}
use Rattle.search.specs.Candidates.{Candidate, Standing, fold, keep, upward, coarse_levels, near, consider, at_base, unfiltered, coarse, other_level, refined, other_sharpness, searched}
use Rattle.search.specs.Search.{SearchCall, score, base_sharpness, search}
use Rattle.search.proofs.CountLaws.{both}
use Rattle.search.proofs.EqualSums.{planes-stay}
use Rattle.search.proofs.FoldLaws.{none-smaller}
use Rattle.stills.specs.FullSearch.{pair_at, after_pairs, full_search, full_choice}
use Rattle.stills.specs.Promise.{IsCandidate, Before, Promise}

-- ---- the candidates by their number, in the order of ties

candidate_at : (base k : ℕ) → Candidate
candidate_at base zero = record { level = 0; sharpness = base }
candidate_at base (suc i) = pair_at i

-- pair i: i is 8 times its level less 1, and its sharpness, which is below 8
pair_parts : (i : ℕ) → (i ≡ 8 * ((pair_at i).level - 1) + (pair_at i).sharpness) × ((pair_at i).sharpness < 8) × (1 ≤ (pair_at i).level)
unfolding pair_at
pair_parts i = let r : i % 8 < 8 = mod-lt i (omega arith) in omega (arith, div-add-mod' i 8)

-- a level and a sharpness below 8 by their pair
pair_of : (c : Candidate) → 1 ≤ c.level → c.sharpness < 8 → c ≡ pair_at ((c.level - 1) * 8 + c.sharpness)
unfolding pair_at
pair_of c l s =
    let (q, r) = row-column 8 (c.level - 1) c.sharpness ((c.level - 1) * 8 + c.sharpness) s refl in
    let el : c.level ≡ 1 + ((c.level - 1) * 8 + c.sharpness) / 8 = omega arith in
    λ i. record { level = el i; sharpness = sym r i }

module _ (base : ℕ) where
  next-pair : (n : ℕ) → candidate_at base (n + 1) ≡ pair_at n
  unfolding candidate_at
  next-pair n = ap (candidate_at base) (let e : n + 1 ≡ suc n = omega arith in e)

  candidate-is : (k : ℕ) → k ≤ 504 → IsCandidate base (candidate_at base k)
  unfolding candidate_at IsCandidate
  candidate-is zero h = inl (refl, refl)
  candidate-is (suc i) h = let p = pair_parts i in inr (omega arith)

  number_is : (c : Candidate) → IsCandidate base c → (k : ℕ) × (k ≤ 504) × (c ≡ candidate_at base k)
  unfolding candidate_at IsCandidate
  number_is c (inl (l, s)) = (0, omega arith, λ i. record { level = l i; sharpness = s i })
  number_is c (inr (l, m, s)) = (suc ((c.level - 1) * 8 + c.sharpness), omega arith, pair_of c l (omega arith))

  -- what comes before has a smaller number
  number-before : (i j : ℕ) → Before (candidate_at base i) (candidate_at base j) → i < j
  unfolding candidate_at Before
  number-before zero zero (inl h) = absurd (omega arith)
  number-before zero zero (inr h) = absurd (omega arith)
  number-before zero (suc j) h = omega arith
  number-before (suc i) zero (inl h) = absurd (omega arith)
  number-before (suc i) zero (inr h) = let p = pair_parts i in absurd (omega arith)
  number-before (suc i) (suc j) (inl h) = let p = pair_parts i in let q = pair_parts j in omega arith
  number-before (suc i) (suc j) (inr h) = let p = pair_parts i in let q = pair_parts j in omega arith

-- ---- the first n pairs

module _ (sum : Candidate → ℕ) (base : ℕ) where
  -- candidate `place` is the best of the candidates 0 to n
  record Leads (n : ℕ) (s : Standing) : Type 0 where
    place : ℕ
    within : place ≤ n
    is-best : s.best ≡ candidate_at base place
    own : s.sum ≡ sum s.best
    least : (k : ℕ) → k ≤ n → s.sum ≤ sum (candidate_at base k)
    first : (k : ℕ) → k < place → s.sum < sum (candidate_at base k)
    count : length s.scored ≡ n + 1

  leads-none : Leads 0 (unfiltered sum base)
  unfolding unfiltered candidate_at
  leads-none = record {
    place = 0;
    within = omega arith;
    is-best = refl;
    own = refl;
    least = at;
    first = λ k h. absurd (omega arith);
    count = refl;
  }
    where
      at : (k : ℕ) → k ≤ 0 → sum (record { level = 0; sharpness = base }) ≤ sum (candidate_at base k)
      at zero h = omega arith
      at (suc k) h = absurd (omega arith)

  leads-more : (n : ℕ) (s : Standing) → Leads n s → Leads (n + 1) (consider sum base s (pair_at n))
  unfolding consider
  leads-more n s h = by (ltb (sum (pair_at n)) s.sum) (ltb-true (sum (pair_at n)) s.sum) (ltb-false (sum (pair_at n)) s.sum)
    where
      c : Candidate
      c = pair_at n

      is-next : (k : ℕ) → k ≡ n + 1 → sum (candidate_at base k) ≡ sum c
      is-next k e = ap (λ (m : ℕ). sum (candidate_at base m)) e ∙ ap sum (next-pair base n)

      up-to : (m : ℕ) → m ≤ sum c → m ≤ s.sum → (k : ℕ) → k ≤ n + 1 → m ≤ sum (candidate_at base k)
      up-to m a b k l = at (eqb k (n + 1)) (eqb-true k (n + 1)) (eqb-false k (n + 1))
        where
          at : (t : Bool) → (t ≡ true → k ≡ n + 1) → (t ≡ false → k ≡ n + 1 → ⊥) → m ≤ sum (candidate_at base k)
          at true f g = let e = is-next k (f refl) in omega arith
          at false f g = let ne = g refl in let e : k ≤ n = below ne in let q = h.least k e in omega arith
            where
              below : (k ≡ n + 1 → ⊥) → k ≤ n
              below ne = omega arith

      by : (b : Bool) → (b ≡ true → sum c < s.sum) → (b ≡ false → s.sum ≤ sum c)
          → Leads (n + 1) (record { best = cond b c s.best; sum = cond b (sum c) s.sum; scored = c ∷ s.scored })
      by true f g = let lt = f refl in record {
        place = n + 1;
        within = omega arith;
        is-best = sym (next-pair base n);
        own = refl;
        least = up-to (sum c) (omega arith) (omega arith);
        first = λ k l. let q = h.least k (omega arith) in omega arith;
        count = let e = h.count in omega arith;
      }
      by false f g = let le = g refl in record {
        place = h.place;
        within = let w = h.within in omega arith;
        is-best = h.is-best;
        own = h.own;
        least = up-to s.sum le (omega arith);
        first = h.first;
        count = let e = h.count in omega arith;
      }

  leads : (n : ℕ) → Leads n (steps (λ i s. consider sum base s (pair_at i)) 0 n (unfiltered sum base))
  unfolding steps
  leads zero = leads-none
  leads (suc n) =
      let e : n + 1 ≡ suc n = omega arith in
      subst (λ (m : ℕ). Leads m (steps (λ i s. consider sum base s (pair_at i)) 0 m (unfiltered sum base))) e
      (subst (Leads (n + 1)) (sym (steps_next (λ i s. consider sum base s (pair_at i)) n (unfiltered sum base)))
      (leads-more n (steps (λ i s. consider sum base s (pair_at i)) 0 n (unfiltered sum base)) (leads n)))

-- ---- the search chooses one of the 505

-- every number is at most m
up_to : (m : ℕ) → List ℕ → Bool
up_to m [] = true
up_to m (x ∷ xs) = leb x m && up_to m xs

keep-up-to : (m : ℕ) (f : ℕ → Bool) (xs : List ℕ) → up_to m xs ≡ true → up_to m (keep f xs) ≡ true
unfolding up_to keep
keep-up-to m f [] e = refl
keep-up-to m f (x ∷ xs) e = let (a, b) = both (leb x m) (up_to m xs) e in by (f x) a (keep-up-to m f xs b)
  where
    by : (t : Bool) → leb x m ≡ true → up_to m (keep f xs) ≡ true → up_to m (cond t (x ∷ keep f xs) (keep f xs)) ≡ true
    by true a b = rw (a, b)
    by false a b = b

fold-keeps : (P : Standing → Type 0) (m : ℕ) (step : Standing → ℕ → Standing) → ((s : Standing) (x : ℕ) → x ≤ m → P s → P (step s x))
    → (xs : List ℕ) → up_to m xs ≡ true → (s : Standing) → P s → P (fold step s xs)
unfolding fold up_to
fold-keeps P m step h [] e s p = p
fold-keeps P m step h (x ∷ xs) e s p =
    let (a, b) = both (leb x m) (up_to m xs) e in
    fold-keeps P m step h xs b (step s x) (h s x (leb-true x m a) p)

coarse-listed : up_to 63 coarse_levels ≡ true
unfolding up_to coarse_levels
coarse-listed = refl

levels-listed : up_to 63 (upward 0 64) ≡ true
unfolding up_to upward
levels-listed = refl

sharpness-listed : up_to 7 (upward 0 8) ≡ true
unfolding up_to upward
sharpness-listed = refl

base-low : (f : FrameFilterConfig) → base_sharpness f ≤ 7
unfolding base_sharpness
base-low f = omega arith

module _ (sum : Candidate → ℕ) (base : ℕ) (low : base ≤ 7) where
  abbrev In : Standing → Type 0
  In s = IsCandidate base s.best

  at_base-listed : (level : ℕ) → level ≤ 63 → IsCandidate base (at_base sum base level)
  unfolding IsCandidate
  at_base-listed zero h = inl (refl, refl)
  at_base-listed (suc l) h = inr (omega arith)

  considers : (P : Candidate → Type 0) (s : Standing) (c : Candidate) → P c → P s.best → P (consider sum base s c).best
  unfolding consider
  considers P s c h p = by (ltb (sum c) s.sum)
    where
      by : (b : Bool) → P (cond b c s.best)
      by true = h
      by false = p

  either : (P : Standing → Type 0) (b : Bool) (s t : Standing) → (b ≡ true → P s) → (b ≡ false → P t) → P (cond b s t)
  either P true s t h k = h refl
  either P false s t h k = k refl

  coarse-in : In (coarse sum base)
  unfolding coarse unfiltered
  coarse-in =
      fold-keeps In 63 (λ s level. consider sum base s (at_base sum base level)) (λ s x h p. considers (IsCandidate base) s (at_base sum base x) (at_base-listed x h) p)
      coarse_levels coarse-listed (unfiltered sum base) (at_base-listed 0 (omega arith))

  refined-in : In (refined sum base)
  unfolding refined other_level
  refined-in =
      fold-keeps In 63 (other_level sum base)
      (λ s x h p. either In (eqb x s.best.level) s (consider sum base s (at_base sum base x)) (λ e. p) (λ e. considers (IsCandidate base) s (at_base sum base x) (at_base-listed x h) p))
      (keep (near (coarse sum base).best.level) (upward 0 64)) (keep-up-to 63 (near (coarse sum base).best.level) (upward 0 64) levels-listed) (coarse sum base) coarse-in

  -- a level above 0, and a sharpness
  Filtered : Candidate → Type 0
  Filtered c = (1 ≤ c.level) × (c.level ≤ 63) × (c.sharpness ≤ 7)

  above : (c : Candidate) → IsCandidate base c → (c.level ≡ 0 → ⊥) → Filtered c
  unfolding IsCandidate Filtered
  above c (inl (l, s)) h = absurd (h l)
  above c (inr p) h = p

  is_one : (c : Candidate) → Filtered c → IsCandidate base c
  unfolding IsCandidate Filtered
  is_one c p = inr p

  sharpened : ((refined sum base).best.level ≡ 0 → ⊥) → Filtered (fold (other_sharpness sum base) (refined sum base) (upward 0 8)).best
  unfolding other_sharpness Filtered
  sharpened h =
      fold-keeps (λ s. Filtered s.best) 7 (other_sharpness sum base)
      (λ s x l p. either (λ s. Filtered s.best) (eqb x base) s (consider sum base s (record { level = s.best.level; sharpness = x })) (λ e. p)
      (λ e. considers Filtered s (record { level = s.best.level; sharpness = x }) (p.0, p.1, l) p))
      (upward 0 8) sharpness-listed (refined sum base) (above (refined sum base).best refined-in h)

  searched-in : In (searched sum base)
  unfolding searched
  searched-in =
      either In (eqb (refined sum base).best.level 0) (refined sum base) (fold (other_sharpness sum base) (refined sum base) (upward 0 8)) (λ e. refined-in)
      (λ e. is_one (fold (other_sharpness sum base) (refined sum base) (upward 0 8)).best (sharpened (eqb-false (refined sum base).best.level 0 e)))

-- ---- the promise

pub promise : (W : Pass) (a : SearchCall W) → Promise W a
unfolding full_search after_pairs search
promise W a = record {
  one = subst (IsCandidate base) (sym h.is-best) (candidate-is base h.place h.within);
  own = h.own;
  least = at_most;
  first = λ c i b.
      let (k, l, e) = number_is base c i in
      subst (λ (x : Candidate). (full_search W a).sum < score W a x) (sym e)
      (h.first k (number-before base k h.place (subst (λ (x : Candidate). Before x (candidate_at base h.place)) e (subst (Before c) h.is-best b))));
  search =
      let q = at_most (searched (score W a) base).best (searched-in (score W a) base (base-low a.settings)) in
      let e = (none-smaller W a).sum in omega arith;
  count = let e = h.count in omega arith;
}
  where
    base : ℕ
    base = base_sharpness a.settings

    h : Leads (score W a) base 504 (full_search W a)
    h = leads (score W a) base 504

    at_most : (c : Candidate) → IsCandidate base c → (full_search W a).sum ≤ score W a c
    at_most c i =
        let (k, l, e) = number_is base c i in
        subst (λ (x : Candidate). (full_search W a).sum ≤ score W a x) (sym e) (h.least k l)

-- ---- a zero grid and lists of wrong length

-- unfiltered, the base sharpness and the unfiltered sum
pub nothing-to-choose : (W : Pass) (a : SearchCall W) → (zero_grid a.grid || W.wrong_length a.carried (macroblocks a.grid)) ≡ true
    → full_choice (full_search W a) ≡ record { level = 0; sharpness = base_sharpness a.settings; sum = error_sum a.grid a.reconstruction a.source }
unfolding full_choice IsCandidate Before score
nothing-to-choose W a h = by p.one
  where
    p : Promise W a
    p = promise W a

    same : (c : Candidate) → score W a c ≡ error_sum a.grid a.reconstruction a.source
    same c = ap (λ (x : Planes). error_sum a.grid x a.source) (planes-stay W a h c)

    by : IsCandidate (base_sharpness a.settings) (full_search W a).best
        → full_choice (full_search W a) ≡ record { level = 0; sharpness = base_sharpness a.settings; sum = error_sum a.grid a.reconstruction a.source }
    by (inl (l, s)) = λ i. record { level = l i; sharpness = s i; sum = (p.own ∙ same (full_search W a).best) i }
    by (inr (l, m, k)) =
        let u : Candidate = record { level = 0; sharpness = base_sharpness a.settings } in
        let q = p.first u (inl (refl, refl)) (inl (omega arith)) in
        let e = same u in
        let f = p.own ∙ same (full_search W a).best in absurd (omega arith)
