-- Windows that the bounds decide: which tests of filter_yes and hev follow, and that the kernels answer as the definitions do.
-- Assumes nothing.
use Rattle.std.proofs.Common.{◌≡◌, ℕ, ◌+◌, ◌*◌, ◌≤◌, Bool, true, false, cond, ◌&&◌, eqb, leb, List, pos, sym, refl, ap, ◌∙◌, subst, arith, eqb-true, le-leb, leb-true}
use Rattle.kernels.specs.declared.limits.EdgeLimits.{EdgeLimits}
use Rattle.kernels.specs.declared.taps.Taps.{Taps}
use Rattle.kernels.specs.declared.bounds.Bounds.{Bounds}
use Rattle.kernels.specs.Kernels.{apart, edge_value, simple_yes}
use Rattle.kernels.specs.Private.Windows.{neighbours_near, low_variance, adjusted, softened_four, widened_six, smoothed, Filtered}
use Rattle.kernels.specs.Private.Taps.{taps_of, outer_near, inner_near, edge_sum, Bounded, Outer, Window, plain_high, plain_low}
use Rattle.kernels.proofs.Apart.{apart-sym, triangle, twice}
use Rattle.kernels.proofs.Windows.{near_at}
use Rattle.kernels.proofs.Filtered.{far, done}
use Rattle.kernels.proofs.Sums.{two-is, four-is, six-is}
use Rattle.kernels.proofs.Stores.{first-of, rest-of}

-- ---- tests in another order

shuffle : (a b c d e f : Bool) → (a && b && c && d && e && f) ≡ (((a && b) && (d && e)) && (c && f))
shuffle false b c d e f = refl
shuffle true false c d e f = refl
shuffle true true true true e f = refl
shuffle true true true false e f = refl
shuffle true true false true true f = refl
shuffle true true false true false f = refl
shuffle true true false false e f = refl

-- the six distances of filter_yes are the outer four and the inner two
parts : (i : ℕ) (w : Taps) → near_at i w ≡ (outer_near i w && inner_near i w)
unfolding neighbours_near outer_near low_variance
parts i w =
    (λ j. leb (apart-sym w.p3 w.p2 j) i && leb (apart (pos w.p2) (pos w.near.p1)) i && leb (apart (pos w.near.p1) (pos w.near.p0)) i
    && leb (apart-sym w.q3 w.q2 j) i && leb (apart (pos w.q2) (pos w.near.q1)) i && leb (apart (pos w.near.q1) (pos w.near.q0)) i)
    ∙ shuffle (leb (apart (pos w.p2) (pos w.p3)) i) (leb (apart (pos w.p2) (pos w.near.p1)) i) (leb (apart (pos w.near.p1) (pos w.near.p0)) i)
    (leb (apart (pos w.q2) (pos w.q3)) i) (leb (apart (pos w.q2) (pos w.near.q1)) i) (leb (apart (pos w.near.q1) (pos w.near.q0)) i)

-- ---- distances within a bound

record Inner (m : ℕ) (w : Taps) : Type 0 where
  p : apart (pos w.near.p1) (pos w.near.p0) ≤ m
  q : apart (pos w.near.q1) (pos w.near.q0) ≤ m

inner : (m : ℕ) (w : Taps) → inner_near m w ≡ true → Inner m w
unfolding low_variance
inner m w e = record {
  p = leb-true _ m (first-of (leb (apart (pos w.near.p1) (pos w.near.p0)) m) (leb (apart (pos w.near.q1) (pos w.near.q0)) m) e);
  q = leb-true _ m (rest-of (leb (apart (pos w.near.p1) (pos w.near.p0)) m) (leb (apart (pos w.near.q1) (pos w.near.q0)) m) e);
}

-- a larger bound holds too
wider : (m n : ℕ) (w : Taps) → m ≤ n → inner_near m w ≡ true → inner_near n w ≡ true
unfolding low_variance
wider m n w h e =
    let k = inner m w e in
    λ j. le-leb (apart (pos w.near.p1) (pos w.near.p0)) n (omega (arith, k.p)) j && le-leb (apart (pos w.near.q1) (pos w.near.q0)) n (omega (arith, k.q)) j

-- |p1 - q1| is at most |p0 - q0| and the two inner distances
sums : (m k s : ℕ) (w : Taps) → Inner m w → apart (pos w.near.q0) (pos w.near.p0) ≤ k → 5 * k + 2 * m ≤ s → edge_sum w.near ≤ s
sums m k s w x h f =
    omega (arith, x.p, x.q, triangle w.near.p1 w.near.p0 w.near.q1, triangle w.near.p0 w.near.q0 w.near.q1, apart-sym w.near.q0 w.near.p0, apart-sym w.near.q1 w.near.q0)

edge-passes : (e : ℕ) (w : Taps) → edge_sum w.near ≤ 2 * e + 1 → simple_yes e w.near.p1 w.near.p0 w.near.q0 w.near.q1 ≡ true
unfolding simple_yes edge_value
edge-passes e w h = sym (twice (apart (pos w.near.p0) (pos w.near.q0)) (apart (pos w.near.p1) (pos w.near.q1)) e) ∙ le-leb (edge_sum w.near) (2 * e + 1) h

-- ---- what the kernels answer

pub outer-far : (wide : Bool) (m : EdgeLimits) (l : List ℕ) (w : Taps) → w ≡ taps_of l → outer_near m.interior w ≡ false → Filtered wide m l false l
outer-far wide m l w p o = far wide m l w p (parts m.interior w ∙ ap (λ (v : Bool). v && inner_near m.interior w) o)

module _ (wide : Bool) (l : List ℕ) (w : Taps) (s : Bounds) (x : Window l w s) where
  pub inner-far : inner_near s.limits.interior w ≡ false → Filtered wide s.limits l false l
  inner-far n = far wide s.limits l w x.outer.taps (parts s.limits.interior w ∙ (λ j. x.outer.near j && n j))

  -- what the kernel leaves where its tests pass, with low variance
  abbrev low : List ℕ
  low = cond wide (widened_six l w) (softened_four l w.near)

  by-variance : {t : Bool} → inner_near s.limits.threshold w ≡ t → smoothed wide s.limits.threshold l w ≡ cond t low (adjusted 8 true l w.near)
  unfolding smoothed
  by-variance e = ap (λ (v : Bool). cond v low (adjusted 8 true l w.near)) e

  passes : inner_near s.limits.interior w ≡ true → edge_sum w.near ≤ s.sum → (l' : List ℕ) → l' ≡ smoothed wide s.limits.threshold l w → Filtered wide s.limits l true l'
  passes n h l' g =
      done wide s.limits l w x.outer.taps (parts s.limits.interior w ∙ (λ j. x.outer.near j && n j)) (edge-passes s.limits.limit w (omega (arith, x.safe.edges))) l' g

  plain : edge_sum w.near ≤ 123 → plain_low wide l w ≡ low
  plain h = pick wide
    where
      pick : (v : Bool) → plain_low v l w ≡ cond v (widened_six l w) (softened_four l w.near)
      pick true = six-is w h l
      pick false = four-is w.near h l

  -- the step within its bound, and with it the sum
  pub low-plain : inner_near s.inner w ≡ true → leb (apart (pos w.near.q0) (pos w.near.p0)) s.step ≡ true
      → (l' : List ℕ) → l' ≡ plain_low wide l w → Filtered wide s.limits l true l'
  low-plain n k l' g =
      let h : edge_sum w.near ≤ s.sum = sums s.inner s.step s.sum w (inner s.inner w n) (leb-true _ s.step k) x.safe.sums in
      passes (wider s.inner s.limits.interior w x.safe.within n) h l'
      (g ∙ plain (omega (arith, x.safe.few)) ∙ sym (by-variance (wider s.inner s.limits.threshold w x.safe.low n)))

  -- the sum within its bound, and an inner distance above the threshold
  pub high-plain : inner_near s.inner w ≡ false → inner_near s.limits.interior w ≡ true
      → (leb (edge_sum w.near) s.sum && eqb s.limits.threshold s.inner) ≡ true → (l' : List ℕ) → l' ≡ plain_high l w → Filtered wide s.limits l true l'
  high-plain n y k l' g =
      let h : edge_sum w.near ≤ s.sum = leb-true (edge_sum w.near) s.sum (first-of (leb (edge_sum w.near) s.sum) (eqb s.limits.threshold s.inner) k) in
      let m : s.limits.threshold ≡ s.inner = eqb-true s.limits.threshold s.inner (rest-of (leb (edge_sum w.near) s.sum) (eqb s.limits.threshold s.inner) k) in
      passes y h l' (g ∙ two-is w.near (omega (arith, x.safe.few)) l ∙ sym (by-variance (ap (λ (v : ℕ). inner_near v w) m ∙ n)))

-- the bounds of the limits themselves
module _ {m : EdgeLimits} {s : Bounds} {l : List ℕ} (q : Bounded m s) where
  pub within : {w : Taps} → Outer m.interior l w → Window l w s
  within {w} x = record { outer = subst (λ (n : EdgeLimits). Outer n.interior l w) (sym q.of-limits) x; safe = q.safe }
