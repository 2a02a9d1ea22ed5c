-- A kernel on a window, as stores of its own: what stands at the window's samples, and which stores change nothing.
-- Assumes nothing.
use Rattle.std.proofs.Common.{◌≡◌, ℕ, Bool, true, false, cond, ◌≢◌, List, get_or, take, drop, set, ℤ, ◌+ℤ◌, ◌-ℤ◌, sym, refl, ap, ◌∙◌, arith, get_or-set_other}
use lib.Seq.{set-get_or}
use Rattle.arithmetic.specs.Numbers.{u2s, s2u}
use Rattle.kernels.specs.declared.taps.Taps.{Taps}
use Rattle.kernels.specs.Kernels as K
use Rattle.kernels.specs.Kernels.{segment_yes, segment_hev, adjusted_p0, adjusted_q0, simple_yes, outer_step, part, wide_value}
use Rattle.kernels.specs.Segment.{common_adjust, simple_segment, normal, half, taps, smooth, gather, scatter, segment, passes, passes_at}
use Rattle.kernels.specs.Private.Windows.{neighbours_near, low_variance, adjusted, softened_four, widened_six, smoothed}
use Rattle.kernels.specs.Private.Taps.{near_of, taps_of}
use Rattle.kernels.proofs.Apart.{yes-in-turn, hev-low}

-- a test that a function answered, and where it led
pub taken : {X : Type 0} (x y : X) {a f : Bool} → f ≡ a → f ≡ true → cond a x y ≡ x
taken x y e t = ap (λ (u : Bool). cond u x y) (sym e ∙ t)

pub left : {X : Type 0} (x y : X) {a f : Bool} → f ≡ a → f ≡ false → cond a x y ≡ y
left x y e t = ap (λ (u : Bool). cond u x y) (sym e ∙ t)

-- ---- stores that change nothing

-- a store of what stands there
same : (m : List ℕ) (i v : ℕ) → get_or m i 0 ≡ v → set m i v ≡ m
same m i v e = ap (set m i) (sym e) ∙ set-get_or m i 0

-- and after a store elsewhere
past : (m : List ℕ) (i j v w : ℕ) → j ≢ i → get_or m j 0 ≡ w → get_or (set m i v) j 0 ≡ w
past m i j v w n e = get_or-set_other m i j v 0 n ∙ e

-- the outcomes of two tests, each stored
both : (f : List ℕ → List ℕ) (s t : Bool) (x y z : List ℕ) → f (cond s (cond t x y) z) ≡ cond s (cond t (f x) (f y)) (f z)
both f true true x y z = refl
both f true false x y z = refl
both f false t x y z = refl

one : (f : List ℕ → List ℕ) (s : Bool) (x y : List ℕ) → f (cond s x y) ≡ cond s (f x) (f y)
one f true x y = refl
one f false x y = refl

-- the two tests of filter_yes
abbrev pub near_at : ℕ → Taps → Bool
near_at i w = neighbours_near i w.p3 w.p2 w.near.p1 w.near.p0 w.near.q0 w.near.q1 w.q2 w.q3

abbrev pub edge_at : ℕ → Taps → Bool
edge_at e w = simple_yes e w.near.p1 w.near.p0 w.near.q0 w.near.q1

module _ (l : List ℕ) where
  abbrev tap : ℕ → ℕ
  tap k = get_or l k 0

  -- ---- windows of four

  -- the two samples at the edge, stored
  pub common-window : (o : Bool) → segment (common_adjust o) (λ t. t) l ≡ adjusted 4 o l (near_of l)
  unfolding segment taps half smooth gather scatter K.common_adjust adjusted near_of
  common-window o = refl

  pub simple-window : (e : ℕ) → segment (simple_segment e) (λ t. t) l ≡ cond (simple_yes e (tap 0) (tap 1) (tap 2) (tap 3)) (adjusted 4 true l (near_of l)) l
  unfolding segment taps half smooth gather scatter K.simple_segment
  simple-window e =
      one (λ ts. scatter (λ t. t) 1 (take 2 (drop 1 ts)) l) (simple_yes e (tap 0) (tap 1) (tap 2) (tap 3)) _ _
      ∙ (λ i. cond (simple_yes e (tap 0) (tap 1) (tap 2) (tap 3)) (common-window true i) (kept i))
    where
      kept : set (set l 1 (tap 1)) 2 (tap 2) ≡ l
      kept = simp set-get_or

  pub simple-passes : (e : ℕ) → passes_at (simple_segment e) (λ t. t) l ≡ simple_yes e (tap 0) (tap 1) (tap 2) (tap 3)
  unfolding passes_at passes taps half gather
  simple-passes e = refl

  -- ---- windows of eight

  -- six samples stored, of which the two at the edge are new
  abbrev at_edge : ℕ → ℕ → List ℕ
  at_edge x y = set (set (set (set (set (set l 1 (tap 1)) 2 (tap 2)) 3 x) 4 y) 5 (tap 5)) 6 (tap 6)

  edge-only : (x y : ℕ) → at_edge x y ≡ set (set l 3 x) 4 y
  edge-only x y =
      ap (λ (m : List ℕ). set (set (set (set m 3 x) 4 y) 5 (tap 5)) 6 (tap 6)) two
      ∙ ap (λ (m : List ℕ). set m 6 (tap 6)) (same m2 5 (tap 5) (past (set l 3 x) 4 5 y (tap 5) (λ e. omega arith) (past l 3 5 x (tap 5) (λ e. omega arith) refl)))
      ∙ same m2 6 (tap 6) (past (set l 3 x) 4 6 y (tap 6) (λ e. omega arith) (past l 3 6 x (tap 6) (λ e. omega arith) refl))
    where
      m2 : List ℕ
      m2 = set (set l 3 x) 4 y

      two : set (set l 1 (tap 1)) 2 (tap 2) ≡ l
      two = simp set-get_or

  -- six samples stored, of which the inner four are new
  four-only : (x y z w : ℕ) → set (set (set (set (set (set l 1 (tap 1)) 2 x) 3 y) 4 z) 5 w) 6 (tap 6) ≡ set (set (set (set l 2 x) 3 y) 4 z) 5 w
  four-only x y z w =
      ap (λ (m : List ℕ). set (set (set (set (set m 2 x) 3 y) 4 z) 5 w) 6 (tap 6)) (set-get_or l 1 0)
      ∙ same m4 6 (tap 6) (past m3 5 6 w _ (λ e. omega arith) (past m2 4 6 z _ (λ e. omega arith) (past m1 3 6 y _ (λ e. omega arith) (past l 2 6 x _ (λ e. omega arith) refl))))
    where
      m1 : List ℕ
      m1 = set l 2 x

      m2 : List ℕ
      m2 = set m1 3 y

      m3 : List ℕ
      m3 = set m2 4 z

      m4 : List ℕ
      m4 = set m3 5 w

  six-kept : set (set (set (set (set (set l 1 (tap 1)) 2 (tap 2)) 3 (tap 3)) 4 (tap 4)) 5 (tap 5)) 6 (tap 6) ≡ l
  six-kept = simp set-get_or

  -- what the two kernels store at the six inner samples of the window
  abbrev stored : List ℕ → List ℕ
  stored ts = scatter (λ t. t) 1 (take 6 (drop 1 ts)) l

  abbrev yes : ℕ → ℕ → Bool
  yes i e = segment_yes i e (tap 0) (tap 1) (tap 2) (tap 3) (tap 4) (tap 5) (tap 6) (tap 7)

  abbrev hev : ℕ → Bool
  hev t = segment_hev t (tap 2) (tap 3) (tap 4) (tap 5)

  -- filter_yes tests the neighbours, then the edge, and hev leads where low variance does not
  in-turn : (t i e : ℕ) (x y : List ℕ) → cond (yes i e) (cond (hev t) x y) l
      ≡ cond (near_at i (taps_of l)) (cond (edge_at e (taps_of l)) (cond (low_variance t (tap 2) (tap 3) (tap 4) (tap 5)) y x) l) l
  unfolding taps_of
  in-turn t i e x y =
      yes-in-turn i e (tap 0) (tap 1) (tap 2) (tap 3) (tap 4) (tap 5) (tap 6) (tap 7) _ l
      ∙ ap (λ (m : List ℕ). cond (near_at i (taps_of l)) (cond (edge_at e (taps_of l)) m l) l) (hev-low t (tap 2) (tap 3) (tap 4) (tap 5) x y)

  abbrev high_p0 : ℕ
  high_p0 = adjusted_p0 true (tap 2) (tap 3) (tap 4) (tap 5)

  abbrev high_q0 : ℕ
  high_q0 = adjusted_q0 true (tap 2) (tap 3) (tap 4) (tap 5)

  -- the kernel, as its tests lead
  pub window : (wide : Bool) (t i e : ℕ) → segment (normal wide t i e) (λ j. j) l
      ≡ cond (near_at i (taps_of l)) (cond (edge_at e (taps_of l)) (smoothed wide t l (taps_of l)) l) l
  unfolding segment taps half smooth gather scatter K.subblock_filter K.mb_filter smoothed softened_four widened_six adjusted taps_of
  window true t i e =
      both stored (yes i e) (hev t) _ _ _
      ∙ (λ j. cond (yes i e) (cond (hev t) (edge-only high_p0 high_q0 j) (widened_six l (taps_of l))) (six-kept j))
      ∙ in-turn t i e _ _
  window false t i e =
      both stored (yes i e) (hev t) _ _ _
      ∙ (λ j. cond (yes i e) (cond (hev t) (edge-only high_p0 high_q0 j) (four-only (s2u (u2s (tap 2) +ℤ half_step)) low_p0 low_q0 (s2u (u2s (tap 5) -ℤ half_step)) j)) (six-kept j))
      ∙ in-turn t i e _ _
    where
      half_step : ℤ
      half_step = outer_step (tap 2) (tap 3) (tap 4) (tap 5)

      low_p0 : ℕ
      low_p0 = adjusted_p0 false (tap 2) (tap 3) (tap 4) (tap 5)

      low_q0 : ℕ
      low_q0 = adjusted_q0 false (tap 2) (tap 3) (tap 4) (tap 5)
