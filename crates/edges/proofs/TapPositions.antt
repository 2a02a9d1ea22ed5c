-- A position of a run: what the code computes on taps is what the kernels give on samples.
use mathlib.Core.Path.{◌≡◌, refl, sym, ap, ◌∙◌}
use mathlib.Core.Bool.{Bool, true, false, cond}
use mathlib.Core.List.{List, [], ◌∷◌}
use Prim.Native.Nat.{ℕ, ◌<◌}
use lib.Dec.{leb}
use lib.ListN.{get_or}
use lib.IntN.{ℤ, pos, ◌+ℤ◌, ◌-ℤ◌, +ℤ_idl, +ℤ_idr}
use lib.Signed.{mag}
use Rattle.arithmetic.specs.Numbers.{clamp, u2s, s2u, shr}
use Rattle.kernels.specs.Kernels as K
use Rattle.kernels.specs.Kernels.{edge_value, filter_value, filter_yes, hev, gain_of, loss_of, part, adjustment, adjusted_p0, adjusted_q0, outer_step, wide_value, segment_yes, segment_hev, simple_yes}
use Rattle.kernels.specs.Segment.{simple_segment, subblock_filter, mb_filter, smooth}
use Rattle.arithmetic.proofs.Ranges as R
use Rattle.kernels.proofs.Apart.{edge-signed}
use Rattle.edges.specs.declared.position.InnerTaps.{InnerTaps}
use Rattle.edges.specs.declared.position.EdgeTaps.{EdgeTaps}
use Rattle.edges.specs.declared.position.FourTaps.{FourTaps}
use Rattle.edges.specs.declared.position.EightTaps.{EightTaps}
use Rattle.edges.specs.Taps.{inner_taps, SignedEight, SignedFour}
use Rattle.edges.specs.Private.Runs.{edge_taps, widened, softened, SignedSix, simple_passes, normal_passes, high_of, value_of}
use Rattle.edges.proofs.TapNumbers.{u2s-s2u, again, s2u-byte}

-- ---- a move of 0, and one that is stored

zero9 : part 9 (pos 0) ≡ pos 0
unfolding part clamp shr
zero9 = refl

zero18 : part 18 (pos 0) ≡ pos 0
unfolding part clamp shr
zero18 = refl

zero27 : part 27 (pos 0) ≡ pos 0
unfolding part clamp shr
zero27 = refl

gain0 : gain_of (pos 0) ≡ pos 0
unfolding gain_of clamp shr
gain0 = refl

loss0 : loss_of (pos 0) ≡ pos 0
unfolding loss_of clamp shr
loss0 = refl

half0 : shr (loss_of (pos 0) +ℤ pos 1) 1 ≡ pos 0
unfolding loss_of clamp shr
half0 = refl

up0 : (P : ℕ) (a : ℤ) → P < 256 → a ≡ pos 0 → u2s P ≡ clamp (u2s P +ℤ a)
up0 P a h e = sym (ap (λ (z : ℤ). clamp (u2s P +ℤ z)) e ∙ ap clamp (+ℤ_idr (u2s P)) ∙ R.clamp-id (u2s P) (R.u2s-in P h))

dn0 : (P : ℕ) (a : ℤ) → P < 256 → a ≡ pos 0 → u2s P ≡ clamp (u2s P -ℤ a)
dn0 P a h e = sym (ap (λ (z : ℤ). clamp (u2s P -ℤ z)) e ∙ ap clamp (+ℤ_idr (u2s P)) ∙ R.clamp-id (u2s P) (R.u2s-in P h))

up_s : (P : ℕ) (a b : ℤ) → a ≡ b → u2s (s2u (u2s P +ℤ a)) ≡ clamp (u2s P +ℤ b)
up_s P a b e = u2s-s2u (u2s P +ℤ a) ∙ ap (λ (z : ℤ). clamp (u2s P +ℤ z)) e

dn_s : (P : ℕ) (a b : ℤ) → a ≡ b → u2s (s2u (u2s P -ℤ a)) ≡ clamp (u2s P -ℤ b)
dn_s P a b e = u2s-s2u (u2s P -ℤ a) ∙ ap (λ (z : ℤ). clamp (u2s P -ℤ z)) e

-- a sum of which one part is 0
left0 : (a b : ℤ) → a ≡ pos 0 → b ≡ a +ℤ b
left0 a b e = sym (ap (λ (z : ℤ). z +ℤ b) e ∙ +ℤ_idl b)

right0 : (a b : ℤ) → b ≡ pos 0 → a ≡ a +ℤ b
right0 a b e = sym (ap (λ (z : ℤ). a +ℤ z) e ∙ +ℤ_idr a)

none : (a b : ℤ) → a ≡ pos 0 → b ≡ pos 0 → a +ℤ b ≡ pos 0
none a b e f = λ i. e i +ℤ f i

-- ---- on samples

-- samples as taps
abbrev four_of : (P1 P0 Q0 Q1 : ℕ) → FourTaps
four_of P1 P0 Q0 Q1 = record { p1 = u2s P1; p0 = u2s P0; q0 = u2s Q0; q1 = u2s Q1 }

abbrev taps_of : (P3 P2 P1 P0 Q0 Q1 Q2 Q3 : ℕ) → EightTaps
taps_of P3 P2 P1 P0 Q0 Q1 Q2 Q3 = record { p3 = u2s P3; p2 = u2s P2; near = four_of P1 P0 Q0 Q1; q2 = u2s Q2; q3 = u2s Q3 }

-- the inner taps of eight samples
six_of : List ℕ → InnerTaps
six_of vs = record { p2 = u2s (get_or vs 1 0); p1 = u2s (get_or vs 2 0); p0 = u2s (get_or vs 3 0); q0 = u2s (get_or vs 4 0); q1 = u2s (get_or vs 5 0); q2 = u2s (get_or vs 6 0) }

module _ (P3 P2 P1 P0 Q0 Q1 Q2 Q3 : ℕ) (h2 : P2 < 256) (h1 : P1 < 256) (h0 : P0 < 256) (k0 : Q0 < 256) (k1 : Q1 < 256) (k2 : Q2 < 256) where
  mb-still : (v : Bool) → six_of (P3 ∷ P2 ∷ P1 ∷ P0 ∷ Q0 ∷ Q1 ∷ Q2 ∷ Q3 ∷ []) ≡ widened v (pos 0) (taps_of P3 P2 P1 P0 Q0 Q1 Q2 Q3)
  unfolding six_of widened
  mb-still true = λ i. record { p2 = up0 P2 _ h2 zero9 i; p1 = up0 P1 _ h1 zero18 i; p0 = up0 P0 _ h0 (none _ _ zero27 gain0) i; q0 = dn0 Q0 _ k0 (none _ _ zero27 loss0) i; q1 = dn0 Q1 _ k1 zero18 i; q2 = dn0 Q2 _ k2 zero9 i }
  mb-still false = λ i. record { p2 = up0 P2 _ h2 zero9 i; p1 = up0 P1 _ h1 zero18 i; p0 = up0 P0 _ h0 (none _ _ zero27 gain0) i; q0 = dn0 Q0 _ k0 (none _ _ zero27 loss0) i; q1 = dn0 Q1 _ k1 zero18 i; q2 = dn0 Q2 _ k2 zero9 i }

  mb-cases : (y v : Bool) (w : ℤ) →
      six_of
      (cond y
      (cond v
      (P3 ∷ P2 ∷ P1 ∷ s2u (u2s P0 +ℤ gain_of w) ∷ s2u (u2s Q0 -ℤ loss_of w) ∷ Q1 ∷ Q2 ∷ Q3 ∷ [])
      (P3 ∷ s2u (u2s P2 +ℤ part 9 w) ∷ s2u (u2s P1 +ℤ part 18 w) ∷ s2u (u2s P0 +ℤ part 27 w) ∷ s2u (u2s Q0 -ℤ part 27 w) ∷ s2u (u2s Q1 -ℤ part 18 w) ∷ s2u (u2s Q2 -ℤ part 9 w) ∷ Q3 ∷ []))
      (P3 ∷ P2 ∷ P1 ∷ P0 ∷ Q0 ∷ Q1 ∷ Q2 ∷ Q3 ∷ []))
      ≡ widened v (cond y w (pos 0)) (taps_of P3 P2 P1 P0 Q0 Q1 Q2 Q3)
  unfolding six_of widened
  mb-cases true true w = λ i. record { p2 = up0 P2 _ h2 zero9 i; p1 = up0 P1 _ h1 zero18 i; p0 = up_s P0 (gain_of w) _ (left0 _ _ zero27) i; q0 = dn_s Q0 (loss_of w) _ (left0 _ _ zero27) i; q1 = dn0 Q1 _ k1 zero18 i; q2 = dn0 Q2 _ k2 zero9 i }
  mb-cases true false w = λ i. record { p2 = up_s P2 (part 9 w) _ refl i; p1 = up_s P1 (part 18 w) _ refl i; p0 = up_s P0 (part 27 w) _ (right0 _ _ gain0) i; q0 = dn_s Q0 (part 27 w) _ (right0 _ _ loss0) i; q1 = dn_s Q1 (part 18 w) _ refl i; q2 = dn_s Q2 (part 9 w) _ refl i }
  mb-cases false v w = mb-still v

  sub_cases : (y v : Bool) (a : Bool → ℤ) →
      six_of
      (cond y
      (cond v
      (P3 ∷ P2 ∷ P1 ∷ s2u (u2s P0 +ℤ gain_of (a true)) ∷ s2u (u2s Q0 -ℤ loss_of (a true)) ∷ Q1 ∷ Q2 ∷ Q3 ∷ [])
      (P3 ∷ P2 ∷ s2u (u2s P1 +ℤ shr (loss_of (a false) +ℤ pos 1) 1) ∷ s2u (u2s P0 +ℤ gain_of (a false)) ∷ s2u (u2s Q0 -ℤ loss_of (a false)) ∷ s2u (u2s Q1 -ℤ shr (loss_of (a false) +ℤ pos 1) 1) ∷ Q2 ∷ Q3 ∷ []))
      (P3 ∷ P2 ∷ P1 ∷ P0 ∷ Q0 ∷ Q1 ∷ Q2 ∷ Q3 ∷ []))
      ≡ softened v (cond y (a v) (pos 0)) (taps_of P3 P2 P1 P0 Q0 Q1 Q2 Q3)
  unfolding six_of softened
  sub_cases true true a = λ i. record { p2 = u2s P2; p1 = up0 P1 _ h1 refl i; p0 = up_s P0 (gain_of (a true)) _ refl i; q0 = dn_s Q0 (loss_of (a true)) _ refl i; q1 = dn0 Q1 _ k1 refl i; q2 = u2s Q2 }
  sub_cases true false a = λ i. record { p2 = u2s P2; p1 = up_s P1 (shr (loss_of (a false) +ℤ pos 1) 1) _ refl i; p0 = up_s P0 (gain_of (a false)) _ refl i; q0 = dn_s Q0 (loss_of (a false)) _ refl i; q1 = dn_s Q1 (shr (loss_of (a false) +ℤ pos 1) 1) _ refl i; q2 = u2s Q2 }
  sub_cases false true a = λ i. record { p2 = u2s P2; p1 = up0 P1 _ h1 refl i; p0 = up0 P0 _ h0 gain0 i; q0 = dn0 Q0 _ k0 loss0 i; q1 = dn0 Q1 _ k1 refl i; q2 = u2s Q2 }
  sub_cases false false a = λ i. record { p2 = u2s P2; p1 = up0 P1 _ h1 half0 i; p0 = up0 P0 _ h0 gain0 i; q0 = dn0 Q0 _ k0 loss0 i; q1 = dn0 Q1 _ k1 half0 i; q2 = u2s Q2 }

  module _ (t n e : ℕ) where
    mb-samples : six_of (K.mb_filter t n e P3 P2 P1 P0 Q0 Q1 Q2 Q3)
        ≡ widened (high_of t (four_of P1 P0 Q0 Q1))
        (cond (normal_passes n e (taps_of P3 P2 P1 P0 Q0 Q1 Q2 Q3)) (value_of true (four_of P1 P0 Q0 Q1)) (pos 0))
        (taps_of P3 P2 P1 P0 Q0 Q1 Q2 Q3)
    unfolding K.mb_filter segment_yes segment_hev adjusted_p0 adjusted_q0 adjustment wide_value
    mb-samples = mb-cases (normal_passes n e (taps_of P3 P2 P1 P0 Q0 Q1 Q2 Q3)) (high_of t (four_of P1 P0 Q0 Q1)) (value_of true (four_of P1 P0 Q0 Q1))

    sub-samples : six_of (K.subblock_filter t n e P3 P2 P1 P0 Q0 Q1 Q2 Q3)
        ≡ softened (high_of t (four_of P1 P0 Q0 Q1))
        (cond (normal_passes n e (taps_of P3 P2 P1 P0 Q0 Q1 Q2 Q3)) (value_of (high_of t (four_of P1 P0 Q0 Q1)) (four_of P1 P0 Q0 Q1)) (pos 0))
        (taps_of P3 P2 P1 P0 Q0 Q1 Q2 Q3)
    unfolding K.subblock_filter segment_yes segment_hev adjusted_p0 adjusted_q0 adjustment outer_step
    sub-samples = sub_cases (normal_passes n e (taps_of P3 P2 P1 P0 Q0 Q1 Q2 Q3)) (high_of t (four_of P1 P0 Q0 Q1)) (λ o. value_of o (four_of P1 P0 Q0 Q1))

simple-cases : (P1 P0 Q0 Q1 : ℕ) → P0 < 256 → Q0 < 256 → (y : Bool) (a : ℤ) →
    ◌≡◌ {A = EdgeTaps}
    (record {
      p0 = u2s (get_or (cond y (P1 ∷ s2u (u2s P0 +ℤ gain_of a) ∷ s2u (u2s Q0 -ℤ loss_of a) ∷ Q1 ∷ []) (P1 ∷ P0 ∷ Q0 ∷ Q1 ∷ [])) 1 0);
      q0 = u2s (get_or (cond y (P1 ∷ s2u (u2s P0 +ℤ gain_of a) ∷ s2u (u2s Q0 -ℤ loss_of a) ∷ Q1 ∷ []) (P1 ∷ P0 ∷ Q0 ∷ Q1 ∷ [])) 2 0);
    })
    (record { p0 = clamp (u2s P0 +ℤ gain_of (cond y a (pos 0))); q0 = clamp (u2s Q0 -ℤ loss_of (cond y a (pos 0))) })
simple-cases P1 P0 Q0 Q1 h k true a = λ i. record { p0 = up_s P0 (gain_of a) _ refl i; q0 = dn_s Q0 (loss_of a) _ refl i }
simple-cases P1 P0 Q0 Q1 h k false a = λ i. record { p0 = up0 P0 _ h gain0 i; q0 = dn0 Q0 _ k loss0 i }

-- ---- on taps

-- taps that are stored read back
four-again : (s : FourTaps) → SignedFour s → four_of (s2u s.p1) (s2u s.p0) (s2u s.q0) (s2u s.q1) ≡ s
four-again s h =
    let p1 = again s.p1 h.p1-in in
    let p0 = again s.p0 h.p0-in in
    let q0 = again s.q0 h.q0-in in
    let q1 = again s.q1 h.q1-in in
    (λ i. record { p1 = p1 i; p0 = p0 i; q0 = q0 i; q1 = q1 i })

eight-again : (s : EightTaps) → SignedEight s → taps_of (s2u s.p3) (s2u s.p2) (s2u s.near.p1) (s2u s.near.p0) (s2u s.near.q0) (s2u s.near.q1) (s2u s.q2) (s2u s.q3) ≡ s
eight-again s h =
    let p3 = again s.p3 h.p3-in in
    let p2 = again s.p2 h.p2-in in
    let near = four-again s.near h.near-in in
    let q2 = again s.q2 h.q2-in in
    let q3 = again s.q3 h.q3-in in
    (λ i. record { p3 = p3 i; p2 = p2 i; near = near i; q2 = q2 i; q3 = q3 i })

module _ (t n e : ℕ) (s : EightTaps) (h : SignedEight s) where
  pub mb-taps : inner_taps (mb_filter t n e) s ≡ widened (high_of t s.near) (cond (normal_passes n e s) (value_of true s.near) (pos 0)) s
  unfolding inner_taps smooth six_of
  mb-taps =
      mb-samples (s2u s.p3) (s2u s.p2) (s2u s.near.p1) (s2u s.near.p0) (s2u s.near.q0) (s2u s.near.q1) (s2u s.q2) (s2u s.q3) (s2u-byte s.p2) (s2u-byte s.near.p1) (s2u-byte s.near.p0) (s2u-byte s.near.q0) (s2u-byte s.near.q1) (s2u-byte s.q2) t n e
      ∙ ap (λ (x : EightTaps). widened (high_of t x.near) (cond (normal_passes n e x) (value_of true x.near) (pos 0)) x) (eight-again s h)

  pub sub-taps : inner_taps (subblock_filter t n e) s ≡ softened (high_of t s.near) (cond (normal_passes n e s) (value_of (high_of t s.near) s.near) (pos 0)) s
  unfolding inner_taps smooth six_of
  sub-taps =
      sub-samples (s2u s.p3) (s2u s.p2) (s2u s.near.p1) (s2u s.near.p0) (s2u s.near.q0) (s2u s.near.q1) (s2u s.q2) (s2u s.q3) (s2u-byte s.p2) (s2u-byte s.near.p1) (s2u-byte s.near.p0) (s2u-byte s.near.q0) (s2u-byte s.near.q1) (s2u-byte s.q2) t n e
      ∙ ap (λ (x : EightTaps). softened (high_of t x.near) (cond (normal_passes n e x) (value_of (high_of t x.near) x.near) (pos 0)) x) (eight-again s h)

  pub mb-in : SignedSix (inner_taps (mb_filter t n e) s)
  unfolding widened
  mb-in = rw mb-taps (record { p2-in = R.clamp-in _; p1-in = R.clamp-in _; p0-in = R.clamp-in _; q0-in = R.clamp-in _; q1-in = R.clamp-in _; q2-in = R.clamp-in _ })

  pub sub_in : SignedSix (inner_taps (subblock_filter t n e) s)
  unfolding softened
  sub_in = rw sub-taps (record { p2-in = h.p2-in; p1-in = R.clamp-in _; p0-in = R.clamp-in _; q0-in = R.clamp-in _; q1-in = R.clamp-in _; q2-in = h.q2-in })

pub simple-taps : (e : ℕ) (s : FourTaps) → SignedFour s
    → edge_taps (simple_segment e) s
    ≡ record { p0 = clamp (s.p0 +ℤ gain_of (cond (simple_passes e s) (value_of true s) (pos 0))); q0 = clamp (s.q0 -ℤ loss_of (cond (simple_passes e s) (value_of true s) (pos 0))) }
unfolding edge_taps smooth K.simple_segment K.common_adjust simple_yes adjusted_p0 adjusted_q0 adjustment
simple-taps e s h =
    let same = four-again s h in
    let raw = sym (edge-signed (s2u s.p1) (s2u s.p0) (s2u s.q0) (s2u s.q1)) ∙ ap (λ (x : FourTaps). edge_value x.p1 x.p0 x.q0 x.q1) same in
    simple-cases (s2u s.p1) (s2u s.p0) (s2u s.q0) (s2u s.q1) (s2u-byte s.p0) (s2u-byte s.q0) (leb (edge_value (pos (s2u s.p1)) (pos (s2u s.p0)) (pos (s2u s.q0)) (pos (s2u s.q1))) e) (value_of true (four_of (s2u s.p1) (s2u s.p0) (s2u s.q0) (s2u s.q1)))
    ∙ (λ i. record {
      p0 = clamp ((same i).p0 +ℤ gain_of (cond (leb (raw i) e) (value_of true (same i)) (pos 0)));
      q0 = clamp ((same i).q0 -ℤ loss_of (cond (leb (raw i) e) (value_of true (same i)) (pos 0)));
    })

pub record SignedTwo (s : EdgeTaps) : Type 0 where
  pub p0-in : mag s.p0 < 128
  pub q0-in : mag s.q0 < 128

pub simple-in : (e : ℕ) (s : FourTaps) → SignedFour s → SignedTwo (edge_taps (simple_segment e) s)
simple-in e s h = rw (simple-taps e s h) (record { p0-in = R.clamp-in _; q0-in = R.clamp-in _ })
