-- What functions on a plane did, put together: edges that fit are filtered and counted, one after the other.
-- Assumes nothing.
use mathlib.Core.Path.{◌≡◌, sym, ap, ◌∙◌}
use mathlib.Core.Bool.{Bool, true, false, cond}
use mathlib.Core.List.{List}
use Prim.Native.Nat.{ℕ, ◌+◌, ◌-◌, ◌*◌, ◌≤◌}
use native.Mathlib.Nat.{add-zero, add_assoc}
use native.Mathlib.Omega.{arith}
use lib.ListN.{length}
use Rattle.kernels.specs.Segment.{Kernel, taps}
use Rattle.planes.specs.Edges.{Direction, vertical, horizontal}
use Rattle.planes.specs.Private.Worked.{Worked}
use Rattle.edges.specs.EdgeFrom.{edge_from, edge_fits, edge_within, smoothed_from, smoothed_within}
use Rattle.edges.proofs.EdgeRoom.{vertical-within, horizontal-within, vertical-counted, horizontal-counted}
use Rattle.edges.proofs.VerticalRows.{counted-most}
use Rattle.planes.specs.Steps.{steps}
use Rattle.planes.proofs.Steps.{steps-last}
use Rattle.frame.specs.Private.PlaneEdges.{along, Did}

-- ---- nothing; one thing after another; a thing that a test chose

did_nothing : (most : ℕ) (l : List ℕ) → Did most (λ w. w) l l 0
did_nothing most l = record { few = omega arith; worked = λ n. ap (λ (k : ℕ). record { samples = l; smoothed = k }) (add-zero n) }

pub did_then : {a b : ℕ} {f g : Worked → Worked} {l l₁ l₂ : List ℕ} {r₁ r₂ : ℕ} → Did a f l l₁ r₁ → Did b g l₁ l₂ r₂ → Did (a + b) (λ w. g (f w)) l l₂ (r₁ + r₂)
did_then {g = g} {l₂ = l₂} {r₁ = r₁} {r₂ = r₂} d e = record {
  few = omega (arith, d.few, e.few);
  worked = λ n. ap (λ (k : ℕ). record { samples = l₂; smoothed = k }) (sym (add_assoc n r₁ r₂)) ∙ e.worked (n + r₁) ∙ ap g (d.worked n);
}

pub did-if : {most : ℕ} {f : Worked → Worked} {l l' : List ℕ} {r : ℕ} (b : Bool) → b ≡ true → Did most f l l' r → Did most (λ w. cond b (f w) w) l l' r
did-if {f = f} {l = l} b e d = record { few = d.few; worked = λ n. d.worked n ∙ sym (ap (λ (t : Bool). cond t (f (record { samples = l; smoothed = n })) (record { samples = l; smoothed = n })) e) }

pub did-not : (most : ℕ) (f : Worked → Worked) (l : List ℕ) (b : Bool) → b ≡ false → Did most (λ w. cond b (f w) w) l l 0
did-not most f l b e = record { few = omega arith; worked = λ n. (did_nothing most l).worked n ∙ sym (ap (λ (t : Bool). cond t (f (record { samples = l; smoothed = n })) (record { samples = l; smoothed = n })) e) }

-- ---- an edge that fits

pub within-most : (d : Direction) (k : Kernel) (s base n : ℕ) (l : List ℕ) (r : ℕ) → r ≡ smoothed_within d k s base n l → r ≤ n
unfolding smoothed_within
within-most d k s base n l r e = omega (arith, e, by (edge_fits d k s base n (length l)))
  where
    by : (b : Bool) → cond b (smoothed_from d k s base n l) 0 ≤ n
    by true = counted-most d k s base n l
    by false = omega arith

did-along : (d : Direction) (k : Kernel) (s base n : ℕ) (l l' : List ℕ) (r : ℕ) → l' ≡ edge_from d k s base n l → r ≡ smoothed_from d k s base n l → Did n (along d k s base n) l l' r
unfolding along
did-along d k s base n l l' r e q = record {
  few = omega (arith, q, counted-most d k s base n l);
  worked = λ m. λ i. record { samples = e i; smoothed = m + q i };
}

module _ (k : Kernel) (s base n : ℕ) (l l' : List ℕ) (r : ℕ) where
  pub did-vertical : base + (n - 1) * s + taps k ≤ length l → l' ≡ edge_within vertical k s base n l → r ≡ smoothed_within vertical k s base n l → Did n (along vertical k s base n) l l' r
  did-vertical room e q = did-along vertical k s base n l l' r (e ∙ vertical-within k s base n l room) (q ∙ vertical-counted k s base n l room)

  pub did-horizontal : n ≤ s → base + (taps k - 1) * s + n ≤ length l → l' ≡ edge_within horizontal k s base n l → r ≡ smoothed_within horizontal k s base n l → Did n (along horizontal k s base n) l l' r
  did-horizontal wide room e q = did-along horizontal k s base n l l' r (e ∙ horizontal-within k s base n l wide room) (q ∙ horizontal-counted k s base n l wide room)

-- ---- numbered things, one a turn

module _ (f : ℕ → Worked → Worked) (most : ℕ) {l : List ℕ} where
  pub did-first : Did (most * (1 - 1)) (steps f 1 (1 - 1)) l l 0
  unfolding steps
  did-first = did_nothing (most * (1 - 1)) l

  pub did-next : (n : ℕ) {l₁ l₂ : List ℕ} {r₁ r₂ : ℕ} → 1 ≤ n → Did (most * (n - 1)) (steps f 1 (n - 1)) l l₁ r₁ → Did most (f n) l₁ l₂ r₂ → Did (most * (n + 1 - 1)) (steps f 1 (n + 1 - 1)) l l₂ (r₁ + r₂)
  did-next n h d e =
      let next : n + 1 - 1 ≡ n - 1 + 1 = omega arith in
      let this : 1 + (n - 1) ≡ n = omega arith in
      record {
        few = omega (arith, d.few, e.few, ap (λ (k : ℕ). most * k) next);
        worked = λ m. (did_then d e).worked m
            ∙ sym (ap (λ (k : ℕ). steps f 1 k (record { samples = l; smoothed = m })) next ∙ steps-last f 1 (n - 1) (record { samples = l; smoothed = m }) ∙ ap (λ (k : ℕ). f k (steps f 1 (n - 1) (record { samples = l; smoothed = m }))) this);
      }
