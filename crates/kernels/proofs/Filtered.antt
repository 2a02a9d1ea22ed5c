-- What the normal kernels answer on a window, from the two tests of filter_yes.
-- Assumes nothing.
use Rattle.std.proofs.Common.{◌≡◌, ℕ, Bool, true, false, cond, List, get_or, sym, refl, ap, ◌∙◌, subst}
use Rattle.kernels.specs.declared.limits.EdgeLimits.{EdgeLimits}
use Rattle.kernels.specs.declared.taps.Taps.{Taps}
use Rattle.kernels.specs.Kernels.{segment_yes}
use Rattle.kernels.specs.Segment.{half, taps, gather, segment, normal, passes, passes_at}
use Rattle.kernels.specs.Private.Windows.{smoothed, window_yes, Filtered}
use Rattle.kernels.specs.Private.Taps.{taps_of}
use Rattle.kernels.proofs.Apart.{yes-in-turn}
use Rattle.kernels.proofs.Windows.{near_at, edge_at, window}

itself : (t : Bool) → cond t true false ≡ t
itself true = refl
itself false = refl

-- the test that the definition counts by
pub window-passes : (wide : Bool) (t i e : ℕ) (l : List ℕ) → window_yes i e l ≡ passes_at (normal wide t i e) (λ j. j) l
unfolding window_yes passes_at passes taps half gather
window-passes true t i e l = refl
window-passes false t i e l = refl

yes-is : (i e : ℕ) (l : List ℕ) → window_yes i e l ≡ cond (near_at i (taps_of l)) (edge_at e (taps_of l)) false
unfolding window_yes taps_of
yes-is i e l =
    let x : ℕ → ℕ = λ k. get_or l k 0 in
    sym (itself (segment_yes i e (x 0) (x 1) (x 2) (x 3) (x 4) (x 5) (x 6) (x 7)))
    ∙ yes-in-turn i e (x 0) (x 1) (x 2) (x 3) (x 4) (x 5) (x 6) (x 7) true false
    ∙ (λ j. cond (near_at i (taps_of l)) (itself (edge_at e (taps_of l)) j) false)

module _ (wide : Bool) (m : EdgeLimits) (l : List ℕ) (w : Taps) (p : w ≡ taps_of l) where
  abbrev near : Bool
  near = near_at m.interior w

  abbrev edge : Bool
  edge = edge_at m.limit w

  abbrev after : List ℕ
  after = smoothed wide m.threshold l w

  answer : window_yes m.interior m.limit l ≡ cond near edge false
  answer = yes-is m.interior m.limit l ∙ ap (λ (u : Taps). cond (near_at m.interior u) (edge_at m.limit u) false) (sym p)

  leaves : segment (normal wide m.threshold m.interior m.limit) (λ t. t) l ≡ cond near (cond edge after l) l
  leaves =
      window l wide m.threshold m.interior m.limit
      ∙ ap (λ (u : Taps). cond (near_at m.interior u) (cond (edge_at m.limit u) (smoothed wide m.threshold l u) l) l) (sym p)

  -- the neighbours are far apart: nothing passes, and nothing changes
  pub far : near ≡ false → Filtered wide m l false l
  far n = record {
    yes = sym (answer ∙ ap (λ (u : Bool). cond u edge false) n);
    bytes = sym (leaves ∙ ap (λ (u : Bool). cond u (cond edge after l) l) n);
  }

  -- they are near, so that the edge decides
  pub by-edge : near ≡ true → (r : Bool) (l' : List ℕ) → r ≡ edge → l' ≡ cond edge after l → Filtered wide m l r l'
  by-edge n r l' f g = record {
    yes = f ∙ sym (answer ∙ ap (λ (u : Bool). cond u edge false) n);
    bytes = g ∙ sym (leaves ∙ ap (λ (u : Bool). cond u (cond edge after l) l) n);
  }

  -- both pass
  pub done : near ≡ true → edge ≡ true → (l' : List ℕ) → l' ≡ after → Filtered wide m l true l'
  done n f l' g = by-edge n true l' (sym f) (g ∙ sym (ap (λ (u : Bool). cond u after l) f))

-- the answer of a test that passed, or did not
pub of-answer : {wide : Bool} {m : EdgeLimits} {l : List ℕ} {r b : Bool} {l' : List ℕ} → r ≡ b → Filtered wide m l b l' → Filtered wide m l r l'
of-answer {wide} {m} {l} {l' = l'} p f = subst (λ (v : Bool). Filtered wide m l v l') (sym p) f
