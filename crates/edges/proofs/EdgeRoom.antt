-- Whether an edge fits, as the code judges it, and what an edge that fits leaves.
-- Assumes nothing.
use mathlib.Core.Path.{◌≡◌, refl, sym, ap, ◌∙◌}
use mathlib.Core.Bool.{Bool, true, false, cond, ◌&&◌}
use mathlib.Core.List.{List}
use Prim.Native.Nat.{ℕ, ◌+◌, ◌-◌, ◌*◌, ◌≤◌}
use lib.Dec.{leb}
use lib.ListN as ListN
use borrow.Author.Tests.{leb-true, le-leb}
use Rattle.kernels.specs.Segment.{Kernel, simple_segment, half, taps}
use Rattle.kernels.proofs.Windows.{taken, left}
use Rattle.planes.specs.Edges.{Direction, vertical, horizontal}
use Rattle.edges.specs.EdgeFrom.{edge_from, edge_fits, edge_within, smoothed_from, smoothed_within}

-- ---- the judgement, without the sum

-- both tests that a function answered passed
pub both-pass : (a b c d : ℕ) {f : Bool} → f ≡ (leb a b && leb c d) → f ≡ true → (c ≤ d) × (a ≤ b)
both-pass a b c d e t = go (leb a b) (leb c d) (leb-true a b) (leb-true c d) (sym e ∙ t)
  where
    go : (p q : Bool) → (p ≡ true → a ≤ b) → (q ≡ true → c ≤ d) → (p && q) ≡ true → (c ≤ d) × (a ≤ b)
    go true q hp hq pass = (hq pass, hp refl)
    go false q hp hq pass = (hq (cc), hp pass)

-- ---- an edge that fits: what it leaves, and how many of its positions are smoothed

pub vertical-within : (k : Kernel) (s base n : ℕ) (l : List ℕ) → base + (n - 1) * s + taps k ≤ ListN.length l → edge_within vertical k s base n l ≡ edge_from vertical k s base n l
unfolding edge_within edge_fits
vertical-within k s base n l room = ap (λ (t : Bool). cond t (edge_from vertical k s base n l) l) (le-leb (base + (n - 1) * s + taps k) (ListN.length l) room)

pub horizontal-within : (k : Kernel) (s base n : ℕ) (l : List ℕ) → n ≤ s → base + (taps k - 1) * s + n ≤ ListN.length l → edge_within horizontal k s base n l ≡ edge_from horizontal k s base n l
unfolding edge_within edge_fits
horizontal-within k s base n l wide room =
    ap (λ (t : Bool). cond (t && leb (base + (taps k - 1) * s + n) (ListN.length l)) (edge_from horizontal k s base n l) l) (le-leb n s wide)
    ∙ ap (λ (t : Bool). cond t (edge_from horizontal k s base n l) l) (le-leb (base + (taps k - 1) * s + n) (ListN.length l) room)

pub vertical-counted : (k : Kernel) (s base n : ℕ) (l : List ℕ) → base + (n - 1) * s + taps k ≤ ListN.length l → smoothed_within vertical k s base n l ≡ smoothed_from vertical k s base n l
unfolding smoothed_within edge_fits
vertical-counted k s base n l room = ap (λ (t : Bool). cond t (smoothed_from vertical k s base n l) 0) (le-leb (base + (n - 1) * s + taps k) (ListN.length l) room)

pub horizontal-counted : (k : Kernel) (s base n : ℕ) (l : List ℕ) → n ≤ s → base + (taps k - 1) * s + n ≤ ListN.length l → smoothed_within horizontal k s base n l ≡ smoothed_from horizontal k s base n l
unfolding smoothed_within edge_fits
horizontal-counted k s base n l wide room =
    ap (λ (t : Bool). cond (t && leb (base + (taps k - 1) * s + n) (ListN.length l)) (smoothed_from horizontal k s base n l) 0) (le-leb n s wide)
    ∙ ap (λ (t : Bool). cond t (smoothed_from horizontal k s base n l) 0) (le-leb (base + (taps k - 1) * s + n) (ListN.length l) room)

-- ---- an edge that was judged to fit, or not to

-- by the taps of its kernel
pub rows-fit : (k : Kernel) (m s base n length : ℕ) → taps k ≡ m → (leb n s && leb (base + (m - 1) * s + n) length) ≡ edge_fits horizontal k s base n length
unfolding edge_fits
rows-fit k m s base n length e = ap (λ (t : ℕ). leb n s && leb (base + (t - 1) * s + n) length) (sym e)

pub room-fits : (k : Kernel) (m s base n length : ℕ) → taps k ≡ m → leb (base + (n - 1) * s + m) length ≡ edge_fits vertical k s base n length
unfolding edge_fits
room-fits k m s base n length e = ap (λ (t : ℕ). leb (base + (n - 1) * s + t) length) (sym e)

pub simple-four : (edge : ℕ) → taps (simple_segment edge) ≡ 4
unfolding taps half
simple-four edge = refl

module _ (d : Direction) (k : Kernel) (s base n : ℕ) (l : List ℕ) {b : Bool} (judged : b ≡ edge_fits d k s base n (ListN.length l)) where
  pub filtered : b ≡ true → edge_from d k s base n l ≡ edge_within d k s base n l
  unfolding edge_within
  filtered t = sym (taken _ _ judged t)

  pub counted : b ≡ true → smoothed_from d k s base n l ≡ smoothed_within d k s base n l
  unfolding smoothed_within
  counted t = sym (taken _ _ judged t)

  pub left-alone : b ≡ false → l ≡ edge_within d k s base n l
  unfolding edge_within
  left-alone t = sym (left _ _ judged t)

  pub none-counted : b ≡ false → 0 ≡ smoothed_within d k s base n l
  unfolding smoothed_within
  none-counted t = sym (left _ _ judged t)
