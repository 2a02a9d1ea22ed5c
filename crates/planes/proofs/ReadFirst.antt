-- Within an edge the segments are disjoint (RFC 6386, section 15.1, lines 4807 to 4809): their taps may all be read before any is stored.
use mathlib.Core.Path.{◌≡◌, refl, sym, ap, ap₂, ◌∙◌}
use mathlib.Core.List.{List}
use Prim.Native.Nat.{ℕ, zero, suc, ◌+◌, ◌-◌, ◌*◌, ◌/◌, ◌%◌, ◌≤◌, ◌<◌}
use native.Mathlib.Nat.{eq_of_mul-eq-mul_right}
use native.Mathlib.Omega.{arith}
use lib.ListN.{length, get_or}
use Rattle.kernels.specs.Segment.{taps, scatter, segment}
use Rattle.planes.specs.Steps.{steps, Clear}
use Rattle.planes.specs.Planes.{Grid, side, stride}
use Rattle.planes.specs.Edges.{Direction, vertical, horizontal, tap_at, Edge, edge_tap, filter_edge}
use Rattle.planes.proofs.Steps.{steps-suc, steps-split, steps-keep}
use Rattle.kernels.proofs.SegmentLaws.{stored, segment-is, stored_same, length-stored, scatter-at}
use Rattle.planes.proofs.Fits.{Fits, edge-tap, positions-apart}
use Rattle.planes.proofs.Local.{Writes, positions-local}
use Rattle.planes.proofs.Alike.{length-positions}

-- two taps of one position are apart
taps-apart : (d : Direction) (s row column j t t' : ℕ) → 0 < s → tap_at d s row column j t ≡ tap_at d s row column j t' → t ≡ t'
taps-apart vertical s row column j t t' hs e = omega arith
taps-apart horizontal s row column j t t' hs e = eq_of_mul-eq-mul_right s hs t t' (omega arith)

module _ (g : Grid) (r c : ℕ) (e : Edge) (f : Fits r c e) (w : side e.on * c + side e.on ≤ stride g e.on) where
  -- a tap names its position
  pub edge-positions-apart : (j j' t t' : ℕ) → j < side e.on → j' < side e.on → t < taps e.kernel → t' < taps e.kernel
      → edge_tap g r c e j t ≡ edge_tap g r c e j' t' → j ≡ j'
  edge-positions-apart j j' t t' hj hj' ht ht' eq =
      positions-apart e.direction (side e.on) (side e.on * r) (side e.on * c) j j'
      (edge_tap g r c e j t / stride g e.on) (edge_tap g r c e j t % stride g e.on)
      (edge-tap g r c e f w j t hj ht) (rw eq (edge-tap g r c e f w j' t' hj' ht'))

  -- and its number there
  pub edge-taps-apart : (j t t' : ℕ) → j < side e.on → edge_tap g r c e j t ≡ edge_tap g r c e j t' → t ≡ t'
  unfolding edge_tap
  edge-taps-apart j t t' hj eq = taps-apart e.direction (stride g e.on) _ _ j t t' (omega (arith, w, hj)) eq

  -- when position j is met, its taps are as they were before the edge
  pub taps-unchanged : (j t : ℕ) (l : List ℕ) → j < side e.on → t < taps e.kernel
      → get_or (steps (λ i. segment e.kernel (edge_tap g r c e i)) 0 j l) (edge_tap g r c e j t) 0 ≡ get_or l (edge_tap g r c e j t) 0
  unfolding Clear Writes
  taps-unchanged j t l hj ht =
      steps-keep (λ l' i. get_or l' i 0) (Writes g r c e) (λ i. segment e.kernel (edge_tap g r c e i)) j (positions-local g r c e j)
      0 j l (edge_tap g r c e j t) (omega arith)
      (λ i _ hi (t', p, q, eq). absurd (omega (arith, edge-positions-apart j i t t' hj (omega arith) ht (omega arith) eq)))

  pub stored-unchanged : (j : ℕ) (l : List ℕ) → j < side e.on
      → stored e.kernel (edge_tap g r c e j) (steps (λ i. segment e.kernel (edge_tap g r c e i)) 0 j l) ≡ stored e.kernel (edge_tap g r c e j) l
  stored-unchanged j l hj =
      stored_same e.kernel (edge_tap g r c e j) (edge_tap g r c e j) (steps (λ i. segment e.kernel (edge_tap g r c e i)) 0 j l) l (λ t ht. taps-unchanged j t l hj ht)

  -- the first j positions
  pub read-first-of : (l : List ℕ) (j : ℕ) → j ≤ side e.on
      → steps (λ i. segment e.kernel (edge_tap g r c e i)) 0 j l ≡ steps (λ i. scatter (edge_tap g r c e i) 1 (stored e.kernel (edge_tap g r c e i) l)) 0 j l
  unfolding steps
  read-first-of l zero h = refl
  read-first-of l (suc j) h =
      steps-suc (λ i. segment e.kernel (edge_tap g r c e i)) j l
      ∙ segment-is e.kernel (edge_tap g r c e j) (steps (λ i. segment e.kernel (edge_tap g r c e i)) 0 j l)
      ∙ ap₂ (scatter (edge_tap g r c e j) 1) (stored-unchanged j l h) (read-first-of l j (omega arith))
      ∙ sym (steps-suc (λ i. scatter (edge_tap g r c e i) 1 (stored e.kernel (edge_tap g r c e i) l)) j l)

  -- an edge whose positions are all read before any is stored
  pub read_first : (l : List ℕ) → filter_edge g r c e l ≡ steps (λ j. scatter (edge_tap g r c e j) 1 (stored e.kernel (edge_tap g r c e j) l)) 0 (side e.on) l
  unfolding filter_edge
  read_first l = read-first-of l (side e.on) (omega arith)

  -- what stands at an inner tap after the edge: whatever the order in which code stores
  pub edge_at : (l : List ℕ) (j i : ℕ) → j < side e.on → i < taps e.kernel - 2 → edge_tap g r c e j (1 + i) < length l
      → get_or (filter_edge g r c e l) (edge_tap g r c e j (1 + i)) 0 ≡ get_or (stored e.kernel (edge_tap g r c e j) l) i 0
  unfolding filter_edge Clear Writes
  edge_at l j i hj hi fit =
      ap (λ (l' : List ℕ). get_or l' x 0) (steps-split seg (suc j) (side e.on) l hj)
      ∙ steps-keep (λ l' i'. get_or l' i' 0) (Writes g r c e) seg (side e.on) (positions-local g r c e (side e.on))
      (suc j) (side e.on - suc j) (steps seg 0 (suc j) l) x (omega arith)
      (λ n a b (t, p, q, eq). absurd (omega (arith, edge-positions-apart j n (1 + i) t hj b (omega arith) (omega arith) eq)))
      ∙ ap (λ (l' : List ℕ). get_or l' x 0) (steps-suc seg j l ∙ segment-is e.kernel (edge_tap g r c e j) before ∙ ap (λ (vs : List ℕ). scatter (edge_tap g r c e j) 1 vs before) (stored-unchanged j l hj))
      ∙ scatter-at (edge_tap g r c e j) (stored e.kernel (edge_tap g r c e j) l) 1 before i (omega (arith, length-stored e.kernel (edge_tap g r c e j) l))
      (omega (arith, length-positions g r c e j l)) (λ t' a b eq. absurd (omega (arith, edge-taps-apart j (1 + i) t' hj eq)))
    where
      seg : ℕ → List ℕ → List ℕ
      seg n = segment e.kernel (edge_tap g r c e n)

      x : ℕ
      x = edge_tap g r c e j (1 + i)

      before : List ℕ
      before = steps seg 0 j l
