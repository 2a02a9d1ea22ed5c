-- The edges of a plane, as the code on one plane does them: each lies in the plane, and is filtered and counted.
use mathlib.Core.Path.{◌≡◌}
use mathlib.Core.Bool.{Bool, true, false}
use mathlib.Core.List.{List}
use Prim.Native.Nat.{ℕ, ◌+◌, ◌-◌, ◌*◌, ◌/◌, ◌≤◌, ◌<◌}
use native.Mathlib.Nat.{add-mul, mul-le-mul_left, mul-le-mul_right}
use native.Mathlib.Omega.{arith}
use lib.Dec.{ltb}
use lib.ListN.{length}
use borrow.Author.Tests.{lt-ltb, le-ltb}
use Rattle.kernels.specs.Segment.{Kernel, half, taps}
use Rattle.kernels.proofs.KernelLaws.{half-most}
use Rattle.planes.specs.Steps.{steps}
use Rattle.planes.specs.Edges.{Direction, vertical, horizontal}
use Rattle.edges.specs.EdgeFrom.{edge_within, smoothed_within}
use Rattle.frame.specs.declared.plane.Square.{Square}
use Rattle.frame.specs.Private.PlaneEdges.{along, Inside, Did, left_from, top_from, inner_at, inner_from}
use Rattle.frame.proofs.EdgesWithin.{did-if, did-not, did-vertical, did-horizontal}

-- the last of four samples that begin at 4 * i is within n
within-four : (n i : ℕ) → i < n / 4 → 4 * i + 4 ≤ n
within-four n i h = omega arith

module _ (k : Kernel) (n : ℕ) (q : Square) (l : List ℕ) (many : 7 < n) (room : Inside n q (length l)) where
  -- ---- a border, `h` samples before the square

  pub left-did : (h : ℕ) (l' : List ℕ) (r : ℕ) → h ≡ half k → 0 < q.column → l' ≡ edge_within vertical k q.stride (q.corner - h) n l → r ≡ smoothed_within vertical k q.stride (q.corner - h) n l → Did n (left_from k n q) l l' r
  unfolding taps left_from
  left-did h l' r eh pos e c =
      did-if (ltb 0 q.column) (lt-ltb 0 q.column pos)
      (did-vertical k q.stride (q.corner - half k) n l l' r (omega (arith, room.within, room.left pos, half-most k)) (rw eh at e) (rw eh at c))

  pub left-not : q.column ≤ 0 → Did n (left_from k n q) l l 0
  unfolding left_from
  left-not none = did-not n (along vertical k q.stride (q.corner - half k) n) l (ltb 0 q.column) (le-ltb 0 q.column none)

  pub top-did : (h : ℕ) (l' : List ℕ) (r : ℕ) → h ≡ half k → 0 < q.row → l' ≡ edge_within horizontal k q.stride (q.corner - h * q.stride) n l → r ≡ smoothed_within horizontal k q.stride (q.corner - h * q.stride) n l → Did n (top_from k n q) l l' r
  unfolding taps top_from
  top-did h l' r eh pos e c =
      let rows : half k + half k - 1 ≤ half k + (n - 1) = omega (arith, half-most k) in
      let below : q.corner - half k * q.stride + (half k + half k - 1) * q.stride + n ≤ length l = omega (arith, room.within, room.above pos, mul-le-mul_right q.stride (half-most k), mul-le-mul_right q.stride rows, add-mul (half k) (n - 1) q.stride) in
      did-if (ltb 0 q.row) (lt-ltb 0 q.row pos)
      (did-horizontal k q.stride (q.corner - half k * q.stride) n l l' r room.wide below (rw eh at e) (rw eh at c))

  pub top-not : q.row ≤ 0 → Did n (top_from k n q) l l 0
  unfolding top_from
  top-not none = did-not n (along horizontal k q.stride (q.corner - half k * q.stride) n) l (ltb 0 q.row) (le-ltb 0 q.row none)

  -- ---- an inner edge, in the plane as the edges before it left it

  module _ (i h : ℕ) (l₁ l₂ : List ℕ) (r : ℕ) (same : length l₁ ≡ length l) (eh : h ≡ half k) (first : 1 ≤ i) (last : i < n / 4) where
    pub vertical-did : l₂ ≡ edge_within vertical k q.stride (q.corner + (4 * i - h)) n l₁ → r ≡ smoothed_within vertical k q.stride (q.corner + (4 * i - h)) n l₁ → Did n (inner_at vertical k n q i) l₁ l₂ r
    unfolding taps
    vertical-did e c =
        did-vertical k q.stride (q.corner + (4 * i - half k)) n l₁ l₂ r (omega (arith, room.within, same, half-most k, within-four n i last)) (rw eh at e) (rw eh at c)

    pub horizontal-did : l₂ ≡ edge_within horizontal k q.stride (q.corner + (4 * i - h) * q.stride) n l₁ → r ≡ smoothed_within horizontal k q.stride (q.corner + (4 * i - h) * q.stride) n l₁ → Did n (inner_at horizontal k n q i) l₁ l₂ r
    unfolding taps
    horizontal-did e c =
        let rows : 4 * i - half k + (half k + half k - 1) ≤ n - 1 = omega (arith, half-most k, within-four n i last) in
        did-horizontal k q.stride (q.corner + (4 * i - half k) * q.stride) n l₁ l₂ r room.wide
        (omega (arith, room.within, same, mul-le-mul_right q.stride rows, add-mul (4 * i - half k) (half k + half k - 1) q.stride)) (rw eh at e) (rw eh at c)

-- ---- all inner edges, or none

module _ (d : Direction) (k : Kernel) (n : ℕ) (q : Square) where
  pub inner-not : (inside : Bool) (l : List ℕ) → inside ≡ false → Did (n * (n / 4 - 1)) (inner_from d k inside n q) l l 0
  unfolding inner_from
  inner-not inside l e = did-not (n * (n / 4 - 1)) (steps (inner_at d k n q) 1 (n / 4 - 1)) l inside e

  pub inner-all : (inside : Bool) (i : ℕ) (l l' : List ℕ) (r : ℕ) → inside ≡ true → i ≡ n / 4 → Did (n * (i - 1)) (steps (inner_at d k n q) 1 (i - 1)) l l' r → Did (n * (n / 4 - 1)) (inner_from d k inside n q) l l' r
  unfolding inner_from
  inner-all inside i l l' r e at did = did-if inside e (rw at at did)

-- what a loop adds up fits
pub few-fit : (n i r : ℕ) → n < 65536 → i < n / 4 → r ≤ n * (i - 1) → r + n < 4294967296
few-fit n i r h g e = omega (arith, mul-le-mul_left n up, mul-le-mul_right 65536 h)
  where
    up : i - 1 + 1 ≤ 65536
    up = omega arith
