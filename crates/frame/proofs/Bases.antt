-- An edge as code meets it: from the index of its first tap, with the plane's stride.
use mathlib.Core.Path.{◌≡◌, sym, ap, ◌∙◌}
use mathlib.Core.List.{List}
use Prim.Native.Nat.{ℕ, ◌+◌, ◌-◌, ◌*◌, ◌/◌, ◌%◌, ◌≤◌, ◌<◌}
use native.Mathlib.Nat.{add-mul, mul-le-mul_right, div-add-mod'}
use native.Mathlib.Omega.{arith}
use lib.ListN.{length, get_or}
use borrow.Rule.Slice.PartMut.{mid_of, put_mid}
use Rattle.kernels.specs.Segment.{half, taps, segment, passes_at, mark, windowed}
use Rattle.planes.specs.Planes.{Planes, Grid, side, stride, plane, StridesHold, PlanesHold}
use Rattle.planes.specs.Edges.{Direction, vertical, horizontal, tap_at, first_row, first_column, Edge, edge_tap, filter_edge}
use Rattle.planes.specs.Smoothed.{edge_smoothed}
use Rattle.planes.specs.Private.Worked.{Worked, work_edge}
use Rattle.edges.specs.EdgeFrom.{tap_from, edge_from, smoothed_from}
use Rattle.frame.specs.Private.PlaneEdges.{along}
use Rattle.planes.proofs.Steps.{steps-ext}
use Rattle.planes.proofs.Tally.{tally-ext}
use Rattle.kernels.proofs.SegmentLaws.{passes_same}
use Rattle.kernels.proofs.LentWindows.{segment-at, windowed-lent}
use Rattle.planes.proofs.Fits.{Fits, Tap, edge-tap, square-within}

-- the index of tap 0 of position 0
unfoldable pub edge_base : Grid → (r c : ℕ) → Edge → ℕ
edge_base g r c e =
    first_row e.direction (side e.on * r) e.offset (half e.kernel) * stride g e.on
    + first_column e.direction (side e.on * c) e.offset (half e.kernel)

tap-from : (d : Direction) (s row column j t : ℕ) → tap_at d s row column j t ≡ tap_from d s (row * s + column) j t
tap-from vertical s row column j t = omega (arith, add-mul row j s)
tap-from horizontal s row column j t = omega (arith, add-mul row t s)

module _ (g : Grid) (r c : ℕ) (e : Edge) where
  pub edge-tap-from : (j t : ℕ) → edge_tap g r c e j t ≡ tap_from e.direction (stride g e.on) (edge_base g r c e) j t
  unfolding edge_tap edge_base
  edge-tap-from j t = tap-from e.direction (stride g e.on) _ _ j t

  pub position_from : (j : ℕ) (l : List ℕ) → segment e.kernel (edge_tap g r c e j) l ≡ segment e.kernel (tap_from e.direction (stride g e.on) (edge_base g r c e) j) l
  position_from j l = segment-at e.kernel (edge_tap g r c e j) (tap_from e.direction (stride g e.on) (edge_base g r c e) j) l (edge-tap-from j)

  pub edge-from : (l : List ℕ) → filter_edge g r c e l ≡ edge_from e.direction e.kernel (stride g e.on) (edge_base g r c e) (side e.on) l
  unfolding filter_edge edge_from
  edge-from l =
      steps-ext (λ j. segment e.kernel (edge_tap g r c e j)) (λ j. segment e.kernel (tap_from e.direction (stride g e.on) (edge_base g r c e) j)) (side e.on)
      (λ j _ l'. position_from j l') 0 (side e.on) (omega arith) l

  pub counted-from : (l : List ℕ) → edge_smoothed g r c e l ≡ smoothed_from e.direction e.kernel (stride g e.on) (edge_base g r c e) (side e.on) l
  unfolding edge_smoothed smoothed_from
  counted-from l =
      tally-ext (λ j. segment e.kernel (edge_tap g r c e j)) (λ j. segment e.kernel (tap_from e.direction (stride g e.on) (edge_base g r c e) j))
      (λ j l'. mark (passes_at e.kernel (edge_tap g r c e j) l')) (λ j l'. mark (passes_at e.kernel (tap_from e.direction (stride g e.on) (edge_base g r c e) j) l')) (side e.on)
      (λ j _ l'. position_from j l')
      (λ j _ l'. ap mark (passes_same e.kernel (edge_tap g r c e j) (tap_from e.direction (stride g e.on) (edge_base g r c e) j) l' l' (λ t _. ap (λ (i : ℕ). get_or l' i 0) (edge-tap-from j t))))
      0 (side e.on) (omega arith) l

  -- both
  pub work-from : (w : Worked) → work_edge g r c e w ≡ along e.direction e.kernel (stride g e.on) (edge_base g r c e) (side e.on) w
  unfolding work_edge along
  work-from w = λ i. record { samples = edge-from w.samples i; smoothed = w.smoothed + counted-from w.samples i }

  -- position j of a vertical edge is the window lent from mid-row, `plane[a..z]`
  pub vertical-lent : e.direction ≡ vertical → (j a z : ℕ) (l ys : List ℕ) → a ≡ edge_base g r c e + j * stride g e.on → z ≡ a + taps e.kernel → z ≤ length l
      → ys ≡ windowed e.kernel (mid_of a (z - a) l) 0 → put_mid a (z - a) l ys ≡ segment e.kernel (edge_tap g r c e j) l
  vertical-lent v j a z l ys ea ez fit ey =
      windowed-lent e.kernel a z l ys ez fit ey
      ∙ segment-at e.kernel (λ t. a + t) (edge_tap g r c e j) l (λ t. from-a t ∙ sym (edge-tap-from j t ∙ ap (λ (d : Direction). tap_from d (stride g e.on) (edge_base g r c e) j t) v))
    where
      from-a : (t : ℕ) → a + t ≡ edge_base g r c e + j * stride g e.on + t
      from-a t = omega arith

-- ---- taps lie in the plane

below : (z r n row : ℕ) → r < n → row < z * r + z → row ≤ z * n - 1
below z r n row h l = omega (arith, square-within z r n h)

row_in : (s i row column last width n : ℕ) → i ≡ row * s + column → row ≤ last → column < width → last * s + width ≤ n → i < n
row_in s i row column last width n e h w f = omega (arith, mul-le-mul_right s h)

tap-ends : (d : Direction) (z top left j row column : ℕ) → j < z → Tap d z top left j row column → (row < top + z) × (column < left + z)
unfolding Tap
tap-ends vertical z top left j row column h t = omega arith
tap-ends horizontal z top left j row column h t = omega arith

-- every tap of an edge of a macroblock of the grid
pub tap-in-plane : (g : Grid) (r c : ℕ) (e : Edge) (p : Planes) → StridesHold g → PlanesHold g p → r < g.rows → c < g.columns → Fits r c e
    → (j t : ℕ) → j < side e.on → t < taps e.kernel → edge_tap g r c e j t < length (plane e.on p)
unfolding StridesHold PlanesHold
tap-in-plane g r c e p ok long hr hc f j t hj ht =
    row_in s i (i / s) (i % s) (z * g.rows - 1) (z * g.columns) (length (plane e.on p)) (sym (div-add-mod' i s))
    (below z r g.rows (i / s) hr ends.0) (omega (arith, ends.1, right)) (long e.on)
  where
    z : ℕ
    z = side e.on

    s : ℕ
    s = stride g e.on

    i : ℕ
    i = edge_tap g r c e j t

    right : z * c + z ≤ z * g.columns
    right = square-within z c g.columns hc

    ends : (i / s < z * r + z) × (i % s < z * c + z)
    ends = tap-ends e.direction z (z * r) (z * c) j (i / s) (i % s) hj (edge-tap g r c e f (omega (arith, right, ok e.on)) j t hj ht)
