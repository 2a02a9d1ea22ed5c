-- Where 1, 2 and 3 do not refuse, the grid lies in its planes. Assumes nothing.
use mathlib.Core.Path.{◌≡◌}
use mathlib.Core.Bool.{false, ◌||◌}
use mathlib.Core.List.{List}
use Prim.Native.Nat.{ℕ, ◌+◌, ◌-◌, ◌*◌, ◌≤◌}
use lib.Dec.{ltb}
use lib.ListN.{length}
use borrow.Author.Tests.{ltb-false}
use Rattle.planes.specs.Planes.{Plane, luma, chroma_u, chroma_v, side, stride, plane, macroblocks, StridesHold, PlanesHold}
use native.Mathlib.Nat.{mul-le-mul}
use Rattle.planes.specs.GridRefusals.{too_large, bad_strides, needed, short_by}
use Rattle.planes.specs.Layout.{grid_of, planes_of}
use Rattle.planes.specs.declared.layout.PlaneLayout.{PlaneLayout}
use Rattle.planes.proofs.GridLaws.{neither, small, strides}
use Rattle.frame.specs.Private.Ranges.{Sound}

-- a fact of each plane
each : (P : Plane → Type 0) → P luma → P chroma_u → P chroma_v → (q : Plane) → P q
each P a b c luma = a
each P a b c chroma_u = b
each P a b c chroma_v = c

module _ (l : PlaneLayout) where
  pub sound : (y u v : List ℕ) → too_large (grid_of l) ≡ false → bad_strides (grid_of l) ≡ false → short_by (grid_of l) (length y) (length u) (length v) ≡ false → Sound l y u v
  unfolding short_by needed StridesHold PlanesHold
  sound y u v t b e =
      let s = small l t in let k = strides l b in
      let n = neither (ltb (length y) (needed (grid_of l) luma) || ltb (length u) (needed (grid_of l) chroma_u)) (ltb (length v) (needed (grid_of l) chroma_v)) e in
      let m = neither (ltb (length y) (needed (grid_of l) luma)) (ltb (length u) (needed (grid_of l) chroma_u)) n.0 in
      record {
        strides = each (λ q. side q * l.mb_cols ≤ stride (grid_of l) q) k.wide k.wide_c k.wide_c;
        planes =
            each (λ q. needed (grid_of l) q ≤ length (plane q (planes_of y u v)))
            (ltb-false (length y) (needed (grid_of l) luma) m.0)
            (ltb-false (length u) (needed (grid_of l) chroma_u) m.1)
            (ltb-false (length v) (needed (grid_of l) chroma_v) n.1);
        columns = s.columns;
        rows = s.rows;
        luma_stride = k.below;
        chroma_stride = k.below_c;
      }

-- planes of the same lengths are as sound
pub sound-kept : (l : PlaneLayout) (y u v y' u' v' : List ℕ) → length y' ≡ length y → length u' ≡ length u → length v' ≡ length v → Sound l y u v → Sound l y' u' v'
unfolding PlanesHold
sound-kept l y u v y' u' v' a b c s =
    let h = s.planes in
    record {
      strides = s.strides;
      planes =
          each (λ q. (side q * l.mb_rows - 1) * stride (grid_of l) q + side q * l.mb_cols ≤ length (plane q (planes_of y' u' v')))
          (rw a (h luma)) (rw b (h chroma_u)) (rw c (h chroma_v));
      columns = s.columns;
      rows = s.rows;
      luma_stride = s.luma_stride;
      chroma_stride = s.chroma_stride;
    }

-- no more macroblocks than 1 leaves
pub few-macroblocks : (l : PlaneLayout) (y u v : List ℕ) → Sound l y u v → macroblocks (grid_of l) ≤ 1048576
few-macroblocks l y u v s = mul-le-mul s.columns s.rows
