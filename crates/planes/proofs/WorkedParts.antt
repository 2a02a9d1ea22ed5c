-- A macroblock's step in parts, with what each smooths: the edges of a plane depend on that plane alone, so that planes may be taken one after the other.
use mathlib.Core.Path.{◌≡◌, refl, sym, ap, ◌∙◌}
use mathlib.Core.Bool.{Bool, true, false, cond}
use mathlib.Core.List.{List, [], ◌∷◌, ◌++◌}
use Prim.Native.Nat.{ℕ, ◌+◌, ◌<◌}
use native.Mathlib.Omega.{arith}
use lib.Dec.{ltb}
use borrow.Author.Tests.{lt-ltb}
use Rattle.kernels.specs.Segment.{Kernel}
use Rattle.planes.specs.Planes.{Plane, luma, chroma_u, chroma_v, Grid, plane, on_plane, grid_row, grid_column}
use Rattle.planes.specs.Edges.{Direction, vertical, horizontal, Edge, filter_edge, Place, borders, insides, places}
use Rattle.planes.specs.Macroblock.{Plan, filter, filtered, lead, only, edge_at, edges_at, filter_edges, filter_macroblock}
use Rattle.planes.specs.Smoothed.{edge_smoothed, edges_smoothed, macroblock_smoothed}
use Rattle.planes.specs.Private.Worked.{Worked, work_edge, WorkedPlanes, samples_of, total_of}
use Rattle.planes.proofs.StepParts.{edges_at-append, edge_of}

-- one plane changed by f, the others kept
abbrev on_worked : Plane → (f : Worked → Worked) → WorkedPlanes → WorkedPlanes
on_worked luma f p = record { y = f p.y; u = p.u; v = p.v }
on_worked chroma_u f p = record { y = p.y; u = f p.u; v = p.v }
on_worked chroma_v f p = record { y = p.y; u = p.u; v = f p.v }

unfoldable pub work_edges : Grid → (r c : ℕ) → List Edge → WorkedPlanes → WorkedPlanes
work_edges g r c [] p = p
work_edges g r c (e ∷ es) p = work_edges g r c es (on_worked e.on (work_edge g r c e) p)

-- ---- it is what the definition filters and counts

pub record Tallied (g : Grid) (r c : ℕ) (es : List Edge) (p q : WorkedPlanes) : Type 0 where
  pub samples : samples_of q ≡ filter_edges g r c es (samples_of p)
  pub total : total_of q ≡ total_of p + edges_smoothed g r c es (samples_of p)

tallied-first : (g : Grid) (r c : ℕ) (e : Edge) (es : List Edge) (p q : WorkedPlanes) (l : Plane) → e.on ≡ l → Tallied g r c es (on_worked l (work_edge g r c e) p) q → Tallied g r c (e ∷ es) p q
unfolding work_edge filter_edges edges_smoothed
tallied-first g r c e es p q luma on t = record {
  samples = t.samples ∙ ap (λ (x : Plane). filter_edges g r c es (on_plane x (filter_edge g r c e) (samples_of p))) (sym on);
  total = t.total ∙ omega arith
      ∙ ap (λ (x : Plane). total_of p + (edge_smoothed g r c e (plane x (samples_of p)) + edges_smoothed g r c es (on_plane x (filter_edge g r c e) (samples_of p)))) (sym on);
}
tallied-first g r c e es p q chroma_u on t = record {
  samples = t.samples ∙ ap (λ (x : Plane). filter_edges g r c es (on_plane x (filter_edge g r c e) (samples_of p))) (sym on);
  total = t.total ∙ omega arith
      ∙ ap (λ (x : Plane). total_of p + (edge_smoothed g r c e (plane x (samples_of p)) + edges_smoothed g r c es (on_plane x (filter_edge g r c e) (samples_of p)))) (sym on);
}
tallied-first g r c e es p q chroma_v on t = record {
  samples = t.samples ∙ ap (λ (x : Plane). filter_edges g r c es (on_plane x (filter_edge g r c e) (samples_of p))) (sym on);
  total = t.total ∙ omega arith
      ∙ ap (λ (x : Plane). total_of p + (edge_smoothed g r c e (plane x (samples_of p)) + edges_smoothed g r c es (on_plane x (filter_edge g r c e) (samples_of p)))) (sym on);
}

pub edges-tallied : (g : Grid) (r c : ℕ) (es : List Edge) (p : WorkedPlanes) → Tallied g r c es p (work_edges g r c es p)
unfolding work_edges filter_edges edges_smoothed
edges-tallied g r c [] p = record { samples = refl; total = omega arith }
edges-tallied g r c (e ∷ es) p = tallied-first g r c e es p _ e.on refl (edges-tallied g r c es (on_worked e.on (work_edge g r c e) p))

-- the step of macroblock m
unfoldable pub work_macroblock : Grid → (plan : ℕ → Plan) → (m : ℕ) → WorkedPlanes → WorkedPlanes
work_macroblock g plan m = work_edges g (grid_row g m) (grid_column g m) (edges_at (plan m) (grid_row g m) (grid_column g m) places)

pub macroblock-samples : (g : Grid) (plan : ℕ → Plan) (m : ℕ) (p : WorkedPlanes) → samples_of (work_macroblock g plan m p) ≡ filter_macroblock g plan m (samples_of p)
unfolding work_macroblock filter_macroblock
macroblock-samples g plan m p = (edges-tallied g (grid_row g m) (grid_column g m) (edges_at (plan m) (grid_row g m) (grid_column g m) places) p).samples

pub macroblock-total : (g : Grid) (plan : ℕ → Plan) (m : ℕ) (p : WorkedPlanes) → total_of (work_macroblock g plan m p) ≡ total_of p + macroblock_smoothed g plan m (samples_of p)
unfolding work_macroblock macroblock_smoothed
macroblock-total g plan m p = (edges-tallied g (grid_row g m) (grid_column g m) (edges_at (plan m) (grid_row g m) (grid_column g m) places) p).total

-- ---- parts

work_edges-append : (g : Grid) (r c : ℕ) (front back : List Edge) (p : WorkedPlanes) → work_edges g r c (front ++ back) p ≡ work_edges g r c back (work_edges g r c front p)
unfolding work_edges
work_edges-append g r c [] back p = refl
work_edges-append g r c (e ∷ es) back p = work_edges-append g r c es back (on_worked e.on (work_edge g r c e) p)

-- the edges at some places
unfoldable pub work_at : Grid → Plan → (r c : ℕ) → List Place → WorkedPlanes → WorkedPlanes
work_at g plan r c qs = work_edges g r c (edges_at plan r c qs)

work_at-append : (g : Grid) (plan : Plan) (r c : ℕ) (front back : List Place) (p : WorkedPlanes)
    → work_at g plan r c (front ++ back) p ≡ work_at g plan r c back (work_at g plan r c front p)
unfolding work_at
work_at-append g plan r c front back p =
    ap (λ (l : List Edge). work_edges g r c l p) (edges_at-append plan r c front back) ∙ work_edges-append g r c (edges_at plan r c front) (edges_at plan r c back) p

pub macroblock-at : (g : Grid) (plan : ℕ → Plan) (m : ℕ) (p : WorkedPlanes) → work_macroblock g plan m p ≡ work_at g (plan m) (grid_row g m) (grid_column g m) places p
unfolding work_macroblock work_at
macroblock-at g plan m p = refl

-- the four steps of RFC 6386, section 15.1, lines 4750 to 4770
pub four-parts : (g : Grid) (plan : Plan) (r c : ℕ) (p : WorkedPlanes)
    → work_at g plan r c places p
    ≡ work_at g plan r c (insides horizontal) (work_at g plan r c (borders horizontal) (work_at g plan r c (insides vertical) (work_at g plan r c (borders vertical) p)))
unfolding places
four-parts g plan r c p =
    work_at-append g plan r c (borders vertical ++ insides vertical) (borders horizontal ++ insides horizontal) p
    ∙ ap (work_at g plan r c (borders horizontal ++ insides horizontal)) (work_at-append g plan r c (borders vertical) (insides vertical) p)
    ∙ work_at-append g plan r c (borders horizontal) (insides horizontal) (work_at g plan r c (insides vertical) (work_at g plan r c (borders vertical) p))

-- ---- what a part does to each plane

module _ (g : Grid) (chroma : Bool) (outer inner : Kernel) (inside : Bool) (r c : ℕ) (d : Direction) (p : WorkedPlanes) where
  -- the edges at a macroblock's border, if they are edges
  borders-if : Bool → WorkedPlanes
  borders-if b = work_edges g r c (edges luma ++ (edges chroma_u ++ (edges chroma_v ++ []))) p
    where
      edges : Plane → List Edge
      edges q = only b (only (filtered chroma q) (edge_of q d 0 outer ∷ []))

  -- in the leftmost column, or the topmost row
  pub borders-none : lead d r c ≡ 0 → work_at g (filter chroma outer inner inside) r c (borders d) p ≡ p
  unfolding work_at edges_at edge_at borders borders-if only work_edges
  borders-none e = ap (λ (n : ℕ). borders-if (ltb 0 n)) e

  pub borders-at : 0 < lead d r c
      → work_at g (filter chroma outer inner inside) r c (borders d) p
      ≡ record {
        y = work_edge g r c (edge_of luma d 0 outer) p.y;
        u = cond chroma (work_edge g r c (edge_of chroma_u d 0 outer) p.u) p.u;
        v = cond chroma (work_edge g r c (edge_of chroma_v d 0 outer) p.v) p.v;
      }
  unfolding work_at edges_at edge_at borders borders-if only work_edges
  borders-at h = ap borders-if (lt-ltb 0 (lead d r c) h) ∙ go chroma
    where
      go : (b : Bool)
          → work_edges g r c (edge_of luma d 0 outer ∷ (only b (edge_of chroma_u d 0 outer ∷ []) ++ (only b (edge_of chroma_v d 0 outer ∷ []) ++ []))) p
          ≡ record {
            y = work_edge g r c (edge_of luma d 0 outer) p.y;
            u = cond b (work_edge g r c (edge_of chroma_u d 0 outer) p.u) p.u;
            v = cond b (work_edge g r c (edge_of chroma_v d 0 outer) p.v) p.v;
          }
      go true = refl
      go false = refl

module _ (g : Grid) (chroma : Bool) (outer inner : Kernel) (r c : ℕ) (d : Direction) (p : WorkedPlanes) where
  pub insides-none : work_at g (filter chroma outer inner false) r c (insides d) p ≡ p
  unfolding work_at edges_at edge_at insides only work_edges
  insides-none = refl

  pub insides-at :
      work_at g (filter chroma outer inner true) r c (insides d) p
      ≡ record {
        y = work_edge g r c (edge_of luma d 12 inner) (work_edge g r c (edge_of luma d 8 inner) (work_edge g r c (edge_of luma d 4 inner) p.y));
        u = cond chroma (work_edge g r c (edge_of chroma_u d 4 inner) p.u) p.u;
        v = cond chroma (work_edge g r c (edge_of chroma_v d 4 inner) p.v) p.v;
      }
  unfolding work_at edges_at edge_at insides only work_edges
  insides-at = go chroma
    where
      go : (b : Bool)
          → work_edges g r c
          (edge_of luma d 4 inner ∷ edge_of luma d 8 inner ∷ edge_of luma d 12 inner ∷ (only b (edge_of chroma_u d 4 inner ∷ []) ++ (only b (edge_of chroma_v d 4 inner ∷ []) ++ []))) p
          ≡ record {
            y = work_edge g r c (edge_of luma d 12 inner) (work_edge g r c (edge_of luma d 8 inner) (work_edge g r c (edge_of luma d 4 inner) p.y));
            u = cond b (work_edge g r c (edge_of chroma_u d 4 inner) p.u) p.u;
            v = cond b (work_edge g r c (edge_of chroma_v d 4 inner) p.v) p.v;
          }
      go true = refl
      go false = refl
