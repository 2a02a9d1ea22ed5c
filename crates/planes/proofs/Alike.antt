-- Lengths are kept; and what a macroblock's step depends on: two sets of planes that differ only at some samples, through the same edges.
use mathlib.Core.Path.{◌≡◌, refl, sym, ◌∙◌}
use mathlib.Core.List.{List, [], ◌∷◌}
use Prim.Native.Nat.{ℕ, ◌<◌}
use native.Mathlib.Omega.{arith}
use native.Mathlib.Decide.{ℕ_discrete}
use lib.ListN.{length, get_or}
use lib.Seq.{ext_get_or}
use Rattle.kernels.specs.Segment.{taps, segment}
use Rattle.planes.specs.Steps.{steps}
use Rattle.planes.specs.Planes.{Plane, luma, chroma_u, chroma_v, Planes, Grid, side, plane, on_plane, Sample, sample, macroblocks, grid_row, grid_column}
use Rattle.planes.specs.Edges.{Edge, edge_tap, filter_edge, places}
use Rattle.planes.specs.Macroblock.{Plan, edges_at, filter_edges, filter_macroblock}
use Rattle.planes.specs.Reach.{Reach}
use Rattle.planes.proofs.AllOf.{All, none, ◌&◌, all_map}
use Rattle.planes.proofs.Steps.{steps-inv, steps-rel, Local}
use Rattle.kernels.proofs.SegmentLaws.{length-segment, Agree, Passes, segment-agree}
use Rattle.planes.proofs.Fits.{Fits, edges_fit}
use Rattle.planes.proofs.Local.{macroblock-local}

-- ---- lengths

pub length-positions : (g : Grid) (r c : ℕ) (e : Edge) (n : ℕ) (l : List ℕ) → length (steps (λ j. segment e.kernel (edge_tap g r c e j)) 0 n l) ≡ length l
length-positions g r c e n l =
    steps-inv (λ j. segment e.kernel (edge_tap g r c e j)) (λ l'. length l' ≡ length l) (λ j l' h. length-segment e.kernel (edge_tap g r c e j) l' ∙ h) 0 n l refl

pub length-edge : (g : Grid) (r c : ℕ) (e : Edge) (l : List ℕ) → length (filter_edge g r c e l) ≡ length l
unfolding filter_edge
length-edge g r c e l = length-positions g r c e (side e.on) l

length-on : (q w : Plane) (f : List ℕ → List ℕ) → ((l : List ℕ) → length (f l) ≡ length l) → (p : Planes) → length (plane w (on_plane q f p)) ≡ length (plane w p)
length-on luma luma f h p = h p.y
length-on luma chroma_u f h p = refl
length-on luma chroma_v f h p = refl
length-on chroma_u luma f h p = refl
length-on chroma_u chroma_u f h p = h p.u
length-on chroma_u chroma_v f h p = refl
length-on chroma_v luma f h p = refl
length-on chroma_v chroma_u f h p = refl
length-on chroma_v chroma_v f h p = h p.v

pub length-edges : (g : Grid) (r c : ℕ) (es : List Edge) (p : Planes) (q : Plane) → length (plane q (filter_edges g r c es p)) ≡ length (plane q p)
unfolding filter_edges
length-edges g r c [] p q = refl
length-edges g r c (e ∷ es) p q =
    length-edges g r c es (on_plane e.on (filter_edge g r c e) p) q ∙ length-on e.on q (filter_edge g r c e) (length-edge g r c e) p

pub length-macroblock : (g : Grid) (plan : ℕ → Plan) (m : ℕ) (p : Planes) (q : Plane) → length (plane q (filter_macroblock g plan m p)) ≡ length (plane q p)
unfolding filter_macroblock
length-macroblock g plan m p q = length-edges g (grid_row g m) (grid_column g m) (edges_at (plan m) (grid_row g m) (grid_column g m) places) p q

pub length-steps : (g : Grid) (plan : ℕ → Plan) (k n : ℕ) (p : Planes) (q : Plane) → length (plane q (steps (filter_macroblock g plan) k n p)) ≡ length (plane q p)
length-steps g plan k n p q =
    steps-inv (filter_macroblock g plan) (λ p'. length (plane q p') ≡ length (plane q p)) (λ j p' h. length-macroblock g plan j p' q ∙ h) k n p refl

-- ---- an edge, on two lists that differ only in D

-- of each of its positions, D has no tap, or all inner ones
unfoldable pub Through : Grid → (r c : ℕ) → (D : ℕ → Type 0) → Edge → Type 0
Through g r c D e = (j : ℕ) → j < side e.on → Passes D (edge_tap g r c e j) (taps e.kernel)

pub edge-agree : (g : Grid) (r c : ℕ) (D : ℕ → Type 0) (e : Edge) (l l' : List ℕ) → Through g r c D e → Agree D l l' → Agree D (filter_edge g r c e l) (filter_edge g r c e l')
unfolding filter_edge Through
edge-agree g r c D e l l' th a =
    steps-rel (Agree D) (λ j. segment e.kernel (edge_tap g r c e j)) (λ j. segment e.kernel (edge_tap g r c e j)) (side e.on)
    (λ j b s s' h. segment-agree D e.kernel (edge_tap g r c e j) s s' (th j b) h) 0 (side e.on) (omega arith) l l' a

-- ---- planes

unfoldable pub In : (D : Sample → Type 0) → Plane → ℕ → Type 0
In D q i = D (record { on = q; index = i })

-- two sets of planes that differ only at samples of D
unfoldable pub Alike : (D : Sample → Type 0) → Planes → Planes → Type 0
Alike D p p' = (q : Plane) → Agree (In D q) (plane q p) (plane q p')

pub alike_refl : (D : Sample → Type 0) (p : Planes) → Alike D p p
unfolding Alike
alike_refl D p q = record { len = refl; same = λ i n. refl }

pub alike-sym : (D : Sample → Type 0) (p p' : Planes) → Alike D p p' → Alike D p' p
unfolding Alike
alike-sym D p p' a q = record { len = sym (a q).len; same = λ i n. sym ((a q).same i n) }

pub alike-trans : (D : Sample → Type 0) (p p' p'' : Planes) → Alike D p p' → Alike D p' p'' → Alike D p p''
unfolding Alike
alike-trans D p p' p'' a b q = record { len = (a q).len ∙ (b q).len; same = λ i n. (a q).same i n ∙ (b q).same i n }

pub alike-more : (D D' : Sample → Type 0) → ((x : Sample) → D x → D' x) → (p p' : Planes) → Alike D p p' → Alike D' p p'
unfolding Alike In
alike-more D D' h p p' a q = record { len = (a q).len; same = λ i n. (a q).same i (λ d. n (h (record { on = q; index = i }) d)) }

pub alike_at : (D : Sample → Type 0) (p p' : Planes) → Alike D p p' → (x : Sample) → ¬ D x → sample p x ≡ sample p' x
unfolding Alike In
alike_at D p p' a x n = (a x.on).same x.index n

-- planes that differ only in D, and only in what D has no part of, are the same
pub alike_both : (D D' : Sample → Type 0) → ((x : Sample) → D x → ¬ D' x) → (p p' : Planes) → Alike D p p' → Alike D' p p' → p ≡ p'
unfolding Alike In
alike_both D D' apart p p' a b = λ i. record { y = eq luma i; u = eq chroma_u i; v = eq chroma_v i }
  where
    pick : (q : Plane) (i : ℕ) → Dec (get_or (plane q p) i 0 ≡ get_or (plane q p') i 0) → get_or (plane q p) i 0 ≡ get_or (plane q p') i 0
    pick q i (yes e) = e
    pick q i (no n) = absurd (n ((a q).same i (λ d. n ((b q).same i (apart (record { on = q; index = i }) d)))))

    eq : (q : Plane) → plane q p ≡ plane q p'
    eq q = ext_get_or 0 (plane q p) (plane q p') (a q).len (λ i _. pick q i (ℕ_discrete (get_or (plane q p) i 0) (get_or (plane q p') i 0)))

on_alike : (D : Sample → Type 0) (q : Plane) (f f' : List ℕ → List ℕ) (p p' : Planes) → Alike D p p' → Agree (In D q) (f (plane q p)) (f' (plane q p'))
    → Alike D (on_plane q f p) (on_plane q f' p')
unfolding Alike
on_alike D luma f f' p p' al a luma = a
on_alike D luma f f' p p' al a chroma_u = al chroma_u
on_alike D luma f f' p p' al a chroma_v = al chroma_v
on_alike D chroma_u f f' p p' al a luma = al luma
on_alike D chroma_u f f' p p' al a chroma_u = a
on_alike D chroma_u f f' p p' al a chroma_v = al chroma_v
on_alike D chroma_v f f' p p' al a luma = al luma
on_alike D chroma_v f f' p p' al a chroma_u = al chroma_u
on_alike D chroma_v f f' p p' al a chroma_v = a

pub edges-alike : (g : Grid) (r c : ℕ) (D : Sample → Type 0) (es : List Edge) → All (λ e. Through g r c (In D e.on) e) es
    → (p p' : Planes) → Alike D p p' → Alike D (filter_edges g r c es p) (filter_edges g r c es p')
unfolding filter_edges Alike
edges-alike g r c D [] none p p' al = al
edges-alike g r c D (e ∷ es) (th & ths) p p' al =
    edges-alike g r c D es ths (on_plane e.on (filter_edge g r c e) p) (on_plane e.on (filter_edge g r c e) p')
    (on_alike D e.on (filter_edge g r c e) (filter_edge g r c e) p p' al
    (edge-agree g r c (In D e.on) e (plane e.on p) (plane e.on p') th (al e.on)))

-- ---- a macroblock's step

-- planes that differ only in D, through a step whose every edge has in each position no tap in D, or all inner ones, differ only in D
pub macroblock-alike : (g : Grid) (plan : ℕ → Plan) (m : ℕ) (D : Sample → Type 0)
    → ((e : Edge) → Fits (grid_row g m) (grid_column g m) e → Through g (grid_row g m) (grid_column g m) (In D e.on) e)
    → (p p' : Planes) → Alike D p p' → Alike D (filter_macroblock g plan m p) (filter_macroblock g plan m p')
unfolding filter_macroblock
macroblock-alike g plan m D th =
    edges-alike g (grid_row g m) (grid_column g m) D (edges_at (plan m) (grid_row g m) (grid_column g m) places)
    (all_map th (edges_fit (plan m) (grid_row g m) (grid_column g m)))

-- a step's planes differ from those before it at most in its reach
pub step-alike : (g : Grid) (plan : ℕ → Plan) (m : ℕ) → m < macroblocks g → (p : Planes) → Alike (Reach g m) (filter_macroblock g plan m p) p
unfolding Alike In Local
step-alike g plan m hm p q = record {
  len = length-macroblock g plan m p q;
  same = λ i n. macroblock-local g plan m p (record { on = q; index = i }) hm n;
}
