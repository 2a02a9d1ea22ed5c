-- A pass keeps bytes: what it stores is a clamped number plus 128. So no score reaches 2 ^ 64.
use mathlib.Core.Path.{◌≡◌, refl, ◌∙◌}
use mathlib.Core.Bool.{Bool, true, false, cond}
use mathlib.Core.List.{List, [], ◌∷◌}
use Prim.Native.Nat.{ℕ, zero, suc, ◌-◌, ◌<◌, ◌^◌}
use native.Mathlib.Omega.{arith}
use lib.Dec.{eqb}
use lib.IntN.{ℤ}
use lib.ListN.{get_or, set, take, drop}
use borrow.Author.Tests.{lt-leb}
use Rattle.levels.specs.declared.config.FrameFilterConfig.{FrameFilterConfig}
use Rattle.arithmetic.specs.Numbers.{clamp, s2u}
use Rattle.kernels.specs.Kernels as K
use Rattle.kernels.specs.Kernels.{adjusted_p0, adjusted_q0}
use Rattle.kernels.specs.Segment.{Kernel, common_adjust, simple_segment, subblock_filter, mb_filter, taps, smooth, gather, scatter, segment}
use Rattle.arithmetic.proofs.Ranges.{clamp-in, up_lt}
use Rattle.planes.specs.Steps.{steps}
use Rattle.planes.specs.Planes.{Plane, luma, chroma_u, chroma_v, Planes, Grid, side, plane, on_plane, macroblocks, grid_row, grid_column}
use Rattle.planes.specs.Edges.{Edge, edge_tap, filter_edge, places}
use Rattle.planes.specs.Macroblock.{Plan, edges_at, filter_edges, filter_macroblock}
use Rattle.calls.specs.Pass.{Pass, Call, refusal, step, count, planes_after}
use Rattle.planes.proofs.AllOf.{All, none, ◌&◌}
use Rattle.planes.proofs.Steps.{steps-inv}
use Rattle.planes.specs.GridRefusals.{past_grid}
use Rattle.sums.specs.Sums.{past_source, sum_too_large}
use Rattle.sums.specs.Bytes.{Bytes, BytePlanes}
use Rattle.search.specs.Candidates.{Candidate}
use Rattle.search.specs.Search.{SearchCall, settings_at, pass_over, candidate_planes, planes_of_candidate, score, any_too_large}
use Rattle.sums.proofs.SumBounds.{sum_fits}
use Rattle.search.proofs.CandidateLaws.{candidate-past}

abbrev Byte : ℕ → Type 0
Byte n = n < 256

-- ---- lists

all-cond : (b : Bool) {l l' : List ℕ} → All Byte l → All Byte l' → All Byte (cond b l l')
all-cond true a a' = a
all-cond false a a' = a'

all-at : {l : List ℕ} → All Byte l → (i : ℕ) → get_or l i 0 < 256
all-at none i = omega arith
all-at (h & a) zero = h
all-at (h & a) (suc i) = all-at a i

all_take : (n : ℕ) {l : List ℕ} → All Byte l → All Byte (take n l)
all_take zero a = none
all_take (suc n) none = none
all_take (suc n) (h & a) = h & all_take n a

all_drop : (n : ℕ) {l : List ℕ} → All Byte l → All Byte (drop n l)
all_drop zero a = a
all_drop (suc n) none = none
all_drop (suc n) (h & a) = all_drop n a

set-byte : (l : List ℕ) (j v : ℕ) → v < 256 → ((i : ℕ) → get_or l i 0 < 256) → (i : ℕ) → get_or (set l j v) i 0 < 256
set-byte [] j v hv h i = h i
set-byte (x ∷ l) zero v hv h zero = hv
set-byte (x ∷ l) zero v hv h (suc i) = h (suc i)
set-byte (x ∷ l) (suc j) v hv h zero = h zero
set-byte (x ∷ l) (suc j) v hv h (suc i) = set-byte l j v hv (λ k. h (suc k)) i

-- ---- kernels

clamped : (v : ℤ) → s2u v < 256
unfolding s2u
clamped v = up_lt (clamp v) (clamp-in v)

p0-byte : (o : Bool) (a b c d : ℕ) → adjusted_p0 o a b c d < 256
unfolding adjusted_p0
p0-byte o a b c d = clamped _

q0-byte : (o : Bool) (a b c d : ℕ) → adjusted_q0 o a b c d < 256
unfolding adjusted_q0
q0-byte o a b c d = clamped _

module _ (ts : List ℕ) (h : (i : ℕ) → get_or ts i 0 < 256) where
  smooth-bytes : (k : Kernel) → All Byte (smooth k ts)
  unfolding smooth K.common_adjust K.simple_segment K.subblock_filter K.mb_filter
  smooth-bytes (common_adjust outer) = h 0 & p0-byte outer _ _ _ _ & q0-byte outer _ _ _ _ & h 3 & none
  smooth-bytes (simple_segment edge) =
      all-cond (K.simple_yes edge (get_or ts 0 0) (get_or ts 1 0) (get_or ts 2 0) (get_or ts 3 0))
      (h 0 & p0-byte true _ _ _ _ & q0-byte true _ _ _ _ & h 3 & none) (h 0 & h 1 & h 2 & h 3 & none)
  smooth-bytes (subblock_filter threshold interior edge) =
      all-cond (K.segment_yes interior edge (get_or ts 0 0) (get_or ts 1 0) (get_or ts 2 0) (get_or ts 3 0) (get_or ts 4 0) (get_or ts 5 0) (get_or ts 6 0) (get_or ts 7 0))
      (all-cond (K.segment_hev threshold (get_or ts 2 0) (get_or ts 3 0) (get_or ts 4 0) (get_or ts 5 0))
      (h 0 & h 1 & h 2 & p0-byte true _ _ _ _ & q0-byte true _ _ _ _ & h 5 & h 6 & h 7 & none)
      (h 0 & h 1 & clamped _ & p0-byte false _ _ _ _ & q0-byte false _ _ _ _ & clamped _ & h 6 & h 7 & none))
      (h 0 & h 1 & h 2 & h 3 & h 4 & h 5 & h 6 & h 7 & none)
  smooth-bytes (mb_filter threshold interior edge) =
      all-cond (K.segment_yes interior edge (get_or ts 0 0) (get_or ts 1 0) (get_or ts 2 0) (get_or ts 3 0) (get_or ts 4 0) (get_or ts 5 0) (get_or ts 6 0) (get_or ts 7 0))
      (all-cond (K.segment_hev threshold (get_or ts 2 0) (get_or ts 3 0) (get_or ts 4 0) (get_or ts 5 0))
      (h 0 & h 1 & h 2 & p0-byte true _ _ _ _ & q0-byte true _ _ _ _ & h 5 & h 6 & h 7 & none)
      (h 0 & clamped _ & clamped _ & clamped _ & clamped _ & clamped _ & clamped _ & h 7 & none))
      (h 0 & h 1 & h 2 & h 3 & h 4 & h 5 & h 6 & h 7 & none)

-- ---- segments, edges, macroblocks

gather-bytes : (at : ℕ → ℕ) (t n : ℕ) (l : List ℕ) → ((i : ℕ) → get_or l i 0 < 256) → All Byte (gather at t n l)
unfolding gather
gather-bytes at t zero l h = none
gather-bytes at t (suc n) l h = h (at t) & gather-bytes at (suc t) n l h

scatter-bytes : (at : ℕ → ℕ) (t : ℕ) (vs : List ℕ) → All Byte vs → (l : List ℕ) → Bytes l → Bytes (scatter at t vs l)
unfolding scatter Bytes
scatter-bytes at t [] none l h = h
scatter-bytes at t (v ∷ vs) (hv & a) l h = scatter-bytes at (suc t) vs a (set l (at t) v) (set-byte l (at t) v hv h)

segment-bytes : (k : Kernel) (at : ℕ → ℕ) (l : List ℕ) → Bytes l → Bytes (segment k at l)
unfolding segment Bytes
segment-bytes k at l h =
    scatter-bytes at 1 (take (taps k - 2) (drop 1 (smooth k (gather at 0 (taps k) l))))
    (all_take (taps k - 2) (all_drop 1 (smooth-bytes (gather at 0 (taps k) l) (all-at (gather-bytes at 0 (taps k) l h)) k))) l h

edge-bytes : (g : Grid) (r c : ℕ) (e : Edge) (l : List ℕ) → Bytes l → Bytes (filter_edge g r c e l)
unfolding filter_edge
edge-bytes g r c e l h =
    steps-inv (λ j. segment e.kernel (edge_tap g r c e j)) Bytes (λ j m b. segment-bytes e.kernel (edge_tap g r c e j) m b) 0 (side e.on) l h

on-bytes : (q : Plane) (f : List ℕ → List ℕ) (p : Planes) → BytePlanes p → Bytes (f (plane q p)) → BytePlanes (on_plane q f p)
unfolding BytePlanes
on-bytes luma f p h b luma = b
on-bytes luma f p h b chroma_u = h chroma_u
on-bytes luma f p h b chroma_v = h chroma_v
on-bytes chroma_u f p h b luma = h luma
on-bytes chroma_u f p h b chroma_u = b
on-bytes chroma_u f p h b chroma_v = h chroma_v
on-bytes chroma_v f p h b luma = h luma
on-bytes chroma_v f p h b chroma_u = h chroma_u
on-bytes chroma_v f p h b chroma_v = b

edges-bytes : (g : Grid) (r c : ℕ) (es : List Edge) (p : Planes) → BytePlanes p → BytePlanes (filter_edges g r c es p)
unfolding filter_edges BytePlanes
edges-bytes g r c [] p h = h
edges-bytes g r c (e ∷ es) p h =
    edges-bytes g r c es (on_plane e.on (filter_edge g r c e) p) (on-bytes e.on (filter_edge g r c e) p h (edge-bytes g r c e (plane e.on p) (h e.on)))

macroblock-bytes : (g : Grid) (plan : ℕ → Plan) (m : ℕ) (p : Planes) → BytePlanes p → BytePlanes (filter_macroblock g plan m p)
unfolding filter_macroblock
macroblock-bytes g plan m p h = edges-bytes g (grid_row g m) (grid_column g m) (edges_at (plan m) (grid_row g m) (grid_column g m) places) p h

-- ---- passes and candidates

pub pass-bytes : (W : Pass) (a : Call W) → BytePlanes a.lent → BytePlanes (planes_after W a)
unfolding planes_after step
pass-bytes W a h =
    by (eqb (refusal W a) 0) (steps (filter_macroblock a.grid (λ m. W.plan a.settings (W.entry a.carried m))) a.start (count W a) a.lent) (steps-inv (filter_macroblock a.grid (λ m. W.plan a.settings (W.entry a.carried m))) BytePlanes
    (λ m p b. macroblock-bytes a.grid (λ m. W.plan a.settings (W.entry a.carried m)) m p b) a.start (count W a) a.lent h)
  where
    by : (b : Bool) (x : Planes) → BytePlanes x → BytePlanes (cond b x a.lent)
    by true x k = k
    by false x k = h

candidate-bytes : (W : Pass) (g : Grid) (settings : FrameFilterConfig) (carried : W.Carried) (p : Planes) (c : Candidate) → BytePlanes p → BytePlanes (candidate_planes W g settings carried p c)
unfolding candidate_planes pass_over
candidate-bytes W g settings carried p c h = by (eqb c.level 0)
  where
    by : (b : Bool) → BytePlanes (cond b p (pass_over W g (settings_at settings c) carried p))
    by true = h
    by false = pass-bytes W (record { grid = g; settings = settings_at settings c; carried = carried; lent = p; start = 0; allowance = macroblocks g }) h

module _ (W : Pass) (a : SearchCall W) (bp : BytePlanes a.reconstruction) (bs : BytePlanes a.source.samples) (e : past_grid a.grid a.reconstruction 0 ≡ 0) (f : past_source a.grid a.source 0 ≡ 0) where
  -- no sum that a search takes reaches 2 ^ 64
  pub score-fits : (c : Candidate) → score W a c < 2 ^ 64
  unfolding score planes_of_candidate
  score-fits c =
      sum_fits a.grid (candidate_planes W a.grid a.settings a.carried a.reconstruction c) a.source
      (candidate-bytes W a.grid a.settings a.carried a.reconstruction c bp) bs
      (candidate-past W a.grid a.settings a.carried a.reconstruction c 0 ∙ e) f

  pub none-too-large : (cs : List Candidate) → any_too_large (score W a) cs ≡ false
  unfolding any_too_large sum_too_large
  none-too-large [] = refl
  none-too-large (c ∷ cs) = rw (lt-leb (2 ^ 64) (score W a c) (score-fits c)) (none-too-large cs)
