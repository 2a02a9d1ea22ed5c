-- What a macroblock's step reads, and when two steps may change places.
use mathlib.Core.Path.{◌≡◌}
use mathlib.Core.Logic.{◌⊎◌, inl, inr}
use Prim.Native.Nat.{ℕ, ◌+◌, ◌-◌, ◌*◌, ◌/◌, ◌%◌, ◌<◌}
use native.Mathlib.Omega.{arith}
use Rattle.planes.specs.Planes.{Planes, Grid, side, stride, Sample, macroblocks, grid_row, grid_column, StridesHold}
use Rattle.planes.specs.Edges.{Direction, vertical, horizontal, edge_tap}
use Rattle.planes.specs.Macroblock.{Plan, filter_macroblock}
use Rattle.planes.specs.Reach.{Stands, Box, Near, Reach}
use Rattle.kernels.proofs.SegmentLaws.{Passes}
use Rattle.planes.proofs.Fits.{Wide, wide, Tap, edge-tap}
use Rattle.planes.proofs.Divided.{stands-divided}
use Rattle.planes.proofs.Alike.{Through, In, Alike, alike-sym, alike-trans, alike_both, macroblock-alike, step-alike}

-- a square, 4 columns left of it along its rows, and 4 rows above it along its columns
unfoldable pub About : (size top left row column : ℕ) → Type 0
About size top left row column =
    Box top (top + size) (left - 4) (left + size) row column ⊎ Box (top - 4) (top + size) left (left + size) row column

-- what macroblock m's step can read
unfoldable pub Reads : Grid → (m : ℕ) → Sample → Type 0
Reads g m x = Stands (stride g x.on) x.index (About (side x.on) (side x.on * grid_row g m) (side x.on * grid_column g m))

pub reach-reads : (g : Grid) (m : ℕ) (x : Sample) → Reach g m x → Reads g m x
unfolding Reach Near Box Reads About
reach-reads g m x r = record { row = r.row; column = r.column; at = r.at; there = go r.there }
  where
    z : ℕ
    z = side x.on

    go : Near z (z * grid_row g m) (z * grid_column g m) r.row r.column → About z (z * grid_row g m) (z * grid_column g m) r.row r.column
    go (inl b) = inl (omega arith)
    go (inr b) = inr (omega arith)

tap-about : (d : Direction) (z top left j row column : ℕ) → j < z → Tap d z top left j row column → About z top left row column
unfolding Tap About Box
tap-about vertical z top left j row column h t = inl (omega arith)
tap-about horizontal z top left j row column h t = inr (omega arith)

module _ (g : Grid) (plan : ℕ → Plan) (ok : StridesHold g) where
  -- a difference that the step does not read stays where it is
  pub step-reads : (m : ℕ) → m < macroblocks g → (D : Sample → Type 0) → ((x : Sample) → D x → ¬ Reads g m x) → (p p' : Planes) → Alike D p p'
      → Alike D (filter_macroblock g plan m p) (filter_macroblock g plan m p')
  unfolding Through Passes In Reads Wide
  step-reads m hm D apart =
      macroblock-alike g plan m D (λ e f j hj. inl (λ t ht d. apart (record { on = e.on; index = edge_tap g (grid_row g m) (grid_column g m) e j t }) d
      (stands-divided (stride g e.on) (edge_tap g (grid_row g m) (grid_column g m) e j t)
      (About (side e.on) (side e.on * grid_row g m) (side e.on * grid_column g m))
      (tap-about e.direction (side e.on) (side e.on * grid_row g m) (side e.on * grid_column g m) j
      (edge_tap g (grid_row g m) (grid_column g m) e j t / stride g e.on) (edge_tap g (grid_row g m) (grid_column g m) e j t % stride g e.on) hj
      (edge-tap g (grid_row g m) (grid_column g m) e f (wide g ok m hm e.on) j t hj ht)))))

  -- two macroblocks, neither of which can reach what the other reads
  pub commute : (m m' : ℕ) → m < macroblocks g → m' < macroblocks g → ((x : Sample) → Reach g m x → ¬ Reads g m' x) → ((x : Sample) → Reach g m' x → ¬ Reads g m x) → (p : Planes)
      → filter_macroblock g plan m (filter_macroblock g plan m' p) ≡ filter_macroblock g plan m' (filter_macroblock g plan m p)
  commute m m' hm hm' apart apart' p =
      alike_both (Reach g m') (Reach g m) (λ x r r'. apart' x r (reach-reads g m x r')) (f m (f m' p)) (f m' (f m p))
      (alike-trans (Reach g m') (f m (f m' p)) (f m p) (f m' (f m p))
      (step-reads m hm (Reach g m') apart' (f m' p) p (step-alike g plan m' hm' p))
      (alike-sym (Reach g m') (f m' (f m p)) (f m p) (step-alike g plan m' hm' (f m p))))
      (alike-trans (Reach g m) (f m (f m' p)) (f m' p) (f m' (f m p))
      (step-alike g plan m hm (f m' p))
      (alike-sym (Reach g m) (f m' (f m p)) (f m' p) (step-reads m' hm' (Reach g m) apart (f m p) p (step-alike g plan m hm p))))
    where
      f : ℕ → Planes → Planes
      f = filter_macroblock g plan
