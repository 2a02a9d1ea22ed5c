-- Samples that have their final value, and samples outside the grid.
use mathlib.Core.Path.{◌≡◌}
use Prim.Native.Nat.{ℕ, ◌+◌, ◌≤◌}
use Rattle.planes.specs.Steps.{steps, Clear}
use Rattle.planes.specs.Planes.{Planes, Grid, Sample, sample, macroblocks}
use Rattle.planes.specs.Macroblock.{Plan, filter_macroblock}
use Rattle.planes.specs.Reach.{Reach, InGrid}
use Rattle.planes.proofs.Steps.{steps-keep, steps-final}
use Rattle.planes.proofs.Local.{macroblock-local, reach-in-grid}

-- no macroblock reaches a sample outside the grid
pub outside-clear : (g : Grid) (k : ℕ) (x : Sample) → ¬ InGrid g x → Clear (Reach g) k (macroblocks g) x
unfolding Clear
outside-clear g k x out m _ hm near = out (reach-in-grid g m x hm near)

module _ (g : Grid) (plan : ℕ → Plan) where
  -- macroblocks from k on leave alone what none of those from k on can reach
  pub macroblocks-keep : (k c : ℕ) (p : Planes) (x : Sample) → k + c ≤ macroblocks g → Clear (Reach g) k (macroblocks g) x
      → sample (steps (filter_macroblock g plan) k c p) x ≡ sample p x
  macroblocks-keep = steps-keep sample (Reach g) (filter_macroblock g plan) (macroblocks g) (macroblock-local g plan)

  -- a sample that no macroblock from k on can reach has its final value after the first k
  pub sample-final : (k : ℕ) (p : Planes) (x : Sample) → k ≤ macroblocks g → Clear (Reach g) k (macroblocks g) x
      → sample (steps (filter_macroblock g plan) 0 k p) x ≡ sample (steps (filter_macroblock g plan) 0 (macroblocks g) p) x
  sample-final = steps-final sample (Reach g) (filter_macroblock g plan) (macroblocks g) (macroblock-local g plan)

  -- samples outside the grid never change
  pub outside-keeps : (k c : ℕ) (p : Planes) (x : Sample) → k + c ≤ macroblocks g → ¬ InGrid g x → sample (steps (filter_macroblock g plan) k c p) x ≡ sample p x
  outside-keeps k c p x h out = macroblocks-keep k c p x h (outside-clear g k x out)
