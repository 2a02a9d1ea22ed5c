-- Rows that are sent down while a pass has still macroblocks to do, and while the lower ones are still being decoded.
use Rattle.std.specs.Prelude.{◌≡◌, List, ℕ, ◌≤◌, ◌<◌}
use Rattle.arithmetic.specs.Outcome.{gives}
use Rattle.planes.specs.Steps.{Clear}
use Rattle.planes.specs.Planes.{Planes, Sample, sample, row_of, macroblocks}
use Rattle.planes.specs.Reach.{Reach}
use Rattle.calls.specs.Pass.{Pass, Call}
use Rattle.calls.specs.Calls.{Picture, LastLeft, done, final_value, FurtherCalls}
use Rattle.calls.specs.FinalRows.{Rows, rows_in, final_rows}

-- the sample stands in a row that `final_rows` counts where the pass is to go on from `start`
pub record InFinalRows (pic : Picture) (start : ℕ) (x : Sample) : Type 0 where
  pub rows : Rows
  pub answered : final_rows pic.grid start ≡ gives rows
  pub in_rows : row_of pic.grid x < rows_in x.on rows

module _ (W : Pass) where
  -- After a list of calls that leaves h: the rows that `final_rows` counts at its start hold their final values, and keep them through all further calls.
  pub record RowsSent (pic : Picture) (p : Planes) (list : List (Call W)) (h : LastLeft) : Type 0 where
    pub final : (x : Sample) → InFinalRows pic h.start x → sample h.planes x ≡ final_value W pic p x
    pub kept : (x : Sample) → InFinalRows pic h.start x → (h' : LastLeft) → FurtherCalls W pic (done W pic list) h h' → sample h'.planes x ≡ final_value W pic p x

  -- The loop of a caller who decodes a row, puts its samples and entries in, filters, asks `final_rows`, sends, and repeats: after a list that did k macroblocks, further calls have led to h.
  -- From then on only samples and entries of macroblocks from h's start on are put in.
  pub record WhileDecoding (pic : Picture) (k : ℕ) (h : LastLeft) : Type 0 where
    pub between : (k ≤ h.start) × (h.start ≤ macroblocks pic.grid)
    -- what no macroblock from h's start on can reach stays
    pub kept :
        (x : Sample) → Clear (Reach pic.grid) h.start (macroblocks pic.grid) x
        → (h' : LastLeft) → FurtherCalls W pic h.start h h' → sample h'.planes x ≡ sample h.planes x
    -- and so does every row that `final_rows` counts there
    pub rows-kept : (x : Sample) → InFinalRows pic h.start x → (h' : LastLeft) → FurtherCalls W pic h.start h h' → sample h'.planes x ≡ sample h.planes x
