-- Rows that may be sent down: after a list of calls, and while the lower ones are still being decoded.
use mathlib.Core.Path.{◌≡◌}
use mathlib.Core.List.{List}
use Prim.Native.Nat.{ℕ, ◌≤◌, ◌<◌}
use native.Mathlib.Decide.{dec_lt}
use native.Mathlib.Omega.{arith}
use Rattle.planes.specs.Steps.{Clear}
use Rattle.planes.specs.Planes.{Planes, Sample, sample, macroblocks, StridesHold}
use Rattle.planes.specs.Reach.{Reach}
use Rattle.calls.specs.Pass.{Pass, Call}
use Rattle.calls.specs.Calls.{Picture, LastLeft, Calls, done, FurtherCalls, Promise}
use Rattle.calls.specs.SentRows.{InFinalRows, RowsSent, WhileDecoding}
use Rattle.calls.proofs.CallRuns.{further-keeps, further-start, further-strides}
use Rattle.calls.proofs.Demand3.{demand-3, strides-there}
use Rattle.calls.proofs.RowsLaws.{leading-rows, no-rows-at-first}

-- where a row is final, something was done
begun : (pic : Picture) (start : ℕ) (x : Sample) → InFinalRows pic start x → 0 < start
begun pic start x i = go (dec_lt 0 start)
  where
    go : Dec (0 < start) → 0 < start
    go (yes l) = l
    go (no l) =
        let z : start ≡ 0 = omega arith in
        absurd (omega (arith, no-rows-at-first pic.grid i.rows (rw z at i.answered) x.on, i.in_rows))

-- and no macroblock from there on can reach it
clear : (pic : Picture) (start : ℕ) (x : Sample) → StridesHold pic.grid → InFinalRows pic start x → Clear (Reach pic.grid) start (macroblocks pic.grid) x
clear pic start x ok i = (leading-rows pic.grid start i.rows i.answered).clear ok x i.in_rows

module _ (W : Pass) (pic : Picture) (p : Planes) (list : List (Call W)) (h : LastLeft) (calls : Calls W pic (record { planes = p; start = 0 }) list h) where
  promised : Promise W pic p list h
  promised = demand-3 W pic p list h calls

  within : done W pic list ≤ macroblocks pic.grid
  unfolding done
  within = omega arith

  -- a list that did a macroblock has strides that hold a row
  strides : 0 < done W pic list → StridesHold pic.grid
  strides l = strides-there W pic p list h calls (promised.some-accepted l) (omega (arith, within))

  clear-after : (x : Sample) → InFinalRows pic h.start x → Clear (Reach pic.grid) (done W pic list) (macroblocks pic.grid) x
  clear-after x i = rw promised.start at (clear pic h.start x (strides (rw promised.start at (begun pic h.start x i))) i)

  pub rows-sent : RowsSent W pic p list h
  rows-sent = record {
    final = λ x i. promised.final x (clear-after x i);
    kept = λ x i h' further. promised.keeps x (clear-after x i) h' further;
  }

  module _ (h₁ : LastLeft) (further : FurtherCalls W pic (done W pic list) h h₁) where
    led : (h.start ≤ h₁.start) × (h₁.start ≤ macroblocks pic.grid)
    led = further-start W pic (omega (arith, promised.start, within)) further

    strides-later : 0 < h₁.start → StridesHold pic.grid
    strides-later l = go (dec_lt 0 h.start)
      where
        go : Dec (0 < h.start) → StridesHold pic.grid
        go (yes m) = strides (rw promised.start at m)
        go (no m) = further-strides W pic (omega (arith, promised.start, within)) (omega (arith, l)) further

    keeps : (x : Sample) → Clear (Reach pic.grid) h₁.start (macroblocks pic.grid) x
        → (h₂ : LastLeft) → FurtherCalls W pic h₁.start h₁ h₂ → sample h₂.planes x ≡ sample h₁.planes x
    keeps x c h₂ more = further-keeps W pic h₁.start x c (omega arith) led.1 more

    pub while-decoding : WhileDecoding W pic (done W pic list) h₁
    while-decoding = record {
      between = (omega (arith, led, promised.start), led.1);
      kept = keeps;
      rows-kept = λ x i. keeps x (clear pic h₁.start x (strides-later (begun pic h₁.start x i)) i);
    }
