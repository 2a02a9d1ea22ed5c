-- How many positions the calls of a pass smooth: those of the definition whose test passes at the moment they are met. Every accepted call has its own part; over a list of calls the parts add up.
use Rattle.std.specs.Prelude.{◌≡◌, true, cond, List, [], ◌∷◌, ℕ, ◌+◌, ◌*◌, ◌≤◌, ◌<◌, eqb}
use Rattle.arithmetic.specs.Outcome.{Outcome, gives, refuses}
use Rattle.levels.specs.declared.config.FrameFilterConfig.{FrameFilterConfig}
use Rattle.planes.specs.Steps.{tally}
use Rattle.planes.specs.Planes.{Planes, Grid, macroblocks}
use Rattle.planes.specs.Macroblock.{leave}
use Rattle.planes.specs.GridRefusals.{zero_grid}
use Rattle.planes.specs.Smoothed.{macroblock_smoothed}
use Rattle.calls.specs.Entries.{Entry}
use Rattle.calls.specs.Pass.{Pass, Call, refusal, step, count, answer}
use Rattle.calls.specs.Calls.{Picture, Accepted, done, Unbroken}

-- how many positions document 01's step of macroblock m smooths
unfoldable pub step_smoothed : (W : Pass) → Grid → FrameFilterConfig → (ℕ → Entry) → (m : ℕ) → Planes → ℕ
step_smoothed W g settings entries = macroblock_smoothed g (λ m. W.plan settings (entries m))

-- the part of one call, over the steps that it does; a refused call has none
unfoldable pub part : (W : Pass) → Call W → Outcome ℕ
part W a =
    cond (eqb (refusal W a) 0)
    (gives (tally (step W a.grid a.settings (W.entry a.carried)) (step_smoothed W a.grid a.settings (W.entry a.carried)) a.start (count W a) a.lent))
    (refuses (refusal W a))

abbrev pub part_within : Outcome ℕ → ℕ
part_within (gives n) = n
part_within (refuses number) = 0

-- a macroblock has at most 192 positions: 128 of luma, 32 of each chroma plane
abbrev pub most_positions : ℕ
most_positions = 192

module _ (W : Pass) where
  -- the sum of the parts that are answered
  unfoldable pub parts : List (Call W) → ℕ
  parts [] = 0
  parts (a ∷ rest) = part_within (part W a) + parts rest

  -- the total of the definition's first k steps
  unfoldable pub first_smoothed : Picture → (k : ℕ) → Planes → ℕ
  first_smoothed pic k = tally (step W pic.grid pic.settings pic.entries) (step_smoothed W pic.grid pic.settings pic.entries) 0 k

  -- Of every call, whatever its arguments.
  pub record OfEveryPart : Type 0 where
    -- a call that is answered with a count has a part, which `part` says; a refused one has its refusal's number
    pub accepted : (a : Call W) → Accepted W a → (n : ℕ) × (part W a ≡ gives n)
    pub refused : (a : Call W) (number : ℕ) → answer W a ≡ refuses number → part W a ≡ refuses number
    -- no total comes near 2 ^ 64
    pub most : (a : Call W) (n : ℕ) → part W a ≡ gives n → n ≤ most_positions * count W a
    pub bounded : (a : Call W) (n : ℕ) → part W a ≡ gives n → n ≤ most_positions * 1048576
    -- nothing is smoothed in a zero grid, nor where the call's own macroblocks are left alone, as at level 0
    pub zero-grid : (a : Call W) → zero_grid a.grid ≡ true → part W a ≡ gives 0
    pub left_alone :
        (a : Call W) → ((m : ℕ) → a.start ≤ m → m < a.start + count W a → W.plan a.settings (W.entry a.carried m) ≡ leave)
        → (n : ℕ) → part W a ≡ gives n → n ≡ 0

  -- Of a list of calls on the picture, from start 0 and the planes p: `done pic list` is document 01's k.
  pub record PartsPromise (pic : Picture) (p : Planes) (list : List (Call W)) : Type 0 where
    -- "over a list of the halting rule the parts add up to the total of its first k steps"
    pub added : parts list ≡ first_smoothed pic (done W pic list) p
    -- Where k is the whole grid, they add up to what one unbroken pass tells.
    pub unbroken : done W pic list ≡ macroblocks pic.grid → (a : Call W) → Unbroken W pic p a → part W a ≡ gives (parts list)
    pub most : parts list ≤ most_positions * done W pic list
