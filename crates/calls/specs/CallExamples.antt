-- Lists of calls, computed. Each has three calls, one of them refused, and halts before the last macroblock. A further call then goes on, with the list's entries or with another one put in for that macroblock.
-- The theorem `shown` of proofs/CallExamples.antt computes them.
use Rattle.std.specs.Prelude.{◌≡◌, true, false, cond, [], ◌∷◌, ℕ, ltb}
use Rattle.std.proofs.Math.Option as option
use Rattle.std.proofs.Math.Option.{Option}
use Rattle.kernels.specs.Segment.{subblock_filter, mb_filter}
use Rattle.arithmetic.specs.Outcome.{Outcome, gives, refuses}
use Rattle.planes.specs.Steps.{Clear}
use Rattle.planes.specs.Planes.{Plane, luma, chroma_u, chroma_v, Sample, sample}
use Rattle.planes.specs.Macroblock.{filter}
use Rattle.planes.specs.Reach.{Reach}
use Rattle.calls.specs.Pass.{key_pass, inter_pass, plan_at, answer}
use Rattle.calls.specs.Calls.{Calls, done, FurtherCalls}
use Rattle.calls.specs.Smoothed.{part, parts}
use Rattle.calls.specs.FinalRows.{Rows, final_rows}
use Rattle.calls.specs.ExampleCalls.{left, in-luma, key_grid, key_picture, key_example_call, key₀, key₁, key₂, key₃, key₃', without_last_row, settings, mixed_list, zero_picture, zero_list, key_list, inter_grid, inter_picture, inter_example_call, inter₀, inter₁, inter₂, inter₂', put, inter_list}

pub record KeyShown : Type 0 where
  pub list : Calls key_pass key_picture (left key₀ 0) key_list (left key₂ 2)
  pub refused : answer key_pass (key_example_call (without_last_row key₁) 0 1 9) ≡ refuses 3
  pub k : done key_pass key_picture key_list ≡ 2
  -- the first macroblock's inner edges, nothing, and the left border of the second
  pub own-parts :
      part key_pass (key_example_call key₀ 0 0 1) ∷ part key_pass (key_example_call (without_last_row key₁) 0 1 9) ∷ part key_pass (key_example_call key₁ 0 1 1) ∷ []
      ≡ gives 96 ∷ refuses 3 ∷ gives 16 ∷ []
  pub smoothed : parts key_pass key_list ≡ 112
  pub further : FurtherCalls key_pass key_picture 2 (left key₂ 2) (left key₃ 3)
  pub further-put-in : FurtherCalls key_pass key_picture 2 (left key₂ 2) (left key₃' 3)
  -- a final sample, which is not what was first lent: column 4
  pub final : Clear (Reach key_grid) 2 3 (in-luma 4)
  pub final-values : sample key₀ (in-luma 4) ∷ sample key₂ (in-luma 4) ∷ sample key₃ (in-luma 4) ∷ sample key₃' (in-luma 4) ∷ [] ≡ 108 ∷ 106 ∷ 106 ∷ 106 ∷ []
  -- a sample that is not final, and that the third macroblock changes: column 31
  pub not-final : Reach key_grid 2 (in-luma 31)
  pub not-final-values : sample key₂ (in-luma 31) ∷ sample key₃ (in-luma 31) ∷ [] ≡ 116 ∷ 118 ∷ []
  -- a sample that the entry put in changes: column 36
  pub put-in-values : sample key₃ (in-luma 36) ∷ sample key₃' (in-luma 36) ∷ [] ≡ 132 ∷ 130 ∷ []

pub record InterShown : Type 0 where
  pub list : Calls inter_pass inter_picture (left inter₀ 0) inter_list (left inter₁ 1)
  pub refused : answer inter_pass (inter_example_call inter₀ 5 0 0 2) ≡ refuses 6
  -- 6 is judged over whole lists, also where nothing is to be done
  pub refused-idle : answer inter_pass (inter_example_call inter₀ 5 0 0 0) ≡ refuses 6
  -- the threshold follows the settings' key mark: 1, and 2 without it
  pub marks :
      plan_at (settings false true) 20 true ∷ plan_at (settings false false) 20 true ∷ []
      ≡ filter true (mb_filter 1 20 64) (subblock_filter 1 20 60) true ∷ filter true (mb_filter 2 20 64) (subblock_filter 2 20 60) true ∷ []
  pub k : done inter_pass inter_picture inter_list ≡ 1
  -- the inner edges of the first macroblock, luma and chroma, by the last call alone
  pub smoothed : parts inter_pass inter_list ≡ 128
  pub further : FurtherCalls inter_pass inter_picture 1 (left inter₁ 1) (left inter₂ 2)
  pub further-put-in : FurtherCalls inter_pass inter_picture 1 (left inter₁ 1) (left (put inter₂') 2)
  -- a final sample, which is not what was first lent: row 4
  pub final : Clear (Reach inter_grid) 1 2 (in-luma 64)
  pub final-values : sample inter₀ (in-luma 64) ∷ sample inter₁ (in-luma 64) ∷ sample inter₂ (in-luma 64) ∷ sample (put inter₂') (in-luma 64) ∷ [] ≡ 108 ∷ 105 ∷ 105 ∷ 105 ∷ []
  -- samples that are not final, and that the second macroblock changes: row 13, and row 5 of chroma
  pub not-final : Reach inter_grid 1 (in-luma 208)
  pub not-final-values : sample inter₁ (in-luma 208) ∷ sample inter₂ (in-luma 208) ∷ [] ≡ 108 ∷ 109 ∷ []
  pub not-final-chroma : Reach inter_grid 1 (record { on = chroma_u; index = 40 })
  pub not-final-chroma-values : sample inter₁ (record { on = chroma_u; index = 40 }) ∷ sample inter₂ (record { on = chroma_u; index = 40 }) ∷ [] ≡ 100 ∷ 101 ∷ []
  -- a sample that the entry put in changes: row 20
  pub put-in-values : sample inter₂ (in-luma 320) ∷ sample (put inter₂') (in-luma 320) ∷ [] ≡ 124 ∷ 121 ∷ []

-- one that is lent all but the last row of luma does not see that row
abbrev pub sees_all_but : Plane → (index : ℕ) → Option Sample
sees_all_but luma i = cond (ltb i 720) (option.some (record { on = luma; index = i })) option.none
sees_all_but chroma_u i = option.some (record { on = chroma_u; index = i })
sees_all_but chroma_v i = option.some (record { on = chroma_v; index = i })

-- three columns and two rows of macroblocks: 0 to 6 of the 6 done, and beyond
abbrev rows_after : (start : ℕ) → Outcome Rows
rows_after start = final_rows (record { columns = 3; rows = 2; luma_stride = 48; chroma_stride = 24 }) start

abbrev rows : (y uv : ℕ) → Outcome Rows
rows y uv = gives (record { luma = y; chroma = uv })

pub record Shown : Type 0 where
  pub key : KeyShown
  pub inter : InterShown
  -- byte lists and records in one list, which ends at n
  pub mixed : Calls key_pass key_picture (left key₀ 0) mixed_list (left key₃ 3)
  pub mixed-k : done key_pass key_picture mixed_list ≡ 3
  pub zero-grid : Calls key_pass zero_picture (left key₀ 0) zero_list (left key₀ 0)
  pub zero-grid-k : done key_pass zero_picture zero_list ≡ 0
  pub final-rows :
      rows_after 0 ∷ rows_after 2 ∷ rows_after 3 ∷ rows_after 4 ∷ rows_after 5 ∷ rows_after 6 ∷ rows_after 7 ∷ []
      ≡ rows 0 0 ∷ rows 0 0 ∷ rows 13 5 ∷ rows 13 5 ∷ rows 13 5 ∷ rows 32 16 ∷ refuses 7 ∷ []
