-- The calls of the computed lists: three macroblocks side by side in the key pass, with the simple filter; two one above the other in the inter pass, with the normal filter.
-- The planes named are those before and after each macroblock; `CallExamples` computes them.
use Rattle.std.specs.Prelude.{Bool, true, false, List, [], ◌∷◌, ◌++◌, ℕ, zero, suc, pos, replicate, set, take, None}
use Rattle.levels.specs.declared.config.FrameFilterConfig.{FrameFilterConfig}
use Rattle.levels.specs.declared.modes.IntraYMode.{IntraYMode}
use Rattle.levels.specs.declared.modes.IntraYMode.TheVariants as mode
use Rattle.calls.specs.declared.records.MacroblockModes.{MacroblockModes}
use Rattle.planes.specs.Planes.{luma, Planes, Grid, Sample}
use Rattle.calls.specs.Entries.{KeyLists, InterLists, KeyCarried, InterCarried, key_entry, inter_entry}
use Rattle.calls.specs.Pass.{Call, key_pass, inter_pass}
use Rattle.calls.specs.Calls.{Picture, LastLeft}

abbrev pub copies : ℕ → List ℕ → List ℕ
copies zero l = []
copies (suc n) l = l ++ copies n l

-- a plane whose n columns all hold l
abbrev pub layers : (n : ℕ) → List ℕ → List ℕ
layers n [] = []
layers n (a ∷ l) = replicate n a ++ layers n l

-- level 20, no segments and no deltas
abbrev pub settings : (simple key : Bool) → FrameFilterConfig
settings simple key =
    record {
      simple = simple;
      key_frame = key;
      loop_filter_level = 20;
      sharpness_level = 0;
      segmentation_enabled = false;
      segment_abs = false;
      segment_lf_level = pos 0 ∷ pos 0 ∷ pos 0 ∷ pos 0 ∷ [];
      delta_enabled = false;
      ref_delta_current = pos 0;
      bpred_mode_delta = pos 0;
      ref_delta_last = pos 0;
      ref_delta_golden = pos 0;
      ref_delta_altref = pos 0;
      zero_mv_mode_delta = pos 0;
      other_mv_mode_delta = pos 0;
      split_mv_mode_delta = pos 0;
    }

abbrev pub left : Planes → ℕ → LastLeft
left p start = record { planes = p; start = start }

abbrev pub in-luma : ℕ → Sample
in-luma i = record { on = luma; index = i }

-- ---- the key pass: modes B, Dc and, for the third macroblock, Dc or B

abbrev pub key_grid : Grid
key_grid = record { columns = 3; rows = 1; luma_stride = 48; chroma_stride = 24 }

abbrev pub key_example_lists : (third : ℕ) → KeyLists
key_example_lists third = record { modes = 4 ∷ 0 ∷ third ∷ []; segments = 0 ∷ 0 ∷ 0 ∷ []; flags = 0 ∷ 0 ∷ 0 ∷ [] }

abbrev pub key_picture : Picture
key_picture = record { grid = key_grid; settings = settings true true; entries = key_entry (key_example_lists 0) }

abbrev pub key_example_call : Planes → (third start allowance : ℕ) → Call key_pass
key_example_call p third start allowance = record { grid = key_grid; settings = settings true true; carried = KeyCarried.byte_lists (key_example_lists third); lent = p; start = start; allowance = allowance }

-- luma, all of whose rows are the same
abbrev pub across : List ℕ → Planes
across row = record { y = copies 16 row; u = replicate 192 128; v = replicate 192 128 }

-- of a row, 4 and 12 samples of the first macroblock, 16 of the second, 4 and 12 of the third
abbrev pub key₀ : Planes
key₀ = across (replicate 4 100 ++ replicate 12 108 ++ replicate 16 116 ++ replicate 4 124 ++ replicate 12 132)

-- after the first macroblock: its inner edge
abbrev pub key₁ : Planes
key₁ = across (replicate 3 100 ++ 102 ∷ 106 ∷ replicate 11 108 ++ replicate 16 116 ++ replicate 4 124 ++ replicate 12 132)

-- after the second: its left border
abbrev pub key₂ : Planes
key₂ = across (replicate 3 100 ++ 102 ∷ 106 ∷ replicate 10 108 ++ 110 ∷ 114 ∷ replicate 15 116 ++ replicate 4 124 ++ replicate 12 132)

-- after the third: its left border
abbrev pub key₃ : Planes
key₃ = across (replicate 3 100 ++ 102 ∷ 106 ∷ replicate 10 108 ++ 110 ∷ 114 ∷ replicate 14 116 ++ 118 ∷ 122 ∷ replicate 3 124 ++ replicate 12 132)

-- after the third, with mode B: its inner edge as well
abbrev pub key₃' : Planes
key₃' = across (replicate 3 100 ++ 102 ∷ 106 ∷ replicate 10 108 ++ 110 ∷ 114 ∷ replicate 14 116 ++ 118 ∷ 122 ∷ replicate 2 124 ++ 126 ∷ 130 ∷ replicate 11 132)

-- all but the last row of luma
abbrev pub without_last_row : Planes → Planes
without_last_row p = record { y = take 720 p.y; u = p.u; v = p.v }

-- the second call is lent the picture's planes without the last row of luma
abbrev pub key_list : List (Call key_pass)
key_list = key_example_call key₀ 0 0 1 ∷ key_example_call (without_last_row key₁) 0 1 9 ∷ key_example_call key₁ 0 1 1 ∷ []

-- the same entries as records
abbrev pub key_example_records : List MacroblockModes
key_example_records = of mode.B ∷ of mode.Dc ∷ of mode.Dc ∷ []
  where
    of : IntraYMode → MacroblockModes
    of m = record { y_mode = m; segment_id = None; has_coeffs = false; ref_frame = None; inter_mode = None }

abbrev pub key_records_example_call : Planes → (start allowance : ℕ) → Call key_pass
key_records_example_call p start allowance = record { grid = key_grid; settings = settings true true; carried = KeyCarried.records key_example_records; lent = p; start = start; allowance = allowance }

-- byte lists, records, byte lists, to the end of the grid
abbrev pub mixed_list : List (Call key_pass)
mixed_list = key_example_call key₀ 0 0 1 ∷ key_records_example_call key₁ 1 1 ∷ key_example_call key₂ 0 2 9 ∷ []

-- a grid of no columns: any start, strides and lists are accepted
abbrev pub zero_picture : Picture
zero_picture = record { grid = record { columns = 0; rows = 1; luma_stride = 0; chroma_stride = 0 }; settings = settings true true; entries = key_entry (key_example_lists 0) }

abbrev pub zero_list : List (Call key_pass)
zero_list =
    record {
      grid = zero_picture.grid;
      settings = settings true true;
      carried = KeyCarried.byte_lists (key_example_lists 0);
      lent = key₀;
      start = 0;
      allowance = 5;
    } ∷ []

-- ---- the inter pass: both macroblocks of mode Dc, reference Last and inter mode Nearest; the first has coefficients, the second none or some

abbrev pub inter_grid : Grid
inter_grid = record { columns = 1; rows = 2; luma_stride = 16; chroma_stride = 8 }

abbrev pub inter_example_lists : (mode second : ℕ) → InterLists
inter_example_lists mode second =
    record { modes = mode ∷ 0 ∷ []; segments = 0 ∷ 0 ∷ []; flags = 1 ∷ second ∷ []; references = 1 ∷ 1 ∷ []; inter_modes = 2 ∷ 2 ∷ [] }

abbrev pub inter_picture : Picture
inter_picture = record { grid = inter_grid; settings = settings false false; entries = inter_entry (inter_example_lists 0 0) }

abbrev pub inter_example_call : Planes → (mode second start allowance : ℕ) → Call inter_pass
inter_example_call p mode second start allowance =
    record { grid = inter_grid; settings = settings false false; carried = InterCarried.byte_lists (inter_example_lists mode second); lent = p; start = start; allowance = allowance }

-- planes all of whose columns are the same
abbrev pub down : (column chroma : List ℕ) → Planes
down column chroma = record { y = layers 16 column; u = layers 8 chroma; v = layers 8 chroma }

abbrev pub inter₀ : Planes
inter₀ = down (replicate 4 100 ++ replicate 12 108 ++ replicate 4 116 ++ replicate 12 124) (replicate 8 100 ++ replicate 8 108)

-- after the first macroblock: its inner edge
abbrev pub inter₁ : Planes
inter₁ = down (replicate 2 100 ++ 102 ∷ 103 ∷ 105 ∷ 106 ∷ replicate 10 108 ++ replicate 4 116 ++ replicate 12 124) (replicate 8 100 ++ replicate 8 108)

-- after the second: its upper border, in each plane
abbrev pub chroma₂ : List ℕ
chroma₂ = replicate 5 100 ++ 101 ∷ 102 ∷ 103 ∷ 105 ∷ 106 ∷ 107 ∷ replicate 5 108

abbrev pub inter₂ : Planes
inter₂ =
    down (replicate 2 100 ++ 102 ∷ 103 ∷ 105 ∷ 106 ∷ replicate 7 108 ++ 109 ∷ 110 ∷ 111 ∷ 113 ∷ 114 ∷ 115 ∷ 116 ∷ replicate 12 124) chroma₂

-- after the second, with coefficients: its inner edge as well
abbrev pub inter₂' : Planes
inter₂' =
    down (replicate 2 100 ++ 102 ∷ 103 ∷ 105 ∷ 106 ∷ replicate 7 108 ++ 109 ∷ 110 ∷ 111 ∷ 113 ∷ 114 ∷ 117 ∷ 119 ∷ 121 ∷ 122 ∷ replicate 10 124) chroma₂

-- 7 put in for the first sample of row 31, in the second macroblock, before that
abbrev pub put : Planes → Planes
put p = record { y = set p.y 496 7; u = p.u; v = p.v }

-- the first call has allowance 0; the second is lent the picture's planes, with a mode that 6 refuses
abbrev pub inter_list : List (Call inter_pass)
inter_list = inter_example_call inter₀ 0 0 0 0 ∷ inter_example_call inter₀ 5 0 0 2 ∷ inter_example_call inter₀ 0 0 0 1 ∷ []
