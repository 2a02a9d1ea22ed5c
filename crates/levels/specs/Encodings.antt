-- Document 01, Option lists: the byte of each mode, reference and inter mode, the case that a byte stands for, and the bytes that stand for none (refusal 6).
use Rattle.std.specs.Prelude.{Bool, ◌||◌, [], ◌∷◌, ℕ, ltb, get_or, Option, None, Some, Result, Ok, Err}
use Rattle.levels.specs.declared.modes.IntraYMode.{IntraYMode}
use Rattle.levels.specs.declared.modes.IntraYMode.TheVariants as mode
use Rattle.levels.specs.declared.modes.RefFrame.TheVariants as frame
use Rattle.levels.specs.declared.modes.InterMode.TheVariants as way
use Rattle.levels.specs.declared.modes.RefFrame.{RefFrame}
use Rattle.levels.specs.declared.modes.InterMode.{InterMode}
use Rattle.levels.specs.declared.answers.LevelRefusal.{LevelRefusal}
use Rattle.levels.specs.declared.answers.LevelRefusal.TheVariants.{BadEntry}

-- ---- the byte of a case

unfoldable pub mode_byte : IntraYMode → ℕ
mode_byte mode.Dc = 0
mode_byte mode.V = 1
mode_byte mode.H = 2
mode_byte mode.Tm = 3
mode_byte mode.B = 4

unfoldable pub reference_byte : Option RefFrame → ℕ
reference_byte None = 0
reference_byte (Some frame.Last) = 1
reference_byte (Some frame.Golden) = 2
reference_byte (Some frame.AltRef) = 3

unfoldable pub inter_mode_byte : Option InterMode → ℕ
inter_mode_byte None = 0
inter_mode_byte (Some way.Zero) = 1
inter_mode_byte (Some way.Nearest) = 2
inter_mode_byte (Some way.Near) = 3
inter_mode_byte (Some way.New) = 4
inter_mode_byte (Some way.Split) = 5

-- ---- the case of a byte: a byte that stands for none counts as the last one, as a segment above 3 counts as 3

unfoldable pub mode_of : ℕ → IntraYMode
mode_of b = get_or (mode.Dc ∷ mode.V ∷ mode.H ∷ mode.Tm ∷ mode.B ∷ []) b mode.B

unfoldable pub reference_of : ℕ → Option RefFrame
reference_of b = get_or (None ∷ Some frame.Last ∷ Some frame.Golden ∷ Some frame.AltRef ∷ []) b (Some frame.AltRef)

unfoldable pub inter_mode_of : ℕ → Option InterMode
inter_mode_of b =
    get_or (None ∷ Some way.Zero ∷ Some way.Nearest ∷ Some way.Near ∷ Some way.New ∷ Some way.Split ∷ []) b (Some way.Split)

-- ---- the case of a byte, or none: the bytes above 4, above 3 and above 5 have none

unfoldable pub mode_case : ℕ → Result IntraYMode LevelRefusal
mode_case b = get_or (Ok mode.Dc ∷ Ok mode.V ∷ Ok mode.H ∷ Ok mode.Tm ∷ Ok mode.B ∷ []) b (Err BadEntry)

unfoldable pub reference_case : ℕ → Result (Option RefFrame) LevelRefusal
reference_case b =
    get_or
    (Ok None
    ∷ Ok (Some frame.Last)
    ∷ Ok (Some frame.Golden)
    ∷ Ok (Some frame.AltRef)
    ∷ [])
    b (Err BadEntry)

unfoldable pub inter_mode_case : ℕ → Result (Option InterMode) LevelRefusal
inter_mode_case b =
    get_or
    (Ok None
    ∷ Ok (Some way.Zero)
    ∷ Ok (Some way.Nearest)
    ∷ Ok (Some way.Near)
    ∷ Ok (Some way.New)
    ∷ Ok (Some way.Split)
    ∷ [])
    b (Err BadEntry)

-- ---- refusal 6

unfoldable pub bad_mode : ℕ → Bool
bad_mode b = ltb 4 b

unfoldable pub bad_reference : ℕ → Bool
bad_reference b = ltb 3 b

unfoldable pub bad_inter_mode : ℕ → Bool
bad_inter_mode b = ltb 5 b

unfoldable pub bad_entry : (reference inter_mode mode : ℕ) → Bool
bad_entry reference inter_mode mode = bad_mode mode || bad_reference reference || bad_inter_mode inter_mode
