-- Laws of the encodings. Assumes nothing.
use Rattle.std.specs.Prelude.{Option, None, Some, Ok, Err}
use mathlib.Core.Path.{◌≡◌, refl, sym, ◌∙◌}
use mathlib.Core.Bool.{Bool, true, false, cond}
use Prim.Native.Nat.{ℕ, zero, suc, ◌≤◌}
use native.Mathlib.Omega.{arith}
use borrow.Author.Tests.{lt-ltb}
use Rattle.std.specs.Result.{result_unwrap_or}
use Rattle.levels.specs.Encodings.{mode_byte, mode_of, mode_case, bad_mode, reference_byte, reference_of, reference_case, bad_reference, inter_mode_byte, inter_mode_of, inter_mode_case, bad_inter_mode}
use Rattle.levels.specs.declared.modes.IntraYMode.{IntraYMode}
use Rattle.levels.specs.declared.modes.IntraYMode.TheVariants as mode
use Rattle.levels.specs.declared.modes.RefFrame.TheVariants as frame
use Rattle.levels.specs.declared.modes.InterMode.TheVariants as way
use Rattle.levels.specs.declared.modes.RefFrame.{RefFrame}
use Rattle.levels.specs.declared.modes.InterMode.{InterMode}
use Rattle.levels.specs.declared.answers.LevelRefusal.TheVariants.{BadEntry}

-- ---- the byte of a case stands for it, and 6 does not refuse it

pub mode-byte : (m : IntraYMode) → (mode_of (mode_byte m) ≡ m) × (bad_mode (mode_byte m) ≡ false)
unfolding mode_byte mode_of bad_mode
mode-byte mode.Dc = (refl, refl)
mode-byte mode.V = (refl, refl)
mode-byte mode.H = (refl, refl)
mode-byte mode.Tm = (refl, refl)
mode-byte mode.B = (refl, refl)

pub reference-byte : (r : Option RefFrame) → (reference_of (reference_byte r) ≡ r) × (bad_reference (reference_byte r) ≡ false)
unfolding reference_byte reference_of bad_reference
reference-byte None = (refl, refl)
reference-byte (Some frame.Last) = (refl, refl)
reference-byte (Some frame.Golden) = (refl, refl)
reference-byte (Some frame.AltRef) = (refl, refl)

pub inter-mode-byte : (m : Option InterMode) → (inter_mode_of (inter_mode_byte m) ≡ m) × (bad_inter_mode (inter_mode_byte m) ≡ false)
unfolding inter_mode_byte inter_mode_of bad_inter_mode
inter-mode-byte None = (refl, refl)
inter-mode-byte (Some way.Zero) = (refl, refl)
inter-mode-byte (Some way.Nearest) = (refl, refl)
inter-mode-byte (Some way.Near) = (refl, refl)
inter-mode-byte (Some way.New) = (refl, refl)
inter-mode-byte (Some way.Split) = (refl, refl)

-- ---- a byte that 6 does not refuse is the byte of its case

pub mode-of : (b : ℕ) → b ≤ 4 → mode_byte (mode_of b) ≡ b
unfolding mode_byte mode_of
mode-of zero h = refl
mode-of (suc zero) h = refl
mode-of (suc (suc zero)) h = refl
mode-of (suc (suc (suc zero))) h = refl
mode-of (suc (suc (suc (suc zero)))) h = refl
mode-of (suc (suc (suc (suc (suc b))))) h = absurd (omega arith)

pub reference-of : (b : ℕ) → b ≤ 3 → reference_byte (reference_of b) ≡ b
unfolding reference_byte reference_of
reference-of zero h = refl
reference-of (suc zero) h = refl
reference-of (suc (suc zero)) h = refl
reference-of (suc (suc (suc zero))) h = refl
reference-of (suc (suc (suc (suc b)))) h = absurd (omega arith)

pub inter-mode-of : (b : ℕ) → b ≤ 5 → inter_mode_byte (inter_mode_of b) ≡ b
unfolding inter_mode_byte inter_mode_of
inter-mode-of zero h = refl
inter-mode-of (suc zero) h = refl
inter-mode-of (suc (suc zero)) h = refl
inter-mode-of (suc (suc (suc zero))) h = refl
inter-mode-of (suc (suc (suc (suc zero)))) h = refl
inter-mode-of (suc (suc (suc (suc (suc zero))))) h = refl
inter-mode-of (suc (suc (suc (suc (suc (suc b)))))) h = absurd (omega arith)

-- ---- the case of a byte: none where 6 refuses it, else the one that it stands for

pub mode-case : (b : ℕ) → mode_case b ≡ cond (bad_mode b) (Err BadEntry) (Ok (mode_of b))
unfolding mode_case mode_of bad_mode
mode-case zero = refl
mode-case (suc zero) = refl
mode-case (suc (suc zero)) = refl
mode-case (suc (suc (suc zero))) = refl
mode-case (suc (suc (suc (suc zero)))) = refl
mode-case (suc (suc (suc (suc (suc b))))) = rw (lt-ltb 4 (suc (suc (suc (suc (suc b))))) (omega arith))

pub mode-refused : (b : ℕ) → mode_case b ≡ (Err BadEntry) → bad_mode b ≡ true
mode-refused b e = by (bad_mode b) (sym (mode-case b) ∙ e)
  where
    by : (x : Bool) → cond x (Err BadEntry) (Ok (mode_of b)) ≡ (Err BadEntry) → x ≡ true
    by true q = refl
    by false q = cc

pub mode-found : (b : ℕ) (m : IntraYMode) → mode_case b ≡ Ok m → (bad_mode b ≡ false) × (mode_of b ≡ m)
mode-found b m e = by (bad_mode b) (sym (mode-case b) ∙ e)
  where
    by : (x : Bool) → cond x (Err BadEntry) (Ok (mode_of b)) ≡ Ok m → (x ≡ false) × (mode_of b ≡ m)
    by true q = (cc, cc)
    by false q = (refl, cc)

pub reference-case : (b : ℕ) → reference_case b ≡ cond (bad_reference b) (Err BadEntry) (Ok (reference_of b))
unfolding reference_case reference_of bad_reference
reference-case zero = refl
reference-case (suc zero) = refl
reference-case (suc (suc zero)) = refl
reference-case (suc (suc (suc zero))) = refl
reference-case (suc (suc (suc (suc b)))) = rw (lt-ltb 3 (suc (suc (suc (suc b)))) (omega arith))

pub reference-refused : (b : ℕ) → reference_case b ≡ (Err BadEntry) → bad_reference b ≡ true
reference-refused b e = by (bad_reference b) (sym (reference-case b) ∙ e)
  where
    by : (x : Bool) → cond x (Err BadEntry) (Ok (reference_of b)) ≡ (Err BadEntry) → x ≡ true
    by true q = refl
    by false q = cc

pub reference-found : (b : ℕ) (m : Option RefFrame) → reference_case b ≡ Ok m → (bad_reference b ≡ false) × (reference_of b ≡ m)
reference-found b m e = by (bad_reference b) (sym (reference-case b) ∙ e)
  where
    by : (x : Bool) → cond x (Err BadEntry) (Ok (reference_of b)) ≡ Ok m → (x ≡ false) × (reference_of b ≡ m)
    by true q = (cc, cc)
    by false q = (refl, cc)

pub inter-case : (b : ℕ) → inter_mode_case b ≡ cond (bad_inter_mode b) (Err BadEntry) (Ok (inter_mode_of b))
unfolding inter_mode_case inter_mode_of bad_inter_mode
inter-case zero = refl
inter-case (suc zero) = refl
inter-case (suc (suc zero)) = refl
inter-case (suc (suc (suc zero))) = refl
inter-case (suc (suc (suc (suc zero)))) = refl
inter-case (suc (suc (suc (suc (suc zero))))) = refl
inter-case (suc (suc (suc (suc (suc (suc b)))))) = rw (lt-ltb 5 (suc (suc (suc (suc (suc (suc b)))))) (omega arith))

pub inter-refused : (b : ℕ) → inter_mode_case b ≡ (Err BadEntry) → bad_inter_mode b ≡ true
inter-refused b e = by (bad_inter_mode b) (sym (inter-case b) ∙ e)
  where
    by : (x : Bool) → cond x (Err BadEntry) (Ok (inter_mode_of b)) ≡ (Err BadEntry) → x ≡ true
    by true q = refl
    by false q = cc

pub inter-found : (b : ℕ) (m : Option InterMode) → inter_mode_case b ≡ Ok m → (bad_inter_mode b ≡ false) × (inter_mode_of b ≡ m)
inter-found b m e = by (bad_inter_mode b) (sym (inter-case b) ∙ e)
  where
    by : (x : Bool) → cond x (Err BadEntry) (Ok (inter_mode_of b)) ≡ Ok m → (x ≡ false) × (inter_mode_of b ≡ m)
    by true q = (cc, cc)
    by false q = (refl, cc)

-- ---- decoded by the code: a byte without a case counts as the last one

pub mode_or_last : (b : ℕ) → result_unwrap_or (mode_case b) mode.B ≡ mode_of b
unfolding mode_case mode_of
mode_or_last zero = refl
mode_or_last (suc zero) = refl
mode_or_last (suc (suc zero)) = refl
mode_or_last (suc (suc (suc zero))) = refl
mode_or_last (suc (suc (suc (suc zero)))) = refl
mode_or_last (suc (suc (suc (suc (suc b))))) = refl

pub reference_or_last : (b : ℕ) → result_unwrap_or (reference_case b) (Some frame.AltRef) ≡ reference_of b
unfolding reference_case reference_of
reference_or_last zero = refl
reference_or_last (suc zero) = refl
reference_or_last (suc (suc zero)) = refl
reference_or_last (suc (suc (suc zero))) = refl
reference_or_last (suc (suc (suc (suc b)))) = refl

pub inter_mode_or_last : (b : ℕ) → result_unwrap_or (inter_mode_case b) (Some way.Split) ≡ inter_mode_of b
unfolding inter_mode_case inter_mode_of
inter_mode_or_last zero = refl
inter_mode_or_last (suc zero) = refl
inter_mode_or_last (suc (suc zero)) = refl
inter_mode_or_last (suc (suc (suc zero))) = refl
inter_mode_or_last (suc (suc (suc (suc zero)))) = refl
inter_mode_or_last (suc (suc (suc (suc (suc zero))))) = refl
inter_mode_or_last (suc (suc (suc (suc (suc (suc b)))))) = refl
