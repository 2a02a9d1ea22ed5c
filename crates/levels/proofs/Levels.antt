-- Laws of the levels. Assumes nothing.
use Rattle.std.specs.Prelude.{Option, None, Ok, Err}
use mathlib.Core.Path.{◌≡◌, refl, subst}
use mathlib.Core.Bool.{Bool, true, false, cond, ◌||◌}
use Prim.Native.Nat.{ℕ, ◌≤◌}
use borrow.Author.Tests.{ltb-false, le-ltb}
use lib.Dec.{T, lit≤}
use lib.IntN.{ℤ, pos, negsuc, ◌+ℤ◌, nat_abs}
use lib.Signed.{lt_z}
use native.Mathlib.Omega.{arith}
use Rattle.std.specs.Int.{int_min, int_max}
use Rattle.std.proofs.lemmas.Grind.{common_steps}
use Rattle.arithmetic.specs.Outcome.{Outcome, gives, refuses}
use Rattle.levels.specs.Encodings.{mode_of, reference_of, inter_mode_of, mode_case, reference_case, inter_mode_case, bad_mode, bad_reference, bad_inter_mode, bad_entry}
use Rattle.levels.specs.Levels.{clamp_level, segment_level, ref_delta, mode_delta, adjusted_level, inter_level, key_level, level_of, key_level_of, key_answer, inter_answer}
use Rattle.levels.specs.declared.config.FrameFilterConfig.{FrameFilterConfig}
use Rattle.levels.specs.declared.modes.IntraYMode.{IntraYMode}
use Rattle.levels.specs.declared.modes.RefFrame.{RefFrame}
use Rattle.levels.specs.declared.modes.InterMode.{InterMode}
use Rattle.levels.specs.Answers.{level_refusal_number}
use Rattle.levels.specs.declared.answers.LevelRefusal.{LevelRefusal}
use Rattle.levels.specs.declared.answers.LevelRefusal.TheVariants.{BadEntry}
use Rattle.levels.proofs.Encodings.{mode-found, mode-refused, reference-found, reference-refused, inter-found, inter-refused}

-- ---- the key level ignores references

pub inter_at_none : (config : FrameFilterConfig) (segment : ℕ) (inter_mode : Option InterMode) (mode : IntraYMode) → inter_level config segment None inter_mode mode ≡ key_level config segment mode
unfolding inter_level key_level adjusted_level ref_delta mode_delta
inter_at_none config segment inter_mode mode = refl

pub level-at-none : (config : FrameFilterConfig) (segment inter_mode mode : ℕ) → level_of config segment 0 inter_mode mode ≡ key_level_of config segment mode
unfolding level_of key_level_of reference_of
level-at-none config segment inter_mode mode = inter_at_none config segment (inter_mode_of inter_mode) (mode_of mode)

pub answer-at-none : (config : FrameFilterConfig) (segment inter_mode mode : ℕ) → inter_mode ≤ 5 → inter_answer config segment 0 inter_mode mode ≡ key_answer config segment mode
unfolding inter_answer key_answer bad_entry bad_reference bad_inter_mode
answer-at-none config segment inter_mode mode h =
    rw (le-ltb 5 inter_mode h, level-at-none config segment inter_mode mode) (same_answer (bad_mode mode) (gives (key_level_of config segment mode)))
  where
    same_answer : (b : Bool) (o : Outcome ℕ) → cond (b || false || false) (refuses 6) o ≡ cond b (refuses 6) o
    same_answer true o = refl
    same_answer false o = refl

-- ---- the clamp, as std computes it

pub level_limits : (v : ℤ) → int_max (pos 0) (int_min v (pos 63)) ≡ clamp_level v
unfolding clamp_level
level_limits (pos n) = grind (arith, common_steps)
level_limits (negsuc n) = grind (arith, common_steps)

-- ---- the clamp, by tests

pub mid-small : (v : ℤ) → lt_z (pos 63) v ≡ false → lt_z v (pos 0) ≡ false → nat_abs v ≤ 63
mid-small (pos n) e f = ltb-false 63 n e
mid-small (negsuc n) e f = absurd (subst T f tt)

by_cases : (b : Bool) (x y : ℤ) → (b ≡ true → nat_abs x ≤ 63) → (b ≡ false → nat_abs y ≤ 63) → nat_abs (cond b x y) ≤ 63
by_cases true x y f g = f refl
by_cases false x y f g = g refl

pub clamp-small : (v : ℤ) → nat_abs (clamp_level v) ≤ 63
unfolding clamp_level
clamp-small v =
    by_cases (lt_z (pos 63) v) (pos 63) (cond (lt_z v (pos 0)) (pos 0) v) (λ e. lit≤ tt)
    (λ e. by_cases (lt_z v (pos 0)) (pos 0) v (λ f. lit≤ tt) (λ f. mid-small v e f))

-- ---- a level is at most 63

pub inter-small : (config : FrameFilterConfig) (segment : ℕ) (r : Option RefFrame) (i : Option InterMode) (m : IntraYMode) → inter_level config segment r i m ≤ 63
unfolding inter_level
inter-small config segment r i m = clamp-small (adjusted_level config segment r i m)

pub key-small : (config : FrameFilterConfig) (segment : ℕ) (m : IntraYMode) → key_level config segment m ≤ 63
key-small config segment m = rw (← inter_at_none config segment None m) (inter-small config segment None None m)

pub level-small : (config : FrameFilterConfig) (segment reference inter_mode mode : ℕ) → level_of config segment reference inter_mode mode ≤ 63
unfolding level_of
level-small config segment reference inter_mode mode = inter-small config segment (reference_of reference) (inter_mode_of inter_mode) (mode_of mode)

pub key-level-small : (config : FrameFilterConfig) (segment mode : ℕ) → key_level_of config segment mode ≤ 63
unfolding key_level_of
key-level-small config segment mode = key-small config segment (mode_of mode)

-- ---- the deltas, by the mark

module _ (config : FrameFilterConfig) (segment : ℕ) (r : Option RefFrame) (i : Option InterMode) (m : IntraYMode) where
  pub with-deltas : config.delta_enabled ≡ true → adjusted_level config segment r i m ≡ segment_level config segment +ℤ ref_delta config r +ℤ mode_delta config r i m
  unfolding adjusted_level
  with-deltas h = rw h

-- ---- the answers, by the cases of the bytes

module _ (config : FrameFilterConfig) (segment mode : ℕ) where
  pub key_refuses : (e : LevelRefusal) → mode_case mode ≡ Err e → refuses (level_refusal_number e) ≡ key_answer config segment mode
  unfolding key_answer
  key_refuses BadEntry e = rw (mode-refused mode e)

  pub key_gives : (m : IntraYMode) (r : ℕ) → mode_case mode ≡ Ok m → r ≡ key_level config segment m → gives r ≡ key_answer config segment mode
  unfolding key_answer key_level_of
  key_gives m r e l = rw ((mode-found mode m e).0, (mode-found mode m e).1, l)

module _ (config : FrameFilterConfig) (segment reference inter_mode mode : ℕ) where
  pub mode_refuses : (e : LevelRefusal) → mode_case mode ≡ Err e → refuses (level_refusal_number e) ≡ inter_answer config segment reference inter_mode mode
  unfolding inter_answer bad_entry
  mode_refuses BadEntry e = rw (mode-refused mode e)

  pub reference_refuses : (m : IntraYMode) → mode_case mode ≡ Ok m → (e : LevelRefusal) → reference_case reference ≡ Err e → refuses (level_refusal_number e) ≡ inter_answer config segment reference inter_mode mode
  unfolding inter_answer bad_entry
  reference_refuses m h BadEntry e = rw ((mode-found mode m h).0, reference-refused reference e)

  pub inter_refuses : (m : IntraYMode) → mode_case mode ≡ Ok m → (b : Option RefFrame) → reference_case reference ≡ Ok b → (e : LevelRefusal) → inter_mode_case inter_mode ≡ Err e → refuses (level_refusal_number e) ≡ inter_answer config segment reference inter_mode mode
  unfolding inter_answer bad_entry
  inter_refuses m h b f BadEntry e = rw ((mode-found mode m h).0, (reference-found reference b f).0, inter-refused inter_mode e)

  pub inter_gives : (m : IntraYMode) → mode_case mode ≡ Ok m → (b : Option RefFrame) → reference_case reference ≡ Ok b → (i : Option InterMode) → inter_mode_case inter_mode ≡ Ok i → (r : ℕ) → r ≡ inter_level config segment b i m → gives r ≡ inter_answer config segment reference inter_mode mode
  unfolding inter_answer bad_entry level_of
  inter_gives m h b f i w r l =
      rw ((mode-found mode m h).0, (reference-found reference b f).0, (inter-found inter_mode i w).0, (mode-found mode m h).1, (reference-found reference b f).1, (inter-found inter_mode i w).1, l)
