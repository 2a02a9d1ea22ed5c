-- Settings whose numbers crossed a call as bits.
-- Assumes nothing.
use mathlib.Core.Path.{◌≡◌, ◌∙◌}
use mathlib.Core.Bool.{Bool}
use Prim.Native.Nat.{ℕ}
use lib.IntN.{ℤ}
use mir.Syntax.{w16}
use mir.Val.{SFits, to_z, of_z}
use mir.Facts.{to_z-of_z}
use Rattle.std.proofs.lemmas.Int as Int
use Rattle.levels.specs.declared.config.FrameFilterConfig.{FrameFilterConfig}
use Rattle.loop_filter.specs.Settings.{settings_of}

abbrev bits : ℤ → ℤ
bits z = to_z w16 (of_z w16 z)

pub same-settings :
    {simple key : Bool} {level sharpness : ℕ} {segmentation absolute : Bool} {s0 s1 s2 s3 : ℤ} {deltas : Bool} {current bpred last golden altref zero other split : ℤ} {q : FrameFilterConfig}
    → q ≡ settings_of simple key level sharpness segmentation absolute (bits s0) (bits s1) (bits s2) (bits s3) deltas (bits current) (bits bpred) (bits last) (bits golden) (bits altref) (bits zero) (bits other)
    (bits split)
    → SFits w16 s0 → SFits w16 s1 → SFits w16 s2 → SFits w16 s3 → SFits w16 current → SFits w16 bpred → SFits w16 last → SFits w16 golden → SFits w16 altref → SFits w16 zero → SFits w16 other
    → SFits w16 split
    → q ≡ settings_of simple key level sharpness segmentation absolute s0 s1 s2 s3 deltas current bpred last golden altref zero other split
same-settings {simple = simple} {key = key} {level = level} {sharpness = sharpness} {segmentation = segmentation} {absolute = absolute} {deltas = deltas} same a b c d e f g h i j k l =
    same
    ∙ (λ t. settings_of simple key level sharpness segmentation absolute (to_z-of_z a t) (to_z-of_z b t) (to_z-of_z c t) (to_z-of_z d t) deltas (to_z-of_z e t) (to_z-of_z f t) (to_z-of_z g t) (to_z-of_z h t)
    (to_z-of_z i t) (to_z-of_z j t) (to_z-of_z k t) (to_z-of_z l t))

-- a number that crossed is itself
pub ruleset crossed = (Int.to_z-of_z)
