-- The plan that a macroblock's bytes ask for; a segment above 3 counts as 3, also in the level. Assumes nothing.
use Rattle.std.specs.Prelude.{Option, Bool, not, ◌||◌, eqb, get_or}
use mathlib.Core.Path.{◌≡◌}
use Prim.Native.Nat.{ℕ, min}
use native.Mathlib.Omega.{arith}
use Rattle.levels.specs.Encodings.{mode_of, reference_of, inter_mode_of}
use Rattle.calls.specs.Entries.{KeyLists, InterLists, key_entry, inter_entry, entry_of}
use Rattle.calls.specs.Pass.{is_b, inside_of, plan_at, key_plan, inter_plan}
use Rattle.levels.specs.Levels.{segment_number, level_in_segment, base_level, segment_level, adjusted_level, inter_level, key_level}
use Rattle.levels.specs.declared.config.FrameFilterConfig.{FrameFilterConfig}
use Rattle.levels.specs.declared.modes.IntraYMode.{IntraYMode}
use Rattle.levels.specs.declared.modes.RefFrame.{RefFrame}
use Rattle.levels.specs.declared.modes.InterMode.{InterMode}

module _ (config : FrameFilterConfig) (segment : ℕ) where
  segment-number : segment_number config (min segment 3) ≡ segment_number config segment
  unfolding segment_number
  segment-number = let e : min (min segment 3) 3 ≡ min segment 3 = omega arith in rw e

  segment-level : segment_level config (min segment 3) ≡ segment_level config segment
  unfolding segment_level base_level level_in_segment
  segment-level = rw segment-number

  pub key_level_min : (mode : IntraYMode) → key_level config (min segment 3) mode ≡ key_level config segment mode
  unfolding key_level
  key_level_min mode = rw segment-level

  pub inter_level_min : (r : Option RefFrame) (i : Option InterMode) (mode : IntraYMode) → inter_level config (min segment 3) r i mode ≡ inter_level config segment r i mode
  unfolding inter_level adjusted_level
  inter_level_min r i mode = rw segment-level

-- the cases that the code reads of macroblock m give its plan
module _ (config : FrameFilterConfig) (m level : ℕ) (inside : Bool) (mode : IntraYMode) where
  pub key-plan : (l : KeyLists) → mode ≡ mode_of (get_or l.modes m 0) → level ≡ key_level config (get_or l.segments m 0) mode
      → inside ≡ (is_b mode || not (eqb (get_or l.flags m 0) 0))
      → plan_at config level inside ≡ key_plan config (key_entry l m)
  unfolding key_plan key_entry entry_of inside_of
  key-plan l o e f = cc (key_level_min config (get_or l.segments m 0) mode)

  pub inter-plan : (reference : Option RefFrame) (inter_mode : Option InterMode) (l : InterLists) → mode ≡ mode_of (get_or l.modes m 0)
      → reference ≡ reference_of (get_or l.references m 0) → inter_mode ≡ inter_mode_of (get_or l.inter_modes m 0)
      → level ≡ inter_level config (get_or l.segments m 0) reference inter_mode mode
      → inside ≡ (is_b mode || not (eqb (get_or l.flags m 0) 0))
      → plan_at config level inside ≡ inter_plan config (inter_entry l m)
  unfolding inter_plan inter_entry entry_of inside_of
  inter-plan reference inter_mode l o p q e f = cc (inter_level_min config (get_or l.segments m 0) reference inter_mode mode)
