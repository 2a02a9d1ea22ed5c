-- The byte lists that a list of records stands for (document 01, Option lists).
use Rattle.std.specs.Prelude.{Bool, true, false, List, map, ℕ}
use Rattle.levels.specs.Encodings.{mode_byte, reference_byte, inter_mode_byte}
use Rattle.calls.specs.Entries.{KeyLists, InterLists, segment_byte}
use Rattle.calls.specs.declared.records.MacroblockModes.{MacroblockModes}

unfoldable pub flag_byte : Bool → ℕ
flag_byte false = 0
flag_byte true = 1

unfoldable pub key_bytes : List MacroblockModes → KeyLists
key_bytes rs =
    record {
      modes = map (λ r. mode_byte r.y_mode) rs;
      segments = map (λ r. segment_byte r.segment_id) rs;
      flags = map (λ r. flag_byte r.has_coeffs) rs;
    }

unfoldable pub inter_bytes : List MacroblockModes → InterLists
inter_bytes rs =
    record {
      modes = map (λ r. mode_byte r.y_mode) rs;
      segments = map (λ r. segment_byte r.segment_id) rs;
      flags = map (λ r. flag_byte r.has_coeffs) rs;
      references = map (λ r. reference_byte r.ref_frame) rs;
      inter_modes = map (λ r. inter_mode_byte r.inter_mode) rs;
    }
