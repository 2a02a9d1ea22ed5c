-- What a call carries for its macroblocks: byte lists, one entry a macroblock, or a list of records (document 01, Option lists).
use Rattle.std.specs.Prelude.{Bool, true, false, not, ◌||◌, List, [], ◌∷◌, ℕ, min, eqb, length, get_or, Option, None, Some}
use Rattle.std.specs.List.{list_any}
use Rattle.levels.specs.Encodings.{mode_of, reference_of, inter_mode_of, bad_mode, bad_reference, bad_inter_mode}
use Rattle.levels.specs.declared.modes.IntraYMode.{IntraYMode}
use Rattle.levels.specs.declared.modes.IntraYMode.TheVariants as mode
use Rattle.levels.specs.declared.modes.RefFrame.{RefFrame}
use Rattle.levels.specs.declared.modes.InterMode.{InterMode}
use Rattle.calls.specs.declared.records.MacroblockModes.{MacroblockModes}

-- Document 01's entry of a macroblock, as what it says: a segment above 3 says 3, and any flag but 0 says that there are coefficients.
pub record Entry : Type 0 where
  pub mode : IntraYMode
  pub segment : ℕ
  pub coefficients : Bool
  pub reference : Option RefFrame
  pub inter_mode : Option InterMode

-- the bytes of one macroblock
unfoldable pub entry_of : (mode segment flag reference inter_mode : ℕ) → Entry
entry_of m s f r i =
    record { mode = mode_of m; segment = min s 3; coefficients = not (eqb f 0); reference = reference_of r; inter_mode = inter_mode_of i }

-- The key pass reads modes, segments and flags only.
pub record KeyLists : Type 0 where
  pub modes : List ℕ
  pub segments : List ℕ
  pub flags : List ℕ

pub record InterLists : Type 0 where
  pub modes : List ℕ
  pub segments : List ℕ
  pub flags : List ℕ
  pub references : List ℕ
  pub inter_modes : List ℕ

unfoldable pub key_entry : KeyLists → (m : ℕ) → Entry
key_entry l m = entry_of (get_or l.modes m 0) (get_or l.segments m 0) (get_or l.flags m 0) 0 0

unfoldable pub inter_entry : InterLists → (m : ℕ) → Entry
inter_entry l m =
    entry_of (get_or l.modes m 0) (get_or l.segments m 0) (get_or l.flags m 0) (get_or l.references m 0) (get_or l.inter_modes m 0)

-- ---- a list of records

unfoldable pub segment_byte : Option ℕ → ℕ
segment_byte None = 0
segment_byte (Some n) = n

-- what a record says to the inter pass, and to the key pass, which ignores reference and inter mode
unfoldable pub inter_record : MacroblockModes → Entry
inter_record r =
    record {
      mode = r.y_mode;
      segment = min (segment_byte r.segment_id) 3;
      coefficients = r.has_coeffs;
      reference = r.ref_frame;
      inter_mode = r.inter_mode;
    }

unfoldable pub key_record : MacroblockModes → Entry
key_record r =
    record {
      mode = r.y_mode;
      segment = min (segment_byte r.segment_id) 3;
      coefficients = r.has_coeffs;
      reference = None;
      inter_mode = None;
    }

-- past a list's end: no pass looks there
unfoldable pub no_record : MacroblockModes
no_record =
    record { y_mode = mode.Dc; segment_id = None; has_coeffs = false; ref_frame = None; inter_mode = None }

-- ---- refusals 5 and 6

-- 5: a list whose length isn't n
unfoldable pub length_is_not : {X : Type 0} → (n : ℕ) → List X → Bool
length_is_not n l = not (eqb (length l) n)

unfoldable pub key_lengths_wrong : KeyLists → (n : ℕ) → Bool
key_lengths_wrong l n = length_is_not n l.modes || length_is_not n l.segments || length_is_not n l.flags

unfoldable pub inter_lengths_wrong : InterLists → (n : ℕ) → Bool
inter_lengths_wrong l n =
    length_is_not n l.modes || length_is_not n l.segments || length_is_not n l.flags || length_is_not n l.references || length_is_not n l.inter_modes

-- 6: some byte of a whole list stands for no case
unfoldable pub key_bad_entry : KeyLists → Bool
key_bad_entry l = list_any bad_mode l.modes

unfoldable pub inter_bad_entry : InterLists → Bool
inter_bad_entry l = list_any bad_mode l.modes || list_any bad_reference l.references || list_any bad_inter_mode l.inter_modes

-- ---- what the calls of each pass carry

pub data KeyCarried : Type 0 where
  byte_lists : KeyLists → KeyCarried
  records : List MacroblockModes → KeyCarried

pub data InterCarried : Type 0 where
  byte_lists : InterLists → InterCarried
  records : List MacroblockModes → InterCarried

abbrev pub key_carries : KeyCarried → (m : ℕ) → Entry
key_carries (KeyCarried.byte_lists l) = key_entry l
key_carries (KeyCarried.records rs) = λ m. key_record (get_or rs m no_record)

abbrev pub inter_carries : InterCarried → (m : ℕ) → Entry
inter_carries (InterCarried.byte_lists l) = inter_entry l
inter_carries (InterCarried.records rs) = λ m. inter_record (get_or rs m no_record)

-- 5
abbrev pub key_wrong_length : KeyCarried → (n : ℕ) → Bool
key_wrong_length (KeyCarried.byte_lists l) n = key_lengths_wrong l n
key_wrong_length (KeyCarried.records rs) n = length_is_not n rs

abbrev pub inter_wrong_length : InterCarried → (n : ℕ) → Bool
inter_wrong_length (InterCarried.byte_lists l) n = inter_lengths_wrong l n
inter_wrong_length (InterCarried.records rs) n = length_is_not n rs

-- 6: records have no case that it refuses
abbrev pub key_refuses : KeyCarried → Bool
key_refuses (KeyCarried.byte_lists l) = key_bad_entry l
key_refuses (KeyCarried.records rs) = false

abbrev pub inter_refuses : InterCarried → Bool
inter_refuses (InterCarried.byte_lists l) = inter_bad_entry l
inter_refuses (InterCarried.records rs) = false
