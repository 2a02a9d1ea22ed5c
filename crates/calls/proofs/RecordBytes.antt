-- A list of records is answered and filtered as the byte lists that it stands for, and is never refused by 6. Assumes nothing.
use mathlib.Core.Path.{◌≡◌, refl, sym}
use mathlib.Core.Bool.{Bool, true, false, cond, not, ◌||◌}
use mathlib.Core.List.{List, [], ◌∷◌, map}
use Prim.Native.Nat.{ℕ, ◌+◌, ◌-◌, min}
use native.Mathlib.Nat.{le_refl}
use native.Mathlib.Omega.{arith}
use lib.Dec.{eqb, ltb}
use lib.ListN.{get_or, length-map, get_or-map}
use Rattle.arithmetic.specs.Outcome.{refuses}
use Rattle.levels.specs.Encodings.{mode_byte, reference_byte, inter_mode_byte, reference_of, inter_mode_of, bad_mode, bad_reference, bad_inter_mode}
use Rattle.levels.specs.declared.config.FrameFilterConfig.{FrameFilterConfig}
use Rattle.levels.proofs.Encodings.{mode-byte, reference-byte, inter-mode-byte}
use Rattle.planes.specs.Steps.{steps}
use Rattle.planes.specs.Planes.{Planes, Grid, macroblocks}
use Rattle.planes.specs.Macroblock.{filter_macroblock}
use Rattle.planes.specs.GridRefusals.{zero_grid, too_large, bad_strides, short_planes, after_grid}
use Rattle.calls.specs.Entries.{entry_of, key_entry, inter_entry, segment_byte, key_record, inter_record, no_record, length_is_not, key_lengths_wrong, inter_lengths_wrong, key_bad_entry, inter_bad_entry, KeyCarried, InterCarried}
use Rattle.std.specs.List.{list_any}
use Rattle.calls.specs.Pass.{Pass, key_pass, inter_pass, Call, refusal, step, count, next, answer, planes_after}
use Rattle.calls.specs.PassCalls.{key_call, inter_call, key_records_call, inter_records_call}
use Rattle.calls.specs.RecordBytes.{flag_byte, key_bytes, inter_bytes}
use Rattle.planes.specs.declared.layout.PlaneLayout.{PlaneLayout}
use Rattle.calls.specs.declared.records.MacroblockModes.{MacroblockModes}
use Rattle.calls.proofs.CallFacts.{refused-keeps}
use Rattle.planes.proofs.Steps.{steps-ext}

-- ---- calls that carry the same

module _ (W : Pass) (g : Grid) (settings : FrameFilterConfig) (p : Planes) (start allowance : ℕ) (c c' : W.Carried)
    (lengths : (n : ℕ) → W.wrong_length c n ≡ W.wrong_length c' n) (bad : W.bad_entry c ≡ W.bad_entry c') (entries : (m : ℕ) → W.entry c m ≡ W.entry c' m) where
  abbrev a : Call W
  a = record { grid = g; settings = settings; carried = c; lent = p; start = start; allowance = allowance }

  abbrev a' : Call W
  a' = record { grid = g; settings = settings; carried = c'; lent = p; start = start; allowance = allowance }

  same-refusal : refusal W a ≡ refusal W a'
  unfolding refusal
  same-refusal = rw (lengths (macroblocks g), bad)

  same_step : (m : ℕ) (q : Planes) → step W g settings (W.entry c) m q ≡ step W g settings (W.entry c') m q
  unfolding step filter_macroblock
  same_step m q = rw (entries m)

  same-steps : (n : ℕ) → steps (step W g settings (W.entry c)) start n p ≡ steps (step W g settings (W.entry c')) start n p
  same-steps n = steps-ext (step W g settings (W.entry c)) (step W g settings (W.entry c')) (start + n) (λ m _. same_step m) start n (le_refl (start + n)) p

  pub same-call : (answer W a ≡ answer W a') × (planes_after W a ≡ planes_after W a')
  unfolding answer planes_after count next
  same-call = (rw same-refusal, rw (same-refusal, same-steps (min allowance (macroblocks g - start))))

-- ---- the bytes of a record

flag-byte : (b : Bool) → not (eqb (flag_byte b) 0) ≡ b
unfolding flag_byte
flag-byte true = refl
flag-byte false = refl

none-bad : {X : Type 0} (bad : ℕ → Bool) (f : X → ℕ) → ((x : X) → bad (f x) ≡ false) → (l : List X) → list_any bad (map f l) ≡ false
none-bad bad f h [] = refl
none-bad bad f h (x ∷ xs) = rw (h x, none-bad bad f h xs)

-- 5: the lists of bytes are as long as the list of records
same_length : {X : Type 0} (n : ℕ) (f : X → ℕ) (l : List X) → length_is_not n (map f l) ≡ length_is_not n l
unfolding length_is_not
same_length n f l = rw (length-map l f)

or_same : (b : Bool) → b ≡ (b || b || b)
or_same true = refl
or_same false = refl

or-same5 : (b : Bool) → b ≡ (b || b || b || b || b)
or-same5 true = refl
or-same5 false = refl

module _ (rs : List MacroblockModes) where
  key-lengths : (n : ℕ) → length_is_not n rs ≡ key_lengths_wrong (key_bytes rs) n
  unfolding key_lengths_wrong key_bytes
  key-lengths n =
      rw (same_length n (λ r. mode_byte r.y_mode) rs, same_length n (λ r. segment_byte r.segment_id) rs, same_length n (λ r. flag_byte r.has_coeffs) rs)
      (or_same (length_is_not n rs))

  inter-lengths : (n : ℕ) → length_is_not n rs ≡ inter_lengths_wrong (inter_bytes rs) n
  unfolding inter_lengths_wrong inter_bytes
  inter-lengths n =
      rw (
        same_length n (λ r. mode_byte r.y_mode) rs,
        same_length n (λ r. segment_byte r.segment_id) rs,
        same_length n (λ r. flag_byte r.has_coeffs) rs,
        same_length n (λ r. reference_byte r.ref_frame) rs,
        same_length n (λ r. inter_mode_byte r.inter_mode) rs,
      )
      (or-same5 (length_is_not n rs))

  -- 6
  modes-fine : list_any bad_mode (map (λ r. mode_byte r.y_mode) rs) ≡ false
  modes-fine = none-bad bad_mode (λ r. mode_byte r.y_mode) (λ r. (mode-byte r.y_mode).1) rs

  key-fine : false ≡ key_bad_entry (key_bytes rs)
  unfolding key_bad_entry key_bytes
  key-fine = sym modes-fine

  inter-fine : false ≡ inter_bad_entry (inter_bytes rs)
  unfolding inter_bad_entry inter_bytes
  inter-fine =
      rw (
        modes-fine,
        none-bad bad_reference (λ (r : MacroblockModes). reference_byte r.ref_frame) (λ r. (reference-byte r.ref_frame).1) rs,
        none-bad bad_inter_mode (λ (r : MacroblockModes). inter_mode_byte r.inter_mode) (λ r. (inter-mode-byte r.inter_mode).1) rs,
      )

  -- what is read of macroblock m
  key-entry : (m : ℕ) → key_record (get_or rs m no_record) ≡ key_entry (key_bytes rs) m
  unfolding key_record key_entry key_bytes entry_of no_record mode_byte segment_byte flag_byte reference_of inter_mode_of
  key-entry m =
      let r = get_or rs m no_record in
      cc (
        get_or-map (λ (x : MacroblockModes). mode_byte x.y_mode) rs m no_record,
        get_or-map (λ (x : MacroblockModes). segment_byte x.segment_id) rs m no_record,
        get_or-map (λ (x : MacroblockModes). flag_byte x.has_coeffs) rs m no_record,
        (mode-byte r.y_mode).0,
        flag-byte r.has_coeffs,
      )

  inter-entry : (m : ℕ) → inter_record (get_or rs m no_record) ≡ inter_entry (inter_bytes rs) m
  unfolding inter_record inter_entry inter_bytes entry_of no_record mode_byte segment_byte flag_byte reference_byte inter_mode_byte
  inter-entry m =
      let r = get_or rs m no_record in
      cc (
        get_or-map (λ (x : MacroblockModes). mode_byte x.y_mode) rs m no_record,
        get_or-map (λ (x : MacroblockModes). segment_byte x.segment_id) rs m no_record,
        get_or-map (λ (x : MacroblockModes). flag_byte x.has_coeffs) rs m no_record,
        get_or-map (λ (x : MacroblockModes). reference_byte x.ref_frame) rs m no_record,
        get_or-map (λ (x : MacroblockModes). inter_mode_byte x.inter_mode) rs m no_record,
        (mode-byte r.y_mode).0,
        flag-byte r.has_coeffs,
        (reference-byte r.ref_frame).0,
        (inter-mode-byte r.inter_mode).0,
      )

module _ (p : Planes) (layout : PlaneLayout) (rs : List MacroblockModes) (config : FrameFilterConfig) (start allowance : ℕ) where
  pub key-as-bytes : (answer key_pass (key_records_call p layout rs config start allowance) ≡ answer key_pass (key_call p layout (key_bytes rs) config start allowance))
      × (planes_after key_pass (key_records_call p layout rs config start allowance) ≡ planes_after key_pass (key_call p layout (key_bytes rs) config start allowance))
  key-as-bytes = same-call key_pass _ config p start allowance (KeyCarried.records rs) (KeyCarried.byte_lists (key_bytes rs)) (key-lengths rs) (key-fine rs) (key-entry rs)

  pub inter-as-bytes : (answer inter_pass (inter_records_call p layout rs config start allowance) ≡ answer inter_pass (inter_call p layout (inter_bytes rs) config start allowance))
      × (planes_after inter_pass (inter_records_call p layout rs config start allowance) ≡ planes_after inter_pass (inter_call p layout (inter_bytes rs) config start allowance))
  inter-as-bytes = same-call inter_pass _ config p start allowance (InterCarried.records rs) (InterCarried.byte_lists (inter_bytes rs)) (inter-lengths rs) (inter-fine rs) (inter-entry rs)

-- ---- 6 does not arise

ladder : (z t b s o e l : Bool) → e ≡ false → ◌≡◌ {A = ℕ} 6 (cond z 0 (cond t 1 (cond b 2 (cond s 3 (cond o 5 (cond e 6 (cond l 7 0))))))) → ⊥
ladder true t b s o e l n h = omega arith
ladder false true b s o e l n h = omega arith
ladder false false true s o e l n h = omega arith
ladder false false false true o e l n h = omega arith
ladder false false false false true e l n h = omega arith
ladder false false false false false true l n h = let z : ◌≡◌ {A = ℕ} 0 1 = cc in omega arith
ladder false false false false false false true n h = omega arith
ladder false false false false false false false n h = omega arith

never-six : (W : Pass) (a : Call W) → W.bad_entry a.carried ≡ false → answer W a ≡ refuses 6 → ⊥
unfolding refusal after_grid
never-six W a n e =
    ladder (zero_grid a.grid) (too_large a.grid) (bad_strides a.grid) (short_planes a.grid a.lent) (W.wrong_length a.carried (macroblocks a.grid)) (W.bad_entry a.carried) (ltb (macroblocks a.grid) a.start) n
    (refused-keeps W a 6 e).0

module _ (p : Planes) (layout : PlaneLayout) (rs : List MacroblockModes) (config : FrameFilterConfig) (start allowance : ℕ) where
  pub key-never-six : answer key_pass (key_records_call p layout rs config start allowance) ≡ refuses 6 → ⊥
  key-never-six = never-six key_pass (key_records_call p layout rs config start allowance) refl

  pub inter-never-six : answer inter_pass (inter_records_call p layout rs config start allowance) ≡ refuses 6 → ⊥
  inter-never-six = never-six inter_pass (inter_records_call p layout rs config start allowance) refl
