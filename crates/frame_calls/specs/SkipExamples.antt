-- Header level 0, computed: reference deltas of 20, or segment levels of 20, lift every macroblock to level 20. The pass filters the planes of `ExampleCalls`, and the frame call leaves them; both count the same macroblocks as done.
use Rattle.std.specs.Prelude.{◌≡◌, refl, Bool, true, false, not, [], ◌∷◌, pos, ℕ}
use Rattle.arithmetic.specs.Numbers.{clamp, u2s, s2u, shr}
use Rattle.arithmetic.specs.Limits.{at_least_one, interior_limit, hev_threshold, mbedge_limit, sub_bedge_limit, with_interior, derive}
use Rattle.arithmetic.specs.Outcome.{gives, refuses}
use Rattle.kernels.specs.Kernels as kernels
use Rattle.kernels.specs.Segment.{half, taps, smooth, gather, scatter, segment, passes, passes_at, mark}
use Rattle.levels.specs.Encodings.{mode_of, reference_of, inter_mode_of, bad_mode, bad_reference, bad_inter_mode}
use Rattle.levels.specs.Levels as levels
use Rattle.levels.specs.declared.config.FrameFilterConfig.{FrameFilterConfig}
use Rattle.planes.specs.Steps.{steps, tally}
use Rattle.planes.specs.Planes.{Planes}
use Rattle.planes.specs.Edges.{first_row, first_column, edge_tap, filter_edge, borders, insides, places}
use Rattle.planes.specs.Macroblock.{only, edge_at, edges_at, filter_edges, filter_macroblock}
use Rattle.planes.specs.Smoothed.{edge_smoothed, edges_smoothed, macroblock_smoothed}
use Rattle.planes.specs.GridRefusals.{zero_grid, too_large, bad_strides, needed, short_planes, after_grid}
use Rattle.calls.specs.Entries.{KeyCarried, InterCarried, segment_byte, key_record, no_record, entry_of, key_entry, inter_entry, length_is_not, key_lengths_wrong, inter_lengths_wrong, key_bad_entry, inter_bad_entry}
use Rattle.calls.specs.Pass.{Call, key_pass, inter_pass, is_b, inside_of, plan_with, plan_at, key_plan, inter_plan, refusal, step, count, next, answer, planes_after}
use Rattle.calls.specs.Smoothed.{step_smoothed, part}
use Rattle.calls.specs.ExampleCalls.{key_grid, key_example_lists, key_example_records, key₀, key₃, without_last_row, inter_grid, inter_example_lists, inter₀, inter₂}
use Rattle.frame_calls.specs.Skip.{filter_off, key_frame_pass, inter_frame_pass, frame_call}

-- header level 0, and 20 for every macroblock, by its reference or by its segment
abbrev lifted : (by-segment simple key : Bool) → FrameFilterConfig
lifted by-segment simple key =
    record {
      simple = simple;
      key_frame = key;
      loop_filter_level = 0;
      sharpness_level = 0;
      segmentation_enabled = by-segment;
      segment_abs = true;
      segment_lf_level = pos 20 ∷ pos 20 ∷ pos 20 ∷ pos 20 ∷ [];
      delta_enabled = not by-segment;
      ref_delta_current = pos 20;
      bpred_mode_delta = pos 0;
      ref_delta_last = pos 20;
      ref_delta_golden = pos 0;
      ref_delta_altref = pos 0;
      zero_mv_mode_delta = pos 0;
      other_mv_mode_delta = pos 0;
      split_mv_mode_delta = pos 0;
    }

abbrev key_lifted : (by-segment : Bool) → KeyCarried → Planes → (start allowance : ℕ) → Call key_pass
key_lifted by-segment c p start allowance =
    record { grid = key_grid; settings = lifted by-segment true true; carried = c; lent = p; start = start; allowance = allowance }

abbrev key_bytes : KeyCarried
key_bytes = KeyCarried.byte_lists (key_example_lists 0)

abbrev inter_lifted : (mode start allowance : ℕ) → Call inter_pass
inter_lifted mode start allowance =
    record {
      grid = inter_grid;
      settings = lifted false false false;
      carried = InterCarried.byte_lists (inter_example_lists mode 0);
      lent = inter₀;
      start = start;
      allowance = allowance;
    }

pub record SkipShown : Type 0 where
  -- the pass filters, the frame call does not: over byte lists, over records, and where segments lift the level
  pub key-filtered : planes_after key_pass (key_lifted false key_bytes key₀ 0 3) ≡ key₃
  pub key_left : planes_after key_frame_pass (frame_call key_pass (key_lifted false key_bytes key₀ 0 3)) ≡ key₀
  pub records-filtered : planes_after key_pass (key_lifted false (KeyCarried.records key_example_records) key₀ 0 3) ≡ key₃
  pub records-left : planes_after key_frame_pass (frame_call key_pass (key_lifted false (KeyCarried.records key_example_records) key₀ 0 3)) ≡ key₀
  pub segments-filtered : planes_after key_pass (key_lifted true key_bytes key₀ 0 3) ≡ key₃
  pub segments-left : planes_after key_frame_pass (frame_call key_pass (key_lifted true key_bytes key₀ 0 3)) ≡ key₀
  pub inter-filtered : planes_after inter_pass (inter_lifted 0 0 2) ≡ inter₂
  pub inter_left : planes_after inter_frame_pass (frame_call inter_pass (inter_lifted 0 0 2)) ≡ inter₀
  -- and of what it leaves it smooths nothing
  pub smoothed :
      part key_pass (key_lifted false key_bytes key₀ 0 3) ∷ part key_frame_pass (frame_call key_pass (key_lifted false key_bytes key₀ 0 3)) ∷ [] ≡ gives 128 ∷ gives 0 ∷ []
  -- what is skipped counts as done
  pub counted :
      answer key_frame_pass (frame_call key_pass (key_lifted false key_bytes key₀ 0 2)) ∷ answer key_frame_pass (frame_call key_pass (key_lifted false key_bytes key₀ 2 9))
      ∷ answer inter_frame_pass (frame_call inter_pass (inter_lifted 0 0 1)) ∷ []
      ≡ gives (record { count = 2; next = 2 }) ∷ gives (record { count = 1; next = 3 }) ∷ gives (record { count = 1; next = 1 }) ∷ []
  -- the pass's refusals stand before the skip
  pub refused :
      answer key_frame_pass (frame_call key_pass (key_lifted false key_bytes (without_last_row key₀) 0 3)) ∷ answer key_frame_pass (frame_call key_pass (key_lifted false key_bytes key₀ 4 0))
      ∷ answer inter_frame_pass (frame_call inter_pass (inter_lifted 5 0 2)) ∷ []
      ≡ refuses 3 ∷ refuses 7 ∷ refuses 6 ∷ []

pub skip-shown : SkipShown
unfolding clamp u2s s2u shr at_least_one interior_limit hev_threshold mbedge_limit sub_bedge_limit with_interior derive half taps smooth gather scatter segment
    kernels.apart kernels.edge_value kernels.filter_value kernels.gain_of kernels.loss_of kernels.adjustment kernels.adjusted_p0 kernels.adjusted_q0 kernels.common_adjust
    kernels.simple_yes kernels.simple_segment kernels.filter_yes kernels.hev kernels.segment_yes kernels.segment_hev kernels.outer_step kernels.subblock_filter
    kernels.part kernels.wide_value kernels.mb_filter
    mode_of reference_of inter_mode_of bad_mode bad_reference bad_inter_mode
    levels.clamp_level levels.segment_number levels.level_in_segment levels.base_level levels.segment_level levels.ref_delta levels.intra_mode_delta levels.inter_mode_delta levels.mode_delta
    levels.adjusted_level levels.inter_level levels.key_level levels.level_of levels.key_level_of
    steps first_row first_column edge_tap filter_edge borders insides places only edge_at edges_at filter_edges filter_macroblock
    zero_grid too_large bad_strides needed short_planes after_grid entry_of key_entry inter_entry segment_byte key_record no_record length_is_not key_lengths_wrong inter_lengths_wrong key_bad_entry inter_bad_entry
    is_b inside_of plan_with plan_at key_plan inter_plan refusal step count next answer planes_after filter_off
    passes passes_at mark tally edge_smoothed edges_smoothed macroblock_smoothed step_smoothed part
skip-shown = record {
  key-filtered = refl;
  key_left = refl;
  records-filtered = refl;
  records-left = refl;
  segments-filtered = refl;
  segments-left = refl;
  inter-filtered = refl;
  inter_left = refl;
  smoothed = refl;
  counted = refl;
  refused = refl;
}
