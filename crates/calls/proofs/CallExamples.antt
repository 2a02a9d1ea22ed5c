-- Lists of calls, computed: what `Shown` of specs/CallExamples.antt says of them.
use Rattle.std.specs.Prelude.{◌≡◌, refl, Bool, true, false, cond, ℕ, zero, suc, ltb}
use Rattle.std.proofs.Common.{sym, ap, ◌∙◌, inl, inr, arith, get_or-set_other, get_or-take, ltb-true}
use Rattle.std.proofs.Math.Option as option
use Rattle.std.proofs.Math.Option.{some-injective, some-ne-none, none-ne-some}
use Rattle.std.proofs.Math.Decide.{ℕ_discrete}
use Rattle.arithmetic.specs.Numbers.{clamp, u2s, s2u, shr}
use Rattle.kernels.specs.Kernels as kernels
use Rattle.kernels.specs.Segment.{half, taps, smooth, gather, scatter, segment, passes, passes_at, mark}
use Rattle.arithmetic.specs.Limits.{at_least_one, interior_limit, hev_threshold, mbedge_limit, sub_bedge_limit, with_interior, derive}
use Rattle.levels.specs.Encodings.{mode_of, reference_of, inter_mode_of, bad_mode, bad_reference, bad_inter_mode}
use Rattle.levels.specs.Levels as levels
use Rattle.planes.specs.Steps.{steps, tally, Clear}
use Rattle.planes.specs.Planes.{Plane, luma, chroma_u, chroma_v, Planes, Sample, sample}
use Rattle.planes.specs.Edges.{first_row, first_column, edge_tap, filter_edge, borders, insides, places}
use Rattle.planes.specs.Macroblock.{only, edge_at, edges_at, filter_edges, filter_macroblock}
use Rattle.planes.specs.Smoothed.{edge_smoothed, edges_smoothed, macroblock_smoothed}
use Rattle.planes.specs.Reach.{Box, Near, Reach, Own}
use Rattle.planes.specs.GridRefusals.{zero_grid, too_large, bad_strides, needed, short_planes, after_grid}
use Rattle.calls.specs.Entries.{KeyCarried, segment_byte, key_record, no_record, entry_of, key_entry, inter_entry, length_is_not, key_lengths_wrong, inter_lengths_wrong, key_bad_entry, inter_bad_entry}
use Rattle.calls.specs.Pass.{Pass, Call, key_pass, inter_pass, is_b, inside_of, plan_with, plan_at, key_plan, inter_plan, refusal, step, count, next, answer, planes_after}
use Rattle.calls.specs.Calls.{LastLeft, AfterRefused, Carries, after_accepted, Calls, counts, allowances, done, StandIn, FurtherCalls}
use Rattle.calls.specs.Smoothed.{step_smoothed, part, parts}
use Rattle.calls.specs.FinalRows.{rows_final, final_rows}
use Rattle.calls.specs.ExampleCalls.{left, in-luma, key_grid, key_picture, key_example_call, key₀, key₁, key₂, without_last_row, settings, key_example_lists, key_example_records, key_records_example_call, zero_picture, inter_grid, inter_example_call, inter₀, inter₁, put}
use Rattle.calls.specs.CallExamples.{sees_all_but, Shown}

-- the one macroblock left cannot reach the sample
key-final : Clear (Reach key_grid) 2 3 (in-luma 4)
unfolding Clear Reach Near Box
key-final m a b = go m (omega arith)
  where
    far : ¬ Reach key_grid 2 (in-luma 4)
    far r = by r.there
      where
        by : Near 16 0 32 r.row r.column → ⊥
        by (inl c) = omega (arith, c, r.at)
        by (inr c) = omega (arith, c, r.at)

    go : (m : ℕ) → m ≡ 2 → ¬ Reach key_grid m (in-luma 4)
    go m e near = far (rw e at near)

inter-final : Clear (Reach inter_grid) 1 2 (in-luma 64)
unfolding Clear Reach Near Box
inter-final m a b = go m (omega arith)
  where
    far : ¬ Reach inter_grid 1 (in-luma 64)
    far r = by r.there
      where
        by : Near 16 16 0 r.row r.column → ⊥
        by (inl c) = omega (arith, c, r.at)
        by (inr c) = omega (arith, c, r.at)

    go : (m : ℕ) → m ≡ 1 → ¬ Reach inter_grid m (in-luma 64)
    go m e near = far (rw e at near)

-- the sample put in is one of the second macroblock's own
stands-in : StandIn inter_grid 1 inter₁ (put inter₁)
unfolding StandIn Clear Own Box
stands-in x clear = go x.on (ℕ_discrete x.index 496) clear
  where
    go : (q : Plane) → Dec (x.index ≡ 496) → Clear (Own inter_grid) 1 2 (record { on = q; index = x.index }) → sample (put inter₁) (record { on = q; index = x.index }) ≡ sample inter₁ (record { on = q; index = x.index })
    go luma (yes e) clear = absurd (clear 1 (omega arith) (omega arith) (record { row = 31; column = 0; at = e; there = omega arith }))
    go luma (no ne) clear = get_or-set_other inter₁.y 496 x.index 7 0 ne
    go chroma_u d clear = refl
    go chroma_v d clear = refl

-- ---- refused calls

-- a call that is lent the picture's planes sees each sample where it is
lent-whole : (W : Pass) (h : LastLeft) (a : Call W) → a.lent ≡ h.planes → planes_after W a ≡ h.planes → AfterRefused W h a h
lent-whole W h a e f = record {
  start = refl;
  sees = λ x. option.some x;
  lent = λ x y s. rw e (ap (sample h.planes) (sym (some-injective x y s)));
  left = λ x y s. rw f (ap (sample h.planes) (some-injective x y s));
  unseen = λ x s. absurd (some-ne-none x s);
  lengths = λ q. refl;
}

seen-there : (p : Planes) (q : Plane) (i : ℕ) (y : Sample) → sees_all_but q i ≡ option.some y → sample (without_last_row p) y ≡ sample p (record { on = q; index = i })
seen-there p luma i y s = by (ltb i 720) refl s
  where
    by : (b : Bool) → ltb i 720 ≡ b → cond b (option.some (record { on = luma; index = i })) option.none ≡ option.some y
        → sample (without_last_row p) y ≡ sample p (record { on = luma; index = i })
    by true e s = ap (sample (without_last_row p)) (sym (some-injective _ y s)) ∙ get_or-take 720 p.y i 0 (ltb-true i 720 e)
    by false e s = absurd (none-ne-some y s)
seen-there p chroma_u i y s = ap (sample (without_last_row p)) (sym (some-injective _ y s))
seen-there p chroma_v i y s = ap (sample (without_last_row p)) (sym (some-injective _ y s))

lent-in-part : (p : Planes) (start : ℕ) → planes_after key_pass (key_example_call (without_last_row p) 0 start 9) ≡ without_last_row p
    → AfterRefused key_pass (left p start) (key_example_call (without_last_row p) 0 start 9) (left p start)
lent-in-part p start e = record {
  start = refl;
  sees = λ x. sees_all_but x.on x.index;
  lent = λ x y s. seen-there p x.on x.index y s;
  left = λ x y s. sym (rw e (seen-there p x.on x.index y s));
  unseen = λ x s. refl;
  lengths = λ q. refl;
}

-- the records say what the byte lists say
same_entries : Carries key_pass key_picture (KeyCarried.records key_example_records)
unfolding Carries key_entry entry_of key_record segment_byte mode_of reference_of inter_mode_of
same_entries zero l = refl
same_entries (suc zero) l = refl
same_entries (suc (suc zero)) l = refl
same_entries (suc (suc (suc m))) l = absurd (omega arith)

pub shown : Shown
unfolding clamp u2s s2u shr at_least_one interior_limit hev_threshold mbedge_limit sub_bedge_limit with_interior derive half taps smooth gather scatter segment
    kernels.apart kernels.edge_value kernels.filter_value kernels.gain_of kernels.loss_of kernels.adjustment kernels.adjusted_p0 kernels.adjusted_q0 kernels.common_adjust
    kernels.simple_yes kernels.simple_segment kernels.filter_yes kernels.hev kernels.segment_yes kernels.segment_hev kernels.outer_step kernels.subblock_filter
    kernels.part kernels.wide_value kernels.mb_filter
    mode_of reference_of inter_mode_of bad_mode bad_reference bad_inter_mode
    levels.clamp_level levels.segment_number levels.level_in_segment levels.base_level levels.segment_level levels.ref_delta levels.intra_mode_delta levels.inter_mode_delta levels.mode_delta
    levels.adjusted_level levels.inter_level levels.key_level levels.level_of levels.key_level_of
    steps first_row first_column edge_tap filter_edge borders insides places only edge_at edges_at filter_edges filter_macroblock
    zero_grid too_large bad_strides needed short_planes after_grid entry_of key_entry inter_entry segment_byte key_record no_record length_is_not key_lengths_wrong inter_lengths_wrong key_bad_entry inter_bad_entry
    is_b inside_of plan_with plan_at key_plan inter_plan refusal step count next answer planes_after
    passes passes_at mark tally edge_smoothed edges_smoothed macroblock_smoothed step_smoothed part parts
    rows_final final_rows Reach Near Box Carries after_accepted counts allowances done
shown = record {
  key = record {
    list =
        Calls.accepted (key_example_call key₀ 0 0 1) (record { count = 1; next = 1 }) refl (record { grid = refl; settings = refl; planes = refl; start = refl }) (λ m _. refl)
        (Calls.refused (key_example_call (without_last_row key₁) 0 1 9) 3 refl (lent-in-part key₁ 1 refl)
        (Calls.accepted (key_example_call key₁ 0 1 1) (record { count = 1; next = 2 }) refl (record { grid = refl; settings = refl; planes = refl; start = refl }) (λ m _. refl) Calls.none));
    refused = refl;
    k = refl;
    own-parts = refl;
    smoothed = refl;
    further = FurtherCalls.accepted (key_example_call key₂ 0 2 9) (record { count = 1; next = 3 }) refl (record { grid = refl; settings = refl; planes = refl; start = refl }) FurtherCalls.none;
    further-put-in = FurtherCalls.accepted (key_example_call key₂ 4 2 9) (record { count = 1; next = 3 }) refl (record { grid = refl; settings = refl; planes = refl; start = refl }) FurtherCalls.none;
    final = key-final;
    final-values = refl;
    not-final = record { row = 0; column = 31; at = refl; there = inl (omega arith) };
    not-final-values = refl;
    put-in-values = refl;
  };
  inter = record {
    list =
        Calls.accepted (inter_example_call inter₀ 0 0 0 0) (record { count = 0; next = 0 }) refl (record { grid = refl; settings = refl; planes = refl; start = refl }) (λ m _. refl)
        (Calls.refused (inter_example_call inter₀ 5 0 0 2) 6 refl (lent-whole inter_pass (left inter₀ 0) (inter_example_call inter₀ 5 0 0 2) refl refl)
        (Calls.accepted (inter_example_call inter₀ 0 0 0 1) (record { count = 1; next = 1 }) refl (record { grid = refl; settings = refl; planes = refl; start = refl }) (λ m _. refl) Calls.none));
    refused = refl;
    refused-idle = refl;
    marks = refl;
    k = refl;
    smoothed = refl;
    further = FurtherCalls.accepted (inter_example_call inter₁ 0 0 1 9) (record { count = 1; next = 2 }) refl (record { grid = refl; settings = refl; planes = refl; start = refl }) FurtherCalls.none;
    further-put-in = FurtherCalls.put_in (put inter₁) stands-in (FurtherCalls.accepted (inter_example_call (put inter₁) 0 1 1 9) (record { count = 1; next = 2 }) refl (record { grid = refl; settings = refl; planes = refl; start = refl }) FurtherCalls.none);
    final = inter-final;
    final-values = refl;
    not-final = record { row = 13; column = 0; at = refl; there = inr (omega arith) };
    not-final-values = refl;
    not-final-chroma = record { row = 5; column = 0; at = refl; there = inr (omega arith) };
    not-final-chroma-values = refl;
    put-in-values = refl;
  };
  mixed =
      Calls.accepted (key_example_call key₀ 0 0 1) (record { count = 1; next = 1 }) refl (record { grid = refl; settings = refl; planes = refl; start = refl }) (λ m _. refl)
      (Calls.accepted (key_records_example_call key₁ 1 1) (record { count = 1; next = 2 }) refl (record { grid = refl; settings = refl; planes = refl; start = refl }) same_entries
      (Calls.accepted (key_example_call key₂ 0 2 9) (record { count = 1; next = 3 }) refl (record { grid = refl; settings = refl; planes = refl; start = refl }) (λ m _. refl) Calls.none));
  mixed-k = refl;
  zero-grid =
      Calls.accepted
      (record { grid = zero_picture.grid; settings = settings true true; carried = KeyCarried.byte_lists (key_example_lists 0); lent = key₀; start = 0; allowance = 5 })
      (record { count = 0; next = 0 }) refl (record { grid = refl; settings = refl; planes = refl; start = refl }) (λ m _. refl) Calls.none;
  zero-grid-k = refl;
  final-rows = refl;
}
