-- A pass as its callers see it: what one call names, refuses, answers and leaves. One text for the key pass and the inter pass: a `Pass` says in what they differ.
use Rattle.std.specs.Prelude.{Bool, true, false, cond, ◌||◌, ℕ, ◌+◌, ◌-◌, min, eqb, ltb}
use Rattle.arithmetic.specs.Outcome.{Outcome, gives, refuses}
use Rattle.arithmetic.specs.Limits.{derive}
use Rattle.kernels.specs.Segment.{simple_segment, subblock_filter, mb_filter}
use Rattle.arithmetic.specs.declared.limits.LoopFilterParams.{LoopFilterParams}
use Rattle.levels.specs.Levels.{key_level, inter_level}
use Rattle.levels.specs.declared.config.FrameFilterConfig.{FrameFilterConfig}
use Rattle.levels.specs.declared.modes.IntraYMode.{IntraYMode}
use Rattle.levels.specs.declared.modes.IntraYMode.TheVariants as mode
use Rattle.planes.specs.Steps.{steps}
use Rattle.planes.specs.Planes.{Planes, Grid, macroblocks}
use Rattle.planes.specs.Macroblock.{Plan, leave, filter, filter_macroblock}
use Rattle.planes.specs.GridRefusals.{zero_grid, after_grid}
use Rattle.calls.specs.Entries.{Entry, KeyCarried, InterCarried, key_carries, inter_carries, key_wrong_length, inter_wrong_length, key_refuses, inter_refuses}

-- ---- the plan of a macroblock

-- inner edges run only if the mode is B or there are coefficients (RFC 6386, section 15.1, lines 4785 to 4794); the mode alone tells B
unfoldable pub is_b : IntraYMode → Bool
is_b mode.Dc = false
is_b mode.V = false
is_b mode.H = false
is_b mode.Tm = false
is_b mode.B = true

unfoldable pub inside_of : Entry → Bool
inside_of e = is_b e.mode || e.coefficients

-- the simple filter takes luma alone (section 15.2, lines 4839 and 4840)
unfoldable pub plan_with : (simple : Bool) → LoopFilterParams → (inside : Bool) → Plan
plan_with simple p inside =
    cond simple
    (filter false (simple_segment p.mbedge_limit) (simple_segment p.sub_bedge_limit) inside)
    (filter true
    (mb_filter p.hev_threshold p.interior_limit p.mbedge_limit)
    (subblock_filter p.hev_threshold p.interior_limit p.sub_bedge_limit) inside)

-- level 0 leaves a macroblock alone; the threshold follows the settings' key mark, in the inter pass too
unfoldable pub plan_at : FrameFilterConfig → (level : ℕ) → (inside : Bool) → Plan
plan_at config level inside =
    cond (eqb level 0) leave (plan_with config.«simple» (derive level config.sharpness_level config.key_frame) inside)

unfoldable pub key_plan : FrameFilterConfig → Entry → Plan
key_plan config e = plan_at config (key_level config e.segment e.mode) (inside_of e)

unfoldable pub inter_plan : FrameFilterConfig → Entry → Plan
inter_plan config e = plan_at config (inter_level config e.segment e.reference e.inter_mode e.mode) (inside_of e)

-- ---- a pass

pub record Pass : Type 1 where
  -- what a call carries for its macroblocks, and what that says of macroblock m
  pub Carried : Type 0
  pub entry : Carried → (m : ℕ) → Entry
  -- 5 and 6
  pub wrong_length : Carried → (n : ℕ) → Bool
  pub bad_entry : Carried → Bool
  -- what settings and entry ask for
  pub plan : FrameFilterConfig → Entry → Plan

abbrev pub key_pass : Pass
key_pass = record { Carried = KeyCarried; entry = key_carries; wrong_length = key_wrong_length; bad_entry = key_refuses; plan = key_plan }

abbrev pub inter_pass : Pass
inter_pass = record { Carried = InterCarried; entry = inter_carries; wrong_length = inter_wrong_length; bad_entry = inter_refuses; plan = inter_plan }

-- ---- a call

-- the arguments of one call. Start and allowance are document 01's terms: the macroblock to go on from, and how many at most.
pub record Call (W : Pass) : Type 0 where
  pub grid : Grid
  pub settings : FrameFilterConfig
  pub carried : W.Carried
  pub lent : Planes
  pub start : ℕ
  pub allowance : ℕ

pub record Progress : Type 0 where
  pub count : ℕ
  pub next : ℕ

-- the number of its refusal, or 0: zero columns or rows first, then 1, 2, 3, 5, 6, 7
unfoldable pub refusal : (W : Pass) → Call W → ℕ
refusal W a =
    cond (zero_grid a.grid) 0
    (after_grid a.grid a.lent
    (cond (W.wrong_length a.carried (macroblocks a.grid)) 5
    (cond (W.bad_entry a.carried) 6
    (cond (ltb (macroblocks a.grid) a.start) 7 0))))

-- document 01's step of macroblock m, at the level that settings and its entry give
unfoldable pub step : (W : Pass) → Grid → FrameFilterConfig → (ℕ → Entry) → (m : ℕ) → Planes → Planes
step W g settings entries = filter_macroblock g (λ m. W.plan settings (entries m))

-- the lesser of the allowance and the macroblocks left; a macroblock of level 0 counts as done
unfoldable pub count : (W : Pass) → Call W → ℕ
count W a = min a.allowance (macroblocks a.grid - a.start)

-- the start to go on from: 0 in a zero grid, whatever start is named
unfoldable pub next : (W : Pass) → Call W → ℕ
next W a = min (a.start + count W a) (macroblocks a.grid)

-- what the call answers
unfoldable pub answer : (W : Pass) → Call W → Outcome Progress
answer W a = cond (eqb (refusal W a) 0) (gives (record { count = count W a; next = next W a })) (refuses (refusal W a))

-- the planes as it leaves them
unfoldable pub planes_after : (W : Pass) → Call W → Planes
planes_after W a =
    cond (eqb (refusal W a) 0) (steps (step W a.grid a.settings (W.entry a.carried)) a.start (count W a) a.lent) a.lent
