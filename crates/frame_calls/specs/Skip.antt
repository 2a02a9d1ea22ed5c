-- The frame call beside a pass: ".. loop filtering must be skipped entirely if loop_filter_level at .. the frame header level .. is 0" (RFC 6386, section 15, lines 4690 to 4693; its decoder, lines 8191 and 8199).
-- What is skipped counts as done, so that starts keep their meaning.
use Rattle.std.specs.Prelude.{◌≡◌, Bool, true, false, cond, List, ℕ, eqb}
use Rattle.levels.specs.declared.config.FrameFilterConfig.{FrameFilterConfig}
use Rattle.planes.specs.Planes.{Planes}
use Rattle.planes.specs.Macroblock.{leave}
use Rattle.calls.specs.Pass.{Pass, Call, key_pass, inter_pass, answer, planes_after}
use Rattle.calls.specs.Calls.{Picture, LastLeft, counts, done, first_macroblocks}
use Rattle.calls.specs.Smoothed.{part, parts}
use Rattle.arithmetic.specs.Outcome.{gives}

-- the header level turns the filter off
unfoldable pub filter_off : FrameFilterConfig → Bool
filter_off config = eqb config.loop_filter_level 0

-- A frame call is a pass of its own. From the pass that it stands beside it differs in the plan alone: every macroblock is left alone at header level 0.
abbrev pub skipping : Pass → Pass
skipping W =
    record {
      Carried = W.Carried;
      entry = W.entry;
      wrong_length = W.wrong_length;
      bad_entry = W.bad_entry;
      plan = λ config e. cond (filter_off config) leave (W.plan config e);
    }

-- the frame call of the key pass, and that of the inter pass
abbrev pub key_frame_pass : Pass
key_frame_pass = skipping key_pass

abbrev pub inter_frame_pass : Pass
inter_frame_pass = skipping inter_pass

-- the arguments of a call of the pass, as a frame call
abbrev pub frame_call : (W : Pass) → Call W → Call (skipping W)
frame_call W a =
    record { grid = a.grid; settings = a.settings; carried = a.carried; lent = a.lent; start = a.start; allowance = a.allowance }

-- ---- beside the pass

module _ (W : Pass) where
  -- Of every call, whatever its arguments.
  pub record BesidePass (a : Call W) : Type 0 where
    -- count, next start and refusals are the pass's, at every header level
    pub same_answer : answer (skipping W) (frame_call W a) ≡ answer W a
    -- "leaves every plane untouched when the header level is 0"
    pub skipped : filter_off a.settings ≡ true → planes_after (skipping W) (frame_call W a) ≡ a.lent
    -- "and otherwise equals that pass"
    pub not-skipped : filter_off a.settings ≡ false → planes_after (skipping W) (frame_call W a) ≡ planes_after W a
    -- nothing of a skipped frame is smoothed, and of any other what the pass smooths
    pub skipped-part : filter_off a.settings ≡ true → (n : ℕ) → part (skipping W) (frame_call W a) ≡ gives n → n ≡ 0
    pub same-part : filter_off a.settings ≡ false → part (skipping W) (frame_call W a) ≡ part W a

  -- Of a picture: what demand 3 calls the first k macroblocks, and so every final value.
  pub record BesideSteps (pic : Picture) (p : Planes) : Type 0 where
    pub skipped : filter_off pic.settings ≡ true → (k : ℕ) → first_macroblocks (skipping W) pic k p ≡ p
    pub not-skipped : filter_off pic.settings ≡ false → (k : ℕ) → first_macroblocks (skipping W) pic k p ≡ first_macroblocks W pic k p

  -- Of a list of frame calls at header level 0, from start 0 and the planes p, that leaves h: the planes stay, and the macroblocks count.
  pub record SkippedList (pic : Picture) (p : Planes) (list : List (Call (skipping W))) (h : LastLeft) : Type 0 where
    pub planes : h.planes ≡ p
    pub added : counts (skipping W) list ≡ done (skipping W) pic list
    pub none-smoothed : parts (skipping W) list ≡ 0
    pub start : h.start ≡ done (skipping W) pic list
