-- What the judge of a pass sees of a call, and what it decides: the macroblocks to do, or the refusal. `proofs/Judgement.antt` shows that the answer is `answer` and that the macroblocks are those of `planes_after`.
use Rattle.std.specs.Prelude.{Bool, cond, ℕ, ◌+◌, ◌-◌, min, ltb, Result, Ok, Err}
use Rattle.planes.specs.Planes.{Grid, macroblocks}
use Rattle.planes.specs.GridRefusals.{zero_grid, too_large, bad_strides, short_by}
use Rattle.calls.specs.declared.answers.Done.{Done}
use Rattle.calls.specs.declared.answers.PassRefusal.{PassRefusal}
use Rattle.calls.specs.declared.answers.PassRefusal.TheVariants.{TooLarge, BadStrides, ShortPlane, WrongLength, BadEntry, StartBeyond}
use Rattle.judge.specs.declared.batch.Batch.{Batch}

-- the numbers of a call
pub record Seen : Type 0 where
  pub grid : Grid
  pub y_length : ℕ
  pub u_length : ℕ
  pub v_length : ℕ
  -- 5 and 6 hold
  pub wrong_length : Bool
  pub bad_entry : Bool
  pub start : ℕ
  pub allowance : ℕ

abbrev pub seen : Grid → (y u v : ℕ) → (wrong_length bad_entry : Bool) → (start allowance : ℕ) → Seen
seen g y u v wrong_length bad_entry start allowance = record {
  grid = g;
  y_length = y;
  u_length = u;
  v_length = v;
  wrong_length = wrong_length;
  bad_entry = bad_entry;
  start = start;
  allowance = allowance;
}

abbrev pub none_to_do : Batch
none_to_do = record { «done» = record { «count» = 0; «next» = 0; «smoothed» = 0 }; «from» = 0; «to» = 0 }

-- the lesser of the allowance and the macroblocks left, from start on
abbrev pub accepted_batch : (n start allowance : ℕ) → Batch
accepted_batch n start allowance = record {
  «done» = record { «count» = min allowance (n - start); «next» = start + min allowance (n - start); «smoothed» = 0 };
  «from» = start;
  «to» = start + min allowance (n - start);
}

-- the answer when a batch is done, with what it smoothed
abbrev pub done_of : Batch → (smoothed : ℕ) → Done
done_of b smoothed = record { «count» = b.«done».«count»; «next» = b.«done».«next»; «smoothed» = smoothed }

unfoldable pub batch_of : Seen → Result Batch PassRefusal
batch_of s =
    cond (zero_grid s.grid) (Ok none_to_do)
    (cond (too_large s.grid) (Err TooLarge)
    (cond (bad_strides s.grid) (Err BadStrides)
    (cond (short_by s.grid s.y_length s.u_length s.v_length) (Err ShortPlane)
    (cond s.wrong_length (Err WrongLength)
    (cond s.bad_entry (Err BadEntry)
    (cond (ltb (macroblocks s.grid) s.start) (Err StartBeyond)
    (Ok (accepted_batch (macroblocks s.grid) s.start s.allowance))))))))
