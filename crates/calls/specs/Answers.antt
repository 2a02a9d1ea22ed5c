-- What a pass answers, in document 01's terms.
use Rattle.std.specs.Prelude.{◌≡◌, ℕ, Result, Ok, Err}
use Rattle.arithmetic.specs.Outcome.{Outcome, gives, refuses}
use Rattle.planes.specs.Planes.{Planes}
use Rattle.calls.specs.Pass.{Pass, Call, Progress, answer, planes_after}
use Rattle.calls.specs.Smoothed.{part}
use Rattle.calls.specs.declared.answers.Done.{Done}
use Rattle.calls.specs.declared.answers.PassRefusal.{PassRefusal}
use Rattle.calls.specs.declared.answers.PassRefusal.TheVariants.{TooLarge, BadStrides, ShortPlane, WrongLength, BadEntry, StartBeyond}

-- document 01's numbers
unfoldable pub pass_refusal_number : PassRefusal → ℕ
pass_refusal_number TooLarge = 1
pass_refusal_number BadStrides = 2
pass_refusal_number ShortPlane = 3
pass_refusal_number WrongLength = 5
pass_refusal_number BadEntry = 6
pass_refusal_number StartBeyond = 7

-- the count and the next start, or the number of the refusal
abbrev pub pass_outcome : Result Done PassRefusal → Outcome Progress
pass_outcome (Ok d) = gives (record { count = d.«count»; next = d.«next» })
pass_outcome (Err r) = refuses (pass_refusal_number r)

-- how many positions were smoothed, or the number of the refusal
abbrev pub part_outcome : Result Done PassRefusal → Outcome ℕ
part_outcome (Ok d) = gives d.smoothed
part_outcome (Err r) = refuses (pass_refusal_number r)

-- the answer r, with its part, and the planes after it are those that the pass defines for the call
pub record Passed (W : Pass) (a : Call W) (r : Result Done PassRefusal) (after : Planes) : Type 0 where
  pub answered : pass_outcome r ≡ answer W a
  pub counted : part_outcome r ≡ part W a
  pub filtered : after ≡ planes_after W a
