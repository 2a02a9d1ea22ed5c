-- What the full search answers, in document 01's terms.
use Rattle.std.specs.Prelude.{Result, Ok, Err}
use Rattle.arithmetic.specs.Outcome.{Outcome, gives, refuses}
use Rattle.sums.specs.Answers.{search_refusal_number}
use Rattle.sums.specs.declared.answers.SearchRefusal.{SearchRefusal}
use Rattle.stills.specs.FullSearch.{FullChoice}
use Rattle.stills.specs.declared.answers.Best.{Best}

-- the pair and its sum, or the number of the refusal
abbrev pub full_outcome : Result Best SearchRefusal → Outcome FullChoice
full_outcome (Ok b) = gives (record { level = b.«pair».«level»; sharpness = b.«pair».«sharpness»; sum = b.«sum» })
full_outcome (Err r) = refuses (search_refusal_number r)
