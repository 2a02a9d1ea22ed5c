-- What the sums answer, and the numbers of the refusals of sums and searches, in document 01's terms.
use Rattle.std.specs.Prelude.{ℕ, Result}
use Rattle.arithmetic.specs.Outcome.{Outcome, outcome}
use Rattle.sums.specs.declared.answers.SearchRefusal.{SearchRefusal}
use Rattle.sums.specs.declared.answers.SearchRefusal.TheVariants.{TooLarge, BadStrides, ShortPlane, BadEntry, SourceTooLarge, BadSource, SumTooLarge}

-- the number of each refusal
abbrev pub search_refusal_number : SearchRefusal → ℕ
search_refusal_number TooLarge = 1
search_refusal_number BadStrides = 2
search_refusal_number ShortPlane = 3
search_refusal_number BadEntry = 6
search_refusal_number SourceTooLarge = 8
search_refusal_number BadSource = 9
search_refusal_number SumTooLarge = 10

-- the sum, or the number of the refusal
abbrev pub sum_outcome : Result ℕ SearchRefusal → Outcome ℕ
sum_outcome r = outcome search_refusal_number r
