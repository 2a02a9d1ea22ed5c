-- What the answer of a kernel says of its window, to the loops over an edge's rows.
use Rattle.std.specs.Prelude.{Bool, false}
use Rattle.arithmetic.specs.Outcome.{Outcome, gives, refuses}

-- the test passed
abbrev pub passed_in : Outcome Bool → Bool
passed_in (gives passed) = passed
passed_in (refuses number) = false
