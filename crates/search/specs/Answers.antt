-- What the searches answer, in document 01's terms.
use Rattle.std.specs.Prelude.{Result, Ok, Err}
use Rattle.arithmetic.specs.Outcome.{Outcome, gives, refuses}
use Rattle.sums.specs.Answers.{search_refusal_number}
use Rattle.sums.specs.declared.answers.SearchRefusal.{SearchRefusal}
use Rattle.search.specs.Search.{Choice, LevelChoice}
use Rattle.search.specs.declared.answers.FilterParams.{FilterParams}
use Rattle.search.specs.declared.answers.FilterLevel.{FilterLevel}

-- `select_filter_params`: the pair and the count, or the number of the refusal
abbrev pub params_outcome : Result FilterParams SearchRefusal → Outcome Choice
params_outcome (Ok p) = gives (record { level = p.«pair».«level»; sharpness = p.«pair».«sharpness»; count = p.«count» })
params_outcome (Err r) = refuses (search_refusal_number r)

-- `select_filter_level`: the level and the count, or the number of the refusal
abbrev pub level_only_outcome : Result FilterLevel SearchRefusal → Outcome LevelChoice
level_only_outcome (Ok p) = gives (record { level = p.«level»; count = p.«count» })
level_only_outcome (Err r) = refuses (search_refusal_number r)
