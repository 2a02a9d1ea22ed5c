-- What a level call answers, in document 01's terms. It gives refusal 6 alone.
use Rattle.std.specs.Prelude.{ℕ, Result}
use Rattle.arithmetic.specs.Outcome.{Outcome, outcome}
use Rattle.levels.specs.declared.answers.LevelRefusal.{LevelRefusal}
use Rattle.levels.specs.declared.answers.LevelRefusal.TheVariants.{BadEntry}

-- document 01's number
abbrev pub level_refusal_number : LevelRefusal → ℕ
level_refusal_number BadEntry = 6

-- the level, or 6
abbrev pub level_outcome : Result ℕ LevelRefusal → Outcome ℕ
level_outcome r = outcome level_refusal_number r
