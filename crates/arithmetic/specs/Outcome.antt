-- What a call answers, in document 01's terms: what it gives, or the number of its refusal. Every answer of a call is read through `outcome`.
use Rattle.std.specs.Prelude.{ℕ, Result, Ok, Err}

pub data Outcome (X : Type 0) : Type 0 where
  gives : X → Outcome X
  refuses : ℕ → Outcome X

-- the number that a caller sees, 0 for none
unfoldable pub number_of : {X : Type 0} → Outcome X → ℕ
number_of (gives x) = 0
number_of (refuses n) = n

-- of a call that answers a `Result`, where `number` has the number of each refusal
abbrev pub outcome : {X E : Type 0} → (number : E → ℕ) → Result X E → Outcome X
outcome number (Ok x) = gives x
outcome number (Err e) = refuses (number e)
