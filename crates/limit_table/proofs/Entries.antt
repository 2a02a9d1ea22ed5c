-- The table of interior limits, entry by entry.
use mathlib.Core.Path.{◌≡◌, refl, ap, ◌∙◌}
use mathlib.Core.List.{List, []}
use Prim.Native.Nat.{ℕ, ◌<◌}
use lib.ListN.{get_or}
use Rattle.arithmetic.specs.Limits.{interior_limit}
use Rattle.arithmetic.proofs.Tables.{get_or-table}
use Rattle.limit_table.specs.InteriorLimits.{interior_limits}

-- each entry of a table that passes the test is the derivation's limit
pub entry : (t : List (List ℕ)) → t ≡ interior_limits → (s l : ℕ) → s < 8 → l < 64 → get_or (get_or t s []) l 0 ≡ interior_limit l s
unfolding interior_limits
entry t e s l hs hl =
    ap (λ (x : List (List ℕ)). get_or (get_or x s []) l 0) e
    ∙ ap (λ (row : List ℕ). get_or row l 0) (get_or-table 8 _ s [] hs)
    ∙ get_or-table 64 _ l 0 hl

-- the same of the table itself
pub entry_of_table : (s l : ℕ) → s < 8 → l < 64 → get_or (get_or interior_limits s []) l 0 ≡ interior_limit l s
entry_of_table s l hs hl = entry interior_limits refl s l hs hl
