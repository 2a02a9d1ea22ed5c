-- The planes of a call that changes nothing.
use Rattle.std.specs.Prelude.{ℕ, List, EachIndex, ◌≡◌, ◌%◌, slice_index, nat_lt, if◌then◌else◌}

-- the sample at place i: nothing flat, so that filtering shows
abbrev pub stripe_at : ℕ → ℕ
stripe_at i = if nat_lt (i % 7) 3 then 100 else 108

abbrev pub IsStriped : List ℕ → Type 0
IsStriped plane = EachIndex plane (λ i. slice_index plane i ≡ stripe_at i)
