-- Numbered steps, one after the other. The positions of an edge and the macroblocks of a frame are taken so.
use Rattle.std.specs.Prelude.{ℕ, zero, suc, ◌+◌, ◌≤◌, ◌<◌}

-- The steps `from`, `from` + 1, .. in order, `count` of them.
-- Of a frame's n macroblocks, `steps f 0 k` are document 01's first k: those are begun, and k to n - 1 are not yet begun. What a sample holds after `steps f 0 n` is its final value.
-- "Begun" and "final" are document 01's terms.
unfoldable pub steps : {S : Type 0} → (f : ℕ → S → S) → (from count : ℕ) → S → S
steps f from zero s = s
steps f from (suc count) s = steps f (suc from) count (f from s)

-- What is counted over these steps: at each, `counted` of the state that it meets, as the steps before it left it.
unfoldable pub tally : {S : Type 0} → (f : ℕ → S → S) → (counted : ℕ → S → ℕ) → (from count : ℕ) → S → ℕ
tally f counted from zero s = 0
tally f counted from (suc count) s = counted from s + tally f counted (suc from) count (f from s)

-- no step from k to n - 1 can reach x: of macroblocks, none that is not yet begun
unfoldable pub Clear : {X : Type 0} → (Reach : ℕ → X → Type 0) → (k n : ℕ) → X → Type 0
Clear Reach k n x = (m : ℕ) → k ≤ m → m < n → ¬ Reach m x
