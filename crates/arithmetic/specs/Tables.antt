-- Lists whose entries follow a rule.
use Rattle.std.specs.Prelude.{List, [], ◌∷◌, ◌++◌, ℕ, zero, suc, drop}

-- g 0, g 1, .., n of them
unfoldable pub table : {A : Type 0} → (n : ℕ) → (ℕ → A) → List A
table zero g = []
table (suc n) g = table n g ++ (g n ∷ [])

-- l, whose length is at least n, with g 0, g 1, .. as its first n entries
unfoldable pub fill : {A : Type 0} → (n : ℕ) → (ℕ → A) → List A → List A
fill n g l = table n g ++ drop n l
