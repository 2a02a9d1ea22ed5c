-- A fact of every element of a list; and a test that passes.
use mathlib.Core.Bool.{Bool, true, false}
use mathlib.Core.List.{List, [], ◌∷◌, ◌++◌}
use lib.Dec.{T}
use Rattle.planes.specs.Macroblock.{only}

infixr 60 ◌&◌
pub data All {A : Type 0} (P : A → Type 0) : List A → Type 0 where
  none : All P []
  ◌&◌ : {x : A} {xs : List A} → P x → All P xs → All P (x ∷ xs)

pub all_append : {A : Type 0} {P : A → Type 0} {xs ys : List A} → All P xs → All P ys → All P (xs ++ ys)
all_append none b = b
all_append (p & a) b = p & all_append a b

pub all-only : {A : Type 0} {P : A → Type 0} (b : Bool) {l : List A} → (T b → All P l) → All P (only b l)
unfolding only
all-only true h = h tt
all-only false h = none

pub all_map : {A : Type 0} {P Q : A → Type 0} {xs : List A} → ((x : A) → P x → Q x) → All P xs → All Q xs
all_map f none = none
all_map f (◌&◌ {x = x} p ps) = f x p & all_map f ps
