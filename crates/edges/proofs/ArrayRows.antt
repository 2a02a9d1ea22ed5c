-- What an array of arrays by value says of itself: how many rows it has, and how long each is.
use mathlib.Core.Path.{◌≡◌}
use mathlib.Core.List.{List, [], ◌∷◌}
use Prim.Native.Nat.{ℕ, zero, suc, ◌<◌}
use native.Mathlib.Omega.{arith}
use lib.ListN.{length, get_or}
use lib.IntN.{ℤ}
use mir.Syntax.{Width, w16}
use mir.Val.{Val}
use denote.Array.{Array, each}
use denote.Signed.{SInt}
use denote.Shadow.{shadow}

rows_long : (w : Width) (n : ℕ) (t : List (List ℤ)) (us : List Val) (k : ℕ) → k < length t → shadow (each (List ℤ) (Array (SInt w) n).own_val t us) → length (get_or t k []) ≡ n
rows_long w n [] us k h p = omega arith
rows_long w n (x ∷ t) [] k h p = absurd p
rows_long w n (x ∷ t) (u ∷ us) zero h p = p.0.1.0.1
rows_long w n (x ∷ t) (u ∷ us) (suc k) h p = rows_long w n t us k (omega arith) p.1

pub row-long : (m n : ℕ) (t : List (List ℤ)) (vs : List Val) → shadow ((Array (Array (SInt w16) n) m).own_val t vs) → (k : ℕ) → k < m → length (get_or t k []) ≡ n
row-long m n t vs p k h = rows_long w16 n t p.0 k (omega (arith, p.1.0.1)) p.1.1

pub rows-many : (m n : ℕ) (t : List (List ℤ)) (vs : List Val) → shadow ((Array (Array (SInt w16) n) m).own_val t vs) → length t ≡ m
rows-many m n t vs p = p.1.0.1
