-- A right shift of a negative number rounds down, computed: -1, -8 and -9 shifted by 3, -63 by 7. Assumes nothing.
use mathlib.Core.Path.{◌≡◌, refl}
use mathlib.Core.List.{[], ◌∷◌}
use lib.IntN.{pos, negsuc}
use Rattle.arithmetic.specs.Numbers.{shr}

pub rounds-down : shr (negsuc 0) 3 ∷ shr (negsuc 7) 3 ∷ shr (negsuc 8) 3 ∷ shr (negsuc 62) 7 ∷ shr (pos 9) 3 ∷ [] ≡ negsuc 0 ∷ negsuc 0 ∷ negsuc 1 ∷ negsuc 0 ∷ pos 1 ∷ []
unfolding shr
rounds-down = refl
