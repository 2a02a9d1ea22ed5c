-- Planes whose samples are bytes, as every lent plane's are.
use Rattle.std.specs.Prelude.{List, ℕ, ◌<◌, get_or}
use Rattle.planes.specs.Planes.{Plane, Planes, plane}

unfoldable pub Bytes : List ℕ → Type 0
Bytes l = (i : ℕ) → get_or l i 0 < 256

unfoldable pub BytePlanes : Planes → Type 0
BytePlanes p = (q : Plane) → Bytes (plane q p)
