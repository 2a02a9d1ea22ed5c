-- Scratch planes that a call has written in the grid alone take the grid as before. Assumes nothing.
use mathlib.Core.Path.{◌≡◌, refl, ap, ◌∙◌}
use lib.ListN.{length}
use Rattle.planes.specs.GridRefusals.{past_grid}
use Rattle.planes.specs.Planes.{Planes, Grid, plane}
use Rattle.scratch.specs.Copies.{copy_grid}
use Rattle.scratch.specs.Private.Alike.{Alike}
use Rattle.scratch.proofs.CopyLaws.{copied-length, copy-copy, copy-past}

pub alike-copy : (g : Grid) (x t after : Planes) → past_grid g t 0 ≡ 0 → after ≡ copy_grid g x t → Alike g t after
alike-copy g x t after e h = record {
  over = λ p. ap (copy_grid g p) h ∙ copy-copy g p x t e;
  same = ap (λ (z : Planes). past_grid g z 0) h ∙ copy-past g x t;
  lengths = λ q. ap (λ (z : Planes). length (plane q z)) h ∙ copied-length g x t q;
}

pub alike_self : (g : Grid) (t : Planes) → Alike g t t
alike_self g t = record { over = λ p. refl; same = refl; lengths = λ q. refl }

pub alike_then : (g : Grid) (r s t : Planes) → Alike g r s → Alike g s t → Alike g r t
alike_then g r s t a b = record { over = λ p. b.over p ∙ a.over p; same = b.same ∙ a.same; lengths = λ q. b.lengths q ∙ a.lengths q }
