-- The planes of a picture that is lent, for reading or for writing.
use Rattle.std.specs.Prelude.{◌≡◌}
use Rattle.planes.specs.Planes.{Planes}
use Rattle.planes.specs.Layout.{planes_of}
use Rattle.planes.specs.declared.picture.Picture.{Picture}
use Rattle.planes.specs.declared.picture.PictureMut.{PictureMut}

abbrev pub planes_in : Picture → Planes
planes_in p = planes_of p.y.now p.u.now p.v.now

abbrev pub planes_lent : PictureMut → Planes
planes_lent p = planes_of p.y.now p.u.now p.v.now

-- a picture that is lent on still holds the same three loans, so that what is written into it is written into the lender's planes
pub record SameLoans (p q : PictureMut) : Type 0 where
  pub y : q.y.ghost_name ≡ p.y.ghost_name
  pub u : q.u.ghost_name ≡ p.u.ghost_name
  pub v : q.v.ghost_name ≡ p.v.ghost_name
