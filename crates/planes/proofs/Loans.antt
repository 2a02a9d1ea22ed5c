-- A picture that is lent on keeps its loans.
use Rattle.std.proofs.Common.{refl, ◌∙◌}
use Rattle.planes.specs.declared.picture.PictureMut.{PictureMut}
use Rattle.planes.specs.Pictures.{SameLoans}

pub own_loans : (p : PictureMut) → SameLoans p p
own_loans p = record { y = refl; u = refl; v = refl }

pub loans_on : (p q r : PictureMut) → SameLoans p q → SameLoans q r → SameLoans p r
loans_on p q r a b = record { y = b.y ∙ a.y; u = b.u ∙ a.u; v = b.v ∙ a.v }
