-- Arrays that `array::from_fn` makes of a closure that changes nothing.
-- Assumes nothing.
use Rattle.std.proofs.Common.{◌≡◌, ℕ, zero, suc, ◌+◌, ◌<◌, List, get_or, sym, ap, ◌∙◌, subst, arith}
use Rattle.std.specs.Array.{IsFromFnResult, IsFromFnResultFrom}
use Rattle.std.proofs.lemmas.List.{same_lists, get_or_default}
use denote.Param.Members.{Mut, Called}
use Rattle.arithmetic.specs.Tables.{table}
use Rattle.arithmetic.proofs.Tables.{length-table, get_or-table}

module _ {F B : Type 0} (m : Mut F (ℕ × Unit {0}) B) (f : F) (ys : List B) (h : ℕ → B) (d : B)
    (gives : (i : ℕ) (y : B) (q : F) → Called m f (i, tt) y q → (y ≡ h i) × (q ≡ f)) where
  from : (n i : ℕ) → IsFromFnResultFrom m f ys i n → (j : ℕ) → j < n → get_or ys (i + j) d ≡ h (i + j)
  from zero i r j b = absurd (omega arith)
  from (suc n) i (q, y, e, c, r) zero b = ap (λ (t : ℕ). get_or ys t d) (omega arith) ∙ e.1 d ∙ (gives i y q c).0 ∙ ap h (omega arith)
  from (suc n) i (q, y, e, c, r) (suc j) b =
      let r' : IsFromFnResultFrom m f ys (i + 1) n = subst (λ (p : F). IsFromFnResultFrom m p ys (i + 1) n) (gives i y q c).1 r in
      ap (λ (t : ℕ). get_or ys t d) (omega arith) ∙ from n (i + 1) r' j (omega (arith, b)) ∙ ap h (omega arith)

  -- the elements are those that the rule gives
  pub made-from : (n : ℕ) → IsFromFnResult m f ys n → ys ≡ table n h
  made-from n r =
      same_lists ys (table n h) (r.long ∙ sym (length-table n h))
      (λ k e b. get_or_default ys k e d b ∙ ap (λ (t : ℕ). get_or ys t d) (omega arith) ∙ from n 0 r.each k (omega (arith, r.long)) ∙ ap h (omega arith) ∙ sym (get_or-table n h k e (omega (arith, r.long))))
