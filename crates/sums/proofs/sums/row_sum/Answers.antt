use Rattle.std.proofs.Common.{[], ◌∷◌, length, get_or, zero-add, ℕ, sym, ap, ap₂, ◌∙◌, arith, rules, length-append}
use Rattle.std.proofs.lemmas.Slice.Zip.{zip_turn}
use Rattle.sums.specs.Sums.{squared, row_sum}
use Rattle.sums.proofs.SumLaws.{row-none, row_more}
use Rattle.sums.proofs.sums.row_sum.Goals as goal

pub loop-x-init : goal.loop-x-init
loop-x-init c = (omega arith, omega arith, row-none _ _ _ _)

pub loop-x-preserved : goal.loop-x-preserved
loop-x-preserved c =
    let a = c.args.a.now in
    let b = c.args.b.now in
    let k = length c.loop-x.yielded in
    let t = zip_turn a b c.loop-x.yielded c.into_iter-x-iterator.result c.loop-x.x-iterator c.next.new.self _ (search rules) (search rules) c.loop-x.yielded_by (c.in-Some.x, c.in-Some.y) c.in-Some.is c.next.ensures.steps in
    let longer = length-append c.loop-x.yielded ((c.in-Some.x, c.in-Some.y) ∷ []) in
    let more = c.squared_difference-sum.ensures.value ∙ ap₂ squared (t.2 0) (t.3 0) ∙ ap (λ (n : ℕ). squared (get_or a n 0) (get_or b n 0)) (sym (zero-add k)) in (
      omega (arith, longer, t.0),
      omega (arith, longer, c.loop-x.invariant.1, c.squared_difference-sum.ensures.bound),
      row_more a 0 b 0 k _ _ c.loop-x.invariant.2 more ∙ ap (λ (n : ℕ). row_sum a 0 b 0 n) (sym longer),
    )
