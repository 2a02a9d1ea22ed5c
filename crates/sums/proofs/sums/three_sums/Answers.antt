use Rattle.std.proofs.Common.{◌≡◌, sym, ◌∙◌, Err, ◌+◌, rules}
use Rattle.sums.specs.Sums.{error_sum, plane_sum, rows_sum}
use Rattle.sums.specs.Private.SumCode.{fitting}
use Rattle.sums.proofs.SumLaws.{over-one, over-two, all_three}
use Rattle.sums.proofs.SumRefusals.{half_is}
use Rattle.sums.proofs.sums.three_sums.Goals as goal

pub returns-in_err-y : goal.returns-in_err-y
unfolding error_sum plane_sum
returns-in_err-y c =
    let told : c.from_residual.result ≡ Err c.in_err-y.field-0.0 = search rules in
    told ∙ over-one _ _ _ _ (sym c.in_err-y.was ∙ c.plane_sum.ensures)

pub returns-in_err-u : goal.returns-in_err-u
unfolding error_sum plane_sum
returns-in_err-u c =
    let told : c.from_residual-in_err-u.result ≡ Err c.in_err-u.field-0.0 = search rules in
    let x = c.args in
    let w = c.div_ceil-width.ensures ∙ half_is x.source.width in
    let h = c.div_ceil-height.ensures ∙ half_is x.source.height in
    told
    ∙ over-two _ _ _ _ _ (sym c.in_ok-y.was ∙ c.plane_sum.ensures)
    (sym c.in_err-u.was ∙ c.plane_sum-2.ensures ∙ (λ i. fitting (c.in_ok-y.y + rows_sum x.picture.u.now x.layout.uv_stride x.source.u.now x.source.uv_stride (w i) (h i))))

pub returns : goal.returns
unfolding error_sum plane_sum
returns c =
    let x = c.args in
    let w = c.div_ceil-width.ensures ∙ half_is x.source.width in
    let h = c.div_ceil-height.ensures ∙ half_is x.source.height in
    all_three _ _ _ _ _ _ (sym c.in_ok-y.was ∙ c.plane_sum.ensures)
    (sym c.in_ok-u.was ∙ c.plane_sum-2.ensures ∙ (λ i. fitting (c.in_ok-y.y + rows_sum x.picture.u.now x.layout.uv_stride x.source.u.now x.source.uv_stride (w i) (h i))))
    (c.plane_sum-3.ensures ∙ (λ i. fitting (c.in_ok-u.u + rows_sum x.picture.v.now x.layout.uv_stride x.source.v.now x.source.uv_stride (w i) (h i))))
