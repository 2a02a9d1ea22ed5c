use Rattle.std.proofs.Common.{◌≡◌, sym, ap, ◌∙◌, Err, rules}
use Rattle.planes.specs.Layout.{grid_of}
use Rattle.planes.specs.Pictures.{planes_in}
use Rattle.sums.specs.Answers.{sum_outcome}
use Rattle.sums.specs.SourceRecord.{source_in}
use Rattle.sums.proofs.SumRefusals.{stopped_sum, passed_sum, sampled_source, none-sums, summable, ends-sum, ends-empty}
use Rattle.sums.proofs.sums.reconstruction_ssd.Goals as goal

pub returns-in_err-judge_sum : goal.returns-in_err-judge_sum
returns-in_err-judge_sum c =
    let told : c.from_residual.result ≡ Err c.in_err-judge_sum.field-0.0 = search rules in
    stopped_sum (grid_of c.args.layout) (planes_in c.args.picture) (source_in c.args.source) _ c.judge_sum.ensures _ _ c.in_err-judge_sum.was told

pub returns-then-is_empty : goal.returns-then-is_empty
returns-then-is_empty c =
    let k = passed_sum (grid_of c.args.layout) (planes_in c.args.picture) (source_in c.args.source) _ c.judge_sum.ensures _ c.in_ok-judge_sum.was in
    ends-empty (grid_of c.args.layout) (planes_in c.args.picture) (source_in c.args.source) k.0 k.1 (none-sums _ _ _ (sym c.is_empty.ensures ∙ c.if-is_empty.true))

pub three_sums-requires : goal.three_sums-requires
three_sums-requires c =
    let k = passed_sum (grid_of c.args.layout) (planes_in c.args.picture) (source_in c.args.source) _ c.judge_sum.ensures _ c.in_ok-judge_sum.was in
    let n = sampled_source (source_in c.args.source) (sym c.is_empty.ensures ∙ c.if-is_empty.false) in
    summable (grid_of c.args.layout) (planes_in c.args.picture) (source_in c.args.source) k.0 k.1 n.0 n.1

pub returns : goal.returns
returns c =
    let k = passed_sum (grid_of c.args.layout) (planes_in c.args.picture) (source_in c.args.source) _ c.judge_sum.ensures _ c.in_ok-judge_sum.was in
    ap sum_outcome c.three_sums.ensures ∙ ends-sum (grid_of c.args.layout) (planes_in c.args.picture) (source_in c.args.source) k.0 k.1
