use Rattle.std.proofs.Common.{◌≡◌, sym, ◌∙◌, Err, rules}
use Rattle.planes.specs.Layout.{grid_of}
use Rattle.planes.specs.Pictures.{planes_in}
use Rattle.planes.proofs.PastGrid.{grid-small, grid-passes}
use Rattle.sums.specs.GridToSearch.{of_grid}
use Rattle.sums.proofs.SumRefusals.{stopped_by_grid, passed_grid}
use Rattle.sums.proofs.sums.judge_sum.Goals as goal

pub returns-in_err-judge : goal.returns-in_err-judge
returns-in_err-judge c =
    let n = c.lengths-lengths.ensures in
    let told : c.from_residual.result ≡ Err (of_grid c.in_err-judge.field-0.0) = search rules in
    stopped_by_grid (grid_of c.args.layout) (planes_in c.args.picture) _ _ _ n.y_length n.u_length n.v_length _ c.judge.ensures.number _ _ _ c.in_err-judge.was told

pub judge-requires-2 : goal.judge-requires-2
judge-requires-2 c =
    let n = c.lengths-lengths.ensures in
    grid-small _ _ (passed_grid (grid_of c.args.layout) (planes_in c.args.picture) _ _ _ n.y_length n.u_length n.v_length _ c.judge.ensures.number _ c.in_ok-judge.was)

pub returns : goal.returns
returns c =
    let n = c.lengths-lengths.ensures in
    c.judge-2.ensures
    ∙ sym (grid-passes _ _ _ (passed_grid (grid_of c.args.layout) (planes_in c.args.picture) _ _ _ n.y_length n.u_length n.v_length _ c.judge.ensures.number _ c.in_ok-judge.was))
