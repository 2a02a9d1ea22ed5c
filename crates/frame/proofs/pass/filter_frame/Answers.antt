use Rattle.std.proofs.Common.{◌≡◌, Err, rules}
use Rattle.planes.specs.Pictures.{planes_lent}
use Rattle.frame.proofs.Passes.{refused, batched, range_of, listed_of}
use Rattle.frame.proofs.pass.filter_frame.Goals as goal

pub returns-in_err-batch-clause-passed : goal.returns-in_err-batch-clause-passed
returns-in_err-batch-clause-passed g c =
    let a = c.args in
    let n = c.lengths-lengths.ensures in
    let told : c.from_residual.result ≡ Err c.in_err-batch.field-0.0 = search rules in
    refused g.E.Entries.pass a.layout (g.E.Entries.carried a.entries) a.config (planes_lent a.picture.now) a.start a.allowance _ _ _ _ n.y_length n.u_length n.v_length
    c.judge_call.ensures _ _ c.in_err-batch.was told

pub filter_range-smoothed-requires-clause-range : goal.filter_range-smoothed-requires-clause-range
filter_range-smoothed-requires-clause-range g c =
    let a = c.args in
    let n = c.lengths-lengths.ensures in
    range_of g.E.Entries.pass a.layout (g.E.Entries.carried a.entries) a.config (planes_lent a.picture.now) a.start a.allowance _
    (batched g.E.Entries.pass a.layout (g.E.Entries.carried a.entries) a.config (planes_lent a.picture.now) a.start a.allowance _ _ _ _ n.y_length n.u_length n.v_length
    c.judge_call.ensures _ c.in_ok-batch.was)

pub filter_range-smoothed-requires-clause-listed : goal.filter_range-smoothed-requires-clause-listed
filter_range-smoothed-requires-clause-listed g c =
    let a = c.args in
    let n = c.lengths-lengths.ensures in
    listed_of g.E.Entries.pass a.layout (g.E.Entries.carried a.entries) a.config (planes_lent a.picture.now) a.start a.allowance _
    (batched g.E.Entries.pass a.layout (g.E.Entries.carried a.entries) a.config (planes_lent a.picture.now) a.start a.allowance _ _ _ _ n.y_length n.u_length n.v_length
    c.judge_call.ensures _ c.in_ok-batch.was)

pub returns-clause-passed : goal.returns-clause-passed
returns-clause-passed g c =
    let a = c.args in
    let n = c.lengths-lengths.ensures in
    let met = batched g.E.Entries.pass a.layout (g.E.Entries.carried a.entries) a.config (planes_lent a.picture.now) a.start a.allowance _ _ _ _ n.y_length n.u_length n.v_length
    c.judge_call.ensures _ c.in_ok-batch.was in
    let r = c.filter_range-smoothed.ensures.ranged in
    met.done c.filter_range-smoothed.result (planes_lent c.filter_range-smoothed.new.picture) r.smoothed r.planes
