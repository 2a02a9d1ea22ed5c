use Rattle.std.proofs.Common.{◌≡◌, sym, ◌∙◌, Err, rules}
use Rattle.planes.specs.Pictures.{planes_lent}
use Rattle.frame_calls.proofs.Framed.{unskipped, skip-refused, skipped}
use Rattle.frame_calls.proofs.frame_call.loop_filter_frame.Goals as goal

pub returns-then-not-is_off-clause-passed : goal.returns-then-not-is_off-clause-passed
returns-then-not-is_off-clause-passed g c =
    let a = c.args in
    unskipped g.E.Entries.pass a.layout (g.E.Entries.carried a.entries) a.config (planes_lent a.picture.now) a.start a.allowance (sym c.is_off.ensures ∙ c.if-not-is_off.true) _ _ c.filter_frame.ensures.passed

pub returns-in_err-batch-clause-passed : goal.returns-in_err-batch-clause-passed
returns-in_err-batch-clause-passed g c =
    let a = c.args in
    let n = c.lengths-lengths.ensures in
    let told : c.from_residual.result ≡ Err c.in_err-batch.field-0.0 = search rules in
    skip-refused g.E.Entries.pass a.layout (g.E.Entries.carried a.entries) a.config (planes_lent a.picture.now) a.start a.allowance _ _ _ _ n.y_length n.u_length n.v_length
    c.judge_call.ensures _ _ c.in_err-batch.was told

pub returns-clause-passed : goal.returns-clause-passed
returns-clause-passed g c =
    let a = c.args in
    let n = c.lengths-lengths.ensures in
    skipped g.E.Entries.pass a.layout (g.E.Entries.carried a.entries) a.config (planes_lent a.picture.now) a.start a.allowance _ _ _ _ n.y_length n.u_length n.v_length
    c.judge_call.ensures (sym c.is_off.ensures ∙ c.if-not-is_off.false) _ c.in_ok-batch.was
