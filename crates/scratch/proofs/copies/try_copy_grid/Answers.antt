use Rattle.std.proofs.Common.{◌≡◌, sym, ◌∙◌, Err, rules}
use Rattle.arithmetic.specs.Outcome.{number_of}
use Rattle.planes.specs.Pictures.{planes_in, planes_lent}
use Rattle.planes.proofs.PastGrid.{grid-passes}
use Rattle.scratch.proofs.CopyLaws.{judged-stops, judged-refuses, judged-passes, not-copied, copied}
use Rattle.scratch.proofs.copies.try_copy_grid.Goals as goal

-- the planes are refused
pub returns-in_err-judge-clause-number : goal.returns-in_err-judge-clause-number
returns-in_err-judge-clause-number c =
    let l = c.lengths-lent.ensures in
    let e : c.from_residual.result ≡ Err c.in_err-judge.field-0.0 = search rules in
    judged-stops _ (planes_in c.args.picture) _ _ _ l.y_length l.u_length l.v_length _ c.judge.ensures.number _ _ _ c.in_err-judge.was e

pub returns-in_err-judge-clause-copied : goal.returns-in_err-judge-clause-copied
returns-in_err-judge-clause-copied c =
    let l = c.lengths-lent.ensures in
    not-copied _ (planes_in c.args.picture) _ (judged-refuses _ _ _ _ _ l.y_length l.u_length l.v_length _ c.judge.ensures.number _ _ c.in_err-judge.was)

-- the planes pass
pub returns-in_err-judge-2-clause-number : goal.returns-in_err-judge-2-clause-number
returns-in_err-judge-2-clause-number c =
    let l = c.lengths-lent.ensures in
    let h = c.lengths-held.ensures in
    let e : c.from_residual-in_err-judge-2.result ≡ Err c.in_err-judge-2.field-0.0 = search rules in
    let p = judged-passes _ (planes_in c.args.picture) _ _ _ l.y_length l.u_length l.v_length _ c.judge.ensures.number c.in_ok-judge.was in
    judged-stops _ (planes_lent c.args.scratch.now) _ _ _ h.y_length h.u_length h.v_length _ c.judge-2.ensures.number 0 _ _ c.in_err-judge-2.was e
    ∙ sym (grid-passes _ _ _ p)

pub returns-in_err-judge-2-clause-copied : goal.returns-in_err-judge-2-clause-copied
returns-in_err-judge-2-clause-copied c =
    let l = c.lengths-lent.ensures in
    let h = c.lengths-held.ensures in
    let p = judged-passes _ (planes_in c.args.picture) _ _ _ l.y_length l.u_length l.v_length _ c.judge.ensures.number c.in_ok-judge.was in
    not-copied _ (planes_in c.args.picture) _
    (λ z. judged-refuses _ (planes_lent c.args.scratch.now) _ _ _ h.y_length h.u_length h.v_length _ c.judge-2.ensures.number 0 _ c.in_err-judge-2.was (sym (grid-passes _ _ _ p) ∙ z))

-- both pass
pub copy_planes-requires : goal.copy_planes-requires
copy_planes-requires c =
    let l = c.lengths-lent.ensures in
    let h = c.lengths-held.ensures in
    record {
      lent = judged-passes _ (planes_in c.args.picture) _ _ _ l.y_length l.u_length l.v_length _ c.judge.ensures.number c.in_ok-judge.was;
      scratch = judged-passes _ (planes_lent c.args.scratch.now) _ _ _ h.y_length h.u_length h.v_length _ c.judge-2.ensures.number c.in_ok-judge-2.was;
    }

pub returns-clause-number : goal.returns-clause-number
unfolding number_of
returns-clause-number c =
    let l = c.lengths-lent.ensures in
    let h = c.lengths-held.ensures in
    let p = judged-passes _ (planes_in c.args.picture) _ _ _ l.y_length l.u_length l.v_length _ c.judge.ensures.number c.in_ok-judge.was in
    let t = judged-passes _ (planes_lent c.args.scratch.now) _ _ _ h.y_length h.u_length h.v_length _ c.judge-2.ensures.number c.in_ok-judge-2.was in
    sym (grid-passes _ _ _ p ∙ t)

pub returns-clause-copied : goal.returns-clause-copied
returns-clause-copied c =
    let l = c.lengths-lent.ensures in
    let h = c.lengths-held.ensures in
    let p = judged-passes _ (planes_in c.args.picture) _ _ _ l.y_length l.u_length l.v_length _ c.judge.ensures.number c.in_ok-judge.was in
    let t = judged-passes _ (planes_lent c.args.scratch.now) _ _ _ h.y_length h.u_length h.v_length _ c.judge-2.ensures.number c.in_ok-judge-2.was in
    c.copy_planes.ensures.copied ∙ sym (copied _ _ _ p t)
