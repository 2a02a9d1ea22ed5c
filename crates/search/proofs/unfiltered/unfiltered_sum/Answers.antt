use Rattle.std.proofs.Common.{◌≡◌, refl, sym, ap, ◌∙◌, Err, arith, rules}
use Rattle.arithmetic.specs.Outcome.{number_of}
use Rattle.planes.specs.Layout.{grid_of}
use Rattle.planes.specs.Pictures.{planes_in}
use Rattle.planes.proofs.PastGrid.{macroblocks-most}
use Rattle.sums.specs.Answers.{sum_outcome}
use Rattle.sums.specs.GridToSearch.{of_grid}
use Rattle.sums.proofs.SumRefusals.{stopped_by_grid, passed_grid, passed_sum}
use Rattle.search.specs.Search.{SearchCall, search_of, search_refusal}
use Rattle.search.proofs.Endings.{small}
use Rattle.search.proofs.Judgements.{refused_by, scratch_stops, entries_refused, summed}
use Rattle.search.proofs.unfiltered.unfiltered_sum.Goals as goal

pub returns-in_err-judge-clause-answer : goal.returns-in_err-judge-clause-answer
unfolding number_of search_refusal
returns-in_err-judge-clause-answer g c =
    let n = c.lengths-lengths.ensures in
    let W = g.E.Entries.pass in
    let a : SearchCall W = search_of W (g.E.Entries.carried c.args.entries) c.args.input (planes_in c.args.scratch) in
    let told : c.from_residual.result ≡ Err (of_grid c.in_err-judge.field-0.0) = search rules in
    ap sum_outcome told
    ∙ refused_by W a _
    (stopped_by_grid a.grid a.reconstruction _ _ _ n.y_length n.u_length n.v_length _ c.judge.ensures.number _ _ (Err (of_grid c.in_err-judge.field-0.0)) c.in_err-judge.was refl)

pub returns-in_err-judge_sum-clause-answer : goal.returns-in_err-judge_sum-clause-answer
unfolding number_of
returns-in_err-judge_sum-clause-answer g c =
    let n = c.lengths-lengths.ensures in
    let W = g.E.Entries.pass in
    let a : SearchCall W = search_of W (g.E.Entries.carried c.args.entries) c.args.input (planes_in c.args.scratch) in
    let told : c.from_residual-in_err-judge_sum.result ≡ Err c.in_err-judge_sum.field-0.0 = search rules in
    let p = passed_grid a.grid a.reconstruction _ _ _ n.y_length n.u_length n.v_length _ c.judge.ensures.number _ c.in_ok-judge.was in
    ap sum_outcome told ∙ refused_by W a _ (scratch_stops W a p _ c.in_err-judge_sum.ensures)

pub judge_entries-requires : goal.judge_entries-requires
judge_entries-requires g c =
    let n = c.lengths-lengths.ensures in
    omega (arith, macroblocks-most _ _ (passed_grid (grid_of c.args.input.«layout») (planes_in c.args.input.«picture») _ _ _ n.y_length n.u_length n.v_length _ c.judge.ensures.number _ c.in_ok-judge.was))

pub returns-in_err-judge_entries-clause-answer : goal.returns-in_err-judge_entries-clause-answer
unfolding number_of
returns-in_err-judge_entries-clause-answer g c =
    let n = c.lengths-lengths.ensures in
    let W = g.E.Entries.pass in
    let a : SearchCall W = search_of W (g.E.Entries.carried c.args.entries) c.args.input (planes_in c.args.scratch) in
    let told : c.from_residual-in_err-judge_entries.result ≡ Err c.in_err-judge_entries.field-0.0 = search rules in
    let p = passed_grid a.grid a.reconstruction _ _ _ n.y_length n.u_length n.v_length _ c.judge.ensures.number _ c.in_ok-judge.was in
    let (t, s) = passed_sum a.grid a.scratch a.source _ c.judge_sum.ensures _ c.in_ok-judge_sum.was in
    ap sum_outcome told ∙ refused_by W a _ (entries_refused W a p t s _ c.in_err-judge_entries.ensures)

pub returns-clause-answer : goal.returns-clause-answer
unfolding number_of
returns-clause-answer g c =
    let n = c.lengths-lengths.ensures in
    let W = g.E.Entries.pass in
    let a : SearchCall W = search_of W (g.E.Entries.carried c.args.entries) c.args.input (planes_in c.args.scratch) in
    let p = passed_grid a.grid a.reconstruction _ _ _ n.y_length n.u_length n.v_length _ c.judge.ensures.number _ c.in_ok-judge.was in
    let (t, s) = passed_sum a.grid a.scratch a.source _ c.judge_sum.ensures _ c.in_ok-judge_sum.was in
    c.reconstruction_ssd.ensures ∙ summed W a p t s (small W a c.are_bytes.ensures c.are_bytes-2.ensures) (sym c.in_ok-judge_entries.ensures)
