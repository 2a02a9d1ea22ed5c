use Rattle.std.proofs.Common.{◌≡◌, refl, sym, ap, subst, ◌∙◌, Result, Err, rules}
use Rattle.planes.specs.Pictures.{planes_lent}
use Rattle.planes.specs.Planes.{Planes}
use Rattle.sums.specs.declared.answers.SearchRefusal.{SearchRefusal}
use Rattle.search.specs.Answers.{params_outcome}
use Rattle.search.specs.declared.answers.FilterParams.{FilterParams}
use Rattle.search.specs.Search.{SearchCall, search_of, unfiltered_answer, Searched}
use Rattle.search.proofs.Endings.{refused, started, chosen}
use Rattle.search.proofs.Judgements.{accepted-ready}
use Rattle.search.proofs.search.select_filter_params.Goals as goal

pub returns-in_err-sum-clause-searched : goal.returns-in_err-sum-clause-searched
returns-in_err-sum-clause-searched g c =
    let W = g.E.Entries.pass in
    let over : (t : Planes) → SearchCall W = λ t. search_of W (g.E.Entries.carried c.args.entries) c.args.input t in
    let told : c.from_residual.result ≡ Err c.in_err-sum.field-0.0 = search rules in
    subst (λ (r : Result FilterParams SearchRefusal). Searched W (over (planes_lent c.args.scratch.now)) (params_outcome r) (planes_lent c.args.scratch.now)) (sym told)
    (refused W (over (planes_lent c.args.scratch.now)) _ _ (c.in_err-sum.ensures.answer ∙ ap (λ (t : Planes). unfiltered_answer W (over t)) c.read-lent.ensures) refl)

pub search_all-best-requires : goal.search_all-best-requires
search_all-best-requires g c =
    let W = g.E.Entries.pass in
    let over : (t : Planes) → SearchCall W = λ t. search_of W (g.E.Entries.carried c.args.entries) c.args.input t in
    let (accepted, sum) = started W (over (planes_lent c.args.scratch.now)) _ (c.in_ok-sum.ensures.answer ∙ ap (λ (t : Planes). unfiltered_answer W (over t)) c.read-lent.ensures) in
    record { ready = accepted-ready W (over (planes_lent c.args.scratch.now)) c.unfiltered_sum.ensures.bytes.0 c.unfiltered_sum.ensures.bytes.1 accepted; sum_value = sum }

pub returns-clause-searched : goal.returns-clause-searched
returns-clause-searched g c =
    let W = g.E.Entries.pass in
    let over : (t : Planes) → SearchCall W = λ t. search_of W (g.E.Entries.carried c.args.entries) c.args.input t in
    let (accepted, sum) = started W (over (planes_lent c.args.scratch.now)) _ (c.in_ok-sum.ensures.answer ∙ ap (λ (t : Planes). unfiltered_answer W (over t)) c.read-lent.ensures) in
    chosen W (over (planes_lent c.args.scratch.now)) accepted _ _ c.search_all-best.ensures.ended
