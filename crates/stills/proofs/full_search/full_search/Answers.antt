use Rattle.std.proofs.Common.{◌≡◌, refl, sym, ap, subst, ◌∙◌, Result, Err, rules}
use Rattle.planes.specs.Pictures.{planes_lent}
use Rattle.planes.specs.Planes.{Planes}
use Rattle.sums.specs.declared.answers.SearchRefusal.{SearchRefusal}
use Rattle.stills.specs.Answers.{full_outcome}
use Rattle.stills.specs.FullSearch.{FullSearched}
use Rattle.stills.specs.declared.answers.Best.{Best}
use Rattle.search.specs.Search.{SearchCall, search_of, unfiltered_answer}
use Rattle.search.proofs.Endings.{started}
use Rattle.stills.proofs.Pairs.{refused, chosen}
use Rattle.search.proofs.Judgements.{accepted-ready}
use Rattle.stills.proofs.full_search.full_search.Goals as goal

pub returns-in_err-sum-clause-searched : goal.returns-in_err-sum-clause-searched
returns-in_err-sum-clause-searched g c =
    let W = g.E.Entries.pass in
    let over : (t : Planes) → SearchCall W = λ t. search_of W (g.E.Entries.carried c.args.entries) c.args.input t in
    let told : c.from_residual.result ≡ Err c.in_err-sum.field-0.0 = search rules in
    subst (λ (r : Result Best SearchRefusal). FullSearched W (over (planes_lent c.args.scratch.now)) (full_outcome r) (planes_lent c.args.scratch.now)) (sym told)
    (refused W (over (planes_lent c.args.scratch.now)) _ _ (c.in_err-sum.ensures.answer ∙ ap (λ (t : Planes). unfiltered_answer W (over t)) c.read-lent.ensures) refl)

pub find_best-requires : goal.find_best-requires
find_best-requires g c =
    let W = g.E.Entries.pass in
    let over : (t : Planes) → SearchCall W = λ t. search_of W (g.E.Entries.carried c.args.entries) c.args.input t in
    let (accepted, sum) = started W (over (planes_lent c.args.scratch.now)) _ (c.in_ok-sum.ensures.answer ∙ ap (λ (t : Planes). unfiltered_answer W (over t)) c.read-lent.ensures) in
    record { ready = accepted-ready W (over (planes_lent c.args.scratch.now)) c.unfiltered_sum.ensures.bytes.0 c.unfiltered_sum.ensures.bytes.1 accepted; sum_value = sum }

pub returns-clause-searched : goal.returns-clause-searched
returns-clause-searched g c =
    let W = g.E.Entries.pass in
    let over : (t : Planes) → SearchCall W = λ t. search_of W (g.E.Entries.carried c.args.entries) c.args.input t in
    let (accepted, sum) = started W (over (planes_lent c.args.scratch.now)) _ (c.in_ok-sum.ensures.answer ∙ ap (λ (t : Planes). unfiltered_answer W (over t)) c.read-lent.ensures) in
    chosen W (over (planes_lent c.args.scratch.now)) accepted _ _ c.find_best.ensures.ended
