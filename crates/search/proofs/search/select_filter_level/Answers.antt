use Rattle.std.proofs.Common.{◌≡◌, ap, ◌∙◌, Err, rules}
use Rattle.search.specs.Search.{level_only}
use Rattle.search.specs.Answers.{level_only_outcome}
use Rattle.search.proofs.search.select_filter_level.Goals as goal

pub returns-in_err-params-clause-searched : goal.returns-in_err-params-clause-searched
unfolding level_only
returns-in_err-params-clause-searched g c =
    let told : c.from_residual.result ≡ Err c.in_err-params.field-0.0 = search rules in
    let s = c.in_err-params.ensures.searched in
    record { answer = ap level_only_outcome told ∙ ap level_only s.answer; scratch = s.scratch }

pub returns-clause-searched : goal.returns-clause-searched
unfolding level_only
returns-clause-searched g c =
    let s = c.in_ok-params.ensures.searched in
    record { answer = ap level_only s.answer; scratch = s.scratch }
