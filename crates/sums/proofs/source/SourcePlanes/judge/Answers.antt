use Rattle.std.proofs.Common.{sym, ap, ◌∙◌, Bool, cond, refl}
use Rattle.arithmetic.specs.Outcome.{number_of}
use Rattle.planes.specs.Layout.{grid_of}
use Rattle.sums.specs.SourceRecord.{source_in}
use Rattle.sums.proofs.SumRefusals.{eight, no-sample, is-source, small_source}
use Rattle.sums.proofs.source.SourcePlanes.judge.Goals as goal

pub returns-then-is_too_large : goal.returns-then-is_too_large
unfolding number_of
returns-then-is_too_large c = eight _ _ (sym c.is_too_large.ensures ∙ c.if-is_too_large.true)

pub returns-then-is_empty : goal.returns-then-is_empty
unfolding number_of
returns-then-is_empty c = no-sample _ _ (sym c.is_too_large.ensures ∙ c.if-is_too_large.false) (sym c.is_empty.ensures ∙ c.if-is_empty.true)

pub is_bad-requires : goal.is_bad-requires
is_bad-requires c =
    small_source (grid_of c.args.layout) (source_in c.args.self) _ _ refl refl c.requires (sym c.is_too_large.ensures ∙ c.if-is_too_large.false) (sym c.is_empty.ensures ∙ c.if-is_empty.false)

pub returns-then-is_bad : goal.returns-then-is_bad
unfolding number_of
returns-then-is_bad c =
    ap (λ (b : Bool). cond b 9 0) (sym c.if-is_bad.true)
    ∙ is-source _ _ (sym c.is_too_large.ensures ∙ c.if-is_too_large.false) (sym c.is_empty.ensures ∙ c.if-is_empty.false) _ c.is_bad.ensures

pub returns : goal.returns
unfolding number_of
returns c =
    ap (λ (b : Bool). cond b 9 0) (sym c.if-is_bad.false)
    ∙ is-source _ _ (sym c.is_too_large.ensures ∙ c.if-is_too_large.false) (sym c.is_empty.ensures ∙ c.if-is_empty.false) _ c.is_bad.ensures
