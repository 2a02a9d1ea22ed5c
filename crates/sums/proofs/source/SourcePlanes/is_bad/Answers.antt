use Rattle.std.proofs.Common.{sym, ◌∙◌}
use Rattle.sums.specs.SourceRecord.{source_in}
use Rattle.sums.proofs.SumRefusals.{small_strides}
use Rattle.sums.proofs.source.SourcePlanes.is_bad.Goals as goal

pub is_short-requires-clause-strides : goal.is_short-requires-clause-strides
is_short-requires-clause-strides c = small_strides (source_in c.args.self) (sym c.has_bad_strides.ensures ∙ c.if-has_bad_strides.false)
