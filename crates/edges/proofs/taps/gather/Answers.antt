use Rattle.std.proofs.Common.{rules, pos}
use Rattle.edges.specs.Private.Runs.{row_at}
use Rattle.edges.proofs.MadeRows.{made-from}
use Rattle.edges.proofs.taps.gather.Goals as goal

pub returns : goal.returns
unfolding row_at
returns g c = made-from _ _ _ _ (pos 0) (λ i y q k. (search (rules, k), search (rules, k))) _ c.from_fn.ensures.items
