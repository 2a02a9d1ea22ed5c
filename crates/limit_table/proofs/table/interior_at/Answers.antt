use Rattle.std.proofs.Common.{◌<◌, [], get_or, ◌∙◌, rules}
use Rattle.limit_table.proofs.Entries.{entry}
use Rattle.limit_table.proofs.table.interior_at.Goals as goal

pub returns : goal.returns
returns c =
    let level : c.args.level < 64 = search rules in
    let sharpness : c.args.sharpness < 8 = search rules in
    (λ i. get_or (get_or c.table.result.now (c.from.ensures i) []) (c.from-2.ensures i) 0) ∙ entry _ c.table.ensures c.args.sharpness c.args.level sharpness level
