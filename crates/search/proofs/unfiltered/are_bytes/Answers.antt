use Rattle.search.proofs.Scores.{byte-planes}
use Rattle.search.proofs.unfiltered.are_bytes.Goals as goal

pub returns : goal.returns
returns c = byte-planes _ _ _ c.type_inv.y c.type_inv.u c.type_inv.v
