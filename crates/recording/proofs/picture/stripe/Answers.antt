use Rattle.std.proofs.Common.{rules}
use Rattle.recording.proofs.picture.stripe.Goals as goal

pub returns : goal.returns
returns g c i below = search (rules, c.from_fn.ensures.items.at i 0 (search rules))
