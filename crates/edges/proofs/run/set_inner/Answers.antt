use Rattle.edges.proofs.RunTurns.{inner-stored}
use Rattle.edges.proofs.run.set_inner.Goals as goal

pub returns : goal.returns
returns g c = inner-stored c.args.n c.args.s c.args.rows.now c.requires.signed
