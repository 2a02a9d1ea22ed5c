use Rattle.kernels.specs.Private.Windows.{neighbours_near}
use Rattle.kernels.proofs.values.neighbours_near.Goals as goal

pub returns : goal.returns
unfolding neighbours_near
returns c = cc
