use Rattle.kernels.specs.Private.Taps.{outer_near}
use Rattle.kernels.proofs.taps.outer_near.Goals as goal

pub returns : goal.returns
unfolding outer_near
returns c = cc
