use Rattle.std.proofs.Common.{refl}
use Rattle.kernels.specs.Private.Taps.{near_of}
use Rattle.kernels.proofs.taps.near_of.Goals as goal

pub returns : goal.returns
unfolding near_of
returns c = refl
