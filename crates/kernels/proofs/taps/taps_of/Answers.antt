use Rattle.std.proofs.Common.{refl}
use Rattle.kernels.specs.Private.Taps.{taps_of}
use Rattle.kernels.proofs.taps.taps_of.Goals as goal

pub returns : goal.returns
unfolding taps_of
returns c = refl
