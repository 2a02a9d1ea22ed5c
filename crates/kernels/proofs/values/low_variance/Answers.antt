use Rattle.kernels.specs.Private.Windows.{low_variance}
use Rattle.kernels.proofs.values.low_variance.Goals as goal

pub returns : goal.returns
unfolding low_variance
returns c = cc
