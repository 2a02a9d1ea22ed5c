use Rattle.kernels.specs.Private.Windows.{low_variance}
use Rattle.kernels.proofs.Apart.{apart-sym}
use Rattle.kernels.proofs.values.inner_near.Goals as goal

pub returns : goal.returns
unfolding low_variance
returns c = let w = c.args.w in rw (apart-sym w.p1 w.p0, apart-sym w.q1 w.q0) cc
