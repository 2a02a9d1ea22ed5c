use Rattle.frame.specs.Private.PlaneEdges.{plane_from}
use Rattle.frame.proofs.EdgesWithin.{did_then}
use Rattle.frame.proofs.plane.filter_plane.Goals as goal

pub returns : goal.returns
unfolding plane_from
returns g c = did_then (did_then (did_then c.left-a.ensures c.inner_vertical.ensures) c.top.ensures) c.inner_horizontal.ensures
