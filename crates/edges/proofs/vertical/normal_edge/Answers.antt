use mathlib.Core.Path.{◌∙◌}
use lib.ListN.{length}
use Rattle.planes.specs.Edges.{vertical}
use Rattle.edges.proofs.EdgeRoom.{room-fits, filtered, counted, left-alone, none-counted}
use Rattle.edges.proofs.NormalKinds.{kind-taps}
use Rattle.edges.proofs.VerticalRows.{missed-rest}
use Rattle.edges.proofs.vertical.normal_edge.Goals as goal

pub returns-then-has_room-clause-plane_after : goal.returns-then-has_room-clause-plane_after
returns-then-has_room-clause-plane_after g c =
    let x = c.args in
    let k = g.E.NormalEdge.kernel x.limits.hev_threshold x.limits.interior_limit (g.E.NormalEdge.edge_limit x.limits) in
    (rw c.limits_of.ensures at c.normal_rows.ensures.plane_after) ∙ filtered vertical k x.place.stride x.place.at g.row.N x.plane.now (c.has_room.ensures ∙ room-fits k 8 x.place.stride x.place.at g.row.N (length x.plane.now) (kind-taps x.limits.hev_threshold x.limits.interior_limit (g.E.NormalEdge.edge_limit x.limits) g.met.E.NormalEdge.kind)) c.if-has_room.true

pub returns-then-has_room-clause-value : goal.returns-then-has_room-clause-value
returns-then-has_room-clause-value g c =
    let x = c.args in
    let k = g.E.NormalEdge.kernel x.limits.hev_threshold x.limits.interior_limit (g.E.NormalEdge.edge_limit x.limits) in
    missed-rest g.row.N _ _ (rw c.limits_of.ensures at c.normal_rows.ensures.missed_after) ∙ counted vertical k x.place.stride x.place.at g.row.N x.plane.now (c.has_room.ensures ∙ room-fits k 8 x.place.stride x.place.at g.row.N (length x.plane.now) (kind-taps x.limits.hev_threshold x.limits.interior_limit (g.E.NormalEdge.edge_limit x.limits) g.met.E.NormalEdge.kind)) c.if-has_room.true

pub returns-else-has_room-clause-plane_after : goal.returns-else-has_room-clause-plane_after
returns-else-has_room-clause-plane_after g c =
    let x = c.args in
    let k = g.E.NormalEdge.kernel x.limits.hev_threshold x.limits.interior_limit (g.E.NormalEdge.edge_limit x.limits) in
    left-alone vertical k x.place.stride x.place.at g.row.N x.plane.now (c.has_room.ensures ∙ room-fits k 8 x.place.stride x.place.at g.row.N (length x.plane.now) (kind-taps x.limits.hev_threshold x.limits.interior_limit (g.E.NormalEdge.edge_limit x.limits) g.met.E.NormalEdge.kind)) c.if-has_room.false

pub returns-else-has_room-clause-value : goal.returns-else-has_room-clause-value
returns-else-has_room-clause-value g c =
    let x = c.args in
    let k = g.E.NormalEdge.kernel x.limits.hev_threshold x.limits.interior_limit (g.E.NormalEdge.edge_limit x.limits) in
    none-counted vertical k x.place.stride x.place.at g.row.N x.plane.now (c.has_room.ensures ∙ room-fits k 8 x.place.stride x.place.at g.row.N (length x.plane.now) (kind-taps x.limits.hev_threshold x.limits.interior_limit (g.E.NormalEdge.edge_limit x.limits) g.met.E.NormalEdge.kind)) c.if-has_room.false
