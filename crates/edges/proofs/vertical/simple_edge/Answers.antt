use mathlib.Core.Path.{◌∙◌}
use lib.ListN.{length}
use Rattle.planes.specs.Edges.{vertical}
use Rattle.edges.proofs.EdgeRoom.{room-fits, filtered, counted, left-alone, none-counted}
use Rattle.kernels.specs.Segment.{simple_segment}
use Rattle.edges.proofs.EdgeRoom.{simple-four}
use Rattle.edges.proofs.vertical.simple_edge.Goals as goal

pub returns-then-has_room-clause-plane_after : goal.returns-then-has_room-clause-plane_after
returns-then-has_room-clause-plane_after g c =
    let x = c.args in
    let k = simple_segment x.edge_limit in
    c.simple_rows.ensures.plane_after ∙ filtered vertical k x.place.stride x.place.at g.row.N x.plane.now (c.has_room.ensures ∙ room-fits k 4 x.place.stride x.place.at g.row.N (length x.plane.now) (simple-four x.edge_limit)) c.if-has_room.true

pub returns-then-has_room-clause-value : goal.returns-then-has_room-clause-value
returns-then-has_room-clause-value g c =
    let x = c.args in
    let k = simple_segment x.edge_limit in
    c.simple_rows.ensures.value ∙ counted vertical k x.place.stride x.place.at g.row.N x.plane.now (c.has_room.ensures ∙ room-fits k 4 x.place.stride x.place.at g.row.N (length x.plane.now) (simple-four x.edge_limit)) c.if-has_room.true

pub returns-else-has_room-clause-plane_after : goal.returns-else-has_room-clause-plane_after
returns-else-has_room-clause-plane_after g c =
    let x = c.args in
    let k = simple_segment x.edge_limit in
    left-alone vertical k x.place.stride x.place.at g.row.N x.plane.now (c.has_room.ensures ∙ room-fits k 4 x.place.stride x.place.at g.row.N (length x.plane.now) (simple-four x.edge_limit)) c.if-has_room.false

pub returns-else-has_room-clause-value : goal.returns-else-has_room-clause-value
returns-else-has_room-clause-value g c =
    let x = c.args in
    let k = simple_segment x.edge_limit in
    none-counted vertical k x.place.stride x.place.at g.row.N x.plane.now (c.has_room.ensures ∙ room-fits k 4 x.place.stride x.place.at g.row.N (length x.plane.now) (simple-four x.edge_limit)) c.if-has_room.false
