use mathlib.Core.Path.{◌∙◌}
use lib.ListN.{length}
use Rattle.planes.specs.Edges.{horizontal}
use Rattle.edges.proofs.EdgeRoom.{rows-fit, filtered, counted, left-alone, none-counted}
use Rattle.edges.proofs.NormalKinds.{kind-taps}
use Rattle.edges.proofs.horizontal.normal_edge.Goals as goal

pub returns-then-has_rows-clause-plane_after : goal.returns-then-has_rows-clause-plane_after
returns-then-has_rows-clause-plane_after g c =
    let x = c.args in
    let k = g.E.NormalEdge.kernel x.limits.hev_threshold x.limits.interior_limit (g.E.NormalEdge.edge_limit x.limits) in
    (rw c.limits_of.ensures at c.normal_rows.ensures.plane_after) ∙ filtered horizontal k x.place.stride x.place.at g.row.N x.plane.now (c.has_rows.ensures ∙ rows-fit k 8 x.place.stride x.place.at g.row.N (length x.plane.now) (kind-taps x.limits.hev_threshold x.limits.interior_limit (g.E.NormalEdge.edge_limit x.limits) g.met.E.NormalEdge.kind)) c.if-has_rows.true

pub returns-then-has_rows-clause-value : goal.returns-then-has_rows-clause-value
returns-then-has_rows-clause-value g c =
    let x = c.args in
    let k = g.E.NormalEdge.kernel x.limits.hev_threshold x.limits.interior_limit (g.E.NormalEdge.edge_limit x.limits) in
    (rw c.limits_of.ensures at c.normal_rows.ensures.value) ∙ counted horizontal k x.place.stride x.place.at g.row.N x.plane.now (c.has_rows.ensures ∙ rows-fit k 8 x.place.stride x.place.at g.row.N (length x.plane.now) (kind-taps x.limits.hev_threshold x.limits.interior_limit (g.E.NormalEdge.edge_limit x.limits) g.met.E.NormalEdge.kind)) c.if-has_rows.true

pub returns-else-has_rows-clause-plane_after : goal.returns-else-has_rows-clause-plane_after
returns-else-has_rows-clause-plane_after g c =
    let x = c.args in
    let k = g.E.NormalEdge.kernel x.limits.hev_threshold x.limits.interior_limit (g.E.NormalEdge.edge_limit x.limits) in
    left-alone horizontal k x.place.stride x.place.at g.row.N x.plane.now (c.has_rows.ensures ∙ rows-fit k 8 x.place.stride x.place.at g.row.N (length x.plane.now) (kind-taps x.limits.hev_threshold x.limits.interior_limit (g.E.NormalEdge.edge_limit x.limits) g.met.E.NormalEdge.kind)) c.if-has_rows.false

pub returns-else-has_rows-clause-value : goal.returns-else-has_rows-clause-value
returns-else-has_rows-clause-value g c =
    let x = c.args in
    let k = g.E.NormalEdge.kernel x.limits.hev_threshold x.limits.interior_limit (g.E.NormalEdge.edge_limit x.limits) in
    none-counted horizontal k x.place.stride x.place.at g.row.N x.plane.now (c.has_rows.ensures ∙ rows-fit k 8 x.place.stride x.place.at g.row.N (length x.plane.now) (kind-taps x.limits.hev_threshold x.limits.interior_limit (g.E.NormalEdge.edge_limit x.limits) g.met.E.NormalEdge.kind)) c.if-has_rows.false
