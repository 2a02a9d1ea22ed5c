use mathlib.Core.Path.{◌∙◌}
use Prim.Native.Nat.{ℕ, ◌*◌, ◌+◌, ◌-◌, ◌≤◌, ◌<◌}
use native.Mathlib.Omega.{arith}
use lib.ListN.{get_or}
use Rattle.edges.proofs.NormalKinds.{kind-few}
use Rattle.edges.proofs.RowRuns.{gathered-signed, normal-signed, normal-edge}
use Rattle.edges.proofs.RowCounts.{normal-counted}
use Rattle.edges.proofs.horizontal.normal_rows.Goals as goal

pub normal_run-rows-requires : goal.normal_run-rows-requires
normal_run-rows-requires g c =
    let x = c.args in
    let bytes : (i : ℕ) → get_or x.plane.now i 0 < 256 = λ i. omega (arith, c.slice_known-1.given i) in
    let row : g.row.N * 2 < 9223372036854775808 = omega (arith, g.bound-2.counted) in
    let rows : 8 * (g.row.N * 2) < 9223372036854775808 = omega (arith, g.bound-2.counted) in
    (rows, (row, gathered-signed 8 g.row.N x.place.stride x.place.at x.plane.now bytes c.gather_rows-taps.result c.gather_rows-taps.ensures))

pub scatter_rows-requires : goal.scatter_rows-requires
scatter_rows-requires g c =
    let x = c.args in
    let bytes : (i : ℕ) → get_or x.plane.now i 0 < 256 = λ i. omega (arith, c.slice_known-1.given i) in
    let row : g.row.N * 2 < 9223372036854775808 = omega (arith, g.bound-2.counted) in
    let rows : 8 * (g.row.N * 2) < 9223372036854775808 = omega (arith, g.bound-2.counted) in
    let few = kind-few g.met.E.NormalEdge.kind in
    let ends : 4 + c.CHANGED-2.result ≤ 8 = omega (arith, c.CHANGED-2.ensures, few) in
    let ordered : 4 - c.CHANGED.result ≤ 4 + c.CHANGED-2.result = omega arith in
    let signed = normal-signed g.met.E.NormalEdge.kind x.edge.threshold x.edge.interior x.edge.limit g.row.N x.place.stride x.place.at x.plane.now bytes c.gather_rows-taps.result c.normal_run-rows.result.0 c.gather_rows-taps.ensures c.normal_run-rows.ensures.value in
    (rows, (row, (c.requires, (ordered, (ends, rw (c.CHANGED.ensures, c.CHANGED-2.ensures) signed)))))

pub returns-clause-plane_after : goal.returns-clause-plane_after
returns-clause-plane_after g c =
    let x = c.args in
    let bytes : (i : ℕ) → get_or x.plane.now i 0 < 256 = λ i. omega (arith, c.slice_known-1.given i) in
    normal-edge g.met.E.NormalEdge.kind x.edge.threshold x.edge.interior x.edge.limit g.row.N x.place.stride x.place.at x.plane.now bytes c.gather_rows-taps.result c.normal_run-rows.result.0 c.gather_rows-taps.ensures
    c.normal_run-rows.ensures.value c.requires.apart _ (rw (c.CHANGED.ensures, c.CHANGED-2.ensures) at c.scatter_rows.ensures)

pub returns-clause-value : goal.returns-clause-value
returns-clause-value g c =
    let x = c.args in
    c.from.ensures
    ∙ normal-counted g.row.N x.place.stride x.place.at x.plane.now g.met.E.NormalEdge.kind x.edge.threshold x.edge.interior x.edge.limit c.gather_rows-taps.result c.gather_rows-taps.ensures c.requires.apart _ c.normal_run-rows.ensures.passed
