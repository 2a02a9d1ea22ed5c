use mathlib.Core.Path.{◌∙◌}
use Prim.Native.Nat.{ℕ, ◌*◌, ◌≤◌, ◌<◌}
use native.Mathlib.Omega.{arith}
use lib.ListN.{get_or}
use Rattle.edges.proofs.RowRuns.{gathered-signed, simple-signed, simple-edge}
use Rattle.edges.proofs.RowCounts.{simple-counted}
use Rattle.edges.proofs.horizontal.simple_rows.Goals as goal

pub simple_run-rows-requires : goal.simple_run-rows-requires
simple_run-rows-requires g c =
    let x = c.args in
    let bytes : (i : ℕ) → get_or x.plane.now i 0 < 256 = λ i. omega (arith, c.slice_known-1.given i) in
    let row : g.row.N * 2 < 9223372036854775808 = omega (arith, g.bound-1.counted) in
    let rows : 4 * (g.row.N * 2) < 9223372036854775808 = omega (arith, g.bound-1.counted) in
    (rows, (row, gathered-signed 4 g.row.N x.place.stride x.place.at x.plane.now bytes c.gather_rows-taps.result c.gather_rows-taps.ensures))

pub scatter_rows-requires : goal.scatter_rows-requires
scatter_rows-requires g c =
    let x = c.args in
    let bytes : (i : ℕ) → get_or x.plane.now i 0 < 256 = λ i. omega (arith, c.slice_known-1.given i) in
    let row : g.row.N * 2 < 9223372036854775808 = omega (arith, g.bound-1.counted) in
    let rows : 4 * (g.row.N * 2) < 9223372036854775808 = omega (arith, g.bound-1.counted) in
    let ordered : 1 ≤ 3 = omega arith in
    let ends : 3 ≤ 4 = omega arith in
    (rows, (row, (c.requires, (ordered, (ends, simple-signed x.edge_limit g.row.N x.place.stride x.place.at x.plane.now bytes c.gather_rows-taps.result c.simple_run-rows.result.0 c.gather_rows-taps.ensures c.simple_run-rows.ensures.value)))))

pub returns-clause-plane_after : goal.returns-clause-plane_after
returns-clause-plane_after g c =
    let x = c.args in
    let bytes : (i : ℕ) → get_or x.plane.now i 0 < 256 = λ i. omega (arith, c.slice_known-1.given i) in
    simple-edge x.edge_limit g.row.N x.place.stride x.place.at x.plane.now bytes c.gather_rows-taps.result c.simple_run-rows.result.0 c.gather_rows-taps.ensures c.simple_run-rows.ensures.value c.requires.apart _ c.scatter_rows.ensures

pub returns-clause-value : goal.returns-clause-value
returns-clause-value g c =
    let x = c.args in
    c.from.ensures ∙ simple-counted g.row.N x.place.stride x.place.at x.plane.now x.edge_limit c.gather_rows-taps.result c.gather_rows-taps.ensures c.requires.apart _ c.simple_run-rows.ensures.passed
