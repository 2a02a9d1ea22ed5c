use mathlib.Core.Path.{◌≡◌, ap, ◌∙◌}
use mathlib.Core.List.{[]}
use Prim.Native.Nat.{ℕ, ◌*◌, ◌<◌}
use native.Mathlib.Omega.{arith}
use lib.ListN.{length, get_or}
use Rattle.kernels.specs.Segment.{mark}
use Rattle.kernels.proofs.SegmentLaws.{mark-most}
use Rattle.edges.specs.Taps.{inner_taps}
use Rattle.edges.specs.Private.Runs.{eight_at, normal_passes}
use Rattle.edges.proofs.ArrayRows.{rows-many, row-long}
use Rattle.edges.proofs.NormalKinds.{kind-signed}
use Rattle.edges.proofs.RunTurns.{eight-in, run_none, run-turn, run_end, marks-none, marks-turn, marks-most}
use Rattle.edges.proofs.run.normal_run.Goals as goal

pub loop-n-init : goal.loop-n-init
loop-n-init g c = let x = c.args in
    (omega arith, run_none _ _ (rows-many 8 g.row.N x.taps _ c.well_formed.0), marks-none (λ j. normal_passes x.edge.interior x.edge.limit (eight_at x.taps j)))

pub on_taps-s-requires : goal.on_taps-s-requires
on_taps-s-requires g c = rw c.eight_at-position.ensures (eight-in g.row.N c.args.taps c.loop-n.n c.loop-n-test.true c.requires)

pub set_inner-requires : goal.set_inner-requires
set_inner-requires g c =
    let x = c.args.edge in
    let row : g.row.N * 2 < 9223372036854775808 = omega (arith, g.bound-2.counted) in
    let rows : 8 * (g.row.N * 2) < 9223372036854775808 = omega (arith, g.bound-2.counted) in
    (rows, (row, (c.loop-n-test.true, rw (c.on_taps-s.ensures, c.eight_at-position.ensures) (kind-signed x.threshold x.interior x.limit g.met.E.NormalEdge.kind _ (eight-in g.row.N c.args.taps c.loop-n.n c.loop-n-test.true c.requires)))))

pub normal_passes-requires : goal.normal_passes-requires
normal_passes-requires g c = rw c.eight_at-position.ensures (eight-in g.row.N c.args.taps c.loop-n.n c.loop-n-test.true c.requires)

pub overflow_add-marks : goal.overflow_add-marks
overflow_add-marks g c =
    let x = c.args.edge in
    omega (arith, c.loop-n.invariant.2, marks-most (λ j. normal_passes x.interior x.limit (eight_at c.args.taps j)) c.loop-n.n, c.counted-marks.ensures, mark-most c.normal_passes.result, g.bound-2.counted)

pub loop-n-preserved : goal.loop-n-preserved
loop-n-preserved g c =
    let long : (k : ℕ) → k < 8 → length (get_or c.args.taps k []) ≡ g.row.N = row-long 8 g.row.N c.args.taps _ c.well_formed.0 in
    let x = c.args.edge in
    let k = g.E.NormalEdge.kernel x.threshold x.interior x.limit in
    let n = c.loop-n.n in (
      omega (arith, c.loop-n-test.true),
      run-turn k g.row.N n c.args.taps c.loop-n.rows _ c.on_taps-s.result long c.loop-n-test.true c.loop-n.invariant.1 (c.on_taps-s.ensures ∙ ap (inner_taps k) c.eight_at-position.ensures) c.set_inner.ensures,
      marks-turn (λ j. normal_passes x.interior x.limit (eight_at c.args.taps j)) n c.loop-n.marks c.counted-marks.result c.loop-n.invariant.2
          (c.counted-marks.ensures ∙ ap mark (c.normal_passes.ensures ∙ ap (normal_passes x.interior x.limit) c.eight_at-position.ensures)),
    )

pub returns-clause-value : goal.returns-clause-value
returns-clause-value g c =
    let long : (k : ℕ) → k < 8 → length (get_or c.args.taps k []) ≡ g.row.N = row-long 8 g.row.N c.args.taps _ c.well_formed.0 in
    let x = c.args.edge in
    let e : c.loop-n.n ≡ g.row.N = omega arith in
    run_end (g.E.NormalEdge.kernel x.threshold x.interior x.limit) g.row.N c.loop-n.n c.args.taps c.loop-n.rows long e c.loop-n.invariant.1
