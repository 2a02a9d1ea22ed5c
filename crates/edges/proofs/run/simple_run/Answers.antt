use mathlib.Core.Path.{◌≡◌, refl, ap, ◌∙◌}
use mathlib.Core.List.{[]}
use Prim.Native.Nat.{ℕ, ◌<◌}
use native.Mathlib.Omega.{arith}
use lib.ListN.{length, get_or}
use Rattle.kernels.specs.Segment.{simple_segment, mark}
use Rattle.kernels.proofs.SegmentLaws.{mark-most}
use Rattle.edges.specs.Private.Runs.{four_at, edge_taps, simple_passes}
use Rattle.edges.proofs.ArrayRows.{rows-many, row-long}
use Rattle.edges.proofs.TapPositions.{simple-in}
use Rattle.edges.proofs.RunTurns.{four-in, four_none, four-turn, four_end, marks-none, marks-turn, marks-most}
use Rattle.edges.proofs.run.simple_run.Goals as goal

pub loop-n-init : goal.loop-n-init
loop-n-init g c = let x = c.args in
    (omega arith, four_none _ _ (rows-many 4 g.row.N x.taps _ c.well_formed.0), marks-none (λ j. simple_passes x.edge_limit (four_at x.taps j)))

pub simple_position-s-requires : goal.simple_position-s-requires
simple_position-s-requires g c = rw c.four_at-position.ensures (four-in g.row.N c.args.taps c.loop-n.n c.loop-n-test.true c.requires)

pub simple_passes-requires : goal.simple_passes-requires
simple_passes-requires g c = rw c.four_at-position.ensures (four-in g.row.N c.args.taps c.loop-n.n c.loop-n-test.true c.requires)

pub overflow_add-marks : goal.overflow_add-marks
overflow_add-marks g c =
    omega (arith, c.loop-n.invariant.2, marks-most (λ j. simple_passes c.args.edge_limit (four_at c.args.taps j)) c.loop-n.n, c.counted-marks.ensures, mark-most c.simple_passes.result, g.bound-1.counted)

pub loop-n-preserved : goal.loop-n-preserved
loop-n-preserved g c =
    let long : (k : ℕ) → k < 4 → length (get_or c.args.taps k []) ≡ g.row.N = row-long 4 g.row.N c.args.taps _ c.well_formed.0 in
    let limit = c.args.edge_limit in
    let n = c.loop-n.n in
    let s = c.simple_position-s.ensures ∙ ap (edge_taps (simple_segment limit)) c.four_at-position.ensures in (
      omega (arith, c.loop-n-test.true),
      four-turn (simple_segment limit) g.row.N n c.args.taps c.loop-n.rows _ c.simple_position-s.result long c.loop-n-test.true c.loop-n.invariant.1 s
          (rw s (simple-in limit _ (four-in g.row.N c.args.taps n c.loop-n-test.true c.requires))) refl,
      marks-turn (λ j. simple_passes limit (four_at c.args.taps j)) n c.loop-n.marks c.counted-marks.result c.loop-n.invariant.2
          (c.counted-marks.ensures ∙ ap mark (c.simple_passes.ensures ∙ ap (simple_passes limit) c.four_at-position.ensures)),
    )

pub returns-clause-value : goal.returns-clause-value
returns-clause-value g c =
    let long : (k : ℕ) → k < 4 → length (get_or c.args.taps k []) ≡ g.row.N = row-long 4 g.row.N c.args.taps _ c.well_formed.0 in
    let e : c.loop-n.n ≡ g.row.N = omega arith in
    four_end (simple_segment c.args.edge_limit) g.row.N c.loop-n.n c.args.taps c.loop-n.rows long e c.loop-n.invariant.1
