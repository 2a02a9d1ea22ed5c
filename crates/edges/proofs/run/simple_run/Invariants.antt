use mathlib.Core.Path.{◌≡◌}
use Prim.Native.Nat.{◌≤◌}
use Rattle.kernels.specs.Segment.{simple_segment}
use Rattle.edges.specs.Private.Runs.{four_at, simple_passes, marks_of}
use Rattle.edges.proofs.RunTurns.{four-to}
use Rattle.edges.proofs.run.simple_run.Given as goal

abbrev pub invariant-loop-n : goal.invariant-loop-n
invariant-loop-n g l =
    (l.n ≤ g.row.N) × (l.rows ≡ four-to (simple_segment l.edge_limit) l.n l.taps) × (l.marks ≡ marks_of (λ j. simple_passes l.edge_limit (four_at l.taps j)) l.n)
