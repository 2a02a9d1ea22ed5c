use mathlib.Core.Path.{◌≡◌}
use Prim.Native.Nat.{◌≤◌}
use Rattle.edges.specs.Private.Runs.{eight_at, normal_passes, marks_of}
use Rattle.edges.proofs.RunTurns.{run_to}
use Rattle.edges.proofs.run.normal_run.Given as goal

abbrev pub invariant-loop-n : goal.invariant-loop-n
invariant-loop-n g l =
    (l.n ≤ g.row.N) × (l.rows ≡ run_to (g.E.NormalEdge.kernel l.edge.threshold l.edge.interior l.edge.limit) l.n l.taps) × (l.marks ≡ marks_of (λ j. normal_passes l.edge.interior l.edge.limit (eight_at l.taps j)) l.n)
