use Prim.Native.Nat.{◌-◌, ◌*◌, ◌/◌, ◌≤◌}
use Rattle.planes.specs.Steps.{steps}
use Rattle.planes.specs.Edges.{horizontal}
use Rattle.frame.specs.Private.PlaneEdges.{Did, inner_at}
use Rattle.frame.proofs.plane.inner_horizontal.Given as goal

abbrev pub invariant-loop-n : goal.invariant-loop-n
invariant-loop-n g l =
    (1 ≤ l.n) × (l.n ≤ g.row.N / 4) × Did (g.row.N * (l.n - 1)) (steps (inner_at horizontal (g.E.Edge.kernel l.edge) g.row.N l.square) 1 (l.n - 1)) l.initial.plane l.plane l.smoothed
