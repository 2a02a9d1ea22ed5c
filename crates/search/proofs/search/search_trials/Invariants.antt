use Rattle.std.proofs.Common.{◌≡◌, ◌≤◌}
use Rattle.planes.specs.Layout.{grid_of}
use Rattle.planes.specs.Pictures.{planes_lent, SameLoans}
use Rattle.planes.specs.Steps.{steps}
use Rattle.scratch.specs.Private.Alike.{Alike}
use Rattle.search.specs.Search.{score, search_of}
use Rattle.search.specs.Private.SearchCode.{after_trial}
use Rattle.search.proofs.search.search_trials.Given as goal

-- i trials are done, in scratch planes that are the lent ones outside the grid
abbrev pub invariant-loop-i : goal.invariant-loop-i
invariant-loop-i g l =
    let W = g.E.Entries.pass in
    (l.i ≤ 88) × SameLoans l.initial.scratch l.scratch
    × (l.best ≡ steps (after_trial (score W (search_of W (g.E.Entries.carried l.entries) l.input (planes_lent l.initial.scratch))) l.base) 0 l.i l.initial.best)
    × (l.best.«params».«count» ≤ l.i)
    × Alike (grid_of l.input.«layout») (planes_lent l.initial.scratch) (planes_lent l.scratch)
