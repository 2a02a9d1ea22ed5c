use Rattle.std.proofs.Common.{◌≡◌, ◌≤◌}
use Rattle.planes.specs.Layout.{grid_of}
use Rattle.planes.specs.Pictures.{planes_lent, SameLoans}
use Rattle.scratch.specs.Private.Alike.{Alike}
use Rattle.search.specs.Search.{search_of}
use Rattle.stills.specs.FullSearch.{after_pairs}
use Rattle.stills.specs.Private.FullCode.{best_of}
use Rattle.stills.proofs.full_search.try_pairs.Given as goal

-- i pairs are tried, in scratch planes that are the lent ones outside the grid
abbrev pub invariant-loop-i : goal.invariant-loop-i
invariant-loop-i g l =
    let W = g.E.Entries.pass in
    (l.i ≤ 504) × SameLoans l.initial.scratch l.scratch
    × (l.best ≡ best_of (after_pairs W (search_of W (g.E.Entries.carried l.entries) l.input (planes_lent l.initial.scratch)) l.i))
    × Alike (grid_of l.input.«layout») (planes_lent l.initial.scratch) (planes_lent l.scratch)
