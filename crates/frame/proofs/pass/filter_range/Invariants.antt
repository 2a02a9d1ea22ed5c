use Rattle.std.proofs.Common.{◌≤◌}
use Rattle.planes.specs.Layout.{grid_of}
use Rattle.planes.specs.Pictures.{planes_lent, SameLoans}
use Rattle.calls.specs.Pass.{step}
use Rattle.calls.specs.Smoothed.{step_smoothed}
use Rattle.frame.specs.Private.Ranges.{Ranged}
use Rattle.frame.proofs.pass.filter_range.Given as goal

-- macroblocks up to m are done
abbrev pub invariant-loop-m : goal.invariant-loop-m
invariant-loop-m g l =
    let W = g.E.Entries.pass in
    let entries = W.entry (g.E.Entries.carried l.entries) in
    ((l.from ≤ l.m) × (l.m ≤ l.to)) × SameLoans l.initial.picture l.picture
    × Ranged (step W (grid_of l.layout) l.config entries) (step_smoothed W (grid_of l.layout) l.config entries) l.from l.m
    (planes_lent l.initial.picture) (planes_lent l.picture) l.smoothed
