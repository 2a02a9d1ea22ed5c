use Rattle.std.proofs.Common.{sym, ◌∙◌}
use Rattle.kernels.proofs.Filtered.{of-answer, by-edge, far}
use Rattle.kernels.proofs.whole.test_by_test.Goals as goal

pub returns-then-neighbours_near : goal.returns-then-neighbours_near
returns-then-neighbours_near g c =
    let x = c.args in
    let e = c.at_edge.ensures in
    by-edge _ _ x.window.now _ c.taps_of-w.ensures (sym c.neighbours_near.ensures ∙ c.if-neighbours_near.true) _ _ e.value e.window_after

pub returns-else-neighbours_near : goal.returns-else-neighbours_near
returns-else-neighbours_near g c =
    let x = c.args in
    of-answer c.if-neighbours_near.false (far _ _ x.window.now _ c.taps_of-w.ensures (sym c.neighbours_near.ensures ∙ c.if-neighbours_near.false))
