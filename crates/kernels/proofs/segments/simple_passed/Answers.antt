use Rattle.std.proofs.Common.{true, sym, ap, ◌∙◌}
use Rattle.kernels.specs.declared.taps.Near.{Near}
use Rattle.kernels.specs.Kernels.{simple_yes}
use Rattle.kernels.specs.Private.Windows.{adjusted}
use Rattle.kernels.specs.Private.Taps.{near_of}
use Rattle.kernels.proofs.Windows.{taken, left, simple-window, simple-passes}
use Rattle.kernels.proofs.segments.simple_passed.Goals as goal

pub returns-then-passes-clause-value : goal.returns-then-passes-clause-value
unfolding near_of
returns-then-passes-clause-value c =
    let x = c.args in
    c.simple_yes-passes.ensures ∙ ap (λ (w : Near). simple_yes x.edge w.p1 w.p0 w.q0 w.q1) c.near_of-w.ensures ∙ sym (simple-passes x.window.now x.edge)

pub returns-else-passes-clause-value : goal.returns-else-passes-clause-value
unfolding near_of
returns-else-passes-clause-value c =
    let x = c.args in
    c.simple_yes-passes.ensures ∙ ap (λ (w : Near). simple_yes x.edge w.p1 w.p0 w.q0 w.q1) c.near_of-w.ensures ∙ sym (simple-passes x.window.now x.edge)

pub returns-then-passes-clause-window_after : goal.returns-then-passes-clause-window_after
unfolding near_of
returns-then-passes-clause-window_after c =
    let x = c.args in
    let e = c.simple_yes-passes.ensures ∙ ap (λ (w : Near). simple_yes x.edge w.p1 w.p0 w.q0 w.q1) c.near_of-w.ensures in
    c.adjust.ensures.window_after ∙ ap (adjusted 4 true x.window.now) c.near_of-w.ensures ∙ sym (simple-window x.window.now x.edge ∙ taken _ _ e c.if-passes.true)

pub returns-else-passes-clause-window_after : goal.returns-else-passes-clause-window_after
unfolding near_of
returns-else-passes-clause-window_after c =
    let x = c.args in
    let e = c.simple_yes-passes.ensures ∙ ap (λ (w : Near). simple_yes x.edge w.p1 w.p0 w.q0 w.q1) c.near_of-w.ensures in
    sym (simple-window x.window.now x.edge ∙ left _ _ e c.if-passes.false)
