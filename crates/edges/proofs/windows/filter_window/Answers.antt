use mathlib.Core.Path.{sym, ap, ◌∙◌}
use Prim.Native.Nat.{ℕ, ◌+◌}
use lib.Dec.{leb}
use lib.ListN.{length}
use Rattle.arithmetic.specs.Outcome.{gives}
use Rattle.kernels.specs.Segment.{passes_at, fits_at, windowed, window_answer}
use Rattle.kernels.proofs.Windows.{taken, left}
use Rattle.edges.proofs.NormalKinds.{kind-taps}
use Rattle.edges.proofs.VerticalRows.{from_one, none-missed, counted-one}
use Rattle.edges.proofs.windows.filter_window.Goals as goal

pub returns-then-has_window-clause-result_value : goal.returns-then-has_window-clause-result_value
unfolding fits_at windowed window_answer
returns-then-has_window-clause-result_value g c =
    let x = c.args in
    let fits = c.has_window.ensures ∙ ap (λ (t : ℕ). leb (x.base + t) (length x.seg.now)) (sym (kind-taps x.limits.threshold x.limits.interior x.limits.limit g.met.E.NormalEdge.kind)) in
    let k = g.E.NormalEdge.kernel x.limits.threshold x.limits.interior x.limits.limit in
    ap gives (none-missed _ (passes_at k (λ n. x.base + n) x.seg.now) (rw (counted-one k x.base x.seg.now) at c.normal_rows.ensures.missed_after)) ∙ sym (taken _ _ fits c.if-has_window.true)

pub returns-then-has_window-clause-seg_after : goal.returns-then-has_window-clause-seg_after
unfolding fits_at windowed window_answer
returns-then-has_window-clause-seg_after g c =
    let x = c.args in
    let fits = c.has_window.ensures ∙ ap (λ (t : ℕ). leb (x.base + t) (length x.seg.now)) (sym (kind-taps x.limits.threshold x.limits.interior x.limits.limit g.met.E.NormalEdge.kind)) in
    c.normal_rows.ensures.plane_after ∙ from_one _ _ _ ∙ sym (taken _ _ fits c.if-has_window.true)

pub returns-else-has_window-clause-result_value : goal.returns-else-has_window-clause-result_value
unfolding fits_at windowed window_answer
returns-else-has_window-clause-result_value g c =
    let x = c.args in
    let fits = c.has_window.ensures ∙ ap (λ (t : ℕ). leb (x.base + t) (length x.seg.now)) (sym (kind-taps x.limits.threshold x.limits.interior x.limits.limit g.met.E.NormalEdge.kind)) in
    sym (left _ _ fits c.if-has_window.false)

pub returns-else-has_window-clause-seg_after : goal.returns-else-has_window-clause-seg_after
unfolding fits_at windowed window_answer
returns-else-has_window-clause-seg_after g c =
    let x = c.args in
    let fits = c.has_window.ensures ∙ ap (λ (t : ℕ). leb (x.base + t) (length x.seg.now)) (sym (kind-taps x.limits.threshold x.limits.interior x.limits.limit g.met.E.NormalEdge.kind)) in
    sym (left _ _ fits c.if-has_window.false)
