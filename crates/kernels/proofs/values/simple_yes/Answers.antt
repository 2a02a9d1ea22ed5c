use Rattle.std.proofs.Common.{◌≡◌, ◌+◌, ◌*◌, ◌/◌, leb, pos, sym, ◌∙◌}
use Rattle.kernels.specs.Kernels.{apart, edge_value, simple_yes}
use Rattle.kernels.proofs.Apart.{twice, apart-both}
use Rattle.kernels.proofs.values.simple_yes.Goals as goal

pub returns : goal.returns
unfolding simple_yes edge_value
returns c =
    let w = c.args.w in
    let e = c.args.edge in
    let d : c.abs_diff.result ≡ apart (pos w.p0) (pos w.q0) = c.abs_diff.ensures ∙ sym (apart-both w.p0 w.q0) in
    let o : c.abs_diff-2.result ≡ apart (pos w.p1) (pos w.q1) = c.abs_diff-2.ensures ∙ sym (apart-both w.p1 w.q1) in
    twice c.abs_diff.result c.abs_diff-2.result e ∙ (λ i. leb (d i * 2 + o i / 2) e)
