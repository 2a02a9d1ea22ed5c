use Rattle.std.proofs.Common.{◌+◌, ◌*◌, ◌&&◌, refl, ◌∙◌}
use Rattle.kernels.proofs.Apart.{larger-sum}
use Rattle.kernels.proofs.near.edge_near.Goals as goal

pub returns : goal.returns
returns c = let w = c.args.w in
    (λ j. c.in_reach.ensures (4 * w.q0 + w.p1) refl j && c.in_reach-2.ensures (4 * w.q0 + w.q1) refl j)
    ∙ larger-sum c.args.limit w.p1 w.p0 w.q0 w.q1
