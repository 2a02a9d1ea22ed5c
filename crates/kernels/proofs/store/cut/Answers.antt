use Rattle.std.proofs.Common.{◌≡◌, ℤ, pos, nat_abs, ap, ◌∙◌, rules, w64, of_z, to_z}
use Rattle.std.specs.Int.{int_min, int_max}
use Rattle.kernels.proofs.Cuts.{cut-is}
use Rattle.kernels.proofs.store.cut.Goals as goal

pub returns : goal.returns
returns c =
    let v : ℤ = c.args.v in
    let e : to_z w64 (of_z w64 c.clamp.result) ≡ int_max (pos 0) (int_min v (pos 255)) = search rules in
    ap nat_abs e ∙ cut-is v
