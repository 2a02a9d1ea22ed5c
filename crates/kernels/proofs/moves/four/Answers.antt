use Rattle.std.proofs.Common.{◌<◌, [], ◌∷◌, w64, of_z, rules}
use Rattle.arithmetic.proofs.Ranges as R
use Rattle.kernels.specs.declared.taps.Near.{Near}
use Rattle.kernels.specs.Private.Moves.{four}
use Rattle.kernels.proofs.moves.four.Goals as goal

pub returns : goal.returns
unfolding four
returns c =
    let w : Near = c.args.w in
    let p1 : w.p1 < 256 = search rules in
    let p0 : w.p0 < 256 = search rules in
    let q0 : w.q0 < 256 = search rules in
    let q1 : w.q1 < 256 = search rules in
    let value : R.Is w64 (of_z w64 c.args.a) c.args.a 2048 = record { val = (R.held {w = w64} c.ranges.a).val; inr = c.requires } in
    λ i. (R.add (R.sample p1) (R.shr 16 (R.add value (R.lit w64 12 tt) tt) tt) tt).val i
    ∷ (R.add (R.sample p0) (R.shr 8 (R.add value (R.lit w64 3 tt) tt) tt) tt).val i
    ∷ (R.sub (R.sample q0) (R.shr 8 (R.add value (R.lit w64 4 tt) tt) tt) tt).val i
    ∷ (R.sub (R.sample q1) (R.shr 16 (R.add value (R.lit w64 12 tt) tt) tt) tt).val i ∷ []
