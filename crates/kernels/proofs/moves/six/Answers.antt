use Rattle.std.proofs.Common.{◌<◌, [], ◌∷◌, w64, of_z, rules}
use Rattle.arithmetic.proofs.Ranges as R
use Rattle.kernels.specs.declared.taps.Taps.{Taps}
use Rattle.kernels.specs.Private.Moves.{six}
use Rattle.kernels.proofs.moves.six.Goals as goal

pub returns : goal.returns
unfolding six
returns c =
    let w : Taps = c.args.w in
    let p2 : w.p2 < 256 = search rules in
    let p1 : w.near.p1 < 256 = search rules in
    let p0 : w.near.p0 < 256 = search rules in
    let q0 : w.near.q0 < 256 = search rules in
    let q1 : w.near.q1 < 256 = search rules in
    let q2 : w.q2 < 256 = search rules in
    let value : R.Is w64 (of_z w64 c.args.v) c.args.v 2048 = record { val = (R.held {w = w64} c.ranges.v).val; inr = c.requires } in
    λ i. (R.add (R.sample p2) (R.shr 128 (R.add (R.mul 9 value tt tt) (R.lit w64 63 tt) tt) tt) tt).val i
    ∷ (R.add (R.sample p1) (R.shr 128 (R.add (R.mul 18 value tt tt) (R.lit w64 63 tt) tt) tt) tt).val i
    ∷ (R.add (R.sample p0) (R.shr 128 (R.add (R.mul 27 value tt tt) (R.lit w64 63 tt) tt) tt) tt).val i
    ∷ (R.sub (R.sample q0) (R.shr 128 (R.add (R.mul 27 value tt tt) (R.lit w64 63 tt) tt) tt) tt).val i
    ∷ (R.sub (R.sample q1) (R.shr 128 (R.add (R.mul 18 value tt tt) (R.lit w64 63 tt) tt) tt) tt).val i
    ∷ (R.sub (R.sample q2) (R.shr 128 (R.add (R.mul 9 value tt tt) (R.lit w64 63 tt) tt) tt) tt).val i ∷ []
