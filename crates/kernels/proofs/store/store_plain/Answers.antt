use Rattle.std.proofs.Common.{◌≡◌, ◌-◌, ◌/◌, get_or, ℤ, pos, nat_abs, sym, ap, ◌∙◌, arith, rules, w8, w64, of_z, to_z}
use Rattle.arithmetic.proofs.Ranges as R
use Rattle.kernels.proofs.Cuts.{Plain, in-byte}
use Rattle.kernels.proofs.Stores.{store-none, store-turn, byte-at}
use Rattle.kernels.proofs.store.store_plain.Goals as goal

pub loop-n-init : goal.loop-n-init
loop-n-init g c = (omega arith, store-none ((g.row.W - g.row.N) / 2) c.args.values c.args.window.now, search rules)

pub overflow_cast-window : goal.overflow_cast-window
overflow_cast-window g c =
    let v : ℤ = get_or c.args.values c.loop-n.n (pos 0) in
    let p : Plain v = in-byte v (byte-at c.loop-n.n c.args.values (omega (arith, c.loop-n.invariant.2)) (sym c.are_bytes.ensures ∙ c.if-not-are_bytes.false)) in
    R.cast_u? w8 (R.held {w = w64} (search rules)) p.sign p.size

pub loop-n-preserved : goal.loop-n-preserved
loop-n-preserved g c =
    let v : ℤ = get_or c.args.values c.loop-n.n (pos 0) in
    let p : Plain v = in-byte v (byte-at c.loop-n.n c.args.values (omega (arith, c.loop-n.invariant.2)) (sym c.are_bytes.ensures ∙ c.if-not-are_bytes.false)) in
    let e : to_z w64 (of_z w64 v) ≡ v = search rules in
    (omega arith, store-turn c.loop-n.n ((g.row.W - g.row.N) / 2) c.args.values _ _ _ (omega (arith, c.loop-n.invariant.2)) c.loop-n.invariant.1 (ap nat_abs e ∙ p.same), c.loop-n.invariant.2)
