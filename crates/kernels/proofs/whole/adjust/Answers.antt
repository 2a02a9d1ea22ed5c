use Rattle.std.proofs.Common.{◌-◌, ◌/◌, List, ℤ, ap, ◌∙◌, arith, w64, of_z}
use Rattle.arithmetic.specs.Numbers.{u2s}
use Rattle.arithmetic.proofs.Ranges as R
use Rattle.kernels.specs.declared.taps.Near.{Near}
use Rattle.kernels.specs.Kernels.{filter_value, adjustment}
use Rattle.kernels.specs.Private.Windows.{stored_cut}
use Rattle.kernels.specs.Private.Moves.{capped, two}
use Rattle.kernels.proofs.SignedBytes.{filter-in}
use Rattle.kernels.proofs.Cuts.{loss-is}
use Rattle.kernels.proofs.MovedTaps.{holds, capped-in, two-cut}
use Rattle.kernels.proofs.whole.adjust.Goals as goal

pub two-requires : goal.two-requires
two-requires g c =
    let value : R.Is w64 (of_z w64 c.capped-a.result) (capped c.args.outer c.args.w) 128 = R.got c.capped-a.type_inv c.capped-a.ensures (capped-in c.args.outer c.args.w) in
    holds value (omega arith)

pub overflow_add-result : goal.overflow_add-result
overflow_add-result g c =
    let value : R.Is w64 (of_z w64 c.capped-a.result) (capped c.args.outer c.args.w) 128 = R.got c.capped-a.type_inv c.capped-a.ensures (capped-in c.args.outer c.args.w) in
    R.add? value (R.lit w64 4 tt) tt

pub returns-clause-value : goal.returns-clause-value
unfolding adjustment capped
returns-clause-value g c =
    let w : Near = c.args.w in
    let f : ℤ = filter_value c.args.outer (u2s w.p1) (u2s w.p0) (u2s w.q0) (u2s w.q1) in
    let value : R.Is w64 (of_z w64 c.capped-a.result) (capped c.args.outer w) 128 = R.got c.capped-a.type_inv c.capped-a.ensures (capped-in c.args.outer w) in
    (R.shr 8 (R.add value (R.lit w64 4 tt) tt) tt).val ∙ loss-is f (filter-in c.args.outer _ _ _ _)

pub returns-clause-window_after : goal.returns-clause-window_after
returns-clause-window_after g c =
    let x = c.args in
    let value : R.Is w64 (of_z w64 c.capped-a.result) (capped x.outer x.w) 128 = R.got c.capped-a.type_inv c.capped-a.ensures (capped-in x.outer x.w) in
    c.store_plain_or_cut.ensures
    ∙ ap (λ (vs : List ℤ). stored_cut ((g.row.W - 2) / 2) vs x.window.now) (c.two.ensures ∙ ap (λ (a : ℤ). two a x.w) value.val)
    ∙ two-cut x.outer g.row.W x.w x.window.now
