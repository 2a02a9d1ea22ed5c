use mathlib.Core.Path.{◌≡◌, refl, ap, ◌∙◌}
use mathlib.Core.List.{List, []}
use Prim.Native.Nat.{ℕ, ◌/◌, ◌%◌, min}
use native.Mathlib.Omega.{arith}
use lib.ListN.{length, get_or, length-set}
use Rattle.arithmetic.specs.Tables.{fill}
use Rattle.limit_table.specs.InteriorLimits.{interior_byte, bytes_taken, with_bytes}
use Rattle.arithmetic.proofs.Tables.{fill_none, fill-turn}
use Rattle.limit_table.proofs.table.copy_interior_limits.Goals as goal

pub loop-i-init : goal.loop-i-init
loop-i-init c = (omega arith, fill_none _ _, refl)

pub loop-i-preserved : goal.loop-i-preserved
unfolding interior_byte
loop-i-preserved c =
    let x = c.args in
    let i = c.loop-i.i in
    let right = ap (λ (z : List (List ℕ)). get_or (get_or z (i / 64) []) (i % 64) 0) c.interior_limits-table.ensures in
    let turn = fill-turn i interior_byte x.into.now _ _ c.loop-i.invariant.1 (omega arith) right in
    (omega arith, turn, length-set c.loop-i.into i _ ∙ c.loop-i.invariant.2)

pub returns-clause-into_after : goal.returns-clause-into_after
unfolding bytes_taken with_bytes
returns-clause-into_after c =
    let all : c.loop-i.i ≡ min (length c.args.into.now) 512 = omega arith in
    c.loop-i.invariant.1 ∙ ap (λ (k : ℕ). fill k interior_byte c.args.into.now) all
