use Prim.Native.Nat.{◌+◌, ◌*◌}
use lib.ListN.{length-replicate, replicate}
use lib.IntN.{pos}
use native.Mathlib.Omega.{arith}
use Rattle.arithmetic.proofs.Tables.{fill_none, fill-turn, fill_end}
use Rattle.edges.specs.Private.Runs.{row_at, rows_at}
use Rattle.edges.proofs.horizontal.gather_rows.Goals as goal

pub loop-k-init : goal.loop-k-init
loop-k-init g c = (omega arith, fill_none _ _, length-replicate g.row.M (replicate g.row.N (pos 0)))

pub loop-k-preserved : goal.loop-k-preserved
loop-k-preserved g c =
    let x = c.args in
    (omega (arith, c.loop-k-test.true), fill-turn c.loop-k.k (λ k. row_at g.row.N (x.place.at + k * x.place.stride) x.plane.now) _ _ _ c.loop-k.invariant.1 (omega (arith, c.loop-k-test.true, c.loop-k.invariant.2)) c.gather.ensures, c.loop-k.invariant.2)

pub returns : goal.returns
unfolding rows_at
returns g c = fill_end c.loop-k.k g.row.M _ _ _ c.loop-k.invariant.1 (omega arith) c.loop-k.invariant.2
