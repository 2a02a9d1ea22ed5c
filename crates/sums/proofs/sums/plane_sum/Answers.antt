use Rattle.std.proofs.Common.{◌≡◌, ap, ◌∙◌, ℕ, ◌+◌, ◌-◌, ◌*◌, ◌≤◌, ◌<◌, ◌^◌, Ok, Err, arith, rules}
use Rattle.sums.specs.Sums.{rows_sum}
use Rattle.sums.proofs.SumLaws.{lent, rows_none, rows_more, grows, sum_is, sum_over}
use Rattle.sums.specs.declared.answers.SearchRefusal.TheVariants.{SumTooLarge}
use Rattle.sums.proofs.sums.plane_sum.Goals as goal

pub loop-n-init : goal.loop-n-init
loop-n-init c = (omega arith, (omega arith, omega (arith, rows_none c.args.a.samples.now c.args.a.stride c.args.b.samples.now c.args.b.stride c.args.w)))

pub returns-in_err-sum : goal.returns-in_err-sum
returns-in_err-sum c =
    let x = c.args in
    let i = c.loop-n.n * x.a.stride in
    let j = c.loop-n.n * x.b.stride in
    let row = lent x.a.samples.now i x.b.samples.now j x.w (i + x.w - i) (j + x.w - j) (omega arith) (omega arith) (search rules) in
    let over : 2 ^ 64 ≤ c.loop-n.sum + c.row_sum-row.result = search rules in
    let told : c.from_residual.result ≡ Err SumTooLarge = search rules in
    told
    ∙ sum_over _ (omega (
      arith,
      over,
      rows_more x.a.samples.now x.a.stride x.b.samples.now x.b.stride x.w c.loop-n.n,
      c.row_sum-row.ensures,
      row,
      grows x.a.samples.now x.a.stride x.b.samples.now x.b.stride x.w (c.loop-n.n + 1) x.h (omega arith),
    ))

pub loop-n-preserved : goal.loop-n-preserved
loop-n-preserved c =
    let x = c.args in
    let i = c.loop-n.n * x.a.stride in
    let j = c.loop-n.n * x.b.stride in
    let row = lent x.a.samples.now i x.b.samples.now j x.w (i + x.w - i) (j + x.w - j) (omega arith) (omega arith) (search rules) in
    let more : c.in_ok-sum.sum ≡ c.loop-n.sum + c.row_sum-row.result = search rules in
    let fits : c.in_ok-sum.sum < 2 ^ 64 = search rules in (
      omega arith,
      (omega (arith, fits), omega (arith, more, rows_more x.a.samples.now x.a.stride x.b.samples.now x.b.stride x.w c.loop-n.n, c.row_sum-row.ensures, row)),
    )

pub returns : goal.returns
returns c =
    let e : c.loop-n.sum ≡ c.args.start + rows_sum c.args.a.samples.now c.args.a.stride c.args.b.samples.now c.args.b.stride c.args.w c.args.h =
    c.loop-n.invariant.1.1 ∙ ap (λ (k : ℕ). c.args.start + rows_sum c.args.a.samples.now c.args.a.stride c.args.b.samples.now c.args.b.stride c.args.w k) (omega arith) in
    ap Ok e ∙ sum_is _ (omega arith)
