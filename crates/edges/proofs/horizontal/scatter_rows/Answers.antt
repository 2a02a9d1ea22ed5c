use mathlib.Core.Path.{◌≡◌, refl, ap, ◌∙◌}
use Prim.Native.Nat.{ℕ, ◌+◌, ◌-◌, ◌*◌}
use lib.ListN.{length}
use native.Mathlib.Omega.{arith}
use Rattle.edges.specs.Private.Runs.{store_row_of, store_rows}
use Rattle.edges.proofs.RowStores.{rows-none, rows-turn, length-row}
use Rattle.edges.proofs.horizontal.scatter_rows.Goals as goal

pub loop-k-init : goal.loop-k-init
loop-k-init g c =
    let x = c.args in
    let none : 0 ≡ x.first - x.first = omega arith in
    (omega arith, omega arith, rows-none g.row.N x.place.stride x.place.at x.first x.rows x.plane.now ∙ ap (λ (n : ℕ). store_rows g.row.N x.place.stride x.place.at x.first n x.rows x.plane.now) none, refl)

pub loop-k-preserved : goal.loop-k-preserved
loop-k-preserved g c =
    let x = c.args in
    let k = c.loop-k.k in
    let at : k ≡ x.first + (k - x.first) = omega (arith, c.loop-k.invariant.0) in
    let next : k - x.first + 1 ≡ k + 1 - x.first = omega (arith, c.loop-k.invariant.0) in
    let stored = c.scatter.ensures ∙ ap (λ (n : ℕ). store_row_of g.row.N x.place.stride x.place.at n x.rows c.loop-k.plane) at in (
      omega (arith, c.loop-k.invariant.0),
      omega (arith, c.loop-k-test.true),
      rows-turn g.row.N x.place.stride x.place.at x.first x.rows x.plane.now (k - x.first) c.loop-k.plane _ c.loop-k.invariant.2 stored ∙ ap (λ (n : ℕ). store_rows g.row.N x.place.stride x.place.at x.first n x.rows x.plane.now) next,
      ap length c.scatter.ensures ∙ length-row g.row.N (x.place.at + k * x.place.stride) _ c.loop-k.plane ∙ c.loop-k.invariant.3,
    )
