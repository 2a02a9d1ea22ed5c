use mathlib.Core.Bool.{false}
use mathlib.Core.Path.{◌≡◌, sym, ◌∙◌}
use native.Mathlib.Omega.{arith}
use Rattle.planes.specs.GridRefusals.{zero_grid}
use Rattle.planes.specs.Layout.{grid_of}
use Rattle.planes.specs.Pictures.{planes_in, planes_lent}
use Rattle.planes.specs.Planes.{luma, chroma_u, chroma_v, PlanesHold}
use Rattle.planes.proofs.PastGrid.{Sound, grid-sound}
use Rattle.scratch.specs.Copies.{copy_grid}
use Rattle.scratch.proofs.CopyLaws.{no-grid, three-planes}
use Rattle.scratch.proofs.copies.copy_planes.Goals as goal

pub returns-then-is_zero-clause-copied : goal.returns-then-is_zero-clause-copied
returns-then-is_zero-clause-copied c = sym (no-grid _ _ _ (sym c.is_zero.ensures ∙ c.if-is_zero.true))

pub overflow_mul-mb_cols : goal.overflow_mul-mb_cols
overflow_mul-mb_cols c =
    let there : zero_grid (grid_of c.args.layout) ≡ false = sym c.is_zero.ensures ∙ c.if-is_zero.false in
    let lent : Sound (grid_of c.args.layout) (planes_in c.args.picture) = grid-sound _ _ c.requires.lent there in
    let k = lent.few in omega (arith, k)

pub overflow_mul-mb_rows : goal.overflow_mul-mb_rows
overflow_mul-mb_rows c =
    let there : zero_grid (grid_of c.args.layout) ≡ false = sym c.is_zero.ensures ∙ c.if-is_zero.false in
    let lent : Sound (grid_of c.args.layout) (planes_in c.args.picture) = grid-sound _ _ c.requires.lent there in
    let k = lent.few in omega (arith, k)

pub copy_rows-requires : goal.copy_rows-requires
unfolding PlanesHold
copy_rows-requires c =
    let there : zero_grid (grid_of c.args.layout) ≡ false = sym c.is_zero.ensures ∙ c.if-is_zero.false in
    let lent : Sound (grid_of c.args.layout) (planes_in c.args.picture) = grid-sound _ _ c.requires.lent there in
    let scratch : Sound (grid_of c.args.layout) (planes_lent c.args.scratch.now) = grid-sound _ _ c.requires.scratch there in
    (lent.planes luma, scratch.planes luma)

pub overflow_mul-mb_cols-2 : goal.overflow_mul-mb_cols-2
overflow_mul-mb_cols-2 c =
    let there : zero_grid (grid_of c.args.layout) ≡ false = sym c.is_zero.ensures ∙ c.if-is_zero.false in
    let lent : Sound (grid_of c.args.layout) (planes_in c.args.picture) = grid-sound _ _ c.requires.lent there in
    let k = lent.few in omega (arith, k)

pub overflow_mul-mb_rows-2 : goal.overflow_mul-mb_rows-2
overflow_mul-mb_rows-2 c =
    let there : zero_grid (grid_of c.args.layout) ≡ false = sym c.is_zero.ensures ∙ c.if-is_zero.false in
    let lent : Sound (grid_of c.args.layout) (planes_in c.args.picture) = grid-sound _ _ c.requires.lent there in
    let k = lent.few in omega (arith, k)

pub copy_rows-requires-2 : goal.copy_rows-requires-2
unfolding PlanesHold
copy_rows-requires-2 c =
    let there : zero_grid (grid_of c.args.layout) ≡ false = sym c.is_zero.ensures ∙ c.if-is_zero.false in
    let lent : Sound (grid_of c.args.layout) (planes_in c.args.picture) = grid-sound _ _ c.requires.lent there in
    let scratch : Sound (grid_of c.args.layout) (planes_lent c.args.scratch.now) = grid-sound _ _ c.requires.scratch there in
    (lent.planes chroma_u, scratch.planes chroma_u)

pub overflow_mul-mb_cols-3 : goal.overflow_mul-mb_cols-3
overflow_mul-mb_cols-3 c =
    let there : zero_grid (grid_of c.args.layout) ≡ false = sym c.is_zero.ensures ∙ c.if-is_zero.false in
    let lent : Sound (grid_of c.args.layout) (planes_in c.args.picture) = grid-sound _ _ c.requires.lent there in
    let k = lent.few in omega (arith, k)

pub overflow_mul-mb_rows-3 : goal.overflow_mul-mb_rows-3
overflow_mul-mb_rows-3 c =
    let there : zero_grid (grid_of c.args.layout) ≡ false = sym c.is_zero.ensures ∙ c.if-is_zero.false in
    let lent : Sound (grid_of c.args.layout) (planes_in c.args.picture) = grid-sound _ _ c.requires.lent there in
    let k = lent.few in omega (arith, k)

pub copy_rows-requires-3 : goal.copy_rows-requires-3
unfolding PlanesHold
copy_rows-requires-3 c =
    let there : zero_grid (grid_of c.args.layout) ≡ false = sym c.is_zero.ensures ∙ c.if-is_zero.false in
    let lent : Sound (grid_of c.args.layout) (planes_in c.args.picture) = grid-sound _ _ c.requires.lent there in
    let scratch : Sound (grid_of c.args.layout) (planes_lent c.args.scratch.now) = grid-sound _ _ c.requires.scratch there in
    (lent.planes chroma_v, scratch.planes chroma_v)

pub returns-clause-copied : goal.returns-clause-copied
unfolding copy_grid
returns-clause-copied c =
    three-planes c.copy_rows.ensures c.copy_rows-2.ensures c.copy_rows-3.ensures
