-- Document 01, who can cause which refusal: the conditions on a grid, its strides and its planes. All numbers are natural, so no product wraps.
use Rattle.std.specs.Prelude.{Bool, cond, ◌||◌, ℕ, ◌+◌, ◌-◌, ◌*◌, ltb, eqb, length, Result, Ok, Err}
use Rattle.planes.specs.declared.grid.GridRefusal.{GridRefusal}
use Rattle.planes.specs.declared.grid.GridRefusal.TheVariants.{TooLarge, BadStrides, ShortPlane}
use Rattle.planes.specs.Planes.{Plane, luma, chroma_u, chroma_v, Planes, Grid, side, stride, plane}

-- zero columns or rows: answered before any refusal
unfoldable pub zero_grid : Grid → Bool
zero_grid g = eqb g.columns 0 || eqb g.rows 0

-- 1: columns or rows above 1024
unfoldable pub too_large : Grid → Bool
too_large g = ltb 1024 g.columns || ltb 1024 g.rows

-- 2: luma stride below 16 × columns, chroma stride below 8 × columns, or either above 65,536
unfoldable pub bad_strides : Grid → Bool
bad_strides g =
    ltb g.luma_stride (16 * g.columns) || ltb g.chroma_stride (8 * g.columns)
    || ltb 65536 g.luma_stride || ltb 65536 g.chroma_stride

-- 3: a plane shorter than (rows of samples - 1) × stride + samples a row, counted over the grid
unfoldable pub needed : Grid → Plane → ℕ
needed g q = (side q * g.rows - 1) * stride g q + side q * g.columns

unfoldable pub short_planes : Grid → Planes → Bool
short_planes g p =
    ltb (length (plane luma p)) (needed g luma) || ltb (length (plane chroma_u p)) (needed g chroma_u) || ltb (length (plane chroma_v p)) (needed g chroma_v)

-- 1, 2 and 3 in this order, then what else there is to refuse
unfoldable pub after_grid : Grid → Planes → (rest : ℕ) → ℕ
after_grid g p rest = cond (too_large g) 1 (cond (bad_strides g) 2 (cond (short_planes g p) 3 rest))

-- all three passed over if columns or rows are zero
unfoldable pub past_grid : Grid → Planes → (rest : ℕ) → ℕ
past_grid g p rest = cond (zero_grid g) rest (after_grid g p rest)

-- ---- by the planes' lengths

unfoldable pub short_by : Grid → (y u v : ℕ) → Bool
short_by g y u v = ltb y (needed g luma) || ltb u (needed g chroma_u) || ltb v (needed g chroma_v)

-- 1, 2 or 3, or 0: `proofs/GridLaws.antt` has that it is `past_grid` of planes of these lengths
unfoldable pub grid_refusal : Grid → (y u v : ℕ) → ℕ
grid_refusal g y u v = cond (zero_grid g) 0 (cond (too_large g) 1 (cond (bad_strides g) 2 (cond (short_by g y u v) 3 0)))

-- ---- as the code answers it

abbrev pub grid_refusal_number : GridRefusal → ℕ
grid_refusal_number TooLarge = 1
grid_refusal_number BadStrides = 2
grid_refusal_number ShortPlane = 3

-- the contract of `judge` has that its number is `grid_refusal`
unfoldable pub grid_answer : Grid → (y u v : ℕ) → Result Unit GridRefusal
grid_answer g y u v =
    cond (zero_grid g) (Ok tt)
    (cond (too_large g) (Err TooLarge) (cond (bad_strides g) (Err BadStrides) (cond (short_by g y u v) (Err ShortPlane) (Ok tt))))
