-- The error sum of a reconstruction against its source, over natural numbers, and what a call for it answers (document 01, Search).
use Rattle.std.specs.Prelude.{Bool, cond, List, ℕ, zero, suc, ◌+◌, ◌*◌, ◌-◌, ◌^◌, leb, eqb, get_or}
use Rattle.arithmetic.specs.Outcome.{Outcome, gives, refuses}
use Rattle.planes.specs.Planes.{Plane, luma, chroma_u, chroma_v, Planes, Grid, stride, plane}
use Rattle.planes.specs.GridRefusals.{past_grid}
use Rattle.sums.specs.Source.{Source, wide, high, stride_of, source_too_large, bad_source}

-- the square of the difference of two samples; `-` stops at 0
unfoldable pub squared : (a b : ℕ) → ℕ
squared a b = ((a - b) + (b - a)) * ((a - b) + (b - a))

-- over n samples of a row, from i in one plane and from j in the other
unfoldable pub row_sum : List ℕ → (i : ℕ) → List ℕ → (j n : ℕ) → ℕ
row_sum a i b j zero = 0
row_sum a i b j (suc n) = row_sum a i b j n + squared (get_or a (i + n) 0) (get_or b (j + n) 0)

-- over n rows of w samples, at the strides s and t
unfoldable pub rows_sum : List ℕ → (s : ℕ) → List ℕ → (t w n : ℕ) → ℕ
rows_sum a s b t w zero = 0
rows_sum a s b t w (suc n) = rows_sum a s b t w n + row_sum a (n * s) b (n * t) w

-- over what the source has of a plane
unfoldable pub plane_sum : Grid → Planes → Source → Plane → ℕ
plane_sum g p s q = rows_sum (plane q p) (stride g q) (plane q s.samples) (stride_of s q) (wide s q) (high s q)

unfoldable pub error_sum : Grid → Planes → Source → ℕ
error_sum g p s = plane_sum g p s luma + plane_sum g p s chroma_u + plane_sum g p s chroma_v

-- 8 and 9, then what else there is to refuse
unfoldable pub past_source : Grid → Source → (rest : ℕ) → ℕ
past_source g s rest = cond (source_too_large g s) 8 (cond (bad_source s) 9 rest)

-- 10: the error sum exceeds 64 bits
unfoldable pub sum_too_large : (sum : ℕ) → Bool
sum_too_large sum = leb (2 ^ 64) sum

-- the number of the refusal, or 0: 1, 2, 3, 8, 9, 10
unfoldable pub sum_refusal : Grid → Planes → Source → ℕ
sum_refusal g p s = past_grid g p (past_source g s (cond (sum_too_large (error_sum g p s)) 10 0))

-- what the call answers
unfoldable pub sum_answer : Grid → Planes → Source → Outcome ℕ
sum_answer g p s = cond (eqb (sum_refusal g p s) 0) (gives (error_sum g p s)) (refuses (sum_refusal g p s))
