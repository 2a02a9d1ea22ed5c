-- The grid's samples of one set of planes, put into another.
use Rattle.std.specs.Prelude.{cond, List, ℕ, ◌+◌, ◌*◌, eqb, get_or, set}
use Rattle.planes.specs.GridRefusals.{past_grid}
use Rattle.planes.specs.Planes.{Planes, Grid}
use Rattle.planes.specs.Steps.{steps}

-- n samples, from index `from` on
unfoldable pub copy_row : (source : List ℕ) (from n : ℕ) → List ℕ → List ℕ
copy_row source from n = steps (λ k. λ l. set l (from + k) (get_or source (from + k) 0)) 0 n

-- n rows of w samples
unfoldable pub copy_rows : (source : List ℕ) (stride w n : ℕ) → List ℕ → List ℕ
copy_rows source stride w n = steps (λ r. copy_row source (r * stride) w) 0 n

-- the grid's rows of each plane; what lies outside the grid stays
unfoldable pub copy_grid : Grid → (source into : Planes) → Planes
copy_grid g p t = record {
  y = copy_rows p.y g.luma_stride (16 * g.columns) (16 * g.rows) t.y;
  u = copy_rows p.u g.chroma_stride (8 * g.columns) (8 * g.rows) t.u;
  v = copy_rows p.v g.chroma_stride (8 * g.columns) (8 * g.rows) t.v;
}

-- the same where neither is refused by 1, 2 or 3; else nothing is copied
unfoldable pub copied_grid : Grid → (source into : Planes) → Planes
copied_grid g p t = cond (eqb (past_grid g p (past_grid g t 0)) 0) (copy_grid g p t) t
