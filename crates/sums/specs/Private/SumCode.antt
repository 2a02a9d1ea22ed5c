-- What the private functions of the sums promise. `proofs/SumRefusals.antt` joins it to `specs/Sums.antt`.
use Rattle.std.specs.Prelude.{Bool, cond, ℕ, ◌+◌, ◌-◌, ◌*◌, ◌≤◌, ◌<◌, ◌^◌, ltb, length, Result, Ok, Err}
use Rattle.planes.specs.Planes.{Plane, luma, chroma_u, chroma_v, Planes, Grid, stride, plane}
use Rattle.planes.specs.declared.layout.PlaneLayout.{PlaneLayout}
use Rattle.sums.specs.Source.{Source, stride_of}
use Rattle.sums.specs.Source as of
use Rattle.sums.specs.declared.answers.SearchRefusal.{SearchRefusal}
use Rattle.sums.specs.declared.answers.SearchRefusal.TheVariants.{SumTooLarge}

-- a sum of 64 bits, else 10
unfoldable pub fitting : ℕ → Result ℕ SearchRefusal
fitting n = cond (ltb n (2 ^ 64)) (Ok n) (Err SumTooLarge)

-- rows of so many samples at this stride do not fit the length
unfoldable pub short_of : (len rows stride width : ℕ) → Bool
short_of len rows stride width = ltb len ((rows - 1) * stride + width)

-- what 1 leaves of a grid that is not zero
abbrev pub Small : PlaneLayout → Type 0
Small l = 0 < l.mb_cols → 0 < l.mb_rows → (l.mb_cols ≤ 1024) × (l.mb_rows ≤ 1024)

-- what 1, 2, 3, 8 and 9 leave of a source that has a sample
pub record Room (g : Grid) (p : Planes) (s : Source) (q : Plane) : Type 0 where
  pub wide : of.wide s q ≤ 16384
  pub high : of.high s q ≤ 16384
  pub grid : (of.high s q - 1) * stride g q + of.wide s q ≤ length (plane q p)
  pub source : (of.high s q - 1) * stride_of s q + of.wide s q ≤ length (plane q s.samples)

pub record Summable (g : Grid) (p : Planes) (s : Source) : Type 0 where
  pub y : Room g p s luma
  pub u : Room g p s chroma_u
  pub v : Room g p s chroma_v
