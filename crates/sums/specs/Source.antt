-- The source picture that a reconstruction is measured against, and the refusals that it can cause (document 01, the camera side). All numbers are natural, so nothing wraps.
use Rattle.std.specs.Prelude.{Bool, ◌&&◌, ◌||◌, List, ℕ, ◌+◌, ◌-◌, ◌*◌, ◌/◌, ltb, length}
use Rattle.planes.specs.Planes.{Plane, luma, chroma_u, chroma_v, Planes, Grid, plane}

-- width and height are counted in luma samples
pub record Source : Type 0 where
  pub width : ℕ
  pub height : ℕ
  pub samples : Planes
  pub luma_stride : ℕ
  pub chroma_stride : ℕ

abbrev pub source_of : (width height : ℕ) (y u v : List ℕ) (luma_stride chroma_stride : ℕ) → Source
source_of width height y u v luma_stride chroma_stride =
    record { width = width; height = height; samples = record { y = y; u = u; v = v }; luma_stride = luma_stride; chroma_stride = chroma_stride }

-- half, rounded up
abbrev pub half_up : ℕ → ℕ
half_up n = (n + 1) / 2

-- the samples of a row, the rows, and the stride of each plane
abbrev pub wide : Source → Plane → ℕ
wide s luma = s.width
wide s chroma_u = half_up s.width
wide s chroma_v = half_up s.width

abbrev pub high : Source → Plane → ℕ
high s luma = s.height
high s chroma_u = half_up s.height
high s chroma_v = half_up s.height

abbrev pub stride_of : Source → Plane → ℕ
stride_of s luma = s.luma_stride
stride_of s chroma_u = s.chroma_stride
stride_of s chroma_v = s.chroma_stride

-- 8: source width above 16 × columns or height above 16 × rows
unfoldable pub source_too_large : Grid → Source → Bool
source_too_large g s = ltb (16 * g.columns) s.width || ltb (16 * g.rows) s.height

-- a source stride is below its row width or above 65,536
unfoldable pub bad_source_strides : Source → Bool
bad_source_strides s =
    ltb s.luma_stride (wide s luma) || ltb s.chroma_stride (wide s chroma_u)
    || ltb 65536 s.luma_stride || ltb 65536 s.chroma_stride

-- a source plane is short by the rule of 3, counted over width and height
unfoldable pub source_needed : Source → Plane → ℕ
source_needed s q = (high s q - 1) * stride_of s q + wide s q

unfoldable pub short_source : Source → Bool
short_source s =
    ltb (length (plane luma s.samples)) (source_needed s luma)
    || ltb (length (plane chroma_u s.samples)) (source_needed s chroma_u)
    || ltb (length (plane chroma_v s.samples)) (source_needed s chroma_v)

-- 9: width and height are both at least 1, and one of these holds
unfoldable pub bad_source : Source → Bool
bad_source s = ltb 0 s.width && ltb 0 s.height && (bad_source_strides s || short_source s)
