-- RFC 6386, section 15.4: the limits of one macroblock, for any two bytes. RFC levels are at most 63 and RFC sharpness at most 7; beyond them document 01 decides.
use Rattle.std.specs.Prelude.{Bool, cond, ℕ, ◌+◌, ◌-◌, ◌*◌, ◌/◌, min, leb, ltb, eqb}
use Rattle.arithmetic.specs.declared.limits.LoopFilterParams.{LoopFilterParams}

-- 0 becomes 1 (lines 5337 and 5338)
unfoldable pub at_least_one : ℕ → ℕ
at_least_one n = cond (eqb n 0) 1 n

-- interior_limit (lines 5329 to 5338). `9 - sharpness` is 0 from 9 on; a shift right by k divides by 2 ^ k.
unfoldable pub interior_limit : (level sharpness : ℕ) → ℕ
interior_limit level sharpness =
    at_least_one
    (cond (eqb sharpness 0)
    level
    (min (cond (ltb 4 sharpness) (level / 4) (level / 2)) (9 - sharpness)))

-- hev_threshold (lines 5347 to 5364)
unfoldable pub hev_threshold : (level : ℕ) (key : Bool) → ℕ
hev_threshold level key =
    cond key
    (cond (leb 40 level) 2 (cond (leb 15 level) 1 0))
    (cond (leb 40 level) 3 (cond (leb 20 level) 2 (cond (leb 15 level) 1 0)))

-- mbedge_limit and sub_bedge_limit (lines 5298 to 5303), stopped at 255
unfoldable pub mbedge_limit : (level interior : ℕ) → ℕ
mbedge_limit level interior = min ((level + 2) * 2 + interior) 255

unfoldable pub sub_bedge_limit : (level interior : ℕ) → ℕ
sub_bedge_limit level interior = min (level * 2 + interior) 255

-- the four limits, from an interior limit that is given
unfoldable pub with_interior : (level interior : ℕ) (key : Bool) → LoopFilterParams
with_interior level interior key =
    record {
      interior_limit = interior;
      hev_threshold = hev_threshold level key;
      mbedge_limit = mbedge_limit level interior;
      sub_bedge_limit = sub_bedge_limit level interior;
    }

unfoldable pub derive : (level sharpness : ℕ) (key : Bool) → LoopFilterParams
derive level sharpness key = with_interior level (interior_limit level sharpness) key
