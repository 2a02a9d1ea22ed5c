-- Change request 2: the interior limits as a table (RFC 6386, section 15.4, lines 5329 to 5338).
use Rattle.std.specs.Prelude.{List, [], ℕ, ◌/◌, ◌%◌, min, length, get_or}
use Rattle.arithmetic.specs.Limits.{interior_limit}
use Rattle.arithmetic.specs.Tables.{table, fill}

-- a row for each sharpness 0 to 7, and in it an entry for each level 0 to 63
unfoldable pub interior_limits : List (List ℕ)
interior_limits = table 8 (λ sharpness. table 64 (λ level. interior_limit level sharpness))

-- the table's byte i, one row after the other
unfoldable pub interior_byte : ℕ → ℕ
interior_byte i = get_or (get_or interior_limits (i / 64) []) (i % 64) 0

-- how many of its 512 bytes a slice takes
unfoldable pub bytes_taken : List ℕ → ℕ
bytes_taken l = min (length l) 512

-- the slice with these bytes first; the rest of it stays
unfoldable pub with_bytes : List ℕ → List ℕ
with_bytes l = fill (bytes_taken l) interior_byte l
