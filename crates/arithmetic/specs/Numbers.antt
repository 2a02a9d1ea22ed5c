-- RFC 6386, section 15.2: the numbers of the loop filter, over the integers.
use Rattle.std.specs.Prelude.{cond, ℕ, ◌^◌, ℤ, pos, negsuc, ◌+ℤ◌, ◌-ℤ◌, nat_abs}
use Rattle.std.specs.Int.Signed.{lt_z, shr_z}

-- c (lines 4861 to 4864): limits to -128..127. `negsuc 127` is -128.
unfoldable pub clamp : ℤ → ℤ
clamp v = cond (lt_z v (negsuc 127)) (negsuc 127) (cond (lt_z v (pos 128)) v (pos 127))

-- u2s (line 4886): a sample as a signed number
unfoldable pub u2s : ℕ → ℤ
u2s v = pos v -ℤ pos 128

-- s2u (line 4889): limits, then gives the sample. c(v) + 128 is never negative, so `nat_abs` only takes it to ℕ.
unfoldable pub s2u : ℤ → ℕ
s2u v = nat_abs (clamp v +ℤ pos 128)

-- v >> k: the right shift propagates the sign bit (lines 4975 and 4976), so it rounds down
unfoldable pub shr : ℤ → (k : ℕ) → ℤ
shr v k = shr_z v (2 ^ k)

-- the lesser of v and 123: for the code alone, which spares the clamps of a + 3 and a + 4
unfoldable pub at_most123 : ℤ → ℤ
at_most123 v = cond (lt_z v (pos 123)) v (pos 123)

-- v limited to -255..255, where a difference of two samples lies: for the code alone, so that three times it stays within 16 bits.
-- `negsuc 254` is -255.
unfoldable pub within255 : ℤ → ℤ
within255 v = cond (lt_z v (negsuc 254)) (negsuc 254) (cond (lt_z v (pos 256)) v (pos 255))
