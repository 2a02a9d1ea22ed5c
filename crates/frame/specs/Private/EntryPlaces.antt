-- Where 5 does not refuse, each macroblock has its entry.
use Rattle.std.proofs.Common.{◌≡◌, false, ◌||◌, List, ℕ, ◌<◌, arith, length, eqb}
use borrow.Author.Tests.{eqb-true, not-false}
use Rattle.calls.specs.Entries.{KeyLists, InterLists, length_is_not, key_lengths_wrong, inter_lengths_wrong}
use Rattle.planes.proofs.GridLaws.{neither}

pub record_has : {X : Type 0} → (l : List X) (n m : ℕ) → length_is_not n l ≡ false → m < n → m < length l
unfolding length_is_not
record_has l n m e h = omega (arith, h, eqb-true (length l) n (not-false (eqb (length l) n) e))

pub key_has : (l : KeyLists) (n m : ℕ) → key_lengths_wrong l n ≡ false → m < n → (m < length l.modes) × (m < length l.segments) × (m < length l.flags)
unfolding key_lengths_wrong
key_has l n m e h =
    let two = neither (length_is_not n l.modes || length_is_not n l.segments) (length_is_not n l.flags) e in
    let one = neither (length_is_not n l.modes) (length_is_not n l.segments) two.0 in
    (record_has l.modes n m one.0 h, record_has l.segments n m one.1 h, record_has l.flags n m two.1 h)

pub inter_has : (l : InterLists) (n m : ℕ) → inter_lengths_wrong l n ≡ false → m < n
    → (m < length l.modes) × (m < length l.segments) × (m < length l.flags) × (m < length l.references) × (m < length l.inter_modes)
unfolding inter_lengths_wrong
inter_has l n m e h =
    let o1 = length_is_not n l.modes in
    let o2 = length_is_not n l.segments in
    let o3 = length_is_not n l.flags in
    let o4 = length_is_not n l.references in
    let four = neither (o1 || o2 || o3 || o4) (length_is_not n l.inter_modes) e in
    let three = neither (o1 || o2 || o3) o4 four.0 in
    let two = neither (o1 || o2) o3 three.0 in
    let one = neither o1 o2 two.0 in (
      record_has l.modes n m one.0 h,
      record_has l.segments n m one.1 h,
      record_has l.flags n m two.1 h,
      record_has l.references n m three.1 h,
      record_has l.inter_modes n m four.1 h,
    )
