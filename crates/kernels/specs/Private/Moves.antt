-- The inner samples of a window as a filter value moves them, before any clamp.
use Rattle.std.specs.Prelude.{ℕ, Bool, List, [], ◌∷◌, ℤ, pos, ◌+ℤ◌, ◌-ℤ◌, ◌*ℤ◌}
use Rattle.std.specs.Int.Signed.{shr_z}
use Rattle.arithmetic.specs.Numbers.{u2s, at_most123}
use Rattle.kernels.specs.declared.taps.Near.{Near}
use Rattle.kernels.specs.declared.taps.Taps.{Taps}
use Rattle.kernels.specs.Kernels.{filter_value}

-- a of common_adjust, at most 123
unfoldable pub capped : (outer : Bool) → Near → ℤ
capped outer w = at_most123 (filter_value outer (u2s w.p1) (u2s w.p0) (u2s w.q0) (u2s w.q1))

-- p0 and q0 after common_adjust
unfoldable pub two : (a : ℤ) → Near → List ℤ
two a w = (pos w.p0 +ℤ shr_z (a +ℤ pos 3) 8) ∷ (pos w.q0 -ℤ shr_z (a +ℤ pos 4) 8) ∷ []

-- the inner four after subblock_filter
unfoldable pub four : (a : ℤ) → Near → List ℤ
four a w =
    (pos w.p1 +ℤ shr_z (a +ℤ pos 12) 16)
    ∷ (pos w.p0 +ℤ shr_z (a +ℤ pos 3) 8)
    ∷ (pos w.q0 -ℤ shr_z (a +ℤ pos 4) 8)
    ∷ (pos w.q1 -ℤ shr_z (a +ℤ pos 12) 16) ∷ []

-- k parts in 128 of v
abbrev pub part_of : (k : ℕ) → ℤ → ℤ
part_of k v = shr_z (pos k *ℤ v +ℤ pos 63) 128

-- the inner six after mb_filter
unfoldable pub six : (v : ℤ) → Taps → List ℤ
six v w =
    (pos w.p2 +ℤ part_of 9 v)
    ∷ (pos w.near.p1 +ℤ part_of 18 v)
    ∷ (pos w.near.p0 +ℤ part_of 27 v)
    ∷ (pos w.near.q0 -ℤ part_of 27 v)
    ∷ (pos w.near.q1 -ℤ part_of 18 v)
    ∷ (pos w.q2 -ℤ part_of 9 v) ∷ []
