-- One call: what its answer tells of its refusal, and what an accepted call shows of its grid.
use mathlib.Core.Path.{◌≡◌, refl, sym, ap, ◌∙◌}
use mathlib.Core.Logic.{◌⊎◌, inl, inr, ◌≢◌}
use mathlib.Core.Bool.{Bool, true, false, cond, ◌||◌}
use Prim.Native.Nat.{ℕ, zero, suc, ◌*◌, ◌≤◌, ◌<◌}
use native.Mathlib.Nat.{zero-mul, mul-zero, mul-pos, mul-le-mul}
use native.Mathlib.Omega.{arith}
use lib.Dec.{eqb, eqb-suc-zero, ltb}
use lib.ListN.{length}
use borrow.Author.Tests.{ltb-false, le-ltb}
use Rattle.arithmetic.specs.Outcome.{Outcome, gives, refuses}
use Rattle.planes.specs.Steps.{steps}
use Rattle.planes.specs.Planes.{Plane, luma, chroma_u, chroma_v, Planes, Grid, side, stride, plane, macroblocks, StridesHold}
use Rattle.planes.specs.GridRefusals.{zero_grid, too_large, bad_strides, short_planes, after_grid}
use Rattle.calls.specs.Pass.{Pass, Call, Progress, refusal, step, count, next, answer, planes_after}

-- ---- tests

true-false : {A : Type 0} → true ≡ false → A
true-false e = let z : ◌≡◌ {A = ℕ} 0 1 = cc in absurd (omega arith)

false-or : (a b : Bool) → (a || b) ≡ false → (a ≡ false) × (b ≡ false)
false-or true b e = true-false e
false-or false b e = (refl, e)

record NoneHolds (t b s o e : Bool) : Type 0 where
  size : t ≡ false
  strides : b ≡ false
  planes : s ≡ false
  lists : o ≡ false
  entries : e ≡ false

-- the tests of a pass in their order: of a call that is not refused the first holds, or none
ladder :
    (z t b s o e l : Bool) → ◌≡◌ {A = ℕ} (cond z 0 (cond t 1 (cond b 2 (cond s 3 (cond o 5 (cond e 6 (cond l 7 0))))))) 0 → (z ≡ true) ⊎ NoneHolds t b s o e
ladder true t b s o e l h = inl refl
ladder false true b s o e l h = absurd (omega arith)
ladder false false true s o e l h = absurd (omega arith)
ladder false false false true o e l h = absurd (omega arith)
ladder false false false false true e l h = absurd (omega arith)
ladder false false false false false true l h = absurd (omega arith)
ladder false false false false false false true h = absurd (omega arith)
ladder false false false false false false false h = inr (record { size = refl; strides = refl; planes = refl; lists = refl; entries = refl })

cond_same : (z : Bool) → ◌≡◌ {A = ℕ} (cond z 0 0) 0
cond_same true = refl
cond_same false = refl

-- a grid that has a macroblock is not zero
some-macroblock : (c r : ℕ) → 0 < c * r → (eqb c 0 || eqb r 0) ≡ false
some-macroblock zero r h = absurd (omega (arith, rw zero-mul at h))
some-macroblock (suc c) zero h = absurd (omega (arith, rw mul-zero at h))
some-macroblock (suc c) (suc r) h = rw (eqb-suc-zero c, eqb-suc-zero r)

pub zero-macroblocks : (c r : ℕ) → (eqb c 0 || eqb r 0) ≡ true → c * r ≡ 0
zero-macroblocks zero r h = zero-mul r
zero-macroblocks (suc c) zero h = mul-zero (suc c)
zero-macroblocks (suc c) (suc r) h = true-false (sym h ∙ rw (eqb-suc-zero c, eqb-suc-zero r))

pub not-zero-macroblocks : (c r : ℕ) → (eqb c 0 || eqb r 0) ≡ false → 0 < c * r
not-zero-macroblocks zero r h = true-false h
not-zero-macroblocks (suc c) zero h = true-false (sym (rw (eqb-suc-zero c)) ∙ h)
not-zero-macroblocks (suc c) (suc r) h = mul-pos (omega arith) (omega arith)

eqb_no : (x : ℕ) → x ≢ 0 → eqb x 0 ≡ false
eqb_no zero ne = absurd (ne refl)
eqb_no (suc x) ne = eqb-suc-zero x

-- ---- the answer tells whether a call is refused

module _ (W : Pass) (a : Call W) where
  pub record Taken (d : Progress) : Type 0 where
    pub not-refused : refusal W a ≡ 0
    pub counted : d.count ≡ count W a
    pub goes_on : d.next ≡ next W a

  answer-by : (d : Progress) (n : ℕ) → refusal W a ≡ n → cond (eqb n 0) (gives (record { count = count W a; next = next W a })) (refuses n) ≡ gives d → Taken d
  answer-by d zero r e = let o : record { count = count W a; next = next W a } ≡ d = cc in record { not-refused = r; counted = sym (ap (λ (z : Progress). z.count) o); goes_on = sym (ap (λ (z : Progress). z.next) o) }
  answer-by d (suc n) r e = let z : ◌≡◌ {A = ℕ} 0 1 = cc (eqb-suc-zero n) in absurd (omega arith)

  pub taken : (d : Progress) → answer W a ≡ gives d → Taken d
  unfolding answer
  taken d e = answer-by d (refusal W a) refl e

  pub planes-taken : refusal W a ≡ 0 → planes_after W a ≡ steps (step W a.grid a.settings (W.entry a.carried)) a.start (count W a) a.lent
  unfolding planes_after
  planes-taken e = rw (e, planes_after)

  pub answer-taken : refusal W a ≡ 0 → answer W a ≡ gives (record { count = count W a; next = next W a })
  unfolding answer
  answer-taken e = rw (e, answer)

  planes-refused : refusal W a ≢ 0 → planes_after W a ≡ a.lent
  unfolding planes_after
  planes-refused ne = rw (eqb_no (refusal W a) ne, planes_after)

  refused-by : (number n : ℕ) → refusal W a ≡ n → cond {A = Outcome Progress} (eqb n 0) (gives (record { count = count W a; next = next W a })) (refuses n) ≡ refuses number → (number ≡ refusal W a) × (number ≢ 0)
  refused-by number zero r e = let z : ◌≡◌ {A = ℕ} 0 1 = cc in absurd (omega arith)
  refused-by number (suc n) r e = let o : suc n ≡ number = cc (eqb-suc-zero n) in (cc, λ z. omega arith)

  -- a refused call answers its number, and the planes lent to it come back as they were
  pub refused-keeps : (number : ℕ) → answer W a ≡ refuses number → (number ≡ refusal W a) × (number ≢ 0) × (planes_after W a ≡ a.lent)
  unfolding answer
  refused-keeps number e =
      let (same, ne) = refused-by number (refusal W a) refl e in
      (same, ne, planes-refused (λ z. ne (same ∙ z)))

-- ---- what an accepted call shows

long-enough : (g : Grid) (p p' : Planes) → ((q : Plane) → length (plane q p') ≡ length (plane q p)) → short_planes g p ≡ short_planes g p'
unfolding short_planes
long-enough g p p' same = rw (same luma, same chroma_u, same chroma_v)

module _ (W : Pass) (a : Call W) (ok : refusal W a ≡ 0) where
  -- zero columns or rows, or no test of 1, 2, 3, 5 and 6 holds
  abbrev Shows : Type 0
  Shows =
      (zero_grid a.grid ≡ true)
      ⊎ NoneHolds (too_large a.grid) (bad_strides a.grid) (short_planes a.grid a.lent) (W.wrong_length a.carried (macroblocks a.grid)) (W.bad_entry a.carried)

  shows : Shows
  unfolding refusal after_grid
  shows =
      ladder (zero_grid a.grid) (too_large a.grid) (bad_strides a.grid) (short_planes a.grid a.lent)
      (W.wrong_length a.carried (macroblocks a.grid)) (W.bad_entry a.carried) (ltb (macroblocks a.grid) a.start) ok

  -- its strides hold a row of the grid
  pub strides-hold : 0 < macroblocks a.grid → StridesHold a.grid
  unfolding zero_grid bad_strides StridesHold
  strides-hold some q = go shows
    where
      at : (q : Plane) → (ltb a.grid.luma_stride (16 * a.grid.columns) ≡ false) × (ltb a.grid.chroma_stride (8 * a.grid.columns) ≡ false)
          → side q * a.grid.columns ≤ stride a.grid q
      at luma (y, uv) = ltb-false _ _ y
      at chroma_u (y, uv) = ltb-false _ _ uv
      at chroma_v (y, uv) = ltb-false _ _ uv

      go : Shows → side q * a.grid.columns ≤ stride a.grid q
      go (inl z) = true-false (sym z ∙ some-macroblock a.grid.columns a.grid.rows some)
      go (inr s) = at q (false-or _ _ (false-or _ _ (false-or _ _ s.strides).0).0)

  -- its grid has at most 1024 × 1024 macroblocks
  pub few : macroblocks a.grid ≤ 1048576
  unfolding zero_grid too_large
  few = go shows
    where
      go : Shows → macroblocks a.grid ≤ 1048576
      go (inl z) = omega (arith, zero-macroblocks a.grid.columns a.grid.rows z)
      go (inr s) =
          let b = false-or (ltb 1024 a.grid.columns) (ltb 1024 a.grid.rows) s.size in
          mul-le-mul (ltb-false 1024 a.grid.columns b.0) (ltb-false 1024 a.grid.rows b.1)

  -- a call from start 0 with the same grid and the same carried, and planes as long, is accepted too
  pub accepted-too :
      (b : Call W) → b.grid ≡ a.grid → b.carried ≡ a.carried → b.start ≡ 0
      → ((q : Plane) → length (plane q b.lent) ≡ length (plane q a.lent)) → refusal W b ≡ 0
  unfolding refusal after_grid
  accepted-too b eg ec et same = go shows
    where
      go : Shows → cond (zero_grid b.grid) 0 (after_grid b.grid b.lent (cond (W.wrong_length b.carried (macroblocks b.grid)) 5 (cond (W.bad_entry b.carried) 6 (cond (ltb (macroblocks b.grid) b.start) 7 0)))) ≡ 0
      go (inl z) = rw (eg, z)
      go (inr s) =
          rw (eg, ec, et, ← (long-enough a.grid a.lent b.lent same), s.size, s.strides, s.planes, s.lists, s.entries, le-ltb (macroblocks a.grid) 0 (omega arith))
          (cond_same (zero_grid a.grid))
