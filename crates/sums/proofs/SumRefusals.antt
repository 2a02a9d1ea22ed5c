-- The refusals of the sums: what each condition gives, and what is left where none holds.
use mathlib.Core.Path.{◌≡◌, refl, sym, ap, ◌∙◌}
use mathlib.Core.Bool.{Bool, true, false, cond, ◌&&◌, ◌||◌}
use mathlib.Core.Logic.{◌⊎◌, inl, inr, ⊎_elim}
use Prim.Native.Nat.{ℕ, ◌+◌, ◌*◌, ◌-◌, ◌≤◌, ◌<◌, ◌^◌}
use native.Mathlib.Nat.{mul-le-mul_right, eq-zero-or-pos}
use native.Mathlib.Omega.{arith}
use lib.Dec.{ltb, eqb}
use lib.ListN.{length}
use borrow.Author.Tests.{le-leb, lt-leb, lt-ltb, le-ltb, ne_eqb, eqb-true, eqb-false, ltb-true, ltb-false}
use Rattle.arithmetic.specs.Outcome.{gives, refuses}
use Rattle.planes.specs.Planes.{Plane, luma, chroma_u, chroma_v, Planes, Grid, side, stride, plane, PlanesHold}
use Rattle.arithmetic.specs.Outcome.{outcome, number_of}
use Rattle.planes.specs.GridRefusals.{past_grid, grid_refusal, grid_refusal_number}
use Rattle.planes.specs.declared.grid.GridRefusal.{GridRefusal}
use Rattle.planes.specs.declared.grid.GridRefusal.TheVariants as grid
use Rattle.planes.proofs.GridLaws.{by_lengths}
use Rattle.planes.proofs.GridLaws.{neither}
use Rattle.planes.proofs.PastGrid.{Sound, grid-there, grid-sound, grid-passes, grid-stops, grid-none}
use Rattle.sums.specs.Source.{Source, half_up, source_too_large, bad_source_strides, short_source, source_needed, bad_source}
use Rattle.std.specs.Int.{div_ceil}
use Rattle.sums.specs.Source as of
use Rattle.sums.specs.Sums.{error_sum, plane_sum, past_source, sum_too_large, sum_refusal, sum_answer}
use Rattle.sums.specs.Private.SumCode.{fitting, Room, Summable}
use Rattle.sums.specs.Answers.{search_refusal_number, sum_outcome}
use Rattle.sums.specs.GridToSearch.{of_grid}
use Rattle.sums.specs.declared.answers.SearchRefusal.{SearchRefusal}
use Rattle.std.specs.Prelude.{Result, Ok, Err}
use Rattle.sums.specs.declared.answers.SearchRefusal.TheVariants.{TooLarge, BadStrides, ShortPlane, BadEntry, SourceTooLarge, BadSource, SumTooLarge}
use Rattle.sums.proofs.SumLaws.{no-width, no-height}

-- ---- tests

pub pos_of : (n : ℕ) → (n ≡ 0 → ⊥) → 0 < n
pos_of n h = ⊎_elim (λ z. absurd (h z)) (λ z. z) (eq-zero-or-pos n)

true-false : {A : Type 0} → true ≡ false → A
true-false e = let z : ◌≡◌ {A = ℕ} 0 1 = cc in absurd (omega arith)

-- a smaller window is within what a larger one takes
pub within : (s w h W H len : ℕ) → w ≤ W → h ≤ H → (H - 1) * s + W ≤ len → (h - 1) * s + w ≤ len
within s w h W H len a b k = omega (arith, mul-le-mul_right {m = h - 1} {n = H - 1} s (omega arith))

-- ---- 8 and 9

-- a source with a sample
pub sampled_source : (s : Source) → (eqb s.width 0 || eqb s.height 0) ≡ false → (0 < s.width) × (0 < s.height)
sampled_source s e =
    let n = neither (eqb s.width 0) (eqb s.height 0) e in
    (pos_of s.width (eqb-false s.width 0 n.0), pos_of s.height (eqb-false s.height 0 n.1))

-- and one without: its width or its height is 0
pub empty_source : (s : Source) → (eqb s.width 0 || eqb s.height 0) ≡ true → (s.width ≡ 0) ⊎ (s.height ≡ 0)
empty_source s e = by (eqb s.width 0) (eqb s.height 0) (eqb-true s.width 0) (eqb-true s.height 0) e
  where
    by : (a b : Bool) → (a ≡ true → s.width ≡ 0) → (b ≡ true → s.height ≡ 0) → (a || b) ≡ true → (s.width ≡ 0) ⊎ (s.height ≡ 0)
    by true b f g e = inl (f refl)
    by false b f g e = inr (g e)

-- what strides that are not off say
pub small_strides : (s : Source) → bad_source_strides s ≡ false → (s.luma_stride ≤ 65536) × (s.chroma_stride ≤ 65536)
unfolding bad_source_strides
small_strides s e =
    let (e3, d) = neither (ltb s.luma_stride (of.wide s luma) || ltb s.chroma_stride (of.wide s chroma_u) || ltb 65536 s.luma_stride) (ltb 65536 s.chroma_stride) e in
    let (e2, c) = neither (ltb s.luma_stride (of.wide s luma) || ltb s.chroma_stride (of.wide s chroma_u)) (ltb 65536 s.luma_stride) e3 in
    (ltb-false 65536 s.luma_stride c, ltb-false 65536 s.chroma_stride d)

module _ (g : Grid) (s : Source) where
  pub eight : source_too_large g s ≡ true → 8 ≡ past_source g s 0
  unfolding past_source
  eight e = rw e

  pub nothing-wide : source_too_large g s ≡ false → s.width ≡ 0 → 0 ≡ past_source g s 0
  unfolding past_source bad_source
  nothing-wide a w = rw (a, le-ltb 0 s.width (omega arith))

  pub nothing-high : source_too_large g s ≡ false → 0 < s.width → s.height ≡ 0 → 0 ≡ past_source g s 0
  unfolding past_source bad_source
  nothing-high a w h = rw (a, lt-ltb 0 s.width w, le-ltb 0 s.height (omega arith))

  pub no-sample : source_too_large g s ≡ false → (eqb s.width 0 || eqb s.height 0) ≡ true → 0 ≡ past_source g s 0
  no-sample a e = ⊎_elim (nothing-wide a) (λ h. ⊎_elim (nothing-wide a) (λ w. nothing-high a w h) (eq-zero-or-pos s.width)) (empty_source s e)

  pub is-source : source_too_large g s ≡ false → (eqb s.width 0 || eqb s.height 0) ≡ false
      → (b : Bool) → b ≡ (bad_source_strides s || short_source s) → cond b 9 0 ≡ past_source g s 0
  unfolding past_source bad_source
  is-source a e b f = let k = sampled_source s e in rw (a, lt-ltb 0 s.width k.0, lt-ltb 0 s.height k.1, f)

  -- what 8 leaves of a grid that passes 1
  pub small_source : (columns rows : ℕ) → columns ≡ g.columns → rows ≡ g.rows → (0 < columns → 0 < rows → (columns ≤ 1024) × (rows ≤ 1024))
      → source_too_large g s ≡ false → (eqb s.width 0 || eqb s.height 0) ≡ false → (0 < s.width) × (0 < s.height) × (s.width ≤ 16384) × (s.height ≤ 16384)
  unfolding source_too_large
  small_source columns rows ec er small a e =
      let k = sampled_source s e in
      let n = neither (ltb (16 * g.columns) s.width) (ltb (16 * g.rows) s.height) a in
      let w = ltb-false (16 * g.columns) s.width n.0 in
      let h = ltb-false (16 * g.rows) s.height n.1 in
      let q = small (omega arith) (omega arith) in omega arith

  pub source-passes : (rest : ℕ) → past_source g s 0 ≡ 0 → past_source g s rest ≡ rest
  unfolding past_source
  source-passes rest e = by (source_too_large g s) (bad_source s) e
    where
      by : (a b : Bool) → ◌≡◌ {A = ℕ} (cond a 8 (cond b 9 0)) 0 → cond a 8 (cond b 9 rest) ≡ rest
      by true b e = absurd (omega arith)
      by false true e = absurd (omega arith)
      by false false e = refl

  pub source-stops : (rest n : ℕ) → n ≡ past_source g s 0 → (n ≡ 0 → ⊥) → past_source g s rest ≡ n
  unfolding past_source
  source-stops rest n e nz = by (source_too_large g s) (bad_source s) e
    where
      by : (a b : Bool) → n ≡ cond a 8 (cond b 9 0) → cond a 8 (cond b 9 rest) ≡ n
      by true b e = sym e
      by false true e = sym e
      by false false e = absurd (nz e)

  -- what 8 leaves
  pub in-grid : past_source g s 0 ≡ 0 → (s.width ≤ 16 * g.columns) × (s.height ≤ 16 * g.rows)
  unfolding past_source source_too_large
  in-grid e = by (ltb (16 * g.columns) s.width) (ltb (16 * g.rows) s.height) (bad_source s) (ltb-false (16 * g.columns) s.width) (ltb-false (16 * g.rows) s.height) e
    where
      by : (a b d : Bool) → (a ≡ false → s.width ≤ 16 * g.columns) → (b ≡ false → s.height ≤ 16 * g.rows) → ◌≡◌ {A = ℕ} (cond (a || b) 8 (cond d 9 0)) 0
          → (s.width ≤ 16 * g.columns) × (s.height ≤ 16 * g.rows)
      by true b d ha hb e = absurd (omega arith)
      by false true d ha hb e = absurd (omega arith)
      by false false d ha hb e = (ha refl, hb refl)

  -- what 9 leaves of a source that has a sample
  pub source-room : past_source g s 0 ≡ 0 → 0 < s.width → 0 < s.height → (q : Plane) → (of.high s q - 1) * of.stride_of s q + of.wide s q ≤ length (plane q s.samples)
  unfolding past_source bad_source short_source source_needed
  source-room e w h =
      by (source_too_large g s) (ltb 0 s.width) (ltb 0 s.height) (bad_source_strides s) (ltb (length s.samples.y) (source_needed s luma)) (ltb (length s.samples.u) (source_needed s chroma_u)) (ltb (length s.samples.v) (source_needed s chroma_v))
      (lt-ltb 0 s.width w) (lt-ltb 0 s.height h) (ltb-false (length s.samples.y) (source_needed s luma)) (ltb-false (length s.samples.u) (source_needed s chroma_u)) (ltb-false (length s.samples.v) (source_needed s chroma_v)) e
    where
      by : (a x y b i j k : Bool) → x ≡ true → y ≡ true → (i ≡ false → source_needed s luma ≤ length s.samples.y) → (j ≡ false → source_needed s chroma_u ≤ length s.samples.u) → (k ≡ false → source_needed s chroma_v ≤ length s.samples.v)
          → ◌≡◌ {A = ℕ} (cond a 8 (cond (x && y && (b || (i || j || k))) 9 0)) 0 → (q : Plane) → source_needed s q ≤ length (plane q s.samples)
      by true x y b i j k ex ey hi hj hk e q = absurd (omega arith)
      by false false y b i j k ex ey hi hj hk e q = true-false (sym ex)
      by false true false b i j k ex ey hi hj hk e q = true-false (sym ey)
      by false true true true i j k ex ey hi hj hk e q = absurd (omega arith)
      by false true true false true j k ex ey hi hj hk e q = absurd (omega arith)
      by false true true false false true k ex ey hi hj hk e q = absurd (omega arith)
      by false true true false false false true ex ey hi hj hk e q = absurd (omega arith)
      by false true true false false false false ex ey hi hj hk e luma = hi refl
      by false true true false false false false ex ey hi hj hk e chroma_u = hj refl
      by false true true false false false false ex ey hi hj hk e chroma_v = hk refl

-- ---- what is left of a source that has a sample

module _ (g : Grid) (p : Planes) (s : Source) (e : past_grid g p 0 ≡ 0) (f : past_source g s 0 ≡ 0) (w : 0 < s.width) (h : 0 < s.height) where
  pub sampled : Sound g p
  sampled = let k = in-grid g s f in grid-sound g p e (grid-there g (λ z. omega arith) (λ z. omega arith))

  pub summable : Summable g p s
  unfolding PlanesHold
  summable = record { y = room luma; u = room chroma_u; v = room chroma_v }
    where
      within-grid : (q : Plane) → (of.wide s q ≤ side q * g.columns) × (of.high s q ≤ side q * g.rows)
      within-grid luma = in-grid g s f
      within-grid chroma_u = let k = in-grid g s f in omega arith
      within-grid chroma_v = let k = in-grid g s f in omega arith

      most : (q : Plane) → (side q * g.columns ≤ 16384) × (side q * g.rows ≤ 16384)
      most luma = let k = sampled.few in omega arith
      most chroma_u = let k = sampled.few in omega arith
      most chroma_v = let k = sampled.few in omega arith

      room : (q : Plane) → Room g p s q
      room q =
          let k = within-grid q in let m = most q in
          record {
            wide = omega arith;
            high = omega arith;
            grid = within (stride g q) (of.wide s q) (of.high s q) (side q * g.columns) (side q * g.rows) (length (plane q p)) k.0 k.1 (sampled.planes q);
            source = source-room g s f w h q;
          }

-- ---- the answer

-- 1, 2, 3, 8 and 9 come before what is left to refuse
pub sum_stops : (g : Grid) (p : Planes) (s : Source) (rest n : ℕ) → n ≡ past_grid g p (past_source g s 0) → (n ≡ 0 → ⊥) → past_grid g p (past_source g s rest) ≡ n
sum_stops g p s rest n e nz = by (eqb (past_grid g p 0) 0) refl
  where
    by : (b : Bool) → eqb (past_grid g p 0) 0 ≡ b → past_grid g p (past_source g s rest) ≡ n
    by true t =
        let f : past_grid g p 0 ≡ 0 = eqb-true (past_grid g p 0) 0 t in
        grid-passes g p (past_source g s rest) f ∙ source-stops g s rest n (e ∙ grid-passes g p (past_source g s 0) f) nz
    by false t =
        let f : past_grid g p 0 ≡ 0 → ⊥ = eqb-false (past_grid g p 0) 0 t in
        grid-stops g p (past_source g s rest) (past_grid g p 0) refl f
        ∙ sym (e ∙ grid-stops g p (past_source g s 0) (past_grid g p 0) refl f)

module _ (g : Grid) (p : Planes) (s : Source) where
  refused : (n : ℕ) → sum_refusal g p s ≡ n → (n ≡ 0 → ⊥) → refuses n ≡ sum_answer g p s
  unfolding sum_answer
  refused n e nz = rw (ne_eqb (sum_refusal g p s) 0 (λ z. nz (sym e ∙ z)), e)

  pub ends-before : (n : ℕ) → n ≡ past_grid g p (past_source g s 0) → (n ≡ 0 → ⊥) → refuses n ≡ sum_answer g p s
  unfolding sum_refusal
  ends-before n e nz = refused n (sum_stops g p s (cond (sum_too_large (error_sum g p s)) 10 0) n e nz) nz

  pub judged : past_grid g p 0 ≡ 0 → past_source g s 0 ≡ 0 → sum_refusal g p s ≡ cond (sum_too_large (error_sum g p s)) 10 0
  unfolding sum_refusal
  judged e f = grid-passes g p (past_source g s (cond (sum_too_large (error_sum g p s)) 10 0)) e ∙ source-passes g s (cond (sum_too_large (error_sum g p s)) 10 0) f

  pub ends-sum : past_grid g p 0 ≡ 0 → past_source g s 0 ≡ 0 → sum_outcome (fitting (error_sum g p s)) ≡ sum_answer g p s
  unfolding sum_answer fitting sum_too_large
  ends-sum e f = by (ltb (error_sum g p s) (2 ^ 64)) refl
    where
      by : (b : Bool) → ltb (error_sum g p s) (2 ^ 64) ≡ b → sum_outcome (cond b (Ok (error_sum g p s)) (Err SumTooLarge)) ≡ cond (eqb (sum_refusal g p s) 0) (gives (error_sum g p s)) (refuses (sum_refusal g p s))
      by true t = rw (judged e f, lt-leb (2 ^ 64) (error_sum g p s) (ltb-true (error_sum g p s) (2 ^ 64) t))
      by false t = rw (judged e f, le-leb (2 ^ 64) (error_sum g p s) (ltb-false (error_sum g p s) (2 ^ 64) t))

  pub ends-fit : past_grid g p 0 ≡ 0 → past_source g s 0 ≡ 0 → error_sum g p s < 2 ^ 64 → gives (error_sum g p s) ≡ sum_answer g p s
  unfolding sum_answer sum_too_large
  ends-fit e f lt = rw (judged e f, lt-leb (2 ^ 64) (error_sum g p s) lt)

  -- a width or height of 0 sums to 0
  pub no-sample-wide : s.width ≡ 0 → error_sum g p s ≡ 0
  unfolding error_sum plane_sum
  no-sample-wide e = rw e (omega (arith, no-width p.y g.luma_stride s.samples.y s.luma_stride s.height, no-width p.u g.chroma_stride s.samples.u s.chroma_stride (half_up s.height), no-width p.v g.chroma_stride s.samples.v s.chroma_stride (half_up s.height)))

  pub no-sample-high : s.height ≡ 0 → error_sum g p s ≡ 0
  unfolding error_sum plane_sum
  no-sample-high e = rw e (omega (arith, no-height p.y g.luma_stride s.samples.y s.luma_stride s.width, no-height p.u g.chroma_stride s.samples.u s.chroma_stride (half_up s.width), no-height p.v g.chroma_stride s.samples.v s.chroma_stride (half_up s.width)))

-- a source without a sample
pub none-sums : (g : Grid) (p : Planes) (s : Source) → (eqb s.width 0 || eqb s.height 0) ≡ true → error_sum g p s ≡ 0
none-sums g p s e = ⊎_elim (no-sample-wide g p s) (no-sample-high g p s) (empty_source s e)

pub ends-empty : (g : Grid) (p : Planes) (s : Source) → past_grid g p 0 ≡ 0 → past_source g s 0 ≡ 0 → error_sum g p s ≡ 0 → gives 0 ≡ sum_answer g p s
ends-empty g p s e f z = ap gives (sym z) ∙ ends-fit g p s e f (omega arith)

-- ---- the code's answers, step by step

pub some_search : (n : SearchRefusal) → search_refusal_number n ≡ 0 → ⊥
some_search TooLarge z = omega arith
some_search BadStrides z = omega arith
some_search ShortPlane z = omega arith
some_search BadEntry z = omega arith
some_search SourceTooLarge z = omega arith
some_search BadSource z = omega arith
some_search SumTooLarge z = omega arith

same_number : (n : GridRefusal) → search_refusal_number (of_grid n) ≡ grid_refusal_number n
same_number grid.TooLarge = refl
same_number grid.BadStrides = refl
same_number grid.ShortPlane = refl

module _ (g : Grid) (p : Planes) (y u v : ℕ) (ey : y ≡ length p.y) (eu : u ≡ length p.u) (ev : v ≡ length p.v)
    (r : Result Unit GridRefusal) (e : number_of (outcome grid_refusal_number r) ≡ grid_refusal g y u v) where
  told : number_of (outcome grid_refusal_number r) ≡ past_grid g p 0
  told = e ∙ rw (ey, eu, ev) (by_lengths g p)

  pub stopped_by_grid : (rest : ℕ) (n : GridRefusal) (x : Result Unit SearchRefusal) → r ≡ Err n → x ≡ Err (of_grid n)
      → number_of (outcome search_refusal_number x) ≡ past_grid g p rest
  unfolding number_of
  stopped_by_grid rest n x h q =
      let number : search_refusal_number (of_grid n) ≡ past_grid g p 0 = same_number n ∙ sym (ap (λ (t : Result Unit GridRefusal). number_of (outcome grid_refusal_number t)) h) ∙ told in
      ap (λ (t : Result Unit SearchRefusal). number_of (outcome search_refusal_number t)) q
      ∙ sym (grid-stops g p rest (search_refusal_number (of_grid n)) number (some_search (of_grid n)))

  pub passed_grid : (n : Unit) → r ≡ Ok n → past_grid g p 0 ≡ 0
  unfolding number_of
  passed_grid n h = sym told ∙ ap (λ (t : Result Unit GridRefusal). number_of (outcome grid_refusal_number t)) h

module _ (g : Grid) (p : Planes) (s : Source) (r : Result Unit SearchRefusal) (e : number_of (outcome search_refusal_number r) ≡ past_grid g p (past_source g s 0)) where
  number_at : (n : SearchRefusal) → r ≡ Err n → search_refusal_number n ≡ past_grid g p (past_source g s 0)
  unfolding number_of
  number_at n h = sym (ap (λ (t : Result Unit SearchRefusal). number_of (outcome search_refusal_number t)) h) ∙ e

  pub stopped_sum : (n : SearchRefusal) (x : Result ℕ SearchRefusal) → r ≡ Err n → x ≡ Err n → sum_outcome x ≡ sum_answer g p s
  stopped_sum n x h q = ap sum_outcome q ∙ ends-before g p s (search_refusal_number n) (number_at n h) (some_search n)

  pub passed_sum : (n : Unit) → r ≡ Ok n → (past_grid g p 0 ≡ 0) × (past_source g s 0 ≡ 0)
  unfolding number_of
  passed_sum n h = grid-none g p (past_source g s 0) (sym e ∙ ap (λ (t : Result Unit SearchRefusal). number_of (outcome search_refusal_number t)) h)

pub half_is : (n : ℕ) → div_ceil n 2 ≡ half_up n
half_is n = omega arith
