-- The copy of a grid: what stands in it afterwards, and what outside.
use mathlib.Core.Path.{◌≡◌, refl, sym, ap, ◌∙◌}
use mathlib.Core.Bool.{Bool, true, false, ◌||◌}
use mathlib.Core.Logic.{◌≢◌, ◌⊎◌, inl, inr, ⊎_elim}
use mathlib.Core.List.{List}
use Rattle.std.proofs.Common.{Result, Ok, Err}
use Prim.Native.Nat.{ℕ, zero, suc, ◌+◌, ◌*◌, ◌/◌, ◌%◌, ◌≤◌, ◌<◌}
use native.Mathlib.Nat.{mul-le-mul_right, mul-zero, div-add-mod', suc-mul}
use native.Mathlib.Numerals.{add-one}
use native.Mathlib.Omega.{arith}
use lib.Dec.{ltb, eqb}
use lib.ListN.{length, get_or, set, length-set}
use lib.Seq.{ext_get_or, get_or-set_same, get_or-set_other}
use borrow.Author.Tests.{ltb-true, ltb-false, eqb-true, eqb-false, eq-eqb, ne_eqb}
use Rattle.planes.specs.Steps.{steps}
use Rattle.planes.specs.Planes.{Plane, luma, chroma_u, chroma_v, Planes, Grid, side, stride, plane, Sample, sample, row_of, column_of, StridesHold, PlanesHold}
use Rattle.planes.specs.Layout.{planes_of}
use Rattle.planes.specs.Reach.{InGrid}
use Rattle.planes.proofs.Divided.{InGridDivided, grid-divided}
use Rattle.arithmetic.specs.Outcome.{outcome, number_of}
use Rattle.planes.specs.GridRefusals.{zero_grid, past_grid, grid_refusal, grid_refusal_number}
use Rattle.planes.specs.declared.grid.GridRefusal.{GridRefusal}
use Rattle.planes.specs.declared.grid.GridRefusal.TheVariants.{TooLarge, BadStrides, ShortPlane}
use Rattle.planes.proofs.Steps.{steps-suc, steps-inv}
use Rattle.planes.proofs.Fits.{row-column}
use Rattle.planes.proofs.GridLaws.{by_lengths}
use Rattle.planes.proofs.PastGrid.{row_in, past-lengths, Sound, with-grid, grid-passes, grid-stops, grid-none}
use Rattle.scratch.specs.Copies.{copy_row, copy_rows, copy_grid, copied_grid}

-- ---- one more step

pub steps_next : {S : Type 0} (f : ℕ → S → S) (n : ℕ) (s : S) → steps f 0 (n + 1) s ≡ f n (steps f 0 n s)
steps_next f n s = ap (λ (k : ℕ). steps f 0 k s) (add-one n) ∙ steps-suc f n s

-- ---- a row

module _ (source : List ℕ) (from : ℕ) where
  store : ℕ → List ℕ → List ℕ
  store k l = set l (from + k) (get_or source (from + k) 0)

  pub row-none : (l : List ℕ) → l ≡ copy_row source from 0 l
  unfolding copy_row steps
  row-none l = refl

  row-suc : (n : ℕ) (l : List ℕ) → copy_row source from (suc n) l ≡ set (copy_row source from n l) (from + n) (get_or source (from + n) 0)
  unfolding copy_row store
  row-suc n l = steps-suc store n l

  pub row_more : (n : ℕ) (l m : List ℕ) → m ≡ copy_row source from n l → set m (from + n) (get_or source (from + n) 0) ≡ copy_row source from (n + 1) l
  row_more n l m e =
      ap (λ (z : List ℕ). set z (from + n) (get_or source (from + n) 0)) e ∙ sym (row-suc n l) ∙ ap (λ (k : ℕ). copy_row source from k l) (sym (add-one n))

  pub row-length : (n : ℕ) (l : List ℕ) → length (copy_row source from n l) ≡ length l
  unfolding copy_row store
  row-length n l = steps-inv store (λ m. length m ≡ length l) (λ k m e. length-set m (from + k) (get_or source (from + k) 0) ∙ e) 0 n l refl

  pub row_other : (n : ℕ) (l : List ℕ) (i : ℕ) → ((k : ℕ) → k < n → i ≢ from + k) → get_or (copy_row source from n l) i 0 ≡ get_or l i 0
  row_other zero l i h = ap (λ (m : List ℕ). get_or m i 0) (sym (row-none l))
  row_other (suc n) l i h =
      ap (λ (m : List ℕ). get_or m i 0) (row-suc n l)
      ∙ get_or-set_other (copy_row source from n l) (from + n) i (get_or source (from + n) 0) 0 (h n (omega arith))
      ∙ row_other n l i (λ k a. h k (omega arith))

  pub row_at : (n : ℕ) (l : List ℕ) (k : ℕ) → k < n → from + k < length l → get_or (copy_row source from n l) (from + k) 0 ≡ get_or source (from + k) 0
  row_at zero l k a b = absurd (omega arith)
  row_at (suc n) l k a b = ap (λ (m : List ℕ). get_or m (from + k) 0) (row-suc n l) ∙ by (eqb k n) refl (λ lt. row_at n l k lt b)
    where
      by : (t : Bool) → eqb k n ≡ t → (k < n → get_or (copy_row source from n l) (from + k) 0 ≡ get_or source (from + k) 0) → get_or (set (copy_row source from n l) (from + n) (get_or source (from + n) 0)) (from + k) 0 ≡ get_or source (from + k) 0
      by true e rest =
          let q : n ≡ k = sym (eqb-true k n e) in
          ap (λ (j : ℕ). get_or (set (copy_row source from n l) (from + j) (get_or source (from + j) 0)) (from + k) 0) q
          ∙ get_or-set_same (copy_row source from n l) (from + k) (get_or source (from + k) 0) 0 (omega (arith, row-length n l))
      by false e rest =
          get_or-set_other (copy_row source from n l) (from + n) (from + k) (get_or source (from + n) 0) 0 (λ q. eqb-false k n e (omega arith))
          ∙ rest (omega (arith, eqb-false k n e))

-- ---- rows

module _ (source : List ℕ) (s w : ℕ) where
  pub rows_none : (l : List ℕ) → l ≡ copy_rows source s w 0 l
  unfolding copy_rows steps
  rows_none l = refl

  rows-suc : (n : ℕ) (l : List ℕ) → copy_rows source s w (suc n) l ≡ copy_row source (n * s) w (copy_rows source s w n l)
  unfolding copy_rows
  rows-suc n l = steps-suc (λ r. copy_row source (r * s) w) n l

  pub rows_more : (n : ℕ) (l m m' : List ℕ) → m ≡ copy_rows source s w n l → m' ≡ copy_row source (n * s) w m → m' ≡ copy_rows source s w (n + 1) l
  rows_more n l m m' e f =
      f ∙ ap (copy_row source (n * s) w) e ∙ sym (rows-suc n l) ∙ ap (λ (k : ℕ). copy_rows source s w k l) (sym (add-one n))

  pub rows-length : (n : ℕ) (l : List ℕ) → length (copy_rows source s w n l) ≡ length l
  unfolding copy_rows
  rows-length n l = steps-inv (λ r. copy_row source (r * s) w) (λ m. length m ≡ length l) (λ r m e. row-length source (r * s) w m ∙ e) 0 n l refl

  pub rows_other : (n : ℕ) (l : List ℕ) (i : ℕ) → ((r k : ℕ) → r < n → k < w → i ≢ r * s + k) → get_or (copy_rows source s w n l) i 0 ≡ get_or l i 0
  rows_other zero l i h = ap (λ (m : List ℕ). get_or m i 0) (sym (rows_none l))
  rows_other (suc n) l i h =
      ap (λ (m : List ℕ). get_or m i 0) (rows-suc n l)
      ∙ row_other source (n * s) w (copy_rows source s w n l) i (λ k a. h n k (omega arith) a)
      ∙ rows_other n l i (λ r k a b. h r k (omega arith) b)

  pub rows_at : (n : ℕ) (l : List ℕ) (r k : ℕ) → w ≤ s → r < n → k < w → r * s + k < length l → get_or (copy_rows source s w n l) (r * s + k) 0 ≡ get_or source (r * s + k) 0
  rows_at zero l r k ok a b fits = absurd (omega arith)
  rows_at (suc n) l r k ok a b fits = ap (λ (m : List ℕ). get_or m (r * s + k) 0) (rows-suc n l) ∙ by (eqb r n) refl (λ lt. rows_at n l r k ok lt b fits)
    where
      by : (t : Bool) → eqb r n ≡ t → (r < n → get_or (copy_rows source s w n l) (r * s + k) 0 ≡ get_or source (r * s + k) 0) → get_or (copy_row source (n * s) w (copy_rows source s w n l)) (r * s + k) 0 ≡ get_or source (r * s + k) 0
      by true e rest =
          let q : n ≡ r = sym (eqb-true r n e) in
          ap (λ (j : ℕ). get_or (copy_row source (j * s) w (copy_rows source s w n l)) (r * s + k) 0) q
          ∙ row_at source (r * s) w (copy_rows source s w n l) k b (omega (arith, rows-length n l))
      by false e rest =
          let lt : r < n = omega (arith, eqb-false r n e) in
          row_other source (n * s) w (copy_rows source s w n l) (r * s + k) (λ j c q. absurd (omega (arith, mul-le-mul_right {m = suc r} {n = n} s lt, suc-mul r s)))
          ∙ rest lt

-- ---- the grid

pub copied-plane : (g : Grid) (p t : Planes) (q : Plane) → plane q (copy_grid g p t) ≡ copy_rows (plane q p) (stride g q) (side q * g.columns) (side q * g.rows) (plane q t)
unfolding copy_grid
copied-plane g p t luma = refl
copied-plane g p t chroma_u = refl
copied-plane g p t chroma_v = refl

pub copied-length : (g : Grid) (p t : Planes) (q : Plane) → length (plane q (copy_grid g p t)) ≡ length (plane q t)
copied-length g p t q = ap length (copied-plane g p t q) ∙ rows-length (plane q p) (stride g q) (side q * g.columns) (side q * g.rows) (plane q t)

-- planes of the same samples
pub planes-same : (p p' : Planes) → ((q : Plane) → length (plane q p) ≡ length (plane q p')) → ((x : Sample) → sample p x ≡ sample p' x) → p ≡ p'
planes-same p p' len same = λ i. record { y = eq luma i; u = eq chroma_u i; v = eq chroma_v i }
  where
    eq : (q : Plane) → plane q p ≡ plane q p'
    eq q = ext_get_or 0 (plane q p) (plane q p') (len q) (λ i _. same (record { on = q; index = i }))

pub in-or-out : (g : Grid) (x : Sample) → InGridDivided g x ⊎ ¬ InGridDivided g x
unfolding InGridDivided
in-or-out g x = by (ltb (row_of g x) (side x.on * g.rows)) (ltb (column_of g x) (side x.on * g.columns)) refl refl
  where
    by : (a b : Bool) → ltb (row_of g x) (side x.on * g.rows) ≡ a → ltb (column_of g x) (side x.on * g.columns) ≡ b
        → ((row_of g x < side x.on * g.rows) × (column_of g x < side x.on * g.columns)) ⊎ ¬ ((row_of g x < side x.on * g.rows) × (column_of g x < side x.on * g.columns))
    by true true e f = inl (ltb-true (row_of g x) (side x.on * g.rows) e, ltb-true (column_of g x) (side x.on * g.columns) f)
    by true false e f = inr (λ h. omega (arith, ltb-false (column_of g x) (side x.on * g.columns) f))
    by false b e f = inr (λ h. omega (arith, ltb-false (row_of g x) (side x.on * g.rows) e))

module _ (g : Grid) (p t : Planes) (ok : StridesHold g) where
  pub copied-in : PlanesHold g t → (x : Sample) → InGridDivided g x → sample (copy_grid g p t) x ≡ sample p x
  unfolding StridesHold PlanesHold InGridDivided
  copied-in held x h =
      let q = x.on in
      let s = stride g q in
      let i = x.index in
      let e : i / s * s + i % s ≡ i = div-add-mod' i s in
      ap (λ (l : List ℕ). get_or l i 0) (copied-plane g p t q)
      ∙ ap (λ (j : ℕ). get_or (copy_rows (plane q p) s (side q * g.columns) (side q * g.rows) (plane q t)) j 0) (sym e)
      ∙ rows_at (plane q p) s (side q * g.columns) (side q * g.rows) (plane q t) (i / s) (i % s) (ok q) h.0 h.1
      (omega (arith, row_in (side q * g.columns) s (i / s) (side q * g.rows) (length (plane q t)) h.0 (held q)))
      ∙ ap (λ (j : ℕ). get_or (plane q p) j 0) e

  pub copied-out : (x : Sample) → ¬ InGridDivided g x → sample (copy_grid g p t) x ≡ sample t x
  unfolding StridesHold InGridDivided
  copied-out x out =
      let q = x.on in
      let s = stride g q in
      let i = x.index in
      ap (λ (l : List ℕ). get_or l i 0) (copied-plane g p t q)
      ∙ rows_other (plane q p) s (side q * g.columns) (side q * g.rows) (plane q t) i
      (λ r k a b e. let (er, ek) = row-column s r k i (omega (arith, ok q)) e in out (omega arith))

  -- what lies outside the grid stays
  pub outside-stays : (x : Sample) → ¬ InGrid g x → sample (copy_grid g p t) x ≡ sample t x
  outside-stays x out = copied-out x (λ i. out (grid-divided g x i))

-- ---- a grid without a macroblock

pub no-grid : (g : Grid) (p t : Planes) → zero_grid g ≡ true → copy_grid g p t ≡ t
unfolding zero_grid copy_grid
no-grid g p t z = by (eqb g.columns 0) (eqb g.rows 0) (eqb-true g.columns 0) (eqb-true g.rows 0) z
  where
    empty : (source : List ℕ) (s n : ℕ) (l : List ℕ) → copy_rows source s 0 n l ≡ l
    empty source s zero l = sym (rows_none source s 0 l)
    empty source s (suc n) l = rows-suc source s 0 n l ∙ sym (row-none source (n * s) (copy_rows source s 0 n l)) ∙ empty source s n l

    flat : (source : List ℕ) (s k w : ℕ) → w ≡ 0 → (n : ℕ) (l : List ℕ) → copy_rows source s (k * w) n l ≡ l
    flat source s k w e n l = ap (λ (m : ℕ). copy_rows source s m n l) (ap (λ (m : ℕ). k * m) e ∙ mul-zero k) ∙ empty source s n l

    short : (source : List ℕ) (s k w n : ℕ) → n ≡ 0 → (l : List ℕ) → copy_rows source s w (k * n) l ≡ l
    short source s k w n e l = ap (λ (m : ℕ). copy_rows source s w m l) (ap (λ (m : ℕ). k * m) e ∙ mul-zero k) ∙ sym (rows_none source s w l)

    by : (a b : Bool) → (a ≡ true → g.columns ≡ 0) → (b ≡ true → g.rows ≡ 0) → (a || b) ≡ true → copy_grid g p t ≡ t
    by true b ha hb e =
        let k = ha refl in
        λ i. record {
          y = flat p.y g.luma_stride 16 g.columns k (16 * g.rows) t.y i;
          u = flat p.u g.chroma_stride 8 g.columns k (8 * g.rows) t.u i;
          v = flat p.v g.chroma_stride 8 g.columns k (8 * g.rows) t.v i;
        }
    by false true ha hb e =
        let k = hb refl in
        λ i. record {
          y = short p.y g.luma_stride 16 (16 * g.columns) g.rows k t.y i;
          u = short p.u g.chroma_stride 8 (8 * g.columns) g.rows k t.u i;
          v = short p.v g.chroma_stride 8 (8 * g.columns) g.rows k t.v i;
        }
    by false false ha hb e = let z : ◌≡◌ {A = ℕ} 0 1 = cc in absurd (omega arith)

-- ---- a copy over a copy

pub copy-copy : (g : Grid) (p x t : Planes) → past_grid g t 0 ≡ 0 → copy_grid g p (copy_grid g x t) ≡ copy_grid g p t
unfolding PlanesHold
copy-copy g p x t e = with-grid g t e (λ z. ap (copy_grid g p) (no-grid g x t z)) (λ z ok. held ok)
  where
    held : Sound g t → copy_grid g p (copy_grid g x t) ≡ copy_grid g p t
    held ok = planes-same (copy_grid g p (copy_grid g x t)) (copy_grid g p t)
        (λ q. copied-length g p (copy_grid g x t) q ∙ copied-length g x t q ∙ sym (copied-length g p t q)) same
      where
        same : (y : Sample) → sample (copy_grid g p (copy_grid g x t)) y ≡ sample (copy_grid g p t) y
        same y = ⊎_elim
            (λ h. copied-in g p (copy_grid g x t) ok.strides (λ q. rw (copied-length g x t q) (ok.planes q)) y h ∙ sym (copied-in g p t ok.strides ok.planes y h))
            (λ h. copied-out g p (copy_grid g x t) ok.strides y h ∙ copied-out g x t ok.strides y h ∙ sym (copied-out g p t ok.strides y h))
            (in-or-out g y)

-- ---- planes

pub three-planes : {y u v y' u' v' : List ℕ} → y ≡ y' → u ≡ u' → v ≡ v' → planes_of y u v ≡ planes_of y' u' v'
three-planes a b c = λ i. planes_of (a i) (b i) (c i)

-- ---- a copy that is judged

module _ (g : Grid) (p t : Planes) where
  -- a copy over scratch planes is as long as they are
  pub copy-past : past_grid g (copy_grid g p t) 0 ≡ past_grid g t 0
  copy-past = past-lengths g (copy_grid g p t) t 0 (copied-length g p t)

  pub copied : past_grid g p 0 ≡ 0 → past_grid g t 0 ≡ 0 → copied_grid g p t ≡ copy_grid g p t
  unfolding copied_grid
  copied e f = rw (eq-eqb (past_grid g p (past_grid g t 0)) 0 (grid-passes g p (past_grid g t 0) e ∙ f))

  pub not-copied : (past_grid g p (past_grid g t 0) ≡ 0 → ⊥) → t ≡ copied_grid g p t
  unfolding copied_grid
  not-copied h = rw (ne_eqb (past_grid g p (past_grid g t 0)) 0 h)

  -- what a judgement of 0 leaves
  pub both-pass : past_grid g p (past_grid g t 0) ≡ 0 → (past_grid g p 0 ≡ 0) × (past_grid g t 0 ≡ 0)
  both-pass e = grid-none g p (past_grid g t 0) e

-- ---- the number of the refusal

pub some-refusal : (e : GridRefusal) → grid_refusal_number e ≡ 0 → ⊥
some-refusal TooLarge z = omega arith
some-refusal BadStrides z = omega arith
some-refusal ShortPlane z = omega arith

-- a judgement of planes by their lengths
module _ (g : Grid) (p : Planes) (y u v : ℕ) (ey : y ≡ length p.y) (eu : u ≡ length p.u) (ev : v ≡ length p.v)
    (r : Result Unit GridRefusal) (h : number_of (outcome grid_refusal_number r) ≡ grid_refusal g y u v) where
  abbrev number : Result Unit GridRefusal → ℕ
  number t = number_of (outcome grid_refusal_number t)

  pub judged-number : number r ≡ past_grid g p 0
  judged-number = h ∙ (λ i. grid_refusal g (ey i) (eu i) (ev i)) ∙ by_lengths g p

  pub judged-stops : (rest : ℕ) (e : GridRefusal) (s : Result Unit GridRefusal) → r ≡ Err e → s ≡ Err e → number s ≡ past_grid g p rest
  unfolding number_of
  judged-stops rest e s er es =
      ap number (es ∙ sym er) ∙ sym (grid-stops g p rest (number r) judged-number (λ z. some-refusal e (sym (ap number er) ∙ z)))

  pub judged-refuses : (rest : ℕ) (e : GridRefusal) → r ≡ Err e → past_grid g p rest ≡ 0 → ⊥
  unfolding number_of
  judged-refuses rest e er z = some-refusal e (sym (ap number er) ∙ judged-stops rest e r er er ∙ z)

  pub judged-passes : r ≡ Ok tt → past_grid g p 0 ≡ 0
  unfolding number_of
  judged-passes er = sym judged-number ∙ ap number er
