-- A horizontal edge whose rows are gathered, run and stored is the edge position by position, at any length.
use mathlib.Core.Path.{◌≡◌, refl, sym, ap, subst, ◌∙◌}
use mathlib.Core.Bool.{Bool, true, false, cond}
use mathlib.Core.Logic.{◌⊎◌, inl, inr}
use mathlib.Core.List.{List, [], ◌∷◌}
use Prim.Native.Nat.{ℕ, zero, suc, ◌+◌, ◌-◌, ◌*◌, ◌≤◌, ◌<◌}
use native.Mathlib.Omega.{arith}
use lib.Dec.{ltb}
use lib.ListN.{get_or, set}
use lib.IntN.{ℤ, pos, negsuc}
use lib.Signed.{mag}
use borrow.Author.Tests.{ltb-true, ltb-false}
use Rattle.arithmetic.specs.Numbers.{u2s, s2u}
use Rattle.kernels.specs.Segment.{Kernel, simple_segment, half, taps, smooth, gather}
use Rattle.arithmetic.proofs.Ranges as R
use Rattle.kernels.proofs.SegmentLaws.{stored, stored_at}
use Rattle.planes.specs.Steps.{steps}
use Rattle.planes.specs.Edges.{horizontal}
use Rattle.edges.specs.EdgeFrom.{tap_from, edge_from}
use Rattle.edges.specs.Taps.{eight_samples, inner_taps, NormalKind}
use Rattle.edges.specs.Private.Runs.{row_at, rows_at, store_row, store_row_of, store_rows, SignedRow, SignedRows, SignedSix, eight_at, four_at, four_samples, edge_taps, run_of_eight, run_of_four}
use Rattle.edges.proofs.NormalKinds.{Outer, kind-few, kind-taps, kind-signed, kind-reach}
use Rattle.planes.proofs.Steps.{steps-ext}
use Rattle.arithmetic.proofs.Tables.{get_or-table}
use Rattle.edges.proofs.TapNumbers.{s2u-u2s}
use Rattle.edges.proofs.TapPositions.{SignedTwo, simple-in}
use Rattle.edges.proofs.TapsFirst.{store_tap, taps-first}
use Rattle.edges.proofs.RowStores.{column_apart, store_same, four-enough}
use Rattle.edges.proofs.RunTurns.{eight-in, four-in}

-- ---- rows that hold what the kernel stores are the edge

module _ (k : Kernel) (n s at : ℕ) (l : List ℕ) (r : List (List ℤ)) where
  -- row 1 + i has what the kernel stores at inner tap i of each position
  unfoldable pub Holds : Type 0
  Holds = (i j : ℕ) → i < taps k - 2 → j < n → s2u (get_or (get_or r (1 + i) []) j (pos 0)) ≡ get_or (stored k (tap_from horizontal s at j) l) i 0

  pub edge-of-rows : n ≤ s → Holds → steps (λ i. store_row_of n s at (1 + i) r) 0 (taps k - 2) l ≡ edge_from horizontal k s at n l
  unfolding edge_from store_row store_tap Holds
  edge-of-rows w holds =
      steps-ext (λ i. store_row_of n s at (1 + i) r) (λ i. steps (λ j. store_tap k (tap_from horizontal s at) l j i) 0 n) (taps k - 2)
      (λ i h l'.
      steps-ext (λ j z. set z (at + (1 + i) * s + j) (s2u (get_or (get_or r (1 + i) []) j (pos 0)))) (λ j. store_tap k (tap_from horizontal s at) l j i) n
      (λ j g z. ap (set z (at + (1 + i) * s + j)) (holds i j h g)) 0 n (omega arith) l')
      0 (taps k - 2) (omega arith) l
      ∙ sym (taps-first k (tap_from horizontal s at) l n (λ j j' t t' a b e. column_apart s at t t' j j' (omega arith) (omega arith) e))

-- ---- gathered rows

byte-by : (v : ℕ) (b : Bool) → ltb v 128 ≡ b → mag (cond b (negsuc (128 - suc v)) (pos (v - 128))) < 128 → v < 256
byte-by v true e h = omega (arith, ltb-true v 128 e)
byte-by v false e h = omega (arith, ltb-false v 128 e)

byte_of : (v : ℕ) → mag (u2s v) < 128 → v < 256
unfolding u2s
byte_of v h = byte-by v (ltb v 128) refl h

module _ (m n s at : ℕ) (l : List ℕ) where
  pub tap-at : (k j : ℕ) → k < m → j < n → get_or (get_or (rows_at m n s at l) k []) j (pos 0) ≡ u2s (get_or l (at + k * s + j) 0)
  unfolding rows_at row_at
  tap-at k j h g =
      ap (λ (r : List ℤ). get_or r j (pos 0)) (get_or-table m (λ k. row_at n (at + k * s) l) k [] h)
      ∙ get_or-table n (λ j. u2s (get_or l (at + k * s + j) 0)) j (pos 0) g

  pub rows-signed : ((i : ℕ) → get_or l i 0 < 256) → SignedRows m n (rows_at m n s at l)
  unfolding SignedRows
  rows-signed bytes k j h g = subst (λ (z : ℤ). mag z < 128) (sym (tap-at k j h g)) (R.u2s-in _ (bytes (at + k * s + j)))

  sample-at : ((i : ℕ) → get_or l i 0 < 256) → (k j : ℕ) → k < m → j < n → s2u (get_or (get_or (rows_at m n s at l) k []) j (pos 0)) ≡ get_or l (at + k * s + j) 0
  sample-at bytes k j h g = ap s2u (tap-at k j h g) ∙ s2u-u2s (get_or l (at + k * s + j) 0) (bytes (at + k * s + j))

pub gathered-signed : (m n s at : ℕ) (l : List ℕ) → ((i : ℕ) → get_or l i 0 < 256) → (t : List (List ℤ)) → t ≡ rows_at m n s at l → SignedRows m n t
gathered-signed m n s at l bytes t gathered = subst (λ (x : List (List ℤ)). SignedRows m n x) (sym gathered) (rows-signed m n s at l bytes)

-- ---- a run of eight rows

module _ (k : Kernel) (n : ℕ) (t : List (List ℤ)) (j : ℕ) (g : j < n) where
  inner-tap : (i : ℕ) → i < 6 → get_or (get_or (run_of_eight k n t) (1 + i) []) j (pos 0) ≡ u2s (get_or (smooth k (eight_samples (eight_at t j))) (1 + i) 0)
  unfolding run_of_eight inner_taps
  inner-tap zero h = get_or-table n (λ j. (inner_taps k (eight_at t j)).p2) j (pos 0) g
  inner-tap (suc zero) h = get_or-table n (λ j. (inner_taps k (eight_at t j)).p1) j (pos 0) g
  inner-tap (suc (suc zero)) h = get_or-table n (λ j. (inner_taps k (eight_at t j)).p0) j (pos 0) g
  inner-tap (suc (suc (suc zero))) h = get_or-table n (λ j. (inner_taps k (eight_at t j)).q0) j (pos 0) g
  inner-tap (suc (suc (suc (suc zero)))) h = get_or-table n (λ j. (inner_taps k (eight_at t j)).q1) j (pos 0) g
  inner-tap (suc (suc (suc (suc (suc zero))))) h = get_or-table n (λ j. (inner_taps k (eight_at t j)).q2) j (pos 0) g
  inner-tap (suc (suc (suc (suc (suc (suc i)))))) h = absurd (omega arith)

  inner-in : SignedSix (inner_taps k (eight_at t j)) → (i : ℕ) → i < 6 → mag (u2s (get_or (smooth k (eight_samples (eight_at t j))) (1 + i) 0)) < 128
  unfolding inner_taps
  inner-in s zero h = s.p2-in
  inner-in s (suc zero) h = s.p1-in
  inner-in s (suc (suc zero)) h = s.p0-in
  inner-in s (suc (suc (suc zero))) h = s.q0-in
  inner-in s (suc (suc (suc (suc zero)))) h = s.q1-in
  inner-in s (suc (suc (suc (suc (suc zero))))) h = s.q2-in
  inner-in s (suc (suc (suc (suc (suc (suc i)))))) h = absurd (omega arith)

module _ (k : Kernel) (eight : taps k ≡ 8) (n s at : ℕ) (l : List ℕ) (bytes : (i : ℕ) → get_or l i 0 < 256)
    (six : (j : ℕ) → j < n → SignedSix (inner_taps k (eight_at (rows_at 8 n s at l) j))) where
  eight-samples : (j : ℕ) → j < n → eight_samples (eight_at (rows_at 8 n s at l) j) ≡ gather (tap_from horizontal s at j) 0 8 l
  unfolding gather
  eight-samples j g =
      let e0 = sample-at 8 n s at l bytes 0 j (omega arith) g in
      let e1 = sample-at 8 n s at l bytes 1 j (omega arith) g in
      let e2 = sample-at 8 n s at l bytes 2 j (omega arith) g in
      let e3 = sample-at 8 n s at l bytes 3 j (omega arith) g in
      let e4 = sample-at 8 n s at l bytes 4 j (omega arith) g in
      let e5 = sample-at 8 n s at l bytes 5 j (omega arith) g in
      let e6 = sample-at 8 n s at l bytes 6 j (omega arith) g in
      let e7 = sample-at 8 n s at l bytes 7 j (omega arith) g in
      (λ i. e0 i ∷ e1 i ∷ e2 i ∷ e3 i ∷ e4 i ∷ e5 i ∷ e6 i ∷ e7 i ∷ [])

  entry : (i j : ℕ) → i < 6 → j < n → s2u (get_or (get_or (run_of_eight k n (rows_at 8 n s at l)) (1 + i) []) j (pos 0)) ≡ get_or (smooth k (gather (tap_from horizontal s at j) 0 8 l)) (1 + i) 0
  entry i j h g =
      ap s2u (inner-tap k n (rows_at 8 n s at l) j g i h)
      ∙ s2u-u2s _ (byte_of _ (inner-in k n (rows_at 8 n s at l) j g (six j g) i h))
      ∙ ap (λ (ts : List ℕ). get_or (smooth k ts) (1 + i) 0) (eight-samples j g)

  run_holds : Holds k n s at l (run_of_eight k n (rows_at 8 n s at l))
  unfolding Holds
  run_holds i j h g =
      entry i j (omega (arith, eight)) g
      ∙ ap (λ (m : ℕ). get_or (smooth k (gather (tap_from horizontal s at j) 0 m l)) (1 + i) 0) (sym eight)
      ∙ sym (stored_at k (tap_from horizontal s at j) l i h)

  six-edge : n ≤ s → store_rows n s at 1 6 (run_of_eight k n (rows_at 8 n s at l)) l ≡ edge_from horizontal k s at n l
  unfolding store_rows
  six-edge w =
      ap (λ (m : ℕ). steps (λ i. store_row_of n s at (1 + i) (run_of_eight k n (rows_at 8 n s at l))) 0 (m - 2) l) (sym eight)
      ∙ edge-of-rows k n s at l (run_of_eight k n (rows_at 8 n s at l)) w run_holds

  -- a row that the kernel leaves as it is
  row-same : (i : ℕ) → i < 6 → ((ts : List ℕ) → get_or (smooth k ts) (1 + i) 0 ≡ get_or ts (1 + i) 0)
      → store_row_of n s at (1 + i) (run_of_eight k n (rows_at 8 n s at l)) l ≡ l
  row-same i h same =
      store_same n (at + (1 + i) * s) _ l (λ j g. entry i j h g ∙ same (gather (tap_from horizontal s at j) 0 8 l) ∙ sym (ap (λ (ts : List ℕ). get_or ts (1 + i) 0) (eight-samples j g)) ∙ sample-of i j h g)
    where
      sample-of : (i j : ℕ) → i < 6 → j < n → get_or (eight_samples (eight_at (rows_at 8 n s at l) j)) (1 + i) 0 ≡ get_or l (at + (1 + i) * s + j) 0
      sample-of zero j h g = sample-at 8 n s at l bytes 1 j (omega arith) g
      sample-of (suc zero) j h g = sample-at 8 n s at l bytes 2 j (omega arith) g
      sample-of (suc (suc zero)) j h g = sample-at 8 n s at l bytes 3 j (omega arith) g
      sample-of (suc (suc (suc zero))) j h g = sample-at 8 n s at l bytes 4 j (omega arith) g
      sample-of (suc (suc (suc (suc zero)))) j h g = sample-at 8 n s at l bytes 5 j (omega arith) g
      sample-of (suc (suc (suc (suc (suc zero))))) j h g = sample-at 8 n s at l bytes 6 j (omega arith) g
      sample-of (suc (suc (suc (suc (suc (suc i)))))) j h g = absurd (omega arith)

-- ---- by kind of edge

module _ {kernel : (threshold interior edge : ℕ) → Kernel} {changed : ℕ} (kind : NormalKind kernel changed) (threshold interior edge n s at : ℕ) (l : List ℕ) (bytes : (i : ℕ) → get_or l i 0 < 256) (t r : List (List ℤ))
    (gathered : t ≡ rows_at 8 n s at l) where
  abbrev ran : List (List ℤ)
  ran = run_of_eight (kernel threshold interior edge) n (rows_at 8 n s at l)

  six-of : (j : ℕ) → j < n → SignedSix (inner_taps (kernel threshold interior edge) (eight_at (rows_at 8 n s at l) j))
  six-of j g = kind-signed threshold interior edge kind _ (eight-in n (rows_at 8 n s at l) j g (rows-signed 8 n s at l bytes))

  stored_in : (i : ℕ) → 1 ≤ i → i < 7 → SignedRow n (get_or ran i [])
  unfolding SignedRow
  stored_in (suc i) p q j g =
      subst (λ (x : ℕ). mag (get_or (get_or ran x []) j (pos 0)) < 128) (shift i)
      (subst (λ (z : ℤ). mag z < 128) (sym (inner-tap (kernel threshold interior edge) n (rows_at 8 n s at l) j g i (omega arith))) (inner-in (kernel threshold interior edge) n (rows_at 8 n s at l) j g (six-of j g) i (omega arith)))
    where
      shift : (i : ℕ) → 1 + i ≡ suc i
      shift i = omega arith
  stored_in zero p q j g = absurd (omega arith)

  -- what may be stored lies in -128..127
  pub normal-signed : r ≡ run_of_eight (kernel threshold interior edge) n t → (i : ℕ) → 4 - changed ≤ i → i < 4 + changed → SignedRow n (get_or r i [])
  normal-signed e i h g =
      subst (λ (x : List (List ℤ)). SignedRow n (get_or x i [])) (sym (e ∙ ap (run_of_eight (kernel threshold interior edge) n) gathered)) (stored_in i (omega (arith, kind-few kind)) (omega (arith, kind-few kind)))

  enough : n ≤ s → (changed ≡ 3) ⊎ ((changed ≡ 2) × ((ts : List ℕ) → Outer (smooth (kernel threshold interior edge) ts) (get_or ts 1 0) (get_or ts 6 0)))
      → store_rows n s at (4 - changed) (4 + changed - (4 - changed)) ran l ≡ edge_from horizontal (kernel threshold interior edge) s at n l
  enough w (inl e) =
      ap (λ (c : ℕ). store_rows n s at (4 - c) (4 + c - (4 - c)) ran l) e ∙ six-edge (kernel threshold interior edge) (kind-taps threshold interior edge kind) n s at l bytes six-of w
  enough w (inr (e, same)) =
      ap (λ (c : ℕ). store_rows n s at (4 - c) (4 + c - (4 - c)) ran l) e
      ∙ sym (four-enough n s at ran l w
      (row-same (kernel threshold interior edge) (kind-taps threshold interior edge kind) n s at l bytes six-of 0 (omega arith) (λ ts. (same ts).second))
      (row-same (kernel threshold interior edge) (kind-taps threshold interior edge kind) n s at l bytes six-of 5 (omega arith) (λ ts. (same ts).seventh)))
      ∙ six-edge (kernel threshold interior edge) (kind-taps threshold interior edge kind) n s at l bytes six-of w

  pub normal-edge : r ≡ run_of_eight (kernel threshold interior edge) n t → n ≤ s → (x : List ℕ) → x ≡ store_rows n s at (4 - changed) (4 + changed - (4 - changed)) r l
      → x ≡ edge_from horizontal (kernel threshold interior edge) s at n l
  normal-edge e w x f =
      f ∙ ap (λ (y : List (List ℤ)). store_rows n s at (4 - changed) (4 + changed - (4 - changed)) y l) (e ∙ ap (run_of_eight (kernel threshold interior edge) n) gathered)
      ∙ enough w (kind-reach threshold interior edge kind)

-- ---- a run of four rows

module _ (edge n s at : ℕ) (l : List ℕ) (bytes : (i : ℕ) → get_or l i 0 < 256) (t r : List (List ℤ)) (gathered : t ≡ rows_at 4 n s at l) (ran : r ≡ run_of_four (simple_segment edge) n t) where
  two : (j : ℕ) → j < n → SignedTwo (edge_taps (simple_segment edge) (four_at t j))
  two j g = simple-in edge _ (four-in n t j g (gathered-signed 4 n s at l bytes t gathered))

  edge-tap : (i j : ℕ) → i < 2 → j < n → get_or (get_or r (1 + i) []) j (pos 0) ≡ u2s (get_or (smooth (simple_segment edge) (four_samples (four_at t j))) (1 + i) 0)
  unfolding run_of_four edge_taps
  edge-tap zero j h g = ap (λ (x : List (List ℤ)). get_or (get_or x 1 []) j (pos 0)) ran ∙ get_or-table n (λ j. (edge_taps (simple_segment edge) (four_at t j)).p0) j (pos 0) g
  edge-tap (suc zero) j h g = ap (λ (x : List (List ℤ)). get_or (get_or x 2 []) j (pos 0)) ran ∙ get_or-table n (λ j. (edge_taps (simple_segment edge) (four_at t j)).q0) j (pos 0) g
  edge-tap (suc (suc i)) j h g = absurd (omega arith)

  edge_in : (i j : ℕ) → i < 2 → j < n → mag (u2s (get_or (smooth (simple_segment edge) (four_samples (four_at t j))) (1 + i) 0)) < 128
  unfolding edge_taps
  edge_in zero j h g = (two j g).p0-in
  edge_in (suc zero) j h g = (two j g).q0-in
  edge_in (suc (suc i)) j h g = absurd (omega arith)

  pub simple-signed : (i : ℕ) → 1 ≤ i → i < 3 → SignedRow n (get_or r i [])
  unfolding SignedRow
  simple-signed zero p q j g = absurd (omega arith)
  simple-signed (suc i) p q j g =
      subst (λ (x : ℕ). mag (get_or (get_or r x []) j (pos 0)) < 128) (shift i) (subst (λ (z : ℤ). mag z < 128) (sym (edge-tap i j (omega arith) g)) (edge_in i j (omega arith) g))
    where
      shift : (i : ℕ) → 1 + i ≡ suc i
      shift i = omega arith

  four-samples : (j : ℕ) → j < n → four_samples (four_at t j) ≡ gather (tap_from horizontal s at j) 0 4 l
  unfolding gather
  four-samples j g =
      let e0 = sample-at 4 n s at l bytes 0 j (omega arith) g in
      let e1 = sample-at 4 n s at l bytes 1 j (omega arith) g in
      let e2 = sample-at 4 n s at l bytes 2 j (omega arith) g in
      let e3 = sample-at 4 n s at l bytes 3 j (omega arith) g in
      ap (λ (x : List (List ℤ)). four_samples (four_at x j)) gathered ∙ (λ i. e0 i ∷ e1 i ∷ e2 i ∷ e3 i ∷ [])

  four-holds : Holds (simple_segment edge) n s at l r
  unfolding Holds taps half
  four-holds i j h g =
      ap s2u (edge-tap i j h g)
      ∙ s2u-u2s _ (byte_of _ (edge_in i j h g))
      ∙ ap (λ (ts : List ℕ). get_or (smooth (simple_segment edge) ts) (1 + i) 0) (four-samples j g)
      ∙ sym (stored_at (simple_segment edge) (tap_from horizontal s at j) l i h)

  pub simple-edge : n ≤ s → (x : List ℕ) → x ≡ store_rows n s at 1 2 r l → x ≡ edge_from horizontal (simple_segment edge) s at n l
  unfolding taps half store_rows
  simple-edge w x f = f ∙ edge-of-rows (simple_segment edge) n s at l r w four-holds
