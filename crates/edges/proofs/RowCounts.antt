-- How many positions of a horizontal edge are smoothed, from the rows that are gathered before any is stored.
-- Assumes nothing.
use mathlib.Core.Path.{◌≡◌, refl, sym, ap, ap₂, ◌∙◌}
use mathlib.Core.Bool.{Bool}
use mathlib.Core.List.{List}
use Prim.Native.Nat.{ℕ, zero, suc, ◌+◌, ◌*◌, ◌≤◌, ◌<◌}
use native.Mathlib.Omega.{arith}
use lib.Dec.{leb}
use lib.ListN.{get_or}
use lib.IntN.{ℤ}
use Rattle.kernels.specs.Kernels.{edge_value, simple_yes, filter_yes, segment_yes}
use Rattle.kernels.specs.Segment.{Kernel, simple_segment, mb_filter, half, taps, gather, passes, passes_at, mark}
use Rattle.kernels.proofs.Apart.{edge-signed}
use Rattle.planes.specs.Edges.{horizontal}
use Rattle.edges.specs.EdgeFrom.{tap_from, smoothed_from}
use Rattle.edges.specs.Taps.{NormalKind}
use Rattle.edges.specs.Private.Runs.{rows_at, eight_at, four_at, normal_passes, simple_passes, marks_of}
use Rattle.edges.proofs.NormalKinds.{kind-taps, kind-test}
use Rattle.edges.proofs.TapsFirst.{tests-first}
use Rattle.edges.proofs.RowStores.{column_apart}
use Rattle.edges.proofs.RowRuns.{tap-at}

marks-same : (test test' : ℕ → Bool) (n : ℕ) → ((j : ℕ) → j < n → test j ≡ test' j) → marks_of test n ≡ marks_of test' n
unfolding marks_of
marks-same test test' zero h = refl
marks-same test test' (suc n) h = ap₂ {C = ℕ} (λ x y. x + y) (marks-same test test' n (λ j b. h j (omega arith))) (ap mark (h n (omega arith)))

module _ (n s at : ℕ) (l : List ℕ) where
  -- a test that is made on gathered rows, instead of the kernel's own as its positions are met
  by_rows : (k : Kernel) (test : ℕ → Bool) → n ≤ s → ((j : ℕ) → j < n → test j ≡ passes_at k (tap_from horizontal s at j) l) → (x : ℕ) → x ≡ marks_of test n → x ≡ smoothed_from horizontal k s at n l
  unfolding smoothed_from
  by_rows k test w h x e =
      e ∙ marks-same test (λ j. passes_at k (tap_from horizontal s at j) l) n h
      ∙ sym (tests-first k (tap_from horizontal s at) l n (λ j j' t t' a b q. column_apart s at t t' j j' (omega arith) (omega arith) q) n (omega arith))

  eight-passes : (threshold interior edge : ℕ) (j : ℕ) → j < n → normal_passes interior edge (eight_at (rows_at 8 n s at l) j) ≡ passes_at (mb_filter threshold interior edge) (tap_from horizontal s at j) l
  unfolding passes_at passes taps half gather segment_yes
  eight-passes threshold interior edge j g =
      λ i. filter_yes interior edge (tap-at 8 n s at l 0 j (omega arith) g i) (tap-at 8 n s at l 1 j (omega arith) g i) (tap-at 8 n s at l 2 j (omega arith) g i) (tap-at 8 n s at l 3 j (omega arith) g i)
      (tap-at 8 n s at l 4 j (omega arith) g i) (tap-at 8 n s at l 5 j (omega arith) g i) (tap-at 8 n s at l 6 j (omega arith) g i) (tap-at 8 n s at l 7 j (omega arith) g i)

  module _ {kernel : (threshold interior edge : ℕ) → Kernel} {changed : ℕ} (kind : NormalKind kernel changed) (threshold interior edge : ℕ) where
    same-test : (at : ℕ → ℕ) → passes_at (mb_filter threshold interior edge) at l ≡ passes_at (kernel threshold interior edge) at l
    unfolding passes_at taps half
    same-test at =
        kind-test threshold interior edge kind (gather at 0 8 l) ∙ ap (λ (m : ℕ). passes (kernel threshold interior edge) (gather at 0 m l)) (sym (kind-taps threshold interior edge kind))

    -- a normal edge, of either kind
    pub normal-counted : (t : List (List ℤ)) → t ≡ rows_at 8 n s at l → n ≤ s → (x : ℕ) → x ≡ marks_of (λ j. normal_passes interior edge (eight_at t j)) n
        → x ≡ smoothed_from horizontal (kernel threshold interior edge) s at n l
    normal-counted t et w x e =
        by_rows (kernel threshold interior edge) (λ j. normal_passes interior edge (eight_at (rows_at 8 n s at l) j)) w (λ j g. eight-passes threshold interior edge j g ∙ same-test (tap_from horizontal s at j)) x
        (e ∙ ap (λ (r : List (List ℤ)). marks_of (λ j. normal_passes interior edge (eight_at r j)) n) et)

  four-passes : (edge : ℕ) (j : ℕ) → j < n → simple_passes edge (four_at (rows_at 4 n s at l) j) ≡ passes_at (simple_segment edge) (tap_from horizontal s at j) l
  unfolding passes_at passes taps half gather simple_yes
  four-passes edge j g =
      ap (λ (v : ℕ). leb v edge) ((λ i. edge_value (tap-at 4 n s at l 0 j (omega arith) g i) (tap-at 4 n s at l 1 j (omega arith) g i) (tap-at 4 n s at l 2 j (omega arith) g i) (tap-at 4 n s at l 3 j (omega arith) g i))
      ∙ edge-signed (get_or l (at + 0 * s + j) 0) (get_or l (at + 1 * s + j) 0) (get_or l (at + 2 * s + j) 0) (get_or l (at + 3 * s + j) 0))

  -- an edge of the simple filter
  pub simple-counted : (edge : ℕ) (t : List (List ℤ)) → t ≡ rows_at 4 n s at l → n ≤ s → (x : ℕ) → x ≡ marks_of (λ j. simple_passes edge (four_at t j)) n → x ≡ smoothed_from horizontal (simple_segment edge) s at n l
  simple-counted edge t et w x e =
      by_rows (simple_segment edge) (λ j. simple_passes edge (four_at (rows_at 4 n s at l) j)) w (λ j g. four-passes edge j g) x
      (e ∙ ap (λ (r : List (List ℤ)). marks_of (λ j. simple_passes edge (four_at r j)) n) et)
