-- The positions of a run, and its loop: the beginning, a turn and the end, over variables.
use mathlib.Core.Path.{◌≡◌, refl, sym, ap, ◌∙◌}
use mathlib.Core.List.{List, [], ◌∷◌}
use Prim.Native.Nat.{ℕ, zero, suc, ◌+◌, ◌≤◌, ◌<◌}
use mathlib.Core.Bool.{Bool, true, false}
use native.Mathlib.Numerals.{add-one}
use native.Mathlib.Omega.{arith}
use lib.ListN.{length, get_or, set}
use lib.Seq.{ext_get_or}
use lib.IntN.{ℤ}
use mir.Syntax.{w16}
use mir.Val.{to_z, of_z, bool_byte}
use Rattle.arithmetic.specs.Tables.{table, fill}
use Rattle.kernels.specs.Segment.{Kernel, mark}
use Rattle.kernels.proofs.SegmentLaws.{mark-most}
use Rattle.edges.specs.declared.position.InnerTaps.{InnerTaps}
use Rattle.edges.specs.declared.position.EdgeTaps.{EdgeTaps}
use Rattle.edges.specs.Taps.{inner_taps, SignedEight, SignedFour}
use Rattle.edges.specs.Private.Runs.{eight_at, four_at, edge_taps, store_tap, store_inner, run_of_eight, run_of_four, SignedRows, SignedSix, marks_of}
use Rattle.edges.proofs.TapNumbers.{back}
use Rattle.edges.proofs.TapPositions.{SignedTwo}
use Rattle.arithmetic.proofs.Tables.{length-table, get_or-table, fill_none, fill-turn, fill_end}

-- what a tap is read back as
abbrev pub read : ℤ → ℤ
read z = to_z w16 (of_z w16 z)

-- ---- taps read from rows

module _ (n : ℕ) (t : List (List ℤ)) (j : ℕ) (h : j < n) where
  pub eight-in : SignedRows 8 n t → SignedEight (eight_at t j)
  unfolding SignedRows
  eight-in s = record {
    p3-in = s 0 j (omega arith) h;
    p2-in = s 1 j (omega arith) h;
    near-in = record { p1-in = s 2 j (omega arith) h; p0-in = s 3 j (omega arith) h; q0-in = s 4 j (omega arith) h; q1-in = s 5 j (omega arith) h };
    q2-in = s 6 j (omega arith) h;
    q3-in = s 7 j (omega arith) h;
  }

  pub four-in : SignedRows 4 n t → SignedFour (four_at t j)
  unfolding SignedRows
  four-in s = record { p1-in = s 0 j (omega arith) h; p0-in = s 1 j (omega arith) h; q0-in = s 2 j (omega arith) h; q1-in = s 3 j (omega arith) h }

-- ---- how many pass

pub marks-none : (test : ℕ → Bool) → 0 ≡ marks_of test 0
unfolding marks_of
marks-none test = refl

pub marks-turn : (test : ℕ → Bool) (n a b : ℕ) → a ≡ marks_of test n → b ≡ mark (test n) → a + b ≡ marks_of test (n + 1)
unfolding marks_of
marks-turn test n a b ea eb = (λ i. ea i + eb i) ∙ ap (marks_of test) (sym (add-one n))

pub marks-most : (test : ℕ → Bool) (n : ℕ) → marks_of test n ≤ n
unfolding marks_of
marks-most test zero = omega arith
marks-most test (suc n) = omega (arith, marks-most test n, mark-most (test n))

-- what a bool counts for
pub counts : (b : Bool) → bool_byte b ≡ mark b
unfolding mark
counts true = refl
counts false = refl

-- the inner taps, stored one after the other
pub inner-stored : (n : ℕ) (s : InnerTaps) (t : List (List ℤ)) → SignedSix s
    → store_tap 6 n (read s.q2) (store_tap 5 n (read s.q1) (store_tap 4 n (read s.q0) (store_tap 3 n (read s.p0) (store_tap 2 n (read s.p1) (store_tap 1 n (read s.p2) t))))) ≡ store_inner n s t
unfolding store_inner
inner-stored n s t h =
    let p2 = back s.p2 h.p2-in in
    let p1 = back s.p1 h.p1-in in
    let p0 = back s.p0 h.p0-in in
    let q0 = back s.q0 h.q0-in in
    let q1 = back s.q1 h.q1-in in
    let q2 = back s.q2 h.q2-in in
    (λ i. store_tap 6 n (q2 i) (store_tap 5 n (q1 i) (store_tap 4 n (q0 i) (store_tap 3 n (p0 i) (store_tap 2 n (p1 i) (store_tap 1 n (p2 i) t))))))

-- ---- a run of eight rows

-- eight rows, of which the first n positions are written
unfoldable pub run_to : Kernel → (n : ℕ) → List (List ℤ) → List (List ℤ)
run_to k n t =
    get_or t 0 []
    ∷ fill n (λ j. (inner_taps k (eight_at t j)).p2) (get_or t 1 [])
    ∷ fill n (λ j. (inner_taps k (eight_at t j)).p1) (get_or t 2 [])
    ∷ fill n (λ j. (inner_taps k (eight_at t j)).p0) (get_or t 3 [])
    ∷ fill n (λ j. (inner_taps k (eight_at t j)).q0) (get_or t 4 [])
    ∷ fill n (λ j. (inner_taps k (eight_at t j)).q1) (get_or t 5 [])
    ∷ fill n (λ j. (inner_taps k (eight_at t j)).q2) (get_or t 6 [])
    ∷ get_or t 7 [] ∷ []

-- a list of eight is its entries
eight-entries : (t : List (List ℤ)) → length t ≡ 8 → t ≡ get_or t 0 [] ∷ get_or t 1 [] ∷ get_or t 2 [] ∷ get_or t 3 [] ∷ get_or t 4 [] ∷ get_or t 5 [] ∷ get_or t 6 [] ∷ get_or t 7 [] ∷ []
unfolding table
eight-entries t h =
    ext_get_or [] t (table 8 (λ k. get_or t k [])) (h ∙ sym (length-table 8 (λ k. get_or t k [])))
    (λ i b. sym (get_or-table 8 (λ k. get_or t k []) i [] (omega arith)))

pub run_none : (k : Kernel) (t : List (List ℤ)) → length t ≡ 8 → t ≡ run_to k 0 t
unfolding run_to
run_none k t h =
    eight-entries t h
    ∙ (λ i. get_or t 0 []
    ∷ fill_none (λ j. (inner_taps k (eight_at t j)).p2) (get_or t 1 []) i
    ∷ fill_none (λ j. (inner_taps k (eight_at t j)).p1) (get_or t 2 []) i
    ∷ fill_none (λ j. (inner_taps k (eight_at t j)).p0) (get_or t 3 []) i
    ∷ fill_none (λ j. (inner_taps k (eight_at t j)).q0) (get_or t 4 []) i
    ∷ fill_none (λ j. (inner_taps k (eight_at t j)).q1) (get_or t 5 []) i
    ∷ fill_none (λ j. (inner_taps k (eight_at t j)).q2) (get_or t 6 []) i
    ∷ get_or t 7 [] ∷ [])

pub run-turn : (k : Kernel) (m n : ℕ) (t rows rows' : List (List ℤ)) (s : InnerTaps) → ((r : ℕ) → r < 8 → length (get_or t r []) ≡ m) → n < m
    → rows ≡ run_to k n t → s ≡ inner_taps k (eight_at t n) → rows' ≡ store_inner n s rows → rows' ≡ run_to k (n + 1) t
unfolding run_to store_inner
run-turn k m n t rows rows' s long h e p q =
    q ∙ ap (store_inner n s) e
    ∙ (λ i. get_or t 0 []
    ∷ turn 1 (λ j. (inner_taps k (eight_at t j)).p2) s.p2 (omega arith) (ap (λ (x : InnerTaps). x.p2) p) i
    ∷ turn 2 (λ j. (inner_taps k (eight_at t j)).p1) s.p1 (omega arith) (ap (λ (x : InnerTaps). x.p1) p) i
    ∷ turn 3 (λ j. (inner_taps k (eight_at t j)).p0) s.p0 (omega arith) (ap (λ (x : InnerTaps). x.p0) p) i
    ∷ turn 4 (λ j. (inner_taps k (eight_at t j)).q0) s.q0 (omega arith) (ap (λ (x : InnerTaps). x.q0) p) i
    ∷ turn 5 (λ j. (inner_taps k (eight_at t j)).q1) s.q1 (omega arith) (ap (λ (x : InnerTaps). x.q1) p) i
    ∷ turn 6 (λ j. (inner_taps k (eight_at t j)).q2) s.q2 (omega arith) (ap (λ (x : InnerTaps). x.q2) p) i
    ∷ get_or t 7 [] ∷ [])
  where
    turn : (r : ℕ) (g : ℕ → ℤ) (v : ℤ) → r < 8 → v ≡ g n → set (fill n g (get_or t r [])) n v ≡ fill (n + 1) g (get_or t r [])
    turn r g v b e' = fill-turn n g (get_or t r []) (fill n g (get_or t r [])) v refl (omega (arith, long r b)) e'

pub run_end : (k : Kernel) (m n : ℕ) (t rows : List (List ℤ)) → ((r : ℕ) → r < 8 → length (get_or t r []) ≡ m) → n ≡ m → rows ≡ run_to k n t → rows ≡ run_of_eight k m t
unfolding run_to run_of_eight
run_end k m n t rows long h e =
    e ∙ (λ i. get_or t 0 []
    ∷ end 1 (λ j. (inner_taps k (eight_at t j)).p2) (omega arith) i
    ∷ end 2 (λ j. (inner_taps k (eight_at t j)).p1) (omega arith) i
    ∷ end 3 (λ j. (inner_taps k (eight_at t j)).p0) (omega arith) i
    ∷ end 4 (λ j. (inner_taps k (eight_at t j)).q0) (omega arith) i
    ∷ end 5 (λ j. (inner_taps k (eight_at t j)).q1) (omega arith) i
    ∷ end 6 (λ j. (inner_taps k (eight_at t j)).q2) (omega arith) i
    ∷ get_or t 7 [] ∷ [])
  where
    end : (r : ℕ) (g : ℕ → ℤ) → r < 8 → fill n g (get_or t r []) ≡ table m g
    end r g b = fill_end n m g (get_or t r []) (fill n g (get_or t r [])) refl h (long r b)

-- ---- a run of four rows

unfoldable pub four-to : Kernel → (n : ℕ) → List (List ℤ) → List (List ℤ)
four-to k n t = get_or t 0 [] ∷ fill n (λ j. (edge_taps k (four_at t j)).p0) (get_or t 1 []) ∷ fill n (λ j. (edge_taps k (four_at t j)).q0) (get_or t 2 []) ∷ get_or t 3 [] ∷ []

four-entries : (t : List (List ℤ)) → length t ≡ 4 → t ≡ get_or t 0 [] ∷ get_or t 1 [] ∷ get_or t 2 [] ∷ get_or t 3 [] ∷ []
unfolding table
four-entries t h =
    ext_get_or [] t (table 4 (λ k. get_or t k [])) (h ∙ sym (length-table 4 (λ k. get_or t k [])))
    (λ i b. sym (get_or-table 4 (λ k. get_or t k []) i [] (omega arith)))

pub four_none : (k : Kernel) (t : List (List ℤ)) → length t ≡ 4 → t ≡ four-to k 0 t
unfolding four-to
four_none k t h =
    four-entries t h
    ∙ (λ i. get_or t 0 [] ∷ fill_none (λ j. (edge_taps k (four_at t j)).p0) (get_or t 1 []) i ∷ fill_none (λ j. (edge_taps k (four_at t j)).q0) (get_or t 2 []) i ∷ get_or t 3 [] ∷ [])

pub four-turn : (k : Kernel) (m n : ℕ) (t rows rows' : List (List ℤ)) (s : EdgeTaps) → ((r : ℕ) → r < 4 → length (get_or t r []) ≡ m) → n < m
    → rows ≡ four-to k n t → s ≡ edge_taps k (four_at t n) → SignedTwo s → rows' ≡ store_tap 2 n (read s.q0) (store_tap 1 n (read s.p0) rows) → rows' ≡ four-to k (n + 1) t
unfolding four-to
four-turn k m n t rows rows' s long h e p two q =
    let p0 = back s.p0 two.p0-in in
    let q0 = back s.q0 two.q0-in in
    q ∙ (λ i. store_tap 2 n (q0 i) (store_tap 1 n (p0 i) (e i)))
    ∙ (λ i. get_or t 0 []
    ∷ turn 1 (λ j. (edge_taps k (four_at t j)).p0) s.p0 (omega arith) (ap (λ (x : EdgeTaps). x.p0) p) i
    ∷ turn 2 (λ j. (edge_taps k (four_at t j)).q0) s.q0 (omega arith) (ap (λ (x : EdgeTaps). x.q0) p) i
    ∷ get_or t 3 [] ∷ [])
  where
    turn : (r : ℕ) (g : ℕ → ℤ) (v : ℤ) → r < 4 → v ≡ g n → set (fill n g (get_or t r [])) n v ≡ fill (n + 1) g (get_or t r [])
    turn r g v b e' = fill-turn n g (get_or t r []) (fill n g (get_or t r [])) v refl (omega (arith, long r b)) e'

pub four_end : (k : Kernel) (m n : ℕ) (t rows : List (List ℤ)) → ((r : ℕ) → r < 4 → length (get_or t r []) ≡ m) → n ≡ m → rows ≡ four-to k n t → rows ≡ run_of_four k m t
unfolding four-to run_of_four
four_end k m n t rows long h e =
    e ∙ (λ i. get_or t 0 [] ∷ end 1 (λ j. (edge_taps k (four_at t j)).p0) (omega arith) i ∷ end 2 (λ j. (edge_taps k (four_at t j)).q0) (omega arith) i ∷ get_or t 3 [] ∷ [])
  where
    end : (r : ℕ) (g : ℕ → ℤ) → r < 4 → fill n g (get_or t r []) ≡ table m g
    end r g b = fill_end n m g (get_or t r []) (fill n g (get_or t r [])) refl h (long r b)
