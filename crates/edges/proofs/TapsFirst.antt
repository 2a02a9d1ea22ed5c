-- Positions whose taps are apart, at whatever indices: all may be read before any is stored, and stored tap by tap (RFC 6386, section 15.1, lines 4807 to 4809).
use mathlib.Core.Path.{◌≡◌, refl, sym, ap, ap₂, ◌∙◌}
use mathlib.Core.Logic.{◌≢◌}
use mathlib.Core.List.{List}
use Prim.Native.Nat.{ℕ, zero, suc, ◌+◌, ◌-◌, ◌≤◌, ◌<◌}
use native.Mathlib.Omega.{arith}
use lib.ListN.{get_or, set}
use lib.Seq.{set_comm}
use native.Mathlib.Numerals.{add-one}
use Rattle.kernels.specs.Segment.{Kernel, taps, scatter, segment, passes_at, mark}
use Rattle.kernels.proofs.SegmentLaws.{stored, segment-is, stored_same, passes_same, length-stored, segment-other}
use Rattle.planes.specs.Steps.{steps, tally}
use Rattle.planes.proofs.Steps.{steps-suc, steps-ext}
use Rattle.planes.proofs.Tally.{tally-turn}
use Rattle.edges.specs.Private.Runs.{marks_of}
use Rattle.planes.proofs.RowsFirst.{steps-exchange, scatter-steps}

-- `at j t` is the index of tap t of position j
module _ (k : Kernel) (at : ℕ → ℕ → ℕ) (l : List ℕ) where
  -- positions leave alone what is no inner tap of theirs
  untouched : (j x : ℕ) → ((i t : ℕ) → i < j → 1 ≤ t → t + 1 < taps k → x ≢ at i t) → get_or (steps (λ i. segment k (at i)) 0 j l) x 0 ≡ get_or l x 0
  unfolding steps
  untouched zero x out = refl
  untouched (suc j) x out =
      ap (λ (z : List ℕ). get_or z x 0) (steps-suc (λ i. segment k (at i)) j l)
      ∙ segment-other k (at j) (steps (λ i. segment k (at i)) 0 j l) x (λ t. out j t (omega arith))
      ∙ untouched j x (λ i t h. out i t (omega arith))

  -- the store at inner tap i of position j, of what is read from l
  unfoldable pub store_tap : (j i : ℕ) → List ℕ → List ℕ
  store_tap j i l' = set l' (at j (1 + i)) (get_or (stored k (at j) l) i 0)

  module _ (n : ℕ) (apart : (j j' t t' : ℕ) → j < n → j' < n → at j t ≡ at j' t' → j ≡ j') where
    stored-unchanged : (j : ℕ) → j < n → stored k (at j) (steps (λ i. segment k (at i)) 0 j l) ≡ stored k (at j) l
    stored-unchanged j hj =
        stored_same k (at j) (at j) (steps (λ i. segment k (at i)) 0 j l) l
        (λ t ht. untouched j (at j t) (λ i t' hi p q eq. absurd (omega (arith, apart j i t t' hj (omega arith) eq))))

    -- the tests may all be made before any tap is stored
    pub tests-first : (j : ℕ) → j ≤ n → tally (λ i. segment k (at i)) (λ i l'. mark (passes_at k (at i) l')) 0 j l ≡ marks_of (λ i. passes_at k (at i) l) j
    unfolding tally marks_of
    tests-first zero h = refl
    tests-first (suc j) h =
        ap (λ (i : ℕ). tally (λ i. segment k (at i)) (λ i l'. mark (passes_at k (at i) l')) 0 i l) (sym (add-one j))
        ∙ tally-turn (λ i. segment k (at i)) (λ i l'. mark (passes_at k (at i) l')) j l
        ∙ ap₂ {C = ℕ} (λ x y. x + y) (tests-first j (omega arith))
        (ap mark (passes_same k (at j) (at j) (steps (λ i. segment k (at i)) 0 j l) l
        (λ t ht. untouched j (at j t) (λ i t' hi p q eq. absurd (omega (arith, apart j i t t' h (omega arith) eq))))))

    read_first : (j : ℕ) → j ≤ n → steps (λ i. segment k (at i)) 0 j l ≡ steps (λ i. scatter (at i) 1 (stored k (at i) l)) 0 j l
    unfolding steps
    read_first zero h = refl
    read_first (suc j) h =
        steps-suc (λ i. segment k (at i)) j l
        ∙ segment-is k (at j) (steps (λ i. segment k (at i)) 0 j l)
        ∙ ap₂ (scatter (at j) 1) (stored-unchanged j h) (read_first j (omega arith))
        ∙ sym (steps-suc (λ i. scatter (at i) 1 (stored k (at i) l)) j l)

    store-commutes : (j j' i i' : ℕ) → j < j' → j' < n → i < taps k - 2 → i' < taps k - 2 → (l' : List ℕ) → store_tap j' i (store_tap j i' l') ≡ store_tap j i' (store_tap j' i l')
    unfolding store_tap
    store-commutes j j' i i' h hj hi hi' l' =
        set_comm l' (at j (1 + i')) (at j' (1 + i)) _ _ (λ eq. absurd (omega (arith, apart j j' (1 + i') (1 + i) (omega arith) hj eq)))

    -- all is read first; then, inner tap after inner tap, each is stored at all positions
    pub taps-first : steps (λ j. segment k (at j)) 0 n l ≡ steps (λ i. steps (λ j. store_tap j i) 0 n) 0 (taps k - 2) l
    unfolding store_tap
    taps-first =
        read_first n (omega arith)
        ∙ steps-ext (λ j. scatter (at j) 1 (stored k (at j) l)) (λ j. steps (store_tap j) 0 (taps k - 2)) n
        (λ j _ l'. scatter-steps (at j) (stored k (at j) l) 1 l' ∙ ap (λ (m : ℕ). steps (store_tap j) 0 m l') (length-stored k (at j) l))
        0 n (omega arith) l
        ∙ steps-exchange store_tap n (taps k - 2) store-commutes l
