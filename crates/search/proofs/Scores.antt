-- The score of a candidate that was made in the scratch planes.
use mathlib.Core.Path.{◌≡◌, sym, ap, subst, ◌∙◌}
use mathlib.Core.List.{List}
use Prim.Native.Nat.{ℕ, ◌<◌, ◌^◌}
use native.Mathlib.Omega.{arith}
use lib.ListN.{get_or}
use mir.Syntax.{w8}
use mir.Val.{Fits}
use Rattle.arithmetic.specs.Outcome.{gives}
use Rattle.planes.specs.Planes.{luma, chroma_u, chroma_v, Planes}
use Rattle.planes.specs.Layout.{planes_of}
use Rattle.calls.specs.Pass.{Pass}
use Rattle.sums.specs.Sums.{error_sum, sum_answer}
use Rattle.planes.specs.GridRefusals.{past_grid}
use Rattle.sums.specs.Bytes.{Bytes, BytePlanes}
use Rattle.scratch.specs.Copies.{copy_grid, copied_grid}
use Rattle.search.specs.Candidates.{Candidate}
use Rattle.search.specs.Search.{SearchCall, planes_of_candidate, score}
use Rattle.search.specs.Private.Ready.{Ready}
use Rattle.sums.specs.Answers.{sum_outcome}
use Rattle.sums.specs.declared.answers.SearchRefusal.{SearchRefusal}
use Rattle.std.specs.Prelude.{Result, Ok, Err}
use Rattle.sums.proofs.SumRefusals.{ends-fit}
use Rattle.search.proofs.PassBytes.{score-fits}
use Rattle.search.proofs.CandidateLaws.{candidate-copied}
use Rattle.search.proofs.CopiedSums.{sum-copy}
use Rattle.scratch.proofs.CopyLaws.{copy-past}

pub byte-planes : (y u v : List ℕ) → ((i : ℕ) → Fits w8 (get_or y i 0)) → ((i : ℕ) → Fits w8 (get_or u i 0)) → ((i : ℕ) → Fits w8 (get_or v i 0)) → BytePlanes (planes_of y u v)
unfolding BytePlanes Bytes
byte-planes y u v hy hu hv luma = λ i. (hy i).fits
byte-planes y u v hy hu hv chroma_u = λ i. (hu i).fits
byte-planes y u v hy hu hv chroma_v = λ i. (hv i).fits

-- an answer that gives a number is a sum
pub gives-sum : (n : ℕ) (why : SearchRefusal) → sum_outcome (Err why) ≡ gives n → ⊥
gives-sum n why e = let z : ◌≡◌ {A = ℕ} 0 1 = cc in omega arith

pub sum-given : (m n : ℕ) → sum_outcome (Ok m) ≡ gives n → m ≡ n
sum-given m n e = cc

pub candidate-made : (W : Pass) (a : SearchCall W) (c : Candidate) (t after : Planes) → past_grid a.grid a.reconstruction 0 ≡ 0 → past_grid a.grid t 0 ≡ 0
    → after ≡ copied_grid a.grid (planes_of_candidate W a c) t → after ≡ copy_grid a.grid (planes_of_candidate W a c) t
unfolding planes_of_candidate
candidate-made W a c t after ep et e = e ∙ candidate-copied W a.grid a.settings a.carried a.reconstruction t c ep et

-- ---- a candidate that was made and summed in scratch planes

module _ (W : Pass) (a : SearchCall W) (ready : Ready W a) (c : Candidate) (after : Planes) (e : after ≡ copied_grid a.grid (planes_of_candidate W a c) a.scratch) where
  pub made : after ≡ copy_grid a.grid (planes_of_candidate W a c) a.scratch
  made = candidate-made W a c a.scratch after ready.planes ready.scratch e

  module _ (r : Result ℕ SearchRefusal) (h : sum_outcome r ≡ sum_answer a.grid after a.source) where
    given : sum_outcome r ≡ gives (score W a c)
    unfolding score
    given =
        let past : past_grid a.grid after 0 ≡ 0 = ap (λ (z : Planes). past_grid a.grid z 0) made ∙ copy-past a.grid (planes_of_candidate W a c) a.scratch ∙ ready.scratch in
        let sum : error_sum a.grid after a.source ≡ score W a c =
        ap (λ (z : Planes). error_sum a.grid z a.source) made ∙ sum-copy a.grid (planes_of_candidate W a c) a.scratch a.source ready.scratch ready.source in
        h ∙ sym (ends-fit a.grid after a.source past ready.source (subst (λ (n : ℕ). n < 2 ^ 64) (sym sum) (score-fits W a ready.bytes ready.source_bytes ready.planes ready.source c)))
        ∙ ap gives sum

    pub scored-sum : (m : ℕ) → r ≡ Ok m → m ≡ score W a c
    scored-sum m q = sum-given m (score W a c) (ap sum_outcome (sym q) ∙ given)

    pub scored-always : (why : SearchRefusal) → r ≡ Err why → ⊥
    scored-always why q = gives-sum (score W a c) why (ap sum_outcome (sym q) ∙ given)
