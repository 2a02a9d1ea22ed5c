-- What the request asks of the chosen candidate, said of levels and sharpness values and not of the order in which they are tried. `proofs/Chosen.antt` proves it.
use Rattle.std.specs.Prelude.{◌≡◌, ◌⊎◌, ℕ, ◌≤◌, ◌<◌, length}
use Rattle.calls.specs.Pass.{Pass}
use Rattle.search.specs.Candidates.{Candidate}
use Rattle.search.specs.Search.{SearchCall, score, base_sharpness, search}
use Rattle.stills.specs.FullSearch.{full_search}

-- one of the 505: unfiltered at the base sharpness, or a level 1 to 63 with a sharpness 0 to 7
unfoldable pub IsCandidate : (base : ℕ) → Candidate → Type 0
IsCandidate base c = ((c.level ≡ 0) × (c.sharpness ≡ base)) ⊎ ((1 ≤ c.level) × (c.level ≤ 63) × (c.sharpness ≤ 7))

-- c comes before d where their sums are equal: unfiltered, then the lower level, then the lower sharpness
unfoldable pub Before : (c d : Candidate) → Type 0
Before c d = (c.level < d.level) ⊎ ((c.level ≡ d.level) × (c.sharpness < d.sharpness))

pub record Promise (W : Pass) (a : SearchCall W) : Type 0 where
  -- the chosen one is one of the 505, and the sum is its sum
  pub one : IsCandidate (base_sharpness a.settings) (full_search W a).best
  pub own : (full_search W a).sum ≡ score W a (full_search W a).best
  -- none has a smaller sum, and those before it have a larger one
  pub least : (c : Candidate) → IsCandidate (base_sharpness a.settings) c → (full_search W a).sum ≤ score W a c
  pub first : (c : Candidate) → IsCandidate (base_sharpness a.settings) c → Before c (full_search W a).best → (full_search W a).sum < score W a c
  -- the search ends with no smaller sum on the same call
  pub search : (full_search W a).sum ≤ (search W a).sum
  -- so many are scored
  pub count : length (full_search W a).scored ≡ 505
