-- What the private functions of the full search promise. `proofs/Pairs.antt` joins it to `specs/FullSearch.antt`.
use Rattle.std.specs.Prelude.{◌≡◌, cond, ℕ, ltb}
use Rattle.planes.specs.Planes.{Planes}
use Rattle.calls.specs.Pass.{Pass}
use Rattle.scratch.specs.Copies.{copy_grid}
use Rattle.scratch.specs.Private.Alike.{Alike}
use Rattle.search.specs.Candidates.{Standing}
use Rattle.search.specs.Search.{SearchCall, planes_of_candidate, score}
use Rattle.search.specs.Private.SearchCode.{pair_of}
use Rattle.search.specs.declared.candidates.Pair.{Pair}
use Rattle.stills.specs.FullSearch.{pair_at, after_pairs, full_search}
use Rattle.stills.specs.declared.answers.Best.{Best}

-- what the loop holds of a standing
abbrev pub best_of : Standing → Best
best_of s = record { «pair» = pair_of s.best; «sum» = s.sum }

unfoldable pub taken : Best → Pair → (sum : ℕ) → Best
taken b p sum = cond (ltb sum b.«sum») (record { «pair» = p; «sum» = sum }) b

pub record Tried (W : Pass) (a : SearchCall W) (i : ℕ) (before r : Best) (after : Planes) : Type 0 where
  pub best : r ≡ taken before (pair_of (pair_at i)) (score W a (pair_at i))
  pub scratch : after ≡ copy_grid a.grid (planes_of_candidate W a (pair_at i)) a.scratch

pub record AllTried (W : Pass) (a : SearchCall W) (r : Best) (after : Planes) : Type 0 where
  pub best : r ≡ best_of (full_search W a)
  pub scratch : Alike a.grid a.scratch after

pub record Ended (W : Pass) (a : SearchCall W) (r : Best) (after : Planes) : Type 0 where
  pub best : r ≡ best_of (full_search W a)
  pub scratch : after ≡ copy_grid a.grid (planes_of_candidate W a (full_search W a).best) a.scratch

-- the start of the loop
abbrev pub Starts : (W : Pass) → SearchCall W → Best → Type 0
Starts W a b = b ≡ best_of (after_pairs W a 0)
