-- What a C function returns, r: 0, or the number of the refusal; and what its out-parameters hold then: what the call gives, or what was there before where it refuses.
use Rattle.std.specs.Prelude.{◌≡◌, Bool, ℕ}
use Rattle.arithmetic.specs.Outcome.{Outcome, gives, refuses, number_of}
use Rattle.planes.specs.Planes.{Planes}
use Rattle.kernels.specs.Segment.{mark}
use Rattle.calls.specs.Pass.{Pass, Call, Progress, answer, planes_after}
use Rattle.calls.specs.Smoothed.{part}
use Rattle.calls.specs.FinalRows.{Rows}
use Rattle.search.specs.Search.{SearchCall, Choice, LevelChoice, search_answer, level_only, scratch_after}
use Rattle.stills.specs.FullSearch.{FullChoice, full_answer, scratch_after_full}

-- an out-parameter: f of what the call gives, or the value before where it refuses
unfoldable pub out_of : {X Y : Type 0} → (f : X → Y) → Outcome X → (before : Y) → Y
out_of f (gives x) before = f x
out_of f (refuses n) before = before

-- a call that gives one number, through one out-parameter
pub record Returned {X : Type 0} (o : Outcome X) (r : ℕ) (before after : X) : Type 0 where
  pub number : r ≡ number_of o
  pub out : after ≡ out_of (λ x. x) o before

-- a kernel that has a test: 1 where it passed, else 0
pub record PassedReturned (o : Outcome Bool) (r before after : ℕ) : Type 0 where
  pub number : r ≡ number_of o
  pub out : after ≡ out_of mark o before

-- a pass's answer, and its part
pub record ProgressReturned (o : Outcome Progress) (s : Outcome ℕ) (r count₀ next₀ smoothed₀ count₁ next₁ smoothed₁ : ℕ) : Type 0 where
  pub number : r ≡ number_of o
  pub count : count₁ ≡ out_of (λ (d : Progress). d.count) o count₀
  pub next : next₁ ≡ out_of (λ (d : Progress). d.next) o next₀
  pub smoothed : smoothed₁ ≡ out_of (λ n. n) s smoothed₀

-- a call of a pass
pub record PassReturned (W : Pass) (a : Call W) (r : ℕ) (after : Planes) (count₀ next₀ smoothed₀ count₁ next₁ smoothed₁ : ℕ) : Type 0 where
  pub progress : ProgressReturned (answer W a) (part W a) r count₀ next₀ smoothed₀ count₁ next₁ smoothed₁
  pub planes : after ≡ planes_after W a

-- the rows that are final
pub record RowsReturned (o : Outcome Rows) (r luma₀ chroma₀ luma₁ chroma₁ : ℕ) : Type 0 where
  pub number : r ≡ number_of o
  pub luma : luma₁ ≡ out_of (λ (x : Rows). x.luma) o luma₀
  pub chroma : chroma₁ ≡ out_of (λ (x : Rows). x.chroma) o chroma₀

-- a search's answer
pub record ChoiceReturned (o : Outcome Choice) (r level₀ sharpness₀ count₀ level₁ sharpness₁ count₁ : ℕ) : Type 0 where
  pub number : r ≡ number_of o
  pub level : level₁ ≡ out_of (λ (c : Choice). c.level) o level₀
  pub sharpness : sharpness₁ ≡ out_of (λ (c : Choice). c.sharpness) o sharpness₀
  pub count : count₁ ≡ out_of (λ (c : Choice). c.count) o count₀

-- the same without the sharpness
pub record LevelReturned (o : Outcome LevelChoice) (r level₀ count₀ level₁ count₁ : ℕ) : Type 0 where
  pub number : r ≡ number_of o
  pub level : level₁ ≡ out_of (λ (c : LevelChoice). c.level) o level₀
  pub count : count₁ ≡ out_of (λ (c : LevelChoice). c.count) o count₀

-- a search
pub record SearchReturned (W : Pass) (a : SearchCall W) (r : ℕ) (after : Planes) (level₀ sharpness₀ count₀ level₁ sharpness₁ count₁ : ℕ) : Type 0 where
  pub choice : ChoiceReturned (search_answer W a) r level₀ sharpness₀ count₀ level₁ sharpness₁ count₁
  pub scratch : after ≡ scratch_after W a

pub record LevelSearchReturned (W : Pass) (a : SearchCall W) (r : ℕ) (after : Planes) (level₀ count₀ level₁ count₁ : ℕ) : Type 0 where
  pub choice : LevelReturned (level_only (search_answer W a)) r level₀ count₀ level₁ count₁
  pub scratch : after ≡ scratch_after W a

-- a full search
pub record FullChoiceReturned (o : Outcome FullChoice) (r level₀ sharpness₀ sum₀ level₁ sharpness₁ sum₁ : ℕ) : Type 0 where
  pub number : r ≡ number_of o
  pub level : level₁ ≡ out_of (λ (c : FullChoice). c.level) o level₀
  pub sharpness : sharpness₁ ≡ out_of (λ (c : FullChoice). c.sharpness) o sharpness₀
  pub sum : sum₁ ≡ out_of (λ (c : FullChoice). c.sum) o sum₀

pub record FullSearchReturned (W : Pass) (a : SearchCall W) (r : ℕ) (after : Planes) (level₀ sharpness₀ sum₀ level₁ sharpness₁ sum₁ : ℕ) : Type 0 where
  pub choice : FullChoiceReturned (full_answer W a) r level₀ sharpness₀ sum₀ level₁ sharpness₁ sum₁
  pub scratch : after ≡ scratch_after_full W a
