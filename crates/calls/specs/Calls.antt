-- Demand 3: a list of calls of one pass on one picture, and further calls after it (document 01, Halting and Halting rule).
-- What a call answers and leaves is `answer` and `planes_after`, which the contracts of the passes cite. Lines in quotation marks are the demand's.
use Rattle.std.specs.Prelude.{◌≡◌, ◌≢◌, ℕ, ◌+◌, ◌<◌, min, length}
use mathlib.Core.List.{List, [], ◌∷◌, Memᴰ}
use Rattle.std.proofs.Math.Option as option
use Rattle.std.proofs.Math.Option.{Option}
use Rattle.arithmetic.specs.Outcome.{Outcome, gives, refuses}
use Rattle.levels.specs.declared.config.FrameFilterConfig.{FrameFilterConfig}
use Rattle.planes.specs.Steps.{steps, Clear}
use Rattle.planes.specs.Planes.{Plane, Planes, Grid, plane, Sample, sample, macroblocks}
use Rattle.planes.specs.Reach.{Reach, Own, InGrid}
use Rattle.calls.specs.Entries.{Entry}
use Rattle.calls.specs.Pass.{Pass, Call, Progress, refusal, step, answer, planes_after}

-- what accepted calls share: the grid with its strides, the settings, and what is said of each macroblock, as bytes or as records
pub record Picture : Type 0 where
  pub grid : Grid
  pub settings : FrameFilterConfig
  pub entries : (m : ℕ) → Entry

-- the planes and the start last left
pub record LastLeft : Type 0 where
  pub planes : Planes
  pub start : ℕ

-- what an answer counts, and what it lets count of the allowance
abbrev pub count_in : Outcome Progress → ℕ
count_in (gives d) = d.count
count_in (refuses number) = 0

abbrev pub allowed_in : Outcome Progress → (allowance : ℕ) → ℕ
allowed_in (gives d) allowance = allowance
allowed_in (refuses number) allowance = 0

-- t differs from p only in samples of macroblocks from k on: any samples are acceptable
unfoldable pub StandIn : Grid → (k : ℕ) → (p t : Planes) → Type 0
StandIn g k p t = (x : Sample) → Clear (Own g) k (macroblocks g) x → sample t x ≡ sample p x

module _ (W : Pass) where
  -- ---- a call

  unfoldable pub Accepted : Call W → Type 0
  Accepted a = (d : Progress) × (answer W a ≡ gives d)

  -- the call is of the picture, and gets the planes and the start last left
  pub record GoesOn (pic : Picture) (h : LastLeft) (a : Call W) : Type 0 where
    pub grid : a.grid ≡ pic.grid
    pub settings : a.settings ≡ pic.settings
    pub planes : a.lent ≡ h.planes
    pub start : a.start ≡ h.start

  -- what is carried says of each macroblock what the picture says
  unfoldable pub Carries : Picture → W.Carried → Type 0
  Carries pic c = (m : ℕ) → m < macroblocks pic.grid → W.entry c m ≡ pic.entries m

  -- after an accepted call: the planes that it leaves, and the next start that it answers
  unfoldable pub after_accepted : Call W → Progress → LastLeft
  after_accepted a d = record { planes = planes_after W a; start = d.next }

  -- After a refused call the start stays. The call may have been lent any of the picture's samples, in whatever planes: `sees` tells where it sees each, if it was lent it at all.
  -- A sample that it sees is afterwards what it left there. Nobody else writes the picture meanwhile: a sample that it does not see stays.
  pub record AfterRefused (h : LastLeft) (a : Call W) (h' : LastLeft) : Type 0 where
    pub start : h'.start ≡ h.start
    pub sees : Sample → Option Sample
    pub lent : (x y : Sample) → sees x ≡ option.some y → sample a.lent y ≡ sample h.planes x
    pub left : (x y : Sample) → sees x ≡ option.some y → sample h'.planes x ≡ sample (planes_after W a) y
    pub unseen : (x : Sample) → sees x ≡ option.none → sample h'.planes x ≡ sample h.planes x
    pub lengths : (q : Plane) → length (plane q h'.planes) ≡ length (plane q h.planes)

  -- ---- a list of calls

  -- From h to h'. A call that answers a refusal may have any arguments.
  pub data Calls (pic : Picture) : LastLeft → List (Call W) → LastLeft → Type 0 where
    none : {h : LastLeft} → Calls pic h [] h
    accepted :
        {h h' : LastLeft} {rest : List (Call W)} (a : Call W) (d : Progress) → answer W a ≡ gives d → GoesOn pic h a → Carries pic a.carried
        → Calls pic (after_accepted a d) rest h' → Calls pic h (a ∷ rest) h'
    refused :
        {h h₁ h' : LastLeft} {rest : List (Call W)} (a : Call W) (number : ℕ) → answer W a ≡ refuses number → AfterRefused h a h₁
        → Calls pic h₁ rest h' → Calls pic h (a ∷ rest) h'

  -- the sum of the counts that are answered, and that of the accepted allowances
  unfoldable pub counts : List (Call W) → ℕ
  counts [] = 0
  counts (a ∷ rest) = count_in (answer W a) + counts rest

  unfoldable pub allowances : List (Call W) → ℕ
  allowances [] = 0
  allowances (a ∷ rest) = allowed_in (answer W a) a.allowance + allowances rest

  -- document 01's k: "the lesser of the accepted allowances' sum and the whole grid"
  unfoldable pub done : Picture → List (Call W) → ℕ
  done pic list = min (allowances list) (macroblocks pic.grid)

  -- what "the definition's first k macroblocks in raster order leave"
  unfoldable pub first_macroblocks : Picture → (k : ℕ) → Planes → Planes
  first_macroblocks pic k = steps (step W pic.grid pic.settings pic.entries) 0 k

  -- A final value is the one after all n steps.
  unfoldable pub final_value : Picture → Planes → Sample → ℕ
  final_value pic p = sample (first_macroblocks pic (macroblocks pic.grid) p)

  -- One unbroken pass is a single call from start 0 with allowance n on the planes first lent, p.
  pub record Unbroken (pic : Picture) (p : Planes) (a : Call W) : Type 0 where
    pub accepted : Accepted a
    pub goes_on : GoesOn pic (record { planes = p; start = 0 }) a
    pub carries : Carries pic a.carried
    pub allowance : a.allowance ≡ macroblocks pic.grid

  unfoldable pub unbroken_call : Picture → Planes → W.Carried → Call W
  unbroken_call pic p c = record { grid = pic.grid; settings = pic.settings; carried = c; lent = p; start = 0; allowance = macroblocks pic.grid }

  -- ---- further calls

  -- From h to h', after a list that did k macroblocks. Before any of them other samples may be put in for those of macroblocks from k on; an accepted one may carry any entries.
  -- k stays that of the list, so that samples and entries of macroblocks that a further call has begun may be replaced too.
  pub data FurtherCalls (pic : Picture) (k : ℕ) : LastLeft → LastLeft → Type 0 where
    none : {h : LastLeft} → FurtherCalls pic k h h
    put_in :
        {h h' : LastLeft} (t : Planes) → StandIn pic.grid k h.planes t
        → FurtherCalls pic k (record { planes = t; start = h.start }) h' → FurtherCalls pic k h h'
    accepted :
        {h h' : LastLeft} (a : Call W) (d : Progress) → answer W a ≡ gives d → GoesOn pic h a
        → FurtherCalls pic k (after_accepted a d) h' → FurtherCalls pic k h h'
    refused :
        {h h₁ h' : LastLeft} (a : Call W) (number : ℕ) → answer W a ≡ refuses number → AfterRefused h a h₁
        → FurtherCalls pic k h₁ h' → FurtherCalls pic k h h'

  -- ---- the promise

  -- Of every call, whatever its arguments.
  pub record OfEveryCall : Type 0 where
    -- A refused call answers its number, and the planes lent to it, whichever they were, come back as they were. So "a refused one leaves both".
    pub refused : (a : Call W) (number : ℕ) → answer W a ≡ refuses number → (number ≡ refusal W a) × (number ≢ 0) × (planes_after W a ≡ a.lent)
    pub leaves-both :
        (a : Call W) (number : ℕ) → answer W a ≡ refuses number
        → (before after : LastLeft) → AfterRefused before a after → (after.planes ≡ before.planes) × (after.start ≡ before.start)
    -- "Samples outside the grid never change."
    pub outside : (a : Call W) (x : Sample) → ¬ InGrid a.grid x → sample (planes_after W a) x ≡ sample a.lent x

  unfoldable pub SomeAccepted : List (Call W) → Type 0
  SomeAccepted list = (a : Call W) × (Memᴰ a list) × Accepted a

  -- Of a list of calls on the picture, from start 0 and the planes p, that leaves h; k is `done pic list`, n is `macroblocks pic.grid`.
  pub record Promise (pic : Picture) (p : Planes) (list : List (Call W)) (h : LastLeft) : Type 0 where
    -- "the planes after it hold exactly what the definition's first k macroblocks in raster order leave"
    pub planes : h.planes ≡ first_macroblocks pic (done pic list) p
    -- "the counts add up to k, the start to go on from"
    pub added : counts list ≡ done pic list
    pub start : h.start ≡ done pic list
    -- "Where k is the whole grid, the planes are those of one unbroken pass."
    pub unbroken : done pic list ≡ macroblocks pic.grid → (a : Call W) → Unbroken pic p a → h.planes ≡ planes_after W a
    -- There is such a call: what any accepted call of the list carried makes one. It does all n.
    pub unbroken-accepted :
        (a : Call W) → Memᴰ a list → Accepted a
        → Unbroken pic p (unbroken_call pic p a.carried)
        × (answer W (unbroken_call pic p a.carried) ≡ gives (record { count = macroblocks pic.grid; next = macroblocks pic.grid }))
    -- A list that did some macroblock has an accepted call. One that has none leaves all as at first, and so does every list on a grid of no macroblocks.
    pub some-accepted : 0 < done pic list → SomeAccepted list
    pub none-accepted : ¬ SomeAccepted list → (done pic list ≡ 0) × (h.planes ≡ p) × (h.start ≡ 0)
    pub zero-grid : macroblocks pic.grid ≡ 0 → (done pic list ≡ 0) × (h.planes ≡ p) × (h.start ≡ 0)
    -- "After the list each sample that no later macroblock can reach already has its final value"
    pub final : (x : Sample) → Clear (Reach pic.grid) (done pic list) (macroblocks pic.grid) x → sample h.planes x ≡ final_value pic p x
    -- "and keeps it through all further calls, whatever acceptable samples and entries stand in by then for those of macroblocks not yet begun"
    pub keeps :
        (x : Sample) → Clear (Reach pic.grid) (done pic list) (macroblocks pic.grid) x
        → (h' : LastLeft) → FurtherCalls pic (done pic list) h h' → sample h'.planes x ≡ final_value pic p x
    -- "Samples outside the grid never change."
    pub outside : (x : Sample) → ¬ InGrid pic.grid x → sample h.planes x ≡ sample p x
