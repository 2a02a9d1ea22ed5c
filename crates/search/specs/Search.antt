-- The search for a level and a sharpness: of the pairs that it tries, the one with the smallest error sum. What a call of it answers, and what it leaves in the scratch planes (document 01, Search).
-- One text for the key search and the inter search: `Pass` says in what they differ.
use Rattle.std.specs.Prelude.{◌≡◌, Bool, false, cond, ◌||◌, List, [], ◌∷◌, ℕ, min, eqb}
use Rattle.arithmetic.specs.Outcome.{Outcome, gives, refuses}
use Rattle.levels.specs.declared.config.FrameFilterConfig.{FrameFilterConfig}
use Rattle.planes.specs.Planes.{Planes, Grid, macroblocks}
use Rattle.planes.specs.GridRefusals.{zero_grid, past_grid}
use Rattle.calls.specs.Entries.{KeyLists, InterLists, KeyCarried, InterCarried}
use Rattle.planes.specs.Layout.{grid_of}
use Rattle.planes.specs.Pictures.{planes_in}
use Rattle.calls.specs.Pass.{Pass, key_pass, inter_pass, planes_after}
use Rattle.planes.specs.declared.layout.PlaneLayout.{PlaneLayout}
use Rattle.sums.specs.Source.{Source}
use Rattle.sums.specs.Sums.{error_sum, past_source, sum_too_large}
use Rattle.sums.specs.SourceRecord.{source_in}
use Rattle.scratch.specs.Copies.{copy_grid}
use Rattle.search.specs.Candidates.{Candidate, Standing, above_zero, searched}
use Rattle.search.specs.declared.input.SearchInput.{SearchInput}
use Rattle.search.specs.declared.candidates.Pair.{Pair}

-- the arguments of one call
pub record SearchCall (W : Pass) : Type 0 where
  pub grid : Grid
  pub settings : FrameFilterConfig
  pub carried : W.Carried
  pub reconstruction : Planes
  pub scratch : Planes
  pub source : Source

-- the calls that the arguments of the key search and of the inter search make
abbrev pub key_search : PlaneLayout → FrameFilterConfig → KeyLists → (reconstruction scratch : Planes) → Source → SearchCall key_pass
key_search layout settings l p t s = record { grid = grid_of layout; settings = settings; carried = KeyCarried.byte_lists l; reconstruction = p; scratch = t; source = s }

abbrev pub inter_search : PlaneLayout → FrameFilterConfig → InterLists → (reconstruction scratch : Planes) → Source → SearchCall inter_pass
inter_search layout settings l p t s = record { grid = grid_of layout; settings = settings; carried = InterCarried.byte_lists l; reconstruction = p; scratch = t; source = s }

-- the same of either pass, of the record that a search is lent
abbrev pub search_of : (W : Pass) → W.Carried → SearchInput → (scratch : Planes) → SearchCall W
search_of W carried a t =
    record { grid = grid_of a.«layout»; settings = a.«config»; carried = carried; reconstruction = planes_in a.«picture»; scratch = t; source = source_in a.«source» }

-- the candidate that a pair names
abbrev pub candidate_of : Pair → Candidate
candidate_of p = record { level = p.«level»; sharpness = p.«sharpness» }

-- the settings with a candidate's level and sharpness
unfoldable pub settings_at : FrameFilterConfig → Candidate → FrameFilterConfig
settings_at f c = record {
  «simple» = f.«simple»;
  key_frame = f.key_frame;
  loop_filter_level = c.level;
  sharpness_level = c.sharpness;
  segmentation_enabled = f.segmentation_enabled;
  segment_abs = f.segment_abs;
  segment_lf_level = f.segment_lf_level;
  delta_enabled = f.delta_enabled;
  ref_delta_current = f.ref_delta_current;
  bpred_mode_delta = f.bpred_mode_delta;
  ref_delta_last = f.ref_delta_last;
  ref_delta_golden = f.ref_delta_golden;
  ref_delta_altref = f.ref_delta_altref;
  zero_mv_mode_delta = f.zero_mv_mode_delta;
  other_mv_mode_delta = f.other_mv_mode_delta;
  split_mv_mode_delta = f.split_mv_mode_delta;
}

-- one unbroken pass over planes. Lists of wrong length and a zero grid leave them as they are.
unfoldable pub pass_over : (W : Pass) → Grid → FrameFilterConfig → W.Carried → Planes → Planes
pass_over W g settings carried p =
    planes_after W (record { grid = g; settings = settings; carried = carried; lent = p; start = 0; allowance = macroblocks g })

-- Level 0 is the planes as they are, even where deltas would lift it; any other is one pass.
unfoldable pub candidate_planes : (W : Pass) → Grid → FrameFilterConfig → W.Carried → Planes → Candidate → Planes
candidate_planes W g settings carried p c = cond (eqb c.level 0) p (pass_over W g (settings_at settings c) carried p)

-- the planes of a candidate of the call, and their error sum
unfoldable pub planes_of_candidate : (W : Pass) → SearchCall W → Candidate → Planes
planes_of_candidate W a c = candidate_planes W a.grid a.settings a.carried a.reconstruction c

unfoldable pub score : (W : Pass) → SearchCall W → Candidate → ℕ
score W a c = error_sum a.grid (planes_of_candidate W a c) a.source

-- the lesser of its own and 7
unfoldable pub base_sharpness : FrameFilterConfig → ℕ
base_sharpness f = min f.sharpness_level 7

unfoldable pub search : (W : Pass) → SearchCall W → Standing
search W a = searched (score W a) (base_sharpness a.settings)

-- 10, of some candidate that is scored
unfoldable pub any_too_large : (score : Candidate → ℕ) → List Candidate → Bool
any_too_large score [] = false
any_too_large score (c ∷ cs) = sum_too_large (score c) || any_too_large score cs

-- 6 if there is a grid and lengths are right, then what else there is to refuse
unfoldable pub past_entries : (W : Pass) → Grid → W.Carried → (rest : ℕ) → ℕ
past_entries W g carried rest =
    cond (zero_grid g || W.wrong_length carried (macroblocks g)) rest (cond (W.bad_entry carried) 6 rest)

-- the number of the refusal, or 0: 1, 2, 3 of planes and of scratch planes, 8, 9, 6, 10
unfoldable pub search_refusal : (W : Pass) → SearchCall W → ℕ
search_refusal W a =
    past_grid a.grid a.reconstruction
    (past_grid a.grid a.scratch
    (past_source a.grid a.source
    (past_entries W a.grid a.carried
    (cond (any_too_large (score W a) (search W a).scored) 10 0))))

-- the unfiltered sum, or the number of the search's refusal
unfoldable pub unfiltered_answer : (W : Pass) → SearchCall W → Outcome ℕ
unfiltered_answer W a =
    cond (eqb (search_refusal W a) 0) (gives (error_sum a.grid a.reconstruction a.source)) (refuses (search_refusal W a))

-- what is chosen, and the number of candidates scored at a level above 0
pub record Choice : Type 0 where
  pub level : ℕ
  pub sharpness : ℕ
  pub count : ℕ

unfoldable pub choice : Standing → Choice
choice s = record { level = s.best.level; sharpness = s.best.sharpness; count = above_zero s.scored }

-- what the call answers
unfoldable pub search_answer : (W : Pass) → SearchCall W → Outcome Choice
search_answer W a = cond (eqb (search_refusal W a) 0) (gives (choice (search W a))) (refuses (search_refusal W a))

-- the scratch planes as it leaves them
unfoldable pub scratch_after : (W : Pass) → SearchCall W → Planes
scratch_after W a =
    cond (eqb (search_refusal W a) 0) (copy_grid a.grid (planes_of_candidate W a (search W a).best) a.scratch) a.scratch

-- `select_filter_level` answers the level of the same pair, and the same count
pub record LevelChoice : Type 0 where
  pub level : ℕ
  pub count : ℕ

unfoldable pub level_only : Outcome Choice → Outcome LevelChoice
level_only (gives c) = gives (record { level = c.level; count = c.count })
level_only (refuses n) = refuses n

-- ---- what is promised of an answer and of the scratch planes after it

-- a search
pub record Searched (W : Pass) (a : SearchCall W) (r : Outcome Choice) (after : Planes) : Type 0 where
  pub answer : r ≡ search_answer W a
  pub scratch : after ≡ scratch_after W a

pub record LevelSearched (W : Pass) (a : SearchCall W) (r : Outcome LevelChoice) (after : Planes) : Type 0 where
  pub answer : r ≡ level_only (search_answer W a)
  pub scratch : after ≡ scratch_after W a
