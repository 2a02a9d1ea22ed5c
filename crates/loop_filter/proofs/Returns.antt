-- What is returned of an answer is returned of an equal one. Assumes nothing.
use mathlib.Core.Path.{◌≡◌, refl, ap, ◌∙◌}
use Prim.Native.Nat.{ℕ}
use Rattle.arithmetic.specs.Outcome.{Outcome, number_of}
use mathlib.Core.List.{List}
use Rattle.planes.specs.Layout.{planes_of}
use Rattle.planes.specs.Pictures.{planes_lent}
use Rattle.planes.specs.declared.picture.PictureMut.{PictureMut}
use Rattle.levels.specs.declared.config.FrameFilterConfig.{FrameFilterConfig}
use Rattle.calls.specs.Pass.{Pass, Call, Progress, answer, planes_after}
use mathlib.Core.Bool.{Bool, true, false}
use mir.Val.{bool_byte}
use Rattle.kernels.specs.Segment.{mark}
use Rattle.calls.specs.Smoothed.{part}
use Rattle.calls.specs.Answers.{Passed, pass_outcome, part_outcome}
use Rattle.std.specs.Prelude.{Result}
use Rattle.calls.specs.declared.answers.Done.{Done}
use Rattle.calls.specs.declared.answers.PassRefusal.{PassRefusal}
use Rattle.search.specs.Search.{SearchCall, Choice, LevelChoice, search_answer, level_only, scratch_after, Searched, LevelSearched}
use Rattle.stills.specs.FullSearch.{FullChoice, full_answer, scratch_after_full, FullSearched}
use Rattle.loop_filter.specs.Returned.{out_of, Returned, ProgressReturned, PassReturned, ChoiceReturned, LevelReturned, SearchReturned, LevelSearchReturned, FullChoiceReturned, FullSearchReturned}

pub returned : {X : Type 0} {o o' : Outcome X} {n : ℕ} {a b : X} → o ≡ o' → Returned o n a b → Returned o' n a b
returned {X} {a = a} e r = record { number = r.number ∙ ap number_of e; out = r.out ∙ ap (λ (o : Outcome X). out_of (λ x. x) o a) e }

-- a `bool` as a byte
pub mark_byte : (b : Bool) → bool_byte b ≡ mark b
unfolding mark
mark_byte true = refl
mark_byte false = refl

pub progress : {o o' : Outcome Progress} {s s' : Outcome ℕ} {n a b c d e f : ℕ} → o ≡ o' → s ≡ s' → ProgressReturned o s n a b c d e f → ProgressReturned o' s' n a b c d e f
progress {a = a} {b = b} {c = c} q t r = record {
  number = r.number ∙ ap number_of q;
  count = r.count ∙ ap (λ (o : Outcome Progress). out_of (λ (x : Progress). x.count) o a) q;
  next = r.next ∙ ap (λ (o : Outcome Progress). out_of (λ (x : Progress). x.next) o b) q;
  smoothed = r.smoothed ∙ ap (λ (o : Outcome ℕ). out_of (λ x. x) o c) t;
}

-- a pass whose settings crossed as numbers
pub passed : (W : Pass) (call : FrameFilterConfig → Call W) {q q' : FrameFilterConfig} {r : Result Done PassRefusal} (after : PictureMut) {y u v : List ℕ} {n a b c d e f : ℕ}
    → y ≡ after.y.now → u ≡ after.u.now → v ≡ after.v.now → q ≡ q' → Passed W (call q) r (planes_lent after) → ProgressReturned (pass_outcome r) (part_outcome r) n a b c d e f → PassReturned W (call q') n (planes_of y u v) a b c d e f
passed W call after ey eu ev same p t = record {
  progress = progress (p.answered ∙ ap (λ (q : FrameFilterConfig). answer W (call q)) same) (p.counted ∙ ap (λ (q : FrameFilterConfig). part W (call q)) same) t;
  planes = (λ i. planes_of (ey i) (eu i) (ev i)) ∙ p.filtered ∙ ap (λ (q : FrameFilterConfig). planes_after W (call q)) same;
}

pub choice : {o o' : Outcome Choice} {n a b c d e f : ℕ} → o ≡ o' → ChoiceReturned o n a b c d e f → ChoiceReturned o' n a b c d e f
choice {a = a} {b = b} {c = c} q r = record {
  number = r.number ∙ ap number_of q;
  level = r.level ∙ ap (λ (o : Outcome Choice). out_of (λ (x : Choice). x.level) o a) q;
  sharpness = r.sharpness ∙ ap (λ (o : Outcome Choice). out_of (λ (x : Choice). x.sharpness) o b) q;
  count = r.count ∙ ap (λ (o : Outcome Choice). out_of (λ (x : Choice). x.count) o c) q;
}

pub level : {o o' : Outcome LevelChoice} {n a b c d : ℕ} → o ≡ o' → LevelReturned o n a b c d → LevelReturned o' n a b c d
level {a = a} {b = b} q r = record {
  number = r.number ∙ ap number_of q;
  level = r.level ∙ ap (λ (o : Outcome LevelChoice). out_of (λ (x : LevelChoice). x.level) o a) q;
  count = r.count ∙ ap (λ (o : Outcome LevelChoice). out_of (λ (x : LevelChoice). x.count) o b) q;
}

-- a search whose settings crossed as numbers
pub searched : (W : Pass) (call : FrameFilterConfig → SearchCall W) {q q' : FrameFilterConfig} {o : Outcome Choice} (after : PictureMut) {y u v : List ℕ} {n a b c d e f : ℕ}
    → y ≡ after.y.now → u ≡ after.u.now → v ≡ after.v.now → q ≡ q' → Searched W (call q) o (planes_lent after) → ChoiceReturned o n a b c d e f → SearchReturned W (call q') n (planes_of y u v) a b c d e f
searched W call after ey eu ev same s t = record {
  choice = choice (s.answer ∙ ap (λ (q : FrameFilterConfig). search_answer W (call q)) same) t;
  scratch = (λ i. planes_of (ey i) (eu i) (ev i)) ∙ s.scratch ∙ ap (λ (q : FrameFilterConfig). scratch_after W (call q)) same;
}

pub level-searched : (W : Pass) (call : FrameFilterConfig → SearchCall W) {q q' : FrameFilterConfig} {o : Outcome LevelChoice} (after : PictureMut) {y u v : List ℕ} {n a b c d : ℕ}
    → y ≡ after.y.now → u ≡ after.u.now → v ≡ after.v.now → q ≡ q' → LevelSearched W (call q) o (planes_lent after) → LevelReturned o n a b c d → LevelSearchReturned W (call q') n (planes_of y u v) a b c d
level-searched W call after ey eu ev same s t = record {
  choice = level (s.answer ∙ ap (λ (q : FrameFilterConfig). level_only (search_answer W (call q))) same) t;
  scratch = (λ i. planes_of (ey i) (eu i) (ev i)) ∙ s.scratch ∙ ap (λ (q : FrameFilterConfig). scratch_after W (call q)) same;
}

pub full-choice : {o o' : Outcome FullChoice} {n a b c d e f : ℕ} → o ≡ o' → FullChoiceReturned o n a b c d e f → FullChoiceReturned o' n a b c d e f
full-choice {a = a} {b = b} {c = c} q r = record {
  number = r.number ∙ ap number_of q;
  level = r.level ∙ ap (λ (o : Outcome FullChoice). out_of (λ (x : FullChoice). x.level) o a) q;
  sharpness = r.sharpness ∙ ap (λ (o : Outcome FullChoice). out_of (λ (x : FullChoice). x.sharpness) o b) q;
  sum = r.sum ∙ ap (λ (o : Outcome FullChoice). out_of (λ (x : FullChoice). x.sum) o c) q;
}

-- a full search whose settings crossed as numbers
pub full-searched : (W : Pass) (call : FrameFilterConfig → SearchCall W) {q q' : FrameFilterConfig} {o : Outcome FullChoice} (after : PictureMut) {y u v : List ℕ} {n a b c d e f : ℕ}
    → y ≡ after.y.now → u ≡ after.u.now → v ≡ after.v.now → q ≡ q' → FullSearched W (call q) o (planes_lent after) → FullChoiceReturned o n a b c d e f → FullSearchReturned W (call q') n (planes_of y u v) a b c d e f
full-searched W call after ey eu ev same s t = record {
  choice = full-choice (s.answer ∙ ap (λ (q : FrameFilterConfig). full_answer W (call q)) same) t;
  scratch = (λ i. planes_of (ey i) (eu i) (ev i)) ∙ s.scratch ∙ ap (λ (q : FrameFilterConfig). scratch_after_full W (call q)) same;
}
