-- Lists of calls, and further calls, call by call.
use mathlib.Core.Path.{◌≡◌, refl, sym, ap, ◌∙◌, subst}
use mathlib.Core.Logic.{◌⊎◌, inl, inr}
use mathlib.Core.List.Memᴰ
use mathlib.Core.List.{List, [], ◌∷◌, Memᴰ}
use Prim.Native.Nat.{ℕ, ◌+◌, ◌-◌, ◌≤◌, ◌<◌, min}
use native.Mathlib.Nat.{zero-add, add-zero, add_assoc, zero-min}
use native.Mathlib.Decide.{dec_lt}
use native.Mathlib.Omega.{arith}
use mathlib.Core.Option as option
use mathlib.Core.Option.{Option}
use lib.ListN.{length}
use lib.Seq.{ext_get_or}
use Rattle.arithmetic.specs.Outcome.{Outcome, gives, refuses}
use Rattle.planes.specs.Steps.{steps, Clear}
use Rattle.planes.specs.Planes.{Plane, luma, chroma_u, chroma_v, Planes, Grid, plane, Sample, sample, macroblocks, StridesHold}
use Rattle.planes.specs.Reach.{Reach, Own}
use Rattle.calls.specs.Entries.{Entry}
use Rattle.calls.specs.Pass.{Pass, Call, Progress, step, count, next, answer, planes_after}
use Rattle.calls.specs.Calls.{
  Picture,
  LastLeft,
  Accepted,
  GoesOn,
  Carries,
  after_accepted,
  AfterRefused,
  Calls,
  counts,
  allowed_in,
  allowances,
  StandIn,
  FurtherCalls,
  SomeAccepted,
}
use Rattle.planes.proofs.Steps.{steps-add, steps-ext, clear_later}
use Rattle.planes.proofs.Local.{same-plan, own-reach}
use Rattle.planes.proofs.Alike.{length-steps}
use Rattle.planes.proofs.Final.{macroblocks-keep}
use Rattle.calls.proofs.CallFacts.{taken, planes-taken, refused-keeps, strides-hold}

module _ (W : Pass) (pic : Picture) where
  -- document 01's n, and its steps for some entries
  abbrev pub n : ℕ
  n = macroblocks pic.grid

  abbrev pub f : (ℕ → Entry) → ℕ → Planes → Planes
  f entries = step W pic.grid pic.settings entries

  -- ---- one call

  -- entries that say what the picture says give its steps
  pub same-steps : (c : W.Carried) → Carries W pic c → (k m : ℕ) → k + m ≤ n → (p : Planes) → steps (f (W.entry c)) k m p ≡ steps (f pic.entries) k m p
  unfolding step Carries
  same-steps c ca k m h p =
      steps-ext (f (W.entry c)) (f pic.entries) n
      (λ j hj q. same-plan pic.grid (λ i. W.plan pic.settings (W.entry c i)) (λ i. W.plan pic.settings (pic.entries i)) j q (ap (W.plan pic.settings) (ca j hj)))
      k m h p

  -- what an accepted call does, its own entries at work
  pub record Did (h : LastLeft) (a : Call W) (d : Progress) : Type 0 where
    pub planes : planes_after W a ≡ steps (f (W.entry a.carried)) h.start (min a.allowance (n - h.start)) h.planes
    pub start : d.next ≡ h.start + min a.allowance (n - h.start)
    pub counted : d.count ≡ min a.allowance (n - h.start)

  pub did : (h : LastLeft) (a : Call W) (d : Progress) → h.start ≤ n → answer W a ≡ gives d → GoesOn W pic h a → Did h a d
  unfolding count next
  did h a d l e on =
      let t = taken W a d e in
      record {
        planes = planes-taken W a t.not-refused ∙ rw (on.grid, on.settings, on.planes, on.start);
        start = t.goes_on ∙ rw (on.grid, on.start) (omega arith);
        counted = t.counted ∙ rw (on.grid, on.start);
      }

  pub strides-of : (h : LastLeft) (a : Call W) (d : Progress) → answer W a ≡ gives d → GoesOn W pic h a → 0 < n → StridesHold pic.grid
  strides-of h a d e on some = subst (λ (g : Grid). StridesHold g) on.grid (strides-hold W a (taken W a d e).not-refused (rw on.grid some))

  pub lengths-of : (h : LastLeft) (a : Call W) (d : Progress) → h.start ≤ n → answer W a ≡ gives d → GoesOn W pic h a
      → (q : Plane) → length (plane q (after_accepted W a d).planes) ≡ length (plane q h.planes)
  unfolding step after_accepted
  lengths-of h a d l e on q =
      ap (λ (p : Planes). length (plane q p)) (did h a d l e on).planes
      ∙ length-steps pic.grid (λ m. W.plan pic.settings (W.entry a.carried m)) h.start (min a.allowance (n - h.start)) h.planes q

  -- a refused call leaves the picture's planes, whatever of them it was lent
  pub planes-stay : (h h₁ : LastLeft) (a : Call W) (number : ℕ) → answer W a ≡ refuses number → AfterRefused W h a h₁ → h₁.planes ≡ h.planes
  planes-stay h h₁ a number e after = λ i. record { y = same luma i; u = same chroma_u i; v = same chroma_v i }
    where
      at : (x : Sample) (o : Option Sample) → after.sees x ≡ o → sample h₁.planes x ≡ sample h.planes x
      at x option.none s = after.unseen x s
      at x (option.some y) s = after.left x y s ∙ ap (λ (p : Planes). sample p y) (refused-keeps W a number e).2 ∙ after.lent x y s

      same : (q : Plane) → plane q h₁.planes ≡ plane q h.planes
      same q =
          ext_get_or 0 (plane q h₁.planes) (plane q h.planes) (after.lengths q)
          (λ i _. at (record { on = q; index = i }) (after.sees (record { on = q; index = i })) refl)

  pub start-le : (h : LastLeft) (a : Call W) (d : Progress) → h.start ≤ n → answer W a ≡ gives d → GoesOn W pic h a
      → (h.start ≤ (after_accepted W a d).start) × ((after_accepted W a d).start ≤ n)
  unfolding after_accepted
  start-le h a d l e on = let b = did h a d l e on in omega arith

  -- ---- a list

  pub record Run (h : LastLeft) (list : List (Call W)) (h' : LastLeft) : Type 0 where
    pub planes : h'.planes ≡ steps (f pic.entries) h.start (min (allowances W list) (n - h.start)) h.planes
    pub start : h'.start ≡ h.start + min (allowances W list) (n - h.start)
    pub counted : counts W list ≡ min (allowances W list) (n - h.start)

  pub split : (a r s n : ℕ) → s ≤ n → min (a + r) (n - s) ≡ min a (n - s) + min r (n - (s + min a (n - s)))
  split a r s n h = omega arith

  run-accepted : (h h' : LastLeft) (a : Call W) (d : Progress) (rest : List (Call W)) → h.start ≤ n → answer W a ≡ gives d → GoesOn W pic h a → Carries W pic a.carried
      → Run (after_accepted W a d) rest h' → Run h (a ∷ rest) h'
  unfolding after_accepted allowances counts
  run-accepted h h' a d rest l e on ca r =
      let b = did h a d l e on in
      let m = min a.allowance (n - h.start) in
      let p : planes_after W a ≡ steps (f pic.entries) h.start m h.planes = b.planes ∙ same-steps a.carried ca h.start m (omega arith) h.planes in
      let s = split a.allowance (allowances W rest) h.start n l in
      record {
        planes = r.planes ∙ rw (e, s, steps-add, p, b.start);
        start = r.start ∙ rw (e, s, b.start, add_assoc);
        counted = rw (e, s, b.counted, r.counted, b.start);
      }

  run-refused : (h h₁ h' : LastLeft) (a : Call W) (number : ℕ) (rest : List (Call W)) → answer W a ≡ refuses number → AfterRefused W h a h₁ → Run h₁ rest h' → Run h (a ∷ rest) h'
  unfolding allowances counts
  run-refused h h₁ h' a number rest e after r =
      record {
        planes = r.planes ∙ rw (e, zero-add, after.start, planes-stay h h₁ a number e after);
        start = r.start ∙ rw (e, zero-add, after.start);
        counted = rw e (zero-add (counts W rest) ∙ r.counted ∙ rw (zero-add (allowances W rest), after.start));
      }

  pub run : {h h' : LastLeft} {list : List (Call W)} → h.start ≤ n → Calls W pic h list h' → Run h list h'
  unfolding allowances counts steps
  run l Calls.none = record { planes = rw zero-min; start = rw (zero-min, add-zero); counted = rw zero-min }
  run l (Calls.accepted {h = h} {h' = h'} {rest = rest} a d e on ca r) = run-accepted h h' a d rest l e on ca (run (start-le h a d l e on).1 r)
  run l (Calls.refused {h = h} {h₁ = h₁} {h' = h'} {rest = rest} a number e after r) = run-refused h h₁ h' a number rest e after (run (rw after.start l) r)

  -- what an accepted call of the list shows
  pub record Member (h : LastLeft) (a : Call W) : Type 0 where
    pub grid : a.grid ≡ pic.grid
    pub carries : Carries W pic a.carried
    pub lengths : (q : Plane) → length (plane q h.planes) ≡ length (plane q a.lent)

  -- the first call, or one of the rest
  first : (h : LastLeft) (a b : Call W) → GoesOn W pic h b → Carries W pic b.carried → a ≡ b → Member h a
  first h a b on ca same =
      subst (λ (z : Call W). Member h z) (sym same) (record { grid = on.grid; carries = ca; lengths = λ q. ap (λ (p : Planes). length (plane q p)) (sym on.planes) })

  later : (h h₁ : LastLeft) (a : Call W) → ((q : Plane) → length (plane q h₁.planes) ≡ length (plane q h.planes)) → Member h₁ a → Member h a
  later h h₁ a same m = record { grid = m.grid; carries = m.carries; lengths = λ q. sym (same q) ∙ m.lengths q }

  never : (h : LastLeft) (a b : Call W) (number : ℕ) → Accepted W a → answer W b ≡ refuses number → a ≡ b → Member h a
  unfolding Accepted
  never h a b number (d, e) r same = let z : ◌≡◌ {A = ℕ} 0 1 = cc in absurd (omega arith)

  either : {A B C : Type 0} → (A → C) → (B → C) → A ⊎ B → C
  either f g (inl a) = f a
  either f g (inr b) = g b

  pub member : {h h' : LastLeft} {list : List (Call W)} (a : Call W) → h.start ≤ n → Calls W pic h list h' → Memᴰ a list → Accepted W a → Member h a
  member a l Calls.none i ok = absurd (Memᴰ.not-nil i)
  member a l (Calls.accepted {h = h} b d e on ca r) i ok =
      either (first h a b on ca) (λ j. later h (after_accepted W b d) a (lengths-of h b d l e on) (member a (start-le h b d l e on).1 r j ok)) (Memᴰ.cases_cons i)
  member a l (Calls.refused {h = h} {h₁ = h₁} b number e after r) i ok =
      either (never h a b number ok e)
      (λ j. later h h₁ a (λ q. ap (λ (p : Planes). length (plane q p)) (planes-stay h h₁ b number e after)) (member a (rw after.start l) r j ok)) (Memᴰ.cases_cons i)

  -- where something is allowed, some call is accepted
  pub some : (list : List (Call W)) → 0 < allowances W list → SomeAccepted W list
  unfolding allowances SomeAccepted Accepted
  some [] h = absurd (omega arith)
  some (a ∷ rest) h = go (answer W a) refl (λ z. some rest z) h
    where
      go : (o : Outcome Progress) → answer W a ≡ o → (0 < allowances W rest → SomeAccepted W rest) → 0 < allowed_in o a.allowance + allowances W rest
          → (b : Call W) × (Memᴰ b (a ∷ rest)) × ((d : Progress) × (answer W b ≡ gives d))
      go (gives d) e below h = (a, Memᴰ.head refl, (d, e))
      go (refuses number) e below h = let (b, i, t) = below (omega arith) in (b, Memᴰ.tail i, t)

  -- ---- further calls

  module _ (k : ℕ) (x : Sample) (clear : Clear (Reach pic.grid) k n x) where
    call-keeps : (h : LastLeft) (a : Call W) (d : Progress) → k ≤ h.start → h.start ≤ n → answer W a ≡ gives d → GoesOn W pic h a
        → sample (after_accepted W a d).planes x ≡ sample h.planes x
    unfolding after_accepted step
    call-keeps h a d b l e on =
        ap (λ (p : Planes). sample p x) (did h a d l e on).planes
        ∙ macroblocks-keep pic.grid (λ i. W.plan pic.settings (W.entry a.carried i)) h.start (min a.allowance (n - h.start)) h.planes x (omega arith)
        (clear_later sample (Reach pic.grid) k h.start n x b clear)

    own-clear : Clear (Own pic.grid) k n x
    unfolding Clear
    own-clear m a b own = clear m a b (own-reach pic.grid m x own)

    pub further-keeps : {h h' : LastLeft} → k ≤ h.start → h.start ≤ n → FurtherCalls W pic k h h' → sample h'.planes x ≡ sample h.planes x
    unfolding StandIn
    further-keeps b l FurtherCalls.none = refl
    further-keeps b l (FurtherCalls.put_in t others r) = further-keeps b l r ∙ others x own-clear
    further-keeps b l (FurtherCalls.accepted {h = h} a d e on r) =
        let s = start-le h a d l e on in
        further-keeps (omega arith) s.1 r ∙ call-keeps h a d b l e on
    further-keeps b l (FurtherCalls.refused {h = h} {h₁ = h₁} a number e after r) =
        further-keeps (rw after.start b) (rw after.start l) r ∙ ap (λ (p : Planes). sample p x) (planes-stay h h₁ a number e after)

  -- further calls go on towards n
  pub further-start : {k : ℕ} {h h' : LastLeft} → h.start ≤ n → FurtherCalls W pic k h h' → (h.start ≤ h'.start) × (h'.start ≤ n)
  further-start l FurtherCalls.none = omega arith
  further-start l (FurtherCalls.put_in t others r) = further-start l r
  further-start l (FurtherCalls.accepted {h = h} a d e on r) =
      let s = start-le h a d l e on in let f = further-start s.1 r in omega arith
  further-start l (FurtherCalls.refused {h = h} {h₁ = h₁} a number e after r) =
      let f = further-start (rw after.start l) r in omega (arith, after.start)

  -- where they did a macroblock, the strides hold a row
  pub further-strides : {k : ℕ} {h h' : LastLeft} → h.start ≤ n → h.start < h'.start → FurtherCalls W pic k h h' → StridesHold pic.grid
  further-strides l more FurtherCalls.none = absurd (omega arith)
  further-strides l more (FurtherCalls.put_in t others r) = further-strides l more r
  further-strides l more (FurtherCalls.accepted {h = h} {h' = h'} a d e on r) =
      let s = start-le h a d l e on in
      go s (dec_lt h.start (after_accepted W a d).start) (λ m. further-strides s.1 m r)
    where
      go : (h.start ≤ (after_accepted W a d).start) × ((after_accepted W a d).start ≤ n) → Dec (h.start < (after_accepted W a d).start)
          → ((after_accepted W a d).start < h'.start → StridesHold pic.grid) → StridesHold pic.grid
      go s (yes did-some) later = strides-of h a d e on (omega (arith, s))
      go s (no Did-none) later = later (omega (arith, s))
  further-strides l more (FurtherCalls.refused {h = h} {h₁ = h₁} a number e after r) =
      further-strides (rw after.start l) (omega (arith, after.start)) r
