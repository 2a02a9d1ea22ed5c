-- Demand 3, for every pass, and for the key pass and the inter pass by name.
use mathlib.Core.Path.{◌≡◌, refl, sym, ap, ◌∙◌, subst}
use mathlib.Core.Bool.{Bool, true, false, cond}
use mathlib.Core.List.{List, Memᴰ}
use Prim.Native.Nat.{ℕ, ◌+◌, ◌-◌, ◌≤◌, ◌<◌, min}
use native.Mathlib.Nat.{zero-add, sub-zero}
use lib.Dec.{eqb}
use native.Mathlib.Decide.{dec_lt}
use native.Mathlib.Omega.{arith}
use Rattle.arithmetic.specs.Outcome.{gives}
use Rattle.planes.specs.Steps.{steps, Clear}
use Rattle.planes.specs.Planes.{Planes, Grid, Sample, sample, macroblocks, StridesHold}
use Rattle.planes.specs.Macroblock.{filter_macroblock}
use Rattle.planes.specs.Reach.{Reach, InGrid}
use Rattle.calls.specs.Pass.{Pass, Call, key_pass, inter_pass, refusal, step, count, next, answer, planes_after}
use Rattle.calls.specs.Calls.{
  Picture,
  LastLeft,
  Accepted,
  Calls,
  counts,
  allowances,
  done,
  first_macroblocks,
  final_value,
  Unbroken,
  unbroken_call,
  OfEveryCall,
  SomeAccepted,
  Promise,
}
use Rattle.planes.proofs.Final.{sample-final, outside-keeps}
use Rattle.calls.proofs.CallFacts.{taken, answer-taken, refused-keeps, strides-hold, accepted-too}
use Rattle.calls.proofs.CallRuns.{n, f, same-steps, did, planes-stay, Run, run, member, some, further-keeps}

module _ (W : Pass) (pic : Picture) (p : Planes) where
  -- the planes first lent, and start 0
  abbrev pub at_first : LastLeft
  at_first = record { planes = p; start = 0 }

  module _ (list : List (Call W)) (h : LastLeft) (calls : Calls W pic at_first list h) where
    abbrev k : ℕ
    k = done W pic list

    k-le : k ≤ n W pic
    unfolding done
    k-le = omega arith

    runs : Run W pic at_first list h
    runs = run W pic (omega arith) calls

    -- "the planes after it hold exactly what the definition's first k macroblocks in raster order leave"
    planes-are : h.planes ≡ first_macroblocks W pic k p
    unfolding done first_macroblocks
    planes-are = runs.planes ∙ rw sub-zero

    start_is : h.start ≡ k
    unfolding done
    start_is = runs.start ∙ rw (sub-zero, zero-add)

    added-up : counts W list ≡ k
    unfolding done
    added-up = runs.counted ∙ rw sub-zero

    -- "Where k is the whole grid, the planes are those of one unbroken pass."
    unbroken-planes : k ≡ n W pic → (a : Call W) → Unbroken W pic p a → h.planes ≡ planes_after W a
    unfolding Accepted first_macroblocks
    unbroken-planes e a u =
        let (d, ok) = u.accepted in
        let b = did W pic at_first a d (omega arith) ok u.goes_on in
        planes-are ∙ rw e (sym (b.planes ∙ rw u.allowance (same-steps W pic a.carried u.carries 0 (min (n W pic) (n W pic - 0)) (omega arith) p
        ∙ ap (λ (j : ℕ). steps (f W pic pic.entries) 0 j p) (whole (n W pic)))))
      where
        whole : (j : ℕ) → min j (j - 0) ≡ j
        whole j = omega arith

    -- what an accepted call of the list carried makes an unbroken one
    unbroken-there : (a : Call W) → Memᴰ a list → Accepted W a
        → Unbroken W pic p (unbroken_call W pic p a.carried) × (answer W (unbroken_call W pic p a.carried) ≡ gives (record { count = n W pic; next = n W pic }))
    unfolding Accepted unbroken_call count next
    unbroken-there a i ok =
        let m = member W pic a (omega arith) calls i ok in
        let b : Call W = unbroken_call W pic p a.carried in
        let r = accepted-too W a (taken W a ok.0 ok.1).not-refused b (sym m.grid) refl refl m.lengths in
        let e : answer W b ≡ gives (record { count = n W pic; next = n W pic }) = answer-taken W b r ∙ rw (whole (n W pic), whole' (n W pic)) in
        (record { accepted = (record { count = n W pic; next = n W pic }, e); goes_on = record { grid = refl; settings = refl; planes = refl; start = refl }; carries = m.carries; allowance = refl }, e)
      where
        whole : (j : ℕ) → min j (j - 0) ≡ j
        whole j = omega arith

        whole' : (j : ℕ) → min (0 + j) j ≡ j
        whole' j = omega arith

    some-there : 0 < k → SomeAccepted W list
    unfolding done
    some-there h = some W pic list (omega arith)

    as-at-first : k ≡ 0 → (k ≡ 0) × (h.planes ≡ p) × (h.start ≡ 0)
    unfolding first_macroblocks steps
    as-at-first z = (z, planes-are ∙ rw z, start_is ∙ z)

    none-there : ¬ SomeAccepted W list → k ≡ 0
    unfolding done
    none-there nobody = idle (dec_lt 0 (allowances W list))
      where
        idle : Dec (0 < allowances W list) → min (allowances W list) (n W pic) ≡ 0
        idle (yes l) = absurd (nobody (some W pic list l))
        idle (no l) = omega arith

    zero-there : n W pic ≡ 0 → k ≡ 0
    zero-there e = omega (arith, k-le)

    -- the strides hold a row, where some call was accepted
    pub strides-there : SomeAccepted W list → 0 < n W pic → StridesHold pic.grid
    unfolding SomeAccepted Accepted
    strides-there (a, i, ok) l =
        let m = member W pic a (omega arith) calls i ok in
        subst (λ (g : Grid). StridesHold g) m.grid (strides-hold W a (taken W a ok.0 ok.1).not-refused (rw m.grid l))

    final-there : (x : Sample) → Clear (Reach pic.grid) k (n W pic) x → sample h.planes x ≡ final_value W pic p x
    unfolding first_macroblocks final_value step
    final-there x clear =
        ap (λ (z : Planes). sample z x) planes-are ∙ sample-final pic.grid (λ m. W.plan pic.settings (pic.entries m)) k p x k-le clear

    outside-there : (x : Sample) → ¬ InGrid pic.grid x → sample h.planes x ≡ sample p x
    unfolding first_macroblocks step
    outside-there x out =
        ap (λ (z : Planes). sample z x) planes-are ∙ outside-keeps pic.grid (λ m. W.plan pic.settings (pic.entries m)) 0 k p x (omega (arith, k-le)) out

-- ---- of every call

call-outside : (W : Pass) (a : Call W) (x : Sample) → ¬ InGrid a.grid x → sample (planes_after W a) x ≡ sample a.lent x
unfolding planes_after step count steps
call-outside W a x out = go (eqb (refusal W a) 0) (dec_lt a.start (macroblocks a.grid))
  where
    done-of : ℕ → Planes
    done-of c = steps (filter_macroblock a.grid (λ m. W.plan a.settings (W.entry a.carried m))) a.start c a.lent

    kept : Dec (a.start < macroblocks a.grid) → sample (done-of (min a.allowance (macroblocks a.grid - a.start))) x ≡ sample a.lent x
    kept (yes l) =
        outside-keeps a.grid (λ m. W.plan a.settings (W.entry a.carried m)) a.start (min a.allowance (macroblocks a.grid - a.start)) a.lent x (omega arith) out
    kept (no l) =
        let e : min a.allowance (macroblocks a.grid - a.start) ≡ 0 = omega arith in
        ap (λ (c : ℕ). sample (done-of c) x) e

    go : (b : Bool) → Dec (a.start < macroblocks a.grid)
        → sample (cond b (done-of (min a.allowance (macroblocks a.grid - a.start))) a.lent) x ≡ sample a.lent x
    go true d = kept d
    go false d = refl

pub every_call : (W : Pass) → OfEveryCall W
every_call W = record {
  refused = λ a number e. refused-keeps W a number e;
  leaves-both = λ a number e before after stayed. (planes-stay W (picture-of a) before after a number e stayed, stayed.start);
  outside = call-outside W;
}
  where
    picture-of : Call W → Picture
    picture-of a = record { grid = a.grid; settings = a.settings; entries = W.entry a.carried }

-- THE THEOREM, for every pass
pub demand-3 : (W : Pass) (pic : Picture) (p : Planes) (list : List (Call W)) (h : LastLeft) → Calls W pic (record { planes = p; start = 0 }) list h → Promise W pic p list h
demand-3 W pic p list h calls =
    record {
      planes = planes-are W pic p list h calls;
      added = added-up W pic p list h calls;
      start = start_is W pic p list h calls;
      unbroken = unbroken-planes W pic p list h calls;
      unbroken-accepted = unbroken-there W pic p list h calls;
      some-accepted = some-there W pic p list h calls;
      none-accepted = λ nobody. as-at-first W pic p list h calls (none-there W pic p list h calls nobody);
      zero-grid = λ e. as-at-first W pic p list h calls (zero-there W pic p list h calls e);
      final = final-there W pic p list h calls;
      keeps = λ x clear h' further.
          further-keeps W pic (done W pic list) x clear (omega (arith, start_is W pic p list h calls)) (omega (arith, start_is W pic p list h calls, k-le W pic p list h calls)) further
          ∙ final-there W pic p list h calls x clear;
      outside = outside-there W pic p list h calls;
    }

-- by name
pub key-pass-calls : (pic : Picture) (p : Planes) (list : List (Call key_pass)) (h : LastLeft) → Calls key_pass pic (record { planes = p; start = 0 }) list h → Promise key_pass pic p list h
key-pass-calls = demand-3 key_pass

pub inter-pass-calls : (pic : Picture) (p : Planes) (list : List (Call inter_pass)) (h : LastLeft) → Calls inter_pass pic (record { planes = p; start = 0 }) list h → Promise inter_pass pic p list h
inter-pass-calls = demand-3 inter_pass
