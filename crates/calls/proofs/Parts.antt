-- How many positions are smoothed: what each call's part is, and that the parts of a list add up.
use mathlib.Core.Path.{◌≡◌, refl, sym, ap, ◌∙◌}
use mathlib.Core.Bool.{Bool, true, cond}
use mathlib.Core.List.{List, ◌∷◌}
use Prim.Native.Nat.{ℕ, zero, suc, ◌+◌, ◌-◌, ◌*◌, ◌≤◌, ◌<◌, min}
use native.Mathlib.Nat.{zero-add, sub-zero, zero-min}
use native.Mathlib.Omega.{arith}
use lib.Dec.{eqb, eqb-suc-zero}
use borrow.Author.Tests.{ne_eqb}
use Rattle.arithmetic.specs.Outcome.{Outcome, gives, refuses}
use Rattle.planes.specs.Steps.{tally}
use Rattle.planes.specs.Planes.{Planes}
use Rattle.planes.specs.Macroblock.{leave}
use Rattle.planes.specs.GridRefusals.{zero_grid}
use Rattle.calls.specs.Entries.{Entry}
use Rattle.calls.specs.Pass.{Pass, Call, Progress, key_pass, inter_pass, refusal, step, count, answer}
use Rattle.calls.specs.Calls.{Picture, LastLeft, Accepted, GoesOn, Carries, after_accepted, AfterRefused, Calls, allowances, done, Unbroken}
use Rattle.calls.specs.Smoothed.{step_smoothed, part, part_within, parts, first_smoothed, OfEveryPart, PartsPromise}
use Rattle.planes.proofs.Local.{same-plan}
use Rattle.planes.proofs.Tally.{tally-add, tally-ext, tally-most, tally-none}
use Rattle.planes.proofs.SmoothedLaws.{macroblock-most, left-smoothed, same-smoothed}
use Rattle.calls.proofs.CallFacts.{taken, refused-keeps, zero-macroblocks, few}
use Rattle.calls.proofs.CallRuns.{n, f, did, same-steps, planes-stay, start-le, split}
use Rattle.calls.proofs.Demand3.{at_first}

-- ---- one call

module _ (W : Pass) (a : Call W) where
  -- what its steps smooth
  abbrev own : ℕ
  own = tally (step W a.grid a.settings (W.entry a.carried)) (step_smoothed W a.grid a.settings (W.entry a.carried)) a.start (count W a) a.lent

  pub part-taken : refusal W a ≡ 0 → part W a ≡ gives own
  unfolding part
  part-taken e = ap (λ (r : ℕ). cond (eqb r 0) (gives own) (refuses r)) e

  pub part-refused : (number : ℕ) → answer W a ≡ refuses number → part W a ≡ refuses number
  unfolding part
  part-refused number e =
      let k = refused-keeps W a number e in
      ap (λ (r : ℕ). cond (eqb r 0) (gives own) (refuses r)) (sym k.0)
      ∙ ap (λ (b : Bool). cond b (gives own) (refuses number)) (ne_eqb number 0 k.1)

  -- what gives a part is not refused
  part_by : (m r : ℕ) → refusal W a ≡ r → cond {A = Outcome ℕ} (eqb r 0) (gives own) (refuses r) ≡ gives m → (refusal W a ≡ 0) × (m ≡ own)
  part_by m zero z e = let o : own ≡ m = cc in (z, sym o)
  part_by m (suc r) z e = let o : ◌≡◌ {A = ℕ} 0 1 = cc (eqb-suc-zero r) in absurd (omega arith)

  pub part-given : (m : ℕ) → part W a ≡ gives m → (refusal W a ≡ 0) × (m ≡ own)
  unfolding part
  part-given m e = part_by m (refusal W a) refl e

  own-most : own ≤ 192 * count W a
  unfolding step_smoothed
  own-most =
      tally-most (step W a.grid a.settings (W.entry a.carried)) (step_smoothed W a.grid a.settings (W.entry a.carried)) 192
      (λ m p. macroblock-most a.grid (λ i. W.plan a.settings (W.entry a.carried i)) m p) a.start (count W a) a.lent

  own-none : ((m : ℕ) → a.start ≤ m → m < a.start + count W a → W.plan a.settings (W.entry a.carried m) ≡ leave) → own ≡ 0
  unfolding step_smoothed
  own-none h =
      tally-none (step W a.grid a.settings (W.entry a.carried)) (step_smoothed W a.grid a.settings (W.entry a.carried)) a.start (count W a)
      (λ m b l p. left-smoothed a.grid (λ i. W.plan a.settings (W.entry a.carried i)) m p (h m b l)) a.lent

  count-few : refusal W a ≡ 0 → count W a ≤ 1048576
  unfolding count
  count-few ok = omega (arith, few W a ok)

  zero-refusal : zero_grid a.grid ≡ true → refusal W a ≡ 0
  unfolding refusal
  zero-refusal z = rw z

  zero-count : zero_grid a.grid ≡ true → count W a ≡ 0
  unfolding count zero_grid
  zero-count z = omega (arith, zero-macroblocks a.grid.columns a.grid.rows z)

pub every-part : (W : Pass) → OfEveryPart W
unfolding tally Accepted
every-part W = record {
  accepted = λ a (d, e). (own W a, part-taken W a (taken W a d e).not-refused);
  refused = λ a number e. part-refused W a number e;
  most = λ a m e. omega (arith, (part-given W a m e).1, own-most W a);
  bounded = λ a m e. omega (arith, (part-given W a m e).1, own-most W a, count-few W a (part-given W a m e).0);
  zero-grid = λ a z.
      part-taken W a (zero-refusal W a z)
      ∙ ap (λ (k : ℕ). gives (tally (step W a.grid a.settings (W.entry a.carried)) (step_smoothed W a.grid a.settings (W.entry a.carried)) a.start k a.lent)) (zero-count W a z);
  left_alone = λ a h m e. (part-given W a m e).1 ∙ own-none W a h;
}

-- ---- a list

module _ (W : Pass) (pic : Picture) where
  -- what the picture's steps smooth, for some entries
  abbrev c : (ℕ → Entry) → ℕ → Planes → ℕ
  c entries = step_smoothed W pic.grid pic.settings entries

  same_parts : (x : W.Carried) → Carries W pic x → (k m : ℕ) → k + m ≤ n W pic → (p : Planes)
      → tally (f W pic (W.entry x)) (c (W.entry x)) k m p ≡ tally (f W pic pic.entries) (c pic.entries) k m p
  unfolding step step_smoothed Carries
  same_parts x ca k m h p =
      tally-ext (f W pic (W.entry x)) (f W pic pic.entries) (c (W.entry x)) (c pic.entries) (n W pic)
      (λ j hj q. same-plan pic.grid (λ i. W.plan pic.settings (W.entry x i)) (λ i. W.plan pic.settings (pic.entries i)) j q (ap (W.plan pic.settings) (ca j hj)))
      (λ j hj q. same-smoothed pic.grid (λ i. W.plan pic.settings (W.entry x i)) (λ i. W.plan pic.settings (pic.entries i)) j q (ap (W.plan pic.settings) (ca j hj)))
      k m h p

  -- what an accepted call smooths, its own entries at work
  own-part : (h : LastLeft) (a : Call W) (d : Progress) → answer W a ≡ gives d → GoesOn W pic h a
      → part W a ≡ gives (tally (f W pic (W.entry a.carried)) (c (W.entry a.carried)) h.start (min a.allowance (n W pic - h.start)) h.planes)
  unfolding count
  own-part h a d e on = part-taken W a (taken W a d e).not-refused ∙ rw (on.grid, on.settings, on.planes, on.start)

  -- the parts of a list from h on
  Sum : LastLeft → List (Call W) → Type 0
  Sum h list = parts W list ≡ tally (f W pic pic.entries) (c pic.entries) h.start (min (allowances W list) (n W pic - h.start)) h.planes

  sum-accepted : (h : LastLeft) (a : Call W) (d : Progress) (rest : List (Call W)) → h.start ≤ n W pic → answer W a ≡ gives d → GoesOn W pic h a → Carries W pic a.carried
      → Sum (after_accepted W a d) rest → Sum h (a ∷ rest)
  unfolding Sum after_accepted allowances parts
  sum-accepted h a d rest l e on ca r =
      let b = did W pic h a d l e on in
      let m = min a.allowance (n W pic - h.start) in
      let p = b.planes ∙ same-steps W pic a.carried ca h.start m (omega arith) h.planes in
      let s = split W pic a.allowance (allowances W rest) h.start (n W pic) l in
      let o = ap part_within (own-part h a d e on) ∙ same_parts a.carried ca h.start m (omega arith) h.planes in
      rw (o, r, e, s, tally-add, p, b.start)

  sum-refused : (h h₁ : LastLeft) (a : Call W) (number : ℕ) (rest : List (Call W)) → answer W a ≡ refuses number → AfterRefused W h a h₁ → Sum h₁ rest → Sum h (a ∷ rest)
  unfolding Sum allowances parts
  sum-refused h h₁ a number rest e after r =
      ap (λ (o : Outcome ℕ). part_within o + parts W rest) (part-refused W a number e)
      ∙ zero-add (parts W rest) ∙ r ∙ rw (e, zero-add, after.start, planes-stay W pic h h₁ a number e after)

  sums : {h h' : LastLeft} {list : List (Call W)} → h.start ≤ n W pic → Calls W pic h list h' → Sum h list
  unfolding Sum allowances parts tally
  sums l Calls.none = rw zero-min
  sums l (Calls.accepted {h = h} {rest = rest} a d e on ca r) = sum-accepted h a d rest l e on ca (sums (start-le W pic h a d l e on).1 r)
  sums l (Calls.refused {h = h} {h₁ = h₁} {rest = rest} a number e after r) = sum-refused h h₁ a number rest e after (sums (rw after.start l) r)

  -- what one unbroken pass tells
  unbroken-part : (p : Planes) (a : Call W) → Unbroken W pic p a → part W a ≡ gives (first_smoothed W pic (n W pic) p)
  unfolding Accepted first_smoothed
  unbroken-part p a u =
      let (d, ok) = u.accepted in
      own-part (at_first W pic p) a d ok u.goes_on
      ∙ ap gives (rw u.allowance (same_parts a.carried u.carries 0 (min (n W pic) (n W pic - 0)) (omega arith) p
      ∙ ap (λ (j : ℕ). tally (f W pic pic.entries) (c pic.entries) 0 j p) (whole (n W pic))))
    where
      whole : (j : ℕ) → min j (j - 0) ≡ j
      whole j = omega arith

  -- over a list of the halting rule the parts add up to the total of its first k steps
  pub parts-promised : (p : Planes) (list : List (Call W)) (h : LastLeft) → Calls W pic (at_first W pic p) list h → PartsPromise W pic p list
  unfolding Sum done first_smoothed step_smoothed
  parts-promised p list h calls =
      let e : parts W list ≡ first_smoothed W pic (done W pic list) p = sums (omega arith) calls ∙ rw sub-zero in
      record {
        added = e;
        unbroken = λ all a u. unbroken-part p a u ∙ ap gives (ap (λ (k : ℕ). first_smoothed W pic k p) (sym all) ∙ sym e);
        most = omega (
          arith,
          e,
          tally-most (f W pic pic.entries) (c pic.entries) 192 (λ m q. macroblock-most pic.grid (λ i. W.plan pic.settings (pic.entries i)) m q) 0 (min (allowances W list) (n W pic)) p,
        );
      }

-- ---- by name

pub every-key-part : OfEveryPart key_pass
every-key-part = every-part key_pass

pub every-inter-part : OfEveryPart inter_pass
every-inter-part = every-part inter_pass

pub key-parts : (pic : Picture) (p : Planes) (list : List (Call key_pass)) (h : LastLeft) → Calls key_pass pic (at_first key_pass pic p) list h → PartsPromise key_pass pic p list
key-parts = parts-promised key_pass

pub inter-parts : (pic : Picture) (p : Planes) (list : List (Call inter_pass)) (h : LastLeft) → Calls inter_pass pic (at_first inter_pass pic p) list h → PartsPromise inter_pass pic p list
inter-parts = parts-promised inter_pass
