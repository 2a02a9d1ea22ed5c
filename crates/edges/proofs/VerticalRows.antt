-- A vertical edge, row after row: what the loops over lent windows need.
-- Assumes nothing.
use mathlib.Core.Path.{◌≡◌, refl, sym, ap, ◌∙◌}
use mathlib.Core.List.{List}
use Prim.Native.Nat.{ℕ, ◌+◌, ◌*◌, ◌-◌, ◌≤◌}
use native.Mathlib.Nat.{add-zero, mul-le-mul_right}
use native.Mathlib.Numerals.{add-one}
use native.Mathlib.Omega.{arith}
use lib.ListN.{length}
use borrow.Rule.Slice.PartMut.{mid_of, put_mid}
use mathlib.Core.Bool.{Bool, true, false}
use lib.Dec.{eqb}
use borrow.Author.Tests.{eq-eqb, ne_eqb}
use Rattle.arithmetic.specs.Outcome.{Outcome}
use Rattle.kernels.specs.Segment.{Kernel, taps, segment, passes_at, mark, windowed, window_answer}
use Rattle.kernels.proofs.LentWindows.{windowed-lent, answer-lent}
use Rattle.kernels.proofs.SegmentLaws.{length-segment}
use Rattle.planes.specs.Steps.{steps, tally}
use Rattle.planes.specs.Edges.{Direction, vertical}
use Rattle.edges.specs.EdgeFrom.{tap_from, edge_from, smoothed_from}
use Rattle.edges.specs.Private.Windows.{passed_in}
use Rattle.planes.proofs.Steps.{steps-suc, steps-inv}
use Rattle.planes.proofs.Tally.{tally-turn, tally-most}
use Rattle.kernels.proofs.SegmentLaws.{mark-most}

-- row n, of rows up to m, is within what row m needs
pub row_within : (a n m s k : ℕ) {t : ℕ} → n ≤ m → a + m * s + k ≤ t → a + n * s + k ≤ t
row_within a n m s k h room = omega (arith, mul-le-mul_right s h)

pub length_from : (d : Direction) (k : Kernel) (s base n : ℕ) (l : List ℕ) → length (edge_from d k s base n l) ≡ length l
unfolding edge_from
length_from d k s base n l =
    steps-inv (λ j. segment k (tap_from d s base j)) (λ l'. length l' ≡ length l) (λ j l' h. length-segment k (tap_from d s base j) l' ∙ h) 0 n l refl

-- no row yet
pub from-none : (d : Direction) (k : Kernel) (s base : ℕ) (l : List ℕ) → l ≡ edge_from d k s base 0 l
unfolding edge_from steps
from-none d k s base l = refl

-- the window of row n was lent, and came back
pub row_next : (k : Kernel) (s base n e : ℕ) (l₀ l ys : List ℕ) → l ≡ edge_from vertical k s base n l₀ → e ≡ base + n * s + taps k → e ≤ length l
    → ys ≡ windowed k (mid_of (base + n * s) (e - (base + n * s)) l) 0
    → put_mid (base + n * s) (e - (base + n * s)) l ys ≡ edge_from vertical k s base (n + 1) l₀
unfolding edge_from
row_next k s base n e l₀ l ys el ee fit ey =
    windowed-lent k (base + n * s) e l ys ee fit ey
    ∙ ap (segment k (λ t. base + n * s + t)) el
    ∙ sym (ap (λ (i : ℕ). steps (λ j. segment k (tap_from vertical s base j)) 0 i l₀) (add-one n) ∙ steps-suc (λ j. segment k (tap_from vertical s base j)) n l₀)

-- ---- how many rows pass

pub counted_none : (d : Direction) (k : Kernel) (s base : ℕ) (l : List ℕ) → 0 ≡ smoothed_from d k s base 0 l
unfolding smoothed_from tally
counted_none d k s base l = refl

pub counted-most : (d : Direction) (k : Kernel) (s base n : ℕ) (l : List ℕ) → smoothed_from d k s base n l ≤ n
unfolding smoothed_from
counted-most d k s base n l =
    omega (arith, tally-most (λ j. segment k (tap_from d s base j)) (λ j l'. mark (passes_at k (tap_from d s base j) l')) 1 (λ j l'. mark-most (passes_at k (tap_from d s base j) l')) 0 n l)

-- the window of row n was lent, and the kernel answered for it
pub counted_next : (k : Kernel) (s base n e : ℕ) (l₀ l : List ℕ) {o : Outcome Bool} → l ≡ edge_from vertical k s base n l₀ → e ≡ base + n * s + taps k → e ≤ length l
    → o ≡ window_answer k (mid_of (base + n * s) (e - (base + n * s)) l) 0
    → smoothed_from vertical k s base (n + 1) l₀ ≡ smoothed_from vertical k s base n l₀ + mark (passed_in o)
unfolding edge_from smoothed_from
counted_next k s base n e l₀ l el ee fit eo =
    tally-turn (λ j. segment k (tap_from vertical s base j)) (λ j l'. mark (passes_at k (tap_from vertical s base j) l')) n l₀
    ∙ ap (λ (b : Bool). smoothed_from vertical k s base n l₀ + mark b)
    (ap (passes_at k (tap_from vertical s base n)) (sym el) ∙ sym (ap passed_in (eo ∙ answer-lent k (base + n * s) e l ee fit)))

-- rows that did not pass, and the rest
pub missed-rest : (n m s : ℕ) → m + s ≡ n → n - m ≡ s
missed-rest n m s e = omega arith

pub none-missed : (m : ℕ) (b : Bool) → m + mark b ≡ 1 → eqb m 0 ≡ b
unfolding mark
none-missed m true e = eq-eqb m 0 (omega arith)
none-missed m false e = ne_eqb m 0 (λ z. omega arith)

-- one row is one window
pub from_one : (k : Kernel) (base : ℕ) (l : List ℕ) → edge_from vertical k 8 base 1 l ≡ segment k (λ t. base + t) l
unfolding edge_from steps
from_one k base l = ap (λ (b : ℕ). segment k (λ t. b + t) l) (add-zero base)

pub counted-one : (k : Kernel) (base : ℕ) (l : List ℕ) → smoothed_from vertical k 8 base 1 l ≡ mark (passes_at k (λ t. base + t) l)
unfolding smoothed_from tally
counted-one k base l = add-zero _ ∙ ap (λ (b : ℕ). mark (passes_at k (λ t. b + t) l)) (add-zero base)
