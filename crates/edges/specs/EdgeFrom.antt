-- An edge from the index of its first tap, in any list of samples with any stride: what the public edges promise. Of a macroblock's edges, crate frame's `proofs/Bases.antt` shows that they are such.
use Rattle.std.specs.Prelude.{Bool, cond, ◌&&◌, List, ℕ, ◌+◌, ◌-◌, ◌*◌, leb}
use Rattle.std.proofs.Math.ListN as ListN
use Rattle.kernels.specs.Segment.{Kernel, taps, segment, passes_at, mark}
use Rattle.planes.specs.Steps.{steps, tally}
use Rattle.planes.specs.Edges.{Direction, vertical, horizontal}

-- tap t of position j, where tap 0 of position 0 is at `base`
abbrev pub tap_from : Direction → (stride base j t : ℕ) → ℕ
tap_from vertical s base j t = base + j * s + t
tap_from horizontal s base j t = base + t * s + j

-- the edge's positions, `length` of them, one after the other
unfoldable pub edge_from : Direction → Kernel → (stride base length : ℕ) → List ℕ → List ℕ
edge_from d k s base length = steps (λ j. segment k (tap_from d s base j)) 0 length

-- how many of them are smoothed, each judged as the ones before left the samples
unfoldable pub smoothed_from : Direction → Kernel → (stride base length : ℕ) → List ℕ → ℕ
smoothed_from d k s base length = tally (λ j. segment k (tap_from d s base j)) (λ j l. mark (passes_at k (tap_from d s base j) l)) 0 length

-- All taps of all positions lie among n samples. The rows across a horizontal edge do not overlap.
unfoldable pub edge_fits : Direction → Kernel → (stride base length n : ℕ) → Bool
edge_fits vertical k s base length n = leb (base + (length - 1) * s + taps k) n
edge_fits horizontal k s base length n = leb length s && leb (base + (taps k - 1) * s + length) n

-- the edge if it fits; else the samples are left alone
unfoldable pub edge_within : Direction → Kernel → (stride base length : ℕ) → List ℕ → List ℕ
edge_within d k s base length l = cond (edge_fits d k s base length (ListN.length l)) (edge_from d k s base length l) l

unfoldable pub smoothed_within : Direction → Kernel → (stride base length : ℕ) → List ℕ → ℕ
smoothed_within d k s base length l = cond (edge_fits d k s base length (ListN.length l)) (smoothed_from d k s base length l) 0
