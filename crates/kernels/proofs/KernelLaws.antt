-- What the four kernels share: they take 4 or 8 samples, give as many, and keep the two outermost.
use Rattle.std.proofs.Common.{◌≡◌, ℕ, ◌-◌, ◌≤◌, Bool, true, false, cond, List, length, get_or, refl, arith}
use Rattle.kernels.specs.Kernels as K
use Rattle.kernels.specs.Segment.{Kernel, common_adjust, simple_segment, subblock_filter, mb_filter, normal, half, taps, smooth}

-- ---- how many

pub half-most : (k : Kernel) → half k ≤ 4
unfolding half
half-most (common_adjust outer) = omega arith
half-most (simple_segment edge) = omega arith
half-most (subblock_filter threshold interior edge) = omega arith
half-most (mb_filter threshold interior edge) = omega arith

pub half-least : (k : Kernel) → 2 ≤ half k
unfolding half
half-least (common_adjust outer) = omega arith
half-least (simple_segment edge) = omega arith
half-least (subblock_filter threshold interior edge) = omega arith
half-least (mb_filter threshold interior edge) = omega arith

pub normal-taps : (wide : Bool) (t i e : ℕ) → taps (normal wide t i e) ≡ 8
unfolding taps half
normal-taps true t i e = refl
normal-taps false t i e = refl

-- ---- what a kernel gives

-- as many as it takes, the first and the last as they were
pub record Keeps (k : Kernel) (ts : List ℕ) : Type 0 where
  pub len : length (smooth k ts) ≡ taps k
  pub first : get_or (smooth k ts) 0 0 ≡ get_or ts 0 0
  pub last : get_or (smooth k ts) (taps k - 1) 0 ≡ get_or ts (taps k - 1) 0

-- one of two lists
record Held (l : List ℕ) (n a b : ℕ) : Type 0 where
  len : length l ≡ n
  first : get_or l 0 0 ≡ a
  last : get_or l (n - 1) 0 ≡ b

held-cond : (c : Bool) {l l' : List ℕ} {n a b : ℕ} → Held l n a b → Held l' n a b → Held (cond c l l') n a b
held-cond true h h' = h
held-cond false h h' = h'

held : {l : List ℕ} {n a b : ℕ} → length l ≡ n → get_or l 0 0 ≡ a → get_or l (n - 1) 0 ≡ b → Held l n a b
held e f g = record { len = e; first = f; last = g }

simple-held : (edge P1 P0 Q0 Q1 : ℕ) → Held (K.simple_segment edge P1 P0 Q0 Q1) 4 P1 Q1
unfolding K.simple_segment K.common_adjust
simple-held edge P1 P0 Q0 Q1 = held-cond (K.simple_yes edge P1 P0 Q0 Q1) (held refl refl refl) (held refl refl refl)

subblock-held : (threshold interior edge P3 P2 P1 P0 Q0 Q1 Q2 Q3 : ℕ) → Held (K.subblock_filter threshold interior edge P3 P2 P1 P0 Q0 Q1 Q2 Q3) 8 P3 Q3
unfolding K.subblock_filter
subblock-held threshold interior edge P3 P2 P1 P0 Q0 Q1 Q2 Q3 =
    held-cond (K.segment_yes interior edge P3 P2 P1 P0 Q0 Q1 Q2 Q3)
    (held-cond (K.segment_hev threshold P1 P0 Q0 Q1) (held refl refl refl) (held refl refl refl))
    (held refl refl refl)

mb-held : (threshold interior edge P3 P2 P1 P0 Q0 Q1 Q2 Q3 : ℕ) → Held (K.mb_filter threshold interior edge P3 P2 P1 P0 Q0 Q1 Q2 Q3) 8 P3 Q3
unfolding K.mb_filter
mb-held threshold interior edge P3 P2 P1 P0 Q0 Q1 Q2 Q3 =
    held-cond (K.segment_yes interior edge P3 P2 P1 P0 Q0 Q1 Q2 Q3)
    (held-cond (K.segment_hev threshold P1 P0 Q0 Q1) (held refl refl refl) (held refl refl refl))
    (held refl refl refl)

pub keeps : (k : Kernel) (ts : List ℕ) → Keeps k ts
unfolding smooth taps half K.common_adjust
keeps (common_adjust outer) ts = record { len = refl; first = refl; last = refl }
keeps (simple_segment edge) ts =
    let h = simple-held edge (get_or ts 0 0) (get_or ts 1 0) (get_or ts 2 0) (get_or ts 3 0) in record { len = h.len; first = h.first; last = h.last }
keeps (subblock_filter threshold interior edge) ts =
    let h = subblock-held threshold interior edge (get_or ts 0 0) (get_or ts 1 0) (get_or ts 2 0) (get_or ts 3 0) (get_or ts 4 0) (get_or ts 5 0) (get_or ts 6 0) (get_or ts 7 0) in
    record { len = h.len; first = h.first; last = h.last }
keeps (mb_filter threshold interior edge) ts =
    let h = mb-held threshold interior edge (get_or ts 0 0) (get_or ts 1 0) (get_or ts 2 0) (get_or ts 3 0) (get_or ts 4 0) (get_or ts 5 0) (get_or ts 6 0) (get_or ts 7 0) in
    record { len = h.len; first = h.first; last = h.last }
