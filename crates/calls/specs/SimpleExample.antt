-- The simple filter of a pass takes luma alone, computed: two macroblocks side by side, chroma of 100 and of 108.
use Rattle.std.specs.Prelude.{◌≡◌, refl, true, List, [], ◌∷◌, ◌++◌, ℕ, zero, suc, replicate}
use Rattle.arithmetic.specs.Numbers.{clamp, u2s, s2u, shr}
use Rattle.kernels.specs.Kernels as kernels
use Rattle.kernels.specs.Segment.{half, taps, smooth, gather, scatter, segment}
use Rattle.arithmetic.specs.declared.limits.LoopFilterParams.{LoopFilterParams}
use Rattle.planes.specs.Steps.{steps}
use Rattle.planes.specs.Planes.{Planes, Grid}
use Rattle.planes.specs.Edges.{first_row, first_column, edge_tap, filter_edge, borders, insides, places}
use Rattle.planes.specs.Macroblock.{only, edge_at, edges_at, filter_edges, filter_macroblock}
use Rattle.calls.specs.Pass.{plan_with}

abbrev copies : ℕ → List ℕ → List ℕ
copies zero l = []
copies (suc n) l = l ++ copies n l

abbrev pair : Grid
pair = record { columns = 2; rows = 1; luma_stride = 32; chroma_stride = 16 }

abbrev steep : (n : ℕ) → List ℕ
steep n = copies n (replicate n 100 ++ replicate n 108)

abbrev limits : LoopFilterParams
limits = record { interior_limit = 8; hev_threshold = 0; mbedge_limit = 20; sub_bedge_limit = 20 }

abbrev before : Planes
before = record { y = steep 16; u = steep 8; v = steep 8 }

pub simple-takes-luma-alone : (steps (filter_macroblock pair (λ _. plan_with true limits true)) 0 2 before).u ≡ before.u
unfolding clamp u2s s2u shr half taps smooth gather scatter segment
    kernels.apart kernels.edge_value kernels.filter_value kernels.gain_of kernels.loss_of kernels.adjustment kernels.adjusted_p0 kernels.adjusted_q0 kernels.common_adjust
    kernels.simple_yes kernels.simple_segment kernels.filter_yes kernels.hev kernels.segment_yes kernels.segment_hev kernels.outer_step kernels.subblock_filter
    kernels.part kernels.wide_value kernels.mb_filter
    steps first_row first_column edge_tap filter_edge borders insides places only edge_at edges_at filter_edges filter_macroblock plan_with
simple-takes-luma-alone = refl
