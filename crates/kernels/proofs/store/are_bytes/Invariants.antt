use Rattle.std.proofs.Common.{◌≡◌, ◌≤◌, length, take}
use Rattle.std.specs.List.{list_all}
use Rattle.kernels.specs.Private.Windows.{in_byte}
use Rattle.kernels.proofs.store.are_bytes.Given as goal

abbrev pub invariant-loop-v : goal.invariant-loop-v
invariant-loop-v g l = (l.v-index ≤ length l.values) × (l.all ≡ list_all in_byte (take l.v-index l.values))
