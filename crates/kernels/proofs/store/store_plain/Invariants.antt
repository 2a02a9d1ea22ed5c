use Rattle.std.proofs.Common.{◌≡◌, ◌-◌, ◌/◌, ◌≤◌, length, take}
use Rattle.kernels.specs.Private.Windows.{stored_cut}
use Rattle.kernels.proofs.store.store_plain.Given as goal

abbrev pub invariant-loop-n : goal.invariant-loop-n
invariant-loop-n g l =
    (l.n ≤ g.row.N) × (l.window ≡ stored_cut ((g.row.W - g.row.N) / 2) (take l.n l.values) l.initial.window) × (length l.values ≡ g.row.N)
