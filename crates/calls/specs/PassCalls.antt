-- The call that the arguments of a pass make.
use Rattle.std.specs.Prelude.{List, ℕ}
use Rattle.levels.specs.declared.config.FrameFilterConfig.{FrameFilterConfig}
use Rattle.planes.specs.Planes.{Planes}
use Rattle.calls.specs.Entries.{KeyLists, InterLists, KeyCarried, InterCarried}
use Rattle.planes.specs.Layout.{grid_of}
use Rattle.calls.specs.Pass.{Pass, key_pass, inter_pass, Call}
use Rattle.planes.specs.declared.layout.PlaneLayout.{PlaneLayout}
use Rattle.calls.specs.declared.records.MacroblockModes.{MacroblockModes}

abbrev pub key_lists : (modes segments flags : List ℕ) → KeyLists
key_lists modes segments flags = record { modes = modes; segments = segments; flags = flags }

abbrev pub inter_lists : (modes segments flags references inter_modes : List ℕ) → InterLists
inter_lists modes segments flags references inter_modes =
    record { modes = modes; segments = segments; flags = flags; references = references; inter_modes = inter_modes }

abbrev pub key_call : Planes → PlaneLayout → KeyLists → FrameFilterConfig → (start allowance : ℕ) → Call key_pass
key_call p layout l config start allowance =
    record { grid = grid_of layout; settings = config; carried = KeyCarried.byte_lists l; lent = p; start = start; allowance = allowance }

abbrev pub inter_call : Planes → PlaneLayout → InterLists → FrameFilterConfig → (start allowance : ℕ) → Call inter_pass
inter_call p layout l config start allowance =
    record { grid = grid_of layout; settings = config; carried = InterCarried.byte_lists l; lent = p; start = start; allowance = allowance }

-- over records
abbrev pub key_records_call : Planes → PlaneLayout → List MacroblockModes → FrameFilterConfig → (start allowance : ℕ) → Call key_pass
key_records_call p layout rs config start allowance =
    record { grid = grid_of layout; settings = config; carried = KeyCarried.records rs; lent = p; start = start; allowance = allowance }

abbrev pub inter_records_call : Planes → PlaneLayout → List MacroblockModes → FrameFilterConfig → (start allowance : ℕ) → Call inter_pass
inter_records_call p layout rs config start allowance =
    record { grid = grid_of layout; settings = config; carried = InterCarried.records rs; lent = p; start = start; allowance = allowance }

-- of any pass, whatever its entries are lent as
abbrev pub call_of : (W : Pass) → PlaneLayout → W.Carried → FrameFilterConfig → Planes → (start allowance : ℕ) → Call W
call_of W layout carried config p start allowance =
    record { grid = grid_of layout; settings = config; carried = carried; lent = p; start = start; allowance = allowance }
