-- The buses on which requests go.
use Rattle.std.specs.Prelude.{Bool, false, ◌||◌, List, [], ◌∷◌}
use Rattle.two_wire.specs.declared.Bus.{Bus}
use Rattle.record_base.specs.declared.op.Op.{Op}
use Rattle.record_kinds.specs.Limits.{get_asked, key_of}
use Rattle.bmc_core.specs.Wires.{bus_of}
use Rattle.model_undo.specs.Machine.{same_bus}

-- that of the step's Get, on which its other requests go, too
abbrev pub bus_of_step : Op → Bus
bus_of_step op = bus_of (get_asked (key_of op))

-- it is among these
abbrev pub is_used : Bus → List Bus → Bool
is_used bus [] = false
is_used bus (other ∷ later) = same_bus bus other || is_used bus later
