-- Where the controller is.
use Rattle.std.specs.Prelude.{ℕ}

-- the controller's two-wire address, on both buses
abbrev pub controller_wire : ℕ
controller_wire = 0x20

-- the identifier of the controller's endpoint
abbrev pub controller_eid : ℕ
controller_eid = 0x0A
