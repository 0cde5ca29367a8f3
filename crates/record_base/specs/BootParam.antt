-- The boot parameters that a controller keeps (IPMI 2.0): 3, boot flag valid bit clearing, 4, boot info acknowledge, and 5, boot flags.
-- A value has the mark that the parameter is invalid, 0 or 1, and the parameter's data: one byte, one byte, and five.
use Rattle.std.specs.Prelude.{◌≡◌, ℕ, ◌<◌, ◌≤◌, ◌==◌, List, [], ◌∷◌, length, slice_index, Option, Some, None, if◌then◌else◌}
use Rattle.record_base.specs.declared.boot_param.BootParameter.{BootParameter}
use Rattle.record_base.specs.declared.boot_param.BootParameter.TheVariants.{ValidBitClearing, InfoAcknowledge, Flags}
use Rattle.record_base.specs.declared.boot_param.BootFlags.{BootFlags}
use Rattle.record_base.specs.declared.boot_param.BootChange.{BootChange}
use Rattle.record_base.specs.declared.boot_param.BootChange.TheVariants as change

-- the number of a parameter: its selector
abbrev pub selector : BootParameter → ℕ
selector ValidBitClearing = 3
selector InfoAcknowledge = 4
selector Flags = 5

-- the parameter of this number
abbrev pub parameter_at : ℕ → Option BootParameter
parameter_at number = if number == 3 then Some ValidBitClearing else (if number == 4 then Some InfoAcknowledge else (if number == 5 then Some Flags else None))

-- how long a parameter's value is: its mark and its data
abbrev pub boot_length : BootParameter → ℕ
boot_length ValidBitClearing = 2
boot_length InfoAcknowledge = 2
boot_length Flags = 6

-- the data of parameter 5
abbrev pub flag_bytes : BootFlags → List ℕ
flag_bytes flags = flags.validity ∷ flags.device ∷ flags.console ∷ flags.overrides ∷ flags.instance ∷ []

-- data that begin with this byte are the parameter's: parameter 3 has bits 4:0, parameter 4 a byte
abbrev pub IsBootData : BootParameter → ℕ → Type 0
IsBootData ValidBitClearing first = first < 32
IsBootData InfoAcknowledge first = first < 256
IsBootData Flags first = Unit {0}

-- a value that the parameter can have
pub record IsBootParam (parameter : BootParameter) (value : List ℕ) : Type 0 where
  pub long : length value ≡ boot_length parameter
  pub mark : slice_index value 0 ≤ 1
  pub body : IsBootData parameter (slice_index value 1)

-- ---- changes

-- the parameter that the change changes
abbrev pub parameter_of : BootChange → BootParameter
parameter_of (change.MarkAlone parameter) = parameter
parameter_of (change.ValidBitClearing byte) = ValidBitClearing
parameter_of (change.InfoAcknowledge masked) = InfoAcknowledge
parameter_of (change.Flags flags) = Flags

-- the data of the change, behind the selector. Without data, the parameter's data stay.
abbrev pub change_bytes : BootChange → List ℕ
change_bytes (change.MarkAlone parameter) = []
change_bytes (change.ValidBitClearing byte) = byte ∷ []
change_bytes (change.InfoAcknowledge masked) = masked.mask ∷ masked.bits ∷ []
change_bytes (change.Flags flags) = flag_bytes flags
