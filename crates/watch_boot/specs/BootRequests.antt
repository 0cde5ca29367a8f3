-- Requests of the commands of the system boot options, from their data (IPMI 2.0).
use Rattle.std.specs.Prelude.{ℕ, ◌%◌, List, [], ◌∷◌, drop, ◌==◌, Bool, if◌then◌else◌, Result, Ok, Err, Option, Some, None}
use Rattle.two_wire.specs.Codes.{invalid_length}
use Rattle.record_base.specs.declared.boot_param.BootParameter.{BootParameter}
use Rattle.record_base.specs.declared.boot_param.BootParameter.TheVariants as parameter
use Rattle.record_base.specs.declared.boot_param.BootChange.{BootChange}
use Rattle.record_base.specs.declared.boot_param.BootChange.TheVariants.{MarkAlone, ValidBitClearing, InfoAcknowledge, Flags}
use Rattle.record_base.specs.BootParam.{parameter_at}
use Rattle.record_base.specs.Masks.{has}
use Rattle.record_base.specs.Requests.{byte_at}
use Rattle.watch_boot.specs.declared.boot_request.BootRequest.{BootRequest}
use Rattle.watch_boot.specs.declared.boot_request.BootRequest.TheVariants.{Progress, Param}
use Rattle.watch_boot.specs.declared.boot_request.BootShown.{BootShown}
use Rattle.watch_boot.specs.declared.boot_request.BootShown.TheVariants as shown

-- the code of a parameter that isn't one of the controller's
abbrev pub unsupported_parameter : ℕ
unsupported_parameter = 0x80

-- the request on parameter 0, from the data behind the selector
abbrev pub progress_in : List ℕ → Result BootRequest ℕ
progress_in [] = Ok (Progress None)
progress_in (byte ∷ []) = Ok (Progress (Some byte))
progress_in _ = Err invalid_length

-- the change of another parameter. Without data, a Set sets the parameter's mark alone.
abbrev pub change_in : BootParameter → List ℕ → Result BootChange ℕ
change_in parameter [] = Ok (MarkAlone parameter)
change_in parameter.ValidBitClearing (byte ∷ []) = Ok (ValidBitClearing byte)
change_in parameter.InfoAcknowledge (mask ∷ bits ∷ []) = Ok (InfoAcknowledge (record { mask = mask; bits = bits }))
change_in parameter.Flags (validity ∷ device ∷ console ∷ overrides ∷ instance ∷ []) =
    Ok (Flags (record { validity = validity; device = device; console = console; overrides = overrides; instance = instance }))
change_in _ _ = Err invalid_length

abbrev pub with_mark : Bool → Result BootChange ℕ → Result BootRequest ℕ
with_mark invalid (Ok change) = Ok (Param (record { invalid = invalid; change = change }))
with_mark invalid (Err code) = Err code

abbrev pub param_in : Bool → List ℕ → Option BootParameter → Result BootRequest ℕ
param_in invalid rest (Some parameter) = with_mark invalid (change_in parameter rest)
param_in invalid rest None = Err unsupported_parameter

-- the request of a Set: its first byte has the mark in bit 7 and the selector in bits 6:0
abbrev pub boot_request_in : List ℕ → Result BootRequest ℕ
boot_request_in body =
    if byte_at body 0 % 128 == 0 then progress_in (drop 1 body) else param_in (has (byte_at body 0) 7) (drop 1 body) (parameter_at (byte_at body 0 % 128))

abbrev pub shown_in : Option BootParameter → Result BootShown ℕ
shown_in (Some parameter) = Ok (shown.Param parameter)
shown_in None = Err unsupported_parameter

-- the request of a Get: its first byte has the selector in bits 6:0
abbrev pub boot_shown_in : List ℕ → Result BootShown ℕ
boot_shown_in body = if byte_at body 0 % 128 == 0 then Ok shown.Progress else shown_in (parameter_at (byte_at body 0 % 128))
