-- The commands of the system boot options ask rightly.
use Rattle.std.proofs.Common.{◌≡◌, ℕ, List, [], ◌∷◌, Option, Some, None, Ok, Bool, true, false, if◌then◌else◌, ◌==◌, drop, ◌%◌, refl}
use Rattle.record_base.specs.declared.boot_param.BootParameter.{BootParameter}
use Rattle.record_base.specs.declared.boot_param.BootParameter.TheVariants as parameter
use Rattle.record_base.specs.Masks.{has}
use Rattle.record_base.specs.Requests.{byte_at}
use Rattle.record_base.specs.BootParam.{parameter_at}
use Rattle.watch_boot.specs.declared.boot_request.BootShown.TheVariants as shown
use Rattle.watch_boot.specs.BootRequests.{progress_in, change_in, with_mark, param_in, shown_in, boot_request_in, boot_shown_in}
use Rattle.bmc_board.specs.BootCommands.{boot_set, boot_get}
use Rattle.bmc_board.proofs.Rightly.{is_right}

change_right : (invalid : Bool) (parameter : BootParameter) (rest : List ℕ) → is_right 24 true (boot_set (with_mark invalid (change_in parameter rest))) ≡ true
change_right invalid parameter.ValidBitClearing [] = refl
change_right invalid parameter.InfoAcknowledge [] = refl
change_right invalid parameter.Flags [] = refl
change_right invalid parameter.ValidBitClearing (a ∷ []) = refl
change_right invalid parameter.ValidBitClearing (a ∷ b ∷ rest) = refl
change_right invalid parameter.InfoAcknowledge (a ∷ []) = refl
change_right invalid parameter.InfoAcknowledge (a ∷ b ∷ []) = refl
change_right invalid parameter.InfoAcknowledge (a ∷ b ∷ c ∷ rest) = refl
change_right invalid parameter.Flags (a ∷ []) = refl
change_right invalid parameter.Flags (a ∷ b ∷ []) = refl
change_right invalid parameter.Flags (a ∷ b ∷ c ∷ []) = refl
change_right invalid parameter.Flags (a ∷ b ∷ c ∷ d ∷ []) = refl
change_right invalid parameter.Flags (a ∷ b ∷ c ∷ d ∷ e ∷ []) = refl
change_right invalid parameter.Flags (a ∷ b ∷ c ∷ d ∷ e ∷ f ∷ rest) = refl

progress_right : (rest : List ℕ) → is_right 24 true (boot_set (progress_in rest)) ≡ true
progress_right [] = refl
progress_right (a ∷ []) = refl
progress_right (a ∷ b ∷ rest) = refl

param_right : (invalid : Bool) (rest : List ℕ) (found : Option BootParameter) → is_right 24 true (boot_set (param_in invalid rest found)) ≡ true
param_right invalid rest (Some parameter) = change_right invalid parameter rest
param_right invalid rest None = refl

set_right_where : (b invalid : Bool) (rest : List ℕ) (found : Option BootParameter) → is_right 24 true (boot_set (if b then progress_in rest else param_in invalid rest found)) ≡ true
set_right_where true invalid rest found = progress_right rest
set_right_where false invalid rest found = param_right invalid rest found

pub set_right : (body : List ℕ) → is_right 24 true (boot_set (boot_request_in body)) ≡ true
set_right body = set_right_where (byte_at body 0 % 128 == 0) (has (byte_at body 0) 7) (drop 1 body) (parameter_at (byte_at body 0 % 128))

shown_right : (found : Option BootParameter) → is_right 24 false (boot_get (shown_in found)) ≡ true
shown_right (Some parameter) = refl
shown_right None = refl

get_right_where : (b : Bool) (found : Option BootParameter) → is_right 24 false (boot_get (if b then Ok shown.Progress else shown_in found)) ≡ true
get_right_where true found = refl
get_right_where false found = shown_right found

pub get_right : (body : List ℕ) → is_right 24 false (boot_get (boot_shown_in body)) ≡ true
get_right body = get_right_where (byte_at body 0 % 128 == 0) (parameter_at (byte_at body 0 % 128))
