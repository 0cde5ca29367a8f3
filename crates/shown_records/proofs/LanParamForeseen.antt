-- What is foreseen of a LAN parameter.
use Rattle.std.proofs.Common.{◌≡◌, ℕ, List, refl, ap}
use Rattle.two_wire.specs.Codes.{invalid_data_field}
use Rattle.record_base.specs.declared.lan_parameter.LanParameter.{LanParameter}
use Rattle.record_base.specs.declared.lan_parameter.SetLanParam.{SetLanParam}
use Rattle.user_chan.specs.LanParam.{SetsLanParam, lan_view, value_after, is_taken, words, record_words}
use Rattle.user_chan.specs.LanParamLaws.{record_laws}
use Rattle.shown_records.specs.Users.{after_lan_param}
use Rattle.shown_records.proofs.Foreseen.{IsForeseen, made_only, whole_foreseen}

new_is : (parameter : LanParameter) (op : SetLanParam) (old new : List ℕ) → SetsLanParam parameter op old new → new ≡ value_after op.change
new_is parameter op old new done =
    made_only (is_taken parameter op.change) (value_after op.change) invalid_data_field (SetsLanParam parameter op old) new ((record_laws parameter).decides op old) ((record_laws parameter).determined op old) done

pub foreseen : (parameter : LanParameter) → IsForeseen words (record_words parameter) after_lan_param
foreseen parameter = whole_foreseen words (record_words parameter) after_lan_param (record_laws parameter) (λ value. refl) (λ op old new live is_valid done. ap lan_view (new_is parameter op old new done))
