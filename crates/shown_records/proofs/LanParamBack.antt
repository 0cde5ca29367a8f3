-- What sets a LAN parameter to what its Get shows.
use Rattle.std.proofs.Common.{◌≡◌, ℕ, List, length, ◌==◌, true, Some, None, if◌then◌else◌, refl, ap}
use Rattle.record_base.specs.declared.lan_parameter.LanParameter.{LanParameter}
use Rattle.record_base.specs.declared.lan_parameter.LanParameter.TheVariants.{Address, AddressSource, Vlan}
use Rattle.record_base.specs.declared.lan_parameter.SetLanParam.{SetLanParam}
use Rattle.record_base.specs.Lan.{changed_parameter}
use Rattle.record_base.specs.LanItems.{parameter_on}
use Rattle.record_base.specs.Numbers.{ChannelNumber}
use Rattle.user_chan.specs.LanParam.{SetsLanParam, lan_reply_length, undo_lan, words, record_words}
use Rattle.user_chan.specs.LanParamLaws.{record_laws}
use Rattle.shown_records.specs.Probes.{probe_lan, probe_lan_change}
use Rattle.shown_records.proofs.SetBack.{IsSetBack, any_values, set_back_by}

-- what takes the change of all data back takes itself back
again : (channel : ChannelNumber) (asked : LanParameter) (reply : List ℕ) → (length reply == lan_reply_length (changed_parameter (probe_lan_change asked))) ≡ true
    → words.inverse (undo_lan (probe_lan (parameter_on channel asked)) reply) reply ≡ Some (undo_lan (probe_lan (parameter_on channel asked)) reply)
again channel (Address which) reply holds = ap (λ b. if b then Some (undo_lan (probe_lan (parameter_on channel (Address which))) reply) else None) holds
again channel AddressSource reply holds = ap (λ b. if b then Some (undo_lan (probe_lan (parameter_on channel AddressSource)) reply) else None) holds
again channel Vlan reply holds = ap (λ b. if b then Some (undo_lan (probe_lan (parameter_on channel Vlan)) reply) else None) holds

moves : (parameter : LanParameter) (op : SetLanParam) (one other made : List ℕ) → SetsLanParam parameter op one made → SetsLanParam parameter op other made
moves parameter op one other made done = record { of_it = done.of_it; accepted = done.accepted; made = done.made }

pub set_back : (parameter : LanParameter) → IsSetBack words (record_words parameter) (λ on shown. probe_lan on) any_values
set_back parameter =
    set_back_by words (record_words parameter) (record_laws parameter) _ (λ on reply. length reply == lan_reply_length (changed_parameter (probe_lan_change on.parameter)))
    (λ on reply. undo_lan (probe_lan on) reply) (λ on reply. refl) (λ on reply. again on.channel on.parameter reply) (λ on reply one other made holds. moves parameter (undo_lan (probe_lan on) reply) one other made)
