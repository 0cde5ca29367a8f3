-- The law of every board on the operations that set records to what their Gets show.
use Rattle.std.proofs.Common.{◌≡◌, ◌≢◌, ℕ, ◌+◌, ◌%◌, ◌<◌, List, Option, Some, None, Ok, refl, sym, ◌∙◌, ap, subst, arith}
use Rattle.record_base.specs.declared.boot_param.BootParameter.{BootParameter}
use Rattle.record_base.specs.declared.boot_param.BootParameter.TheVariants as parameter
use Rattle.record_base.specs.declared.key.Key.{Key}
use Rattle.record_base.specs.declared.key.Key.TheVariants as key
use Rattle.record_base.specs.declared.lan_parameter.LanParameter.{LanParameter}
use Rattle.record_base.specs.declared.lan_parameter.LanParameter.TheVariants.{Address, AddressSource, Vlan}
use Rattle.record_base.specs.declared.op.Op.{Op}
use Rattle.record_base.specs.declared.user.UserOnChannel.{UserOnChannel}
use Rattle.record_base.specs.BootParam.{parameter_of}
use Rattle.record_base.specs.Lan.{changed_parameter}
use Rattle.record_base.specs.LanItems.{parameter_on}
use Rattle.record_base.specs.Numbers.{ChannelNumber, channel_in, user_on}
use Rattle.record_base.specs.NumberLaws.{same_field, low_bits_again}
use Rattle.std.specs.Option.{IsSome}
use Rattle.record_base.specs.declared.live.Live.{Live}
use Rattle.record_kinds.specs.declared.limits.Limits.{Limits}
use Rattle.record_kinds.specs.Limits.{conf, inverse, is_of, key_of, view}
use Rattle.record_kinds.specs.LimitsLaws.{record_laws}
use Rattle.shown_records.specs.declared.as_it_is.Unsaid.{Unsaid}
use Rattle.shown_records.specs.After.{after_of}
use Rattle.shown_records.specs.AsItIs.{IsWhole, SetsBack, as_it_is, said, unsaid_of}
use Rattle.shown_records.specs.Foresight.{Takes}
use Rattle.shown_records.specs.Probes.{probe, probe_boot_change, probe_lan_change}
use Rattle.shown_records.proofs.AllSetBack.{set_back}
use Rattle.shown_records.proofs.BoardsForeseen.{foresees, leaves_all}

-- ---- the record that the operation of each kind is on

boot_named : (p : BootParameter) → parameter_of (probe_boot_change p) ≡ p
boot_named parameter.ValidBitClearing = refl
boot_named parameter.InfoAcknowledge = refl
boot_named parameter.Flags = refl

lan_named : (p : LanParameter) → changed_parameter (probe_lan_change p) ≡ p
lan_named (Address which) = refl
lan_named AddressSource = refl
lan_named Vlan = refl

low_channel : (n : ℕ) → n < 16 → (128 + n) % 16 ≡ n
low_channel n few = omega arith

channel_named : (channel : ChannelNumber) → channel_in (128 + channel.number) ≡ channel
channel_named channel = same_field (channel_in (128 + channel.number)) channel (low_channel channel.number channel.below)

access_named : (on : UserOnChannel) → user_on (128 + on.channel.number) on.user.number ≡ on
access_named on = λ i. record { channel = channel_named on.channel i; user = low_bits_again on.user i }

named : (key : Key) (shown : List ℕ) → key_of (probe key shown) ≡ key
named (key.Thresholds sensor) shown = refl
named (key.Hysteresis sensor) shown = refl
named (key.EventEnable sensor) shown = refl
named key.PowerPolicy shown = refl
named key.Watchdog shown = refl
named key.GlobalEnables shown = refl
named (key.BootParam p) shown = ap key.BootParam (boot_named p)
named (key.NumericEffecter id) shown = refl
named (key.StateEffecter id) shown = refl
named (key.UserName user) shown = ap key.UserName (low_bits_again user)
named (key.UserAccess on) shown = ap key.UserAccess (access_named on)
named (key.ChannelAccess at) shown = refl
named (key.BiosAttribute handle) shown = refl
named (key.LanParam on) shown = ap (λ (p : LanParameter). key.LanParam (parameter_on on.channel p)) (lan_named on.parameter)

-- ---- the operation that is given takes back the one that changes all

given : (why : Option Unsaid) (back : Option Op) (op : Op) → said why back ≡ Ok op → back ≡ Some op
given (Some why) back op is = cc
given None (Some made) op is = cc
given None None op is = cc

taken_back : (key : Key) (shown : List ℕ) (op : Op) → as_it_is key shown ≡ Ok op → inverse (probe key shown) shown ≡ Some op
taken_back key shown op is = given (unsaid_of key shown) (inverse (probe key shown) shown) op is

some_is_one : {A : Type 0} (o : Option A) → IsSome o → o ≢ None
some_is_one (Some a) some none = cc
some_is_one None some none = cc

-- a value has no other events enabled than itself
whole_itself : (key : Key) (value : List ℕ) → IsWhole key value value
whole_itself (key.EventEnable sensor) value = (λ offset lt there. there, λ offset lt there. there)
whole_itself (key.Thresholds sensor) value = tt
whole_itself (key.Hysteresis sensor) value = tt
whole_itself key.PowerPolicy value = tt
whole_itself key.Watchdog value = tt
whole_itself key.GlobalEnables value = tt
whole_itself (key.BootParam p) value = tt
whole_itself (key.NumericEffecter id) value = tt
whole_itself (key.StateEffecter id) value = tt
whole_itself (key.UserName user) value = tt
whole_itself (key.UserAccess on) value = tt
whole_itself (key.ChannelAccess at) value = tt
whole_itself (key.BiosAttribute handle) value = tt
whole_itself (key.LanParam on) value = tt

-- behind the operation the Get of the same value shows the same configuration
leaves : (limits : Limits) (key : Key) (op : Op) (value new : List ℕ) (live : Live) → is_of limits key → as_it_is key (view limits value live) ≡ Ok op → Takes limits op value new
    → conf limits (after_of op (view limits value live)) ≡ conf limits (view limits value live)
leaves limits key op value new live here is takes =
    ap (conf limits) (sym (foresees limits op value new live takes))
    ∙ (set_back limits).back key op value value new live here takes.is_valid (whole_itself key value) (taken_back key (view limits value live) op is) takes.done

pub sets_back : SetsBack
sets_back = record {
  same_record = λ limits key op value live here is_valid is.
      let shown : List ℕ = view limits value live in
      let there : is_of limits (key_of (probe key shown)) = subst (is_of limits) (sym (named key shown)) here in
      (record_laws limits).same_record (probe key shown) op value live there is_valid (taken_back key shown op is) ∙ named key shown;
  shows_again = λ limits key op value old new live other here is_valid whole is takes.
      (record_laws limits).steady new other live
      ∙ (set_back limits).back key op value old new live here is_valid whole (taken_back key (view limits value live) op is) takes.done;
  leaves = λ limits key op value new live here is takes. (
    some_is_one (inverse op (view limits value live)) ((set_back limits).again key op value live here (taken_back key (view limits value live) op is)),
    leaves_all limits op value new live takes (leaves limits key op value new live here is takes),
  );
}
