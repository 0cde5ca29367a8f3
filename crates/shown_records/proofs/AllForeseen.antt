-- What is foreseen of a record of any kind.
use Rattle.std.proofs.Common.{◌≡◌, ℕ, List, Option, Some, None, refl, sym, ◌∙◌, ap, subst}
use Rattle.std.specs.Option.{IsSome, option_map}
use Rattle.record_base.specs.declared.key.Key.{Key}
use Rattle.record_base.specs.declared.live.Live.{Live}
use Rattle.record_base.specs.declared.message.Asked.{Asked}
use Rattle.record_base.specs.declared.op.Op.{Op}
use Rattle.record_base.specs.Kind.{KindWords, RecordWords}
use Rattle.record_base.specs.AllKinds.{Place, OpWords, words_as, any_words, sets_own, lifted}
use Rattle.record_base.specs.Member.{Member, op_words_of, record_words_of}
use Rattle.sensor_recs.specs as sensor_recs
use Rattle.watch_boot.specs as watch_boot
use Rattle.effecter_recs.specs as effecter_recs
use Rattle.user_chan.specs as user_chan
use Rattle.bios_attr.specs as bios_attr
use Rattle.record_kinds.specs.declared.limits.Limits.{Limits}
use Rattle.record_kinds.specs.declared.limits.Limits.TheVariants as limits
use Rattle.record_kinds.specs.Limits.{op_words, get_asked, words, record_words}
use Rattle.shown_records.specs.Sensors.{after_event_enable, after_hysteresis, after_thresholds}
use Rattle.shown_records.specs.Effecters.{after_numeric, after_states}
use Rattle.shown_records.specs.Users.{after_channel_access, after_lan_param, after_user_access, after_user_name}
use Rattle.shown_records.specs.Settings.{after_attribute, after_boot_param, after_enables, after_policy, after_watchdog}
use Rattle.shown_records.specs.After.{after_of}
use Rattle.shown_records.proofs.Foreseen.{IsForeseen}
use Rattle.shown_records.proofs.ThresholdsForeseen as thresholds
use Rattle.shown_records.proofs.HysteresisForeseen as hysteresis
use Rattle.shown_records.proofs.EventEnableForeseen as event_enable
use Rattle.shown_records.proofs.PowerPolicyForeseen as power_policy
use Rattle.shown_records.proofs.WatchdogForeseen as watchdog
use Rattle.shown_records.proofs.GlobalEnablesForeseen as global_enables
use Rattle.shown_records.proofs.BootParamForeseen as boot_param
use Rattle.shown_records.proofs.NumericForeseen as numeric
use Rattle.shown_records.proofs.StatesForeseen as states
use Rattle.shown_records.proofs.UserNameForeseen as user_name
use Rattle.shown_records.proofs.UserAccessForeseen as user_access
use Rattle.shown_records.proofs.ChannelAccessForeseen as channel_access
use Rattle.shown_records.proofs.AttributeForeseen as attribute
use Rattle.shown_records.proofs.LanParamForeseen as lan_param

some_below : {A B : Type 0} (f : A → B) (o : Option A) → IsSome (option_map f o) → IsSome o
some_below f (Some a) is = refl
some_below f None is = is

-- ---- a kind among all kinds

module _ {K O : Type 0} (W : KindWords K O) (place : Place W) (R : RecordWords K O) (own_op_words : Op → OpWords) (asked : Key → Asked) (agrees : (own : O) → own_op_words (place.op own) ≡ words_as W place.op own)
    (after_own : O → List ℕ → List ℕ) (after_any : Op → List ℕ → List ℕ) (says : (own : O) → after_any (place.op own) ≡ after_own own) (is : IsForeseen W R after_own) where
  -- an operation of the kind that equals the given operation
  abbrev Own : Op → Type 0
  Own op = (own : O) × (op ≡ place.op own)

  after_is : (op : Op) (own : Own op) → after_own own.0 ≡ after_any op
  after_is op own = sym (ap after_any own.1 ∙ says own.0)

  foresees : (op : Op) (found : Option (Own op)) (old new : List ℕ) (live : Live) → R.valid old → sets_own found R old new → R.view new live ≡ after_any op (R.view old live)
  foresees op (Some own) old new live is_valid done =
      subst (λ (f : List ℕ → List ℕ). R.view new live ≡ f (R.view old live)) (after_is op own) (is.foresees own.0 old new live is_valid done)
  foresees op None old new live is_valid done = absurd done

  told : (op : Op) (found : Option (Own op)) (old new : List ℕ) (live : Live) → R.valid old → sets_own found R old new
      → R.conf (after_any op (R.view old live)) ≡ R.conf (R.view old live) → after_any op (R.view old live) ≡ R.view old live
  told op (Some own) old new live is_valid done =
      subst (λ (f : List ℕ → List ℕ). R.conf (f (R.view old live)) ≡ R.conf (R.view old live) → f (R.view old live) ≡ R.view old live) (after_is op own) (is.told own.0 old new live is_valid done)
  told op None old new live is_valid done = absurd done

  -- the kind's operation has an inverse where it has one among all operations
  some_own : (op : Op) (own : Own op) (reply : List ℕ) → IsSome ((own_op_words op).inverse reply) → IsSome (W.inverse own.0 reply)
  some_own op own reply some =
      some_below place.op (W.inverse own.0 reply)
      (subst (λ (s : OpWords). IsSome (s.inverse reply)) (agrees own.0) (subst (λ (o : Op). IsSome ((own_op_words o).inverse reply)) own.1 some))

  stays : (op : Op) (found : Option (Own op)) (old new : List ℕ) (live : Live) → R.valid old → sets_own found R old new → IsSome ((own_op_words op).inverse (R.view old live))
      → R.conf (after_any op (R.view old live)) ≡ R.conf (R.view old live) → new ≡ old
  stays op (Some own) old new live is_valid done some =
      subst (λ (f : List ℕ → List ℕ). R.conf (f (R.view old live)) ≡ R.conf (R.view old live) → new ≡ old) (after_is op own)
      (is.stays own.0 old new live is_valid done (some_own op own (R.view old live) some))
  stays op None old new live is_valid done some = absurd done

  pub lifted_foreseen : IsForeseen (any_words own_op_words asked) (lifted place R) after_any
  lifted_foreseen = record {
    foresees = λ op. foresees op (place.own_op op);
    stays = λ op. stays op (place.own_op op);
    told = λ op. told op (place.own_op op);
  }

by_member : {K O L : Type 0} (member : Member K O L) (l : L) (after_own : O → List ℕ → List ℕ) → ((own : O) → op_words (member.place.op own) ≡ op_words_of member own)
    → ((own : O) → after_of (member.place.op own) ≡ after_own own) → IsForeseen member.kind.words (member.kind.record_words l) after_own → IsForeseen words (record_words_of member l) after_of
by_member member l after_own agrees says is = lifted_foreseen member.kind.words member.place (member.kind.record_words l) op_words get_asked agrees after_own after_of says is

-- ---- a line for each kind

pub foreseen : (l : Limits) → IsForeseen words (record_words l) after_of
foreseen (limits.Thresholds l) = by_member sensor_recs.ThresholdsKind.member l after_thresholds (λ own. refl) (λ own. refl) (thresholds.foreseen l.masks)
foreseen (limits.Hysteresis l) = by_member sensor_recs.HysteresisKind.member l after_hysteresis (λ own. refl) (λ own. refl) hysteresis.foreseen
foreseen (limits.EventEnable l) = by_member sensor_recs.EventEnableKind.member l after_event_enable (λ own. refl) (λ own. refl) (event_enable.foreseen l.supported)
foreseen (limits.PowerPolicy l) = by_member watch_boot.PowerPolicyKind.member l after_policy (λ own. refl) (λ own. refl) power_policy.foreseen
foreseen (limits.Watchdog l) = by_member watch_boot.WatchdogKind.member l after_watchdog (λ own. refl) (λ own. refl) watchdog.foreseen
foreseen (limits.GlobalEnables l) = by_member watch_boot.GlobalEnablesKind.member l after_enables (λ own. refl) (λ own. refl) global_enables.foreseen
foreseen (limits.BootParam l) = by_member watch_boot.BootParamKind.member l after_boot_param (λ own. refl) (λ own. refl) (boot_param.foreseen l.parameter)
foreseen (limits.NumericEffecter l) = by_member effecter_recs.NumericKind.member l after_numeric (λ own. refl) (λ own. refl) (numeric.foreseen l)
foreseen (limits.StateEffecter l) = by_member effecter_recs.StateKind.member l after_states (λ own. refl) (λ own. refl) (states.foreseen l)
foreseen (limits.UserName l) = by_member user_chan.UserNamesKind.member l after_user_name (λ own. refl) (λ own. refl) user_name.foreseen
foreseen (limits.UserAccess l) = by_member user_chan.UserAccessKind.member l after_user_access (λ own. refl) (λ own. refl) (user_access.foreseen l)
foreseen (limits.ChannelAccess l) = by_member user_chan.ChannelAccessKind.member l after_channel_access (λ own. refl) (λ own. refl) channel_access.foreseen
foreseen (limits.BiosAttribute l) = by_member bios_attr.BiosAttributeKind.member l after_attribute (λ own. refl) (λ own. refl) (attribute.foreseen l)
foreseen (limits.LanParam l) = by_member user_chan.LanParamKind.member l after_lan_param (λ own. refl) (λ own. refl) (lan_param.foreseen l.parameter)
