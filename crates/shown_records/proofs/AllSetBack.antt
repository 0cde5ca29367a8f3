-- What sets a record of any kind to what its Get shows.
use Rattle.std.proofs.Common.{◌≡◌, ℕ, List, Option, Some, None, refl, sym, ◌∙◌, ap, subst}
use Rattle.std.specs.Option.{IsSome, option_map}
use Rattle.record_base.specs.declared.key.Key.{Key}
use Rattle.record_base.specs.declared.key.Key.TheVariants as key
use Rattle.record_base.specs.declared.live.Live.{Live}
use Rattle.record_base.specs.declared.message.Asked.{Asked}
use Rattle.record_base.specs.declared.op.Op.{Op}
use Rattle.record_base.specs.Kind.{KindWords, RecordWords}
use Rattle.record_base.specs.AllKinds.{Place, OpWords, words_as, any_words, is_of_own, sets_own, lifted}
use Rattle.record_base.specs.Member.{Member, op_words_of, record_words_of}
use Rattle.sensor_recs.specs as sensor_recs
use Rattle.watch_boot.specs as watch_boot
use Rattle.effecter_recs.specs as effecter_recs
use Rattle.user_chan.specs as user_chan
use Rattle.bios_attr.specs as bios_attr
use Rattle.record_kinds.specs.declared.limits.Limits.{Limits}
use Rattle.record_kinds.specs.declared.limits.Limits.TheVariants as limits
use Rattle.record_kinds.specs.Limits.{op_words, get_asked, words, record_words}
use Rattle.shown_records.specs.AsItIs.{IsWhole}
use Rattle.shown_records.specs.Probes.{probe}
use Rattle.shown_records.proofs.SetBack.{IsSetBack}
use Rattle.shown_records.proofs.ThresholdsBack as thresholds
use Rattle.shown_records.proofs.HysteresisBack as hysteresis
use Rattle.shown_records.proofs.EventEnableBack as event_enable
use Rattle.shown_records.proofs.PowerPolicyBack as power_policy
use Rattle.shown_records.proofs.WatchdogBack as watchdog
use Rattle.shown_records.proofs.GlobalEnablesBack as global_enables
use Rattle.shown_records.proofs.BootParamBack as boot_param
use Rattle.shown_records.proofs.NumericBack as numeric
use Rattle.shown_records.proofs.StatesBack as states
use Rattle.shown_records.proofs.UserNameBack as user_name
use Rattle.shown_records.proofs.UserAccessBack as user_access
use Rattle.shown_records.proofs.ChannelAccessBack as channel_access
use Rattle.shown_records.proofs.AttributeBack as attribute
use Rattle.shown_records.proofs.LanParamBack as lan_param

mapped : {A B : Type 0} (f : A → B) (o : Option A) (b : B) → option_map f o ≡ Some b → (a : A) × ((o ≡ Some a) × (f a ≡ b))
mapped f (Some a) b is = (a, (refl, cc))
mapped f None b is = cc

some_mapped : {A B : Type 0} (f : A → B) (o : Option A) → IsSome o → IsSome (option_map f o)
some_mapped f (Some a) is = refl
some_mapped f None is = is

-- the same of the records of a kind that are here, among all records
pub record IsSetBackHere {K O : Type 0} (W : KindWords K O) (R : RecordWords K O) (probe : K → List ℕ → O) (Whole : K → List ℕ → List ℕ → Type 0) : Type 0 where
  pub again : (key : K) (op : O) (value : List ℕ) (live : Live) → R.is_of key → W.inverse (probe key (R.view value live)) (R.view value live) ≡ Some op → IsSome (W.inverse op (R.view value live))
  pub back : (key : K) (op : O) (value old new : List ℕ) (live : Live) → R.is_of key → R.valid value → Whole key value old
      → W.inverse (probe key (R.view value live)) (R.view value live) ≡ Some op → R.sets op old new → R.conf (R.view new live) ≡ R.conf (R.view value live)

-- ---- a kind among all kinds

module _ {K O : Type 0} (W : KindWords K O) (place : Place W) (R : RecordWords K O) (own_op_words : Op → OpWords) (asked : Key → Asked) (agrees : (own : O) → own_op_words (place.op own) ≡ words_as W place.op own)
    (own_probe : K → List ℕ → O) (any_probe : Key → List ℕ → Op) (probes : (own : K) (shown : List ℕ) → any_probe (W.name own) shown ≡ place.op (own_probe own shown))
    (OwnWhole : K → List ℕ → List ℕ → Type 0) (AnyWhole : Key → List ℕ → List ℕ → Type 0) (whole_is : (own : K) (value old : List ℕ) → AnyWhole (W.name own) value old → OwnWhole own value old)
    (is : IsSetBack W R own_probe OwnWhole) where
  -- a record of the kind with this name
  abbrev OwnKey : Key → Type 0
  OwnKey key = (own : K) × (key ≡ W.name own)

  sets_found : (own : O) (old new : List ℕ) → sets_own (place.own_op (place.op own)) R old new → R.sets own old new
  sets_found own old new done = subst (λ (found : Option ((o : O) × (place.op own ≡ place.op o))). sets_own found R old new) (place.finds_op own) done

  -- the kind's operation that takes the kind's probe back
  made_own : (own : K) (op : Op) (shown : List ℕ) → (own_op_words (any_probe (W.name own) shown)).inverse shown ≡ Some op → (m : O) × ((W.inverse (own_probe own shown) shown ≡ Some m) × (place.op m ≡ op))
  made_own own op shown taken =
      let words_are : own_op_words (any_probe (W.name own) shown) ≡ words_as W place.op (own_probe own shown) = ap own_op_words (probes own shown) ∙ agrees (own_probe own shown) in
      mapped place.op (W.inverse (own_probe own shown) shown) op (sym (ap (λ (s : OpWords). s.inverse shown) words_are) ∙ taken)

  taken_own : (key : Key) (own : OwnKey key) (op : Op) (shown : List ℕ) → (own_op_words (any_probe key shown)).inverse shown ≡ Some op → (own_op_words (any_probe (W.name own.0) shown)).inverse shown ≡ Some op
  taken_own key own op shown = subst (λ (k : Key). (own_op_words (any_probe k shown)).inverse shown ≡ Some op) own.1

  again_own : (own : O) (op : Op) (reply : List ℕ) → place.op own ≡ op → IsSome (W.inverse own reply) → IsSome ((own_op_words op).inverse reply)
  again_own own op reply same some =
      subst (λ (o : Op). IsSome ((own_op_words o).inverse reply)) same (subst (λ (s : OpWords). IsSome (s.inverse reply)) (sym (agrees own)) (some_mapped place.op (W.inverse own reply) some))

  again : (key : Key) (found : Option (OwnKey key)) (op : Op) (value : List ℕ) (live : Live) → is_of_own found R → (own_op_words (any_probe key (R.view value live))).inverse (R.view value live) ≡ Some op
      → IsSome ((own_op_words op).inverse (R.view value live))
  again key (Some own) op value live here taken =
      let made = made_own own.0 op (R.view value live) (taken_own key own op (R.view value live) taken) in again_own made.0 op (R.view value live) made.1.1 (is.again own.0 made.0 value live made.1.0)
  again key None op value live here taken = absurd here

  back : (key : Key) (found : Option (OwnKey key)) (op : Op) (value old new : List ℕ) (live : Live) → is_of_own found R → R.valid value → AnyWhole key value old
      → (own_op_words (any_probe key (R.view value live))).inverse (R.view value live) ≡ Some op → sets_own (place.own_op op) R old new → R.conf (R.view new live) ≡ R.conf (R.view value live)
  back key (Some own) op value old new live here is_valid whole taken done =
      let made = made_own own.0 op (R.view value live) (taken_own key own op (R.view value live) taken) in
      is.back own.0 made.0 value old new live is_valid (whole_is own.0 value old (subst (λ (k : Key). AnyWhole k value old) own.1 whole)) made.1.0
      (sets_found made.0 old new (subst (λ (o : Op). sets_own (place.own_op o) R old new) (sym made.1.1) done))
  back key None op value old new live here is_valid whole taken done = absurd here

  pub lifted_back : IsSetBackHere (any_words own_op_words asked) (lifted place R) any_probe AnyWhole
  lifted_back = record { again = λ key. again key (place.own_key key); back = λ key. back key (place.own_key key) }

by_member : {K O L : Type 0} (member : Member K O L) (l : L) (own_probe : K → List ℕ → O) (OwnWhole : K → List ℕ → List ℕ → Type 0) → ((own : O) → op_words (member.place.op own) ≡ op_words_of member own)
    → ((own : K) (shown : List ℕ) → probe (member.kind.words.name own) shown ≡ member.place.op (own_probe own shown)) → ((own : K) (value old : List ℕ) → IsWhole (member.kind.words.name own) value old → OwnWhole own value old)
    → IsSetBack member.kind.words (member.kind.record_words l) own_probe OwnWhole → IsSetBackHere words (record_words_of member l) probe IsWhole
by_member member l own_probe OwnWhole agrees probes whole_is is =
    lifted_back member.kind.words member.place (member.kind.record_words l) op_words get_asked agrees own_probe probe probes OwnWhole IsWhole whole_is is

-- ---- a line for each kind

pub set_back : (l : Limits) → IsSetBackHere words (record_words l) probe IsWhole
set_back (limits.Thresholds l) = by_member sensor_recs.ThresholdsKind.member l _ _ (λ own. refl) (λ own shown. refl) (λ own value old whole. whole) (thresholds.set_back l.masks)
set_back (limits.Hysteresis l) = by_member sensor_recs.HysteresisKind.member l _ _ (λ own. refl) (λ own shown. refl) (λ own value old whole. whole) hysteresis.set_back
set_back (limits.EventEnable l) = by_member sensor_recs.EventEnableKind.member l _ _ (λ own. refl) (λ own shown. refl) (λ own value old whole. whole) (event_enable.set_back l.supported)
set_back (limits.PowerPolicy l) = by_member watch_boot.PowerPolicyKind.member l _ _ (λ own. refl) (λ own shown. refl) (λ own value old whole. whole) power_policy.set_back
set_back (limits.Watchdog l) = by_member watch_boot.WatchdogKind.member l _ _ (λ own. refl) (λ own shown. refl) (λ own value old whole. whole) watchdog.set_back
set_back (limits.GlobalEnables l) = by_member watch_boot.GlobalEnablesKind.member l _ _ (λ own. refl) (λ own shown. refl) (λ own value old whole. whole) global_enables.set_back
set_back (limits.BootParam l) = by_member watch_boot.BootParamKind.member l _ _ (λ own. refl) (λ own shown. refl) (λ own value old whole. whole) (boot_param.set_back l.parameter)
set_back (limits.NumericEffecter l) = by_member effecter_recs.NumericKind.member l _ _ (λ own. refl) (λ own shown. refl) (λ own value old whole. whole) (numeric.set_back l)
set_back (limits.StateEffecter l) = by_member effecter_recs.StateKind.member l _ _ (λ own. refl) (λ own shown. refl) (λ own value old whole. whole) (states.set_back l)
set_back (limits.UserName l) = by_member user_chan.UserNamesKind.member l _ _ (λ own. refl) (λ own shown. refl) (λ own value old whole. whole) user_name.set_back
set_back (limits.UserAccess l) = by_member user_chan.UserAccessKind.member l _ _ (λ own. refl) (λ own shown. refl) (λ own value old whole. whole) (user_access.set_back l)
set_back (limits.ChannelAccess l) = by_member user_chan.ChannelAccessKind.member l _ _ (λ own. refl) (λ own shown. refl) (λ own value old whole. whole) channel_access.set_back
set_back (limits.BiosAttribute l) = by_member bios_attr.BiosAttributeKind.member l _ _ (λ own. refl) (λ own shown. refl) (λ own value old whole. whole) (attribute.set_back l)
set_back (limits.LanParam l) = by_member user_chan.LanParamKind.member l _ _ (λ own. refl) (λ own shown. refl) (λ own value old whole. whole) (lan_param.set_back l.parameter)
