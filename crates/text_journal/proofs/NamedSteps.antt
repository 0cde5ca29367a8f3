-- The request that carries a step out names the step again: a line for each kind whose data don't show it by themselves.
use Rattle.std.proofs.Common.{◌≡◌, ℕ, ◌+◌, ◌*◌, ◌/◌, ◌%◌, ◌<◌, ap, ◌∙◌, List, [], ◌∷◌, take, length, Bool, true, false, if◌then◌else◌, Option, Some, None, Ok, Err, refl, sym, subst, arith, nat_lt, ◌≤◌}
use Rattle.std.proofs.lemmas.Bool.Decides.{nat_tests}
use Rattle.record_base.specs.declared.op.Op.{Op}
use Rattle.record_base.specs.declared.op.Op.TheVariants as op
use Rattle.record_base.specs.declared.thresholds.SetThresholds.{SetThresholds}
use Rattle.record_base.specs.declared.watchdog.SetWatchdog.{SetWatchdog}
use Rattle.record_base.specs.declared.event_enable.EventMasks.{EventMasks}
use Rattle.record_base.specs.declared.event_enable.EventChange.{EventChange}
use Rattle.record_base.specs.declared.event_enable.EventChange.TheVariants.{Leave, Enable, Disable, Reserved}
use Rattle.record_base.specs.declared.event_enable.SetEventEnable.{SetEventEnable}
use Rattle.record_base.specs.declared.numeric_effecter.NumericBytes.{NumericBytes}
use Rattle.record_base.specs.declared.numeric_effecter.NumericBytes.TheVariants.{One, Two, Four, Other}
use Rattle.record_base.specs.declared.numeric_effecter.SetNumericEffecter.{SetNumericEffecter}
use Rattle.record_base.specs.declared.state_effecter.SetStateEffecter.{SetStateEffecter}
use Rattle.record_base.specs.declared.bios_attribute.SetBiosAttribute.{SetBiosAttribute}
use Rattle.record_base.specs.declared.boot_param.BootParameter.TheVariants as parameter
use Rattle.record_base.specs.declared.boot_param.BootChange.{BootChange}
use Rattle.record_base.specs.declared.boot_param.BootChange.TheVariants.{MarkAlone, ValidBitClearing, InfoAcknowledge, Flags}
use Rattle.record_base.specs.declared.channel.AccessStore.{AccessStore}
use Rattle.record_base.specs.declared.channel.AccessStore.TheVariants.{NonVolatile, Volatile, Neither}
use Rattle.record_base.specs.declared.channel.ChannelChange.{ChannelChange}
use Rattle.record_base.specs.declared.channel.ChannelChange.TheVariants.{Access, Limit, Both}
use Rattle.record_base.specs.declared.lan_parameter.LanAddress.TheVariants.{Ip, SubnetMask, DefaultGateway}
use Rattle.record_base.specs.declared.lan_parameter.LanChange.{LanChange}
use Rattle.record_base.specs.declared.lan_parameter.LanChange.TheVariants as lan
use Rattle.record_base.specs.declared.user.SetUserName.{SetUserName}
use Rattle.record_base.specs.declared.user.SetUserAccess.{SetUserAccess}
use Rattle.record_base.specs.AttributeSizes.{most_sent}
use Rattle.record_base.specs.AttributeRangeLaws.{number_back}
use Rattle.record_base.specs.BiosAttribute.{setting}
use Rattle.record_base.specs.BiosAttributeLaws.{few_sent, same_setting, sent_whole}
use Rattle.record_base.specs.Numbers.{ChannelNumber, SixBits, low_bits}
use Rattle.record_base.specs.NumberLaws.{same_field, low_bits_again}
use Rattle.record_base.specs.UserSizes.{user_name_size}
use Rattle.record_base.proofs.Operations.{set_thresholds, same_thresholds}
use Rattle.two_wire.specs.Codes.{pldm_invalid_length}
use Rattle.effecter_recs.specs.ChangeLaws.{same_states, all_read}
use Rattle.user_chan.specs.ChannelAccess.{in_store}
use Rattle.user_chan.specs.ChannelRequests.{named, change, asked_for}
use Rattle.user_chan.specs.UserNames.{shown_name}
use Rattle.user_chan.specs.UserNamesLaws.{shown_is}
use Rattle.std.proofs.Math.Nat.{ℕ_set}
use Rattle.record_kinds.specs.Limits.{words as kinds}
use Rattle.text_journal.specs.JournalSteps.{head_of, step_named, attribute_step, channel_step}

-- the request that carries the step out names it
abbrev pub IsNamed : Op → Type 0
IsNamed any = step_named (head_of any) (kinds.set_data any) ≡ Some any

-- what holds of all lists of six holds of a list of length six
six : (P : List ℕ → Type 0) → ((a b c d e f : ℕ) → P (a ∷ b ∷ c ∷ d ∷ e ∷ f ∷ [])) → (xs : List ℕ) → length xs ≡ 6 → P xs
six P at (a ∷ b ∷ c ∷ d ∷ e ∷ f ∷ []) is = at a b c d e f
six P at (a ∷ b ∷ c ∷ d ∷ e ∷ f ∷ g ∷ xs) is = absurd (omega (arith, is))
six P at (a ∷ b ∷ c ∷ d ∷ e ∷ []) is = absurd (omega (arith, is))
six P at (a ∷ b ∷ c ∷ d ∷ []) is = absurd (omega (arith, is))
six P at (a ∷ b ∷ c ∷ []) is = absurd (omega (arith, is))
six P at (a ∷ b ∷ []) is = absurd (omega (arith, is))
six P at (a ∷ []) is = absurd (omega (arith, is))
six P at [] is = absurd (omega (arith, is))

thresholds_read : (o : SetThresholds) → IsNamed (op.Thresholds o)
thresholds_read o =
    six (λ (v : List ℕ). (is : length v ≡ 6) → IsNamed (op.Thresholds (set_thresholds o.sensor o.mask v is)))
    (λ a b c d e f is.
    let v : List ℕ = a ∷ b ∷ c ∷ d ∷ e ∷ f ∷ [] in
    ap (λ (made : SetThresholds). Some ((op.Thresholds made))) (same_thresholds o.sensor o.mask v v refl is refl))
    o.values o.six o.six

abbrev set_watchdog : SetWatchdog → ℕ → Op
set_watchdog o initial = op.Watchdog (record { timer_use = o.timer_use; actions = o.actions; pre_timeout = o.pre_timeout; flags_to_clear = o.flags_to_clear; initial = initial })

abbrev set_events : ℕ → Bool → Bool → EventChange → SetEventEnable
set_events sensor messages scanning change = record { sensor = sensor; messages = messages; scanning = scanning; change = change }

-- its masks are read
masks_read : (to : EventMasks → EventChange) (sensor : ℕ) (messages scanning : Bool) (masks : EventMasks)
    → Some ((op.EventEnable (set_events sensor messages scanning (to (record { assertions = masks.assertions % 256 + 256 * (masks.assertions / 256); deassertions = masks.deassertions % 256 + 256 * (masks.deassertions / 256) })))))
    ≡ (let asked : Option Op = Some ((op.EventEnable (set_events sensor messages scanning (to masks)))) in asked)
masks_read to sensor messages scanning masks =
    ap (λ (a : ℕ). Some ((op.EventEnable (set_events sensor messages scanning (to (record { assertions = a; deassertions = masks.deassertions % 256 + 256 * (masks.deassertions / 256) })))))) (number_back masks.assertions)
    ∙ ap (λ (d : ℕ). Some ((op.EventEnable (set_events sensor messages scanning (to (record { assertions = masks.assertions; deassertions = d })))))) (number_back masks.deassertions)

events_read : (sensor : ℕ) (messages scanning : Bool) (change : EventChange) → IsNamed (op.EventEnable (set_events sensor messages scanning change))
events_read sensor true true (Enable masks) = masks_read Enable sensor true true masks
events_read sensor true false (Enable masks) = masks_read Enable sensor true false masks
events_read sensor false true (Enable masks) = masks_read Enable sensor false true masks
events_read sensor false false (Enable masks) = masks_read Enable sensor false false masks
events_read sensor true true (Disable masks) = masks_read Disable sensor true true masks
events_read sensor true false (Disable masks) = masks_read Disable sensor true false masks
events_read sensor false true (Disable masks) = masks_read Disable sensor false true masks
events_read sensor false false (Disable masks) = masks_read Disable sensor false false masks
events_read sensor true true Leave = refl
events_read sensor true false Leave = refl
events_read sensor false true Leave = refl
events_read sensor false false Leave = refl
events_read sensor true true Reserved = refl
events_read sensor true false Reserved = refl
events_read sensor false true Reserved = refl
events_read sensor false false Reserved = refl

boot_read : (invalid : Bool) (change : BootChange) → IsNamed (op.BootParam (record { invalid = invalid; change = change }))
boot_read true (MarkAlone parameter.ValidBitClearing) = refl
boot_read true (MarkAlone parameter.InfoAcknowledge) = refl
boot_read true (MarkAlone parameter.Flags) = refl
boot_read true (ValidBitClearing byte) = refl
boot_read true (InfoAcknowledge masked) = refl
boot_read true (Flags flags) = refl
boot_read false (MarkAlone parameter.ValidBitClearing) = refl
boot_read false (MarkAlone parameter.InfoAcknowledge) = refl
boot_read false (MarkAlone parameter.Flags) = refl
boot_read false (ValidBitClearing byte) = refl
boot_read false (InfoAcknowledge masked) = refl
boot_read false (Flags flags) = refl

abbrev set_numeric : ℕ → ℕ → NumericBytes → SetNumericEffecter
set_numeric effecter size value = record { effecter = effecter; size = size; value = value }

-- its id is read
id_read : (effecter size : ℕ) (value : NumericBytes) → Some ((op.NumericEffecter (set_numeric (effecter % 256 + 256 * (effecter / 256)) size value))) ≡ (let asked : Option Op = Some ((op.NumericEffecter (set_numeric effecter size value))) in asked)
id_read effecter size value = ap (λ (n : ℕ). Some ((op.NumericEffecter (set_numeric n size value)))) (number_back effecter)

number_read : (effecter size : ℕ) (value : NumericBytes) → IsNamed (op.NumericEffecter (set_numeric effecter size value))
number_read effecter size (One a) = id_read effecter size (One a)
number_read effecter size (Two a b) = id_read effecter size (Two a b)
number_read effecter size (Four a b c d) = id_read effecter size (Four a b c d)
number_read effecter size Other = id_read effecter size Other

-- so are the states of an effecter
states_read : (o : SetStateEffecter) → IsNamed (op.StateEffecter o)
states_read o = ap (λ (made : SetStateEffecter). Some (op.StateEffecter made)) (same_states _ _ _ _ _ _ (number_back o.effecter) (all_read o.changes o.few))

-- so is a request for a name
abbrev set_name : (user : ℕ) (name : List ℕ) → length name ≡ user_name_size → SetUserName
set_name user name sized = record { user = user; name = name; sized = sized }

name_read : (o : SetUserName) → IsNamed (op.UserName o)
name_read o =
    subst (λ (name : List ℕ). (sized : length name ≡ user_name_size) → IsNamed (op.UserName (set_name o.user name sized))) (sym (shown_is o.name o.sized))
    (λ sized. ap (λ (it : length (shown_name o.name) ≡ user_name_size). Some ((op.UserName (set_name o.user (shown_name o.name) it)))) (ℕ_set (length (shown_name o.name)) user_name_size refl sized))
    o.sized

-- one for what a user may do
abbrev set_access : (first user limit : ℕ) → Option ℕ → SetUserAccess
set_access first user limit session_limit = record { first = first; user = user; limit = limit; session_limit = session_limit }

access_read : (first user limit : ℕ) (session_limit : Option ℕ) → IsNamed (op.UserAccess (set_access first user limit session_limit))
access_read first user limit (Some n) = refl
access_read first user limit None = refl

-- and one for the access of a channel
-- what stands behind a store's bits is read, and the store
behind_1 : (n : ℕ) → n < 64 → (1 * 64 + n) / 64 ≡ 1
behind_1 n lt = omega arith

behind_2 : (n : ℕ) → n < 64 → (2 * 64 + n) / 64 ≡ 2
behind_2 n lt = omega arith

behind_3 : (n : ℕ) → n < 64 → (3 * 64 + n) / 64 ≡ 3
behind_3 n lt = omega arith

named_is : (s : AccessStore) (n : ℕ) → n < 64 → named (in_store s n / 64) ≡ Some s
named_is NonVolatile n lt = ap named (behind_1 n lt)
named_is Volatile n lt = ap named (behind_2 n lt)
named_is Neither n lt = ap named (behind_3 n lt)

low_1 : (n : ℕ) → n < 64 → (1 * 64 + n) % 64 ≡ n
low_1 n lt = omega arith

low_2 : (n : ℕ) → n < 64 → (2 * 64 + n) % 64 ≡ n
low_2 n lt = omega arith

low_3 : (n : ℕ) → n < 64 → (3 * 64 + n) % 64 ≡ n
low_3 n lt = omega arith

bits_read : (s : AccessStore) (b : SixBits) → low_bits 6 (in_store s b.number) ≡ b
bits_read NonVolatile b = same_field (low_bits 6 (in_store NonVolatile b.number)) b (low_1 b.number b.below)
bits_read Volatile b = same_field (low_bits 6 (in_store Volatile b.number)) b (low_2 b.number b.below)
bits_read Neither b = same_field (low_bits 6 (in_store Neither b.number)) b (low_3 b.number b.below)

-- what is asked for
abbrev asks : ChannelNumber → Option AccessStore → Option AccessStore → SixBits → SixBits → Option Op
asks channel store other access limit = channel_step (asked_for channel store other access limit)

one_store : (c : ChannelNumber) (s : AccessStore) (a l : SixBits) → asks c (Some s) (Some s) a l ≡ Some ((op.ChannelAccess (change c s (Both a l))))
one_store c NonVolatile a l = refl
one_store c Volatile a l = refl
one_store c Neither a l = refl

store_read : (c : ChannelNumber) (s : AccessStore) (what : ChannelChange) → IsNamed (op.ChannelAccess (change c s what))
store_read c s (Access a) = λ i. asks (low_bits_again c i) (named_is s a.number a.below i) None (bits_read s a i) (low_bits 6 0)
store_read c s (Limit l) = λ i. asks (low_bits_again c i) None (named_is s l.number l.below i) (low_bits 6 0) (bits_read s l i)
store_read c s (Both a l) = (λ i. asks (low_bits_again c i) (named_is s a.number a.below i) (named_is s l.number l.below i) (bits_read s a i) (bits_read s l i)) ∙ one_store c s a l

-- and a LAN parameter
abbrev lan_set : ChannelNumber → LanChange → Option Op
lan_set channel change = Some (op.LanParam (record { channel = channel; change = change }))

lan_read : (c : ChannelNumber) (change : LanChange) → IsNamed (op.LanParam (record { channel = c; change = change }))
lan_read c (lan.Address Ip a) = λ i. lan_set (low_bits_again c i) (lan.Address Ip a)
lan_read c (lan.Address SubnetMask a) = λ i. lan_set (low_bits_again c i) (lan.Address SubnetMask a)
lan_read c (lan.Address DefaultGateway a) = λ i. lan_set (low_bits_again c i) (lan.Address DefaultGateway a)
lan_read c (lan.AddressSource byte) = λ i. lan_set (low_bits_again c i) (lan.AddressSource byte)
lan_read c (lan.Vlan vlan) = λ i. lan_set (low_bits_again c i) (lan.Vlan vlan)

-- and the value of an attribute, which has eight bytes or more
abbrev attribute_request : SetBiosAttribute → List ℕ
attribute_request o = 0 ∷ 0 ∷ 0 ∷ 0 ∷ 5 ∷ o.attribute % 256 ∷ o.attribute / 256 ∷ o.attribute_type ∷ o.value

-- by whether the data are too short for a part or for an entry
abbrev read_where : (short cut : Bool) → SetBiosAttribute → Option Op
read_where short cut change = attribute_step (if short then Err pldm_invalid_length else (if cut then Err pldm_invalid_length else Ok change))

not_less : (n m : ℕ) → m ≤ n → nat_lt n m ≡ false
not_less n m le = grind (arith, nat_tests)

attribute_read : (o : SetBiosAttribute) → IsNamed (op.BiosAttribute o)
attribute_read o =
    let size : ℕ = length (attribute_request o) in
    (λ i. read_where (not_less size 6 (omega arith) i) (not_less size 8 (omega arith) i) (setting (o.attribute % 256 + 256 * (o.attribute / 256)) o.attribute_type o.value))
    ∙ ap (λ (n : ℕ). Some (op.BiosAttribute (setting n o.attribute_type o.value))) (number_back o.attribute)
    ∙ ap (λ (change : SetBiosAttribute). Some (op.BiosAttribute change)) (same_setting o.attribute o.attribute_type (take most_sent o.value) o.value (few_sent o.value) o.fits (sent_whole o.value o.fits))

pub steps_are_named : (any : Op) → IsNamed any
steps_are_named (op.Thresholds o) = thresholds_read o
steps_are_named (op.EventEnable o) = events_read o.sensor o.messages o.scanning o.change
steps_are_named (op.Watchdog o) = ap (λ n. Some (set_watchdog o n)) (number_back o.initial)
steps_are_named (op.BootParam o) = boot_read o.invalid o.change
steps_are_named (op.NumericEffecter o) = number_read o.effecter o.size o.value
steps_are_named (op.StateEffecter o) = states_read o
steps_are_named (op.UserName o) = name_read o
steps_are_named (op.UserAccess o) = access_read o.first o.user o.limit o.session_limit
steps_are_named (op.ChannelAccess o) = store_read o.channel o.store o.change
steps_are_named (op.BiosAttribute o) = attribute_read o
steps_are_named (op.LanParam o) = lan_read o.channel o.change
steps_are_named _ = refl

-- so steps whose requests have the same head and data are the same
pub one_step : (one other : Op) → head_of one ≡ head_of other → kinds.set_data one ≡ kinds.set_data other → one ≡ other
one_step one other heads datas =
    same_some (sym (steps_are_named one) ∙ (λ i. step_named (heads i) (datas i)) ∙ steps_are_named other)
  where
    same_some : {a b : Op} → (let x : Option Op = Some a in x) ≡ Some b → a ≡ b
    same_some e = cc e
