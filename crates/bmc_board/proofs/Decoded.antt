-- Each request for a record, and each for an operation, is read as what it asks for: a line for each kind whose data don't show it by themselves.
use Rattle.std.proofs.Common.{◌≡◌, ℕ, ◌+◌, ◌*◌, ◌/◌, ◌%◌, ◌<◌, ap, ◌∙◌, List, [], ◌∷◌, take, length, Bool, true, false, if◌then◌else◌, Option, Some, None, Result, Ok, Err, refl, sym, subst, arith, nat_le, nat_lt, ◌≤◌}
use Rattle.std.proofs.lemmas.Bool.Decides.{nat_tests}
use Rattle.record_base.specs.declared.key.Key.TheVariants as key
use Rattle.record_base.specs.declared.op.Op.{Op}
use Rattle.record_base.specs.declared.thresholds.SetThresholds.{SetThresholds}
use Rattle.record_base.specs.declared.watchdog.SetWatchdog.{SetWatchdog}
use Rattle.record_base.specs.declared.event_enable.EventMasks.{EventMasks}
use Rattle.record_base.specs.declared.event_enable.EventChange.{EventChange}
use Rattle.record_base.specs.declared.event_enable.EventChange.TheVariants.{Leave, Enable, Disable, Reserved}
use Rattle.record_base.specs.declared.event_enable.SetEventEnable.{SetEventEnable}
use Rattle.record_base.specs.declared.numeric_effecter.NumericBytes.{NumericBytes}
use Rattle.record_base.specs.declared.numeric_effecter.NumericBytes.TheVariants.{One, Two, Four, Other}
use Rattle.record_base.specs.declared.numeric_effecter.SetNumericEffecter.{SetNumericEffecter}
use Rattle.record_base.specs.declared.state_effecter.SetStateEffecter.{SetStateEffecter}
use Rattle.record_base.specs.declared.bios_attribute.SetBiosAttribute.{SetBiosAttribute}
use Rattle.record_base.specs.AttributeSizes.{most_sent}
use Rattle.record_base.specs.BiosAttribute.{setting}
use Rattle.record_base.specs.AttributeRangeLaws.{le_true, number_back}
use Rattle.two_wire.specs.Codes.{pldm_invalid_length}
use Rattle.record_base.specs.BiosAttributeLaws.{few_sent, same_setting, sent_whole}
use Rattle.record_base.specs.declared.op.Op.TheVariants as op
use Rattle.record_base.specs.declared.boot_param.BootParameter.TheVariants as parameter
use Rattle.record_base.specs.declared.boot_param.BootChange.{BootChange}
use Rattle.record_base.specs.declared.boot_param.BootChange.TheVariants.{MarkAlone, ValidBitClearing, InfoAcknowledge, Flags}
use Rattle.record_base.specs.declared.boot_param.SetBootParam.{SetBootParam}
use Rattle.record_base.specs.declared.channel.AccessStore.{AccessStore}
use Rattle.record_base.specs.declared.channel.AccessStore.TheVariants.{NonVolatile, Volatile, Neither}
use Rattle.record_base.specs.declared.channel.ChannelChange.{ChannelChange}
use Rattle.record_base.specs.declared.channel.ChannelChange.TheVariants.{Access, Limit, Both}
use Rattle.record_base.specs.declared.channel.SetChannelAccess.{SetChannelAccess}
use Rattle.record_base.specs.declared.user.SetUserName.{SetUserName}
use Rattle.record_base.specs.declared.user.SetUserAccess.{SetUserAccess}
use Rattle.two_wire.specs.Codes.{pldm_invalid_length}
use Rattle.record_base.specs.InverseLaws.{same_tested}
use Rattle.effecter_recs.specs.ChangeLaws.{two_each, same_states, all_read}
use Rattle.effecter_recs.specs.State.{state_body}
use Rattle.bmc_board.specs.declared.command.Lengths.TheVariants.{PairsCountedAt}
use Rattle.bmc_board.specs.Table.{allow}
use Rattle.record_base.specs.Values.{stored}
use Rattle.record_base.specs.Numbers.{ChannelNumber, UserNumber, SixBits, low_bits}
use Rattle.record_base.specs.NumberLaws.{same_field, low_bits_again}
use Rattle.user_chan.specs.ChannelAccess.{in_store}
use Rattle.user_chan.specs.ChannelRequests.{store_at, named, change, asked_for}
use Rattle.record_base.specs.UserSizes.{user_name_size}
use Rattle.user_chan.specs.UserNames.{shown_name}
use Rattle.user_chan.specs.UserNamesLaws.{shown_is}
use Rattle.std.proofs.Math.Nat.{ℕ_set}
use Rattle.record_base.proofs.Operations.{set_thresholds, same_thresholds}
use Rattle.record_kinds.specs.Series.{set_whole}
use Rattle.bmc_board.specs.Request as request
use Rattle.bmc_board.specs.Request.{Request, asked_by}
use Rattle.bmc_board.specs.ChannelCommands.{channel_asked}
use Rattle.bmc_board.specs.AttributeCommands.{whole_set}
use Rattle.bmc_board.specs.Decode.{GetsAreRead, SetsAreRead}
use Rattle.bmc_board.proofs.LanFacts as lan

-- what holds of all lists of six holds of a list of length six
six : (P : List ℕ → Type 0) → ((a b c d e f : ℕ) → P (a ∷ b ∷ c ∷ d ∷ e ∷ f ∷ [])) → (xs : List ℕ) → length xs ≡ 6 → P xs
six P at (a ∷ b ∷ c ∷ d ∷ e ∷ f ∷ []) is = at a b c d e f
six P at (a ∷ b ∷ c ∷ d ∷ e ∷ f ∷ g ∷ xs) is = absurd (omega (arith, is))
six P at (a ∷ b ∷ c ∷ d ∷ e ∷ []) is = absurd (omega (arith, is))
six P at (a ∷ b ∷ c ∷ d ∷ []) is = absurd (omega (arith, is))
six P at (a ∷ b ∷ c ∷ []) is = absurd (omega (arith, is))
six P at (a ∷ b ∷ []) is = absurd (omega (arith, is))
six P at (a ∷ []) is = absurd (omega (arith, is))
six P at [] is = absurd (omega (arith, is))

-- the request is read as the operation that it carries out
abbrev IsRead : SetThresholds → Type 0
IsRead o = asked_by (set_whole (op.Thresholds o)) ≡ Ok (request.Set (op.Thresholds o))

thresholds_read : (o : SetThresholds) → IsRead o
thresholds_read o =
    six (λ (v : List ℕ). (is : length v ≡ 6) → IsRead (set_thresholds o.sensor o.mask v is))
    (λ a b c d e f is.
    let v : List ℕ = a ∷ b ∷ c ∷ d ∷ e ∷ f ∷ [] in
    ap (λ (made : SetThresholds). Ok (request.Set (op.Thresholds made))) (same_thresholds o.sensor o.mask v v refl is refl))
    o.values o.six o.six

abbrev set_watchdog : SetWatchdog → ℕ → Op
set_watchdog o initial = op.Watchdog (record { timer_use = o.timer_use; actions = o.actions; pre_timeout = o.pre_timeout; flags_to_clear = o.flags_to_clear; initial = initial })

abbrev set_events : ℕ → Bool → Bool → EventChange → SetEventEnable
set_events sensor messages scanning change = record { sensor = sensor; messages = messages; scanning = scanning; change = change }

-- the request is read as the operation that it carries out
abbrev EventsAreRead : SetEventEnable → Type 0
EventsAreRead o = asked_by (set_whole (op.EventEnable o)) ≡ Ok (request.Set (op.EventEnable o))

-- its masks are read
masks_read : (to : EventMasks → EventChange) (sensor : ℕ) (messages scanning : Bool) (masks : EventMasks)
    → Ok (request.Set (op.EventEnable (set_events sensor messages scanning (to (record { assertions = masks.assertions % 256 + 256 * (masks.assertions / 256); deassertions = masks.deassertions % 256 + 256 * (masks.deassertions / 256) })))))
    ≡ (let asked : Result Request ℕ = Ok (request.Set (op.EventEnable (set_events sensor messages scanning (to masks)))) in asked)
masks_read to sensor messages scanning masks =
    ap (λ (a : ℕ). Ok (request.Set (op.EventEnable (set_events sensor messages scanning (to (record { assertions = a; deassertions = masks.deassertions % 256 + 256 * (masks.deassertions / 256) })))))) (number_back masks.assertions)
    ∙ ap (λ (d : ℕ). Ok (request.Set (op.EventEnable (set_events sensor messages scanning (to (record { assertions = masks.assertions; deassertions = d })))))) (number_back masks.deassertions)

events_read : (sensor : ℕ) (messages scanning : Bool) (change : EventChange) → EventsAreRead (set_events sensor messages scanning change)
events_read sensor true true (Enable masks) = masks_read Enable sensor true true masks
events_read sensor true false (Enable masks) = masks_read Enable sensor true false masks
events_read sensor false true (Enable masks) = masks_read Enable sensor false true masks
events_read sensor false false (Enable masks) = masks_read Enable sensor false false masks
events_read sensor true true (Disable masks) = masks_read Disable sensor true true masks
events_read sensor true false (Disable masks) = masks_read Disable sensor true false masks
events_read sensor false true (Disable masks) = masks_read Disable sensor false true masks
events_read sensor false false (Disable masks) = masks_read Disable sensor false false masks
events_read sensor true true Leave = refl
events_read sensor true false Leave = refl
events_read sensor false true Leave = refl
events_read sensor false false Leave = refl
events_read sensor true true Reserved = refl
events_read sensor true false Reserved = refl
events_read sensor false true Reserved = refl
events_read sensor false false Reserved = refl

-- so is a request for a boot parameter
abbrev BootIsRead : SetBootParam → Type 0
BootIsRead o = asked_by (set_whole (op.BootParam o)) ≡ Ok (request.Set (op.BootParam o))

boot_read : (invalid : Bool) (change : BootChange) → BootIsRead (record { invalid = invalid; change = change })
boot_read true (MarkAlone parameter.ValidBitClearing) = refl
boot_read true (MarkAlone parameter.InfoAcknowledge) = refl
boot_read true (MarkAlone parameter.Flags) = refl
boot_read true (ValidBitClearing byte) = refl
boot_read true (InfoAcknowledge masked) = refl
boot_read true (Flags flags) = refl
boot_read false (MarkAlone parameter.ValidBitClearing) = refl
boot_read false (MarkAlone parameter.InfoAcknowledge) = refl
boot_read false (MarkAlone parameter.Flags) = refl
boot_read false (ValidBitClearing byte) = refl
boot_read false (InfoAcknowledge masked) = refl
boot_read false (Flags flags) = refl

abbrev set_numeric : ℕ → ℕ → NumericBytes → SetNumericEffecter
set_numeric effecter size value = record { effecter = effecter; size = size; value = value }

-- the request is read as the operation that it carries out
abbrev NumberIsRead : SetNumericEffecter → Type 0
NumberIsRead o = asked_by (set_whole (op.NumericEffecter o)) ≡ Ok (request.Set (op.NumericEffecter o))

-- its id is read
id_read : (effecter size : ℕ) (value : NumericBytes) → Ok (request.Set (op.NumericEffecter (set_numeric (effecter % 256 + 256 * (effecter / 256)) size value))) ≡ (let asked : Result Request ℕ = Ok (request.Set (op.NumericEffecter (set_numeric effecter size value))) in asked)
id_read effecter size value = ap (λ (n : ℕ). Ok (request.Set (op.NumericEffecter (set_numeric n size value)))) (number_back effecter)

number_read : (effecter size : ℕ) (value : NumericBytes) → NumberIsRead (set_numeric effecter size value)
number_read effecter size (One a) = id_read effecter size (One a)
number_read effecter size (Two a b) = id_read effecter size (Two a b)
number_read effecter size (Four a b c d) = id_read effecter size (Four a b c d)
number_read effecter size Other = id_read effecter size Other

-- so is a request for the states of an effecter: as many pairs as it counts stand behind the count
where_taken : (b : Bool) (asked other : Result Request ℕ) (code : ℕ) → b ≡ true → asked ≡ other → (if b then asked else Err code) ≡ other
where_taken true asked other code is same = same
where_taken false asked other code is same = cc

states_read : (o : SetStateEffecter) → asked_by (set_whole (op.StateEffecter o)) ≡ Ok (request.Set (op.StateEffecter o))
states_read o =
    where_taken (allow (PairsCountedAt 2) (state_body o)) _ _ pldm_invalid_length
    (same_tested _ _ (omega (arith, two_each o.changes)))
    (ap (λ (made : SetStateEffecter). Ok (request.Set (op.StateEffecter made))) (same_states _ _ _ _ _ _ (number_back o.effecter) (all_read o.changes o.few)))

-- so is a request for a name
abbrev set_name : (user : ℕ) (name : List ℕ) → length name ≡ user_name_size → SetUserName
set_name user name sized = record { user = user; name = name; sized = sized }

abbrev NameIsRead : SetUserName → Type 0
NameIsRead o = asked_by (set_whole (op.UserName o)) ≡ Ok (request.Set (op.UserName o))

name_read : (o : SetUserName) → NameIsRead o
name_read o =
    subst (λ (name : List ℕ). (sized : length name ≡ user_name_size) → NameIsRead (set_name o.user name sized)) (sym (shown_is o.name o.sized))
    (λ sized. ap (λ (it : length (shown_name o.name) ≡ user_name_size). Ok (request.Set (op.UserName (set_name o.user (shown_name o.name) it)))) (ℕ_set (length (shown_name o.name)) user_name_size refl sized))
    o.sized

-- one for what a user may do
abbrev set_access : (first user limit : ℕ) → Option ℕ → SetUserAccess
set_access first user limit session_limit = record { first = first; user = user; limit = limit; session_limit = session_limit }

access_read : (first user limit : ℕ) (session_limit : Option ℕ) → asked_by (set_whole (op.UserAccess (set_access first user limit session_limit))) ≡ Ok (request.Set (op.UserAccess (set_access first user limit session_limit)))
access_read first user limit (Some n) = refl
access_read first user limit None = refl

-- and one for the access of a channel
-- what stands behind a store's bits is read, and the store
behind_1 : (n : ℕ) → n < 64 → (1 * 64 + n) / 64 ≡ 1
behind_1 n lt = omega arith

behind_2 : (n : ℕ) → n < 64 → (2 * 64 + n) / 64 ≡ 2
behind_2 n lt = omega arith

behind_3 : (n : ℕ) → n < 64 → (3 * 64 + n) / 64 ≡ 3
behind_3 n lt = omega arith

named_is : (s : AccessStore) (n : ℕ) → n < 64 → named (in_store s n / 64) ≡ Some s
named_is NonVolatile n lt = ap named (behind_1 n lt)
named_is Volatile n lt = ap named (behind_2 n lt)
named_is Neither n lt = ap named (behind_3 n lt)

low_1 : (n : ℕ) → n < 64 → (1 * 64 + n) % 64 ≡ n
low_1 n lt = omega arith

low_2 : (n : ℕ) → n < 64 → (2 * 64 + n) % 64 ≡ n
low_2 n lt = omega arith

low_3 : (n : ℕ) → n < 64 → (3 * 64 + n) % 64 ≡ n
low_3 n lt = omega arith

bits_read : (s : AccessStore) (b : SixBits) → low_bits 6 (in_store s b.number) ≡ b
bits_read NonVolatile b = same_field (low_bits 6 (in_store NonVolatile b.number)) b (low_1 b.number b.below)
bits_read Volatile b = same_field (low_bits 6 (in_store Volatile b.number)) b (low_2 b.number b.below)
bits_read Neither b = same_field (low_bits 6 (in_store Neither b.number)) b (low_3 b.number b.below)

-- what is asked for
abbrev asks : ChannelNumber → Option AccessStore → Option AccessStore → SixBits → SixBits → Result Request ℕ
asks channel store other access limit = Ok (channel_asked (asked_for channel store other access limit))

abbrev StoreIsRead : SetChannelAccess → Type 0
StoreIsRead o = asked_by (set_whole (op.ChannelAccess o)) ≡ Ok (request.Set (op.ChannelAccess o))

one_store : (c : ChannelNumber) (s : AccessStore) (a l : SixBits) → asks c (Some s) (Some s) a l ≡ Ok (request.Set (op.ChannelAccess (change c s (Both a l))))
one_store c NonVolatile a l = refl
one_store c Volatile a l = refl
one_store c Neither a l = refl

store_read : (c : ChannelNumber) (s : AccessStore) (what : ChannelChange) → StoreIsRead (change c s what)
store_read c s (Access a) = λ i. asks (low_bits_again c i) (named_is s a.number a.below i) None (bits_read s a i) (low_bits 6 0)
store_read c s (Limit l) = λ i. asks (low_bits_again c i) None (named_is s l.number l.below i) (low_bits 6 0) (bits_read s l i)
store_read c s (Both a l) = (λ i. asks (low_bits_again c i) (named_is s a.number a.below i) (named_is s l.number l.below i) (bits_read s a i) (bits_read s l i)) ∙ one_store c s a l

get_read : (s : AccessStore) → store_at (in_store s 0 / 64) ≡ s
get_read NonVolatile = refl
get_read Volatile = refl
get_read Neither = refl

-- a request for what a user may do asks for that user on that channel
abbrev gets_access : ChannelNumber → UserNumber → Result Request ℕ
gets_access c u = Ok (request.Get (key.UserAccess (record { channel = c; user = u })))

-- so is a request for the value of an attribute, which has eight bytes or more
abbrev attribute_request : SetBiosAttribute → List ℕ
attribute_request o = 0 ∷ 0 ∷ 0 ∷ 0 ∷ 5 ∷ o.attribute % 256 ∷ o.attribute / 256 ∷ o.attribute_type ∷ o.value

-- by whether the data have a length that the command takes, and whether they are too short for a part or for an entry
abbrev read_where : (allowed short cut : Bool) → SetBiosAttribute → Result Request ℕ
read_where allowed short cut change =
    if allowed then whole_set (if short then Err pldm_invalid_length else (if cut then Err pldm_invalid_length else Ok change)) else Err pldm_invalid_length

long_enough : (o : SetBiosAttribute) → nat_le 6 (length (attribute_request o)) ≡ true
long_enough o = le_true 6 (length (attribute_request o)) (omega arith)

not_less : (n m : ℕ) → m ≤ n → nat_lt n m ≡ false
not_less n m le = grind (arith, nat_tests)

attribute_read : (o : SetBiosAttribute) → asked_by (set_whole (op.BiosAttribute o)) ≡ Ok (request.Set (op.BiosAttribute o))
attribute_read o =
    let size : ℕ = length (attribute_request o) in
    (λ i. read_where (long_enough o i) (not_less size 6 (omega arith) i) (not_less size 8 (omega arith) i) (setting (o.attribute % 256 + 256 * (o.attribute / 256)) o.attribute_type o.value))
    ∙ ap (λ (n : ℕ). Ok (request.Set (op.BiosAttribute (setting n o.attribute_type o.value)))) (number_back o.attribute)
    ∙ ap (λ (change : SetBiosAttribute). Ok (request.Set (op.BiosAttribute change))) (same_setting o.attribute o.attribute_type (take most_sent o.value) o.value (few_sent o.value) o.fits (sent_whole o.value o.fits))

pub gets_are_read : GetsAreRead
gets_are_read (key.UserName user) = record { is_read = ap (λ (u : UserNumber). Ok (request.Get (key.UserName u))) (low_bits_again user); from_nobody = (refl, refl) }
gets_are_read (key.UserAccess on) = record { is_read = λ i. gets_access (low_bits_again on.channel i) (low_bits_again on.user i); from_nobody = (refl, refl) }
gets_are_read (key.ChannelAccess at) = record { is_read = λ i. Ok (request.Get (key.ChannelAccess (stored (low_bits_again at.channel i) (get_read at.store i)))); from_nobody = (refl, refl) }
gets_are_read (key.BootParam parameter.ValidBitClearing) = record { is_read = refl; from_nobody = (refl, refl) }
gets_are_read (key.BootParam parameter.InfoAcknowledge) = record { is_read = refl; from_nobody = (refl, refl) }
gets_are_read (key.BootParam parameter.Flags) = record { is_read = refl; from_nobody = (refl, refl) }
gets_are_read (key.Thresholds sensor) = record { is_read = refl; from_nobody = (refl, refl) }
gets_are_read (key.NumericEffecter id) = record { is_read = ap (λ (n : ℕ). Ok (request.Get (key.NumericEffecter n))) (number_back id); from_nobody = refl }
gets_are_read (key.StateEffecter id) = record { is_read = ap (λ (n : ℕ). Ok (request.Get (key.StateEffecter n))) (number_back id); from_nobody = refl }
gets_are_read (key.BiosAttribute handle) = record { is_read = ap (λ (n : ℕ). Ok (request.Get (key.BiosAttribute n))) (number_back handle); from_nobody = refl }
gets_are_read (key.LanParam on) = record { is_read = lan.get_read on.channel on.parameter; from_nobody = (refl, refl) }
gets_are_read _ = record { is_read = refl; from_nobody = (refl, refl) }

pub sets_are_read : SetsAreRead
sets_are_read (op.Thresholds o) = record { is_read = thresholds_read o; from_nobody = (refl, refl) }
sets_are_read (op.EventEnable o) = record { is_read = events_read o.sensor o.messages o.scanning o.change; from_nobody = (refl, refl) }
sets_are_read (op.Watchdog o) = record { is_read = ap (λ n. Ok (request.Set (set_watchdog o n))) (number_back o.initial); from_nobody = (refl, refl) }
sets_are_read (op.BootParam o) = record { is_read = boot_read o.invalid o.change; from_nobody = (refl, refl) }
sets_are_read (op.NumericEffecter o) = record { is_read = number_read o.effecter o.size o.value; from_nobody = refl }
sets_are_read (op.StateEffecter o) = record { is_read = states_read o; from_nobody = refl }
sets_are_read (op.UserName o) = record { is_read = name_read o; from_nobody = (refl, refl) }
sets_are_read (op.UserAccess o) = record { is_read = access_read o.first o.user o.limit o.session_limit; from_nobody = (refl, refl) }
sets_are_read (op.ChannelAccess o) = record { is_read = store_read o.channel o.store o.change; from_nobody = (refl, refl) }
sets_are_read (op.BiosAttribute o) = record { is_read = attribute_read o; from_nobody = refl }
sets_are_read (op.LanParam o) = record { is_read = lan.set_read o.channel o.change; from_nobody = (refl, refl) }
sets_are_read _ = record { is_read = refl; from_nobody = (refl, refl) }
