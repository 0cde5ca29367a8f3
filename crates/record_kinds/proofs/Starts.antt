-- The records that a board file gives are sound.
use Rattle.std.proofs.Common.{◌≡◌, ℕ, List, [], ◌∷◌, map, length, ap, Option, Some, None, Bool, true, false, cond, ◌==◌, refl, sym, subst, eq-eqb, arith, rules}
use Rattle.std.specs.List.{find}
use Rattle.std.specs.Option.{option_map}
use Rattle.std.proofs.lemmas.Bool.Decides.{nat_tests}
use Rattle.record_base.specs.declared.key.Key.{Key}
use Rattle.record_base.specs.declared.key.Key.TheVariants as key
use Rattle.record_base.specs.declared.boot_param.BootParameter.TheVariants.{ValidBitClearing, InfoAcknowledge, Flags}
use Rattle.record_base.specs.declared.sensor.Sensor.{Sensor}
use Rattle.cfg_records.specs.declared.board_file.BoardFile.{BoardFile}
use Rattle.record_base.specs.Keys.{same_key}
use Rattle.record_base.specs.KeyLaws.{exact_key, same_key_self}
use Rattle.record_base.specs.MaskLaws.{same_test, both, both_true}
use Rattle.record_base.specs.NumberLaws.{same_field}
use Rattle.record_base.specs.Numbers.{ChannelNumber, UserNumber}
use Rattle.record_base.specs.declared.user.UserOnChannel.{UserOnChannel}
use Rattle.record_base.specs.declared.channel.Channel.{Channel}
use Rattle.record_base.specs.declared.channel.AccessStore.{AccessStore}
use Rattle.record_base.specs.declared.channel.AccessStore.TheVariants.{NonVolatile, Volatile, Neither}
use Rattle.cfg_records.specs.Records.{Pair, value_of, records_of}
use Rattle.cfg_records.proofs.Pairs.{has_key}
use Rattle.cfg_records.proofs.BoardPairs.{user_number, channel_number, place_of, pairs_at, record_of_kind}
use Rattle.record_base.specs.Values.{number_value, stored, access_value}
use Rattle.record_base.specs.declared.state_effecter.StateField.{StateField}
use Rattle.record_base.specs.StateEffecter.{are_states, state_value}
use Rattle.record_base.specs.Attribute.{range_of, attribute_value}
use Rattle.record_base.specs.AttributeLaws.{begins_valid}
use Rattle.record_kinds.specs.declared.limits.Limits.{Limits}
use Rattle.record_kinds.specs.declared.limits.Limits.TheVariants as limits
use Rattle.record_kinds.specs.Limits.{valid, of_sensor, limits_at}
use Rattle.record_kinds.specs.Boards.{is_on}
use Rattle.record_kinds.specs.Sound.{IsSoundAt, StartsSound}
use Rattle.record_kinds.proofs.LanStarts.{lan_pair, lan_pairs_at, same_lan_key, lan_begins}

-- ---- pairs of one kind of item

same_number : (m n : ℕ) → (m == n) ≡ true → m ≡ n
same_number m n h = grind (arith, nat_tests)

-- keys of one kind are one where their numbers are
same_numbered : (of_kind : ℕ → Key) → ((m n : ℕ) → of_kind m ≡ of_kind n → m ≡ n) → (m n : ℕ) → same_key (of_kind m) (of_kind n) ≡ (m == n)
same_numbered of_kind number_of m n =
    same_test _ _
    (λ h. eq-eqb m n (number_of m n (exact_key (of_kind m) (of_kind n) h)))
    (λ h. subst (λ (other : ℕ). same_key (of_kind m) (of_kind other) ≡ true) (same_number m n h) (same_key_self (of_kind m)))

sound_first : {X : Type 0} (pair : X → Pair) (limits : X → Limits) (x : X) (b : Bool) (found : Option X) (other : Option Pair) → valid (limits x) (pair x).1
    → IsSoundAt (option_map limits found) (option_map value_of other) → IsSoundAt (option_map limits (cond b (Some x) found)) (option_map value_of (cond b (Some (pair x)) other))
sound_first pair limits x true found other is_valid later = is_valid
sound_first pair limits x false found other is_valid later = later

-- each item gives a valid pair, and a test finds the item whose pair the key finds
sound_of : {X : Type 0} (pair : X → Pair) (limits : X → Limits) (test : X → Bool) (items : List X) (k : Key)
    → ((x : X) → same_key (pair x).0 k ≡ test x) → ((x : X) → valid (limits x) (pair x).1) → IsSoundAt (option_map limits (find test items)) (option_map value_of (find (has_key k) (map pair items)))
sound_of pair limits test [] k same all_valid = tt
sound_of pair limits test (x ∷ xs) k same all_valid =
    subst (λ (b : Bool). IsSoundAt (option_map limits (find test (x ∷ xs))) (option_map value_of (cond b (Some (pair x)) (find (has_key k) (map pair xs))))) (sym (same x))
    (sound_first pair limits x (test x) (find test xs) (find (has_key k) (map pair xs)) (all_valid x) (sound_of pair limits test xs k same all_valid))

-- the records of a kind that each sensor has
of_sensors : (file : BoardFile) (of : ℕ → Key) (value : Sensor → List ℕ) (limits_of : Sensor → Limits) (number : ℕ) → ((m n : ℕ) → of m ≡ of n → m ≡ n) → ((s : Sensor) → valid (limits_of s) (value s))
    → IsSoundAt (of_sensor limits_of file number) (records_of (map (λ s. (of s.number, value s)) file.sensors.items) (of number))
of_sensors file of value limits_of number exact =
    sound_of (λ s. (of s.number, value s)) limits_of (λ s. s.number == number) file.sensors.items (of number) (λ s. same_numbered of exact s.number number)

-- two tests are one where each holds of the same
same_user_key : (a b : UserNumber) → same_key (key.UserName a) (key.UserName b) ≡ (a.number == b.number)
same_user_key a b =
    same_test _ _
    (λ h. eq-eqb a.number b.number (ap user_number (exact_key (key.UserName a) (key.UserName b) h)))
    (λ h. subst (λ (u : UserNumber). same_key (key.UserName a) (key.UserName u) ≡ true) (same_field a b (same_number _ _ h)) (same_key_self (key.UserName a)))

on_of : Key → UserOnChannel → UserOnChannel
on_of (key.UserAccess on) other = on
on_of _ other = other

-- parts that are one make one whole
one_on : (c d : ChannelNumber) (u v : UserNumber) → c ≡ d → u ≡ v → (let a : UserOnChannel = record { channel = c; user = u } in a) ≡ record { channel = d; user = v }
one_on c d u v p q i = record { channel = p i; user = q i }

same_on_key : (a b : UserOnChannel) → same_key (key.UserAccess a) (key.UserAccess b) ≡ is_on a b
unfolding on_of
same_on_key a b =
    same_test _ _
    (λ h. let one : a ≡ b = ap (λ (k : Key). on_of k a) (exact_key (key.UserAccess a) (key.UserAccess b) h) in
    both _ _ (eq-eqb _ _ (ap (λ (o : UserOnChannel). o.channel.number) one)) (eq-eqb _ _ (ap (λ (o : UserOnChannel). o.user.number) one)))
    (λ h.
    let tests = both_true _ _ h in
    let one : a ≡ b = one_on a.channel b.channel a.user b.user (same_field a.channel b.channel (same_number _ _ tests.0)) (same_field a.user b.user (same_number _ _ tests.1)) in
    subst (λ (o : UserOnChannel). same_key (key.UserAccess a) (key.UserAccess o) ≡ true) one (same_key_self (key.UserAccess a)))

same_store_key : (store : AccessStore) (a b : ChannelNumber) → same_key (key.ChannelAccess (stored a store)) (key.ChannelAccess (stored b store)) ≡ (a.number == b.number)
same_store_key store a b =
    same_test _ _
    (λ h. eq-eqb a.number b.number (ap channel_number (exact_key (key.ChannelAccess (stored a store)) (key.ChannelAccess (stored b store)) h)))
    (λ h. subst (λ (c : ChannelNumber). same_key (key.ChannelAccess (stored a store)) (key.ChannelAccess (stored c store)) ≡ true) (same_field a b (same_number _ _ h)) (same_key_self (key.ChannelAccess (stored a store))))

store_of : Key → AccessStore
store_of (key.ChannelAccess at) = at.store
store_of _ = Neither

other_store : Volatile ≡ Neither → ⊥
other_store same = cc

stores_differ : (a b : ChannelNumber) (test : Bool) → same_key (key.ChannelAccess (stored a Volatile)) (key.ChannelAccess (stored b Neither)) ≡ test → test ≡ false
unfolding store_of
stores_differ a b true is = absurd (other_store (ap store_of (exact_key (key.ChannelAccess (stored a Volatile)) (key.ChannelAccess (stored b Neither)) is)))
stores_differ a b false is = refl

passed_over : (b : Bool) (pair : Pair) (rest : Option Pair) → b ≡ false → option_map value_of rest ≡ None → option_map value_of (cond b (Some pair) rest) ≡ None
passed_over true pair rest is none = cc
passed_over false pair rest is none = none

-- neither store has a record
no_store : (channels : List Channel) (channel : ChannelNumber) → records_of (map (λ c. (key.ChannelAccess (stored c.number Volatile), access_value c.volatile)) channels) (key.ChannelAccess (stored channel Neither)) ≡ None
no_store [] channel = refl
no_store (c ∷ cs) channel = passed_over _ _ _ (stores_differ c.number channel _ refl) (no_store cs channel)

sound_in_store : (file : BoardFile) (channel : ChannelNumber) (store : AccessStore) → IsSoundAt (limits_at file (key.ChannelAccess (stored channel store))) (records_of (pairs_at file (place_of (key.ChannelAccess (stored channel store)))) (key.ChannelAccess (stored channel store)))
sound_in_store file channel NonVolatile =
    sound_of (λ c. (key.ChannelAccess (stored c.number NonVolatile), access_value c.non_volatile)) (λ c. limits.ChannelAccess (record {})) (λ c. c.number.number == channel.number) file.channels.items (key.ChannelAccess (stored channel NonVolatile))
    (λ c. same_store_key NonVolatile c.number channel) (λ c. c.non_volatile.valid)
sound_in_store file channel Volatile =
    sound_of (λ c. (key.ChannelAccess (stored c.number Volatile), access_value c.volatile)) (λ c. limits.ChannelAccess (record {})) (λ c. c.number.number == channel.number) file.channels.items (key.ChannelAccess (stored channel Volatile))
    (λ c. same_store_key Volatile c.number channel) (λ c. c.volatile.valid)
sound_in_store file channel Neither = subst (IsSoundAt None) (sym (no_store file.channels.items channel)) tt

-- fields begin in states that they can be in
begin_allowed : (fields : List StateField) → are_states fields (state_value fields) ≡ true
begin_allowed [] = refl
begin_allowed (f ∷ fs) = both _ _ f.valid (begin_allowed fs)

-- ---- each kind

-- the record of a key is sound where only the pairs of its kind are: a line for each kind, and one for those of sensors
sound_in_kind : (file : BoardFile) (k : Key) → IsSoundAt (limits_at file k) (records_of (pairs_at file (place_of k)) k)
sound_in_kind file key.PowerPolicy = file.policy.valid
sound_in_kind file key.Watchdog = file.watchdog.valid
sound_in_kind file key.GlobalEnables = file.enables.valid
sound_in_kind file (key.BootParam ValidBitClearing) = record { long = refl; mark = omega arith; body = file.boot.five_bits }
sound_in_kind file (key.BootParam InfoAcknowledge) = record { long = refl; mark = omega arith; body = file.boot.byte }
sound_in_kind file (key.BootParam Flags) = record { long = refl; mark = omega arith; body = tt }
sound_in_kind file (key.NumericEffecter id) =
    sound_of (λ e. (key.NumericEffecter e.id, number_value e)) (λ e. limits.NumericEffecter (record { enabled = e.enabled; range = e.range })) (λ e. e.id == id) file.numeric_effecters.items (key.NumericEffecter id)
    (λ e. same_numbered key.NumericEffecter (λ m n same. cc) e.id id) (λ e. e.valid)
sound_in_kind file (key.StateEffecter id) =
    sound_of (λ e. (key.StateEffecter e.id, state_value e.fields)) (λ e. limits.StateEffecter e) (λ e. e.id == id) file.state_effecters.items (key.StateEffecter id)
    (λ e. same_numbered key.StateEffecter (λ m n same. cc) e.id id) (λ e. begin_allowed e.fields)
sound_in_kind file (key.UserName user) =
    sound_of (λ u. (key.UserName u.number, u.name)) (λ u. limits.UserName (record {})) (λ u. u.number.number == user.number) file.users.items (key.UserName user) (λ u. same_user_key u.number user) (λ u. u.sized)
sound_in_kind file (key.UserAccess on) =
    sound_of (λ a. (key.UserAccess a.on, a.byte ∷ [])) (λ a. limits.UserAccess (record { user = on.user; most = length file.users.items })) (λ a. is_on a.on on) file.user_accesses.items (key.UserAccess on)
    (λ a. same_on_key a.on on) (λ a. a.valid)
sound_in_kind file (key.ChannelAccess at) = sound_in_store file at.channel at.store
sound_in_kind file (key.BiosAttribute handle) =
    sound_of (λ a. (key.BiosAttribute a.handle, attribute_value a)) (λ a. limits.BiosAttribute (record { handle = handle; read_only = a.read_only; range = range_of a.kind })) (λ a. a.handle == handle) file.attributes.items (key.BiosAttribute handle)
    (λ a. same_numbered key.BiosAttribute (λ m n same. cc) a.handle handle) begins_valid
sound_in_kind file (key.LanParam on) = subst (λ (pairs : List Pair). IsSoundAt (limits_at file (key.LanParam on)) (records_of pairs (key.LanParam on))) (lan_pairs_at file on.parameter)
    (sound_of (lan_pair on.parameter) (λ l. limits.LanParam (record { parameter = on.parameter })) (λ l. l.number.number == on.channel.number) file.lans.items (key.LanParam on)
    (λ l. same_lan_key on.parameter l.number on.channel) (lan_begins on.parameter))
sound_in_kind file of_a_sensor = of_sensors file _ _ _ _ (λ m n same. cc) (λ s. search rules)

pub starts_sound : StartsSound
starts_sound file k = subst (IsSoundAt (limits_at file k)) (sym (record_of_kind file k)) (sound_in_kind file k)
