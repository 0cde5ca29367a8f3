-- The pairs of a board file, kind after kind.
use Rattle.std.proofs.Common.{◌≡◌, ◌≢◌, ◌==◌, ℕ, zero, suc, ◌<◌, ◌≤◌, ◌⊎◌, inl, inr, List, [], ◌∷◌, ◌++◌, length, get_or, map, Option, Some, None, IsTrue, refl, ap, sym, ◌∙◌, arith}
use Rattle.std.proofs.lemmas.Bool.Decides.{nat_tests}
use Rattle.std.specs.List.{All, find}
use Rattle.std.specs.Option.{option_map, option_or}
use Rattle.std.proofs.lemmas.List.{length-map}
use Rattle.std.proofs.lemmas.List.Elements.{All-append, All-map}
use Rattle.std.proofs.lemmas.List.Folds.{find-append}
use Rattle.record_base.specs.BoardSizes.{most_state_fields}
use Rattle.record_base.specs.UserSizes.{user_name_size}
use Rattle.record_base.specs.declared.key.Key.{Key}
use Rattle.record_base.specs.declared.key.Key.TheVariants as key
use Rattle.record_base.specs.declared.sensor.Sensor.{Sensor}
use Rattle.cfg_records.specs.declared.board_file.BoardFile.{BoardFile}
use Rattle.record_base.specs.declared.boot_param.BootParameter.TheVariants.{ValidBitClearing, InfoAcknowledge, Flags}
use Rattle.record_base.specs.declared.numeric_size.NumericSize.{NumericSize}
use Rattle.record_base.specs.declared.numeric_size.NumericSize.TheVariants.{U8, S8, U16, S16, U32, S32}
use Rattle.record_base.specs.NumericSize.{bytes_of}
use Rattle.record_base.specs.declared.state_effecter.StateField.{StateField}
use Rattle.record_base.specs.StateEffecter.{state_value}
use Rattle.record_base.specs.declared.attribute.Attribute.{Attribute}
use Rattle.record_base.specs.Attribute.{attribute_value}
use Rattle.record_base.specs.AttributeLaws.{begins_long}
use Rattle.record_base.specs.Keys.{is_length, slot}
use Rattle.record_base.specs.KeyLaws.{exact_key}
use Rattle.record_base.specs.Distinct.{NamesDiffer}
use Rattle.record_base.specs.InOrderLaws.{numbered_differ}
use Rattle.record_base.specs.LanItems.{lan_key, lan_value}
use Rattle.record_base.specs.declared.lan_parameter.LanAddress.TheVariants.{Ip, SubnetMask, DefaultGateway}
use Rattle.record_base.specs.declared.lan_parameter.LanParameter.{LanParameter}
use Rattle.record_base.specs.declared.lan_parameter.LanParameter.TheVariants.{Address, AddressSource, Vlan}
use Rattle.cfg_records.specs.Records.{Pair, key_in, value_of, records_of, KeysDiffer, LengthsFit}
use Rattle.record_base.specs.declared.channel.AccessStore.{AccessStore}
use Rattle.record_base.specs.declared.channel.AccessStore.TheVariants.{NonVolatile, Volatile, Neither}
use Rattle.record_base.specs.Numbers.{number_on}
use Rattle.record_base.specs.Values.{policy_value, settings_value, enables_value, boot_value, number_value, stored, access_value}
use Rattle.cfg_records.specs.Boards.{kinds_of, pairs_of}
use Rattle.cfg_records.specs.LanBoards.{lan_pairs}
use Rattle.cfg_records.proofs.LanPlaces.{lan_place, lan_has_place, lan_channel, lan_fits}
use Rattle.record_base.proofs.Names.{NamesDiffer-map, NamesDiffer-append}
use Rattle.cfg_records.proofs.Searches.{find_some}
use Rattle.cfg_records.proofs.Pairs.{has_key}

-- the place of the pairs of a store, among the pairs of a file: no pair is of neither
abbrev pub store_place : AccessStore → ℕ
store_place NonVolatile = 7
store_place Volatile = 8
store_place Neither = 8

-- the place of a sensor's record: its table's, since those come first, and in the order of the tables
abbrev pub sensor_place : Option (ℕ × ℕ) → ℕ
sensor_place (Some at) = at.0
sensor_place None = 0

-- the place of a kind among the pairs of a file
abbrev pub place_of : Key → ℕ
place_of (key.NumericEffecter id) = 3
place_of (key.StateEffecter id) = 4
place_of (key.UserName user) = 5
place_of (key.UserAccess on) = 6
place_of (key.ChannelAccess stored) = store_place stored.store
place_of key.PowerPolicy = 9
place_of key.Watchdog = 10
place_of key.GlobalEnables = 11
place_of (key.BootParam ValidBitClearing) = 12
place_of (key.BootParam InfoAcknowledge) = 13
place_of (key.BootParam Flags) = 14
place_of (key.BiosAttribute handle) = 15
place_of (key.LanParam on) = lan_place on.parameter
place_of sensors = sensor_place (slot sensors)

-- the pairs of the kind at a place
abbrev pub pairs_at : BoardFile → ℕ → List Pair
pairs_at file place = get_or (kinds_of file) place []

-- the pairs of one kind
record AreOf (place : ℕ) (pairs : List Pair) : Type 0 where
  pub differ : KeysDiffer pairs
  pub fit : LengthsFit pairs
  pub placed : All (λ pair. place_of pair.0 ≡ place) pairs

-- the pairs of the kinds before a place
pub record AreBefore (file : BoardFile) (place : ℕ) (pairs : List Pair) : Type 0 where
  pub differ : KeysDiffer pairs
  pub fit : LengthsFit pairs
  pub placed : All (λ pair. place_of pair.0 < place) pairs
  pub found : (k : Key) → place_of k < place → find (has_key k) pairs ≡ find (has_key k) (pairs_at file (place_of k))

places_apart : (place : ℕ) (a b : Key) → place_of a < place → place_of b ≡ place → a ≢ b
places_apart place a b before here same = let one : place_of a ≡ place_of b = ap place_of same in absurd (omega arith)

none_or : (found : Option Pair) → ((q : Pair) → found ≡ Some q → ⊥) → found ≡ None
none_or None h = refl
none_or (Some q) h = absurd (h q refl)

or_none : (found : Option Pair) → option_or found None ≡ found
or_none (Some q) = refl
or_none None = refl

-- a key isn't found among pairs of other kinds
none_of : (pairs : List Pair) (k : Key) → All (λ pair. place_of pair.0 ≢ place_of k) pairs → find (has_key k) pairs ≡ None
none_of pairs k others =
    none_or (find (has_key k) pairs) (λ q is.
    let at = find_some (has_key k) pairs q is in
    others at.0 q at.1.inside (ap (λ (p : Pair). place_of p.0) (at.1.is_it q) ∙ ap place_of (exact_key q.0 k at.1.passes)))

earlier_or_here : (m n : ℕ) → m < suc n → (m < n) ⊎ (m ≡ n)
earlier_or_here m n lt = grind arith

-- a key of one of these kinds is found where its own kind has it
found_next : (file : BoardFile) (place : ℕ) (pairs : List Pair) → AreBefore file place pairs → AreOf place (pairs_at file place) → (k : Key) → (place_of k < place) ⊎ (place_of k ≡ place)
    → find (has_key k) (pairs ++ pairs_at file place) ≡ find (has_key k) (pairs_at file (place_of k))
found_next file place pairs before here k (inl lt) =
    find-append (has_key k) pairs (pairs_at file place)
    ∙ ap (option_or (find (has_key k) pairs)) (none_of (pairs_at file place) k (λ i d inside same. let p : place_of (get_or (pairs_at file place) i d).0 ≡ place = here.placed i d inside in omega arith))
    ∙ or_none (find (has_key k) pairs) ∙ before.found k lt
found_next file place pairs before here k (inr is) =
    find-append (has_key k) pairs (pairs_at file place)
    ∙ ap (λ (found : Option Pair). option_or found (find (has_key k) (pairs_at file place))) (none_of pairs k (λ i d inside same. let p : place_of (get_or pairs i d).0 < place = before.placed i d inside in omega arith))
    ∙ ap (λ (n : ℕ). find (has_key k) (pairs_at file n)) (sym is)

-- the pairs of the next kind come after them
and_then : (file : BoardFile) (place : ℕ) (pairs : List Pair) → AreBefore file place pairs → AreOf place (pairs_at file place) → AreBefore file (suc place) (pairs ++ pairs_at file place)
and_then file place pairs before here = record {
  differ = NamesDiffer-append key_in pairs (pairs_at file place) before.differ here.differ (λ m n d p q. places_apart place _ _ (before.placed m d p) (here.placed n d q));
  fit = All-append (λ (pair : Pair). IsTrue (is_length pair.0 (length pair.1))) pairs (pairs_at file place) before.fit here.fit;
  placed = All-append (λ (pair : Pair). place_of pair.0 < suc place) pairs (pairs_at file place) (λ k d lt. let p : place_of (get_or pairs k d).0 < place = before.placed k d lt in omega arith) (λ k d lt. let p : place_of (get_or (pairs_at file place) k d).0 ≡ place = here.placed k d lt in omega arith);
  found = λ k lt. found_next file place pairs before here k (earlier_or_here (place_of k) place lt);
}

-- no pairs come first
none_before : (file : BoardFile) → AreBefore file 0 []
none_before file = record {
  differ = λ i j d lt inside same. absurd (omega arith);
  fit = λ k d lt. absurd (omega arith);
  placed = λ k d lt. absurd (omega arith);
  found = λ k lt. absurd (omega arith);
}

-- a fact of one pair
only : (P : Pair → Type 0) (pair : Pair) → P pair → All P (pair ∷ [])
only P pair p zero d lt = p
only P pair p (suc k) d lt = absurd (omega arith)

-- one pair of a kind
one_of : (place : ℕ) (pair : Pair) → IsTrue (is_length pair.0 (length pair.1)) → place_of pair.0 ≡ place → AreOf place (pair ∷ [])
one_of place pair fits placed = record {
  differ = λ i j d lt inside same. absurd (omega arith);
  fit = only (λ (p : Pair). IsTrue (is_length p.0 (length p.1))) pair fits;
  placed = only (λ (p : Pair). place_of p.0 ≡ place) pair placed;
}

-- the pairs of numbered items, of which each has a record of a kind under a key of its own
of_items : {X : Type 0} (number_of : X → ℕ) (of : X → Key) (value : X → List ℕ) (place : ℕ) (items : List X) → NamesDiffer number_of items
    → ((x y : X) → of x ≡ of y → number_of x ≡ number_of y) → ((x : X) → place_of (of x) ≡ place) → ((x : X) → IsTrue (is_length (of x) (length (value x))))
    → AreOf place (map (λ x. (of x, value x)) items)
of_items number_of of value place items differ exact placed fits = record {
  differ = NamesDiffer-map key_in (λ x. (of x, value x)) items (λ i j d lt inside same. differ i j d lt inside (exact _ _ same));
  fit = All-map (λ (pair : Pair). IsTrue (is_length pair.0 (length pair.1))) (λ x. (of x, value x)) items (λ k d lt. fits (get_or items k d));
  placed = All-map (λ (pair : Pair). place_of pair.0 ≡ place) (λ x. (of x, value x)) items (λ k d lt. placed (get_or items k d));
}

-- the numbers in keys
abbrev pub user_number : Key → ℕ
user_number (key.UserName user) = user.number
user_number _ = 0

abbrev user_on_number : Key → ℕ
user_on_number (key.UserAccess on) = number_on on
user_on_number _ = 0

abbrev pub channel_number : Key → ℕ
channel_number (key.ChannelAccess s) = s.channel.number
channel_number _ = 0

-- the pairs of numbered items, of which each has a record of a kind
of_numbered : {X : Type 0} (number_of : X → ℕ) (of : ℕ → Key) (value : X → List ℕ) (place : ℕ) (items : List X) → NamesDiffer number_of items
    → ((m n : ℕ) → of m ≡ of n → m ≡ n) → ((n : ℕ) → place_of (of n) ≡ place) → ((x : X) → IsTrue (is_length (of (number_of x)) (length (value x))))
    → AreOf place (map (λ x. (of (number_of x), value x)) items)
of_numbered number_of of value place items differ exact placed fits = record {
  differ = NamesDiffer-map key_in (λ x. (of (number_of x), value x)) items (λ i j d lt inside same. differ i j d lt inside (exact _ _ same));
  fit = All-map (λ (pair : Pair). IsTrue (is_length pair.0 (length pair.1))) (λ x. (of (number_of x), value x)) items (λ k d lt. fits (get_or items k d));
  placed = All-map (λ (pair : Pair). place_of pair.0 ≡ place) (λ x. (of (number_of x), value x)) items (λ k d lt. placed (number_of (get_or items k d)));
}

of_sensors : (file : BoardFile) (of : ℕ → Key) (value : Sensor → List ℕ) (place : ℕ)
    → ((m n : ℕ) → of m ≡ of n → m ≡ n) → ((n : ℕ) → place_of (of n) ≡ place) → ((s : Sensor) → IsTrue (is_length (of s.number) (length (value s))))
    → AreOf place (map (λ s. (of s.number, value s)) file.sensors.items)
of_sensors file of value place = of_numbered (λ s. s.number) of value place file.sensors.items file.sensors.differ

six : (n : ℕ) → n ≡ 6 → IsTrue (is_length (key.Thresholds 0) n)
six n h = grind (arith, nat_tests)

sized : (n : ℕ) → n ≡ user_name_size → IsTrue (n == user_name_size)
sized n h = grind (arith, nat_tests)

of_width : (size : NumericSize) (n : ℕ) → IsTrue (is_length (key.NumericEffecter 0) (length (bytes_of size n)))
of_width U8 n = refl
of_width S8 n = refl
of_width U16 n = refl
of_width S16 n = refl
of_width U32 n = refl
of_width S32 n = refl

few_fields : (n : ℕ) → 1 ≤ n → n ≤ most_state_fields → IsTrue (is_length (key.StateEffecter 0) n)
few_fields n some few = grind (arith, nat_tests)

of_fields : (fields : List StateField) → 1 ≤ length fields → length fields ≤ most_state_fields → IsTrue (is_length (key.StateEffecter 0) (length (state_value fields)))
of_fields fields some few = let long : length (state_value fields) ≡ length fields = length-map fields (λ (f : StateField). f.current) in few_fields (length (state_value fields)) (omega arith) (omega arith)

of_attribute : (attribute : Attribute) → IsTrue (is_length (key.BiosAttribute attribute.handle) (length (attribute_value attribute)))
of_attribute attribute = begins_long attribute

of_lans : (file : BoardFile) (parameter : LanParameter) → AreOf (lan_place parameter) (lan_pairs file parameter)
of_lans file parameter =
    of_items (λ l. l.number.number) (λ l. lan_key l.number parameter) (λ l. lan_value l parameter) (lan_place parameter) file.lans.items file.lans.differ
    (λ a b same. lan_channel same) (λ l. refl) (λ l. lan_fits l parameter)

-- the pairs of a file: a step for each kind
pub pairs_are : (file : BoardFile) → AreBefore file 21 (pairs_of file)
pairs_are file =
    let before_1 = and_then file 0 [] (none_before file) (of_sensors file key.Thresholds _ 0 (λ m n same. cc) (λ n. refl) (λ s. six _ s.thresholds.valid.six)) in
    let before_2 = and_then file 1 _ before_1 (of_sensors file key.Hysteresis _ 1 (λ m n same. cc) (λ n. refl) (λ s. refl)) in
    let before_3 = and_then file 2 _ before_2 (of_sensors file key.EventEnable _ 2 (λ m n same. cc) (λ n. refl) (λ s. refl)) in
    let before_4 =
    and_then file 3 _ before_3 (of_numbered (λ e. e.id) key.NumericEffecter number_value 3 file.numeric_effecters.items file.numeric_effecters.differ (λ m n same. cc) (λ n. refl) (λ e. of_width e.range.size e.current)) in
    let before_5 =
    and_then file 4 _ before_4 (of_numbered (λ e. e.id) key.StateEffecter (λ e. state_value e.fields) 4 file.state_effecters.items file.state_effecters.differ (λ m n same. cc) (λ n. refl) (λ e. of_fields e.fields e.some e.few)) in
    let before_6 = and_then file 5 _ before_5 (of_items (λ u. u.number.number) (λ u. key.UserName u.number) (λ u. u.name) 5 file.users.items (numbered_differ (λ u. u.number.number) 1 file.users.items file.users.valid.numbered) (λ u v same. ap user_number same) (λ u. refl) (λ u. sized _ u.sized)) in
    let before_7 = and_then file 6 _ before_6 (of_items (λ a. number_on a.on) (λ a. key.UserAccess a.on) (λ a. a.byte ∷ []) 6 file.user_accesses.items file.user_accesses.differ (λ a b same. ap user_on_number same) (λ a. refl) (λ a. refl)) in
    let before_8 =
    and_then file 7 _ before_7
    (of_items (λ c. c.number.number) (λ c. key.ChannelAccess (stored c.number NonVolatile)) (λ c. access_value c.non_volatile) 7 file.channels.items file.channels.differ (λ c d same. ap channel_number same) (λ c. refl) (λ c. refl)) in
    let before_9 =
    and_then file 8 _ before_8
    (of_items (λ c. c.number.number) (λ c. key.ChannelAccess (stored c.number Volatile)) (λ c. access_value c.volatile) 8 file.channels.items file.channels.differ (λ c d same. ap channel_number same) (λ c. refl) (λ c. refl)) in
    let before_10 = and_then file 9 _ before_9 (one_of 9 (key.PowerPolicy, policy_value file.policy) refl refl) in
    let before_11 = and_then file 10 _ before_10 (one_of 10 (key.Watchdog, settings_value file.watchdog) refl refl) in
    let before_12 = and_then file 11 _ before_11 (one_of 11 (key.GlobalEnables, enables_value file.enables) refl refl) in
    let before_13 = and_then file 12 _ before_12 (one_of 12 (key.BootParam ValidBitClearing, boot_value file.boot ValidBitClearing) refl refl) in
    let before_14 = and_then file 13 _ before_13 (one_of 13 (key.BootParam InfoAcknowledge, boot_value file.boot InfoAcknowledge) refl refl) in
    let before_15 = and_then file 14 _ before_14 (one_of 14 (key.BootParam Flags, boot_value file.boot Flags) refl refl) in
    let before_16 = and_then file 15 _ before_15 (of_numbered (λ a. a.handle) key.BiosAttribute attribute_value 15 file.attributes.items (numbered_differ (λ a. a.handle) 0 file.attributes.items file.attributes.placed) (λ m n same. cc) (λ n. refl) of_attribute) in
    let before_17 = and_then file 16 _ before_16 (of_lans file (Address Ip)) in
    let before_18 = and_then file 17 _ before_17 (of_lans file AddressSource) in
    let before_19 = and_then file 18 _ before_18 (of_lans file (Address SubnetMask)) in
    let before_20 = and_then file 19 _ before_19 (of_lans file (Address DefaultGateway)) in
    and_then file 20 _ before_20 (of_lans file Vlan)

store_has_place : (s : AccessStore) → store_place s < 21
store_has_place NonVolatile = omega arith
store_has_place Volatile = omega arith
store_has_place Neither = omega arith

has_place : (k : Key) → place_of k < 21
has_place (key.LanParam on) = lan_has_place on.parameter
has_place (key.Thresholds sensor) = omega arith
has_place (key.ChannelAccess stored) = store_has_place stored.store
has_place (key.BootParam ValidBitClearing) = omega arith
has_place (key.BootParam InfoAcknowledge) = omega arith
has_place (key.BootParam Flags) = omega arith
has_place _ = omega arith

-- the record of a key is that of its kind's pairs
pub record_of_kind : (file : BoardFile) (k : Key) → records_of (pairs_of file) k ≡ records_of (pairs_at file (place_of k)) k
record_of_kind file k = ap (option_map value_of) ((pairs_are file).found k (has_place k))

-- no two pairs of a file have the same key
pub pairs_differ : (file : BoardFile) → KeysDiffer (pairs_of file)
pairs_differ file = (pairs_are file).differ

-- each value of a file has a length of its kind
pub lengths_fit : (file : BoardFile) → LengthsFit (pairs_of file)
lengths_fit file = (pairs_are file).fit
