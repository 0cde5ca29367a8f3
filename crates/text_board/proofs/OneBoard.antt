-- A tree holds one board.
use Rattle.std.proofs.Common.{◌≡◌, ◌≤◌, ◌<◌, ◌==◌, ◌/◌, ◌%◌, ◌^◌, ◌+◌, ◌∙◌, ℕ, List, [], ◌∷◌, length, map, Bool, true, false, Option, Some, None, MatchOption, Result, Ok, Err, IsTrue, refl, sym, ap, subst, codes}
use Rattle.std.proofs.Props.{props}
use Rattle.std.proofs.lemmas.Option.{same_Some}
use Rattle.std.specs.List.{list_all, AllZip}
use Rattle.std.proofs.Math.Path.{PathP}
use mathlib.Core.HLevel.{is_prop→PathP}
use Rattle.toml.specs.Data.{Data, Members}
use Rattle.toml.specs.Parse.{parse_document}
use Rattle.record_base.specs.Distinct.{NamesDiffer}
use Rattle.record_base.specs.InOrder.{AreNumbered}
use Rattle.record_base.specs.Attributes.{AreInPlace}
use Rattle.record_base.specs.AttributesLaws.{AreInPlace-prop}
use Rattle.record_base.specs.Users.{AreUsers}
use Rattle.record_base.specs.UsersLaws.{AreUsers-prop}
use Rattle.record_base.specs.NumberLaws.{same_field}
use Rattle.record_base.specs.Numbers.{ChannelNumber, number_on}
use Rattle.record_base.specs.Sdr.{sdr_id}
use Rattle.record_base.specs.AttributeSizes.{most_indexes, most_text, most_attributes}
use Rattle.record_base.specs.AttributeRange.{AllowsIndexes, AllowsText, AllowsNumber}
use Rattle.record_base.specs.AttributeRangeLaws.{AllowsIndexes-prop, AllowsText-prop, AllowsNumber-prop}
use Rattle.record_base.specs.PartLaws.{IsThresholds-prop, IsEventEnable-prop, IsPowerPolicy-prop, IsWatchdog-prop, AreGlobalEnables-prop, IsNumeric-prop, IsUserAccess-prop, IsChannelAccess-prop}
use Rattle.record_base.specs.Sensor.Thresholds.{IsThresholds}
use Rattle.record_base.specs.Sensor.EventEnable.{IsEventEnable, flags_byte, event_value}
use Rattle.record_base.specs.PowerPolicy.{IsPowerPolicy}
use Rattle.record_base.specs.Watchdog.{IsWatchdog, watchdog_value}
use Rattle.record_base.specs.GlobalEnables.{AreGlobalEnables}
use Rattle.record_base.specs.NumericEffecter.{IsNumeric}
use Rattle.record_base.specs.NumericSize.{code_of, numbers_of, bytes_of}
use Rattle.record_base.specs.UserAccess.{IsUserAccess}
use Rattle.record_base.specs.ChannelAccess.{IsChannelAccess}
use Rattle.record_base.specs.UserSizes.{user_name_size}
use Rattle.two_wire.specs.LogSize.{least_log_records, most_log_records}
use Rattle.record_base.specs.StateField.{allows}
use Rattle.record_base.specs.BootParam.{flag_bytes}
use Rattle.cfg_records.specs.declared.board_file.BoardFile.{BoardFile}
use Rattle.cfg_records.specs.BoardChannels.{channel_numbers, is_channel, are_listed, on_numbers, each_user_on}
use Rattle.record_base.specs.declared.device.Device.{Device}
use Rattle.record_base.specs.declared.device.Bcd.{Bcd}
use Rattle.record_base.specs.declared.device.ManufacturerId.{ManufacturerId}
use Rattle.record_base.specs.declared.threshold_masks.ThresholdMasks.{ThresholdMasks}
use Rattle.record_base.specs.declared.thresholds.Thresholds.{Thresholds}
use Rattle.record_base.specs.declared.event_enable.EventEnable.{EventEnable}
use Rattle.record_base.specs.declared.sensor.Sensor.{Sensor}
use Rattle.record_base.specs.declared.state_effecter.StateField.{StateField}
use Rattle.record_base.specs.declared.state_effecter.StateEffecter.{StateEffecter}
use Rattle.record_base.specs.declared.numeric_size.NumericSize.{NumericSize}
use Rattle.record_base.specs.declared.numeric_range.NumericRange.{NumericRange}
use Rattle.record_base.specs.declared.numeric_effecter.NumericEffecter.{NumericEffecter}
use Rattle.record_base.specs.declared.user.User.{User}
use Rattle.record_base.specs.declared.user.UserAccess.{UserAccess}
use Rattle.record_base.specs.declared.channel.Channel.{Channel}
use Rattle.record_base.specs.declared.channel.ChannelAccess.{ChannelAccess}
use Rattle.record_base.specs.declared.boot_param.BootOptions.{BootOptions}
use Rattle.record_base.specs.declared.watchdog.Watchdog.{Watchdog}
use Rattle.record_base.specs.declared.power_policy.PowerPolicy.{PowerPolicy}
use Rattle.record_base.specs.declared.global_enables.GlobalEnables.{GlobalEnables}
use Rattle.record_base.specs.declared.log_capacity.LogCapacity.{LogCapacity}
use Rattle.record_base.specs.declared.attribute.Attribute.{Attribute}
use Rattle.record_base.specs.declared.attribute.AttributeKind.{AttributeKind}
use Rattle.record_base.specs.declared.attribute.AttributeKind.TheVariants as kind
use Rattle.record_base.specs.declared.attribute.EnumerationAttribute.{EnumerationAttribute}
use Rattle.record_base.specs.declared.attribute.StringAttribute.{StringAttribute}
use Rattle.record_base.specs.declared.attribute.IntegerAttribute.{IntegerAttribute}
use Rattle.text_fields.specs.declared.field.Field.{Field}
use Rattle.text_fields.specs.declared.field.Field.TheVariants as field
use Rattle.text_board.specs.declared.fault.FileFault.{FileFault}
use Rattle.text_board.specs.declared.fault.FileFault.TheVariants as file
use Rattle.text_fields.specs.Trees.{flag_in, table_of, table_in, members_in, members, or_none}
use Rattle.text_fields.specs.Numeric.{size_at, sized_in}
use Rattle.text_fields.specs.Users.{name_of}
use Rattle.text_fields.specs.Attributes.{text_of, text_in, string_in}
use Rattle.text_fields.specs.Ranges.{record_in, has_text}
use Rattle.text_board.specs.AttributeItems.{IsTextIn, HoldsEnumeration, HoldsString, HoldsInteger, HoldsKind, HoldsAttribute, IsAttributeIn}
use Rattle.text_board.specs.Holds.{HoldsDevice, HoldsEvents, HoldsSensor, operational, IsFieldIn, IsPresentIn, HoldsState, HasSized, HoldsRange, HoldsNumeric, IsNameIn, HoldsChannel, IsNumberIn, with_sessions, without_sessions, parts_of, HoldsBoot, HoldsBoard, MembersAnswer, ReadsText}
use Rattle.text_fields.specs.Ranges.{settings}
use Rattle.text_board.specs.Faults.{board_faults}
use Rattle.text_fields.specs.Faults.{first}
use Rattle.text_board.specs.LanItems.{lans_in, channel_of}
use Rattle.text_board.proofs.EffecterFields.{size_back}
use Rattle.text_board.proofs.OneLan.{one_lan}
use Rattle.text_fields.proofs.Unique.{one_found, one_list, one_natural, one_number, one_numbers, one_pair, one_word, same_flags}

-- ---- what a number is within

under : (limit : ℕ) {m n : ℕ} (e : m ≡ n) (p : m < limit) (q : n < limit) → PathP (λ i. e i < limit) p q
under limit e p q = is_prop→PathP (λ i. e i < limit) (λ i. hlevel props) p q

up_to : (limit : ℕ) {m n : ℕ} (e : m ≡ n) (p : m ≤ limit) (q : n ≤ limit) → PathP (λ i. e i ≤ limit) p q
up_to limit e p q = is_prop→PathP (λ i. e i ≤ limit) (λ i. hlevel props) p q

from : (least : ℕ) {m n : ℕ} (e : m ≡ n) (p : least ≤ m) (q : least ≤ n) → PathP (λ i. least ≤ e i) p q
from least e p q = is_prop→PathP (λ i. least ≤ e i) (λ i. hlevel props) p q

-- ---- the board itself

one_minor : (a b : Bcd) → a.byte ≡ b.byte → a ≡ b
one_minor a b e = λ i. record {
  byte = e i;
  tens = is_prop→PathP (λ j. e j / 16 < 10) (λ j. hlevel props) a.tens b.tens i;
  ones = is_prop→PathP (λ j. e j % 16 < 10) (λ j. hlevel props) a.ones b.ones i;
}

one_manufacturer : (a b : ManufacturerId) → a.number ≡ b.number → a ≡ b
one_manufacturer a b e = λ i. record { number = e i; three_bytes = under (2 ^ 24) e a.three_bytes b.three_bytes i }

one_device : (tree : Members) (a b : Device) → HoldsDevice tree a → HoldsDevice tree b → a ≡ b
one_device tree a b p q =
    let id = one_number field.Id tree a.id b.id p.id q.id in
    let revision = one_number field.Revision tree a.revision b.revision p.revision q.revision in
    let major = one_number field.Major tree a.major b.major p.major q.major in
    let minor = one_minor a.minor b.minor (one_number field.Minor tree a.minor.byte b.minor.byte p.minor q.minor) in
    let support = one_number field.Support tree a.support b.support p.support q.support in
    let manufacturer = one_manufacturer a.manufacturer b.manufacturer (one_number field.Manufacturer tree a.manufacturer.number b.manufacturer.number p.manufacturer q.manufacturer) in
    let product = one_number field.Product tree a.product b.product p.product q.product in
    λ i. record { id = id i; revision = revision i; major = major i; minor = minor i; support = support i; manufacturer = manufacturer i; product = product i }

one_log : (a b : LogCapacity) → a.records ≡ b.records → a ≡ b
one_log a b e = λ i. record { records = e i; least = from least_log_records e a.least b.least i; most = up_to most_log_records e a.most b.most i }

one_enables : (a b : GlobalEnables) → a.byte ≡ b.byte → a ≡ b
one_enables a b e = λ i. record { byte = e i; valid = is_prop→PathP (λ j. AreGlobalEnables (e j ∷ [])) (λ j. AreGlobalEnables-prop (e j ∷ [])) a.valid b.valid i }

one_policy : (a b : PowerPolicy) → a.number ≡ b.number → a ≡ b
one_policy a b e = λ i. record { number = e i; valid = is_prop→PathP (λ j. IsPowerPolicy (e j ∷ [])) (λ j. IsPowerPolicy-prop (e j ∷ [])) a.valid b.valid i }

one_watchdog : (a b : Watchdog) → settings a ≡ settings b → a ≡ b
one_watchdog a b e =
    let timer_use : a.timer_use ≡ b.timer_use = cc e in
    let actions : a.actions ≡ b.actions = cc e in
    let pre_timeout : a.pre_timeout ≡ b.pre_timeout = cc e in
    let initial : a.initial ≡ b.initial = cc e in
    λ i. record {
      timer_use = timer_use i;
      actions = actions i;
      pre_timeout = pre_timeout i;
      initial = initial i;
      valid = is_prop→PathP (λ j. IsWatchdog (watchdog_value (timer_use j) (actions j) (pre_timeout j) (initial j)))
          (λ j. IsWatchdog-prop (watchdog_value (timer_use j) (actions j) (pre_timeout j) (initial j))) a.valid b.valid i;
    }

one_boot : (tree : Members) (a b : BootOptions) → HoldsBoot tree a → HoldsBoot tree b → a ≡ b
one_boot tree a b p q =
    let clearing = one_number field.Boot3 tree a.valid_bit_clearing b.valid_bit_clearing p.clearing q.clearing in
    let acknowledge = one_number field.Boot4 tree a.info_acknowledge b.info_acknowledge p.acknowledge q.acknowledge in
    let flags = same_flags a.flags b.flags (one_numbers field.Boot5 tree (flag_bytes a.flags) (flag_bytes b.flags) p.flags q.flags) in
    λ i. record {
      valid_bit_clearing = clearing i;
      info_acknowledge = acknowledge i;
      flags = flags i;
      five_bits = under 32 clearing a.five_bits b.five_bits i;
      byte = under 256 acknowledge a.byte b.byte i;
    }

-- ---- sensors

one_masks : (a b : ThresholdMasks) → a.readable ≡ b.readable → a.settable ≡ b.settable → a ≡ b
one_masks a b p q = λ i. record {
  readable = p i;
  settable = q i;
  readable_six = under 64 p a.readable_six b.readable_six i;
  settable_six = under 64 q a.settable_six b.settable_six i;
}

one_thresholds : (a b : Thresholds) → a.masks ≡ b.masks → a.values ≡ b.values → a ≡ b
one_thresholds a b p q = λ i. record {
  masks = p i;
  values = q i;
  valid = is_prop→PathP (λ j. IsThresholds (p j) (q j)) (λ j. IsThresholds-prop (p j) (q j)) a.valid b.valid i;
}

messages_in : (messages scanning : Bool) → (flags_byte messages scanning / 128 == 1) ≡ messages
messages_in true true = refl
messages_in true false = refl
messages_in false true = refl
messages_in false false = refl

scanning_in : (messages scanning : Bool) → (flags_byte messages scanning % 128 == 64) ≡ scanning
scanning_in true true = refl
scanning_in true false = refl
scanning_in false true = refl
scanning_in false false = refl

one_events : (tree : Members) (a b : EventEnable) → HoldsEvents tree a → HoldsEvents tree b → a ≡ b
one_events tree a b p q =
    let supported = one_number field.Supported tree a.supported b.supported p.supported q.supported in
    let flags = one_number field.Flags tree (flags_byte a.messages a.scanning) (flags_byte b.messages b.scanning) p.flags q.flags in
    let messages : a.messages ≡ b.messages = sym (messages_in a.messages a.scanning) ∙ ap (λ n. n / 128 == 1) flags ∙ messages_in b.messages b.scanning in
    let scanning : a.scanning ≡ b.scanning = sym (scanning_in a.messages a.scanning) ∙ ap (λ n. n % 128 == 64) flags ∙ scanning_in b.messages b.scanning in
    let assertions = one_number field.Assert tree a.enabled.assertions b.enabled.assertions p.assertions q.assertions in
    let deassertions = one_number field.Deassert tree a.enabled.deassertions b.enabled.deassertions p.deassertions q.deassertions in
    let enabled : a.enabled ≡ b.enabled = λ i. record { assertions = assertions i; deassertions = deassertions i } in
    λ i. record {
      supported = supported i;
      messages = messages i;
      scanning = scanning i;
      enabled = enabled i;
      twelve = under 4096 supported a.twelve b.twelve i;
      valid = is_prop→PathP (λ j. IsEventEnable (supported j) (event_value (messages j) (scanning j) (enabled j)))
          (λ j. IsEventEnable-prop (supported j) (event_value (messages j) (scanning j) (enabled j))) a.valid b.valid i;
    }

one_sensor : (tree : Members) (a b : Sensor) → HoldsSensor tree a → HoldsSensor tree b → a ≡ b
one_sensor tree a b p q =
    let number = one_number field.Number tree a.number b.number p.numbered q.numbered in
    let sensor_type = one_number field.Type tree a.sensor_type b.sensor_type p.measures q.measures in
    let readable = one_number field.Readable tree a.thresholds.masks.readable b.thresholds.masks.readable p.readable q.readable in
    let settable = one_number field.Settable tree a.thresholds.masks.settable b.thresholds.masks.settable p.settable q.settable in
    let values = one_numbers field.Thresholds tree a.thresholds.values b.thresholds.values p.values q.values in
    let thresholds = one_thresholds a.thresholds b.thresholds (one_masks a.thresholds.masks b.thresholds.masks readable settable) values in
    let events = one_events tree a.events b.events p.events q.events in
    λ i. record {
      number = number i;
      sensor_type = sensor_type i;
      thresholds = thresholds i;
      hysteresis = let pair = one_pair field.Hysteresis tree p.hysteresis q.hysteresis in record { positive = pair.0 i; negative = pair.1 i };
      events = events i;
      numbered = under 255 number a.numbered b.numbered i;
    }

-- ---- state effecters

one_enabled : (a b : Bool) → operational a ≡ operational b → a ≡ b
one_enabled true true e = refl
one_enabled true false e = cc e
one_enabled false true e = cc e
one_enabled false false e = refl

one_field : (a b : StateField) → a.allowed ≡ b.allowed → a.current ≡ b.current → a ≡ b
one_field a b p q = λ i. record {
  allowed = p i;
  current = q i;
  valid = is_prop→PathP (λ j. IsTrue (allows (p j) (q j))) (λ j. hlevel props) a.valid b.valid i;
}

one_fields : (ds es : List Data) (xs ys : List StateField) → AllZip IsFieldIn ds xs → AllZip IsPresentIn es xs → AllZip IsFieldIn ds ys → AllZip IsPresentIn es ys → xs ≡ ys
one_fields [] es [] [] p q r s = refl
one_fields [] es (x ∷ xs) ys p q r s = absurd p
one_fields [] es [] (y ∷ ys) p q r s = absurd r
one_fields (d ∷ ds) es [] ys p q r s = absurd p
one_fields (d ∷ ds) es (x ∷ xs) [] p q r s = absurd r
one_fields (d ∷ ds) [] (x ∷ xs) (y ∷ ys) p q r s = absurd q
one_fields (d ∷ ds) (e ∷ es) (x ∷ xs) (y ∷ ys) p q r s =
    let head = one_field x y (one_list one_natural (or_none (members d)) x.allowed y.allowed p.0 r.0) (one_natural e x.current y.current q.0 s.0) in
    let rest = one_fields ds es xs ys p.1 q.1 r.1 s.1 in
    λ i. head i ∷ rest i

one_state : (tree : Members) (a b : StateEffecter) → HoldsState tree a → HoldsState tree b → a ≡ b
one_state tree a b p q =
    let id = one_number field.Id tree a.id b.id p.numbered q.numbered in
    let enabled = one_enabled a.enabled b.enabled (one_number field.Operational tree (operational a.enabled) (operational b.enabled) p.state q.state) in
    let fields = one_fields (members_in field.States tree) (members_in field.Current tree) a.fields b.fields p.fields p.current q.fields q.current in
    λ i. record {
      id = id i;
      enabled = enabled i;
      fields = fields i;
      some = from 1 (ap length fields) a.some b.some i;
      few = up_to 8 (ap length fields) a.few b.few i;
    }

-- ---- numeric effecters

one_size : (a b : NumericSize) → code_of a ≡ code_of b → a ≡ b
one_size a b e = same_Some a b (sym (size_back a) ∙ ap size_at e ∙ size_back b)

one_sized : (named : Field) (tree : Members) (s t : NumericSize) (a b : ℕ) → s ≡ t → HasSized s named tree a → HasSized t named tree b → a ≡ b
one_sized named tree s t a b e p q = one_found (sized_in t named tree) a b (subst (λ (size : NumericSize). HasSized size named tree a) e p) q

one_range : (tree : Members) (a b : NumericRange) → HoldsRange tree a → HoldsRange tree b → a ≡ b
one_range tree a b p q =
    let size = one_size a.size b.size (one_number field.Size tree (code_of a.size) (code_of b.size) p.size q.size) in
    let lower = one_sized field.Lower tree a.size b.size a.lower b.lower size p.lower q.lower in
    let upper = one_sized field.Upper tree a.size b.size a.upper b.upper size p.upper q.upper in
    λ i. record {
      size = size i;
      lower = lower i;
      upper = upper i;
      lower_fits = is_prop→PathP (λ j. lower j < numbers_of (size j)) (λ j. hlevel props) a.lower_fits b.lower_fits i;
      upper_fits = is_prop→PathP (λ j. upper j < numbers_of (size j)) (λ j. hlevel props) a.upper_fits b.upper_fits i;
    }

one_numeric : (tree : Members) (a b : NumericEffecter) → HoldsNumeric tree a → HoldsNumeric tree b → a ≡ b
one_numeric tree a b p q =
    let id = one_number field.Id tree a.id b.id p.numbered q.numbered in
    let enabled = one_enabled a.enabled b.enabled (one_number field.Operational tree (operational a.enabled) (operational b.enabled) p.state q.state) in
    let range = one_range tree a.range b.range p.range q.range in
    let current = one_sized field.Current tree a.range.size b.range.size a.current b.current (ap (λ (r : NumericRange). r.size) range) p.current q.current in
    λ i. record {
      id = id i;
      enabled = enabled i;
      range = range i;
      current = current i;
      current_fits = is_prop→PathP (λ j. current j < numbers_of ((range j).size)) (λ j. hlevel props) a.current_fits b.current_fits i;
      valid = is_prop→PathP (λ j. IsNumeric (range j) (bytes_of ((range j).size) (current j))) (λ j. IsNumeric-prop (range j) (bytes_of ((range j).size) (current j))) a.valid b.valid i;
    }

-- ---- users and channels

module _ {X : Type 0} (Holds : Data → X → Type 0) (number_of : X → ℕ) (one : (d : Data) (a b : X) → Holds d a → Holds d b → number_of a ≡ number_of b → a ≡ b) where
  -- members of an array hold one list of items that are numbered in order
  one_in_order : (n : ℕ) (ds : List Data) (xs ys : List X) → AllZip Holds ds xs → AllZip Holds ds ys → AreNumbered number_of n xs → AreNumbered number_of n ys → xs ≡ ys
  one_in_order n [] [] [] p q r s = refl
  one_in_order n [] (x ∷ xs) ys p q r s = absurd p
  one_in_order n [] [] (y ∷ ys) p q r s = absurd q
  one_in_order n (d ∷ ds) [] ys p q r s = absurd p
  one_in_order n (d ∷ ds) (x ∷ xs) [] p q r s = absurd q
  one_in_order n (d ∷ ds) (x ∷ xs) (y ∷ ys) p q r s =
      let head = one d x y p.0 q.0 (r.0 ∙ sym s.0) in
      let rest = one_in_order (n + 1) ds xs ys p.1 q.1 r.1 s.1 in
      λ i. head i ∷ rest i

one_user : (d : Data) (a b : User) → IsNameIn d a → IsNameIn d b → a.number.number ≡ b.number.number → a ≡ b
one_user d a b p q e =
    let number = same_field a.number b.number e in
    let name = one_found (name_of d) a.name b.name p q in
    λ i. record { number = number i; name = name i; sized = is_prop→PathP (λ j. length (name j) ≡ user_name_size) (λ j. hlevel props) a.sized b.sized i }

one_access : (a b : ChannelAccess) → a.access ≡ b.access → a.limit ≡ b.limit → a ≡ b
one_access a b p q = λ i. record {
  access = p i;
  limit = q i;
  valid = is_prop→PathP (λ j. IsChannelAccess (p j ∷ q j ∷ [])) (λ j. IsChannelAccess-prop (p j ∷ q j ∷ [])) a.valid b.valid i;
}

one_channel : (tree : Members) (a b : Channel) → HoldsChannel tree a → HoldsChannel tree b → a ≡ b
one_channel tree a b p q =
    let number = same_field a.number b.number (one_number field.Number tree a.number.number b.number.number p.numbered q.numbered) in
    let access = one_pair field.Access tree p.access q.access in
    let limit = one_pair field.Limit tree p.limit q.limit in
    let non_volatile = one_access a.non_volatile b.non_volatile access.0 limit.0 in
    let volatile = one_access a.volatile b.volatile access.1 limit.1 in
    λ i. record { number = number i; non_volatile = non_volatile i; volatile = volatile i }

one_sessionless : (d : Data) (a b : ChannelNumber) → IsNumberIn d a → IsNumberIn d b → a ≡ b
one_sessionless d a b p q = same_field a b (one_number field.Number (table_of d) a.number b.number p q)

one_right : (a b : UserAccess) → parts_of a ≡ parts_of b → a ≡ b
one_right a b e =
    let channel = same_field a.on.channel b.on.channel (ap (λ (s : ℕ × (ℕ × ℕ)). s.0) e) in
    let user = same_field a.on.user b.on.user (ap (λ (s : ℕ × (ℕ × ℕ)). s.1.0) e) in
    let byte : a.byte ≡ b.byte = ap (λ (s : ℕ × (ℕ × ℕ)). s.1.1) e in
    λ i. record {
      on = record { channel = channel i; user = user i };
      byte = byte i;
      valid = is_prop→PathP (λ j. IsUserAccess (byte j ∷ [])) (λ j. IsUserAccess-prop (byte j ∷ [])) a.valid b.valid i;
    }

one_rights : (xs ys : List UserAccess) → map parts_of xs ≡ map parts_of ys → xs ≡ ys
one_rights [] [] e = refl
one_rights [] (y ∷ ys) e = cc e
one_rights (x ∷ xs) [] e = cc e
one_rights (x ∷ xs) (y ∷ ys) e =
    let first_parts : parts_of x ≡ parts_of y = cc e in
    let other_parts : map parts_of xs ≡ map parts_of ys = cc e in
    let head = one_right x y first_parts in
    let rest = one_rights xs ys other_parts in
    λ i. head i ∷ rest i

-- ---- BIOS attributes

one_words : (d : Data) (a b : List ℕ) → IsTextIn d a → IsTextIn d b → a ≡ b
one_words d a b p q = one_found (text_of d) a b p q

one_enumeration : (tree : Members) (a b : EnumerationAttribute) → HoldsEnumeration tree a → HoldsEnumeration tree b → a ≡ b
one_enumeration tree a b p q =
    let values = one_list one_words (members_in field.Values tree) a.values b.values p.values q.values in
    let default = one_list one_natural (members_in field.Default tree) a.default b.default p.default q.default in
    let current = one_list one_natural (members_in field.Current tree) a.current b.current p.current q.current in
    λ i. record {
      values = values i;
      default = default i;
      current = current i;
      few = up_to most_indexes (ap length values) a.few b.few i;
      default_valid = is_prop→PathP (λ j. AllowsIndexes (length (values j)) (default j)) (λ j. AllowsIndexes-prop (length (values j)) (default j)) a.default_valid b.default_valid i;
      current_valid = is_prop→PathP (λ j. AllowsIndexes (length (values j)) (current j)) (λ j. AllowsIndexes-prop (length (values j)) (current j)) a.current_valid b.current_valid i;
    }

one_string : (tree : Members) (a b : StringAttribute) → HoldsString tree a → HoldsString tree b → a ≡ b
one_string tree a b p q =
    let string_type = one_number field.StringType tree a.string_type b.string_type p.string_type q.string_type in
    let least = one_number field.Least tree a.lengths.least b.lengths.least p.least q.least in
    let most = one_number field.Most tree a.lengths.most b.lengths.most p.most q.most in
    let lengths : a.lengths ≡ b.lengths = λ i. record { least = least i; most = most i; few = up_to most_text most a.lengths.few b.lengths.few i } in
    let default = one_found (string_in field.Default tree) a.default b.default p.default q.default in
    let current = one_found (string_in field.Current tree) a.current b.current p.current q.current in
    λ i. record {
      string_type = string_type i;
      lengths = lengths i;
      default = default i;
      current = current i;
      default_valid = is_prop→PathP (λ j. AllowsText (lengths j) (default j)) (λ j. AllowsText-prop (lengths j) (default j)) a.default_valid b.default_valid i;
      current_valid = is_prop→PathP (λ j. AllowsText (lengths j) (current j)) (λ j. AllowsText-prop (lengths j) (current j)) a.current_valid b.current_valid i;
    }

one_integer : (tree : Members) (a b : IntegerAttribute) → HoldsInteger tree a → HoldsInteger tree b → a ≡ b
one_integer tree a b p q =
    let lower = one_number field.Lower tree a.steps.lower b.steps.lower p.lower q.lower in
    let upper = one_number field.Upper tree a.steps.upper b.steps.upper p.upper q.upper in
    let increment = one_number field.Increment tree a.steps.increment b.steps.increment p.increment q.increment in
    let steps : a.steps ≡ b.steps = λ i. record { lower = lower i; upper = upper i; increment = increment i } in
    let default = one_number field.Default tree a.default b.default p.default q.default in
    let current = one_number field.Current tree a.current b.current p.current q.current in
    λ i. record {
      steps = steps i;
      default = default i;
      current = current i;
      current_fits = under (2 ^ 64) current a.current_fits b.current_fits i;
      default_valid = is_prop→PathP (λ j. AllowsNumber (steps j) (default j)) (λ j. AllowsNumber-prop (steps j) (default j)) a.default_valid b.default_valid i;
      current_valid = is_prop→PathP (λ j. AllowsNumber (steps j) (current j)) (λ j. AllowsNumber-prop (steps j) (current j)) a.current_valid b.current_valid i;
    }

kind_word : (v w : List ℕ) (tree : Members) → has_text field.Kind v tree ≡ true → has_text field.Kind w tree ≡ true → v ≡ w
kind_word v w tree p q = one_word field.Kind v w tree p q

one_kind : (tree : Members) (a b : AttributeKind) → HoldsKind tree a → HoldsKind tree b → a ≡ b
one_kind tree (kind.Enumeration a) (kind.Enumeration b) p q = ap kind.Enumeration (one_enumeration tree a b p.1 q.1)
one_kind tree (kind.Enumeration a) (kind.Text b) p q = let same = kind_word (codes "enumeration") (codes "string") tree p.0 q.0 in cc same
one_kind tree (kind.Enumeration a) (kind.Integer b) p q = let same = kind_word (codes "enumeration") (codes "integer") tree p.0 q.0 in cc same
one_kind tree (kind.Text a) (kind.Enumeration b) p q = let same = kind_word (codes "string") (codes "enumeration") tree p.0 q.0 in cc same
one_kind tree (kind.Text a) (kind.Text b) p q = ap kind.Text (one_string tree a b p.1 q.1)
one_kind tree (kind.Text a) (kind.Integer b) p q = let same = kind_word (codes "string") (codes "integer") tree p.0 q.0 in cc same
one_kind tree (kind.Integer a) (kind.Enumeration b) p q = let same = kind_word (codes "integer") (codes "enumeration") tree p.0 q.0 in cc same
one_kind tree (kind.Integer a) (kind.Text b) p q = let same = kind_word (codes "integer") (codes "string") tree p.0 q.0 in cc same
one_kind tree (kind.Integer a) (kind.Integer b) p q = ap kind.Integer (one_integer tree a b p.1 q.1)

one_attribute : (tree : Members) (a b : Attribute) → HoldsAttribute tree a → HoldsAttribute tree b → a.handle ≡ b.handle → a ≡ b
one_attribute tree a b p q handle =
    let name = one_found (text_in field.NameText tree) a.name b.name p.name q.name in
    let read_only = one_found (flag_in field.ReadOnly tree) a.read_only b.read_only p.read_only q.read_only in
    let kind = one_kind tree a.kind b.kind p.kind q.kind in
    λ i. record { handle = handle i; name = name i; read_only = read_only i; kind = kind i }

-- ---- boards

differ : {X : Type 0} (name : X → ℕ) {xs ys : List X} (e : xs ≡ ys) (p : NamesDiffer name xs) (q : NamesDiffer name ys) → PathP (λ i. NamesDiffer name (e i)) p q
differ name e p q = is_prop→PathP (λ i. NamesDiffer name (e i)) (λ i. hlevel props) p q

-- a tree holds one board
one_held : (tree : Members) (a b : BoardFile) → HoldsBoard tree a → HoldsBoard tree b → a ≡ b
one_held tree a b p q =
    let tid = one_number field.Tid tree a.tid b.tid p.terminus q.terminus in
    let clock = one_number field.Clock tree a.clock b.clock p.clock q.clock in
    let log = one_log a.log b.log (one_number field.Log tree a.log.records b.log.records p.log q.log) in
    let enables = one_enables a.enables b.enables (one_number field.Enables tree a.enables.byte b.enables.byte p.enables q.enables) in
    let policy = one_policy a.policy b.policy (one_number field.Policy tree a.policy.number b.policy.number p.policy q.policy) in
    let watchdog = one_watchdog a.watchdog b.watchdog (one_numbers field.Watchdog tree (settings a.watchdog) (settings b.watchdog) p.watchdog q.watchdog) in
    let boot = one_boot tree a.boot b.boot p.boot q.boot in
    let device = one_device (table_in field.Device tree) a.device b.device p.device q.device in
    let records = one_list (λ d. one_found (record_in d)) (members_in field.Sdr tree) a.sdr.items b.sdr.items p.sdr q.sdr in
    let sdr : a.sdr ≡ b.sdr = λ i. record { items = records i; differ = differ sdr_id records a.sdr.differ b.sdr.differ i; few = up_to 64 (ap length records) a.sdr.few b.sdr.few i } in
    let sensor_items = one_list (λ d. one_sensor (table_of d)) (members_in field.Sensor tree) a.sensors.items b.sensors.items p.sensors q.sensors in
    let sensors : a.sensors ≡ b.sensors =
    λ i. record { items = sensor_items i; differ = differ (λ (s : Sensor). s.number) sensor_items a.sensors.differ b.sensors.differ i; few = up_to 32 (ap length sensor_items) a.sensors.few b.sensors.few i } in
    let state_items = one_list (λ d. one_state (table_of d)) (members_in field.State tree) a.state_effecters.items b.state_effecters.items p.states q.states in
    let states : a.state_effecters ≡ b.state_effecters =
    λ i. record { items = state_items i; differ = differ (λ (s : StateEffecter). s.id) state_items a.state_effecters.differ b.state_effecters.differ i; few = up_to 32 (ap length state_items) a.state_effecters.few b.state_effecters.few i } in
    let numeric_items = one_list (λ d. one_numeric (table_of d)) (members_in field.Numeric tree) a.numeric_effecters.items b.numeric_effecters.items p.effecters q.effecters in
    let effecters : a.numeric_effecters ≡ b.numeric_effecters =
    λ i. record { items = numeric_items i; differ = differ (λ (s : NumericEffecter). s.id) numeric_items a.numeric_effecters.differ b.numeric_effecters.differ i; few = up_to 32 (ap length numeric_items) a.numeric_effecters.few b.numeric_effecters.few i } in
    let user_items = one_in_order IsNameIn (λ (u : User). u.number.number) one_user 1 (members_in field.Users tree) a.users.items b.users.items p.users q.users a.users.valid.numbered b.users.valid.numbered in
    let users : a.users ≡ b.users =
    λ i. record { items = user_items i; valid = is_prop→PathP (λ j. AreUsers (user_items j)) (λ j. AreUsers-prop (user_items j)) a.users.valid b.users.valid i } in
    let channel_items = one_list (λ d. one_channel (table_of d)) (with_sessions (members_in field.Channel tree)) a.channels.items b.channels.items p.channels.with q.channels.with in
    let channels : a.channels ≡ b.channels =
    λ i. record { items = channel_items i; differ = differ (λ (c : Channel). c.number.number) channel_items a.channels.differ b.channels.differ i; few = up_to 8 (ap length channel_items) a.channels.few b.channels.few i } in
    let sessionless_items = one_list one_sessionless (without_sessions (members_in field.Channel tree)) a.sessionless.items b.sessionless.items p.channels.without q.channels.without in
    let sessionless : a.sessionless ≡ b.sessionless =
    λ i. record { items = sessionless_items i; differ = differ (λ (c : ChannelNumber). c.number) sessionless_items a.sessionless.differ b.sessionless.differ i; few = up_to 8 (ap length sessionless_items) a.sessionless.few b.sessionless.few i } in
    let access_items = one_rights a.user_accesses.items b.user_accesses.items (p.channels.rights ∙ sym q.channels.rights) in
    let accesses : a.user_accesses ≡ b.user_accesses =
    λ i. record { items = access_items i; differ = differ (λ (u : UserAccess). number_on u.on) access_items a.user_accesses.differ b.user_accesses.differ i; few = up_to 128 (ap length access_items) a.user_accesses.few b.user_accesses.few i } in
    let attribute_items = one_in_order IsAttributeIn (λ (t : Attribute). t.handle) (λ d. one_attribute (table_of d)) 0 (members_in field.Attribute tree) a.attributes.items b.attributes.items p.attributes q.attributes a.attributes.placed b.attributes.placed in
    let attributes : a.attributes ≡ b.attributes =
    λ i. record { items = attribute_items i; placed = is_prop→PathP (λ j. AreInPlace (attribute_items j)) (λ j. AreInPlace-prop (attribute_items j)) a.attributes.placed b.attributes.placed i; few = up_to most_attributes (ap length attribute_items) a.attributes.few b.attributes.few i } in
    let lan_items = one_list (λ d. one_lan (table_of d)) (lans_in tree) a.lans.items b.lans.items p.lans q.lans in
    let lans : a.lans ≡ b.lans =
    λ i. record { items = lan_items i; differ = differ channel_of lan_items a.lans.differ b.lans.differ i; few = up_to 8 (ap length lan_items) a.lans.few b.lans.few i } in
    let numbers : channel_numbers a.channels.items a.sessionless.items ≡ channel_numbers b.channels.items b.sessionless.items =
    λ i. channel_numbers (channel_items i) (sessionless_items i) in
    λ i. record {
      tid = tid i;
      device = device i;
      sensors = sensors i;
      policy = policy i;
      watchdog = watchdog i;
      clock = clock i;
      log = log i;
      enables = enables i;
      sdr = sdr i;
      boot = boot i;
      numeric_effecters = effecters i;
      state_effecters = states i;
      users = users i;
      channels = channels i;
      sessionless = sessionless i;
      user_accesses = accesses i;
      attributes = attributes i;
      lans = lans i;
      apart = differ (λ (n : ℕ). n) numbers a.apart b.apart i;
      few = up_to 8 (ap length numbers) a.few b.few i;
      known = is_prop→PathP (λ j. IsTrue (list_all is_channel (numbers j))) (λ j. hlevel props) a.known b.known i;
      listed = is_prop→PathP (λ j. IsTrue (are_listed (numbers j) (lan_items j))) (λ j. hlevel props) a.listed b.listed i;
      each = is_prop→PathP (λ j. map on_numbers (access_items j) ≡ each_user_on (channel_items j) (user_items j)) (λ j. hlevel props) a.each b.each i;
    }

answered : (tree : Members) (a b : Result BoardFile FileFault) → MembersAnswer tree a → MembersAnswer tree b → a ≡ b
answered tree (Ok a) (Ok b) p q = ap Ok (one_held tree a b p.1 q.1)
answered tree (Ok a) (Err b) p q = let none : None ≡ Some b = sym (ap first p.0) ∙ q in cc none
answered tree (Err a) (Ok b) p q = let none : None ≡ Some a = sym (ap first q.0) ∙ p in cc none
answered tree (Err a) (Err b) p q = ap Err (one_found (first (board_faults tree)) a b p q)

read : (found : Option Members) (a b : Result BoardFile FileFault) → MatchOption found (a ≡ Err file.Text) (λ tree. MembersAnswer tree a) → MatchOption found (b ≡ Err file.Text) (λ tree. MembersAnswer tree b) → a ≡ b
read None a b p q = p ∙ sym q
read (Some tree) a b p q = answered tree a b p q

-- a text is read in one way
pub one_reading : (text : List ℕ) (a b : Result BoardFile FileFault) → ReadsText text a → ReadsText text b → a ≡ b
one_reading text a b p q = read (parse_document text) a b p q
