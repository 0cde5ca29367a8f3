-- Lines are printable ASCII.
use Rattle.std.proofs.Common.{ℕ, ◌-◌, ◌/◌, ◌%◌, ◌==◌, true, false, Option, Some, None, List, [], ◌∷◌, ◌++◌, codes, refl, if◌then◌else◌}
use Rattle.std.specs.Fmt.{decimal}
use Rattle.std.specs.Option.{option_map}
use Rattle.record_base.specs.declared.key.Key.{Key}
use Rattle.record_base.specs.declared.key.Key.TheVariants as key
use Rattle.record_base.specs.declared.boot_param.BootParameter.{BootParameter}
use Rattle.record_base.specs.declared.boot_param.BootParameter.TheVariants as parameter
use Rattle.record_base.specs.declared.channel.AccessStore.{AccessStore}
use Rattle.record_base.specs.declared.channel.AccessStore.TheVariants as store
use Rattle.record_base.specs.declared.attribute_value.AttributeValue.{AttributeValue}
use Rattle.record_base.specs.declared.attribute_value.AttributeValue.TheVariants as value
use Rattle.record_base.specs.AttributeValue.{value_in}
use Rattle.record_base.specs.Lan.{lan_selector}
use Rattle.record_words.specs.declared.boot_way.BootWay.{BootWay}
use Rattle.record_words.specs.declared.field.Label.{Label}
use Rattle.record_words.specs.declared.field.Label.TheVariants as label
use Rattle.record_words.specs.declared.in_words.InWords.{InWords}
use Rattle.record_words.specs.declared.in_words.InWords.TheVariants as in_words
use Rattle.record_words.specs.declared.numbers.SizedNumber.{SizedNumber}
use Rattle.record_words.specs.declared.parts.Part.{Part}
use Rattle.record_words.specs.declared.parts.Said.{Said}
use Rattle.record_words.specs.declared.parts.Said.TheVariants.{Is, Becomes, Again}
use Rattle.record_words.specs.declared.parts.Way.{Way}
use Rattle.record_words.specs.declared.parts.Way.TheVariants.{There, Back}
use Rattle.record_words.specs.declared.request.UndoInWords.{UndoInWords}
use Rattle.record_words.specs.declared.request.UndoInWords.TheVariants as undo
use Rattle.record_words.specs.declared.shown.Shown.{Shown}
use Rattle.record_words.specs.declared.shown.Shown.TheVariants.{Kept, Raw, Bits, Events, Number, Switch, Means, Name, Address, Masked, Boot, Bytes, Sized, Chosen}
use Rattle.record_words.specs.AttributeWords.{Typed, meant, attribute_words, change_words, read_words, same_value, value_words}
use Rattle.record_words.specs.BootWords.{device_of, way_words}
use Rattle.record_words.specs.Digits.{hex_of}
use Rattle.record_words.specs.FieldWords.{label_words}
use Rattle.record_words.specs.Meanings.{meaning_words}
use Rattle.record_words.specs.NameWords.{boot_name, record_words, store_words, subject_words}
use Rattle.record_words.specs.NumberWords.{is_negative, number_words, size_of, size_words, sized_words, span, width_of}
use Rattle.record_words.specs.OpWords.{words_of}
use Rattle.record_words.specs.PartWords.{front, line_words, more_words, part_words, said_words}
use Rattle.record_words.specs.Printable.{IsLine}
use Rattle.record_words.specs.Quotes.{trimmed}
use Rattle.record_words.specs.RequestWords.{undo_words_of}
use Rattle.record_words.specs.ShownWords.{address_of, bits_of, shown_words}
use Rattle.record_words.proofs.PrintableWords.{chosen, decimal_line, each_joined, hex_line, joined, meaning_line, quoted_line, spaced_line, term_line}

-- ---- what a field is

bits_line : (byte : ℕ) → IsLine (bits_of byte)
bits_line byte = joined (hex_of byte) (codes "h") (hex_line byte) refl

-- a byte in parentheses, behind these words
closed : (byte : ℕ) → IsLine (hex_of byte ++ codes "h)")
closed byte = joined (hex_of byte) (codes "h)") (hex_line byte) refl

address_line : (bytes : List ℕ) → IsLine (address_of bytes)
address_line (a ∷ b ∷ c ∷ d ∷ []) =
    joined (decimal a) _ (decimal_line a) (joined (decimal b) _ (decimal_line b) (joined (decimal c) _ (decimal_line c) (decimal_line d)))
address_line (a ∷ b ∷ c ∷ d ∷ e ∷ more) = refl
address_line (a ∷ b ∷ c ∷ []) = refl
address_line (a ∷ b ∷ []) = refl
address_line (a ∷ []) = refl
address_line [] = refl

way_line : (way : BootWay) → IsLine (way_words way)
way_line way =
    joined (meaning_words (device_of way.device)) _ (meaning_line (device_of way.device))
    (joined (if way.lasting then codes "each time" else codes "once") _ (chosen way.lasting _ _ refl refl)
    (joined (if way.efi then codes "EFI" else codes "BIOS") _ (chosen way.efi _ _ refl refl) (chosen way.valid [] (codes ", not valid") refl refl)))

sized_line : (it : SizedNumber) → IsLine (sized_words it)
sized_line it = joined (number_words it) (size_words it)
    (chosen (is_negative it) _ _ (decimal_line (span it.width - it.number)) (decimal_line it.number))
    (chosen (it.width == width_of it.code) _ _
    (joined (meaning_words (size_of it.code)) _ (meaning_line (size_of it.code)) refl)
    (joined (meaning_words (size_of it.code)) _ (meaning_line (size_of it.code))
    (joined (decimal it.code) _ (decimal_line it.code) (joined (decimal it.width) _ (decimal_line it.width) refl))))

shown_line : (it : Shown) → IsLine (shown_words it)
shown_line Kept = refl
shown_line (Raw byte) = joined (decimal byte) _ (decimal_line byte) (closed byte)
shown_line (Bits byte) = bits_line byte
shown_line (Events events) = joined (hex_of (events / 256)) (bits_of (events % 256)) (hex_line (events / 256)) (bits_line (events % 256))
shown_line (Number number) = decimal_line number
shown_line (Switch true) = refl
shown_line (Switch false) = refl
shown_line (Means what) = meaning_line what
shown_line (Name name) = quoted_line (trimmed name)
shown_line (Address bytes) = address_line bytes
shown_line (Masked it) = joined (hex_of it.bits) (codes "h of " ++ bits_of it.mask) (hex_line it.bits) (bits_line it.mask)
shown_line (Boot way) = way_line way
shown_line (Bytes bytes) = spaced_line bytes
shown_line (Sized number) = sized_line number
shown_line (Chosen it) = joined (decimal it.state) _ (decimal_line it.state) (closed it.choice)

-- ---- parts

label_line : (it : Label) → IsLine (label_words it)
label_line label.Whole = refl
label_line (label.Of term) = term_line term
label_line (label.Field number) = decimal_line number

front_line : (it : Label) → IsLine (front it)
front_line label.Whole = refl
front_line (label.Of term) = refl
front_line (label.Field number) = refl

said_line : (it : Said) → IsLine (said_words it)
said_line (Is new) = shown_line new
said_line (Becomes old new) = joined (shown_words old) (codes " -> " ++ shown_words new) (shown_line old) (shown_line new)
said_line (Again old) = shown_line old

part_line : (part : Part) → IsLine (part_words part)
part_line part = joined (label_words part.label) (said_words part.said) (label_line part.label) (said_line part.said)

-- ---- names

boot_line : (it : BootParameter) → IsLine (boot_name it)
boot_line parameter.ValidBitClearing = refl
boot_line parameter.InfoAcknowledge = refl
boot_line parameter.Flags = refl

store_line : (it : AccessStore) → IsLine (store_words it)
store_line store.NonVolatile = refl
store_line store.Volatile = refl
store_line store.Neither = refl

-- a number, and words behind it
numbered : (n : ℕ) (behind : List ℕ) → IsLine behind → IsLine (decimal n ++ behind)
numbered n behind line = joined (decimal n) behind (decimal_line n) line

pub record_line : (key : Key) → IsLine (record_words key)
record_line (key.Thresholds sensor) = numbered sensor (codes " thresholds") refl
record_line (key.Hysteresis sensor) = numbered sensor (codes " hysteresis") refl
record_line (key.EventEnable sensor) = numbered sensor (codes " event enable") refl
record_line key.PowerPolicy = refl
record_line key.Watchdog = refl
record_line key.GlobalEnables = refl
record_line (key.BootParam parameter) = boot_line parameter
record_line (key.NumericEffecter effecter) = decimal_line effecter
record_line (key.StateEffecter effecter) = decimal_line effecter
record_line (key.UserName user) = numbered user.number (codes " name") refl
record_line (key.UserAccess on) = numbered on.user.number _ (decimal_line on.channel.number)
record_line (key.ChannelAccess stored) = numbered stored.channel.number _ (joined (store_words stored.store) (codes " access") (store_line stored.store) refl)
record_line (key.BiosAttribute handle) = decimal_line handle
record_line (key.LanParam on) = numbered (lan_selector on.parameter) _ (decimal_line on.channel.number)

subject_line : (key : Key) → IsLine (subject_words key)
subject_line (key.Thresholds sensor) = decimal_line sensor
subject_line (key.Hysteresis sensor) = decimal_line sensor
subject_line (key.EventEnable sensor) = decimal_line sensor
subject_line key.PowerPolicy = refl
subject_line key.Watchdog = refl
subject_line key.GlobalEnables = refl
subject_line (key.BootParam parameter) = refl
subject_line (key.NumericEffecter effecter) = decimal_line effecter
subject_line (key.StateEffecter effecter) = decimal_line effecter
subject_line (key.UserName user) = decimal_line user.number
subject_line (key.UserAccess on) = numbered on.user.number _ (decimal_line on.channel.number)
subject_line (key.ChannelAccess stored) = numbered stored.channel.number _ (store_line stored.store)
subject_line (key.BiosAttribute handle) = decimal_line handle
subject_line (key.LanParam on) = decimal_line on.channel.number

-- ---- lines

fields_line : (key : Key) (parts : List Part) → IsLine (line_words key parts)
fields_line key [] = joined (record_words key) (codes ": no change") (record_line key) refl
fields_line key (first ∷ more) =
    joined (subject_words key) (front first.label ++ (part_words first ++ more_words more)) (subject_line key)
    (joined (front first.label) (part_words first ++ more_words more) (front_line first.label)
    (joined (part_words first) (more_words more) (part_line first) (each_joined (λ part. codes "; " ++ part_words part) part_line more)))

read_line : (type : ℕ) (bytes : List ℕ) (read : Option AttributeValue) → IsLine (read_words type bytes read)
read_line type bytes (Some (value.Number number)) = decimal_line number
read_line type bytes (Some (value.Text text)) = quoted_line text
read_line type bytes (Some (value.Indexes indexes)) = each_joined (λ byte. codes " " ++ decimal byte) decimal_line indexes
read_line type bytes None = numbered type _ (spaced_line bytes)

value_line : (it : Typed) → IsLine (value_words it.0 it.1)
value_line it = read_line it.0 it.1 (value_in it.0 it.1)

change_line : (old : Option Typed) (new : Typed) → IsLine (change_words old new)
change_line None new = value_line new
change_line (Some old) new = chosen (same_value old new) _ _ refl (joined (value_words old.0 old.1) (codes " -> " ++ value_words new.0 new.1) (value_line old) (value_line new))

attribute_line : (attribute : ℕ) (way : Way) (old : Option Typed) (new : Typed) → IsLine (attribute_words attribute way old new)
attribute_line attribute There old new = numbered attribute (change_words old new) (change_line old new)
attribute_line attribute Back old new = numbered attribute (codes " <- " ++ value_words new.0 new.1) (value_line new)

pub in_words_line : (it : InWords) → IsLine (words_of it)
in_words_line (in_words.Fields line) = fields_line line.record line.parts
in_words_line (in_words.Attribute line) = attribute_line line.attribute line.way (option_map meant line.old) (meant line.new)

pub undo_line : (it : UndoInWords) → IsLine (undo_words_of it)
undo_line (undo.Op line) = in_words_line line
undo_line (undo.Password user) = numbered user (codes " password: (not shown)") refl
undo_line (undo.OtherIpmi net_fn command) = numbered net_fn (codes ", command " ++ (decimal command ++ codes ": of no record")) (numbered command (codes ": of no record") refl)
undo_line (undo.OtherPldm kind command) = numbered kind (codes ", command " ++ (decimal command ++ codes ": of no record")) (numbered command (codes ": of no record") refl)
