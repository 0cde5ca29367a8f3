-- Operations and changed records in words: a line for each kind.
use Rattle.std.specs.Prelude.{ℕ, Option, Some, None, List, []}
use Rattle.record_base.specs.declared.key.Key.{Key}
use Rattle.record_base.specs.declared.key.Key.TheVariants as key
use Rattle.record_base.specs.declared.op.Op.{Op}
use Rattle.record_base.specs.declared.op.Op.TheVariants as op
use Rattle.record_base.specs.declared.bios_attribute.SetBiosAttribute.{SetBiosAttribute}
use Rattle.record_base.specs.declared.event_enable.EventChange.{EventChange}
use Rattle.record_base.specs.declared.event_enable.EventChange.TheVariants.{Enable, Disable}
use Rattle.record_base.specs.declared.event_enable.SetEventEnable.{SetEventEnable}
use Rattle.record_kinds.specs.Limits.{key_of}
use Rattle.record_words.specs.declared.field.Field.{Field}
use Rattle.record_words.specs.declared.in_words.InWords.{InWords}
use Rattle.record_words.specs.declared.in_words.InWords.TheVariants as in_words
use Rattle.record_words.specs.declared.parts.Way.{Way}
use Rattle.record_words.specs.declared.parts.Way.TheVariants.{There}
pub use Rattle.record_words.specs.AttributeWords.{Typed, given, meant, attribute_words, line_of}
use Rattle.record_words.specs.PartWords.{parts_of, line_words}
use Rattle.record_words.specs.SensorFields.{thresholds, hysteresis, event_enable}
use Rattle.record_words.specs.ControllerFields.{power_policy, watchdog, global_enables, boot_param}
use Rattle.record_words.specs.EffecterFields.{numeric, states}
use Rattle.record_words.specs.UserFields.{user_name, user_access, channel_access, lan_param}
use Rattle.record_words.specs.ValueFields.{value_fields}

-- what is said in a line
abbrev pub words_of : InWords → List ℕ
words_of (in_words.Fields line) = line_words line.record line.parts
words_of (in_words.Attribute line) = line_of line

-- ---- operations

-- the fields of an operation: none of one on an attribute
abbrev pub fields_of : Op → List Field
fields_of (op.Thresholds set) = thresholds set
fields_of (op.Hysteresis set) = hysteresis set
fields_of (op.EventEnable set) = event_enable set
fields_of (op.PowerPolicy set) = power_policy set
fields_of (op.Watchdog set) = watchdog set
fields_of (op.GlobalEnables set) = global_enables set
fields_of (op.BootParam set) = boot_param set
fields_of (op.NumericEffecter set) = numeric set
fields_of (op.StateEffecter set) = states set.changes
fields_of (op.UserName set) = user_name set
fields_of (op.UserAccess set) = user_access set
fields_of (op.ChannelAccess set) = channel_access set.change
fields_of (op.BiosAttribute set) = []
fields_of (op.LanParam set) = lan_param set.change

-- the change of enabled events that another undoes, and where that undoes none, the first
abbrev pub undone_by : (change back : EventChange) → EventChange
undone_by change (Enable less) = Disable less
undone_by change (Disable more) = Enable more
undone_by change _ = change

-- with this change
abbrev pub with_change : SetEventEnable → EventChange → SetEventEnable
with_change set change = record { sensor = set.sensor; messages = set.messages; scanning = set.scanning; change = change }

-- the fields of an operation that another undoes, where that is known: of events those alone that weren't so before
abbrev pub fields_over : Op → Option Op → List Field
fields_over (op.EventEnable set) (Some (op.EventEnable back)) = event_enable (with_change set (undone_by set.change back.change))
fields_over any before = fields_of any

-- the fields that a record had, where they are known
abbrev pub olds : Option Op → List Field
olds None = []
olds (Some before) = fields_of before

-- the value that an attribute had, where it is known
abbrev pub old_value : Option Op → Option Typed
old_value (Some (op.BiosAttribute set)) = Some (given set)
old_value _ = None

abbrev pub attribute_op : Way → SetBiosAttribute → Option Op → List ℕ
attribute_op way set before = attribute_words set.attribute way (old_value before) (given set)

-- an operation, over what its record was where that is known
abbrev pub op_words : Way → Op → Option Op → List ℕ
op_words way (op.BiosAttribute set) before = attribute_op way set before
op_words way any before = line_words (key_of any) (parts_of way (olds before) (fields_over any before))

-- ---- changed records

-- a record whose value changed, with the type of the attribute, where it is the record of one
abbrev pub change_words : Key → (type : ℕ) → (old new : List ℕ) → List ℕ
change_words (key.BiosAttribute attribute) type old new = attribute_words attribute There (Some (type, old)) (type, new)
change_words key type old new = line_words key (parts_of There (value_fields key old) (value_fields key new))
