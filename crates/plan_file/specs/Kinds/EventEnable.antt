-- What a step that sets which events are enabled holds.
pub mod Laws
pub mod Kind
use Rattle.std.specs.Prelude.{◌≡◌, ℕ, true, List, codes}
use Rattle.toml.specs.Data.{Members}
use Rattle.record_base.specs.Masks.{has}
use Rattle.record_base.specs.declared.op.Op.{Op}
use Rattle.record_base.specs.declared.op.Op.TheVariants as op
use Rattle.record_base.specs.declared.event_enable.SetEventEnable.{SetEventEnable}
use Rattle.record_base.specs.declared.event_enable.EventChange.{EventChange}
use Rattle.record_base.specs.declared.event_enable.EventChange.TheVariants as change
use Rattle.record_base.specs.declared.event_enable.EventMasks.{EventMasks}
use Rattle.text_fields.specs.declared.field.Field.{Field}
use Rattle.text_fields.specs.declared.field.Field.TheVariants as field
use Rattle.text_fields.specs.Trees.{members_in, HasNumber, HasFlag}
use Rattle.text_fields.specs.Ranges.{has_text, is_listed}

-- the mask has the events whose offsets the table lists in the field
abbrev pub HasEvents : Field → Members → ℕ → Type 0
HasEvents named tree mask = (offset : ℕ) → has mask offset ≡ is_listed (members_in named tree) offset

-- the step lists these events
pub record HoldsEvents (tree : Members) (events : EventMasks) : Type 0 where
  pub assertions : HasEvents field.Assert tree events.assertions
  pub deassertions : HasEvents field.Deassert tree events.deassertions

-- the step selects what becomes of events
abbrev pub SelectsMasks : Members → List ℕ → Type 0
SelectsMasks tree word = has_text field.Select word tree ≡ true

-- the step says what becomes of the enabled events
abbrev pub HoldsChange : Members → EventChange → Type 0
HoldsChange tree change.Leave = SelectsMasks tree (codes "leave")
HoldsChange tree (change.Enable events) = SelectsMasks tree (codes "enable") × HoldsEvents tree events
HoldsChange tree (change.Disable events) = SelectsMasks tree (codes "disable") × HoldsEvents tree events
HoldsChange tree change.Reserved = ⊥

-- the step holds a change of a sensor's events
pub record HoldsEventEnable (tree : Members) (set : SetEventEnable) : Type 0 where
  pub sensor : HasNumber field.Sensor tree set.sensor
  pub messages : HasFlag field.Messages tree set.messages
  pub scanning : HasFlag field.Scanning tree set.scanning
  pub change : HoldsChange tree set.change

-- the operation is of this kind, and the step holds it
abbrev pub HoldsOp : Members → Op → Type 0
HoldsOp tree (op.EventEnable set) = HoldsEventEnable tree set
HoldsOp tree other = ⊥
