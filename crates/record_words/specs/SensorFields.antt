-- The fields of a sensor's records (IPMI 2.0).
use Rattle.std.specs.Prelude.{ℕ, ◌==◌, List, [], ◌∷◌, slice_index, if◌then◌else◌}
use Rattle.record_base.specs.Masks.{has}
use Rattle.record_base.specs.declared.thresholds.SetThresholds.{SetThresholds}
use Rattle.record_base.specs.declared.hysteresis.SetHysteresis.{SetHysteresis}
use Rattle.record_base.specs.declared.event_enable.SetEventEnable.{SetEventEnable}
use Rattle.record_base.specs.declared.event_enable.EventMasks.{EventMasks}
use Rattle.record_base.specs.declared.event_enable.EventChange.{EventChange}
use Rattle.record_base.specs.declared.event_enable.EventChange.TheVariants.{Enable, Disable, Reserved}
use Rattle.record_words.specs.declared.field.Field.{Field}
use Rattle.record_words.specs.declared.meaning.Meaning.TheVariants as meaning
use Rattle.record_words.specs.declared.shown.Shown.{Shown}
use Rattle.record_words.specs.declared.shown.Shown.TheVariants.{Kept, Raw, Events, Switch, Means}
use Rattle.record_words.specs.declared.term.Term.TheVariants as term
use Rattle.record_words.specs.FieldWords.{field}

-- the threshold at a place, where the mask has the place
abbrev pub threshold : SetThresholds → ℕ → Shown
threshold set place = if has set.mask place then Raw (slice_index set.values place) else Kept

-- the fields of an operation on thresholds
abbrev pub thresholds : SetThresholds → List Field
thresholds set =
    field term.LowerNonCritical (threshold set 0) ∷
    field term.LowerCritical (threshold set 1) ∷
    field term.LowerNonRecoverable (threshold set 2) ∷
    field term.UpperNonCritical (threshold set 3) ∷
    field term.UpperCritical (threshold set 4) ∷
    field term.UpperNonRecoverable (threshold set 5) ∷
    []

-- of one on hysteresis
abbrev pub hysteresis : SetHysteresis → List Field
hysteresis set = field term.PositiveHysteresis (Raw set.positive) ∷ field term.NegativeHysteresis (Raw set.negative) ∷ []

-- events that an operation enables or disables, where there are some
abbrev pub events : ℕ → Shown
events mask = if mask == 0 then Kept else Events mask

-- no events
abbrev pub no_events : EventMasks
no_events = record { assertions = 0; deassertions = 0 }

-- the events that a change enables, and those that it disables
abbrev pub changed : EventChange → EventMasks × EventMasks
changed (Enable more) = (more, no_events)
changed (Disable less) = (no_events, less)
changed _ = (no_events, no_events)

-- the selection, where it is the reserved one
abbrev pub selection : EventChange → Shown
selection Reserved = Means meaning.ReservedSelection
selection _ = Kept

-- the fields of an operation on enabled events
abbrev pub event_enable : SetEventEnable → List Field
event_enable set =
    field term.EventMessages (Switch set.messages) ∷
    field term.Scanning (Switch set.scanning) ∷
    field term.EnableAssertions (events (changed set.change).0.assertions) ∷
    field term.EnableDeassertions (events (changed set.change).0.deassertions) ∷
    field term.DisableAssertions (events (changed set.change).1.assertions) ∷
    field term.DisableDeassertions (events (changed set.change).1.deassertions) ∷
    field term.Selection (selection set.change) ∷
    []
