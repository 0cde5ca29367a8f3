-- What the Gets of effecters show behind an operation (DSP0248).
use Rattle.std.specs.Prelude.{ℕ, List, [], ◌∷◌, ◌++◌, drop, slice_index}
use Rattle.record_base.specs.declared.field_changes.FieldChange.{FieldChange}
use Rattle.record_base.specs.declared.numeric_effecter.SetNumericEffecter.{SetNumericEffecter}
use Rattle.record_base.specs.declared.state_effecter.SetStateEffecter.{SetStateEffecter}
use Rattle.effecter_recs.specs.FieldChanges.{changed}
use Rattle.effecter_recs.specs.Numeric.{value_bytes}

-- the pending and the present value become the operation's, behind the size and the operational state
abbrev pub after_numeric : SetNumericEffecter → List ℕ → List ℕ
after_numeric op shown = slice_index shown 0 ∷ slice_index shown 1 ∷ (value_bytes op.value ++ value_bytes op.value)

-- The fields after changes, one for each of the first fields: the pending and the present state of a field become the change's where it sets the
-- field.
abbrev pub changed_fields : List FieldChange → List ℕ → List ℕ
changed_fields [] shown = shown
changed_fields (change ∷ later) shown =
    slice_index shown 0 ∷ changed change (slice_index shown 1) ∷ changed change (slice_index shown 2) ∷ changed_fields later (drop 3 shown)

-- the fields change as the operation says, behind their number
abbrev pub after_states : SetStateEffecter → List ℕ → List ℕ
after_states op shown = slice_index shown 0 ∷ changed_fields op.changes (drop 1 shown)
