-- Changes of the fields of a state effecter, and the fields in a Get reply (DSP0248).
use Rattle.std.specs.Prelude.{◌≡◌, ℕ, List, [], ◌∷◌, drop, length, slice_get, slice_index, Some, Bool, true, false, nat_le, not, ◌==◌, ◌&&◌, ◌||◌, IsTrue, if◌then◌else◌}
use Rattle.record_base.specs.declared.field_changes.FieldChange.{FieldChange}
use Rattle.effecter_recs.specs.Requests.{enabled_state}

-- the change that sets a field to a state, and the change that leaves the field: an effecter ignores the state of the second change,
-- which is 0
abbrev pub set_to : ℕ → FieldChange
set_to state = record { choice = 1; state = state }

abbrev pub leave : FieldChange
leave = record { choice = 0; state = 0 }

-- the change sets its field
abbrev pub is_set : FieldChange → Bool
is_set change = change.choice == 1

-- the first byte of a change is 00h or 01h
abbrev pub is_choice : FieldChange → Bool
is_choice change = nat_le change.choice 1

-- a change has 0 for a state that an effecter ignores
abbrev pub is_plain_change : FieldChange → Bool
is_plain_change change = not (change.choice == 0) || (change.state == 0)

-- ---- what changes make

-- each field gets the state of its change where the change sets it, and keeps its state where the change leaves it
pub record ChangesStates (changes : List FieldChange) (old new : List ℕ) : Type 0 where
  pub many : length new ≡ length changes
  pub set : (place : ℕ) (change : FieldChange) → slice_get changes place ≡ Some change → IsTrue (is_set change) → slice_index new place ≡ change.state
  pub left : (place : ℕ) (change : FieldChange) → slice_get changes place ≡ Some change → is_set change ≡ false → slice_index new place ≡ slice_index old place

-- ---- the same as functions

-- the state of a field after a change
abbrev pub changed : FieldChange → ℕ → ℕ
changed change old = if is_set change then change.state else old

-- the states of fields after changes, one for each change
abbrev pub changed_states : List FieldChange → List ℕ → List ℕ
changed_states [] old = []
changed_states (change ∷ rest) old = changed change (slice_index old 0) ∷ changed_states rest (drop 1 old)

-- ---- changes in the bytes of a request

abbrev pub change_bytes : List FieldChange → List ℕ
change_bytes [] = []
change_bytes (change ∷ rest) = change.choice ∷ change.state ∷ change_bytes rest

abbrev pub changes_of : List ℕ → List FieldChange
changes_of (choice ∷ state ∷ bytes) = record { choice = choice; state = state } ∷ changes_of bytes
changes_of _ = []

-- ---- fields in the bytes of a reply

-- the bytes of a Get reply for fields in these states: the operational state, then the state twice, as the pending and the present one
abbrev pub shown_fields : ℕ → List ℕ → List ℕ
shown_fields operational [] = []
shown_fields operational (state ∷ states) = operational ∷ state ∷ state ∷ shown_fields operational states

-- the pending and the present states alone
abbrev pub shown_states : List ℕ → List ℕ
shown_states (operational ∷ pending ∷ present ∷ shown) = pending ∷ present ∷ shown_states shown
shown_states _ = []

-- the reply shows each field that the changes set as enabled
abbrev pub are_enabled : List FieldChange → List ℕ → Bool
are_enabled [] shown = true
are_enabled (change ∷ rest) shown = (not (is_set change) || (slice_index shown 0 == enabled_state)) && are_enabled rest (drop 3 shown)

-- the changes of the same fields to the present states that the reply shows
abbrev pub undo_change : FieldChange → ℕ → FieldChange
undo_change change present = if is_set change then set_to present else leave

abbrev pub undo_changes : List FieldChange → List ℕ → List FieldChange
undo_changes [] shown = []
undo_changes (change ∷ rest) shown = undo_change change (slice_index shown 2) ∷ undo_changes rest (drop 3 shown)
