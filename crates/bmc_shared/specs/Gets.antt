-- What a Get shows of a record that was set before in the same history.
use Rattle.std.specs.Prelude.{◌≡◌, ℕ, List, [], ◌∷◌, ◌++◌, drop, Some, Result, Ok, ◌⊎◌, fold}
use Rattle.two_wire.specs.Codes.{success}
use Rattle.record_base.specs.declared.key.Key.{Key}
use Rattle.record_base.specs.declared.key.Key.TheVariants as of_key
use Rattle.record_base.specs.declared.op.Op.{Op}
use Rattle.record_base.specs.declared.op.Op.TheVariants as of_kind
use Rattle.record_base.specs.declared.bios_attribute.SetBiosAttribute.{SetBiosAttribute}
use Rattle.record_base.specs.declared.message.Asked.{Asked}
use Rattle.record_base.specs.declared.message.Answered.{Answered}
use Rattle.cfg_records.specs.declared.board_file.BoardFile.{BoardFile}
use Rattle.record_kinds.specs.declared.limits.Limits.{Limits}
use Rattle.record_kinds.specs.Limits.{key_of, limits_at, sets, view}
use Rattle.record_kinds.specs.Series.{first_shown}
use Rattle.bios_attr.specs.EntryParts.{before_part}
use Rattle.record_kinds.specs.declared.set_part.SetPart.TheVariants.{End}
use Rattle.record_kinds.specs.Stagings.{end_outcome}
use Rattle.bmc_board.specs.Request.{Request}
use Rattle.bmc_board.specs.Request.{Get, Set, SetStores, PartOfSet, LaterPart}
use Rattle.bmc_board.specs.Request.{asked_by}
use Rattle.bmc_board.specs.Replies.{done}
use Rattle.bmc_board.specs.AttributeParts.{later_part}
use Rattle.bmc_board.specs.State.{State}
use Rattle.bmc_shared.specs.declared.event.Call.{Call}
use Rattle.bmc_shared.specs.declared.event.Call.TheVariants.{Exchanged, Benched}
use Rattle.bmc_shared.specs.declared.event.Event.{Event}
use Rattle.bmc_shared.specs.Replay.{after_call, IsReplay}

-- the state that events leave
abbrev pub state_after : BoardFile → State → List Event → State
state_after setup first events = fold (λ before event. after_call setup before event.call) first events

-- The request is a Set by the operation, or sets the access of a channel in two stores, by it and another. Or it is the last part of a Set: then
-- the operation is that of the whole entry, by what is staged at the state.
abbrev pub IsSetBy : (at : State) → Result Request ℕ → Op → Type 0
IsSetBy at (Ok (Set other)) op = other ≡ op
IsSetBy at (Ok (SetStores first second)) op = (of_kind.ChannelAccess first ≡ op) ⊎ (of_kind.ChannelAccess second ≡ op)
IsSetBy at (Ok (PartOfSet from (End handle bytes))) op =
    (change : SetBiosAttribute) × (end_outcome at.activity.stagings from handle bytes ≡ Ok change) × (of_kind.BiosAttribute change ≡ op)
IsSetBy at _ op = ⊥

-- the request may write the record: it is a Set of it
abbrev pub WritesRecord : (at : State) → Result Request ℕ → Key → Type 0
WritesRecord at asked key = (op : Op) × IsSetBy at asked op × (key_of op ≡ key)

abbrev pub MayWrite : (at : State) → Key → Call → Type 0
MayWrite at key (Exchanged asked answered) = WritesRecord at (asked_by asked) key
MayWrite at key (Benched bench answered) = ⊥

-- no call of these events, which begin at the state, may write the record
abbrev pub NoneWrites : BoardFile → (at : State) → Key → List Event → Type 0
NoneWrites setup at key [] = Unit {0}
NoneWrites setup at key (event ∷ later) = (¬ MayWrite at key event.call) × NoneWrites setup (after_call setup at event.call) key later

-- the request gets the record: all of it, or the first part of a long attribute's entry, or a later part of that
abbrev pub IsGetOf : Result Request ℕ → Key → Type 0
IsGetOf (Ok (Get named)) key = named ≡ key
IsGetOf (Ok (LaterPart handle transfer)) key = of_key.BiosAttribute handle ≡ key
IsGetOf _ key = ⊥

-- its answer, from the data that show the whole record
abbrev pub shown_by : Result Request ℕ → Limits → List ℕ → Answered
shown_by (Ok (LaterPart handle transfer)) limits whole = later_part (drop before_part whole) transfer
shown_by _ limits whole = done (first_shown limits whole)

-- In a history, a Set of a record is carried out, and a Get of it is answered later. No call between the two may write the record.
pub record SetsThenGets (setup : BoardFile) (first last : State) (op : Op) (before between later : List Event) (set get : Event) (shown : Answered) : Type 0 where
  pub replays : IsReplay setup first (before ++ (set ∷ (between ++ (get ∷ later)))) last
  pub setter : Asked
  pub replied : Answered
  pub set_is : set.call ≡ Exchanged setter replied
  pub is_set : IsSetBy (state_after setup first before) (asked_by setter) op
  pub carried_out : replied.code ≡ success
  pub unwritten : NoneWrites setup (after_call setup (state_after setup first before) set.call) (key_of op) between
  pub getter : Asked
  pub get_is : get.call ≡ Exchanged getter shown
  pub is_get : IsGetOf (asked_by getter) (key_of op)

-- a Get's answer at a state shows the value that the operation made of that at an earlier state, or the part of it that is asked for
pub record ShowsWhatWasSet (setup : BoardFile) (op : Op) (at_set at_get : State) (asked : Result Request ℕ) (shown : Answered) : Type 0 where
  pub limits : Limits
  pub old : List ℕ
  pub new : List ℕ
  pub limits_are : limits_at setup (key_of op) ≡ Some limits
  pub had : at_set.records (key_of op) ≡ Some old
  pub was_set : sets limits op old new
  pub is_shown : shown ≡ shown_by asked limits (view limits new at_get.activity.live)

-- such a Get shows what the Set wrote
abbrev pub GetsWhatWasSet : Type 0
GetsWhatWasSet = (setup : BoardFile) (first last : State) (op : Op) (before between later : List Event) (set get : Event) (shown : Answered)
    → (h : SetsThenGets setup first last op before between later set get shown)
    → ShowsWhatWasSet setup op (state_after setup first before) (state_after setup first (before ++ (set ∷ between))) (asked_by h.getter) shown
