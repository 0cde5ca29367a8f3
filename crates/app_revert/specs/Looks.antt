-- The look behind a revert: each record is asked for by its Get, and what that shows is compared with what the list's request sets. Names are read
-- behind that.
use Rattle.std.specs.Prelude.{◌≡◌, ◌≢◌, ◌⊎◌, ◌++◌, ◌&&◌, ◌==◌, ℕ, suc, Bool, true, false, Contains, List, [], ◌∷◌, Option, Some, None, Result}
use Rattle.std.specs.declared.alloc.AllocError.{AllocError}
use Rattle.std.specs.Option.{option_to_list}
use Rattle.wire_links.specs.Counted.{none_counted}
use Rattle.wire_links.specs.contracts.udp_link.UdpLinkLink.TheImpl as udp
use Rattle.record_base.specs.declared.event_enable.EventChange.{EventChange}
use Rattle.record_base.specs.declared.event_enable.EventChange.TheVariants as change
use Rattle.record_base.specs.declared.event_enable.EventMasks.{EventMasks}
use Rattle.record_base.specs.declared.key.Key.{Key}
use Rattle.record_base.specs.declared.message.Asked.{Asked}
use Rattle.record_base.specs.declared.op.Op.{Op}
use Rattle.record_base.specs.declared.op.Op.TheVariants.{EventEnable}
use Rattle.record_kinds.specs.Limits.{inverse, key_of, words}
use Rattle.record_kinds.specs.Series.{set_whole}
use Rattle.undo_plans.specs.declared.undo_list.UndoList.{UndoList}
use Rattle.model_lab.specs.Meaning.{lab_names}
use Rattle.undo_core.specs.declared.manager.Manager.{Manager}
use Rattle.undo_core.specs.Journals.{kept_by}
use Rattle.undo_look.specs.declared.looker.Looker.{Looker}
use Rattle.undo_look.specs.declared.stage.Stage.{Stage}
use Rattle.undo_look.specs.declared.stage.Stage.TheVariants as stage
use Rattle.undo_look.specs.declared.target.Target.TheVariants.{Record}
use Rattle.undo_look.specs.Looks.{StepResult, again_at, begin_at, opened_at, state_of}
use Rattle.app_look.specs.declared.look_driver.LookEnd.{LookEnd}
use Rattle.app_look.specs.declared.look_driver.LookEnd.TheVariants.{Silent}
use Rattle.app_look.specs.Driven as driven
use Rattle.report_words.specs.declared.table_names.Names.{Names}
use Rattle.app_run.specs.Driven.{undo_retries}
use Rattle.app_revert.specs.declared.looking.Eye.{Eye}
use Rattle.app_revert.specs.declared.looking.Looked.{Looked}
use Rattle.app_revert.specs.declared.looking.Sight.{Sight}
use Rattle.app_revert.specs.declared.looking.Sight.TheVariants.{AsBefore, Differs, Unseen}
use Rattle.app_revert.specs.Names.{HasNoName, ReadsBehind}
use Rattle.app_apply.specs.Kept.{most_turns}

-- ---- what is shown

-- no event is among these
abbrev pub selects_none : EventMasks → Bool
selects_none masks = (masks.assertions == 0) && (masks.deassertions == 0)

-- the change leaves the enabled events as they are
abbrev pub leaves_alone : EventChange → Bool
leaves_alone change.Leave = true
leaves_alone (change.Enable masks) = selects_none masks
leaves_alone (change.Disable masks) = selects_none masks
leaves_alone change.Reserved = false

-- What brings the shown value of a record back is the operation, so that the record is as that leaves it. Of a sensor's events: it has both of the
-- operation's flags, and enables and disables no event.
abbrev pub IsBroughtBackBy : Op → Option Op → Type 0
IsBroughtBackBy op None = ⊥
IsBroughtBackBy (EventEnable left) (Some (EventEnable back)) =
    (left.messages ≡ back.messages) × (left.scanning ≡ back.scanning) × (leaves_alone back.change ≡ true)
IsBroughtBackBy op (Some back) = words.set_data back ≡ words.set_data op

-- the record that shows this is as the operation leaves it
abbrev pub IsLeft : Op → (shown : List ℕ) → Type 0
IsLeft op shown = IsBroughtBackBy op (inverse op shown)

-- a look at the operation's record came to this, whose Get showed that
abbrev pub ShowsSo : Op → (shown : List ℕ) → Sight → Type 0
ShowsSo op shown sight = ((sight ≡ AsBefore) × IsLeft op shown) ⊎ ((sight ≡ Differs) × (¬ IsLeft op shown))

-- whatever it came to
abbrev pub ShowsAt : Op → Stage → (shown : List ℕ) → Sight → Type 0
ShowsAt op (stage.Found key) shown sight = ShowsSo op shown sight
ShowsAt op (stage.Refused key code) shown sight = sight ≡ Differs
ShowsAt op (stage.Opened heeded key parts asked) shown sight = sight ≡ Unseen
ShowsAt op stage.AtStart shown sight = sight ≡ Unseen

abbrev pub IsSight : Op → Looker → Sight → Type 0
IsSight op looker sight = ShowsAt op looker.stage looker.shown sight

-- ---- one record

-- the looker was called, which had the effect of the step, and was driven over its links; the look ended so
abbrev pub LooksBy : StepResult → (before : Eye) → LookEnd → (after : Eye) → Type 0
LooksBy step before end after =
    driven.LooksOver udp.ghosts udp.ghosts most_turns step before.ends.ipmb before.ends.smbus after.looker end after.ends.ipmb after.ends.smbus

-- the Get of the record is begun, and goes on whose request isn't heeded
abbrev pub begun_at : Key → Eye → StepResult
begun_at key eye = driven.or_rests eye.looker (begin_at (state_of eye.looker) (Record key) eye.looker.stage)

abbrev pub goes_on_at : Eye → StepResult
goes_on_at eye = driven.or_rests eye.looker (again_at (state_of eye.looker) eye.looker.stage)

-- while a request of it wasn't heeded it went on, up to so many times
abbrev pub LooksOn : (agains : ℕ) → LookEnd → (before after : Eye) → Type 0
LooksOn (suc more) Silent before after =
    (mid : Eye) × (end : LookEnd) × LooksBy (goes_on_at before) before end mid × LooksOn more end mid after
LooksOn agains end before after = after ≡ before

-- the Get of the record was begun, and went on so
abbrev pub EyeLooksAt : (agains : ℕ) → Key → (before after : Eye) → Type 0
EyeLooksAt agains key before after = (mid : Eye) × (end : LookEnd) × LooksBy (begun_at key before) before end mid × LooksOn agains end mid after

-- a record was named behind those before
abbrev pub NamesIt : Key → Sight → (old new : Looked) → Type 0
NamesIt key sight old new = new.sightings.items ≡ old.sightings.items ++ record { key = key; sight = sight } ∷ []

-- what was told has what a look at this record showed: nothing, where the record is as before
abbrev pub Tells : Key → Sight → (old new : Looked) → Type 0
Tells key AsBefore old new = new ≡ old
Tells key Differs old new = NamesIt key Differs old new × (new.differs ≡ true) × (new.unseen ≡ old.unseen)
Tells key Unseen old new = NamesIt key Unseen old new × (new.differs ≡ old.differs) × (new.unseen ≡ true)

-- a request is of the record
abbrev pub IsOf : Key → Asked → Type 0
IsOf key request = (op : Op) × (set_whole op ≡ request) × (key_of op ≡ key)

abbrev pub IsOfSome : Key → Option Asked → Type 0
IsOfSome key None = ⊥
IsOfSome key (Some request) = IsOf key request

-- one of the requests is
abbrev pub IsAmong : Key → List Asked → Type 0
IsAmong key requests = (op : Op) × Contains requests (set_whole op) × (key_of op ≡ key)

-- The record that a request changes was looked at once: what was shown is compared with what the request sets. None was where the request changes no
-- record, where another before it, of these, is of the record, and behind a look that wasn't answered.
abbrev pub LooksOnce : (agains : ℕ) → (earlier : List Asked) → Asked → (before : Eye) → (old : Looked) → (after : Eye) → (new : Looked) → Type 0
LooksOnce agains earlier request before old after new =
    ((op : Op) × (sight : Sight) × (set_whole op ≡ request) × (old.unseen ≡ false) × (¬ IsAmong (key_of op) earlier)
    × EyeLooksAt agains (key_of op) before after × IsSight op after.looker sight × Tells (key_of op) sight old new)
    ⊎ ((after ≡ before) × (new ≡ old)
    × (((op : Op) → set_whole op ≢ request) ⊎ ((old.unseen ≡ true) ⊎ ((op : Op) × (set_whole op ≡ request) × IsAmong (key_of op) earlier))))

-- if there is a request
abbrev pub LooksOnceAt : (agains : ℕ) → (earlier : List Asked) → Option Asked → (before : Eye) → (old : Looked) → (after : Eye) → (new : Looked) → Type 0
LooksOnceAt agains earlier None before old after new = (after ≡ before) × (new ≡ old)
LooksOnceAt agains earlier (Some request) before old after new = LooksOnce agains earlier request before old after new

-- ---- each record

-- so was each, in the order of the requests, of which these came earlier
abbrev pub LooksEach : (agains : ℕ) → (earlier requests : List Asked) → (before : Eye) → (old : Looked) → (after : Eye) → (new : Looked) → Type 0
LooksEach agains earlier [] before old after new = (after ≡ before) × (new ≡ old)
LooksEach agains earlier (request ∷ later) before old after new =
    (mid : Eye) × (told : Looked) × LooksOnce agains earlier request before old mid told × LooksEach agains (earlier ++ request ∷ []) later mid told after new

-- no look told anything
abbrev pub TellsNothing : Looked → Type 0
TellsNothing looked = (looked.sightings.items ≡ []) × (looked.differs ≡ false) × (looked.unseen ≡ false)

-- there was no look, since nothing answered
abbrev pub TellsNoAnswer : Looked → Type 0
TellsNoAnswer looked = (looked.sightings.items ≡ []) × (looked.differs ≡ false) × (looked.unseen ≡ true)

-- a looker that sent nothing, with the list's next numbers, and links that counted nothing
pub record IsNewEye (list : UndoList) (eye : Eye) : Type 0 where
  pub looker : state_of eye.looker ≡ opened_at lab_names list.next undo_retries
  pub ipmb : eye.ends.ipmb.counts ≡ none_counted
  pub smbus : eye.ends.smbus.counts ≡ none_counted

-- each record of the list's requests, and behind them of that of the step in doubt, was looked at, and this was told; and behind that so the names
-- were read
pub record LooksOver (agains : ℕ) (list : UndoList) (doubt : List Asked) (told : Looked) (names : Result Names AllocError) : Type 0 where
  pub before : Eye
  pub after : Eye
  pub none : Looked
  pub new : IsNewEye list before
  pub nothing : TellsNothing none
  pub looks : LooksEach agains [] (list.requests.members ++ doubt) before none after told
  pub reads : ReadsBehind agains told after names

-- the request that takes back the step whose Set is open
abbrev pub doubts : Manager → List Asked
doubts manager = option_to_list ((kept_by manager).waiting)

-- Each record was looked at, by requests that go on with the list's next numbers, and behind that so the names were read; or no link could be had,
-- and that is told. No greeting comes before: a controller that is greeted carries out late copies of what it answered.
abbrev pub LooksBehind : (agains : ℕ) → UndoList → (doubt : List Asked) → Looked → Result Names AllocError → Type 0
LooksBehind agains list doubt told names = LooksOver agains list doubt told names ⊎ (TellsNoAnswer told × HasNoName names)
