-- What was found of records that were looked at one after another.
use Rattle.std.specs.Prelude.{◌≡◌, ◌⊎◌, ℕ, Bool, List, [], ◌∷◌, map, slice_get, take, Option, Some, None}
use Rattle.two_wire.specs.declared.Bus.{Bus}
use Rattle.two_wire.specs.declared.Bus.TheVariants.{Ipmb, Smbus}
use Rattle.record_base.specs.declared.key.Key.{Key}
use Rattle.record_kinds.specs.Limits.{get_asked}
use Rattle.undo_look.specs.declared.looker.Seen.{Seen}
use Rattle.undo_look.specs.declared.looker.Seen.TheVariants as seen
use Rattle.undo_look.specs.declared.stage.Stage.{Stage}
use Rattle.undo_look.specs.declared.stage.Stage.TheVariants as stage
use Rattle.undo_look.specs.declared.target.Target.TheVariants.{Record}
use Rattle.undo_look.specs.Requests.{bus_of}
use Rattle.app_look.specs.declared.look_driver.LookEnd.{LookEnd}
use Rattle.app_look.specs.declared.look_driver.LookEnd.TheVariants.{Silent}
use Rattle.app_run.specs.Buses.{is_used}
use Rattle.app_look.specs.declared.records.Came.{Came}
use Rattle.app_look.specs.declared.records.Came.TheVariants as came
use Rattle.app_look.specs.declared.records.Found.{Found}
use Rattle.app_look.specs.declared.records.LookFault.{LookFault}
use Rattle.app_look.specs.declared.records.LookFault.TheVariants as look
use Rattle.app_look.specs.declared.records.StopFault.{StopFault}
use Rattle.app_look.specs.declared.records.StopFault.TheVariants as stop
use Rattle.app_look.specs.declared.session.Session.{Session}
use Rattle.app_look.specs.declared.session.Way.{Way}
use Rattle.app_look.specs.Opened.{IsOpened, IsUnopened}
use Rattle.app_look.specs.Looking.{LooksAt}

-- these data are shown
abbrev pub ShowsData : (shown : List ℕ) → Came → Type 0
ShowsData shown (came.Shown bytes) = bytes.items ≡ shown
ShowsData shown (came.Refused code) = ⊥

-- what a looker has of its last look is kept so
abbrev pub IsKeptOf : Seen → Came → Type 0
IsKeptOf (seen.Shown bytes) kept = ShowsData bytes.now kept
IsKeptOf (seen.Refused code) kept = kept ≡ came.Refused code

-- this was found of a record by a look that came to this stage, where the data are those that it shows
abbrev pub IsFound : Key → Stage → (shown : List ℕ) → Found → Type 0
IsFound key (stage.Found of) shown found = (of ≡ Record key) × (found.key ≡ key) × ShowsData shown found.came
IsFound key (stage.Refused of code) shown found = (of ≡ Record key) × (found.key ≡ key) × (found.came ≡ came.Refused code)
IsFound key _ shown found = ⊥

-- a look came to that, or its Get wasn't answered
abbrev pub FindsBy : Key → (end : LookEnd) → (new : Session) → Option Found → Type 0
FindsBy key end new (Some found) = IsFound key new.looker.stage new.looker.shown found
FindsBy key end new None = end ≡ Silent

-- the record was looked at, and that was found
abbrev pub Finds : (old : Session) → Key → Option Found → (new : Session) → Type 0
Finds old key told new = (end : LookEnd) × LooksAt old key end new × FindsBy key end new told

-- each of the records was looked at, one after another, and that was found of each
abbrev pub FindsEach : List Key → List Found → (old new : Session) → Type 0
FindsEach [] [] old new = new ≡ old
FindsEach (key ∷ keys) (found ∷ later) old new = (mid : Session) × Finds old key (Some found) mid × FindsEach keys later mid new
FindsEach _ _ old new = ⊥

-- the Get of the record at this place wasn't answered, and each record before it was looked at
pub record IsSilentAt (keys : List Key) (place : ℕ) (old new : Session) : Type 0 where
  pub found : List Found
  pub mid : Session
  pub before : FindsEach (take place keys) found old mid
  pub key : Key
  pub at : slice_get keys place ≡ Some key
  pub silent : Finds mid key None new

-- so many records were looked at; what was found of the last isn't told
abbrev pub LooksUpTo : (count : ℕ) → List Key → (old new : Session) → Type 0
LooksUpTo count keys old new = (mid : Session) × ((found : List Found) × FindsEach (take count keys) found old mid)
    × ((new ≡ mid) ⊎ ((key : Key) × (slice_get keys count ≡ Some key) × (end : LookEnd) × LooksAt mid key end new))

-- why not each record was looked at
abbrev pub StopsAt : List Key → StopFault → (old new : Session) → Type 0
StopsAt keys stop.Memory old new = (count : ℕ) × LooksUpTo count keys old new
StopsAt keys (stop.Silent place) old new = IsSilentAt keys place old new

-- the bus on which a record's Get goes
abbrev pub bus_at : Key → Bus
bus_at key = bus_of (get_asked key)

abbrev pub are_used : Bus → List Key → Bool
are_used bus keys = is_used bus (map bus_at keys)

-- the controller was greeted on the buses of the records
abbrev pub OpensFor : Way → List Key → Session → Type 0
OpensFor way keys session = IsOpened way (are_used Ipmb keys) (are_used Smbus keys) session

-- and each was looked at behind that, and the session is this then
pub record StaysOver (way : Way) (keys : List Key) (found : List Found) (left : Session) : Type 0 where
  pub session : Session
  pub opened : OpensFor way keys session
  pub finds : FindsEach keys found session left

-- or not each was
pub record StopsOver (way : Way) (keys : List Key) (why : StopFault) : Type 0 where
  pub session : Session
  pub opened : OpensFor way keys session
  pub left : Session
  pub stops : StopsAt keys why session left

abbrev pub FailsOver : Way → List Key → LookFault → Type 0
FailsOver way keys (look.Unopened why) = IsUnopened way (are_used Ipmb keys) (are_used Smbus keys) why
FailsOver way keys (look.Stopped why) = StopsOver way keys why
