-- Records that are read one after another, and what a backup is told of them.
use Rattle.std.specs.Prelude.{◌≡◌, ◌<◌, ◌==◌, ℕ, suc, Bool, true, false, List, [], ◌∷◌, map, Option, Some, None, Result, Ok, Err, Vec}
use Rattle.std.specs.List.{list_any}
use Rattle.std.specs.declared.alloc.AllocError.{AllocError}
use Rattle.std.specs.declared.alloc.Global.{Global}
use Rattle.two_wire.specs.declared.Bus.{Bus}
use Rattle.two_wire.specs.declared.Bus.TheVariants.{Ipmb, Smbus}
use Rattle.record_base.specs.declared.key.Key.{Key}
use Rattle.record_base.specs.Requests.{byte_at}
use Rattle.undo_look.specs.declared.looker.Seen.{Seen}
use Rattle.undo_look.specs.declared.looker.Seen.TheVariants.{Shown, Refused as IsRefused}
use Rattle.undo_look.specs.declared.stage.Stage.{Stage}
use Rattle.undo_look.specs.declared.stage.Stage.TheVariants as stage
use Rattle.undo_look.specs.Looks.{IsSeen}
use Rattle.app_look.specs.declared.look_driver.LookEnd.{LookEnd}
use Rattle.app_look.specs.declared.session.Session.{Session}
use Rattle.app_look.specs.Findings.{bus_at}
use Rattle.app_look.specs.Looking.{LooksAt}
use Rattle.app_show.specs.declared.backup.Backup.{Backup}
use Rattle.app_show.specs.declared.backup.Why.TheVariants.{Refused, Unanswered}
use Rattle.app_show.specs.declared.reading.Answer.{Answer}
use Rattle.app_show.specs.declared.reading.Answer.TheVariants.{Found, Missing}
use Rattle.app_show.specs.declared.reading.ReadFault.{ReadFault}
use Rattle.app_show.specs.declared.reading.ReadFault.TheVariants as fault
use Rattle.app_show.specs.declared.reading.Reader.{Reader}
use Rattle.app_show.specs.Asking.{Asking, AsksEach, Begins, Told, with_next}
use Rattle.app_show.specs.Backup.{AddsRemark, Says, Takes, has_none}

-- so many Gets in a row end the reading where none is answered
abbrev pub most_silent : ℕ
most_silent = 3

-- ---- looks

-- a look at a record, how it ended, and the session behind it
pub record Look : Type 0 where
  pub key : Key
  pub end : LookEnd
  pub left : Session

-- the first byte that is shown, where the record is there
abbrev pub first_at : Stage → (shown : List ℕ) → Option ℕ
first_at (stage.Found of) shown = Some (byte_at shown 0)
first_at _ shown = None

abbrev pub told_of : Look → Told
told_of look = record { key = look.key; first = first_at look.left.looker.stage look.left.looker.shown }

-- records were looked at one after another
abbrev pub LooksEach : List Look → (old new : Session) → Type 0
LooksEach [] old new = new ≡ old
LooksEach (look ∷ later) old new = LooksAt old look.key look.end look.left × LooksEach later look.left new

-- ---- what a backup is told

-- the codes that say of a record that there is none: IPMI's (table 5-2) of a parameter that isn't supported and of a channel without sessions, of a
-- command that isn't, and of data, sensors or records that aren't there; and PLDM's (DSP0240, DSP0247, DSP0248) of data, commands, types, effecters,
-- tables and handles
abbrev pub absences : Bus → List ℕ
absences Ipmb = 0x80 ∷ 0x82 ∷ 0xC1 ∷ 0xC2 ∷ 0xC9 ∷ 0xCB ∷ 0xCC ∷ 0xCD ∷ []
absences Smbus = 0x02 ∷ 0x05 ∷ 0x20 ∷ 0x80 ∷ 0x83 ∷ 0x85 ∷ 0x88 ∷ []

abbrev pub is_absence : Bus → (code : ℕ) → Bool
is_absence bus code = list_any (λ (absent : ℕ). code == absent) (absences bus)

-- of a record that isn't there nothing is said, and of another whose Get is refused there is a remark
abbrev pub RemarksRefusal : (absent : Bool) → Key → (code : ℕ) → (old new : Backup) → Type 0
RemarksRefusal true key code old new = Says old new
RemarksRefusal false key code old new = AddsRemark key (Refused code) old new

-- what a backup is told of a record, by the stage of a look at it, and the data that it shows
abbrev pub TellsBy : Key → Stage → (shown : List ℕ) → (old new : Backup) → Type 0
TellsBy key (stage.Found of) shown old new = Takes key shown old new
TellsBy key (stage.Refused of code) shown old new = RemarksRefusal (is_absence (bus_at key) code) key code old new
TellsBy key _ shown old new = AddsRemark key Unanswered old new

-- it is told of each look
abbrev pub TellsEach : List Look → (old new : Backup) → Type 0
TellsEach [] old new = new ≡ old
TellsEach (look ∷ later) old new =
    (mid : Backup) × TellsBy look.key look.left.looker.stage look.left.looker.shown old mid × TellsEach later mid new

-- ---- Gets that aren't answered

-- the Get wasn't answered
abbrev pub is_unheard : Stage → Bool
is_unheard (stage.Found of) = false
is_unheard (stage.Refused of code) = false
is_unheard _ = true

-- Behind so many in a row that weren't answered these looks were made, and behind them so many weren't. None was made behind as many as end the
-- reading.
abbrev pub Runs : (before : ℕ) → List Look → (behind : ℕ) → Type 0
Runs before [] behind = behind ≡ before
Runs before (look ∷ later) behind = (before < most_silent) × Runs (with_next (is_unheard look.left.looker.stage) before) later behind

-- ---- a reader

-- it was told nothing
pub record IsNewReader (reader : Reader) : Type 0 where
  pub none : has_none reader.backup
  pub quiet : reader.silent ≡ 0

-- what came of reading a record, by its first byte
abbrev pub first_of : Answer → Option ℕ
first_of (Found byte) = Some byte
first_of Missing = None

-- a reader takes the data that a record shows, that its Get was refused, or that it wasn't answered
pub record TakesShown (key : Key) (shown : List ℕ) (answer : Answer) (old new : Reader) : Type 0 where
  pub takes : Takes key shown old.backup new.backup
  pub quiet : new.silent ≡ 0
  pub answers : answer ≡ Found (byte_at shown 0)

pub record TakesRefusal (key : Key) (code : ℕ) (answer : Answer) (old new : Reader) : Type 0 where
  pub takes : RemarksRefusal (is_absence (bus_at key) code) key code old.backup new.backup
  pub quiet : new.silent ≡ 0
  pub answers : answer ≡ Missing

pub record TakesSilence (key : Key) (answer : Answer) (old new : Reader) : Type 0 where
  pub takes : AddsRemark key Unanswered old.backup new.backup
  pub more : new.silent ≡ suc old.silent
  pub answers : answer ≡ Missing

abbrev pub TakesSeen : Key → Option Seen → Answer → (old new : Reader) → Type 0
TakesSeen key (Some (Shown bytes)) answer old new = TakesShown key bytes.now answer old new
TakesSeen key (Some (IsRefused code)) answer old new = TakesRefusal key code answer old new
TakesSeen key None answer old new = TakesSilence key answer old new

-- or what the last look of a session came to
abbrev pub TakesLook : Key → Session → Answer → (old new : Reader) → Type 0
TakesLook key session answer old new = (seen : Option Seen) × IsSeen session.looker.stage session.looker.shown seen × TakesSeen key seen answer old new

-- records were looked at one after another, those that were to be asked for, and the reader was told of each
pub record Reads (asking : Asking) (from to : Session) (old new : Reader) : Type 0 where
  pub looks : List Look
  pub made : LooksEach looks from to
  pub told : TellsEach looks old.backup new.backup
  pub runs : Runs old.silent looks new.silent
  pub asked : asking (map told_of looks)

-- and reading goes on
pub record ReadsOn (asking : Asking) (from to : Session) (old new : Reader) : Type 0 where
  pub reads : Reads asking from to old new
  pub goes_on : new.silent < most_silent

-- or it ends: as many Gets in a row weren't answered as end it; or memory was refused behind some looks
abbrev pub StopsBy : Asking → ReadFault → (from to : Session) → (old new : Reader) → Type 0
StopsBy asking fault.Silent from to old new = Reads (Begins asking) from to old new × (new.silent ≡ most_silent)
StopsBy asking fault.Memory from to old new = (looks : List Look) × LooksEach looks from to × Begins asking (map told_of looks)

-- where there was memory for the names of the records
abbrev pub ReadsNamed : Result (Vec Key Global) AllocError → (from to : Session) → (old new : Reader) → Type 0
ReadsNamed (Ok keys) from to old new = ReadsOn (AsksEach keys.items) from to old new
ReadsNamed (Err refused) from to old new = ⊥

abbrev pub StopsNamed : Result (Vec Key Global) AllocError → ReadFault → (from to : Session) → (old new : Reader) → Type 0
StopsNamed (Ok keys) why from to old new = StopsBy (AsksEach keys.items) why from to old new
StopsNamed (Err refused) why from to old new = (why ≡ fault.Memory) × (to ≡ from)
