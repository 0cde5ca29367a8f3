-- A lab in which a schedule comes about.
use Rattle.std.specs.Prelude.{◌≡◌, ◌≤◌, ℕ, true, false, List, [], ◌∷◌, ◌++◌, length, Option, Some, None, Result, Ok, is_ok}
use Rattle.std.specs.List.{AllByRecursion}
use Rattle.two_wire.specs.declared.Bus.{Bus}
use Rattle.cfg_records.specs.declared.board_file.BoardFile.{BoardFile}
use Rattle.model_undo.specs.declared.call.Call.{Call as Called}
use Rattle.text_lines.specs.declared.event.Event.{Event}
use Rattle.text_lines.specs.declared.event.Event.TheVariants.{Calls, ToBmc, ToMgr}
use Rattle.text_lines.specs.Written.{has_line}
use Rattle.model_lab.specs.Lab as lab
use Rattle.model_lab.specs.Lab.{Lab as LabModel, step}
use Rattle.model_lab.specs.Faults.{AllTaken}
use Rattle.model_lab.specs.Clean.{DeliversFrom}
use Rattle.model_lab.specs.declared.way.Way.{Way}
use Rattle.model_lab.specs.declared.way.Way.TheVariants.{ToPort, ToManager, ToOthers}
use Rattle.model_lab.specs.Played.{plans, fault_at, happens, after, AreTaken}
use Rattle.model_headline.specs.Plays.{AllKeepPremise}
use Rattle.model_headline.specs.CleanPlays.{events_from}
use Rattle.lab_run.specs.declared.frames.SentFrame.{SentFrame}
use Rattle.lab_run.specs.declared.step.Refused.{Refused}
use Rattle.lab_run.specs.declared.step.Refused.TheVariants as refused
use Rattle.lab_run.specs.Shown.{Represents, idles_in}
use Rattle.lab_play.specs.Watched.{WatchRepresents}
use Rattle.lab_play.specs.declared.schedule_drawing.Drawing.{Drawing}
use Rattle.lab_play.specs.declared.schedule_drawing.OfferResult.{OfferResult}
use Rattle.lab_play.specs.declared.schedule_drawing.OfferResult.TheVariants.{Taken, Faulty, LeftOut}

-- how a frame of this number is delivered, by its way
abbrev pub delivered_by : ℕ → Way → Option Event
delivered_by number ToPort = Some (ToBmc number)
delivered_by number ToManager = Some (ToMgr number)
delivered_by number ToOthers = None

-- if there is such a frame
abbrev pub delivery_of : ℕ → Option SentFrame → Option Event
delivery_of number None = None
delivery_of number (Some frame) = delivered_by number frame.way

-- The lab began as this one of the model, and these events happened in it: it took each, and where no packet may join one that waits too long,
-- none did. A line can say each.
pub record IsDrawnSchedule (file : BoardFile) (first : LabModel plans) (drawing : Drawing) : Type 0 where
  pub shows : Represents file drawing.lab.value (after file drawing.events.items first)
  pub taken : AreTaken file drawing.events.items first
  pub watches : WatchRepresents drawing.watch (after file drawing.events.items first)
  pub kept : drawing.late ≡ false → AllKeepPremise file drawing.events.items first
  pub lines : AllByRecursion (λ e. has_line e ≡ true) drawing.events.items

-- the manager's windows were forgotten at most as often as something happened
abbrev pub HasFew : Drawing → Type 0
HasFew drawing = (on : Bus) → idles_in on drawing.lab.value.idles ≤ length drawing.events.items

-- whatever lab of the model it began as, it still did
abbrev pub StaysDrawn : Drawing → Drawing → Type 0
StaysDrawn old new = (file : BoardFile) (first : LabModel plans) → IsDrawnSchedule file first old → IsDrawnSchedule file first new

-- What comes of an event that is offered: it happens; or the lab has this fault to find with it; or it's left out, which no event is that a line
-- can say where packets may join late.
abbrev pub OffersEvent : Event → Drawing → OfferResult → Drawing → Type 0
OffersEvent e old Taken new = (new.events.items ≡ old.events.items ++ e ∷ []) × (new.late ≡ old.late) × StaysDrawn old new
OffersEvent e old (Faulty fault) new =
    (new ≡ old) × ((file : BoardFile) (first : LabModel plans) → IsDrawnSchedule file first old → fault_at file (after file old.events.items first) e ≡ Some fault)
OffersEvent e old LeftOut new = (new ≡ old) × (old.late ≡ true → has_line e ≡ false)

-- this is given where the lab didn't take the event
abbrev pub NotTaken : {E : Type 0} → Refused → Result OfferResult E → Type 0
NotTaken (refused.Fault fault) given = given ≡ Ok (Faulty fault)
NotTaken refused.Memory given = is_ok given ≡ false

-- ---- clean deliveries

-- there are events that deliver all frames from this number on, and the lab takes each
pub record CanDeliver (file : BoardFile) (number : ℕ) (x : LabModel plans) : Type 0 where
  pub events : List lab.Event
  pub delivered : DeliversFrom plans file number events x
  pub taken : AllTaken plans file events x

-- these events happened, and delivered all frames from this number on
pub record HasDelivered (file : BoardFile) (number : ℕ) (x : LabModel plans) (old new : Drawing) : Type 0 where
  pub done : List Event
  pub all : new.events.items ≡ old.events.items ++ done
  pub delivered : DeliversFrom plans file number (events_from file done x) x

-- what comes of the frames from this number on: where they can be delivered, they are
abbrev pub DeliversAll : ℕ → Drawing → Drawing → Type 0
DeliversAll number old new =
    (file : BoardFile) (first : LabModel plans) → IsDrawnSchedule file first old → old.late ≡ true → let x = after file old.events.items first in CanDeliver file number x
    → IsDrawnSchedule file first new × (new.late ≡ true) × HasDelivered file number x old new

-- the same of the call and of all frames that are sent from then on
pub record CanCarry (file : BoardFile) (call : Called) (x : LabModel plans) : Type 0 where
  pub events : List lab.Event
  pub delivered : DeliversFrom plans file (length x.frames) events (step plans file x (lab.Calls call))
  pub taken : AllTaken plans file (lab.Calls call ∷ events) x

pub record HasCarried (file : BoardFile) (call : Called) (x : LabModel plans) (old new : Drawing) : Type 0 where
  pub done : List Event
  pub all : new.events.items ≡ old.events.items ++ Calls call ∷ done
  pub delivered : DeliversFrom plans file (length x.frames) (events_from file done (happens file (Calls call) x)) (happens file (Calls call) x)

abbrev pub CarriesCall : Called → Drawing → Drawing → Type 0
CarriesCall call old new =
    (file : BoardFile) (first : LabModel plans) → IsDrawnSchedule file first old → old.late ≡ true → let x = after file old.events.items first in CanCarry file call x
    → IsDrawnSchedule file first new × (new.late ≡ true) × HasCarried file call x old new
