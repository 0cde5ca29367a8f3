-- What is watched of the premise on packets.
use Rattle.std.specs.Prelude.{◌≡◌, ℕ, ◌-◌, ◌<◌, Bool, true, false, not, ◌&&◌, nat_lt, List, take, Option, Some, None, Result, Ok, Err, if◌then◌else◌, slice_get, slice_index, slice_set}
use Rattle.std.specs.Option.{is_none}
use Rattle.two_wire.specs.Circles.{tags}
use Rattle.two_wire.specs.declared.Bus.TheVariants.{Smbus}
use Rattle.model_bus.specs.Circle.{span_of}
use Rattle.cfg_records.specs.declared.board_file.BoardFile.{BoardFile}
use Rattle.bmc_core.specs.declared.out.Disposition.{Disposition}
use Rattle.bmc_core.specs.declared.out.Disposition.TheVariants as done
use Rattle.bmc_core.specs.declared.out.Reason.TheVariants as reason
use Rattle.model_lab.specs.Lab.{Lab as LabModel}
use Rattle.model_lab.specs.Played.{plans, happens, after}
use Rattle.model_headline.specs.Plays.{KeepsPremise, TellsPremise}
use Rattle.text_lines.specs.declared.event.Event.{Event}
use Rattle.lab_run.specs.declared.lab_state.Lab.{Lab}
use Rattle.lab_run.specs.declared.part.ManagerPart.{ManagerPart}
use Rattle.lab_run.specs.declared.step.Refused.{Refused}
use Rattle.lab_run.specs.declared.step.Refused.TheVariants as refused
use Rattle.lab_run.specs.Shown.{Represents}
use Rattle.lab_play.specs.declared.run.Stopped.{Stopped}
use Rattle.lab_play.specs.declared.watch.Watch.{Watch}

-- what the port did was to take a packet: one that went to it, and wasn't dropped
abbrev pub took : Disposition → Bool
took (done.Ignored reason.NotOurs) = false
took (done.Ignored (reason.Dropped cause)) = false
took _ = true

abbrev pub took_by : Option Disposition → Bool
took_by None = false
took_by (Some done) = took done

-- more requests were begun from the one on that was opened under the tag than the span
abbrev pub waits_long : List ℕ → (tag begun : ℕ) → Bool
waits_long opened tag begun = nat_lt (span_of Smbus) (begun - slice_index opened tag)

-- the request that is opened under each tag, once a packet came
abbrev pub opened_in : ManagerPart → List ℕ → List ℕ
opened_in part opened = if part.start && part.ours then slice_set opened part.tag part.request else opened

-- the first event to break the premise, once a packet came that was taken or not, at the event of this place
abbrev pub broken_at : Watch → ManagerPart → (begun : ℕ) → (taken : Bool) → (place : ℕ) → Option ℕ
broken_at watch part begun taken place = if is_none watch.broken && not part.start && taken && waits_long watch.opened part.tag begun then Some place else watch.broken

-- ---- what the watch knows of a lab

-- under each tag, the request whose start came last
abbrev pub WatchRepresents : Watch → LabModel plans → Type 0
WatchRepresents watch lab_model = (tag : ℕ) → tag < tags → slice_get watch.opened tag ≡ Some (lab_model.opened tag)

-- the first event to break the premise stays the first after one more event, unless that event, of this place, is the first
abbrev pub TellsNext : Option ℕ → Option ℕ → (place : ℕ) → Type 0 → Type 0
TellsNext (Some first) next place Keeps = next ≡ Some first
TellsNext None None place Keeps = Keeps
TellsNext None (Some first) place Keeps = (first ≡ place) × (¬ Keeps)

-- an event of this place is asked of a lab, and watched if it happens; where memory was refused, nothing is said
abbrev pub WatchesStep : Event → (place : ℕ) → Lab → Watch → Result (Unit {0}) Refused → Watch → Type 0
WatchesStep event place lab old (Ok did) new = (file : BoardFile) (lab_model : LabModel plans) → Represents file lab lab_model → WatchRepresents old lab_model
    → WatchRepresents new (happens file event lab_model) × TellsNext old.broken new.broken place (KeepsPremise file lab_model event)
WatchesStep event place lab old (Err (refused.Fault why)) new = new ≡ old
WatchesStep event place lab old (Err refused.Memory) new = Unit {0}

-- events happened, and this is told of the premise
abbrev pub WatchesAll : List Event → Lab → Watch → Watch → Type 0
WatchesAll events lab old new = (file : BoardFile) (lab_model : LabModel plans) → Represents file lab lab_model → WatchRepresents old lab_model
    → WatchRepresents new (after file events lab_model) × TellsPremise file events lab_model new.broken

-- events are asked of a lab, up to the first that isn't taken; where memory was refused, nothing is said
abbrev pub WatchesRun : {E : Type 0} → List Event → Lab → Watch → Result (Option Stopped) E → Watch → Type 0
WatchesRun events lab old (Ok None) new = WatchesAll events lab old new
WatchesRun events lab old (Ok (Some stopped)) new = WatchesAll (take (stopped.place - 1) events) lab old new
WatchesRun events lab old (Err memory) new = Unit {0}
