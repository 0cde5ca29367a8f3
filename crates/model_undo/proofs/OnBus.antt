-- A request goes out on its own bus, whatever the machine is called and whatever reply comes.
use Rattle.std.proofs.Common.{◌≡◌, ◌+◌, Bool, true, false, Option, Some, None, refl}
use Rattle.std.specs.Prelude.{nat_lt, slice_get, if◌then◌else◌}
use Rattle.model_bus.specs.Answered.{Answered}
use Rattle.model_undo.specs.declared.call.Call.TheVariants as manager_call
use Rattle.model_undo.specs.Words.{is_busy, Words}
use Rattle.model_undo.specs.Machine.{Counts, one_answered, Task, Part, Gets, Sets, Undoes, Stage, AtStart, Opened, AtEnd, AtHalt, AtUndone, AtRefused, Machine, Sending, Turn, bus_at, sending, sends_at, first_stage, undo_stage, stage_after, starts, undoes, quiets, agains, stops, replies, takes}
use Rattle.model_undo.specs.Resume.{Input, Called, Replies, turn_of}

module _ (M : Words) where
  abbrev pub IsOnBus : Option (Sending M) → Type 0
  IsOnBus None = Unit {0}
  IsOnBus (Some s) = s.bus ≡ M.bus_of s.asked

  abbrev pub SendsOnBus : Option (Turn M) → Type 0
  SendsOnBus None = Unit {0}
  SendsOnBus (Some t) = IsOnBus t.sends

  entered : (stage : Stage M) (counts : Counts) → IsOnBus (sends_at M stage counts)
  entered (Opened heeded task part) counts = refl
  entered AtStart counts = tt
  entered AtEnd counts = tt
  entered (AtHalt k why) counts = tt
  entered AtUndone counts = tt
  entered (AtRefused k code) counts = tt

  start_on : (stage : Stage M) (m : Machine M) → SendsOnBus (starts M stage m)
  start_on AtStart m = entered (first_stage M (slice_get m.plan 0)) m.counts
  start_on (Opened heeded task part) m = tt
  start_on AtEnd m = tt
  start_on (AtHalt k why) m = tt
  start_on AtUndone m = tt
  start_on (AtRefused k code) m = tt

  undo_on : (stage : Stage M) (m : Machine M) → SendsOnBus (undoes M stage m)
  undo_on AtEnd m = entered (undo_stage M m.undo) m.counts
  undo_on (AtHalt k why) m = entered (undo_stage M m.undo) m.counts
  undo_on AtStart m = tt
  undo_on (Opened heeded task part) m = tt
  undo_on AtUndone m = tt
  undo_on (AtRefused k code) m = tt

  quiet_turn : (b : Bool) (task : Task M) (part : Part M) (m : Machine M)
      → SendsOnBus (if b then Some (record { machine = record m { resent = m.resent + 1 }; sends = Some (sending M part m.counts) }) else Some (record { machine = record m { stage = Opened false task part }; sends = None }))
  quiet_turn true task part m = refl
  quiet_turn false task part m = tt

  quiet_on : (stage : Stage M) (m : Machine M) → SendsOnBus (quiets M stage m)
  quiet_on (Opened true task part) m = quiet_turn (nat_lt m.resent m.retries) task part m
  quiet_on (Opened false task part) m = tt
  quiet_on AtStart m = tt
  quiet_on AtEnd m = tt
  quiet_on (AtHalt k why) m = tt
  quiet_on AtUndone m = tt
  quiet_on (AtRefused k code) m = tt

  again_on : (stage : Stage M) (m : Machine M) → SendsOnBus (agains M stage m)
  again_on (Opened false task part) m = refl
  again_on (Opened true task part) m = tt
  again_on AtStart m = tt
  again_on AtEnd m = tt
  again_on (AtHalt k why) m = tt
  again_on AtUndone m = tt
  again_on (AtRefused k code) m = tt

  stop_on : (stage : Stage M) (m : Machine M) → SendsOnBus (stops M stage m)
  stop_on (Opened true (Gets k op) part) m = tt
  stop_on (Opened true (Sets k op back) part) m = tt
  stop_on (Opened true (Undoes u us) part) m = tt
  stop_on (Opened false task part) m = tt
  stop_on AtStart m = tt
  stop_on AtEnd m = tt
  stop_on (AtHalt k why) m = tt
  stop_on AtUndone m = tt
  stop_on (AtRefused k code) m = tt

  reply_on : (a : Answered) (stage : Stage M) (m : Machine M) → SendsOnBus (replies M a stage m)
  reply_on a (Opened true task part) m = by (is_busy a.code)
    where
      by : (b : Bool) → SendsOnBus (if b then None else Some (takes M a task part m))
      by true = tt
      by false = entered (stage_after M m.stopped m.plan a task part) (one_answered (bus_at M part) m.counts)
  reply_on a (Opened false task part) m = tt
  reply_on a AtStart m = tt
  reply_on a AtEnd m = tt
  reply_on a (AtHalt k why) m = tt
  reply_on a AtUndone m = tt
  reply_on a (AtRefused k code) m = tt

  pub sends_on_bus : (c : Input) (m : Machine M) → SendsOnBus (turn_of M c m)
  sends_on_bus (Called manager_call.Start) m = start_on m.stage m
  sends_on_bus (Called manager_call.Quiet) m = quiet_on m.stage m
  sends_on_bus (Called manager_call.Stop) m = stop_on m.stage m
  sends_on_bus (Called manager_call.Again) m = again_on m.stage m
  sends_on_bus (Called manager_call.Undo) m = undo_on m.stage m
  sends_on_bus (Replies a) m = reply_on a m.stage m
