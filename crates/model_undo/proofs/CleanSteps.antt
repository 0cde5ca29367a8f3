-- One request where the board answers at once: what the manager and the board become, and that what holds of them is kept.
use Rattle.std.proofs.Common.{◌≡◌, ◌+◌, Bool, true, List, Some, None, ap, arith}
use Rattle.std.specs.Prelude.{if◌then◌else◌}
use Rattle.two_wire.specs.declared.Bus.{Bus}
use Rattle.two_wire.specs.declared.Bus.TheVariants.{Ipmb, Smbus}
use Rattle.model_bus.specs.Answered.{Answered}
use Rattle.model_undo.specs.Family.{Family, AllValid, IsReady}
use Rattle.model_undo.specs.IsFamily.{IsFamily}
use Rattle.model_undo.specs.Machine.{Counts, one_answered, Task, Part, Stage, Opened, Machine, bus_at, enters, stage_after, undo_after, takes}
use Rattle.model_undo.specs.Clean.{Moment, answered_in_all, AnswersByRow, one, after_turn}
use Rattle.model_undo.proofs.StageSound.{StageSound}
use Rattle.model_undo.proofs.Calls.{carried_sound, carried_valid, carried_ready, taken_good}

pub one_more_answered : (bus : Bus) (c : Counts) → answered_in_all (one_answered bus c) ≡ answered_in_all c + 1
one_more_answered Ipmb c = omega arith
one_more_answered Smbus c = omega arith

module _ (F : Family) (laws : IsFamily F) (answer : F.Board → F.words.Asked → Answered × F.Board) (by_row : AnswersByRow F answer) (plan : List F.words.Op) (start : F.Records) where
  -- a stage that was just entered
  abbrev pub at_stage : Stage F.words → Machine F.words → F.Board → Moment F
  at_stage stage m b = record { turn = enters F.words stage m; board = b }

  pub record Good (stage : Stage F.words) (m : Machine F.words) (b : F.Board) : Type 0 where
    pub sound : StageSound F plan start m.plan stage None m.stopped m.undo b
    pub valid : AllValid F (F.records b)
    pub free : IsReady F b

  -- the machine after the reply to a task's open request
  abbrev pub replied : Task F.words → Part F.words → Machine F.words → Answered → Machine F.words
  replied task part m a = record m { stage = Opened true task part; resent = 0; undo = undo_after F.words a task part m.undo; counts = one_answered (bus_at F.words part) m.counts }

  pub one_part : (task : Task F.words) (part : Part F.words) (m : Machine F.words) (b : F.Board) → let r = answer b part.asked in
      one F answer (at_stage (Opened true task part) m b) ≡ at_stage (stage_after F.words m.stopped m.plan r.0 task part) (replied task part m r.0) r.1
  one_part task part m b =
      let r = answer b part.asked in
      let before : Machine F.words = record m { stage = Opened true task part; resent = 0 } in
      ap (λ (busy : Bool). after_turn F answer (if busy then None else Some (takes F.words r.0 task part before)) r.1 (at_stage (Opened true task part) m b)) (laws.never_busy b r.1 part.asked r.0 (by_row b part.asked))

  pub part_good : (task : Task F.words) (part : Part F.words) (m : Machine F.words) (b : F.Board) → Good (Opened true task part) m b → let r = answer b part.asked in
      Good (stage_after F.words m.stopped m.plan r.0 task part) (replied task part m r.0) r.1
  part_good task part m b h =
      let r = answer b part.asked in
      let row = by_row b part.asked in
      let valid = carried_valid F laws plan start m.plan b r.1 r.0 task part m.undo h.sound.0 h.sound.2 h.valid row in
      let free = carried_ready F laws plan start m.plan b r.1 r.0 task part m.undo h.sound.0 h.sound.2 h.free row in
      record {
        sound = taken_good F laws plan start m.plan r.0 task part m.stopped m.undo r.1 h.sound.2 (carried_sound F laws plan start m.plan b r.1 r.0 task part m.undo h.sound.0 h.sound.2 row) valid free;
        valid = valid;
        free = free;
      }
