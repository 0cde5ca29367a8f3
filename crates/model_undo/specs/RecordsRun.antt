-- A manager and a board, without buses: the open request is carried out at most once, its reply is taken, and nothing else changes a
-- record.
use Rattle.std.specs.Prelude.{ℕ, List, [], ◌∷◌, Option, Some, None}
use Rattle.model_bus.specs.Answered.{Answered}
use Rattle.model_undo.specs.declared.call.Call.{Call}
use Rattle.model_undo.specs.declared.call.Call.TheVariants.{Start, Quiet, Stop, Again, Undo}
use Rattle.model_undo.specs.Family.{Family, AllValid, IsReady, KeepsRecords}
use Rattle.model_undo.specs.Plan.{PhaseMeans, HaltMeans}
use Rattle.model_undo.specs.Machine.{Stage, Opened, AtEnd, AtHalt, Machine, Turn, phase_of, start_of, quiet_of, stop_of, again_of, undo_of, reply_of, opened}
use Rattle.model_undo.specs.Resume.{list_of, resumed}
use Rattle.model_undo.specs.Restart.{restarted}

-- `reply` is the answer to the open request, if that was carried out and the answer isn't taken yet
pub record Desk (family : Family) : Type 0 where
  pub machine : Machine family.words
  pub reply : Option Answered
  pub board : family.Board

pub data DeskEvent (family : Family) : Type 0 where
  -- the manager is called
  Calls : (call : Call) → DeskEvent family
  -- another manager goes on from the list, where the plan ended or halted
  Resumes : (retries : ℕ) → DeskEvent family
  -- the manager's process ends, and it is made again of what it wrote down
  Restarts : DeskEvent family
  -- the open request is carried out, unless it was before
  Carries : (answered : Answered) (after : family.Board) → DeskEvent family
  -- the manager takes the reply, if there is one
  Takes : DeskEvent family
  -- the board becomes another in another way
  Elsewhere : (after : family.Board) → DeskEvent family

module _ (family : Family) where
  -- a call that may open a request, which has no reply yet
  abbrev pub opens : Option (Turn family.words) → Desk family → Desk family
  opens None desk = desk
  opens (Some turn) desk = record desk { machine = turn.machine; reply = None }

  -- a call that opens none
  abbrev pub stays : Option (Turn family.words) → Desk family → Desk family
  stays None desk = desk
  stays (Some turn) desk = record desk { machine = turn.machine }

  abbrev pub resumes : ℕ → Stage family.words → Desk family → Desk family
  resumes retries AtEnd desk = record desk { machine = resumed family.words retries (list_of family.words desk.machine) }
  resumes retries (AtHalt step why) desk = record desk { machine = resumed family.words retries (list_of family.words desk.machine) }
  resumes retries _ desk = desk

  abbrev pub carries : Stage family.words → Option Answered → Answered → family.Board → Desk family → Desk family
  carries (Opened heeded task part) None answered after desk = record desk { reply = Some answered; board = after }
  carries _ _ answered after desk = desk

  abbrev pub takes : Option Answered → Desk family → Desk family
  takes None desk = desk
  takes (Some answered) desk = opens (reply_of family.words answered desk.machine) desk

  abbrev pub happens : Desk family → DeskEvent family → Desk family
  happens desk (Calls Start) = opens (start_of family.words desk.machine) desk
  happens desk (Calls Quiet) = stays (quiet_of family.words desk.machine) desk
  happens desk (Calls Stop) = stays (stop_of family.words desk.machine) desk
  happens desk (Calls Again) = stays (again_of family.words desk.machine) desk
  happens desk (Calls Undo) = opens (undo_of family.words desk.machine) desk
  happens desk (Resumes retries) = resumes retries desk.machine.stage desk
  happens desk Restarts = record desk { machine = restarted family.words desk.machine }
  happens desk (Carries answered after) = carries desk.machine.stage desk.reply answered after desk
  happens desk Takes = takes desk.reply desk
  happens desk (Elsewhere after) = record desk { board = after }

  -- the board answers the open request by the command relation
  abbrev pub StageAnswered : Stage family.words → family.Board → Answered → family.Board → Type 0
  StageAnswered (Opened heeded task part) board answered after = family.Row board part.asked answered after
  StageAnswered _ board answered after = Unit {0}

  -- nothing else changes a record, or what the board is ready for
  abbrev pub MayHappen : Desk family → DeskEvent family → Type 0
  MayHappen desk (Carries answered after) = StageAnswered desk.machine.stage desk.board answered after
  MayHappen desk (Elsewhere after) = KeepsRecords family desk.board after
  MayHappen desk _ = Unit {0}

  abbrev pub run : List (DeskEvent family) → Desk family → Desk family
  run [] desk = desk
  run (desk_event ∷ desk_events) desk = run desk_events (happens desk desk_event)

  abbrev pub AllMay : List (DeskEvent family) → Desk family → Type 0
  AllMay [] desk = Unit {0}
  AllMay (desk_event ∷ desk_events) desk = MayHappen desk desk_event × AllMay desk_events (happens desk desk_event)

  abbrev pub at_desk : List family.words.Op → ℕ → family.Board → Desk family
  at_desk plan retries board = record { machine = opened family.words plan retries; reply = None; board = board }

  -- at every moment the phase stands on the records, and a halt has its cause
  abbrev pub RecordsStand : Type 0
  RecordsStand = (plan : List family.words.Op) (retries : ℕ) (board : family.Board) → AllValid family (family.records board) → IsReady family board
      → (events : List (DeskEvent family)) → AllMay events (at_desk plan retries board)
      → let desk = run events (at_desk plan retries board) in
      PhaseMeans family plan (family.records board) (phase_of family.words desk.machine) (family.records desk.board)
      × HaltMeans family desk.machine.stopped plan (phase_of family.words desk.machine) (family.records desk.board)
