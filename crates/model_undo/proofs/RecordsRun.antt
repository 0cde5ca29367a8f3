-- Without buses, too, the phase stands on the records at every moment.
use Rattle.std.proofs.Common.{◌≡◌, ℕ, ◌+◌, Bool, true, false, List, [], ◌∷◌, length, Option, Some, None, refl, sym, subst}
use Rattle.std.specs.Prelude.{slice_get, IfSome, nat_lt, if◌then◌else◌}
use Rattle.std.proofs.lemmas.Bool.{cond_both}
use Rattle.model_bus.specs.Answered.{Answered}
use Rattle.model_undo.specs.Family.{Family, AllValid, IsReady}
use Rattle.model_undo.specs.IsFamily.{IsFamily}
use Rattle.model_undo.specs.Machine.{Gets, Sets, Undoes, Stage, AtStart, Opened, AtEnd, AtHalt, AtUndone, AtRefused, Machine, Turn, sending, starts, undoes, quiets, agains, stops, replies, takes, start_of, quiet_of, stop_of, again_of, undo_of, reply_of}
use Rattle.model_undo.specs.Resume.{list_of, resumed}
use Rattle.model_undo.specs.Restart.{restarts}
use Rattle.model_undo.specs.declared.call.Call.TheVariants.{Start, Quiet, Stop, Again, Undo}
use Rattle.model_undo.specs.RecordsRun as desk
use Rattle.model_undo.specs.RecordsRun.{Desk, DeskEvent, Calls, Resumes, Restarts, Carries, Takes, Elsewhere, MayHappen, AllMay, run, happens, StageAnswered, at_desk, RecordsStand}
use Rattle.model_undo.specs.Undoable.{CanUndo}
use Rattle.model_undo.proofs.Undoable.{length_of}
use Rattle.model_undo.proofs.StageSound.{StageSound, stage_kept, stage_stands, stage_halts}
use Rattle.model_undo.proofs.Calls.{carried_sound, carried_valid, carried_ready, taken_good, first_good, undo_good, stop_good}

module _ (F : Family) (laws : IsFamily F) (plan : List F.words.Op) (start : F.Records) where
  abbrev SoundAt : Stage F.words → Machine F.words → Option Answered → F.Board → Type 0
  SoundAt stage m reply b = StageSound F plan start m.plan stage reply m.stopped m.undo b

  record Holds (w : Desk F) : Type 0 where
    sound : SoundAt w.machine.stage w.machine w.reply w.board
    valid : AllValid F (F.records w.board)
    free : IsReady F w.board

  -- what a call leaves, where a request is opened or none
  abbrev Leaves : Option (Turn F.words) → Option Answered → F.Board → Type 0
  Leaves o reply b = IfSome o (λ t. SoundAt t.machine.stage t.machine reply b)

  starts_sound : (stage : Stage F.words) (m : Machine F.words) (reply : Option Answered) (b : F.Board) → SoundAt stage m reply b → Leaves (starts F.words stage m) None b
  starts_sound AtStart m reply b h = first_good F laws plan start m.plan (slice_get m.plan 0) m.stopped m.undo b refl h.0 h.1
  starts_sound (Opened heeded task part) m reply b h = tt
  starts_sound AtEnd m reply b h = tt
  starts_sound (AtHalt k why) m reply b h = tt
  starts_sound AtUndone m reply b h = tt
  starts_sound (AtRefused k code) m reply b h = tt

  undoes_sound : (stage : Stage F.words) (m : Machine F.words) (reply : Option Answered) (b : F.Board) → SoundAt stage m reply b → IsReady F b → Leaves (undoes F.words stage m) None b
  undoes_sound AtEnd m reply b h free = undo_good F laws plan start m.plan m.undo (length plan) m.stopped m.undo b h free
  undoes_sound (AtHalt k why) m reply b h free = undo_good F laws plan start m.plan m.undo k m.stopped m.undo b h.0 free
  undoes_sound AtStart m reply b h free = tt
  undoes_sound (Opened heeded task part) m reply b h free = tt
  undoes_sound AtUndone m reply b h free = tt
  undoes_sound (AtRefused k code) m reply b h free = tt

  stops_sound : (stage : Stage F.words) (m : Machine F.words) (reply : Option Answered) (b : F.Board) → stage ≡ m.stage → SoundAt stage m reply b → Leaves (stops F.words stage m) reply b
  stops_sound (Opened true (Gets k op) part) m reply b e h = subst (λ (s : Stage F.words). StageSound F plan start m.plan s reply true m.undo b) e (stop_good F laws plan start m.plan (Opened true (Gets k op) part) reply m.stopped m.undo b h)
  stops_sound (Opened true (Sets k op back) part) m reply b e h = subst (λ (s : Stage F.words). StageSound F plan start m.plan s reply true m.undo b) e (stop_good F laws plan start m.plan (Opened true (Sets k op back) part) reply m.stopped m.undo b h)
  stops_sound (Opened true (Undoes u us) part) m reply b e h = tt
  stops_sound (Opened false task part) m reply b e h = tt
  stops_sound AtStart m reply b e h = tt
  stops_sound AtEnd m reply b e h = tt
  stops_sound (AtHalt k why) m reply b e h = tt
  stops_sound AtUndone m reply b e h = tt
  stops_sound (AtRefused k code) m reply b e h = tt

  quiets_sound : (stage : Stage F.words) (m : Machine F.words) (reply : Option Answered) (b : F.Board) → stage ≡ m.stage → SoundAt stage m reply b → Leaves (quiets F.words stage m) reply b
  quiets_sound (Opened true task part) m reply b e h =
      cond_both (nat_lt m.resent m.retries) (Some (record { machine = record m { resent = m.resent + 1 }; sends = Some (sending F.words part m.counts) })) (Some (record { machine = record m { stage = Opened false task part }; sends = None })) (λ o. Leaves o reply b)
      (λ _. subst (λ (s : Stage F.words). SoundAt s m reply b) e h) (λ _. h)
  quiets_sound (Opened false task part) m reply b e h = tt
  quiets_sound AtStart m reply b e h = tt
  quiets_sound AtEnd m reply b e h = tt
  quiets_sound (AtHalt k why) m reply b e h = tt
  quiets_sound AtUndone m reply b e h = tt
  quiets_sound (AtRefused k code) m reply b e h = tt

  agains_sound : (stage : Stage F.words) (m : Machine F.words) (reply : Option Answered) (b : F.Board) → SoundAt stage m reply b → Leaves (agains F.words stage m) reply b
  agains_sound (Opened false task part) m reply b h = h
  agains_sound (Opened true task part) m reply b h = tt
  agains_sound AtStart m reply b h = tt
  agains_sound AtEnd m reply b h = tt
  agains_sound (AtHalt k why) m reply b h = tt
  agains_sound AtUndone m reply b h = tt
  agains_sound (AtRefused k code) m reply b h = tt

  replies_sound : (stage : Stage F.words) (m : Machine F.words) (a : Answered) (b : F.Board) → SoundAt stage m (Some a) b → AllValid F (F.records b) → IsReady F b → Leaves (replies F.words a stage m) None b
  replies_sound (Opened true task part) m a b h valid free =
      subst (λ (c : Bool). Leaves (if c then None else Some (takes F.words a task part m)) None b) (sym h.1) (taken_good F laws plan start m.plan a task part m.stopped m.undo b h.2 h.0 valid free)
  replies_sound (Opened false task part) m a b h valid free = tt
  replies_sound AtStart m a b h valid free = tt
  replies_sound AtEnd m a b h valid free = tt
  replies_sound (AtHalt k why) m a b h valid free = tt
  replies_sound AtUndone m a b h valid free = tt
  replies_sound (AtRefused k code) m a b h valid free = tt

  opened_holds : (o : Option (Turn F.words)) (w : Desk F) → Holds w → Leaves o None w.board → Holds (desk.opens F o w)
  opened_holds None w h s = h
  opened_holds (Some t) w h s = record { sound = s; valid = h.valid; free = h.free }

  stayed_holds : (o : Option (Turn F.words)) (w : Desk F) → Holds w → Leaves o w.reply w.board → Holds (desk.stays F o w)
  stayed_holds None w h s = h
  stayed_holds (Some t) w h s = record { sound = s; valid = h.valid; free = h.free }

  -- another manager goes on
  now_sound : (k retries : ℕ) (w : Desk F) → CanUndo F plan start k w.machine.undo (F.records w.board) → Holds w → Holds (record w { machine = resumed F.words retries (list_of F.words w.machine) })
  now_sound k retries w can h =
      record { sound = (subst (λ (n : ℕ). CanUndo F plan start n w.machine.undo (F.records w.board)) (sym (length_of F plan start k w.machine.undo (F.records w.board) can)) can, refl); valid = h.valid; free = h.free }

  resumes_hold : (retries : ℕ) (stage : Stage F.words) (w : Desk F) → SoundAt stage w.machine w.reply w.board → Holds w → Holds (desk.resumes F retries stage w)
  resumes_hold retries AtEnd w s h = now_sound (length plan) retries w s h
  resumes_hold retries (AtHalt k why) w s h = now_sound k retries w s.0 h
  resumes_hold retries AtStart w s h = h
  resumes_hold retries (Opened heeded task part) w s h = h
  resumes_hold retries AtUndone w s h = h
  resumes_hold retries (AtRefused k code) w s h = h

  -- the manager is made again
  restarts_sound : (stage : Stage F.words) (m : Machine F.words) (reply : Option Answered) (b : F.Board) → stage ≡ m.stage → SoundAt stage m reply b → let n = restarts F.words stage m in SoundAt n.stage n reply b
  restarts_sound (Opened heeded (Gets k op) part) m reply b e h = stop_good F laws plan start m.plan (Opened false (Gets k op) part) reply m.stopped m.undo b h
  restarts_sound (Opened heeded (Sets k op back) part) m reply b e h = stop_good F laws plan start m.plan (Opened false (Sets k op back) part) reply m.stopped m.undo b h
  restarts_sound (Opened heeded (Undoes u us) part) m reply b e h = h
  restarts_sound AtStart m reply b e h = subst (λ (s : Stage F.words). SoundAt s m reply b) e h
  restarts_sound AtEnd m reply b e h = subst (λ (s : Stage F.words). SoundAt s m reply b) e h
  restarts_sound (AtHalt k why) m reply b e h = subst (λ (s : Stage F.words). SoundAt s m reply b) e h
  restarts_sound AtUndone m reply b e h = subst (λ (s : Stage F.words). SoundAt s m reply b) e h
  restarts_sound (AtRefused k code) m reply b e h = subst (λ (s : Stage F.words). SoundAt s m reply b) e h

  carries_hold : (stage : Stage F.words) (reply : Option Answered) (a : Answered) (after : F.Board) (w : Desk F) → stage ≡ w.machine.stage → SoundAt stage w.machine reply w.board → Holds w → StageAnswered F stage w.board a after
      → Holds (desk.carries F stage reply a after w)
  carries_hold (Opened heeded task part) None a after w e s h row =
      record {
        sound = subst (λ (x : Stage F.words). SoundAt x w.machine (Some a) after) e
            (carried_sound F laws plan start w.machine.plan w.board after a task part w.machine.undo s.0 s.2 row, laws.never_busy w.board after part.asked a row, s.2);
        valid = carried_valid F laws plan start w.machine.plan w.board after a task part w.machine.undo s.0 s.2 h.valid row;
        free = carried_ready F laws plan start w.machine.plan w.board after a task part w.machine.undo s.0 s.2 h.free row;
      }
  carries_hold (Opened heeded task part) (Some told) a after w e s h row = h
  carries_hold AtStart reply a after w e s h row = h
  carries_hold AtEnd reply a after w e s h row = h
  carries_hold (AtHalt k why) reply a after w e s h row = h
  carries_hold AtUndone reply a after w e s h row = h
  carries_hold (AtRefused k code) reply a after w e s h row = h

  takes_hold : (reply : Option Answered) (w : Desk F) → SoundAt w.machine.stage w.machine reply w.board → Holds w → Holds (desk.takes F reply w)
  takes_hold None w s h = h
  takes_hold (Some a) w s h = opened_holds (reply_of F.words a w.machine) w h (replies_sound w.machine.stage w.machine a w.board s h.valid h.free)

  happens_holds : (w : Desk F) (e : DeskEvent F) → Holds w → MayHappen F w e → Holds (happens F w e)
  happens_holds w (Calls Start) h may = opened_holds (start_of F.words w.machine) w h (starts_sound w.machine.stage w.machine w.reply w.board h.sound)
  happens_holds w (Calls Quiet) h may = stayed_holds (quiet_of F.words w.machine) w h (quiets_sound w.machine.stage w.machine w.reply w.board refl h.sound)
  happens_holds w (Calls Stop) h may = stayed_holds (stop_of F.words w.machine) w h (stops_sound w.machine.stage w.machine w.reply w.board refl h.sound)
  happens_holds w (Calls Again) h may = stayed_holds (again_of F.words w.machine) w h (agains_sound w.machine.stage w.machine w.reply w.board h.sound)
  happens_holds w (Calls Undo) h may = opened_holds (undo_of F.words w.machine) w h (undoes_sound w.machine.stage w.machine w.reply w.board h.sound h.free)
  happens_holds w (Resumes retries) h may = resumes_hold retries w.machine.stage w h.sound h
  happens_holds w Restarts h may = record { sound = restarts_sound w.machine.stage w.machine w.reply w.board refl h.sound; valid = h.valid; free = h.free }
  happens_holds w (Carries a after) h may = carries_hold w.machine.stage w.reply a after w refl h.sound h may
  happens_holds w Takes h may = takes_hold w.reply w h.sound h
  happens_holds w (Elsewhere after) h may = record {
    sound = stage_kept F plan start w.machine.plan w.machine.undo w.board after may w.machine.stage w.reply w.machine.stopped h.sound;
    valid = subst (AllValid F) (sym may.0) h.valid;
    free = λ series. may.1 series [] (h.free series);
  }

  run_holds : (events : List (DeskEvent F)) (w : Desk F) → Holds w → AllMay F events w → Holds (run F events w)
  run_holds [] w h may = h
  run_holds (e ∷ es) w h may = run_holds es (happens F w e) (happens_holds w e h may.0) may.1

pub records_stand : (F : Family) → IsFamily F → RecordsStand F
records_stand F laws plan retries board valid free events may =
    let w = run F events (at_desk F plan retries board) in
    let h = run_holds F laws plan (F.records board) events (at_desk F plan retries board) (record { sound = (refl, refl); valid = valid; free = free }) may in (
      stage_stands F plan (F.records board) w.machine.plan w.machine.undo w.board w.machine.stage w.reply w.machine.stopped h.sound,
      stage_halts F plan (F.records board) w.machine.plan w.machine.undo w.board w.machine.stage w.reply w.machine.stopped h.sound,
    )
