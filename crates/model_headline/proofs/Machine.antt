-- The manager's table is the machine of the undo model.
use Rattle.std.proofs.Common.{◌≡◌, ℕ, suc, ◌+◌, Bool, true, false, cond, List, [], ◌∷◌, ◌++◌, length, map, Option, Some, None, refl, sym, ◌∙◌, ap}
use Rattle.std.specs.Prelude.{◌==◌, nat_lt, slice_get}
use Rattle.std.specs.Option.{option_map}
use Rattle.std.proofs.lemmas.List.{length-map}
use Rattle.two_wire.specs.Codes.{success}
use Rattle.two_wire.specs.declared.Bus.{Bus}
use Rattle.two_wire.specs.declared.Bus.TheVariants.{Ipmb, Smbus}
use Rattle.record_base.specs.declared.op.Op.{Op}
use Rattle.record_base.specs.declared.message.Asked.{Asked}
use Rattle.record_base.specs.declared.message.Answered.{Answered}
use Rattle.record_kinds.specs.Limits.{key_of, inverse}
use Rattle.undo_plans.specs.declared.names.Names.{Names}
use Rattle.model_undo.specs.Words.{Words}
use Rattle.model_undo.specs.Machine as machine
use Rattle.model_lab.specs.ManagerSteps as manager
use Rattle.model_headline.specs.Manager.{Call, Start, Quiet, Stop, Again, Undo, Task, Gets, Sets, Undoes, Phase, Fresh, Open, Done, Halted, Undone, UndoRefused, Manager, Turn, enters, rests, next_step, set_step, undo_step, called, carried_out, refused, one_more, bus_of, shown_by, Reads, sends, next_after, series_of, by_manager, asked_for}
use Rattle.model_headline.specs.Seen.{seen_as, words_of, seen_plans, seen_words, seen_call, seen_task, part_of, stage_of, counts_of, machine_of}
use Rattle.model_headline.proofs.ClaimSeries.{after_is}
use Rattle.model_undo.specs.declared.phase.Why.TheVariants as undo_why

module _ (names : Names) where
  abbrev M : Words
  M = seen_words names

  -- what a turn sends
  abbrev pub sends_of : Turn → Option (machine.Sending M)
  sends_of t = let none : Option (machine.Sending M) = None in cond t.sends (machine.sends_at M (stage_of names t.manager.phase) (counts_of names t.manager.answered)) none

  abbrev pub seen_turn : Turn → machine.Turn M
  seen_turn t = record { machine = machine_of names t.manager; sends = sends_of t }

  -- the manager in a phase
  abbrev pub at_phase : Phase → Manager → Manager
  at_phase phase m = record m { phase = phase }

  -- ---- calls

  abbrev pub turn_at : Call → machine.Stage M → machine.Machine M → Option (machine.Turn M)
  turn_at Start stage m = machine.starts M stage m
  turn_at Quiet stage m = machine.quiets M stage m
  turn_at Stop stage m = machine.stops M stage m
  turn_at Again stage m = machine.agains M stage m
  turn_at Undo stage m = machine.undoes M stage m

  pub turns_at : (call : Call) (m : machine.Machine M) → machine.call_of M (seen_call call) m ≡ turn_at call m.stage m
  turns_at Start m = refl
  turns_at Quiet m = refl
  turns_at Stop m = refl
  turns_at Again m = refl
  turns_at Undo m = refl

  -- what waits is what the call leaves
  pub record Waits (call : Call) (made : List ℕ) (before after : Manager) : Type 0 where
    pub made_then : List ℕ
    pub is : manager.waits_after (seen_plans names) (seen_call call) (seen_as before.waits made) ≡ seen_as after.waits made_then

  -- the machine's turn is the manager's, or there is none, and nothing changes
  abbrev pub IsTurn : Call → (made : List ℕ) → Option (machine.Turn M) → Manager → Turn → Type 0
  IsTurn call made None m t = t ≡ rests m
  IsTurn call made (Some T) m t = (T ≡ seen_turn t) × Waits call made m t.manager

  begins : (o : Option Op) (m : Manager) → machine.enters M (machine.first_stage M o) (machine_of names m) ≡ seen_turn (enters (next_step false 0 o) m)
  begins None m = refl
  begins (Some op) m = refl

  goes_back : (ops : List Op) (m : Manager) → machine.enters M (machine.undo_stage M (map sends ops)) (machine_of names m) ≡ seen_turn (enters (undo_step ops) m)
  goes_back [] m = refl
  goes_back (back ∷ rest) m = refl

  module _ (made : List ℕ) (m : Manager) where
    pub call_turn : (call : Call) (phase : Phase) → IsTurn call made (turn_at call (stage_of names phase) (machine_of names (at_phase phase m))) (at_phase phase m) (called call phase (at_phase phase m))
    call_turn Start Fresh = (begins (slice_get m.plan 0) (at_phase Fresh m), record { made_then = made; is = waits_same (next_step false 0 (slice_get m.plan 0)) })
      where
        waits_same : (phase : Phase) → seen_as m.waits made ≡ seen_as (enters phase (at_phase Fresh m)).manager.waits made
        waits_same phase = refl
    call_turn Start (Open true task bodies) = refl
    call_turn Start (Open false task bodies) = refl
    call_turn Start Done = refl
    call_turn Start (Halted k why) = refl
    call_turn Start Undone = refl
    call_turn Start (UndoRefused k code) = refl
    call_turn Quiet Fresh = refl
    call_turn Quiet (Open true task bodies) = at (nat_lt m.resent m.retries)
      where
        again : Turn
        again = record { manager = record (at_phase (Open true task bodies) m) { resent = m.resent + 1 }; sends = true }

        stays : Turn
        stays = rests (record (at_phase (Open true task bodies) m) { phase = Open false task bodies })

        at : (b : Bool) → IsTurn Quiet made (cond b (Some (seen_turn again)) (Some (seen_turn stays))) (at_phase (Open true task bodies) m) (cond b again stays)
        at true = (refl, record { made_then = made; is = refl })
        at false = (refl, record { made_then = made; is = refl })
    call_turn Quiet (Open false task bodies) = refl
    call_turn Quiet Done = refl
    call_turn Quiet (Halted k why) = refl
    call_turn Quiet Undone = refl
    call_turn Quiet (UndoRefused k code) = refl
    call_turn Stop Fresh = refl
    call_turn Stop (Open true (Gets k op) bodies) = (refl, record { made_then = made; is = refl })
    call_turn Stop (Open true (Sets k op back) bodies) = (refl, record { made_then = made; is = refl })
    call_turn Stop (Open true (Undoes back rest) bodies) = refl
    call_turn Stop (Open false task bodies) = refl
    call_turn Stop Done = refl
    call_turn Stop (Halted k why) = refl
    call_turn Stop Undone = refl
    call_turn Stop (UndoRefused k code) = refl
    call_turn Again Fresh = refl
    call_turn Again (Open true task bodies) = refl
    call_turn Again (Open false task bodies) = (refl, record { made_then = made; is = refl })
    call_turn Again Done = refl
    call_turn Again (Halted k why) = refl
    call_turn Again Undone = refl
    call_turn Again (UndoRefused k code) = refl
    call_turn Undo Fresh = refl
    call_turn Undo (Open true task bodies) = refl
    call_turn Undo (Open false task bodies) = refl
    call_turn Undo Done = (goes_back m.undo (record (at_phase Done m) { waits = [] }), record { made_then = []; is = refl })
    call_turn Undo (Halted k why) = (goes_back m.undo (record (at_phase (Halted k why) m) { waits = [] }), record { made_then = []; is = refl })
    call_turn Undo Undone = refl
    call_turn Undo (UndoRefused k code) = refl

  -- ---- replies

  counts_alike : (on : Bus) (answered : Bus → ℕ) → machine.one_answered on (counts_of names answered) ≡ counts_of names (one_more on answered)
  counts_alike Ipmb answered = refl
  counts_alike Smbus answered = refl

  sets_then : (stopped : Bool) (k : ℕ) (op : Op) (o : Option Op) (m : Manager) → machine.enters M (machine.set_stage M stopped k op o) (machine_of names m) ≡ seen_turn (enters (set_step stopped k op o) m)
  sets_then stopped k op None m = refl
  sets_then true k op (Some back) m = refl
  sets_then false k op (Some back) m = refl

  gets_then : (stopped : Bool) (k : ℕ) (o : Option Op) (m : Manager) → machine.enters M (machine.next_stage M stopped k o) (machine_of names m) ≡ seen_turn (enters (next_step stopped k o) m)
  gets_then stopped k None m = refl
  gets_then true k (Some op) m = refl
  gets_then false k (Some op) m = refl

  -- another request of the record, unless the plan is to stop
  more_gets : (stopped : Bool) (k : ℕ) (op : Op) (bodies : List (List ℕ)) (m : Manager)
      → machine.enters M (machine.goes_on M stopped (machine.Gets k op) (part_of names (asked_for names (Gets k op) bodies) bodies)) (machine_of names m)
      ≡ seen_turn (enters (cond stopped (Halted k Stop) (Open true (Gets k op) bodies)) m)
  more_gets true k op bodies m = refl
  more_gets false k op bodies m = refl

  -- the manager once the request was answered
  abbrev pub answered : Task → List (List ℕ) → Manager → Manager
  answered task bodies m = record m { answered = one_more (bus_of (asked_for names task bodies)) m.answered }

  module _ (a : Answered) (m : Manager) (bodies : List (List ℕ)) where
    -- the data of the replies, with those of this one
    abbrev pub bodies_then : List (List ℕ)
    bodies_then = bodies ++ a.body ∷ []

    -- the turn that the answer makes
    abbrev pub turn_told : Task → Turn
    turn_told task = cond (a.code == success) (carried_out (next_after (series_of task) bodies_then) task bodies_then (answered task bodies m)) (refused task a.code (answered task bodies m))

    -- the machine takes the reply to the request of a task, with these counts
    abbrev takes_with : Task → machine.Counts → machine.Turn M
    takes_with task counts =
        machine.enters M (machine.stage_after M m.stopped m.plan (words_of a) (seen_task names task) (part_of names (asked_for names task bodies) bodies))
        (record (machine_of names m) { undo = machine.undo_after M (words_of a) (seen_task names task) (part_of names (asked_for names task bodies) bodies) (map sends m.undo); counts = counts })

    counted : (task : Task) → takes_with task (machine.one_answered (bus_of (asked_for names task bodies)) (counts_of names m.answered)) ≡ takes_with task (counts_of names (answered task bodies m).answered)
    counted task = ap (takes_with task) (counts_alike (bus_of (asked_for names task bodies)) m.answered)

    -- the manager's next request, where there is one
    abbrev next : Option Asked → Option Asked
    next another = option_map (by_manager names) another

    -- it is the one after these replies
    open_then : (task : Task) (asked : Asked) → next_after (series_of task) bodies_then ≡ Some asked → by_manager names asked ≡ asked_for names task bodies_then
    open_then task asked e = ap (by_manager names) (sym (after_is (series_of task) bodies a.body asked e))

    pub takes_turn : (task : Task) → machine.takes M (words_of a) (seen_task names task) (part_of names (asked_for names task bodies) bodies) (machine_of names m) ≡ seen_turn (turn_told task)
    takes_turn (Gets k op) = counted (Gets k op) ∙ at (a.code == success) (next_after (Reads (key_of op)) bodies_then) refl
      where
        at : (ok : Bool) (another : Option Asked) → next_after (Reads (key_of op)) bodies_then ≡ another
            → machine.enters M (cond ok (machine.told_stage M m.stopped m.plan (machine.Gets k op) bodies_then (next another)) (machine.AtHalt k (undo_why.GetRefused a.code))) (machine_of names (answered (Gets k op) bodies m))
            ≡ seen_turn (cond ok (carried_out another (Gets k op) bodies_then (answered (Gets k op) bodies m)) (refused (Gets k op) a.code (answered (Gets k op) bodies m)))
        at true None e = sets_then m.stopped k op (inverse op (shown_by (key_of op) bodies_then)) (answered (Gets k op) bodies m)
        at true (Some asked) e =
            ap (λ (q : Asked). machine.enters M (machine.goes_on M m.stopped (machine.Gets k op) (part_of names q bodies_then)) (machine_of names (answered (Gets k op) bodies m))) (open_then (Gets k op) asked e)
            ∙ more_gets m.stopped k op bodies_then (answered (Gets k op) bodies m)
        at false another e = refl
    takes_turn (Sets k op back) = counted (Sets k op back) ∙ at (a.code == success) (next_after (sends op) bodies_then) refl
      where
        at : (ok : Bool) (another : Option Asked) → next_after (sends op) bodies_then ≡ another
            → machine.enters M (cond ok (machine.told_stage M m.stopped m.plan (machine.Sets k op back) bodies_then (next another)) (machine.AtHalt k (undo_why.Refused a.code)))
            (record (machine_of names (answered (Sets k op back) bodies m)) { undo = cond ok (machine.undo_with M back (next another) (map sends m.undo)) (map sends m.undo) })
            ≡ seen_turn (cond ok (carried_out another (Sets k op back) bodies_then (answered (Sets k op back) bodies m)) (refused (Sets k op back) a.code (answered (Sets k op back) bodies m)))
        at true None e = gets_then m.stopped (suc k) (slice_get m.plan (suc k)) (record (answered (Sets k op back) bodies m) { undo = back ∷ m.undo })
        at true (Some asked) e =
            ap (λ (q : Asked). machine.enters M (machine.Opened true (machine.Sets k op back) (part_of names q bodies_then)) (machine_of names (answered (Sets k op back) bodies m))) (open_then (Sets k op back) asked e)
        at false another e = refl
    takes_turn (Undoes back rest) = counted (Undoes back rest) ∙ at (a.code == success) (next_after (sends back) bodies_then) refl
      where
        at : (ok : Bool) (another : Option Asked) → next_after (sends back) bodies_then ≡ another
            → machine.enters M (cond ok (machine.told_stage M m.stopped m.plan (seen_task names (Undoes back rest)) bodies_then (next another)) (machine.AtRefused (length (map sends rest)) a.code))
            (machine_of names (answered (Undoes back rest) bodies m))
            ≡ seen_turn (cond ok (carried_out another (Undoes back rest) bodies_then (answered (Undoes back rest) bodies m)) (refused (Undoes back rest) a.code (answered (Undoes back rest) bodies m)))
        at true None e = goes_back rest (answered (Undoes back rest) bodies m)
        at true (Some asked) e =
            ap (λ (q : Asked). machine.enters M (machine.Opened true (seen_task names (Undoes back rest)) (part_of names q bodies_then)) (machine_of names (answered (Undoes back rest) bodies m))) (open_then (Undoes back rest) asked e)
        at false another e = ap (λ (n : ℕ). machine.enters M (machine.AtRefused n a.code) (machine_of names (answered (Undoes back rest) bodies m))) (length-map rest sends)
