-- The join: what holds of a manager's stage, its requests on two buses and a board, and how each effect keeps it.
use Rattle.std.proofs.Common.{◌≡◌, ℕ, Bool, false, List, [], length, Option, Some, None, refl, sym, ◌∙◌, ap, subst, inl, inr}
use Rattle.std.specs.Prelude.{slice_get}
use Rattle.std.proofs.lemmas.Option.{same_Some}
use Rattle.two_wire.specs.declared.Bus.{Bus}
use Rattle.model_bus.specs.BusState.{BusState}
use Rattle.model_bus.specs.Effect.{SameRequests, CarriesOpen, TakesReply}
use Rattle.model_bus.specs.Answered.{Answered}
use Rattle.model_undo.specs.Words.{is_busy}
use Rattle.model_undo.specs.Family.{Family, AllValid, IsReady, KeepsRecords}
use Rattle.model_undo.specs.IsFamily.{IsFamily}
use Rattle.model_undo.specs.Plan.{PhaseMeans, HaltMeans}
use Rattle.model_undo.specs.Machine.{Task, Part, Stage, AtStart, Opened, AtEnd, AtHalt, AtUndone, AtRefused, bus_at, phase_at, stage_after, undo_after}
use Rattle.model_undo.specs.Wires.{IsMade, Wires}
use Rattle.model_undo.specs.Joined.{OthersStill, IsClosed, request_bytes, Orderly, IsOpen, AreOpen, answer_in, answer_on, answer_at, EntersStage}
use Rattle.model_undo.proofs.StageSound.{TaskSound, IsPart, StageSound, task_made, stage_kept, stage_stands, stage_halts}
use Rattle.model_undo.proofs.Calls.{carried_sound, carried_valid, carried_ready, taken_good}
use Rattle.model_undo.proofs.Buses.{cases_bus, each_bus}
use Rattle.model_undo.proofs.Orderly.{not_closed, closed_still, orderly_still, orderly_begun, orderly_carried, orderly_taken, closed_taken, answer_still, answer_kept, answer_carried, answer_begun, open_still, open_begun, open_carried}

module _ (F : Family) (laws : IsFamily F) (W : Wires F.words) (first : Bus → ℕ) (plan : List F.words.Op) (start : F.Records) where
  -- what holds at each moment: `own` is the plan that the manager goes through
  pub record Joined (own : List F.words.Op) (stage : Stage F.words) (stopped : Bool) (undo : List F.words.Series) (on : Bus → BusState) (board : F.Board) : Type 0 where
    pub orderly : (bus : Bus) → Orderly F W first bus (on bus)
    pub are_open : (bus : Bus) → AreOpen F W first stage bus (on bus)
    pub sound : StageSound F plan start own stage (answer_at F W first stage on) stopped undo board
    pub valid : AllValid F (F.records board)
    pub free : IsReady F board

  -- the same where no request is open, and the stage isn't entered yet
  pub record Closed (own : List F.words.Op) (stage : Stage F.words) (stopped : Bool) (undo : List F.words.Series) (on : Bus → BusState) (board : F.Board) : Type 0 where
    pub orderly : (bus : Bus) → Orderly F W first bus (on bus)
    pub closed : (bus : Bus) → IsClosed (on bus)
    pub sound : StageSound F plan start own stage None stopped undo board
    pub valid : AllValid F (F.records board)
    pub free : IsReady F board

  module _ (own : List F.words.Op) where
    -- ---- no request of the manager moves

    open_stays : (stage : Stage F.words) (bus : Bus) (old new : BusState) → SameRequests old new → AreOpen F W first stage bus old → AreOpen F W first stage bus new
    open_stays (Opened heeded task part) bus old new same c = ((λ e. open_still F W first bus old new part.asked same (c.0 e)), λ ne. closed_still old new same (c.1 ne))
    open_stays AtStart bus old new same c = closed_still old new same c
    open_stays AtEnd bus old new same c = closed_still old new same c
    open_stays (AtHalt k why) bus old new same c = closed_still old new same c
    open_stays AtUndone bus old new same c = closed_still old new same c
    open_stays (AtRefused k code) bus old new same c = closed_still old new same c

    answer_stays : (stage : Stage F.words) (on now : Bus → BusState) → ((bus : Bus) → SameRequests (on bus) (now bus)) → answer_at F W first stage now ≡ answer_at F W first stage on
    answer_stays (Opened heeded task part) on now same = answer_still F W first (bus_at F.words part) (on (bus_at F.words part)) (now (bus_at F.words part)) (same (bus_at F.words part))
    answer_stays AtStart on now same = refl
    answer_stays AtEnd on now same = refl
    answer_stays (AtHalt k why) on now same = refl
    answer_stays AtUndone on now same = refl
    answer_stays (AtRefused k code) on now same = refl

    pub still : (stage : Stage F.words) (stopped : Bool) (undo : List F.words.Series) (on now : Bus → BusState) (board : F.Board) → Joined own stage stopped undo on board
        → ((bus : Bus) → SameRequests (on bus) (now bus)) → Joined own stage stopped undo now board
    still stage stopped undo on now board h same = record {
      orderly = λ bus. orderly_still F W first bus (on bus) (now bus) (h.orderly bus) (same bus);
      are_open = λ bus. open_stays stage bus (on bus) (now bus) (same bus) (h.are_open bus);
      sound = subst (λ (o : Option Answered). StageSound F plan start own stage o stopped undo board) (sym (answer_stays stage on now same)) h.sound;
      valid = h.valid;
      free = h.free;
    }

    -- what happens elsewhere changes no record, and the board stays ready
    pub elsewhere : (stage : Stage F.words) (stopped : Bool) (undo : List F.words.Series) (on : Bus → BusState) (board after : F.Board) → Joined own stage stopped undo on board
        → KeepsRecords F board after → Joined own stage stopped undo on after
    elsewhere stage stopped undo on board after h keeps = record {
      orderly = h.orderly;
      are_open = h.are_open;
      sound = stage_kept F plan start own undo board after keeps stage (answer_at F W first stage on) stopped h.sound;
      valid = subst (AllValid F) (sym keeps.0) h.valid;
      free = λ series. keeps.1 series [] (h.free series);
    }

    -- ---- the open request is carried out

    open_carries : (heeded : Bool) (task : Task F.words) (part : Part F.words) (stopped : Bool) (undo : List F.words.Series) (on now : Bus → BusState) (board after : F.Board) (bytes : List ℕ) (a : Answered) (bus : Bus) → bus_at F.words part ≡ bus
        → Joined own (Opened heeded task part) stopped undo on board → CarriesOpen (on bus) (now bus) bytes (W.reply_to bus bytes a) → OthersStill bus on now → F.Row board (W.asked_from bus bytes) a after
        → Joined own (Opened heeded task part) stopped undo now after
    open_carries heeded task part stopped undo on now board after bytes a bus is h c others row =
        let asked = part.asked in
        let n = length (on bus).taken in
        let opened : slice_get (on bus).begun n ≡ Some (request_bytes F W first bus n asked) = (h.are_open bus).0 (sym is) in
        let same : bytes ≡ request_bytes F W first bus n asked = same_Some _ _ (sym c.opened ∙ opened) in
        let no_reply : answer_on F W first (bus_at F.words part) (on (bus_at F.words part)) ≡ None =
        ap (λ (x : Bus). answer_on F W first x (on x)) is ∙ ap (answer_in F W first bus) c.first in
        let t : TaskSound F plan start own task part None undo board = subst (λ (o : Option Answered). TaskSound F plan start own task part o undo board) no_reply h.sound.0 in
        let made : IsMade F.words asked = task_made F plan start own undo board task part t h.sound.2 in
        let asks : W.asked_from bus bytes ≡ asked = ap (W.asked_from bus) same ∙ ap (λ (x : Bus). W.asked_from x (request_bytes F W first bus n asked)) (sym is) ∙ W.same _ asked made in
        let row_is : F.Row board asked a after = subst (λ (x : F.words.Asked). F.Row board x a after) asks row in
        let reply : answer_on F W first (bus_at F.words part) (now (bus_at F.words part)) ≡ Some a =
        ap (λ (x : Bus). answer_on F W first x (now x)) is ∙ answer_carried F W first bus (on bus) (now bus) bytes a c in
        let told : StageSound F plan start own (Opened heeded task part) (Some a) stopped undo after =
        (carried_sound F laws plan start own board after a task part undo t h.sound.2 row_is, laws.never_busy board after asked a row_is, h.sound.2) in
        record {
          orderly = each_bus (λ x. Orderly F W first x (now x)) bus (orderly_carried F W first bus (on bus) (now bus) bytes a (h.orderly bus) c)
              (λ other ne. orderly_still F W first other (on other) (now other) (h.orderly other) (others other ne));
          are_open = each_bus (λ x. IsOpen F W first part x (now x)) bus
              ((λ e. open_carried F W first bus (on bus) (now bus) bytes (W.reply_to bus bytes a) asked c opened), λ ne. absurd (ne (sym is)))
              (λ other ne. open_stays (Opened heeded task part) other (on other) (now other) (others other ne) (h.are_open other));
          sound = subst (λ (o : Option Answered). StageSound F plan start own (Opened heeded task part) o stopped undo after) (sym reply) told;
          valid = carried_valid F laws plan start own board after a task part undo t h.sound.2 h.valid row_is;
          free = carried_ready F laws plan start own board after a task part undo t h.sound.2 h.free row_is;
        }

    pub carries : (stage : Stage F.words) (stopped : Bool) (undo : List F.words.Series) (on now : Bus → BusState) (board after : F.Board) (bytes : List ℕ) (a : Answered) (bus : Bus)
        → Joined own stage stopped undo on board → CarriesOpen (on bus) (now bus) bytes (W.reply_to bus bytes a) → OthersStill bus on now → F.Row board (W.asked_from bus bytes) a after
        → Joined own stage stopped undo now after
    carries (Opened heeded task part) stopped undo on now board after bytes a bus h c others row =
        elim (cases_bus (bus_at F.words part) bus) [
          | inl is ↦ open_carries heeded task part stopped undo on now board after bytes a bus is h c others row
          | inr off ↦ absurd (not_closed (on bus) bytes ((h.are_open bus).1 (λ e. off (sym e))) c.opened)
        ]
    carries AtStart stopped undo on now board after bytes a bus h c others row = absurd (not_closed (on bus) bytes (h.are_open bus) c.opened)
    carries AtEnd stopped undo on now board after bytes a bus h c others row = absurd (not_closed (on bus) bytes (h.are_open bus) c.opened)
    carries (AtHalt k why) stopped undo on now board after bytes a bus h c others row = absurd (not_closed (on bus) bytes (h.are_open bus) c.opened)
    carries AtUndone stopped undo on now board after bytes a bus h c others row = absurd (not_closed (on bus) bytes (h.are_open bus) c.opened)
    carries (AtRefused k code) stopped undo on now board after bytes a bus h c others row = absurd (not_closed (on bus) bytes (h.are_open bus) c.opened)

    -- ---- no request is open, and a stage is entered

    begins : (heeded : Bool) (task : Task F.words) (part : Part F.words) (stopped : Bool) (undo : List F.words.Series) (on now : Bus → BusState) (board : F.Board) → Closed own (Opened heeded task part) stopped undo on board
        → EntersStage F W first (Opened heeded task part) on now → Joined own (Opened heeded task part) stopped undo now board
    begins heeded task part stopped undo on now board h e =
        let asked = part.asked in
        let bus = bus_at F.words part in
        let none : answer_on F W first bus (now bus) ≡ None = answer_begun F W first bus (on bus) (now bus) (request_bytes F W first bus (length (on bus).begun) asked) (h.orderly bus) e.0 in
        record {
          orderly = each_bus (λ x. Orderly F W first x (now x)) bus (orderly_begun F W first bus (on bus) (now bus) asked refl (h.orderly bus) e.0)
              (λ other ne. orderly_still F W first other (on other) (now other) (h.orderly other) (e.1 other ne));
          are_open = each_bus (λ x. IsOpen F W first part x (now x)) bus ((λ _. open_begun F W first bus (on bus) (now bus) asked e.0), λ ne. absurd (ne refl))
              (λ other ne. ((λ is. absurd (ne is)), λ _. closed_still (on other) (now other) (e.1 other ne) (h.closed other)));
          sound = subst (λ (o : Option Answered). StageSound F plan start own (Opened heeded task part) o stopped undo board) (sym none) h.sound;
          valid = h.valid;
          free = h.free;
        }

    all_orderly : (on now : Bus → BusState) → ((bus : Bus) → Orderly F W first bus (on bus)) → ((bus : Bus) → SameRequests (on bus) (now bus)) → (bus : Bus) → Orderly F W first bus (now bus)
    all_orderly on now h same bus = orderly_still F W first bus (on bus) (now bus) (h bus) (same bus)

    all_closed : (on now : Bus → BusState) → ((bus : Bus) → IsClosed (on bus)) → ((bus : Bus) → SameRequests (on bus) (now bus)) → (bus : Bus) → IsClosed (now bus)
    all_closed on now h same bus = closed_still (on bus) (now bus) (same bus) (h bus)

    pub enters_joined : (stage : Stage F.words) (stopped : Bool) (undo : List F.words.Series) (on now : Bus → BusState) (board : F.Board) → Closed own stage stopped undo on board
        → EntersStage F W first stage on now → Joined own stage stopped undo now board
    enters_joined (Opened heeded task part) stopped undo on now board h e = begins heeded task part stopped undo on now board h e
    enters_joined AtStart stopped undo on now board h e = record { orderly = all_orderly on now h.orderly e; are_open = all_closed on now h.closed e; sound = h.sound; valid = h.valid; free = h.free }
    enters_joined AtEnd stopped undo on now board h e = record { orderly = all_orderly on now h.orderly e; are_open = all_closed on now h.closed e; sound = h.sound; valid = h.valid; free = h.free }
    enters_joined (AtHalt k why) stopped undo on now board h e = record { orderly = all_orderly on now h.orderly e; are_open = all_closed on now h.closed e; sound = h.sound; valid = h.valid; free = h.free }
    enters_joined AtUndone stopped undo on now board h e = record { orderly = all_orderly on now h.orderly e; are_open = all_closed on now h.closed e; sound = h.sound; valid = h.valid; free = h.free }
    enters_joined (AtRefused k code) stopped undo on now board h e = record { orderly = all_orderly on now h.orderly e; are_open = all_closed on now h.closed e; sound = h.sound; valid = h.valid; free = h.free }

    -- ---- the open request's reply is taken

    -- it is the one that is kept, and isn't busy
    pub told : (heeded : Bool) (task : Task F.words) (part : Part F.words) (stopped : Bool) (undo : List F.words.Series) (on : Bus → BusState) (board : F.Board) (s : BusState) (reply : List ℕ)
        → let bus = bus_at F.words part in
        Joined own (Opened heeded task part) stopped undo on board → TakesReply (on bus) s reply
        → TaskSound F plan start own task part (Some (W.answered_from bus reply)) undo board × (is_busy (W.answered_from bus reply).code ≡ false) × IsPart F plan start task part
    told heeded task part stopped undo on board s reply h t =
        let bus = bus_at F.words part in
        subst (λ (o : Option Answered). StageSound F plan start own (Opened heeded task part) o stopped undo board) (answer_kept F W first bus (on bus) reply t.kept) h.sound

    pub takes_closed : (heeded : Bool) (task : Task F.words) (part : Part F.words) (stopped : Bool) (undo : List F.words.Series) (on now : Bus → BusState) (board : F.Board) (reply : List ℕ)
        → let bus = bus_at F.words part in
        let a = W.answered_from bus reply in
        Joined own (Opened heeded task part) stopped undo on board → TakesReply (on bus) (now bus) reply → OthersStill bus on now
        → Closed own (stage_after F.words stopped own a task part) stopped (undo_after F.words a task part undo) now board
    takes_closed heeded task part stopped undo on now board reply h t others =
        let bus = bus_at F.words part in
        let a = W.answered_from bus reply in
        record {
          orderly = each_bus (λ x. Orderly F W first x (now x)) bus (orderly_taken F W first bus (on bus) (now bus) reply (h.orderly bus) t)
              (λ other ne. orderly_still F W first other (on other) (now other) (h.orderly other) (others other ne));
          closed = each_bus (λ x. IsClosed (now x)) bus (closed_taken F W first bus (on bus) (now bus) reply (h.orderly bus) t)
              (λ other ne. closed_still (on other) (now other) (others other ne) ((h.are_open other).1 ne));
          sound = let t = told heeded task part stopped undo on board (now bus) reply h t in taken_good F laws plan start own a task part stopped undo board t.2 t.0 h.valid h.free;
          valid = h.valid;
          free = h.free;
        }

    -- ---- what holds of the records

    pub joined_stands : (stage : Stage F.words) (stopped : Bool) (undo : List F.words.Series) (on : Bus → BusState) (board : F.Board) → Joined own stage stopped undo on board
        → PhaseMeans F plan start (phase_at F.words stage) (F.records board)
    joined_stands stage stopped undo on board h = stage_stands F plan start own undo board stage (answer_at F W first stage on) stopped h.sound

    pub joined_halts : (stage : Stage F.words) (stopped : Bool) (undo : List F.words.Series) (on : Bus → BusState) (board : F.Board) → Joined own stage stopped undo on board
        → HaltMeans F stopped plan (phase_at F.words stage) (F.records board)
    joined_halts stage stopped undo on board h = stage_halts F plan start own undo board stage (answer_at F W first stage on) stopped h.sound
