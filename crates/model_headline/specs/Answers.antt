-- The answers that a lab's controller gives the manager, and what made a plan halt.
use Rattle.std.specs.Prelude.{◌≡◌, ◌≢◌, ℕ, List, ◌∷◌, Some, slice_get}
use Rattle.two_wire.specs.Codes.{success}
use Rattle.two_wire.specs.declared.Bus.{Bus}
use Rattle.record_base.specs.declared.message.Asked.{Asked}
use Rattle.record_base.specs.declared.op.Op.{Op}
use Rattle.cfg_records.specs.declared.board_file.BoardFile.{BoardFile}
use Rattle.model_bus.specs.Request.{Kept, Carried}
use Rattle.model_bus.specs.Answered.{Answered}
use Rattle.model_undo.specs.Words.{IsReached, AllAnswered}
use Rattle.model_undo.specs.declared.phase.Why.TheVariants.{Stop, Refused, NotRestorable, GetRefused}
use Rattle.model_undo.specs.declared.phase.Phase.{Phase}
use Rattle.model_undo.specs.declared.phase.Phase.TheVariants.{Halted}
use Rattle.model_undo.specs.Family.{Family}
use Rattle.model_lab.specs.Family.{family}
use Rattle.undo_plans.specs.declared.names.Names.{Names}
use Rattle.bmc_core.specs.Wires.{asked_from, reply_to}
use Rattle.model_lab.specs.ManagerSteps.{own_on, addresses, board_plans}
use Rattle.model_lab.specs.Lab.{Lab, port_on}

module _ (setup : BoardFile) (names : Names) where
  abbrev Board : Family
  Board = family setup (addresses names)

  -- As a lab goes from one to the other, a port carries out a request of the manager that asks this. The board answers it so by the
  -- command relation, and the reply is kept.
  pub record AnswerGiven (lab next : Lab (board_plans names)) (asked : Asked) (answered : Answered) : Type 0 where
    pub bus : Bus
    pub kept : Kept
    pub carried : (port_on (board_plans names) bus next).log ≡ Carried kept ∷ (port_on (board_plans names) bus lab).log
    pub from_manager : kept.request.requester ≡ own_on bus names
    pub asks : asked_from (addresses names) bus kept.request.bytes ≡ asked
    pub replies : kept.reply ≡ reply_to bus kept.request.bytes answered
    pub row : Board.Row lab.board asked answered next.board

  -- Why a plan halted after `step` steps, in a run whose answers at the records after so many steps are `Gave step`: an answer that was given to a
  -- request of the Get or of the Set of that step, once those before it were answered with 00h, the answers to all requests of that Get, or a stop.
  abbrev pub CausedBy : (Gave : ℕ → Asked → Answered → Type 0) → (stopped : Type 0) → List Op → Phase → Type 0
  CausedBy Gave stopped plan (Halted step Stop) = stopped
  CausedBy Gave stopped plan (Halted step (Refused code)) =
      (op : Op) × (bodies : List (List ℕ)) × (asked : Asked) × (body : List ℕ) × (slice_get plan step ≡ Some op)
      × IsReached Board.words (Gave step) (Board.words.setting op) bodies asked × Gave step asked (record { code = code; body = body }) × (code ≢ success)
  CausedBy Gave stopped plan (Halted step (GetRefused code)) =
      (op : Op) × (bodies : List (List ℕ)) × (asked : Asked) × (body : List ℕ) × (slice_get plan step ≡ Some op)
      × IsReached Board.words (Gave step) (Board.words.getting (Board.words.key_of op)) bodies asked × Gave step asked (record { code = code; body = body }) × (code ≢ success)
  CausedBy Gave stopped plan (Halted step NotRestorable) =
      (op : Op) × (bodies : List (List ℕ)) × (slice_get plan step ≡ Some op) × AllAnswered Board.words (Gave step) (Board.words.getting (Board.words.key_of op)) bodies
      × (¬ Board.Restorable op (Board.words.joined (Board.words.getting (Board.words.key_of op)) bodies))
  CausedBy Gave stopped plan _ = Unit {0}
