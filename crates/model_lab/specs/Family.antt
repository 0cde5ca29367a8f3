-- The records of a board and its commands, as a family of kinds of record.
use Rattle.std.specs.Prelude.{◌≡◌, ◌<◌, ◌*◌, ℕ, List, [], ◌∷◌, length, take, Option, Some, None, Ok}
use Rattle.two_wire.specs.declared.Bus.{Bus}
use Rattle.two_wire.specs.declared.Bus.TheVariants.{Smbus}
use Rattle.record_base.specs.declared.op.Op.{Op}
use Rattle.record_base.specs.declared.live.Live.{Live}
use Rattle.record_base.specs.declared.message.Asked.{Asked}
use Rattle.cfg_records.specs.declared.board_file.BoardFile.{BoardFile}
use Rattle.cfg_records.specs.Records.{Records, with_record}
use Rattle.pldm_base.specs.Parts.{part_length}
use Rattle.bios_attr.specs.EntryParts.{entry_of}
use Rattle.record_kinds.specs.Stagings.{StagedParts, most_stagings, staged_by, without}
use Rattle.record_kinds.specs.declared.limits.Limits.{Limits}
use Rattle.record_kinds.specs.Series.{Series, Reads, Sends}
use Rattle.record_kinds.specs.Limits.{key_of, restorable, valid, sets, view, conf, limits_at}
use Rattle.bmc_board.specs.Request.{Get, asked_by}
use Rattle.bmc_board.specs.State.{State}
use Rattle.bmc_board.specs.Answer.{answer_of}
use Rattle.bmc_board.specs.Row.{Row}
use Rattle.model_bus.specs.Answered.{Answered}
use Rattle.model_undo.specs.Family.{Family}
use Rattle.model_bus.specs.Addresses.{Addresses}
use Rattle.bmc_core.specs.Wires.{board_answer, family_answer}
use Rattle.model_lab.specs.ManagerWords.{manager_words}

-- the limits allow the value
abbrev pub AllowsBody : Option Limits → List ℕ → Type 0
AllowsBody (Some limits) value = valid limits value
AllowsBody None value = ⊥

-- within the limits the operation is accepted at the first value, and makes it the second
abbrev pub SetsWithin : Option Limits → Op → List ℕ → List ℕ → Type 0
SetsWithin (Some limits) op old new = sets limits op old new
SetsWithin None op old new = ⊥

-- a Get within the limits replies these data at this value, for some state of what isn't configuration
abbrev pub ShowsWithin : Option Limits → List ℕ → List ℕ → Type 0
ShowsWithin (Some limits) value body = (live : Live) × (body ≡ view limits value live)
ShowsWithin None value body = ⊥

-- what of the data is configuration
abbrev pub conf_within : Option Limits → List ℕ → List ℕ
conf_within (Some limits) body = conf limits body
conf_within None body = []

-- ---- what a board is to have staged

-- A board with these stagings is ready for the next request of a series of this requester, after replies with these data. For a first one
-- fewer than eight others have a staging. Before a later one the requester has staged the parts that it sent.
abbrev pub IsReadyFor : (own : ℕ) → StagedParts → Series → List (List ℕ) → Type 0
IsReadyFor own stagings (Reads key) bodies = Unit {0}
IsReadyFor own stagings (Sends asked) [] = length (without own stagings) < most_stagings
IsReadyFor own stagings (Sends asked) (body ∷ bodies) = staged_by own stagings ≡ Some (take (part_length * length (body ∷ bodies)) (entry_of asked))

-- the family of a board with this file, for that manager
abbrev pub family : BoardFile → (Bus → Addresses) → Family
family setup at = record {
  words = manager_words at;
  Value = List ℕ;
  Records = Records;
  get = λ records key. records key;
  put = with_record;
  Valid = λ key value. AllowsBody (limits_at setup key) value;
  Sets = λ op old new. SetsWithin (limits_at setup (key_of op)) op old new;
  Shows = λ key value body. ShowsWithin (limits_at setup key) value body;
  conf = λ key body. conf_within (limits_at setup key) body;
  Restorable = restorable;
  Board = State;
  records = λ board. board.records;
  Ready = λ board series bodies. IsReadyFor (at Smbus).manager board.activity.stagings series bodies;
  IsGet = λ asked key. asked_by asked ≡ Ok (Get key);
  Row = λ board asked answered after. Row setup board asked (board_answer answered) after;
}

-- what the board answers to a request, and the state that it leaves
abbrev pub answer : BoardFile → State → Asked → Answered × State
answer setup board asked = (family_answer (answer_of setup board asked).0, (answer_of setup board asked).1)
