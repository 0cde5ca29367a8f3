-- The lines of a journal, by themselves.
use Rattle.std.specs.Prelude.{◌≡◌, ◌<◌, ◌≤◌, ◌+◌, ◌*◌, ◌%◌, ◌^◌, ℕ, List, [], ◌∷◌, ◌++◌, length, Ok}
use Rattle.std.specs.Fmt.{decimal}
use Rattle.hex.specs.Hex.{decode_of}
use Rattle.text_lines.specs.Cuts.{space}
use Rattle.two_wire.specs.Sizes.{most_ipmi_request_data}
use Rattle.record_base.specs.declared.message.Asked.{Asked}
use Rattle.record_base.specs.declared.message.Asked.TheVariants.{Ipmi, Pldm}
use Rattle.record_base.specs.declared.op.Op.{Op}
use Rattle.record_kinds.specs.Series.{set_whole}
use Rattle.undo_plans.specs.Fitting.{most_of}
use Rattle.undo_plans.specs.declared.names.Names.{Names}
use Rattle.text_lines.specs.UndoText.{bus_of}
use Rattle.model_undo.specs.declared.phase.Why.TheVariants.{Refused, GetRefused}
use Rattle.undo_plans.specs.declared.kept_stage.KeptTask.TheVariants.{Get, Set, Undo}
use Rattle.undo_plans.specs.declared.kept_stage.KeptStage.{KeptStage}
use Rattle.undo_plans.specs.declared.kept_stage.KeptStage.TheVariants.{Open, Halted, UndoRefused}
use Rattle.text_journal.specs.StageWords.{word_of, spelt}

-- ---- what lines are made of

-- words, and a number in decimal digits without leading zeros
abbrev pub number_line : (words : List ℕ) → ℕ → List ℕ
number_line words n = words ++ decimal n

-- words, and two numbers with a space between
abbrev pub numbers_line : (words : List ℕ) → (first second : ℕ) → List ℕ
numbers_line words first second = words ++ (decimal first ++ space ∷ decimal second)

-- the line is these words, and these bytes in hexadecimal digits of either case
pub record IsBytesLine (words line bytes : List ℕ) : Type 0 where
  pub digits : List ℕ
  pub spelt : line ≡ words ++ digits
  pub read : decode_of digits ≡ Ok bytes

-- ---- names

-- the addresses of the manager and of its controller on IPMB, those on SMBus, and the endpoint identifiers
abbrev pub names_bytes : Names → List ℕ
names_bytes names =
    names.own_address ∷ names.peer_address ∷ names.own_wire ∷ names.peer_wire ∷ names.own_eid ∷ names.peer_eid ∷ []

-- bit 0 of each address is clear
pub record AreEven (names : Names) : Type 0 where
  pub own_address : names.own_address % 2 ≡ 0
  pub peer_address : names.peer_address % 2 ≡ 0
  pub own_wire : names.own_wire % 2 ≡ 0
  pub peer_wire : names.peer_wire % 2 ≡ 0

-- the line is these words, and these names
pub record IsNamesLine (words line : List ℕ) (names : Names) : Type 0 where
  pub is : IsBytesLine words line (names_bytes names)
  pub even : AreEven names

-- ---- requests

-- what a line has of a request: the network function with the logical unit, or the type, then the command and the data
abbrev pub bytes_of : Asked → List ℕ
bytes_of (Ipmi from net_fn lun command body) = (net_fn * 4 + lun) ∷ command ∷ body
bytes_of (Pldm from kind command body) = kind ∷ command ∷ body

-- the request is from nobody, its numbers are such as it can have, and its data fit it
abbrev pub IsRequest : Asked → Type 0
IsRequest (Ipmi from net_fn lun command body) = (from ≡ 0) × (net_fn < 64) × (net_fn % 2 ≡ 0) × (lun < 4) × (length body ≤ most_ipmi_request_data)
IsRequest (Pldm from kind command body) = (from ≡ 0) × (kind < 64) × (length body ≤ most_of (Pldm from kind command body))

-- the line is the request's: the name of its bus, and its bytes
pub record IsRequestLine (line : List ℕ) (asked : Asked) : Type 0 where
  pub is : IsBytesLine (bus_of asked) line (bytes_of asked)
  pub request : IsRequest asked

-- the line is the step's: that of the request which carries it out, with all its data
abbrev pub IsStepLine : (line : List ℕ) → Op → Type 0
IsStepLine line op = IsBytesLine (bus_of (set_whole op)) line (bytes_of (set_whole op))

-- ---- the stage

-- the step, or how many steps were acknowledged; 0 where there is none
abbrev pub stage_step : KeptStage → ℕ
stage_step (Open (Get step) part) = step
stage_step (Open (Set step) part) = step
stage_step (Open (Undo step) part) = step
stage_step (Halted step why) = step
stage_step (UndoRefused step code) = step
stage_step _ = 0

-- the place of the open request, or the code that refused one; 0 where there is none
abbrev pub stage_part : KeptStage → ℕ
stage_part (Open task part) = part
stage_part (Halted step (Refused code)) = code
stage_part (Halted step (GetRefused code)) = code
stage_part (UndoRefused step code) = code
stage_part _ = 0

abbrev pub stage_line : KeptStage → List ℕ
stage_line stage = numbers_line (spelt (word_of stage)) (stage_step stage) (stage_part stage)

-- a code is other than that of success
abbrev pub HasCode : KeptStage → Type 0
HasCode (Halted step (Refused code)) = 0 < code
HasCode (Halted step (GetRefused code)) = 0 < code
HasCode (UndoRefused step code) = 0 < code
HasCode _ = Unit {0}

-- the numbers are such as a line can have
pub record IsSpelt (stage : KeptStage) : Type 0 where
  pub step : stage_step stage < 2 ^ 32
  pub part : stage_part stage < 256
  pub code : HasCode stage
