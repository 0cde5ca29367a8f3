-- Sets of BIOS attributes whose values come in parts (DSP0247, "SetBIOSAttributeCurrentValue"): the answers, and what they leave.
use Rattle.std.specs.Prelude.{ℕ, List, length, Bool, true, false, Option, Result, Ok, Err, ◌==◌, if◌then◌else◌}
use Rattle.std.specs.Int.{w32, to_le_bytes}
use Rattle.std.specs.Option.{option_map}
use Rattle.two_wire.specs.Codes.{success}
use Rattle.record_base.specs.Requests.{byte_at}
use Rattle.record_base.specs.Attribute.{range_of}
use Rattle.record_base.specs.AttributeValue.{number_of}
use Rattle.record_base.specs.declared.bios_attribute.SetBiosAttribute.{SetBiosAttribute}
use Rattle.record_base.specs.declared.live.Live.{Live as LivePart}
use Rattle.record_base.specs.declared.message.Answered.{Answered}
use Rattle.record_base.specs.declared.op.Op.{Op}
use Rattle.record_base.specs.declared.op.Op.TheVariants as of_kind
use Rattle.cfg_records.specs.Records.{Records}
use Rattle.cfg_records.specs.declared.board_file.BoardFile.{BoardFile}
use Rattle.bios_attr.specs.declared.bios_attribute.AttributeLimits.{AttributeLimits}
use Rattle.record_kinds.specs.declared.set_part.SetPart.{SetPart}
use Rattle.record_kinds.specs.declared.set_part.SetPart.TheVariants.{Start, Middle, End}
use Rattle.record_kinds.specs.Stagings.{StagedParts, without, after_part, start_outcome, add_outcome, end_outcome}
use Rattle.record_kinds.specs.Boards.{attribute_at}
use Rattle.record_kinds.specs.Replies.{done, refused}
use Rattle.record_kinds.specs.Sets.{outcome_among, set_given, records_set, live_set}

-- the attribute that an entry names, and what can be done with it
abbrev pub named_in : List ℕ → ℕ
named_in entry = number_of (byte_at entry 0) (byte_at entry 1)

abbrev pub limits_named : BoardFile → ℕ → Option AttributeLimits
limits_named setup handle = option_map (λ a. record { handle = handle; read_only = a.read_only; range = range_of a.kind }) (attribute_at setup.attributes.items handle)

-- what the requester has staged once the first part of an entry came, or the code that refuses the part
abbrev pub started : BoardFile → StagedParts → (from : ℕ) → List ℕ → Result (List ℕ) ℕ
started setup stagings from entry = start_outcome (limits_named setup (named_in entry)) stagings from entry

-- what a Set may change: the records, the live part, and what is staged
pub record SettableEntry : Type 0 where
  pub records : Records
  pub live : LivePart
  pub staged : StagedParts

-- an answer, with what it leaves
abbrev pub SetGiven : Type 0
SetGiven = Answered × SettableEntry

-- what comes of a Set
abbrev pub set_given_at : BoardFile → SettableEntry → Op → SetGiven
set_given_at setup before op = (
  set_given (outcome_among setup before.records op) op,
  record before { records = records_set (outcome_among setup before.records op) op before.records; live = live_set (outcome_among setup before.records op) op before.live },
)

-- the reply to a part with others behind it has the handle of the next, which counts the bytes that are staged
abbrev pub staged_answer : Result (List ℕ) ℕ → Answered
staged_answer (Ok entry) = done (to_le_bytes w32 (length entry))
staged_answer (Err code) = refused code

-- such a part is staged
abbrev pub staged_given : (from : ℕ) → SettableEntry → Result (List ℕ) ℕ → SetGiven
staged_given from before made = (staged_answer made, record before { staged = after_part from made before.staged })

-- a Set that is carried out ends what its requester has staged
abbrev pub still_staged : (from code : ℕ) → StagedParts → StagedParts
still_staged from code stagings = if code == success then without from stagings else stagings

abbrev pub ends_staging : (from : ℕ) → SetGiven → SetGiven
ends_staging from given = (given.0, record given.1 { staged = still_staged from given.0.code given.1.staged })

-- the last part is the Set of the whole entry
abbrev pub whole_given : BoardFile → (from : ℕ) → SettableEntry → Result SetBiosAttribute ℕ → SetGiven
whole_given setup from before (Ok op) = ends_staging from (set_given_at setup before (of_kind.BiosAttribute op))
whole_given setup from before (Err code) = (refused code, before)

-- the part is the last of its Set, which alone changes a record
abbrev pub is_last : SetPart → Bool
is_last (Start entry) = false
is_last (Middle handle bytes) = false
is_last (End handle bytes) = true

-- what comes of a part
abbrev pub part_given_at : BoardFile → (from : ℕ) → SettableEntry → SetPart → SetGiven
part_given_at setup from before (Start entry) = staged_given from before (started setup before.staged from entry)
part_given_at setup from before (Middle handle bytes) = staged_given from before (add_outcome before.staged from handle bytes)
part_given_at setup from before (End handle bytes) = whole_given setup from before (end_outcome before.staged from handle bytes)
