-- The values of BIOS attributes in parts (DSP0247, "SetBIOSAttributeCurrentValue" and "GetBIOSAttributeCurrentValueByHandle"): what is staged of
-- Sets, and the later parts of what a Get shows.
use Rattle.std.specs.Prelude.{ℕ, List, drop, Option, Some, ◌==◌, if◌then◌else◌}
use Rattle.two_wire.specs.Codes.{success}
use Rattle.pldm_base.specs.Parts.{asked_of_entry}
use Rattle.record_base.specs.declared.live.Live.{Live as LivePart}
use Rattle.record_base.specs.declared.message.Answered.{Answered}
use Rattle.bios_attr.specs.BiosAttribute.{get_next_part}
use Rattle.bios_attr.specs.EntryParts.{before_part}
use Rattle.record_kinds.specs.Stagings.{StagedParts, without}
use Rattle.record_kinds.specs.declared.limits.Limits.{Limits}
use Rattle.record_kinds.specs.Limits.{view}
pub use Rattle.record_kinds.specs.SetParts.{named_in, limits_named}
use Rattle.bmc_board.specs.State.{State}
use Rattle.bmc_board.specs.Replies.{refused}
use Rattle.bmc_board.specs.BiosTables.{part_answer}

-- ---- Sets

-- the state with these stagings
abbrev pub with_stagings : State → StagedParts → State
with_stagings before stagings = record before { activity = record before.activity { stagings = stagings } }

-- a request that was carried out ends what its requester has staged
abbrev pub unstaged : (from code : ℕ) → State → State
unstaged from code after = if code == success then with_stagings after (without from after.activity.stagings) else after

-- ---- Gets

-- the entry that a Get shows stands behind the handle and the flag of its reply
abbrev pub entry_shown : Limits → List ℕ → LivePart → List ℕ
entry_shown limits value live = drop before_part (view limits value live)

-- the later part of an entry that has this transfer handle
abbrev pub later_part : List ℕ → ℕ → Answered
later_part entry transfer = part_answer entry (asked_of_entry entry get_next_part transfer)

abbrev pub later_answer : Option Limits → Option (List ℕ) → LivePart → (unknown transfer : ℕ) → Answered
later_answer (Some limits) (Some value) live unknown transfer = later_part (entry_shown limits value live) transfer
later_answer _ _ live unknown transfer = refused unknown
