-- What Sets do with the records that a board keeps.
use Rattle.std.specs.Prelude.{ℕ, Ok}
use Rattle.record_base.specs.declared.op.Op.{Op}
use Rattle.record_base.specs.declared.op.Op.TheVariants as of_kind
use Rattle.record_base.specs.declared.bios_attribute.SetBiosAttribute.{SetBiosAttribute}
use Rattle.record_base.specs.declared.channel.SetChannelAccess.{SetChannelAccess}
use Rattle.record_base.specs.declared.live.Live.{Live as LivePart}
use Rattle.record_base.specs.declared.message.Answered.{Answered}
use Rattle.cfg_records.specs.Records.{Records}
use Rattle.cfg_records.specs.declared.board_file.BoardFile.{BoardFile}
use Rattle.record_kinds.specs.Stagings.{StagedParts}
use Rattle.record_kinds.specs.Limits.{key_of}
use Rattle.record_kinds.specs.Sets.{outcome_among, set_given, records_set, live_set, both_answered, both_set}
use Rattle.record_kinds.specs.SetParts.{SettableEntry, SetGiven, whole_given}

-- the operation's answer, and the records and the live part after it
abbrev pub answer_to : BoardFile → Records → Op → Answered
answer_to setup records op = set_given (outcome_among setup records op) op

abbrev pub records_after : BoardFile → Records → Op → Records
records_after setup records op = records_set (outcome_among setup records op) op records

abbrev pub live_after : BoardFile → Records → Op → LivePart → LivePart
live_after setup records op before = live_set (outcome_among setup records op) op before

-- the same of two changes of a channel's access
abbrev pub answer_to_both : BoardFile → Records → SetChannelAccess → SetChannelAccess → Answered
answer_to_both setup records first second = both_answered (outcome_among setup records (of_kind.ChannelAccess first)) (outcome_among setup records (of_kind.ChannelAccess second))

abbrev pub records_after_both : BoardFile → Records → SetChannelAccess → SetChannelAccess → Records
records_after_both setup records first second =
    both_set (outcome_among setup records (of_kind.ChannelAccess first)) (outcome_among setup records (of_kind.ChannelAccess second)) (key_of (of_kind.ChannelAccess first)) (key_of (of_kind.ChannelAccess second)) records

-- what a Set may change
abbrev pub settable : Records → LivePart → StagedParts → SettableEntry
settable records live stagings = record { records = records; live = live; staged = stagings }

-- what comes of the Set of a whole entry which came in parts
abbrev pub whole_set_given : BoardFile → (from : ℕ) → SettableEntry → SetBiosAttribute → SetGiven
whole_set_given setup from before change = whole_given setup from before (Ok change)
