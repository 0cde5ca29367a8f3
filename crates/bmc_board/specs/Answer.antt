-- The answer to each request and the state that it leaves, as a function.
use Rattle.std.specs.Prelude.{ℕ, List, Option, Some, Result, Ok, Err}
use Rattle.record_kinds.specs.Limits.{key_of, limits_at}
use Rattle.record_base.specs.declared.key.Key.{Key}
use Rattle.record_base.specs.declared.key.Key.TheVariants as key
use Rattle.record_base.specs.declared.bios_attribute.SetBiosAttribute.{SetBiosAttribute}
use Rattle.record_base.specs.declared.op.Op.{Op}
use Rattle.record_base.specs.declared.op.Op.TheVariants as of_kind
use Rattle.record_base.specs.declared.message.Asked.{Asked}
use Rattle.record_base.specs.declared.message.Answered.{Answered}
use Rattle.record_base.specs.declared.live.Live.{Live as LivePart}
use Rattle.cfg_records.specs.declared.board_file.BoardFile.{BoardFile}
use Rattle.record_kinds.specs.declared.limits.Limits.{Limits}
use Rattle.record_kinds.specs.Limits.{view, next_live}
use Rattle.record_kinds.specs.Series.{first_shown}
use Rattle.record_kinds.specs.declared.set_part.SetPart.{SetPart}
use Rattle.record_kinds.specs.declared.set_part.SetPart.TheVariants.{Start, Middle, End}
use Rattle.record_kinds.specs.Stagings.{after_part, start_outcome, add_outcome, end_outcome}
use Rattle.record_kinds.specs.Sets.{set_outcome, outcome_among, set_given, records_set, live_set, both_answered, both_set}
use Rattle.record_kinds.specs.SetParts.{staged_answer}
use Rattle.bmc_board.specs.declared.activity.Activity.{Activity}
use Rattle.bmc_board.specs.Request.{Request}
use Rattle.bmc_board.specs.Request.{Live, Get, Set, SetStores, PartOfSet, LaterPart}
use Rattle.bmc_board.specs.Request.{asked_by}
use Rattle.bmc_board.specs.State.{State, state}
use Rattle.bmc_board.specs.Replies.{done, refused, unknown_code}
use Rattle.bmc_board.specs.Live.{live_answer}
use Rattle.bmc_board.specs.AttributeParts.{named_in, limits_named, with_stagings, unstaged, later_answer}

-- an answer, with the state after it
abbrev pub AnswerAndState : Type 0
AnswerAndState = Answered × State

-- a live command leaves the records
abbrev pub with_records : State → Answered × Activity → AnswerAndState
with_records before given = (given.0, state before.records given.1)

-- the answer to a Get: the data that show the record, or the first part of a long attribute's
abbrev pub get_answer : Option Limits → Option (List ℕ) → LivePart → ℕ → Answered
get_answer (Some limits) (Some value) live unknown = done (first_shown limits (view limits value live))
get_answer _ _ live unknown = refused unknown

-- the activity after a Set that was carried out
abbrev pub activity_after : Op → Activity → Activity
activity_after op before = record before { live = next_live op before.live }

-- what comes of a Set that makes this of its record: its reply, and the state that it leaves
abbrev pub set_result : Result (List ℕ) ℕ → Op → State → AnswerAndState
set_result made op before = (set_given made op, state (records_set made op before.records) (record before.activity { live = live_set made op before.activity.live }))

abbrev pub set_answer : Option Limits → Option (List ℕ) → ℕ → Op → State → AnswerAndState
set_answer limits value unknown op before = set_result (set_outcome limits value unknown op) op before

abbrev pub outcome_at : BoardFile → State → Op → Result (List ℕ) ℕ
outcome_at setup before op = outcome_among setup before.records op

-- what comes of two operations, by what they make of their records
abbrev pub both_given : Result (List ℕ) ℕ → Result (List ℕ) ℕ → Key → Key → State → AnswerAndState
both_given made other key other_key before = (both_answered made other, state (both_set made other key other_key before.records) before.activity)

abbrev pub both_answer : BoardFile → State → Op → Op → AnswerAndState
both_answer setup before first second = both_given (outcome_at setup before first) (outcome_at setup before second) (key_of first) (key_of second) before

-- what comes of a Set at its record
abbrev pub set_at : BoardFile → State → Op → AnswerAndState
set_at setup before op = set_answer (limits_at setup (key_of op)) (before.records (key_of op)) (unknown_code setup (key_of op)) op before

-- a part with others behind it is staged
abbrev pub staged : (from : ℕ) → State → Result (List ℕ) ℕ → AnswerAndState
staged from before made = (staged_answer made, with_stagings before (after_part from made before.activity.stagings))

-- a Set that is carried out ends what its requester has staged
abbrev pub end_staging : (from : ℕ) → AnswerAndState → AnswerAndState
end_staging from given = (given.0, unstaged from given.0.code given.1)

-- the last part is the Set of the whole entry
abbrev pub ended : BoardFile → (from : ℕ) → State → Result SetBiosAttribute ℕ → AnswerAndState
ended setup from before (Ok op) = end_staging from (set_at setup before (of_kind.BiosAttribute op))
ended setup from before (Err code) = (refused code, before)

abbrev pub part_given : BoardFile → (from : ℕ) → State → SetPart → AnswerAndState
part_given setup from before (Start entry) = staged from before (start_outcome (limits_named setup (named_in entry)) before.activity.stagings from entry)
part_given setup from before (Middle handle bytes) = staged from before (add_outcome before.activity.stagings from handle bytes)
part_given setup from before (End handle bytes) = ended setup from before (end_outcome before.activity.stagings from handle bytes)

-- one line for each form of what can be asked for
abbrev pub serve : BoardFile → State → Request → AnswerAndState
serve setup before (Live command body) = with_records before (live_answer setup before.records before.activity command body)
serve setup before (Get key) = (get_answer (limits_at setup key) (before.records key) before.activity.live (unknown_code setup key), before)
serve setup before (Set op) = set_at setup before op
serve setup before (SetStores first second) = both_answer setup before (of_kind.ChannelAccess first) (of_kind.ChannelAccess second)
serve setup before (PartOfSet from part) = part_given setup from before part
serve setup before (LaterPart handle transfer) =
    (later_answer (limits_at setup (key.BiosAttribute handle)) (before.records (key.BiosAttribute handle)) before.activity.live (unknown_code setup (key.BiosAttribute handle)) transfer, before)

abbrev pub reply : BoardFile → State → Result Request ℕ → AnswerAndState
reply setup before (Ok request) = serve setup before request
reply setup before (Err fault) = (refused fault, before)

-- a board's answer to a request, and its state after it
abbrev pub answer_of : BoardFile → State → Asked → AnswerAndState
answer_of setup before asked = reply setup before (asked_by asked)
