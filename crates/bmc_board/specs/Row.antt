-- The command relation: the answer to each request, and the state that it leaves.
use Rattle.std.specs.Prelude.{◌≡◌, ℕ, List, Option, Some, Result, Ok, Err, ◌⊎◌}
use Rattle.record_kinds.specs.Limits.{key_of, limits_at}
use Rattle.cfg_records.specs.Records.{with_record}
use Rattle.record_base.specs.declared.op.Op.{Op}
use Rattle.record_base.specs.declared.op.Op.TheVariants as of_kind
use Rattle.record_base.specs.declared.bios_attribute.SetBiosAttribute.{SetBiosAttribute}
use Rattle.record_base.specs.declared.message.Asked.{Asked}
use Rattle.record_base.specs.declared.message.Answered.{Answered}
use Rattle.cfg_records.specs.declared.board_file.BoardFile.{BoardFile}
use Rattle.record_kinds.specs.declared.limits.Limits.{Limits}
use Rattle.record_kinds.specs.Limits.{sets, outcome, set_reply}
use Rattle.record_kinds.specs.declared.set_part.SetPart.TheVariants.{End}
use Rattle.record_kinds.specs.Stagings.{end_outcome}
use Rattle.bmc_board.specs.Request.{Request}
use Rattle.bmc_board.specs.Request.{Set, PartOfSet}
use Rattle.bmc_board.specs.Request.{asked_by}
use Rattle.bmc_board.specs.State.{State, state, IsUnchanged}
use Rattle.bmc_board.specs.Replies.{done, refused, unknown_code}
use Rattle.bmc_board.specs.AttributeParts.{unstaged}
use Rattle.bmc_board.specs.Answer.{AnswerAndState, activity_after, serve}

-- a Set that its kind accepts writes the new value
pub record IsCarriedOut (limits : Limits) (old : List ℕ) (op : Op) (before : State) (answered : Answered) (after : State) : Type 0 where
  pub new : List ℕ
  pub is_set : sets limits op old new
  pub replied : answered ≡ done (set_reply op)
  pub left : after ≡ state (with_record before.records (key_of op) new) (activity_after op before.activity)

-- a Set that its kind doesn't accept changes nothing
pub record IsRefused (limits : Limits) (old : List ℕ) (op : Op) (before : State) (answered : Answered) (after : State) : Type 0 where
  pub fault : ℕ
  pub no_value : (new : List ℕ) → ¬ sets limits op old new
  pub has_fault : outcome limits op old ≡ Err fault
  pub replied : answered ≡ refused fault
  pub left : IsUnchanged before after

-- a Set of a record
abbrev pub SetAnswered : Option Limits → Option (List ℕ) → ℕ → Op → State → Answered → State → Type 0
SetAnswered (Some limits) (Some old) unknown op before answered after = IsCarriedOut limits old op before answered after ⊎ IsRefused limits old op before answered after
SetAnswered _ _ unknown op before answered after = (answered ≡ refused unknown) × IsUnchanged before after

-- the same, of an operation at its record
abbrev pub SetsAt : BoardFile → Op → State → Answered → State → Type 0
SetsAt setup op before answered after = SetAnswered (limits_at setup (key_of op)) (before.records (key_of op)) (unknown_code setup (key_of op)) op before answered after

-- the answer, with the state after it, is this
abbrev pub IsAnswerGiven : Answered → State → AnswerAndState → Type 0
IsAnswerGiven answered after given = (let here : AnswerAndState = (answered, after) in here) ≡ given

-- the Set of an entry whose last part came: where it is carried out, its requester has nothing staged any more
pub record SetsWhole (setup : BoardFile) (from : ℕ) (op : Op) (before : State) (answered : Answered) (after : State) : Type 0 where
  pub set : State
  pub sets : SetsAt setup op before answered set
  pub left : after ≡ unstaged from answered.code set

-- the last part of a Set is the Set of the whole entry, or refused
abbrev pub AnswersLastPart : BoardFile → (from : ℕ) → Result SetBiosAttribute ℕ → State → Answered → State → Type 0
AnswersLastPart setup from (Ok op) before answered after = SetsWhole setup from (of_kind.BiosAttribute op) before answered after
AnswersLastPart setup from (Err code) before answered after = IsAnswerGiven answered after (refused code, before)

-- a Set is served as its kind's relation says, and so is the last part of one, anything else by its function
abbrev pub AnswersRequest : BoardFile → State → Request → Answered → State → Type 0
AnswersRequest setup before (Set op) answered after = SetsAt setup op before answered after
AnswersRequest setup before (PartOfSet from (End handle bytes)) answered after = AnswersLastPart setup from (end_outcome before.activity.stagings from handle bytes) before answered after
AnswersRequest setup before request answered after = IsAnswerGiven answered after (serve setup before request)

-- a request that asks for something is served, and any other refused
abbrev pub AnswersResult : BoardFile → State → Result Request ℕ → Answered → State → Type 0
AnswersResult setup before (Ok request) answered after = AnswersRequest setup before request answered after
AnswersResult setup before (Err fault) answered after = IsAnswerGiven answered after (refused fault, before)

-- a board of this setup answers the request so, and goes from one state to the other
abbrev pub Row : BoardFile → State → Asked → Answered → State → Type 0
Row setup before asked answered after = AnswersResult setup before (asked_by asked) answered after
