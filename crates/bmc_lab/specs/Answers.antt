-- What a board answers to a series of requests, of which each is sent once the one before it was answered with 00h.
use Rattle.std.specs.Prelude.{◌≡◌, ◌≢◌, ℕ, ◌*◌, List, [], ◌∷◌, ◌++◌, Option, Some, None, if◌then◌else◌}
use Rattle.std.specs.List.{flat_map}
use Rattle.two_wire.specs.Codes.{success}
use Rattle.record_base.specs.declared.key.Key.{Key}
use Rattle.record_base.specs.declared.op.Op.{Op}
use Rattle.record_base.specs.declared.message.Asked.{Asked}
use Rattle.record_base.specs.declared.message.Answered.{Answered}
use Rattle.cfg_records.specs.declared.board_file.BoardFile.{BoardFile}
use Rattle.record_kinds.specs.Series.{Series, Reads, sends, first_of, next_after, get_next}
use Rattle.pldm_base.specs.Parts.{part_length}
use Rattle.bios_attr.specs.EntryParts.{no_handle, start_and_end, entry_in, goes_on}
use Rattle.undo_plans.specs.Showing.{shown_by}
use Rattle.bmc_board.specs.Replies.{done}
use Rattle.bmc_board.specs.Row.{Row}
use Rattle.bmc_board.specs.State.{State}

-- the request of the series behind replies with these data
abbrev pub IsNextRequest : Series → List (List ℕ) → Asked → Type 0
IsNextRequest series [] asked = first_of series ≡ asked
IsNextRequest series (body ∷ bodies) asked = next_after series (body ∷ bodies) ≡ Some asked

-- behind replies with the data `before` the board answers requests of the series in order, each with 00h and these data
abbrev pub AnswersSome : BoardFile → Series → (before bodies : List (List ℕ)) → State → State → Type 0
AnswersSome setup series before [] at after = after ≡ at
AnswersSome setup series before (body ∷ bodies) at after =
    (asked : Asked) × (mid : State) × IsNextRequest series before asked × Row setup at asked (done body) mid × AnswersSome setup series (before ++ body ∷ []) bodies mid after

-- it answers all requests of the series so
pub record AnswersAll (setup : BoardFile) (series : Series) (bodies : List (List ℕ)) (at after : State) : Type 0 where
  pub answered : AnswersSome setup series [] bodies at after
  pub some : bodies ≢ []
  pub no_more : next_after series bodies ≡ None

-- it refuses one of them with this code, and answered those before it so
pub record RefusesOne (setup : BoardFile) (series : Series) (code : ℕ) (at after : State) : Type 0 where
  pub bodies : List (List ℕ)
  pub mid : State
  pub answered : AnswersSome setup series [] bodies at mid
  pub asked : Asked
  pub next : IsNextRequest series bodies asked
  pub refusal : Answered
  pub refused : Row setup mid asked refusal after
  pub coded : refusal.code ≡ code
  pub fault : code ≢ success

-- the data of a reply
abbrev pub body_of : Answered → List ℕ
body_of answered = answered.body

-- the request for the next part of a record, behind so many replies to its Get of which this is the last
abbrev pub next_behind : Key → (count : ℕ) → (body : List ℕ) → Option Asked
next_behind key count body = if goes_on count body then get_next key (part_length * count) else None

-- the data with the parts of an entry that these data show
abbrev pub whole_of : List (List ℕ) → List ℕ
whole_of bodies = no_handle ++ start_and_end ∷ flat_map entry_in bodies

-- it answers all requests of a record's Get, and what their data show together is this
abbrev pub Shows : BoardFile → Key → (at : State) → (shown : List ℕ) → (after : State) → Type 0
Shows setup key at shown after = (bodies : List (List ℕ)) × AnswersAll setup (Reads key) bodies at after × (shown ≡ shown_by key bodies)

-- it refuses one of them with this code
abbrev pub RefusesGet : BoardFile → Key → (at : State) → (code : ℕ) → (after : State) → Type 0
RefusesGet setup key at code after = RefusesOne setup (Reads key) code at after

-- it answers all requests that carry the operation out
abbrev pub CarriesOutOp : BoardFile → Op → (at after : State) → Type 0
CarriesOutOp setup op at after = (bodies : List (List ℕ)) × AnswersAll setup (sends op) bodies at after

-- it refuses one of them with this code
abbrev pub RefusesSet : BoardFile → Op → (at : State) → (code : ℕ) → (after : State) → Type 0
RefusesSet setup op at code after = RefusesOne setup (sends op) code at after
