-- What the steps of a plan meet on a board.
use Rattle.std.specs.Prelude.{◌≡◌, ◌≢◌, ℕ, List, [], ◌∷◌, None}
use Rattle.record_base.specs.declared.op.Op.{Op}
use Rattle.cfg_records.specs.declared.board_file.BoardFile.{BoardFile}
use Rattle.record_kinds.specs.Limits.{key_of, inverse}
use Rattle.bmc_board.specs.State.{State}
use Rattle.bmc_lab.specs.declared.finding.Finding.{Finding}
use Rattle.bmc_lab.specs.declared.finding.Finding.TheVariants.{GetRefused, NotRestorable, Refused, Done}
use Rattle.bmc_lab.specs.Answers.{Shows, RefusesGet, CarriesOutOp, RefusesSet}

-- A step meets this on a board, and leaves it so: its Get is refused; or no operation brings back what the Get shows, and there is no Set; or its Set
-- is refused, or carried out.
abbrev pub Meets : BoardFile → Op → (at : State) → Finding → (after : State) → Type 0
Meets setup op at (GetRefused code) after = RefusesGet setup (key_of op) at code after
Meets setup op at NotRestorable after = (shown : List ℕ) × Shows setup (key_of op) at shown after × (inverse op shown ≡ None)
Meets setup op at (Refused code) after =
    (shown : List ℕ) × (mid : State) × Shows setup (key_of op) at shown mid × (inverse op shown ≢ None) × RefusesSet setup op mid code after
Meets setup op at (Done shown) after =
    (mid : State) × Shows setup (key_of op) at shown.items mid × (inverse op shown.items ≢ None) × CarriesOutOp setup op mid after

-- each step meets this in its turn, on what the steps before it left
abbrev pub MeetInTurn : BoardFile → List Op → (at : State) → List Finding → (after : State) → Type 0
MeetInTurn setup [] at [] after = after ≡ at
MeetInTurn setup (op ∷ ops) at (finding ∷ findings) after = (mid : State) × Meets setup op at finding mid × MeetInTurn setup ops mid findings after
MeetInTurn setup _ at _ after = ⊥

-- the steps meet these in their turns, whatever board they leave
abbrev pub MeetsInTurn : BoardFile → List Op → (at : State) → List Finding → Type 0
MeetsInTurn setup ops at findings = (after : State) × MeetInTurn setup ops at findings after
