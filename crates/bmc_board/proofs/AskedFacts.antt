-- What every request asks for has in common, by one test of each line of the tables.
use Rattle.std.proofs.Common.{◌≡◌, ℕ, ◌≤◌, nat_le, List, [], ◌∷◌, Option, Some, None, Result, Ok, Err, Bool, true, false, if◌then◌else◌, ◌==◌, ◌&&◌, ◌||◌, find, refl, arith}
use Rattle.std.specs.List.{list_all}
use Rattle.std.proofs.lemmas.Bool.Decides.{nat_tests}
use Rattle.two_wire.specs.Codes.{invalid_command, invalid_for_lun, invalid_length, pldm_unsupported_command, pldm_invalid_type, pldm_invalid_length}
use Rattle.record_base.specs.Meaning.{room_for}
use Rattle.record_base.specs.declared.message.Asked.{Asked}
use Rattle.record_base.specs.declared.message.Asked.TheVariants.{Ipmi, Pldm}
use Rattle.bmc_board.specs.declared.command.Line.{Line}
use Rattle.bmc_board.specs.declared.request.Refusals.{Refusals}
use Rattle.bmc_board.specs.Request.{Request}
use Rattle.bmc_board.specs.Request.{Live, Get, Set, SetStores, PartOfSet, LaterPart}
use Rattle.bmc_board.specs.Table.{TableLine, table, pldm_table, line_in, line_under, line_of, pldm_line_of, allow, is_pldm_type, changes, is_changing}
use Rattle.bmc_board.specs.Request.{request_of, asked_at, asked_by, ipmi_refusals, pldm_refusals}
use Rattle.bmc_board.specs.Room.{longest_reply}
use Rattle.bmc_board.specs.AnyAnswer.{IsCode}
use Rattle.bmc_board.proofs.Rightly.{is_quiet, is_right, both_right, both, code_of}
use Rattle.bmc_board.proofs.BootFacts as boot
use Rattle.bmc_board.proofs.ChannelFacts as channel
use Rattle.bmc_board.proofs.AttributeFacts as attribute
use Rattle.bmc_board.proofs.LanFacts as lan

-- the request is no Set
abbrev pub IsQuiet : Request → Type 0
IsQuiet (Set op) = ⊥
IsQuiet (SetStores first second) = ⊥
IsQuiet (PartOfSet from part) = ⊥
IsQuiet _ = Unit {0}

-- a reply to what is asked for fits this room, and a Set is asked for only where the command is a setting one; or a code refuses
-- that isn't a busy controller's
abbrev pub IsRight : ℕ → Bool → Result Request ℕ → Type 0
IsRight room changing (Ok request) = (longest_reply request ≤ room) × (changing ≡ false → IsQuiet request)
IsRight room changing (Err code) = IsCode code

-- ---- each line passes the test

-- a line's command asks rightly with this data, whoever asks
abbrev asks_rightly : ℕ → ℕ → List ℕ → Line → Bool
asks_rightly room from body line = is_right room line.changing (request_of from line.command body)

-- whatever the data is, each line of the tables passes it
all_right : (from : ℕ) (body : List ℕ) → list_all (λ (l : TableLine). asks_rightly 24 from body l.line) table ≡ true
all_right from body = both_right _ _ (boot.set_right body) (both_right _ _ (boot.get_right body) (both_right _ _ (channel.set_right body) (both_right _ _ (lan.set_right body) (both_right _ _ (lan.get_right body) refl))))

all_pldm_right : (from : ℕ) (body : List ℕ) → list_all (λ (l : TableLine). asks_rightly 251 from body l.line) pldm_table ≡ true
all_pldm_right from body = both_right _ _ (attribute.set_right from body) (both_right _ _ (attribute.get_right body) refl)

-- ---- what passes it

le_from : (a b : ℕ) → nat_le a b ≡ true → a ≤ b
le_from a b h = grind (arith, nat_tests)

quiet_where : (changing : Bool) (request : Request) → (changing || is_quiet request) ≡ true → changing ≡ false → IsQuiet request
quiet_where true request e h = cc
quiet_where false (Live command body) e h = tt
quiet_where false (Get key) e h = tt
quiet_where false (Set op) e h = cc
quiet_where false (SetStores first second) e h = cc
quiet_where false (PartOfSet from part) e h = cc
quiet_where false (LaterPart handle transfer) e h = tt

right_of : (room : ℕ) (changing : Bool) (r : Result Request ℕ) → is_right room changing r ≡ true → IsRight room changing r
right_of room changing (Ok request) e = let parts = both _ _ e in (le_from _ _ parts.0, quiet_where changing request parts.1)
right_of room changing (Err code) e = code_of code e

-- ---- the line that is found

-- if there is a line, it passes the test
abbrev Passes : (Line → Bool) → Option Line → Type 0
Passes test (Some line) = test line ≡ true
Passes test None = Unit {0}

found_at : (test : Line → Bool) (b : Bool) (l : TableLine) (rest : Option TableLine) → test l.line ≡ true → Passes test (line_in rest) → Passes test (line_in (if b then Some l else rest))
found_at test true l rest passes others = passes
found_at test false l rest passes others = others

found : (test : Line → Bool) (p : TableLine → Bool) (ls : List TableLine) → list_all (λ (l : TableLine). test l.line) ls ≡ true → Passes test (line_in (find p ls))
found test p [] all = tt
found test p (l ∷ ls) all = let parts : (test l.line ≡ true) × (list_all (λ (l : TableLine). test l.line) ls ≡ true) = both _ _ all in found_at test (p l) l (find p ls) parts.0 (found test p ls parts.1)

found_under : (test : Line → Bool) (group number : ℕ) (lines : List TableLine) → list_all (λ (l : TableLine). test l.line) lines ≡ true → Passes test (line_under group number lines)
found_under test group number lines all = found test (λ l. (l.group == group) && (l.number == number)) lines all

-- ---- what is asked for

where_right : (room : ℕ) (changing b : Bool) (r : Result Request ℕ) (code : ℕ) → IsCode code → IsRight room changing r → IsRight room changing (if b then r else Err code)
where_right room changing true r code is right = right
where_right room changing false r code is right = is

-- both refusals are such codes
record AreCodes (refusals : Refusals) : Type 0 where
  unlisted : IsCode refusals.unlisted
  not_allowed : IsCode refusals.not_allowed

ipmi_codes : AreCodes ipmi_refusals
ipmi_codes = record { unlisted = code_of invalid_command refl; not_allowed = code_of invalid_length refl }

pldm_codes : AreCodes pldm_refusals
pldm_codes = record { unlisted = code_of pldm_unsupported_command refl; not_allowed = code_of pldm_invalid_length refl }

right_at : (room from : ℕ) (refusals : Refusals) (line : Option Line) (body : List ℕ) → AreCodes refusals → Passes (asks_rightly room from body) line → IsRight room (changes line) (asked_at from refusals line body)
right_at room from refusals None body are passes = are.unlisted
right_at room from refusals (Some line) body are passes =
    where_right room line.changing (allow line.lengths body) (request_of from line.command body) refusals.not_allowed are.not_allowed (right_of room line.changing (request_of from line.command body) passes)

pub asked_right : (asked : Asked) → IsRight (room_for asked) (is_changing asked) (asked_by asked)
asked_right (Ipmi from net_fn lun number body) =
    where_right 24 (changes (line_of net_fn number)) (lun == 0) (asked_at from ipmi_refusals (line_of net_fn number) body) invalid_for_lun (code_of invalid_for_lun refl)
    (right_at 24 from ipmi_refusals (line_of net_fn number) body ipmi_codes (found_under (asks_rightly 24 from body) net_fn number table (all_right from body)))
asked_right (Pldm from kind number body) =
    where_right 251 (changes (pldm_line_of kind number)) (is_pldm_type kind) (asked_at from pldm_refusals (pldm_line_of kind number) body) pldm_invalid_type (code_of pldm_invalid_type refl)
    (right_at 251 from pldm_refusals (pldm_line_of kind number) body pldm_codes (found_under (asks_rightly 251 from body) kind number pldm_table (all_pldm_right from body)))
