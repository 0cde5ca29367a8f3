-- How the manager's requests are read.
use Rattle.std.proofs.Common.{◌≡◌, ℕ, ◌+◌, ◌*◌, ◌/◌, ◌%◌, ◌^◌, ◌<◌, ◌≤◌, Bool, true, false, List, length, take, drop, Result, Ok, Err, ◌∙◌, ap, subst, if◌then◌else◌, arith}
use Rattle.std.specs.Prelude.{◌==◌}
use Rattle.std.specs.Int.{w32, to_le_bytes, from_le_bytes}
use Rattle.std.proofs.lemmas.Bool.{le-leb, lt-leb, le-ltb}
use Rattle.std.proofs.lemmas.Bool.Decides.{nat_tests}
use Rattle.std.proofs.lemmas.List.{length-drop, length-take, length-take-le}
use Rattle.std.proofs.lemmas.Nat.{from_le_bytes-to_le_bytes_4}
use Rattle.two_wire.specs.Codes.{pldm_invalid_length}
use Rattle.two_wire.specs.declared.Bus.{Bus}
use Rattle.record_base.specs.declared.key.Key.{Key}
use Rattle.record_base.specs.declared.op.Op.{Op}
use Rattle.record_base.specs.declared.message.Asked.{Asked}
use Rattle.record_base.specs.declared.message.Asked.TheVariants.{Pldm}
use Rattle.record_base.specs.declared.message.Answered.{Answered as BoardAnswer}
use Rattle.record_base.specs.AttributeSizes.{most_sent}
use Rattle.record_base.specs.AttributeValue.{number_of}
use Rattle.cfg_records.specs.declared.board_file.BoardFile.{BoardFile}
use Rattle.pldm_base.specs.Parts.{part_length, part_bytes, is_last, most_whole}
use Rattle.bios_attr.specs.EntryParts.{bios, set_current_value, set_part, get_part}
use Rattle.record_kinds.specs.declared.set_part.SetPart.{SetPart}
use Rattle.record_kinds.specs.declared.set_part.SetPart.TheVariants.{Start, Middle, End}
use Rattle.record_kinds.specs.Limits.{get_asked}
use Rattle.record_kinds.specs.Series.{set_whole}
use Rattle.bmc_board.specs.Request.{Request as BoardRequest}
use Rattle.bmc_board.specs.Request.{Get, Set, PartOfSet, LaterPart, asked_by}
use Rattle.bmc_board.specs.AttributeCommands.{part_set}
use Rattle.bmc_board.specs.State.{State}
use Rattle.bmc_board.specs.Decode.{asked_from}
use Rattle.bmc_board.specs.Row.{AnswersRequest, AnswersResult, Row}
use Rattle.bmc_board.proofs.FromAnyone.{is_read_from_all}
use Rattle.bmc_board.proofs.Decoded.{gets_are_read, sets_are_read}
use Rattle.model_bus.specs.Addresses.{Addresses}
use Rattle.bmc_core.specs.Wires.{bus_of}
use Rattle.model_lab.specs.ManagerWords.{from_manager}
use Rattle.model_lab.proofs.Parts.{data_with}

pub read_as : (setup : BoardFile) (before : State) (asked : Asked) (request : BoardRequest) (answered : BoardAnswer) (after : State) → asked_by asked ≡ Ok request → Row setup before asked answered after → AnswersRequest setup before request answered after
read_as setup before asked request answered after is row = subst (λ (r : Result BoardRequest ℕ). AnswersResult setup before r answered after) is row

pub get_is_read : (at : Bus → Addresses) (key : Key) → asked_by (from_manager at (get_asked key)) ≡ Ok (Get key)
get_is_read at key =
    let from = (at (bus_of (get_asked key))).manager in
    is_read_from_all from (get_asked key) ∙ ap (asked_from from) (gets_are_read key).is_read

pub whole_is_read : (at : Bus → Addresses) (op : Op) → asked_by (from_manager at (set_whole op)) ≡ Ok (Set op)
whole_is_read at op =
    let from = (at (bus_of (set_whole op))).manager in
    is_read_from_all from (set_whole op) ∙ ap (asked_from from) (sets_are_read op).is_read

-- ---- a later part of a Get

told : (number : ℕ) → number_of (number % 256) (number / 256) ≡ number
told number = omega arith

pub later_is_read : (at : Bus → Addresses) (handle transfer : ℕ) → transfer < 2 ^ 32 → asked_by (from_manager at (get_part handle transfer)) ≡ Ok (LaterPart handle transfer)
later_is_read at handle transfer small = λ i. Ok (LaterPart (told handle i) (from_le_bytes-to_le_bytes_4 transfer small i))

-- ---- the parts of a Set

module _ (own : ℕ) (entry : List ℕ) where
  abbrev asked_with : List ℕ → Result BoardRequest ℕ
  asked_with body = asked_by (Pldm own bios set_current_value body)

  -- by whether the data have a length that the command takes, and whether they are too short for a part, or for a first one
  abbrev start_where : (allowed short cut : Bool) → SetPart → Result BoardRequest ℕ
  start_where allowed short cut part = if allowed then part_set own (if short then Err pldm_invalid_length else (if cut then Err pldm_invalid_length else Ok part)) else Err pldm_invalid_length

  abbrev later_where : (allowed short : Bool) → SetPart → Result BoardRequest ℕ
  later_where allowed short part = if allowed then part_set own (if short then Err pldm_invalid_length else Ok part) else Err pldm_invalid_length

  pub start_is_read : most_whole < length entry → asked_with (set_part entry 0) ≡ Ok (PartOfSet own (Start (take part_length entry)))
  start_is_read long =
      let first = take part_length entry in
      let size : length first ≡ part_length = length-take-le part_length entry (omega (arith, long)) in
      let body = data_with 0 true false first in
      let more : is_last entry 0 ≡ false = lt-leb (length entry) part_length (omega (arith, long)) in
      ap (λ (last : Bool). asked_with (data_with 0 true last first)) more
      ∙ (λ i. start_where (le-leb 6 (length body) (omega (arith, size)) i) (le-ltb (length body) 6 (omega (arith, size)) i) (le-ltb (length body) 8 (omega (arith, size)) i) (Start first))

  module _ (place : ℕ) (some : 1 ≤ place) (within : part_length * place < length entry) (fits : length entry ≤ 3 + most_sent) where
    abbrev offset : ℕ
    offset = part_length * place

    abbrev part : List ℕ
    part = part_bytes entry offset

    not_first : (offset == 0) ≡ false
    not_first = grind (arith, nat_tests)

    has_bytes : 1 ≤ length part
    has_bytes = omega (arith, within, length-drop offset entry, length-take part_length (drop offset entry))

    handle_read : from_le_bytes w32 (to_le_bytes w32 offset) ≡ offset
    handle_read = from_le_bytes-to_le_bytes_4 offset (omega (arith, within, fits))

    pub middle_is_read : is_last entry offset ≡ false → asked_with (set_part entry offset) ≡ Ok (PartOfSet own (Middle offset part))
    middle_is_read more =
        let body = data_with offset false false part in
        let size : 6 ≤ length body = omega (arith, has_bytes) in
        (λ i. asked_with (data_with offset (not_first i) (more i) part))
        ∙ (λ i. later_where (le-leb 6 (length body) size i) (le-ltb (length body) 6 size i) (Middle (handle_read i) part))

    pub last_is_read : is_last entry offset ≡ true → asked_with (set_part entry offset) ≡ Ok (PartOfSet own (End offset part))
    last_is_read last =
        let body = data_with offset false true part in
        let size : 6 ≤ length body = omega (arith, has_bytes) in
        (λ i. asked_with (data_with offset (not_first i) (last i) part))
        ∙ (λ i. later_where (le-leb 6 (length body) size i) (le-ltb (length body) 6 size i) (End (handle_read i) part))
