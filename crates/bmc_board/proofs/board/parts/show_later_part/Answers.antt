use Rattle.std.proofs.Common.{◌≡◌, ◌≤◌, ℕ, List, length, drop, Bool, true, false, if◌then◌else◌, Option, Some, None, Ok, Err, refl, ap, ◌∙◌, arith}
use Rattle.std.proofs.lemmas.List.{length-take}
use Rattle.std.specs.Prelude.{MatchOption, IsOkAnd}
use Rattle.two_wire.specs.Codes.{pldm_invalid_data}
use Rattle.pldm_base.specs.Parts.{part_bytes, goes_whole, asked_offset, IsEntryPart}
use Rattle.pldm_base.specs.declared.table.Part.{Part}
use Rattle.bios_attr.specs.BiosAttribute.{get_next_part}
use Rattle.bmc_board.proofs.board.parts.show_later_part.Goals as goal

-- a later part has at most 192 bytes: an entry that is given whole has none
later_short : (entry : List ℕ) (offset : Option ℕ) (part : Part) (b : Bool) → goes_whole entry ≡ b → MatchOption (if b then None else offset) (Ok part ≡ Err pldm_invalid_data) (λ o. IsOkAnd {E = ℕ} (Ok part) (IsEntryPart entry o)) → length part.bytes.now ≤ 192
later_short entry offset part true e is = absurd cc
later_short entry (Some o) part false e is =
    omega (arith, ap length (is.bytes ∙ ap (λ (whole : Bool). if whole then entry else part_bytes entry o) e), length-take 192 (drop o entry))
later_short entry None part false e is = absurd cc

pub push_part-requires-clause-short : goal.push_part-requires-clause-short
push_part-requires-clause-short g c =
    let entry : List ℕ = c.args.entry.now in
    later_short entry (asked_offset entry get_next_part c.args.transfer) c.in_ok-part.part (goes_whole entry) refl c.in_ok-part.ensures
