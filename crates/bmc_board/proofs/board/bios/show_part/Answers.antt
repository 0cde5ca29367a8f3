use Rattle.std.proofs.Common.{◌≡◌, ◌≤◌, ℕ, List, length, drop, Option, Some, None, Ok, Err, ap, arith}
use Rattle.std.proofs.lemmas.List.{length-take}
use Rattle.std.specs.Prelude.{MatchOption, IsOkAnd}
use Rattle.two_wire.specs.Codes.{pldm_invalid_data}
use Rattle.pldm_base.specs.Parts.{IsPart}
use Rattle.pldm_base.specs.declared.table.Part.{Part}
use Rattle.bmc_board.proofs.board.bios.show_part.Goals as goal

-- a part has at most 192 bytes
part_short : (asked : Option ℕ) (table : List ℕ) (part : Part) → MatchOption asked (Ok part ≡ Err pldm_invalid_data) (λ offset. IsOkAnd {E = ℕ} (Ok part) (IsPart table offset)) → length part.bytes.now ≤ 192
part_short (Some offset) table part is = omega (arith, ap length is.bytes, length-take 192 (drop offset table))
part_short None table part is = absurd cc

pub push_part-requires-clause-short : goal.push_part-requires-clause-short
push_part-requires-clause-short g c = part_short _ _ _ c.in_ok-part.ensures
