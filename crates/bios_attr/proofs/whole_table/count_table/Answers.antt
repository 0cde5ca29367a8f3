use Rattle.std.proofs.Common.{◌≡◌, ◌%◌, List, ℕ, length, sym, ◌∙◌, ap, subst, ◌-◌, drop}
use Rattle.std.specs.Int.{w32, to_le_bytes}
use Rattle.pldm_base.specs.Crc.{IsCrc32}
use Rattle.bios_attr.proofs.BodyFacts.{wrong_check, unchecked, even_body, table_found, same_bytes, other_bytes}
use Rattle.bios_attr.proofs.whole_table.count_table.Goals as goal

pub returns-then-ne : goal.returns-then-ne
returns-then-ne c =
    let checked = subst (λ (xs : List ℕ). IsCrc32 xs c.crc32.result) c.split_at.ensures.front c.crc32.ensures in
    let bytes : List ℕ = c.args.bytes.now in
    let wrong : drop (length bytes - 4) bytes ≡ to_le_bytes w32 c.crc32.result → ⊥ = λ same. other_bytes c.as_slice.result.now c.split_at.result.1.now c.ne.result c.ne.ensures c.if-ne.true (c.as_slice.ensures ∙ c.to_le_bytes.ensures ∙ sym same ∙ sym c.split_at.ensures.back) in (
      wrong_check c.args.table c.args.bytes.now c.crc32.result checked wrong,
      (
        record { long = c.if-bytes-lt-CHECK_LENGTH.false; even = c.if-bytes-ne0.false },
        unchecked c.args.bytes.now c.crc32.result checked wrong,
      ),
    )

pub count_entries-requires : goal.count_entries-requires
count_entries-requires c =
    ap (λ (xs : List ℕ). length xs % 4) c.split_at.ensures.front ∙ even_body c.args.bytes.now c.if-bytes-lt-CHECK_LENGTH.false c.if-bytes-ne0.false

pub returns : goal.returns
returns c =
    let same = same_bytes c.as_slice.result.now c.split_at.result.1.now c.ne.result c.ne.ensures c.if-ne.false in
    table_found c.args.table c.args.bytes.now c.split_at.result.0.now c.crc32.result c.count_entries.result (record { long = c.if-bytes-lt-CHECK_LENGTH.false; even = c.if-bytes-ne0.false }) c.split_at.ensures.front c.crc32.ensures
    (sym c.split_at.ensures.back ∙ sym same ∙ c.as_slice.ensures ∙ c.to_le_bytes.ensures)
    c.count_entries.ensures
