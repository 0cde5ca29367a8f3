use Rattle.std.proofs.Common.{◌≡◌, ◌≤◌, ◌<◌, ◌%◌, ℕ, List, [], ◌∷◌, length, drop, get_or, nat_le, None, Some, sym, ◌∙◌, ap, refl, arith}
use Rattle.std.specs.Option.{option_map}
use Rattle.record_base.specs.declared.attribute_value.AttributeValue.{AttributeValue}
use Rattle.record_base.specs.AttributeValue.{number_of, value_in}
use Rattle.bios_attr.specs.declared.value_entry.ValueEntry.{ValueEntry}
use Rattle.bios_attr.specs.ValueEntry.{entry_in}
use Rattle.bios_attr.proofs.Pieces.{rest_is}
use Rattle.bios_attr.proofs.value_entry.entry_in.Goals as goal

-- the entry of a value behind these bytes
abbrev with_value : List ℕ → AttributeValue → ValueEntry
with_value bytes v = record { attribute = number_of (get_or bytes 0 0) (get_or bytes 1 0); read_only = nat_le 128 (get_or bytes 2 0); value = v }

-- fewer than three bytes are no entry
short : (bytes : List ℕ) → length bytes < 3 → None ≡ entry_in bytes
short [] few = refl
short (a ∷ []) few = refl
short (a ∷ b ∷ []) few = refl
short (a ∷ b ∷ c ∷ bytes) few = absurd (omega arith)

-- three bytes and more are one if a value is behind them
opened : (bytes : List ℕ) → 3 ≤ length bytes → entry_in bytes ≡ option_map (with_value bytes) (value_in (get_or bytes 2 0 % 128) (drop 3 bytes))
opened (low ∷ high ∷ code ∷ bytes) long = refl
opened [] long = absurd (omega arith)
opened (a ∷ []) long = absurd (omega arith)
opened (a ∷ b ∷ []) long = absurd (omega arith)

pub returns-then-bytes-lt3 : goal.returns-then-bytes-lt3
returns-then-bytes-lt3 c = short c.args.bytes.now c.if-bytes-lt3.true

pub returns-in_err-value : goal.returns-in_err-value
returns-in_err-value c =
    let bytes : List ℕ = c.args.bytes.now in
    let none : value_in (get_or bytes 2 0 % 128) (drop 3 bytes) ≡ None = ap (value_in (get_or bytes 2 0 % 128)) (sym (rest_is 3 bytes)) ∙ sym c.value_in.ensures ∙ c.in_err-value.was in
    c.from_residual.ensures ∙ sym (opened bytes c.if-bytes-lt3.false ∙ ap (option_map (with_value bytes)) none)

pub returns : goal.returns
returns c =
    let bytes : List ℕ = c.args.bytes.now in
    let some : value_in (get_or bytes 2 0 % 128) (drop 3 bytes) ≡ Some c.in_ok-value.value = ap (value_in (get_or bytes 2 0 % 128)) (sym (rest_is 3 bytes)) ∙ sym c.value_in.ensures ∙ c.in_ok-value.was in
    let attribute : c.from_le_bytes.result ≡ number_of (get_or bytes 0 0) (get_or bytes 1 0) = omega (arith, c.from_le_bytes.ensures) in
    (λ i. Some (record { attribute = attribute i; read_only = nat_le 128 (get_or bytes 2 0); value = c.in_ok-value.value }))
    ∙ sym (opened bytes c.if-bytes-lt3.false ∙ ap (option_map (with_value bytes)) some)
