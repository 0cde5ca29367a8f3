use Rattle.std.proofs.Common.{◌≡◌, ◌≤◌, ◌<◌, ◌-◌, ◌%◌, ℕ, List, [], ◌∷◌, length, take, drop, get_or, nat_le, Option, None, Some, sym, ◌∙◌, ap, refl, arith}
use Rattle.std.specs.Option.{option_map}
use Rattle.record_base.specs.declared.attribute_value.AttributeValue.{AttributeValue}
use Rattle.record_base.specs.AttributeValue.{number_of, value_in}
use Rattle.bios_attr.specs.declared.value_entry.ValueEntry.{ValueEntry}
use Rattle.bios_attr.specs.StringEntry.{piece}
use Rattle.bios_attr.specs.TableEntry.{value_size, value_at}
use Rattle.bios_attr.proofs.Pieces.{no_piece, is_piece, rest_is}
use Rattle.bios_attr.proofs.value_entry.value_at.Goals as goal

-- the entry of a value's bytes, and what is behind it
abbrev entry_of : (low high code : ℕ) → List ℕ → List ℕ → Option (ValueEntry × List ℕ)
entry_of low high code value rest = option_map (λ v. (record { attribute = number_of low high; read_only = nat_le 128 code; value = v }, rest)) (value_in (code % 128) value)

abbrev front_of : List ℕ → List ℕ → List ℕ → Option (ValueEntry × List ℕ)
front_of bytes = entry_of (get_or bytes 0 0) (get_or bytes 1 0) (get_or bytes 2 0)

-- fewer than three bytes are no entry
short : (bytes : List ℕ) → length bytes < 3 → None ≡ value_at bytes
short [] few = refl
short (a ∷ []) few = refl
short (a ∷ b ∷ []) few = refl
short (a ∷ b ∷ c ∷ bytes) few = absurd (omega arith)

-- three bytes and more are an entry if the value's bytes are there
opened : (bytes behind : List ℕ) (size : ℕ) → 3 ≤ length bytes → behind ≡ drop 3 bytes → size ≡ value_size (get_or bytes 2 0 % 128) behind → value_at bytes ≡ piece size behind (front_of bytes)
opened (low ∷ high ∷ code ∷ bytes) behind size long same is =
    ap (λ (xs : List ℕ). piece (value_size (code % 128) xs) xs (entry_of low high code)) (sym same) ∙ ap (λ (n : ℕ). piece n behind (entry_of low high code)) (sym is)
opened [] behind size long same is = absurd (omega arith)
opened (a ∷ []) behind size long same is = absurd (omega arith)
opened (a ∷ b ∷ []) behind size long same is = absurd (omega arith)

-- a value is an entry
found : (bytes behind rest : List ℕ) (size attribute : ℕ) (value : AttributeValue) → 3 ≤ length bytes → behind ≡ drop 3 bytes → size ≡ value_size (get_or bytes 2 0 % 128) behind
    → size ≤ length behind → value_in (get_or bytes 2 0 % 128) (take size behind) ≡ Some value → attribute ≡ number_of (get_or bytes 0 0) (get_or bytes 1 0) → rest ≡ drop size behind
    → Some (record { attribute = attribute; read_only = nat_le 128 (get_or bytes 2 0); value = value }, rest) ≡ value_at bytes
found bytes behind rest size attribute value long same is room some is_attribute is_rest =
    let with_value : AttributeValue → ValueEntry × List ℕ = λ v. (record { attribute = number_of (get_or bytes 0 0) (get_or bytes 1 0); read_only = nat_le 128 (get_or bytes 2 0); value = v }, drop size behind) in
    (λ i. Some (record { attribute = is_attribute i; read_only = nat_le 128 (get_or bytes 2 0); value = value }, is_rest i))
    ∙ sym (opened bytes behind size long same is ∙ is_piece size behind (front_of bytes) room ∙ ap (option_map with_value) some)

pub returns-then-bytes-lt3 : goal.returns-then-bytes-lt3
returns-then-bytes-lt3 c = short c.args.bytes.now c.if-bytes-lt3.true

pub returns-then-behind-size : goal.returns-then-behind-size
returns-then-behind-size c =
    let bytes : List ℕ = c.args.bytes.now in
    let behind : List ℕ = take (length bytes - 3) (drop 3 bytes) in
    let size = c.value_size-size.result in
    sym (opened bytes behind size c.if-bytes-lt3.false (rest_is 3 bytes) c.value_size-size.ensures.size ∙ no_piece size behind (front_of bytes) c.if-behind-size.true)

pub returns-in_err-value : goal.returns-in_err-value
returns-in_err-value c =
    let bytes : List ℕ = c.args.bytes.now in
    let behind : List ℕ = take (length bytes - 3) (drop 3 bytes) in
    let size = c.value_size-size.result in
    let with_value : AttributeValue → ValueEntry × List ℕ = λ v. (record { attribute = number_of (get_or bytes 0 0) (get_or bytes 1 0); read_only = nat_le 128 (get_or bytes 2 0); value = v }, drop size behind) in
    let none : value_in (get_or bytes 2 0 % 128) (take size behind) ≡ None = sym c.value_in.ensures ∙ c.in_err-value.was in
    c.from_residual.ensures
    ∙ sym (opened bytes behind size c.if-bytes-lt3.false (rest_is 3 bytes) c.value_size-size.ensures.size ∙ is_piece size behind (front_of bytes) c.if-behind-size.false ∙ ap (option_map with_value) none)

pub returns : goal.returns
returns c =
    let bytes : List ℕ = c.args.bytes.now in
    let behind : List ℕ = take (length bytes - 3) (drop 3 bytes) in
    let size = c.value_size-size.result in
    found bytes behind c.new.result size c.from_le_bytes.result c.in_ok-value.value c.if-bytes-lt3.false (rest_is 3 bytes) c.value_size-size.ensures.size c.if-behind-size.false (sym c.value_in.ensures ∙ c.in_ok-value.was)
    (omega (arith, c.from_le_bytes.ensures)) (c.new.ensures ∙ rest_is size behind)
