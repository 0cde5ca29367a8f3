use Rattle.std.proofs.Common.{◌≡◌, ◌≤◌, ◌<◌, ◌%◌, ℕ, List, [], ◌∷◌, length, drop, get_or, nat_le, Some, None, refl, sym, ◌∙◌, ap, arith}
use Rattle.std.specs.Option.{option_map}
use Rattle.record_base.specs.AttributeValue.{number_of}
use Rattle.bios_attr.specs.declared.attribute_entry.AttributeEntry.{AttributeEntry}
use Rattle.bios_attr.specs.declared.attribute_entry.KindFields.{KindFields}
use Rattle.bios_attr.specs.AttributeEntry.{fields_at, attribute_at}
use Rattle.bios_attr.proofs.Pieces.{rest_is}
use Rattle.bios_attr.proofs.attribute_entry.attribute_at.Goals as goal

-- fewer than five bytes are no entry
short : (bytes : List ℕ) → length bytes < 5 → None ≡ attribute_at bytes
short [] few = refl
short (a ∷ []) few = refl
short (a ∷ b ∷ []) few = refl
short (a ∷ b ∷ c ∷ []) few = refl
short (a ∷ b ∷ c ∷ d ∷ []) few = refl
short (a ∷ b ∷ c ∷ d ∷ e ∷ bytes) few = absurd (omega arith)

pub returns-then-bytes-lt5 : goal.returns-then-bytes-lt5
returns-then-bytes-lt5 c = short c.args.bytes.now c.if-bytes-lt5.true

-- five bytes and more, of which those behind are of no kind, are no entry
refused : (bytes : List ℕ) → 5 ≤ length bytes → fields_at (get_or bytes 2 0 % 128) (drop 5 bytes) ≡ None → None ≡ attribute_at bytes
refused (low ∷ high ∷ code ∷ a ∷ b ∷ bytes) long is =
    let with_kind : KindFields × List ℕ → AttributeEntry × List ℕ = λ of. (record { attribute = number_of low high; read_only = nat_le 128 code; name = number_of a b; kind = of.0 }, of.1) in
    sym (ap (option_map with_kind) is)
refused [] long is = absurd (omega arith)
refused (a ∷ []) long is = absurd (omega arith)
refused (a ∷ b ∷ []) long is = absurd (omega arith)
refused (a ∷ b ∷ c ∷ []) long is = absurd (omega arith)
refused (a ∷ b ∷ c ∷ d ∷ []) long is = absurd (omega arith)

-- of a kind, they are one
found : (bytes : List ℕ) (kind : KindFields) (rest : List ℕ) (attribute name : ℕ) → 5 ≤ length bytes → fields_at (get_or bytes 2 0 % 128) (drop 5 bytes) ≡ Some (kind, rest)
    → attribute ≡ number_of (get_or bytes 0 0) (get_or bytes 1 0) → name ≡ number_of (get_or bytes 3 0) (get_or bytes 4 0)
    → Some (record { attribute = attribute; read_only = nat_le 128 (get_or bytes 2 0); name = name; kind = kind }, rest) ≡ attribute_at bytes
found (low ∷ high ∷ code ∷ a ∷ b ∷ bytes) kind rest attribute name long is is_attribute is_name =
    let with_kind : KindFields × List ℕ → AttributeEntry × List ℕ = λ of. (record { attribute = number_of low high; read_only = nat_le 128 code; name = number_of a b; kind = of.0 }, of.1) in
    (λ i. Some (record { attribute = is_attribute i; read_only = nat_le 128 code; name = is_name i; kind = kind }, rest)) ∙ sym (ap (option_map with_kind) is)
found [] kind rest attribute name long is is_attribute is_name = absurd (omega arith)
found (a ∷ []) kind rest attribute name long is is_attribute is_name = absurd (omega arith)
found (a ∷ b ∷ []) kind rest attribute name long is is_attribute is_name = absurd (omega arith)
found (a ∷ b ∷ c ∷ []) kind rest attribute name long is is_attribute is_name = absurd (omega arith)
found (a ∷ b ∷ c ∷ d ∷ []) kind rest attribute name long is is_attribute is_name = absurd (omega arith)

pub returns : goal.returns
returns c =
    let bytes : List ℕ = c.args.bytes.now in
    let is : fields_at (get_or bytes 2 0 % 128) (drop 5 bytes) ≡ Some (c.in_ok-kind.kind, c.in_ok-kind.rest) = sym (c.fields_at.ensures ∙ ap (fields_at (get_or bytes 2 0 % 128)) (rest_is 5 bytes)) ∙ c.in_ok-kind.was in
    found bytes c.in_ok-kind.kind c.in_ok-kind.rest c.from_le_bytes.result c.from_le_bytes-2.result c.if-bytes-lt5.false is (omega (arith, c.from_le_bytes.ensures)) (omega (arith, c.from_le_bytes-2.ensures))

pub returns-in_err-kind : goal.returns-in_err-kind
returns-in_err-kind c =
    let bytes : List ℕ = c.args.bytes.now in
    c.from_residual.ensures ∙ refused bytes c.if-bytes-lt5.false (sym (c.fields_at.ensures ∙ ap (fields_at (get_or bytes 2 0 % 128)) (rest_is 5 bytes)) ∙ c.in_err-kind.was)
