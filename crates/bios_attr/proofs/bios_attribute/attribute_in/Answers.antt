use Rattle.std.proofs.Common.{◌≡◌, ◌≤◌, ◌<◌, ◌==◌, ℕ, List, length, drop, get_or, Bool, true, false, not, nat_lt, if◌then◌else◌, Result, Ok, Err, refl, sym, ◌∙◌, ap, arith}
use Rattle.std.proofs.lemmas.Bool.{eq-eqb, ne_eqb}
use Rattle.std.proofs.lemmas.Bool.Decides.{nat_tests}
use Rattle.two_wire.specs.Codes.{pldm_invalid_data, pldm_invalid_length}
use Rattle.record_base.specs.declared.bios_attribute.SetBiosAttribute.{SetBiosAttribute}
use Rattle.record_base.specs.AttributeSizes.{before_value}
use Rattle.record_base.specs.AttributeValue.{number_of}
use Rattle.record_base.specs.BiosAttribute.{setting}
use Rattle.bios_attr.specs.EntryParts.{least_set, start_and_end}
use Rattle.bios_attr.specs.BiosAttribute.{attribute_in}
use Rattle.bios_attr.proofs.Pieces.{rest_is}
use Rattle.bios_attr.proofs.bios_attribute.attribute_in.Goals as goal

is_less : (n most : ℕ) → n < most → nat_lt n most ≡ true
is_less n most under = grind (arith, nat_tests)

not_less : (n most : ℕ) → most ≤ n → nat_lt n most ≡ false
not_less n most over = grind (arith, nat_tests)

-- what the data say, by whether they are too short for a flag, have this flag, and are too short for an entry
abbrev read_as : List ℕ → Bool → Bool → Bool → Result SetBiosAttribute ℕ
read_as body short flagged few =
    if short then Err pldm_invalid_length
    else (if not flagged then Err pldm_invalid_data
    else (if few then Err pldm_invalid_length
    else Ok (setting (number_of (get_or body 5 0) (get_or body 6 0)) (get_or body 7 0) (drop before_value body))))

as_read : (body : List ℕ) (short flagged few : Bool) → nat_lt (length body) least_set ≡ short → (get_or body 4 0 == start_and_end) ≡ flagged → nat_lt (length body) before_value ≡ few
    → attribute_in body ≡ read_as body short flagged few
as_read body short flagged few one two three = λ i. read_as body (one i) (two i) (three i)

pub returns-then-body-lt-LEAST_SET : goal.returns-then-body-lt-LEAST_SET
returns-then-body-lt-LEAST_SET c =
    let body : List ℕ = c.args.body.now in
    sym (as_read body true _ _ (is_less (length body) least_set c.if-body-lt-LEAST_SET.true) refl refl)

pub returns-then-body-ne-START_AND_END : goal.returns-then-body-ne-START_AND_END
returns-then-body-ne-START_AND_END c =
    let body : List ℕ = c.args.body.now in
    sym (as_read body false false _ (not_less (length body) least_set c.if-body-lt-LEAST_SET.false) (ne_eqb (get_or body 4 0) start_and_end c.if-body-ne-START_AND_END.true) refl)

pub returns-then-body-lt-BEFORE_VALUE : goal.returns-then-body-lt-BEFORE_VALUE
returns-then-body-lt-BEFORE_VALUE c =
    let body : List ℕ = c.args.body.now in
    sym (as_read body false true true (not_less (length body) least_set c.if-body-lt-LEAST_SET.false) (eq-eqb (get_or body 4 0) start_and_end c.if-body-ne-START_AND_END.false) (is_less (length body) before_value c.if-body-lt-BEFORE_VALUE.true))

pub returns : goal.returns
returns c =
    let body : List ℕ = c.args.body.now in
    let attribute : c.from_le_bytes-attribute.result ≡ number_of (get_or body 5 0) (get_or body 6 0) = omega (arith, c.from_le_bytes-attribute.ensures) in
    ap (λ (op : SetBiosAttribute). Ok op) (c.of.ensures ∙ (λ i. setting (attribute i) (get_or body 7 0) (rest_is 8 body i)))
    ∙ sym (as_read body false true false (not_less (length body) least_set c.if-body-lt-LEAST_SET.false) (eq-eqb (get_or body 4 0) start_and_end c.if-body-ne-START_AND_END.false) (not_less (length body) before_value c.if-body-lt-BEFORE_VALUE.false))
