use Rattle.std.proofs.Common.{◌≡◌, ◌==◌, ◌&&◌, ℕ, List, Option, Some, Bool, true, false, not, if◌then◌else◌, Result, Ok, Err, refl, sym, ap, ◌∙◌, subst, None}
use Rattle.std.proofs.lemmas.Bool.{false≢true, eq-eqb, ne_eqb}
use Rattle.std.specs.Prelude.{is_some}
use Rattle.two_wire.specs.Codes.{pldm_invalid_data, pldm_invalid_length, pldm_invalid_attribute}
use Rattle.std.specs.Option.{IsSomeAnd}
use Rattle.record_base.specs.declared.attribute_range.AttributeRange.{AttributeRange}
use Rattle.record_base.specs.declared.attribute_value.AttributeValue.{AttributeValue}
use Rattle.record_base.specs.declared.bios_attribute.SetBiosAttribute.{SetBiosAttribute}
use Rattle.record_base.specs.AttributeRange.{type_of, AllowsValue, allows, is_allowed}
use Rattle.record_base.specs.AttributeRangeLaws.{true_allows, allows_true}
use Rattle.record_base.specs.AttributeValue.{value_in}
use Rattle.bios_attr.specs.declared.bios_attribute.AttributeLimits.{AttributeLimits}
use Rattle.bios_attr.specs.BiosAttribute.{SetsAttribute, is_settable, value_given, attribute_outcome}
use Rattle.bios_attr.proofs.bios_attribute.AttributeLimitsRecordKind.apply.Goals.{then-op-type_code-via-then-op-type_code, then-op-type_code-via-else-op-type_code+then-self}
use Rattle.bios_attr.proofs.bios_attribute.AttributeLimitsRecordKind.apply.Goals as goal

-- an operation with a value that the attribute can't have sets nothing
sets_none : (limits : AttributeLimits) (op : SetBiosAttribute) (new : List ℕ) (value : AttributeValue) → value_in op.attribute_type op.value ≡ Some value → allows limits.range value ≡ false → SetsAttribute limits op new → ⊥
sets_none limits op new value found refused s =
    let typed : value_in (type_of limits.range) new ≡ Some value = ap (λ (code : ℕ). value_in code new) (sym s.of_type) ∙ ap (value_in op.attribute_type) s.is_new ∙ found in
    let can : AllowsValue limits.range value = subst (λ (o : Option AttributeValue). IsSomeAnd o (AllowsValue limits.range)) typed s.is_value in
    let allowed : allows limits.range value ≡ true = allows_true limits.range value can in
    cc

pub returns-then-not-allows-clause-decides : goal.returns-then-not-allows-clause-decides
returns-then-not-allows-clause-decides c = λ new s.
    let found : value_in c.args.op.now.attribute_type c.args.op.now.value ≡ Some c.in-Some.value =
    ap (value_in c.args.op.now.attribute_type) (sym c.as_slice-bytes.ensures.value) ∙ sym c.value_in.ensures ∙ c.in-Some.is in
    sets_none c.args.self.now c.args.op.now new c.in-Some.value found (sym c.allows.ensures ∙ c.if-not-allows.true) s

pub returns-clause-decides : goal.returns-clause-decides
returns-clause-decides c =
    let allowed : AttributeRange = c.args.self.now.range in
    let of_type = c.if-op-type_code.false ∙ c.type_code.ensures in
    let can : AllowsValue allowed c.in-Some.value = true_allows allowed c.in-Some.value (sym c.allows.ensures ∙ c.if-not-allows.false) in
    let found : value_in (type_of allowed) c.replace.new.self ≡ Some c.in-Some.value =
    ap (value_in (type_of allowed)) c.replace.ensures ∙ ap (λ (code : ℕ). value_in code c.as_slice-bytes.result.now) (sym of_type) ∙ sym c.value_in.ensures ∙ c.in-Some.is in
    record {
      own = c.requires.of_record;
      of_type = of_type;
      can_be_set = c.if-self.false;
      is_new = c.replace.ensures ∙ c.as_slice-bytes.ensures.value;
      is_value = subst (λ (o : Option AttributeValue). IsSomeAnd o (AllowsValue allowed)) (sym found) can;
    }

-- an operation with bytes that are no value of the attribute's type sets nothing
none_sets : (limits : AttributeLimits) (op : SetBiosAttribute) (new : List ℕ) → value_in op.attribute_type op.value ≡ None → SetsAttribute limits op new → ⊥
none_sets limits op new none s =
    let typed : value_in (type_of limits.range) new ≡ None = ap (λ (code : ℕ). value_in code new) (sym s.of_type) ∙ ap (value_in op.attribute_type) s.is_new ∙ none in
    subst (λ (o : Option AttributeValue). IsSomeAnd o (AllowsValue limits.range)) typed s.is_value

pub returns-in_default-clause-decides : goal.returns-in_default-clause-decides
returns-in_default-clause-decides c = λ new s.
    none_sets c.args.self.now c.args.op.now new (ap (value_in c.args.op.now.attribute_type) (sym c.as_slice-bytes.ensures.value) ∙ sym c.value_in.ensures ∙ c.in_default.is) s

-- ---- the outcome of an operation of the record's own

-- by whether the attribute can be set so, and by the value that is given
abbrev outcome_of : AttributeLimits → SetBiosAttribute → Bool → Option AttributeValue → Result (List ℕ) ℕ
outcome_of limits op settable given =
    if settable
    then (if is_some given
    then (if is_allowed limits.range given then Ok op.value else Err pldm_invalid_data)
    else Err pldm_invalid_length)
    else Err pldm_invalid_data

outcome_is : (limits : AttributeLimits) (op : SetBiosAttribute) (settable : Bool) (given : Option AttributeValue) → op.attribute ≡ limits.handle → is_settable limits op ≡ settable → value_given limits op ≡ given
    → attribute_outcome limits op ≡ outcome_of limits op settable given
outcome_is limits op settable given own can found =
    ap (λ (is_own : Bool). if is_own then outcome_of limits op (is_settable limits op) (value_given limits op) else Err pldm_invalid_attribute) (eq-eqb op.attribute limits.handle own)
    ∙ ap (λ (s : Bool). outcome_of limits op s (value_given limits op)) can
    ∙ ap (outcome_of limits op settable) found

can_be_set : (limits : AttributeLimits) (op : SetBiosAttribute) → op.attribute_type ≡ type_of limits.range → limits.read_only ≡ false → is_settable limits op ≡ true
can_be_set limits op of_type settable = ap (λ (same : Bool). same && not limits.read_only) (eq-eqb op.attribute_type (type_of limits.range) of_type) ∙ ap not settable

of_another_type : (limits : AttributeLimits) (op : SetBiosAttribute) → (op.attribute_type ≡ type_of limits.range → ⊥) → is_settable limits op ≡ false
of_another_type limits op other = ap (λ (same : Bool). same && not limits.read_only) (ne_eqb op.attribute_type (type_of limits.range) other)

and_false : (b : Bool) → (b && false) ≡ false
and_false true = refl
and_false false = refl

only_read : (limits : AttributeLimits) (op : SetBiosAttribute) → limits.read_only ≡ true → is_settable limits op ≡ false
only_read limits op only = ap (λ (r : Bool). (op.attribute_type == type_of limits.range) && not r) only ∙ and_false (op.attribute_type == type_of limits.range)

-- the value that is given, as the operation's own type has it
given_is : (limits : AttributeLimits) (op : SetBiosAttribute) (given : Option AttributeValue) → op.attribute_type ≡ type_of limits.range → value_in op.attribute_type op.value ≡ given → value_given limits op ≡ given
given_is limits op given of_type found = ap (λ (code : ℕ). value_in code op.value) (sym of_type) ∙ found

pub returns-then-op-type_code : goal.returns-then-op-type_code
returns-then-op-type_code c =
    let limits = c.args.self.now in
    let op = c.args.op.now in
    let not_settable : is_settable limits op ≡ false = elim c.then-op-type_code.branch [
      | then-op-type_code-via-then-op-type_code w ↦ of_another_type limits op (λ same. w.if-op-type_code.true (same ∙ sym c.type_code.ensures))
      | then-op-type_code-via-else-op-type_code+then-self w ↦ only_read limits op w.if-self.true
    ] in
    record {
      decides = λ new s. absurd (false≢true (sym not_settable ∙ can_be_set limits op s.of_type s.can_be_set));
      outcome = sym (outcome_is limits op false (value_given limits op) c.requires.of_record not_settable refl);
      kept = refl;
    }

pub returns-then-not-allows-clause-outcome : goal.returns-then-not-allows-clause-outcome
returns-then-not-allows-clause-outcome c =
    let limits = c.args.self.now in
    let op = c.args.op.now in
    let of_type = c.if-op-type_code.false ∙ c.type_code.ensures in
    let found : value_in op.attribute_type op.value ≡ Some c.in-Some.value = ap (value_in op.attribute_type) (sym c.as_slice-bytes.ensures.value) ∙ sym c.value_in.ensures ∙ c.in-Some.is in
    sym (outcome_is limits op true (Some c.in-Some.value) c.requires.of_record (can_be_set limits op of_type c.if-self.false) (given_is limits op _ of_type found)
    ∙ ap (λ (a : Bool). if a then Ok op.value else Err pldm_invalid_data) (sym c.allows.ensures ∙ c.if-not-allows.true))

pub returns-in_default-clause-outcome : goal.returns-in_default-clause-outcome
returns-in_default-clause-outcome c =
    let limits = c.args.self.now in
    let op = c.args.op.now in
    let of_type = c.if-op-type_code.false ∙ c.type_code.ensures in
    let none : value_in op.attribute_type op.value ≡ None = ap (value_in op.attribute_type) (sym c.as_slice-bytes.ensures.value) ∙ sym c.value_in.ensures ∙ c.in_default.is in
    sym (outcome_is limits op true None c.requires.of_record (can_be_set limits op of_type c.if-self.false) (given_is limits op _ of_type none))

pub returns-clause-outcome : goal.returns-clause-outcome
returns-clause-outcome c =
    let limits = c.args.self.now in
    let op = c.args.op.now in
    let of_type = c.if-op-type_code.false ∙ c.type_code.ensures in
    let found : value_in op.attribute_type op.value ≡ Some c.in-Some.value = ap (value_in op.attribute_type) (sym c.as_slice-bytes.ensures.value) ∙ sym c.value_in.ensures ∙ c.in-Some.is in
    ap (λ (new : List ℕ). Ok new) (c.replace.ensures ∙ c.as_slice-bytes.ensures.value)
    ∙ sym (outcome_is limits op true (Some c.in-Some.value) c.requires.of_record (can_be_set limits op of_type c.if-self.false) (given_is limits op _ of_type found)
    ∙ ap (λ (a : Bool). if a then Ok op.value else Err pldm_invalid_data) (sym c.allows.ensures ∙ c.if-not-allows.false))
