-- The records of a board have the values of its attributes.
use Rattle.std.proofs.Common.{◌≡◌, ◌≢◌, ℕ, zero, suc, ◌<◌, List, [], ◌∷◌, length, get_or, Bool, false, cond, ◌==◌, Option, Some, None, refl, sym, ◌∙◌, ap, subst, arith}
use Rattle.std.specs.List.{find}
use Rattle.std.specs.Option.{option_map, unwrap_or, IsSomeAnd}
use Rattle.std.proofs.lemmas.Bool.Decides.{nat_tests}
use Rattle.record_base.specs.Distinct.{NamesDiffer}
use Rattle.record_base.specs.InOrderLaws.{numbered_differ}
use Rattle.record_base.specs.InverseLaws.{same_tested}
use Rattle.record_base.specs.declared.key.Key.TheVariants as key
use Rattle.record_base.specs.declared.attribute.Attribute.{Attribute}
use Rattle.record_base.specs.declared.attribute.AttributeKind.{AttributeKind}
use Rattle.record_base.specs.declared.attribute.AttributeKind.TheVariants as kind
use Rattle.record_base.specs.declared.attribute_value.AttributeValue.{AttributeValue}
use Rattle.record_base.specs.declared.attribute_value.AttributeValue.TheVariants.{Number}
use Rattle.record_base.specs.Attribute.{type_of_kind, range_of}
use Rattle.record_base.specs.AttributeRange.{type_of, AllowsValue}
use Rattle.record_base.specs.AttributeValue.{value_in}
use Rattle.record_kinds.specs.declared.limits.Limits.{Limits}
use Rattle.record_kinds.specs.declared.limits.Limits.TheVariants as limits
use Rattle.record_kinds.specs.Boards.{attribute_at}
use Rattle.record_kinds.specs.Sound.{IsSoundAt}
use Rattle.bmc_board.specs.Sensing.{bytes_of}
use Rattle.bmc_board.specs.BiosTables.{values_in}
use Rattle.bmc_board.specs.StandingValues.{AttributesHaveValues}

-- an attribute of a board is found by its handle
tested_other : (a b : ℕ) → a ≢ b → (a == b) ≡ false
tested_other a b h = grind (arith, nat_tests)

attribute_found : (attributes : List Attribute) → NamesDiffer (λ (a : Attribute). a.handle) attributes → (k : ℕ) (d : Attribute) → k < length attributes
    → attribute_at attributes (get_or attributes k d).handle ≡ Some (get_or attributes k d)
attribute_found [] differ k d within = absurd (omega (arith, within))
attribute_found (a ∷ attributes) differ zero d within =
    ap (λ (b : Bool). cond b (Some a) (find (λ (other : Attribute). other.handle == a.handle) attributes)) (same_tested a.handle a.handle refl)
attribute_found (a ∷ attributes) differ (suc k) d within =
    let item : Attribute = get_or attributes k d in
    let other : a.handle ≢ item.handle = differ 0 (suc k) d (omega arith) within in
    ap (λ (b : Bool). cond b (Some a) (find (λ (other : Attribute). other.handle == item.handle) attributes)) (tested_other a.handle item.handle other)
    ∙ attribute_found attributes (λ i j d less inside. differ (suc i) (suc j) d (omega (arith, less)) (omega (arith, inside))) k d (omega (arith, within))

-- what an attribute's bytes are read as
abbrev current_at : Option Attribute → List ℕ → AttributeValue
current_at (Some a) bytes = unwrap_or (value_in (type_of_kind a.kind) bytes) (Number 0)
current_at None bytes = Number 0

some_read : (P : AttributeValue → Type 0) (read : Option AttributeValue) → IsSomeAnd read P → read ≡ Some (unwrap_or read (Number 0))
some_read P (Some v) is = refl
some_read P None is = absurd is

type_is : (k : AttributeKind) → type_of (range_of k) ≡ type_of_kind k
type_is (kind.Enumeration e) = refl
type_is (kind.Text t) = refl
type_is (kind.Integer i) = refl

abbrev limits_of : ℕ → Attribute → Limits
limits_of handle a = limits.BiosAttribute (record { handle = handle; read_only = a.read_only; range = range_of a.kind })

read_at : (a : Attribute) (handle : ℕ) (value : Option (List ℕ)) → IsSoundAt (Some (limits_of handle a)) value → value_in (type_of_kind a.kind) (bytes_of value) ≡ Some (current_at (Some a) (bytes_of value))
read_at a handle (Some bytes) sound =
    subst (λ (code : ℕ). value_in code bytes ≡ Some (unwrap_or (value_in code bytes) (Number 0))) (type_is a.kind)
    (some_read (AllowsValue (range_of a.kind)) (value_in (type_of (range_of a.kind)) bytes) sound)
read_at a handle None sound = absurd sound

pub attributes_have_values : AttributesHaveValues
attributes_have_values file records sound =
    let items : List Attribute = file.attributes.items in (
      λ handle. current_at (attribute_at items handle) (values_in records handle),
      λ k d within.
          let a : Attribute = get_or items k d in
          let found : attribute_at items a.handle ≡ Some a = attribute_found items (numbered_differ (λ (a : Attribute). a.handle) 0 items file.attributes.placed) k d within in
          read_at a a.handle (records (key.BiosAttribute a.handle)) (subst (λ (o : Option Attribute). IsSoundAt (option_map (limits_of a.handle) o) (records (key.BiosAttribute a.handle))) found (sound (key.BiosAttribute a.handle)))
          ∙ ap (λ (o : Option Attribute). Some (current_at o (values_in records a.handle))) (sym found),
    )
