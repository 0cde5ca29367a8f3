-- A table holds one step that sets a BIOS attribute, at most.
use Rattle.std.proofs.Common.{◌≡◌, ◌≤◌, ◌∙◌, ℕ, List, length, Some, None, option_and_then, sym, ap}
use Rattle.std.proofs.Props.{props}
use Rattle.toml.specs.Data.{Members}
use Rattle.record_base.specs.AttributeSizes.{most_sent}
use Rattle.record_base.specs.AttributeValue.{type_of_value, value_bytes}
use Rattle.record_base.specs.declared.op.Op.TheVariants as op
use Rattle.record_base.specs.declared.attribute_value.AttributeValue.{AttributeValue}
use Rattle.record_base.specs.declared.attribute_value.AttributeValue.TheVariants as attribute
use Rattle.record_base.specs.declared.bios_attribute.SetBiosAttribute.{SetBiosAttribute}
use Rattle.text_fields.specs.declared.field.Field.TheVariants as field
use Rattle.text_fields.specs.Trees.{in_field, natural, number_in, members_in}
use Rattle.text_fields.specs.Attributes.{string_of, string_in}
use Rattle.plan_file.specs.Kinds.BiosAttribute.{GivesValue, HoldsBiosAttribute, HoldsOp}
use Rattle.text_fields.proofs.Unique.{same_made, one_found, one_list, one_natural, one_number}
use Rattle.plan_file.specs.StepKind.{IsOne}

-- a field that the table lacks has no text and no number
no_text : (tree : Members) (text : List ℕ) → in_field field.Text tree ≡ None → string_in field.Text tree ≡ Some text → ⊥
no_text tree text lacks is = let none : string_in field.Text tree ≡ None = ap (option_and_then string_of) lacks in let both : None ≡ Some text = sym none ∙ is in cc both

no_number : (tree : Members) (n : ℕ) → in_field field.Number tree ≡ None → number_in field.Number tree ≡ Some n → ⊥
no_number tree n lacks is = let none : number_in field.Number tree ≡ None = ap (option_and_then natural) lacks in let both : None ≡ Some n = sym none ∙ is in cc both

one_value : (tree : Members) (a b : AttributeValue) → GivesValue tree a → GivesValue tree b → a ≡ b
one_value tree (attribute.Indexes ms) (attribute.Indexes ns) p q = ap attribute.Indexes (one_list one_natural (members_in field.Indexes tree) ms ns p.0 q.0)
one_value tree (attribute.Indexes ms) (attribute.Text b) p q = absurd (no_text tree b p.1.0 q.0)
one_value tree (attribute.Indexes ms) (attribute.Number b) p q = absurd (no_number tree b p.1.1 q.0)
one_value tree (attribute.Text a) (attribute.Indexes ns) p q = absurd (no_text tree a q.1.0 p.0)
one_value tree (attribute.Text a) (attribute.Text b) p q = ap attribute.Text (one_found (string_in field.Text tree) a b p.0 q.0)
one_value tree (attribute.Text a) (attribute.Number b) p q = absurd (no_text tree a q.1.1 p.0)
one_value tree (attribute.Number a) (attribute.Indexes ns) p q = absurd (no_number tree a q.1.1 p.0)
one_value tree (attribute.Number a) (attribute.Text b) p q = absurd (no_text tree b p.1.1 q.0)
one_value tree (attribute.Number a) (attribute.Number b) p q = ap attribute.Number (one_number field.Number tree a b p.0 q.0)

abbrev attribute_at : (s : ℕ × (ℕ × List ℕ)) → length s.1.1 ≤ most_sent → SetBiosAttribute
attribute_at s fits = record { attribute = s.0; attribute_type = s.1.0; value = s.1.1; fits = fits }

one : (tree : Members) (a b : SetBiosAttribute) → HoldsBiosAttribute tree a → HoldsBiosAttribute tree b → a ≡ b
one tree a b p q =
    let handle = one_number field.Handle tree a.attribute b.attribute p.handle q.handle in
    let value = one_value tree p.value q.value p.given q.given in
    let code : a.attribute_type ≡ b.attribute_type = p.of_type ∙ ap type_of_value value ∙ sym q.of_type in
    let sent : a.value ≡ b.value = p.sent ∙ ap value_bytes value ∙ sym q.sent in
    same_made attribute_at (λ s. hlevel props) (a.attribute, (a.attribute_type, a.value)) (b.attribute, (b.attribute_type, b.value)) a.fits b.fits (λ i. (handle i, (code i, sent i)))

-- the operation that such a step holds is one
pub only : IsOne HoldsOp
only tree = elim [ op.BiosAttribute a ↦ elim [ op.BiosAttribute b ↦ λ p q. ap op.BiosAttribute (one tree a b p q) | _ ↦ λ p q. absurd q ] | _ ↦ λ b p. absurd p ]
