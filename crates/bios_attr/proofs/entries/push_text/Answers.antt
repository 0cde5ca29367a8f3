use Rattle.std.proofs.Common.{rules, ◌≡◌, ◌++◌, ◌∷◌, [], ℕ, List, length, ◌∙◌, ap}
use Rattle.std.proofs.lemmas.List.{append_assoc}
use Rattle.record_base.specs.declared.attribute.StringAttribute.{StringAttribute}
use Rattle.record_base.specs.declared.attribute.AttributeKind.TheVariants.{Text}
use Rattle.record_base.specs.AttributeValue.{two_bytes}
use Rattle.bios_attr.specs.Attributes.{kind_fields}
use Rattle.bios_attr.specs.AttributeLaws.{four_pieces}
use Rattle.bios_attr.proofs.entries.push_text.Goals as goal

-- what is appended piece by piece is what an entry says of a string
pieces : (string : StringAttribute) (old none least most count default first second third fourth made one two : List ℕ)
    → none ≡ [] → first ≡ none ++ string.string_type ∷ [] → second ≡ first ++ least → third ≡ second ++ most → fourth ≡ third ++ count → made ≡ fourth → one ≡ old ++ made → two ≡ one ++ default
    → least ≡ two_bytes string.lengths.least → most ≡ two_bytes string.lengths.most → count ≡ two_bytes (length string.default) → default ≡ string.default
    → two ≡ old ++ kind_fields [] (Text string)
pieces string old none least most count default first second third fourth made one two n a b c d e f g is_least is_most is_count is_text =
    g ∙ ap (λ (xs : List ℕ). xs ++ default) f ∙ append_assoc old made default
    ∙ ap (λ (xs : List ℕ). old ++ (xs ++ default)) (e ∙ d ∙ ap (λ (xs : List ℕ). xs ++ count) (c ∙ ap (λ (xs : List ℕ). xs ++ most) (b ∙ ap (λ (xs : List ℕ). xs ++ least) (a ∙ ap (λ (xs : List ℕ). xs ++ string.string_type ∷ []) n))))
    ∙ ap (λ (xs : List ℕ). old ++ xs) (four_pieces (string.string_type ∷ []) least most count default)
    ∙ (λ i. old ++ string.string_type ∷ (is_least i ++ (is_most i ++ (is_count i ++ is_text i))))

pub returns : goal.returns
returns c =
    let count : c.to_le_bytes-3.result ≡ two_bytes (length c.args.string.now.default) = search rules in
    pieces c.args.string.now c.args.table.now.items c.new-fields.result c.to_le_bytes.result c.to_le_bytes-2.result c.to_le_bytes-3.result _ _ _ _ _ _ _ _
    c.new-fields.ensures c.push.ensures c.extend_from_slice.ensures c.extend_from_slice-2.ensures c.extend_from_slice-3.ensures c.as_slice.ensures.value c.in_ok-extend_from_slice.ensures.items c.in_ok-extend_from_slice-2.ensures.items
    (search rules) (search rules) count c.as_slice-default.ensures
