-- Lists that grow by an element, as loops make them; and how many strings there are.
use Rattle.std.proofs.Common.{◌≡◌, ℕ, ◌+◌, ◌*◌, ◌≤◌, List, [], ◌∷◌, ◌++◌, length, Bool, true, false, refl, sym, ◌∙◌, ap, arith, length-append, if◌then◌else◌}
use Rattle.std.specs.List.{flat_map, list_any}
use Rattle.std.proofs.lemmas.List.Concat.{flat_map-append, flat_map-cons}
use Rattle.std.proofs.lemmas.List.{append-nil, append_assoc}
use Rattle.record_base.specs.declared.attribute.Attribute.{Attribute}
use Rattle.record_base.specs.declared.attribute.AttributeKind.{AttributeKind}
use Rattle.record_base.specs.declared.attribute.AttributeKind.TheVariants.{Enumeration, Text, Integer}
use Rattle.record_base.specs.AttributeSizes.{most_indexes, most_attributes}
use Rattle.bios_attr.specs.Attributes.{is_text, with_text, with_texts, with_attributes, strings_of, texts_of, values_of, string_entry, string_entries}

-- texts and one more
pub texts_more : (strings texts : List (List ℕ)) (text : List ℕ) → with_texts strings (texts ++ text ∷ []) ≡ with_text (with_texts strings texts) text
texts_more strings [] text = refl
texts_more strings (first ∷ texts) text = texts_more (with_text strings first) texts text

-- attributes and one more
pub attributes_more : (strings : List (List ℕ)) (attributes : List Attribute) (attribute : Attribute) → with_attributes strings (attributes ++ attribute ∷ []) ≡ with_texts (with_attributes strings attributes) (texts_of attribute)
attributes_more strings [] attribute = refl
attributes_more strings (first ∷ attributes) attribute = attributes_more (with_texts strings (texts_of first)) attributes attribute

-- entries and one more
pub entries_more : (handle : ℕ) (texts : List (List ℕ)) (text : List ℕ) → string_entries handle (texts ++ text ∷ []) ≡ string_entries handle texts ++ string_entry (handle + length texts) text
entries_more handle [] text = append-nil (string_entry handle text) ∙ ap (λ (h : ℕ). string_entry h text) (omega arith)
entries_more handle (first ∷ texts) text =
    ap (λ (xs : List ℕ). string_entry handle first ++ xs) (entries_more (handle + 1) texts text ∙ ap (λ (h : ℕ). string_entries (handle + 1) texts ++ string_entry h text) (omega arith))
    ∙ sym (append_assoc (string_entry handle first) (string_entries (handle + 1) texts) (string_entry (handle + length (first ∷ texts)) text))

-- pieces and one more
pub pieces_more : {X : Type 0} (f : X → List ℕ) (xs : List X) (x : X) → flat_map f (xs ++ x ∷ []) ≡ flat_map f xs ++ f x
pieces_more f xs x = flat_map-append f xs (x ∷ []) ∙ ap (λ (ys : List ℕ). flat_map f xs ++ ys) (flat_map-cons f x [] ∙ append-nil (f x))

-- four pieces behind a list
pub four_pieces : (e a b c d : List ℕ) → e ++ a ++ b ++ c ++ d ≡ e ++ (a ++ (b ++ (c ++ d)))
four_pieces e a b c d = append_assoc (e ++ a ++ b) c d ∙ append_assoc (e ++ a) b (c ++ d) ∙ append_assoc e a (b ++ (c ++ d))

-- ---- how many strings there are

text_few : (b : Bool) (strings : List (List ℕ)) (text : List ℕ) → length (if b then strings else strings ++ text ∷ []) ≤ length strings + 1
text_few true strings text = omega arith
text_few false strings text = omega (arith, length-append strings (text ∷ []))

texts_few : (strings texts : List (List ℕ)) → length (with_texts strings texts) ≤ length strings + length texts
texts_few strings [] = omega arith
texts_few strings (text ∷ texts) =
    omega (arith, texts_few (with_text strings text) texts, text_few (list_any (is_text text) strings) strings text)

values_few : (kind : AttributeKind) → length (values_of kind) ≤ most_indexes
values_few (Enumeration e) = e.few
values_few (Text t) = omega arith
values_few (Integer i) = omega arith

attributes_few : (strings : List (List ℕ)) (attributes : List Attribute) → length (with_attributes strings attributes) ≤ length strings + 17 * length attributes
attributes_few strings [] = omega arith
attributes_few strings (attribute ∷ attributes) =
    let here : length (with_texts strings (texts_of attribute)) ≤ length strings + length (texts_of attribute) = texts_few strings (texts_of attribute) in
    let values : length (values_of attribute.kind) ≤ most_indexes = values_few attribute.kind in
    let rest = attributes_few (with_texts strings (texts_of attribute)) attributes in
    omega (arith, here, values, rest)

-- the strings' handles have two bytes
pub strings_few : (attributes : List Attribute) → length attributes ≤ most_attributes → length (strings_of attributes) ≤ 65535
strings_few attributes few = omega (arith, attributes_few [] attributes, few)
