use Rattle.std.proofs.Common.{rules, ◌≡◌, ◌≤◌, ◌+◌, ◌++◌, ◌∷◌, [], ℕ, List, length, refl, sym, ◌∙◌, ap, subst, arith}
use Rattle.record_base.specs.AttributeValue.{two_bytes}
use Rattle.bios_attr.specs.declared.attribute_entry.AttributeEntry.{AttributeEntry}
use Rattle.bios_attr.specs.declared.attribute_entry.KindFields.{KindFields}
use Rattle.bios_attr.specs.AttributeEntry.{type_of_fields, fields_bytes, attribute_bytes}
use Rattle.bios_attr.specs.AttributeLaws.{four_pieces}
use Rattle.bios_attr.specs.ValueEntry.{shown_type}
use Rattle.bios_attr.proofs.Pieces.{room_for, room_for_one, room_left, length_of}
use Rattle.bios_attr.proofs.attribute_entry.AttributeEntry.write.Goals as goal

-- what is appended piece by piece is the entry
pieces : (entry : AttributeEntry) (old attribute name fields first coded named all : List ℕ) (code : ℕ)
    → first ≡ old ++ attribute → coded ≡ first ++ code ∷ [] → named ≡ coded ++ name → all ≡ named ++ fields
    → attribute ≡ two_bytes entry.attribute → code ≡ shown_type entry.read_only (type_of_fields entry.kind) → name ≡ two_bytes entry.name → fields ≡ fields_bytes entry.kind
    → all ≡ old ++ attribute_bytes entry
pieces entry old attribute name fields first coded named all code a b c d is_attribute is_code is_name is_fields =
    d
    ∙ ap (λ (xs : List ℕ). xs ++ fields) (c ∙ ap (λ (xs : List ℕ). xs ++ name) (b ∙ ap (λ (xs : List ℕ). xs ++ code ∷ []) a))
    ∙ four_pieces old attribute (code ∷ []) name fields
    ∙ (λ i. old ++ (is_attribute i ++ is_code i ∷ (is_name i ++ is_fields i)))

pub returns-in-Enumeration : goal.returns-in-Enumeration
returns-in-Enumeration g c =
    let code = c.shown_type.ensures ∙ ap (shown_type c.args.self.now.read_only) c.type_code.ensures.value in
    pieces c.args.self.now (g.B.Buffer.bytes c.args.out.now) c.to_le_bytes.result c.to_le_bytes-2.result _ _ _ _ _ _ c.extend_from_slice.ensures c.push.ensures c.extend_from_slice-2.ensures c.write_enumeration.ensures (search rules) code (search rules) (ap fields_bytes (sym c.in-Enumeration.is))

pub returns-in-Text : goal.returns-in-Text
returns-in-Text g c =
    let code = c.shown_type.ensures ∙ ap (shown_type c.args.self.now.read_only) c.type_code.ensures.value in
    pieces c.args.self.now (g.B.Buffer.bytes c.args.out.now) c.to_le_bytes.result c.to_le_bytes-2.result _ _ _ _ _ _ c.extend_from_slice.ensures c.push.ensures c.extend_from_slice-2.ensures c.write_text.ensures (search rules) code (search rules) (ap fields_bytes (sym c.in-Text.is))

pub returns-in-Integer : goal.returns-in-Integer
returns-in-Integer g c =
    let code = c.shown_type.ensures ∙ ap (shown_type c.args.self.now.read_only) c.type_code.ensures.value in
    pieces c.args.self.now (g.B.Buffer.bytes c.args.out.now) c.to_le_bytes.result c.to_le_bytes-2.result _ _ _ _ _ _ c.extend_from_slice.ensures c.push.ensures c.extend_from_slice-2.ensures c.write_integer.ensures (search rules) code (search rules) (ap fields_bytes (sym c.in-Integer.is))

-- the room for all of an entry's pieces
all_room : (before : ℕ) (entry : AttributeEntry) (most : ℕ) → before + length (attribute_bytes entry) ≤ most → before + (2 + (1 + (2 + length (fields_bytes entry.kind)))) ≤ most
all_room before entry most room = omega (arith, room)

-- the room behind the first piece, the second and the third
first_left : (size : ℕ) (old attribute first : List ℕ) (most : ℕ) → length old + (2 + (1 + (2 + size))) ≤ most → length attribute ≡ 2 → first ≡ old ++ attribute → length first + (1 + (2 + size)) ≤ most
first_left size old attribute first most room two a = room_left old attribute first 2 (1 + (2 + size)) most room two a

second_left : (size code : ℕ) (first coded : List ℕ) (most : ℕ) → length first + (1 + (2 + size)) ≤ most → coded ≡ first ++ code ∷ [] → length coded + (2 + size) ≤ most
second_left size code first coded most room b = room_left first (code ∷ []) coded 1 (2 + size) most room refl b

third_left : (size : ℕ) (coded name named : List ℕ) (most : ℕ) → length coded + (2 + size) ≤ most → length name ≡ 2 → named ≡ coded ++ name → length named + size ≤ most
third_left size coded name named most room two c = room_left coded name named 2 size most room two c

pub extend_from_slice-requires : goal.extend_from_slice-requires
extend_from_slice-requires g c = room_for _ 2 _ _ c.to_le_bytes.result (all_room _ c.args.self.now _ c.requires) (length_of c.to_le_bytes.ensures)

pub push-requires : goal.push-requires
push-requires g c =
    let one = first_left _ (g.B.Buffer.bytes c.args.out.now) c.to_le_bytes.result (g.B.Buffer.bytes c.extend_from_slice.new.self) _ (all_room _ c.args.self.now _ c.requires) (length_of c.to_le_bytes.ensures) c.extend_from_slice.ensures in
    room_for_one (length (g.B.Buffer.bytes c.extend_from_slice.new.self)) _ g.B.Buffer.capacity one

pub extend_from_slice-requires-2 : goal.extend_from_slice-requires-2
extend_from_slice-requires-2 g c =
    let one = first_left _ (g.B.Buffer.bytes c.args.out.now) c.to_le_bytes.result (g.B.Buffer.bytes c.extend_from_slice.new.self) _ (all_room _ c.args.self.now _ c.requires) (length_of c.to_le_bytes.ensures) c.extend_from_slice.ensures in
    let two = second_left _ c.shown_type.result (g.B.Buffer.bytes c.extend_from_slice.new.self) (g.B.Buffer.bytes c.push.new.self) _ one c.push.ensures in
    room_for _ 2 _ _ c.to_le_bytes-2.result two (length_of c.to_le_bytes-2.ensures)

pub write_enumeration-requires : goal.write_enumeration-requires
write_enumeration-requires g c =
    let one = first_left _ (g.B.Buffer.bytes c.args.out.now) c.to_le_bytes.result (g.B.Buffer.bytes c.extend_from_slice.new.self) _ (all_room _ c.args.self.now _ c.requires) (length_of c.to_le_bytes.ensures) c.extend_from_slice.ensures in
    let two = second_left _ c.shown_type.result (g.B.Buffer.bytes c.extend_from_slice.new.self) (g.B.Buffer.bytes c.push.new.self) _ one c.push.ensures in
    let three = third_left _ (g.B.Buffer.bytes c.push.new.self) c.to_le_bytes-2.result (g.B.Buffer.bytes c.extend_from_slice-2.new.self) _ two (length_of c.to_le_bytes-2.ensures) c.extend_from_slice-2.ensures in
    subst (λ (kind : KindFields). length (g.B.Buffer.bytes c.extend_from_slice-2.new.self) + length (fields_bytes kind) ≤ g.B.Buffer.capacity) c.in-Enumeration.is three

pub write_text-requires : goal.write_text-requires
write_text-requires g c =
    let one = first_left _ (g.B.Buffer.bytes c.args.out.now) c.to_le_bytes.result (g.B.Buffer.bytes c.extend_from_slice.new.self) _ (all_room _ c.args.self.now _ c.requires) (length_of c.to_le_bytes.ensures) c.extend_from_slice.ensures in
    let two = second_left _ c.shown_type.result (g.B.Buffer.bytes c.extend_from_slice.new.self) (g.B.Buffer.bytes c.push.new.self) _ one c.push.ensures in
    let three = third_left _ (g.B.Buffer.bytes c.push.new.self) c.to_le_bytes-2.result (g.B.Buffer.bytes c.extend_from_slice-2.new.self) _ two (length_of c.to_le_bytes-2.ensures) c.extend_from_slice-2.ensures in
    subst (λ (kind : KindFields). length (g.B.Buffer.bytes c.extend_from_slice-2.new.self) + length (fields_bytes kind) ≤ g.B.Buffer.capacity) c.in-Text.is three

pub write_integer-requires : goal.write_integer-requires
write_integer-requires g c =
    let one = first_left _ (g.B.Buffer.bytes c.args.out.now) c.to_le_bytes.result (g.B.Buffer.bytes c.extend_from_slice.new.self) _ (all_room _ c.args.self.now _ c.requires) (length_of c.to_le_bytes.ensures) c.extend_from_slice.ensures in
    let two = second_left _ c.shown_type.result (g.B.Buffer.bytes c.extend_from_slice.new.self) (g.B.Buffer.bytes c.push.new.self) _ one c.push.ensures in
    let three = third_left _ (g.B.Buffer.bytes c.push.new.self) c.to_le_bytes-2.result (g.B.Buffer.bytes c.extend_from_slice-2.new.self) _ two (length_of c.to_le_bytes-2.ensures) c.extend_from_slice-2.ensures in
    subst (λ (kind : KindFields). length (g.B.Buffer.bytes c.extend_from_slice-2.new.self) + length (fields_bytes kind) ≤ g.B.Buffer.capacity) c.in-Integer.is three
