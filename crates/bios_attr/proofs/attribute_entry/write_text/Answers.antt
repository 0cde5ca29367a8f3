use Rattle.std.proofs.Common.{rules, ◌≡◌, ◌++◌, ◌∷◌, [], ℕ, List, length, ◌∙◌, ap, ◌+◌, ◌≤◌, refl, arith}
use Rattle.std.proofs.lemmas.List.{append_assoc}
use Rattle.record_base.specs.AttributeValue.{two_bytes}
use Rattle.bios_attr.specs.declared.attribute_entry.TextFields.{TextFields}
use Rattle.bios_attr.specs.declared.attribute_entry.KindFields.TheVariants.{Text}
use Rattle.bios_attr.specs.AttributeEntry.{fields_bytes}
use Rattle.bios_attr.specs.AttributeLaws.{four_pieces}
use Rattle.bios_attr.proofs.Pieces.{room_for, room_for_one, room_left, length_of}
use Rattle.bios_attr.proofs.attribute_entry.write_text.Goals as goal

-- what is appended piece by piece is what an entry says of a string
pieces : (fields : TextFields) (old least most count text first second third fourth all : List ℕ)
    → first ≡ old ++ fields.string_type ∷ [] → second ≡ first ++ least → third ≡ second ++ most → fourth ≡ third ++ count → all ≡ fourth ++ text
    → least ≡ two_bytes fields.least → most ≡ two_bytes fields.most → count ≡ two_bytes (length fields.default) → text ≡ fields.default
    → all ≡ old ++ fields_bytes (Text fields)
pieces fields old least most count text first second third fourth all a b c d e is_least is_most is_count is_text =
    e
    ∙ ap (λ (xs : List ℕ). xs ++ text) (d ∙ ap (λ (xs : List ℕ). xs ++ count) (c ∙ ap (λ (xs : List ℕ). xs ++ most) (b ∙ ap (λ (xs : List ℕ). xs ++ least) a)))
    ∙ four_pieces (old ++ fields.string_type ∷ []) least most count text
    ∙ append_assoc old (fields.string_type ∷ []) (least ++ (most ++ (count ++ text)))
    ∙ (λ i. old ++ fields.string_type ∷ (is_least i ++ (is_most i ++ (is_count i ++ is_text i))))

pub returns : goal.returns
returns g c =
    let count : c.to_le_bytes-3.result ≡ two_bytes (length c.args.fields.now.default) = search rules in
    pieces c.args.fields.now (g.B.Buffer.bytes c.args.out.now) c.to_le_bytes.result c.to_le_bytes-2.result c.to_le_bytes-3.result _ _ _ _ _ _ c.push.ensures c.extend_from_slice.ensures c.extend_from_slice-2.ensures c.extend_from_slice-3.ensures c.extend_from_slice-4.ensures (search rules) (search rules) count c.as_slice-default.ensures.value

-- the room for all of a string's pieces
all_room : (before : ℕ) (fields : TextFields) (most : ℕ) → before + length (fields_bytes (Text fields)) ≤ most → before + (1 + (2 + (2 + (2 + (length fields.default + 0))))) ≤ most
all_room before fields most room = omega (arith, room)

-- the room behind the first piece, the second and the third
first_left : (fields : TextFields) (old first : List ℕ) (most : ℕ) → length old + length (fields_bytes (Text fields)) ≤ most → first ≡ old ++ fields.string_type ∷ [] → length first + (2 + (2 + (2 + (length fields.default + 0)))) ≤ most
first_left fields old first most room a = room_left old (fields.string_type ∷ []) first 1 (2 + (2 + (2 + (length fields.default + 0)))) most (all_room (length old) fields most room) refl a

second_left : (size : ℕ) (first least second : List ℕ) (most : ℕ) → length first + (2 + (2 + (2 + (size + 0)))) ≤ most → length least ≡ 2 → second ≡ first ++ least → length second + (2 + (2 + (size + 0))) ≤ most
second_left size first least second most room two b = room_left first least second 2 (2 + (2 + (size + 0))) most room two b

third_left : (size : ℕ) (second greatest third : List ℕ) (most : ℕ) → length second + (2 + (2 + (size + 0))) ≤ most → length greatest ≡ 2 → third ≡ second ++ greatest → length third + (2 + (size + 0)) ≤ most
third_left size second greatest third most room two c = room_left second greatest third 2 (2 + (size + 0)) most room two c

pub push-requires : goal.push-requires
push-requires g c = room_for_one (length (g.B.Buffer.bytes c.args.out.now)) _ g.B.Buffer.capacity (all_room _ c.args.fields.now _ c.requires)

pub extend_from_slice-requires : goal.extend_from_slice-requires
extend_from_slice-requires g c =
    let one = first_left c.args.fields.now (g.B.Buffer.bytes c.args.out.now) (g.B.Buffer.bytes c.push.new.self) g.B.Buffer.capacity c.requires c.push.ensures in
    room_for _ 2 _ _ c.to_le_bytes.result one (length_of c.to_le_bytes.ensures)

pub extend_from_slice-requires-2 : goal.extend_from_slice-requires-2
extend_from_slice-requires-2 g c =
    let one = first_left c.args.fields.now (g.B.Buffer.bytes c.args.out.now) (g.B.Buffer.bytes c.push.new.self) g.B.Buffer.capacity c.requires c.push.ensures in
    let two = second_left _ _ c.to_le_bytes.result (g.B.Buffer.bytes c.extend_from_slice.new.self) _ one (length_of c.to_le_bytes.ensures) c.extend_from_slice.ensures in
    room_for _ 2 _ _ c.to_le_bytes-2.result two (length_of c.to_le_bytes-2.ensures)

pub extend_from_slice-requires-3 : goal.extend_from_slice-requires-3
extend_from_slice-requires-3 g c =
    let one = first_left c.args.fields.now (g.B.Buffer.bytes c.args.out.now) (g.B.Buffer.bytes c.push.new.self) g.B.Buffer.capacity c.requires c.push.ensures in
    let two = second_left _ _ c.to_le_bytes.result (g.B.Buffer.bytes c.extend_from_slice.new.self) _ one (length_of c.to_le_bytes.ensures) c.extend_from_slice.ensures in
    let three = third_left _ _ c.to_le_bytes-2.result (g.B.Buffer.bytes c.extend_from_slice-2.new.self) _ two (length_of c.to_le_bytes-2.ensures) c.extend_from_slice-2.ensures in
    room_for _ 2 _ _ c.to_le_bytes-3.result three (length_of c.to_le_bytes-3.ensures)

pub extend_from_slice-requires-4 : goal.extend_from_slice-requires-4
extend_from_slice-requires-4 g c =
    let one = first_left c.args.fields.now (g.B.Buffer.bytes c.args.out.now) (g.B.Buffer.bytes c.push.new.self) g.B.Buffer.capacity c.requires c.push.ensures in
    let two = second_left _ _ c.to_le_bytes.result (g.B.Buffer.bytes c.extend_from_slice.new.self) _ one (length_of c.to_le_bytes.ensures) c.extend_from_slice.ensures in
    let three = third_left _ _ c.to_le_bytes-2.result (g.B.Buffer.bytes c.extend_from_slice-2.new.self) _ two (length_of c.to_le_bytes-2.ensures) c.extend_from_slice-2.ensures in
    let four = room_left _ c.to_le_bytes-3.result (g.B.Buffer.bytes c.extend_from_slice-3.new.self) 2 _ _ three (length_of c.to_le_bytes-3.ensures) c.extend_from_slice-3.ensures in
    room_for _ (length c.args.fields.now.default) 0 _ c.as_slice-default.result.now four (length_of c.as_slice-default.ensures.value)
