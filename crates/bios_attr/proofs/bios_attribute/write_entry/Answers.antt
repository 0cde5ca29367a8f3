use Rattle.std.proofs.Common.{rules, ◌≡◌, ◌≤◌, ◌+◌, ◌++◌, ◌∷◌, [], ℕ, List, length, refl, ◌∙◌, ap, arith}
use Rattle.std.proofs.lemmas.List.{append_assoc}
use Rattle.record_base.specs.AttributeValue.{two_bytes}
use Rattle.bios_attr.proofs.Pieces.{room_for, room_for_one, room_left, length_of}
use Rattle.bios_attr.proofs.bios_attribute.write_entry.Goals as goal

-- the room for all of an entry's pieces
all_room : (before size most : ℕ) → before + (3 + size) ≤ most → before + (2 + (1 + size)) ≤ most
all_room before size most room = omega (arith, room)

pub extend_from_slice-requires : goal.extend_from_slice-requires
extend_from_slice-requires g c = room_for _ 2 _ _ c.to_le_bytes.result (all_room _ _ _ c.requires) (length_of c.to_le_bytes.ensures)

pub push-requires : goal.push-requires
push-requires g c =
    let one = room_left (g.B.Buffer.bytes c.args.out.now) c.to_le_bytes.result (g.B.Buffer.bytes c.extend_from_slice.new.self) 2 (1 + length c.args.value.now) _ (all_room _ _ _ c.requires) (length_of c.to_le_bytes.ensures) c.extend_from_slice.ensures in
    room_for_one (length (g.B.Buffer.bytes c.extend_from_slice.new.self)) _ g.B.Buffer.capacity one

pub extend_from_slice-requires-2 : goal.extend_from_slice-requires-2
extend_from_slice-requires-2 g c =
    let one = room_left (g.B.Buffer.bytes c.args.out.now) c.to_le_bytes.result (g.B.Buffer.bytes c.extend_from_slice.new.self) 2 (1 + length c.args.value.now) _ (all_room _ _ _ c.requires) (length_of c.to_le_bytes.ensures) c.extend_from_slice.ensures in
    room_left (g.B.Buffer.bytes c.extend_from_slice.new.self) (c.args.code ∷ []) (g.B.Buffer.bytes c.push.new.self) 1 (length c.args.value.now) _ one refl c.push.ensures

pub returns : goal.returns
returns g c =
    let old : List ℕ = g.B.Buffer.bytes c.args.out.now in
    let attribute : List ℕ = c.to_le_bytes.result in
    let value : List ℕ = c.args.value.now in
    let is : attribute ≡ two_bytes c.args.attribute = search rules in
    c.extend_from_slice-2.ensures
    ∙ ap (λ (xs : List ℕ). xs ++ value) (c.push.ensures ∙ ap (λ (xs : List ℕ). xs ++ c.args.code ∷ []) c.extend_from_slice.ensures)
    ∙ append_assoc (old ++ attribute) (c.args.code ∷ []) value
    ∙ ap (λ (xs : List ℕ). (old ++ xs) ++ c.args.code ∷ value) is
