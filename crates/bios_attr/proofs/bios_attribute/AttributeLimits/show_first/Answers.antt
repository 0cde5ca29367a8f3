use Rattle.std.proofs.Common.{◌≡◌, ◌+◌, ◌≤◌, ◌<◌, ◌++◌, ◌∷◌, [], ℕ, List, length, take, Bool, true, false, nat_le, if◌then◌else◌, refl, sym, ◌∙◌, ap, arith}
use Rattle.std.proofs.lemmas.Bool.Decides.{nat_tests}
use Rattle.std.proofs.lemmas.List.{length-take}
use Rattle.std.specs.Int.{w32, to_le_bytes}
use Rattle.pldm_base.specs.Parts.{flag_byte, flag_of, next_handle}
use Rattle.record_base.specs.AttributeRange.{type_of}
use Rattle.record_base.specs.AttributeRangeLaws.{le_true}
use Rattle.record_base.specs.AttributeValue.{two_bytes}
use Rattle.bios_attr.specs.declared.bios_attribute.AttributeLimits.{AttributeLimits}
use Rattle.bios_attr.specs.AttributeLaws.{four_pieces}
use Rattle.bios_attr.specs.BiosAttribute.{attribute_view}
use Rattle.bios_attr.specs.EntryParts.{first_part, part_with}
use Rattle.bios_attr.specs.ValueEntry.{shown_type}
use Rattle.bios_attr.proofs.Pieces.{room_for, room_for_one, room_left, length_of}
use Rattle.bios_attr.proofs.bios_attribute.AttributeLimits.show_first.Goals as goal

not_le : (n most : ℕ) → most < n → nat_le n most ≡ false
not_le n most over = grind (arith, nat_tests)

-- what the first reply shows of a short value: all
shows_all : (limits : AttributeLimits) (value : List ℕ) → 3 + length value ≤ 205 → first_part (attribute_view limits value) ≡ attribute_view limits value
shows_all limits value few =
    let shown : List ℕ = attribute_view limits value in
    let entry : List ℕ = two_bytes limits.handle ++ shown_type limits.read_only (type_of limits.range) ∷ value in
    ap (λ (whole : Bool). if whole then shown else part_with (next_handle entry 0) entry 0) (le_true (length entry) 205 (omega arith))

-- of a long value: the next part's handle, the flag of the first part, and the entry's first 192 bytes
shows_part : (limits : AttributeLimits) (value : List ℕ) → 205 < 3 + length value
    → first_part (attribute_view limits value) ≡ to_le_bytes w32 192 ++ 1 ∷ (two_bytes limits.handle ++ shown_type limits.read_only (type_of limits.range) ∷ take 189 value)
shows_part limits value over =
    let shown : List ℕ = attribute_view limits value in
    let entry : List ℕ = two_bytes limits.handle ++ shown_type limits.read_only (type_of limits.range) ∷ value in
    ap (λ (whole : Bool). if whole then shown else part_with (next_handle entry 0) entry 0) (not_le (length entry) 205 (omega arith))
    ∙ ap (λ (last : Bool). to_le_bytes w32 (if last then 0 else 192) ++ flag_byte (flag_of true last) ∷ take 192 entry) (not_le (length entry) 192 (omega arith))

pub returns-then-value-le-MOST_WHOLE : goal.returns-then-value-le-MOST_WHOLE
returns-then-value-le-MOST_WHOLE g c =
    let old : List ℕ = g.B.Buffer.bytes c.args.reply.now in
    c.show.ensures ∙ ap (λ (xs : List ℕ). old ++ xs) (sym (shows_all c.args.self.now c.args.value.now c.if-value-le-MOST_WHOLE.true))

pub show-requires : goal.show-requires
show-requires g c =
    let all = shows_all c.args.self.now c.args.value.now c.if-value-le-MOST_WHOLE.true in
    omega (arith, c.requires, ap (λ (xs : List ℕ). length xs) all)

pub returns : goal.returns
returns g c =
    let old : List ℕ = g.B.Buffer.bytes c.args.reply.now in
    let limits = c.args.self.now in
    let handle : List ℕ = c.to_le_bytes.result in
    let first : List ℕ = take 189 c.args.value.now in
    let code = c.shown_type-code.ensures ∙ ap (shown_type limits.read_only) c.type_code.ensures in
    c.write_entry.ensures
    ∙ ap (λ (xs : List ℕ). (xs ++ two_bytes limits.handle) ++ c.shown_type-code.result ∷ first) (c.push.ensures ∙ ap (λ (xs : List ℕ). xs ++ c.byte.result ∷ []) c.extend_from_slice.ensures)
    ∙ four_pieces old handle (c.byte.result ∷ []) (two_bytes limits.handle) (c.shown_type-code.result ∷ first)
    ∙ (λ i. old ++ (c.to_le_bytes.ensures i ++ c.byte.ensures i ∷ (two_bytes limits.handle ++ code i ∷ first)))
    ∙ ap (λ (xs : List ℕ). old ++ xs) (sym (shows_part limits c.args.value.now c.if-value-le-MOST_WHOLE.false))

pub slice_bounds-first-length : goal.slice_bounds-first-length
slice_bounds-first-length g c = grind (arith, nat_tests, length-take 189 c.args.value.now, c.if-value-le-MOST_WHOLE.false)

-- the room for all of the first part's pieces
part_room : (limits : AttributeLimits) (value : List ℕ) (before most : ℕ) → 205 < 3 + length value → before + length (first_part (attribute_view limits value)) ≤ most
    → before + (4 + (1 + (3 + length (take 189 value)))) ≤ most
part_room limits value before most over room = let size = ap (λ (xs : List ℕ). length xs) (shows_part limits value over) in omega (arith, size, room)

pub extend_from_slice-requires : goal.extend_from_slice-requires
extend_from_slice-requires g c =
    room_for _ 4 _ _ c.to_le_bytes.result (part_room c.args.self.now c.args.value.now _ _ c.if-value-le-MOST_WHOLE.false c.requires) (length_of c.to_le_bytes.ensures)

pub push-requires : goal.push-requires
push-requires g c =
    let all = part_room c.args.self.now c.args.value.now _ _ c.if-value-le-MOST_WHOLE.false c.requires in
    let one = room_left (g.B.Buffer.bytes c.args.reply.now) c.to_le_bytes.result (g.B.Buffer.bytes c.extend_from_slice.new.self) 4 _ _ all (length_of c.to_le_bytes.ensures) c.extend_from_slice.ensures in
    room_for_one (length (g.B.Buffer.bytes c.extend_from_slice.new.self)) _ g.B.Buffer.capacity one

pub write_entry-requires : goal.write_entry-requires
write_entry-requires g c =
    let all = part_room c.args.self.now c.args.value.now _ _ c.if-value-le-MOST_WHOLE.false c.requires in
    let one = room_left (g.B.Buffer.bytes c.args.reply.now) c.to_le_bytes.result (g.B.Buffer.bytes c.extend_from_slice.new.self) 4 _ _ all (length_of c.to_le_bytes.ensures) c.extend_from_slice.ensures in
    room_left (g.B.Buffer.bytes c.extend_from_slice.new.self) (c.byte.result ∷ []) (g.B.Buffer.bytes c.push.new.self) 1 (3 + length (take 189 c.args.value.now)) _ one refl c.push.ensures
