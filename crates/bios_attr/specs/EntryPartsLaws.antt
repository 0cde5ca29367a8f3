-- What a first reply to a Get of an attribute shows.
use Rattle.std.proofs.Common.{◌≡◌, ℕ, ◌≤◌, List, ◌∷◌, ◌++◌, length, Bool, true, false, if◌then◌else◌, refl, arith}
use Rattle.std.specs.Int.{w32, to_le_bytes}
use Rattle.std.proofs.lemmas.Bool.Decides.{nat_tests}
use Rattle.std.proofs.lemmas.List.{length-take, length-drop}
use Rattle.pldm_base.specs.Parts.{part_length, part_bytes, is_last, next_handle, flag_of, flag_byte, goes_whole}
use Rattle.bios_attr.specs.BiosAttribute.{is_attribute_reply}
use Rattle.bios_attr.specs.EntryParts.{entry_in, part_with, first_part}

-- ---- how long it is

whole_long : (entry : List ℕ) → goes_whole entry ≡ true → length entry ≤ 205
whole_long entry is = grind (arith, nat_tests, is)

short_where : (b : Bool) (shown part : List ℕ) → (b ≡ true → length shown ≤ 210) → length part ≤ 210 → length (if b then shown else part) ≤ 210
short_where true shown part whole short = whole refl
short_where false shown part whole short = short

-- it has at most 210 bytes, however long the data are that it is of
pub first_part_short : (shown : List ℕ) → length (first_part shown) ≤ 210
first_part_short shown =
    let entry : List ℕ = entry_in shown in
    short_where (goes_whole entry) shown (part_with (next_handle entry 0) entry 0) (λ is. omega (arith, whole_long entry is, length-drop 5 shown)) (omega (arith, length-take part_length entry))

-- ---- that a part isn't the whole reply, by its flag

not_last : (entry : List ℕ) → goes_whole entry ≡ false → is_last entry 0 ≡ false
not_last entry is = grind (arith, nat_tests, is)

flagged : (handle : ℕ) (last : Bool) (bytes : List ℕ) → last ≡ false → is_attribute_reply (to_le_bytes w32 handle ++ flag_byte (flag_of true last) ∷ bytes) ≡ true → ⊥
flagged handle true bytes is reply = cc
flagged handle false bytes is reply = cc

same_where : (b : Bool) (shown : List ℕ) → goes_whole (entry_in shown) ≡ b → is_attribute_reply (if b then shown else part_with (next_handle (entry_in shown) 0) (entry_in shown) 0) ≡ true
    → (if b then shown else part_with (next_handle (entry_in shown) 0) (entry_in shown) 0) ≡ shown
same_where true shown is reply = refl
same_where false shown is reply =
    let entry : List ℕ = entry_in shown in
    absurd (flagged (next_handle entry 0) (is_last entry 0) (part_bytes entry 0) (not_last entry is) reply)

-- a first reply that shows a whole entry is all
pub first_whole : (shown : List ℕ) → is_attribute_reply (first_part shown) ≡ true → first_part shown ≡ shown
first_whole shown reply = same_where (goes_whole (entry_in shown)) shown refl reply
