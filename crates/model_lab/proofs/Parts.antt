-- The parts of an entry: what the replies that show them say, and what they are together.
use Rattle.std.proofs.Common.{◌≡◌, ℕ, zero, suc, ◌+◌, ◌-◌, ◌*◌, ◌^◌, ◌<◌, ◌≤◌, Bool, true, false, ◌&&◌, ◌||◌, List, [], ◌∷◌, ◌++◌, length, take, drop, refl, sym, ◌∙◌, ap, if◌then◌else◌, Some, None, lit<, arith}
use Rattle.std.specs.Prelude.{◌==◌, nat_lt, IfSome}
use Rattle.std.specs.List.{flat_map}
use Rattle.std.specs.Int.{w32, to_le_bytes}
use Rattle.std.proofs.lemmas.Bool.{and_from, and_parts, cond_both, eq-eqb, le-leb, lt-leb, lt-ltb, ltb-true}
use Rattle.std.proofs.lemmas.Bool.Decides.{nat_tests}
use Rattle.std.proofs.lemmas.List.{drop-drop, length-drop, length-take}
use Rattle.std.proofs.lemmas.Nat.{from_le_bytes-to_le_bytes_4}
use Rattle.std.proofs.Math.Seq.{take-add}
use Rattle.pldm_base.specs.Parts.{part_length, part_bytes, is_last, next_handle, flag_of, flag_byte, begins_part, asked_offset, most_whole, goes_whole, asked_of_entry}
use Rattle.bios_attr.specs.EntryParts.{get_next_part, transfer_handle, most_entry, before_part, entry_in, part_with, last_of, goes_on, ends}

-- ---- lists

-- the first of the parts and the next one
pub take_next : (entry : List ℕ) (place : ℕ) → take (part_length * place) entry ++ part_bytes entry (part_length * place) ≡ take (part_length * suc place) entry
take_next entry place =
    let more : part_length * place + part_length ≡ part_length * suc place = omega arith in
    sym (take-add (part_length * place) part_length entry) ∙ ap (λ (n : ℕ). take n entry) more

-- the entry behind them
drop_next : (entry : List ℕ) (place : ℕ) → drop (part_length * suc place) entry ≡ drop part_length (drop (part_length * place) entry)
drop_next entry place =
    let more : part_length * place + part_length ≡ part_length * suc place = omega arith in
    ap (λ (n : ℕ). drop n entry) (sym more) ∙ sym (drop-drop part_length (part_length * place) entry)

-- ---- replies

-- the data that show the part of this place, counted from 0
abbrev pub shown_part : List ℕ → ℕ → List ℕ
shown_part entry place = part_with (next_handle entry (part_length * place)) entry (part_length * place)

-- each of these data shows its part, the first that of this place
abbrev pub AreShown : List ℕ → ℕ → List (List ℕ) → Type 0
AreShown entry place [] = Unit {0}
AreShown entry place (body ∷ bodies) = (body ≡ shown_part entry place) × (part_length * place < length entry) × AreShown entry (suc place) bodies

-- together they show so much of the entry
pub together : (entry : List ℕ) (place : ℕ) (bodies : List (List ℕ)) → AreShown entry place bodies → flat_map entry_in bodies ≡ take (part_length * length bodies) (drop (part_length * place) entry)
together entry place [] h = refl
together entry place (body ∷ bodies) h =
    let rest = together entry (suc place) bodies h.2 in
    let here : entry_in body ≡ part_bytes entry (part_length * place) = ap entry_in h.0 in
    let more : part_length + part_length * length bodies ≡ part_length * suc (length bodies) = omega arith in
    (λ i. here i ++ rest i)
    ∙ ap (λ (l : List ℕ). part_bytes entry (part_length * place) ++ take (part_length * length bodies) l) (drop_next entry place)
    ∙ sym (take-add part_length (part_length * length bodies) (drop (part_length * place) entry))
    ∙ ap (λ (n : ℕ). take n (drop (part_length * place) entry)) more

-- the last of them
pub record ShowsLast (entry : List ℕ) (count : ℕ) (body : List ℕ) : Type 0 where
  pub place : ℕ
  pub before : suc place ≡ count
  pub is : body ≡ shown_part entry place
  pub within : part_length * place < length entry

pub last_shown : (entry : List ℕ) (place : ℕ) (body : List ℕ) (bodies : List (List ℕ)) → AreShown entry place (body ∷ bodies) → ShowsLast entry (place + suc (length bodies)) (last_of (body ∷ bodies))
last_shown entry place body [] h = record { place = place; before = omega arith; is = h.0; within = h.1 }
last_shown entry place body (other ∷ bodies) h =
    let rest = last_shown entry (suc place) other bodies h.2 in
    let same = rest.before in
    record { place = rest.place; before = omega arith; is = rest.is; within = rest.within }

-- ---- what a reply says

-- data with this handle, with a flag that says whether the part is the first and whether it is the last
abbrev pub data_with : (handle : ℕ) → (first last : Bool) → List ℕ → List ℕ
data_with handle first last bytes = to_le_bytes w32 handle ++ flag_byte (flag_of first last) ∷ bytes

pub handle_back : (handle : ℕ) (first last : Bool) (bytes : List ℕ) → handle < 2 ^ 32 → transfer_handle (data_with handle first last bytes) ≡ handle
handle_back handle first last bytes small = from_le_bytes-to_le_bytes_4 handle small

pub is_first : (place : ℕ) → (part_length * place == 0) ≡ (suc place == 1)
is_first zero = refl
is_first (suc place) = grind (arith, nat_tests)

part_size : (entry : List ℕ) (offset : ℕ) → offset + part_length ≤ length entry → length (part_bytes entry offset) ≡ part_length
part_size entry offset within =
    let some : length (drop offset entry) ≡ length entry - offset = length-drop offset entry in
    let size = length-take part_length (drop offset entry) in
    omega arith

rest_size : (entry : List ℕ) (offset : ℕ) → length entry ≤ offset + part_length → length (part_bytes entry offset) ≡ length entry - offset
rest_size entry offset within =
    let some : length (drop offset entry) ≡ length entry - offset = length-drop offset entry in
    let size = length-take part_length (drop offset entry) in
    omega arith

same_tests : (one other : ℕ) → one ≡ other → (one == other) ≡ true
same_tests one other same = eq-eqb one other same

-- whether the part of a place is the last
pub more_behind : (entry : List ℕ) (place : ℕ) → part_length * suc place < length entry → is_last entry (part_length * place) ≡ false
more_behind entry place within = lt-leb (length entry) (part_length * place + part_length) (omega (arith, within))

pub none_behind : (entry : List ℕ) (place : ℕ) → length entry ≤ part_length * suc place → is_last entry (part_length * place) ≡ true
none_behind entry place within = le-leb (length entry) (part_length * place + part_length) (omega (arith, within))

module _ (entry : List ℕ) (place : ℕ) (short : length entry ≤ most_entry) where
  abbrev offset : ℕ
  offset = part_length * place

  abbrev bytes : List ℕ
  bytes = part_bytes entry offset

  where_last : (last : Bool) → is_last entry offset ≡ last → shown_part entry place ≡ data_with (if last then 0 else (offset + part_length)) (suc place == 1) last bytes
  where_last last e = λ i. data_with (if e i then 0 else (offset + part_length)) (is_first place i) (e i) bytes

  -- it goes on where the entry does
  pub goes : part_length * suc place < length entry → goes_on (suc place) (shown_part entry place) ≡ true
  goes within =
      let same : offset + part_length ≡ part_length * suc place = omega arith in
      let size : length bytes ≡ part_length = part_size entry offset (omega (arith, within)) in
      let small : offset + part_length < 2 ^ 32 = omega (arith, within, short) in
      let handle : transfer_handle (data_with (offset + part_length) (suc place == 1) false bytes) ≡ offset + part_length = handle_back (offset + part_length) (suc place == 1) false bytes small in
      ap (goes_on (suc place)) (where_last false (more_behind entry place within))
      ∙ and_from _ _
      (and_from _ _ (same_tests (flag_byte (flag_of (suc place == 1) false)) _ refl) (same_tests _ _ (omega (arith, size))))
      (and_from _ _ (same_tests _ _ (handle ∙ same)) (lt-ltb _ _ (omega (arith, within, short))))

  -- it ends where the entry does
  pub stops : most_whole < length entry → part_length * place < length entry → length entry ≤ part_length * suc place → ends (suc place) (shown_part entry place) ≡ true
  stops long begun within =
      let size : length bytes ≡ length entry - offset = rest_size entry offset (omega (arith, within)) in
      let other : (suc place == 1) ≡ false = later place long within in
      let said : List ℕ = data_with 0 false true bytes in
      let zero_handle : transfer_handle said ≡ 0 = handle_back 0 false true bytes (lit< tt) in
      ap (ends (suc place)) (where_last true (none_behind entry place within) ∙ ap (λ (first : Bool). data_with 0 first true bytes) other)
      ∙ and_from _ _ (and_from _ _ refl (same_tests _ _ zero_handle))
      (and_from _ _ (and_from _ _ (lt-ltb before_part (length said) (omega (arith, size, begun))) (le-leb (length said) (before_part + part_length) (omega (arith, size, within))))
      (and_from _ _ (lt-ltb most_whole (part_length * (suc place - 1) + (length said - before_part)) (omega (arith, size, begun, long))) (le-leb (part_length * (suc place - 1) + (length said - before_part)) most_entry (omega (arith, size, begun, short)))))
    where
      later : (n : ℕ) → most_whole < length entry → length entry ≤ part_length * suc n → (suc n == 1) ≡ false
      later zero long within = absurd (omega (arith, long, within))
      later (suc n) long within = grind (arith, nat_tests)

-- ---- a later part that is asked for

-- an entry that is given whole has none
pub record IsLater (entry : List ℕ) (transfer offset : ℕ) : Type 0 where
  pub at : offset ≡ transfer
  pub within : transfer < length entry
  pub in_parts : goes_whole entry ≡ false

within_by : (entry : List ℕ) (transfer : ℕ) (zero_transfer divides : Bool) → 0 < transfer → (transfer == 0) ≡ zero_transfer → (zero_transfer || (divides && nat_lt transfer (length entry))) ≡ true → transfer < length entry
within_by entry transfer true divides some is here = grind (arith, nat_tests)
within_by entry transfer false divides some is here = ltb-true _ _ (and_parts divides _ here).1

later_in : (entry : List ℕ) (transfer : ℕ) → goes_whole entry ≡ false → IfSome (asked_offset entry get_next_part transfer) (IsLater entry transfer)
later_in entry transfer parts =
    let one = nat_lt 0 transfer && begins_part entry transfer in
    cond_both (nat_lt (2 ^ 32) (length entry)) None (if one then Some transfer else None) (λ o. IfSome o (IsLater entry transfer)) (λ _. tt)
    (λ _. cond_both one (Some transfer) None (λ o. IfSome o (IsLater entry transfer))
    (λ e. let both = and_parts (nat_lt 0 transfer) _ e in record { at = refl; within = within_by entry transfer (transfer == 0) _ (ltb-true _ _ both.0) refl both.1; in_parts = parts })
    (λ _. tt))

later_where : (entry : List ℕ) (transfer : ℕ) (whole : Bool) → goes_whole entry ≡ whole → IfSome (if whole then None else asked_offset entry get_next_part transfer) (IsLater entry transfer)
later_where entry transfer true e = tt
later_where entry transfer false e = later_in entry transfer e

pub later_asked : (entry : List ℕ) (transfer : ℕ) → IfSome (asked_of_entry entry get_next_part transfer) (IsLater entry transfer)
later_asked entry transfer = later_where entry transfer (goes_whole entry) refl
