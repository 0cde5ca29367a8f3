-- Sensor data records beside the texts that say them.
use Rattle.std.proofs.Common.{◌≡◌, ◌≢◌, ℕ, ◌+◌, ◌/◌, ◌%◌, ◌<◌, ◌≤◌, ◌==◌, ◌&&◌, not, nat_le, length, slice_index, List, Bool, true, false, if◌then◌else◌, Some, None, Result, Ok, Err, refl, arith}
use Rattle.std.proofs.lemmas.Bool.{and_parts}
use Rattle.std.proofs.lemmas.Bool.Decides.{nat_tests}
use Rattle.hex.specs.Hex.{decode_of, decode_pairs}
use Rattle.hex.specs.declared.error.FromHexError.{FromHexError}
use Rattle.hex.proofs.HexLemmas.{decode_pairs-ok}
use Rattle.record_base.specs.Sdr.{sdr_id, IsSdrRecord}
use Rattle.text_fields.specs.Ranges.{is_record, record_of}

-- ---- the test that bytes are a record

le_from : (m n : ℕ) → nat_le m n ≡ true → m ≤ n
le_from m n h = grind (arith, nat_tests)

same_from : (m n : ℕ) → (m == n) ≡ true → m ≡ n
same_from m n h = grind (arith, nat_tests)

other_from : (m n : ℕ) → not (m == n) ≡ true → m ≢ n
other_from m n h same = grind (arith, nat_tests)

tested : (bytes : List ℕ) → is_record bytes ≡ true → IsSdrRecord bytes × (length bytes ≤ 64)
tested bytes passed =
    let (sizes, more) = and_parts (nat_le 5 (length bytes) && nat_le (length bytes) 64) _ passed in
    let (least, most) = and_parts (nat_le 5 (length bytes)) (nat_le (length bytes) 64) sizes in
    let (whole, ids) = and_parts (length bytes == 5 + slice_index bytes 4) _ more in
    let (first, last) = and_parts (not (sdr_id bytes == 0x0000)) (not (sdr_id bytes == 0xFFFF)) ids in
    (record { header = le_from _ _ least; whole = same_from _ _ whole; not_first = other_from _ _ first; not_last = other_from _ _ last }, le_from _ _ most)

-- ---- texts

too_long : (bytes : List ℕ) (b : Bool) → is_record bytes ≡ b → 64 < length bytes → None ≡ (if b then Some bytes else None)
too_long bytes true test long = let few = (tested bytes test).1 in absurd (omega (arith, few, long))
too_long bytes false test long = refl

pairs_too_long : (text : List ℕ) (r : Result (List ℕ) FromHexError) → decode_pairs 0 text ≡ r → 64 < length text / 2 → None ≡ record_of r
pairs_too_long text (Ok bytes) is long = let (digits, size, all) = decode_pairs-ok 0 text bytes is in too_long bytes (is_record bytes) refl (omega (arith, size, long))
pairs_too_long text (Err e) is long = refl

decoded_too_long : (text : List ℕ) (odd : Bool) (e : FromHexError) → 64 < length text / 2 → None ≡ record_of (if odd then Err e else decode_pairs 0 text)
decoded_too_long text true e long = refl
decoded_too_long text false e long = pairs_too_long text (decode_pairs 0 text) refl long

-- a text of more bytes than a record has says none
pub no_record : (text : List ℕ) → 64 < length text / 2 → None ≡ record_of (decode_of text)
no_record text long = decoded_too_long text (length text % 2 == 1) _ long
