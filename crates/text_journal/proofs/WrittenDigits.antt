-- Bytes that are written in hexadecimal digits, one behind another.
use Rattle.std.proofs.Common.{◌≡◌, ◌<◌, ◌≤◌, ◌+◌, ◌-◌, ◌/◌, ◌%◌, ◌^◌, ◌==◌, ◌&&◌, ℕ, zero, suc, Bool, true, false, List, [], ◌∷◌, ◌++◌, length, drop, slice_index, arith, refl, sym, ◌∙◌, ap, append_assoc, inl, inr, subst}
use Rattle.std.specs.Prelude.{Option, Some, option_map}
use Rattle.std.specs.Fmt.{AppendsText, digit_glyph, digits, format_spec, padded_integral}
use Rattle.std.proofs.lemmas.Fmt.{hex_byte}
use Rattle.std.proofs.lemmas.Bool.{and_parts, cases_lt, eqb-true}
use Rattle.std.proofs.lemmas.List.{drop_all, append-nil}
use Rattle.hex.specs.Hex.{encode_upper, encode_with, upper_digits}
use Rattle.hex.proofs.Pairs.{encode_with-drop}
use Rattle.text_lines.specs.Cuts.{ended, line_feed}

-- ---- the digits

-- the first so many digits are those of the table
abbrev are_same : ℕ → Bool
are_same zero = true
are_same (suc n) = (digit_glyph true n == slice_index upper_digits n) && are_same n

same_below : (n k : ℕ) → are_same n ≡ true → k < n → digit_glyph true k ≡ slice_index upper_digits k
same_below zero k all low = absurd (omega arith)
same_below (suc n) k all low =
    let parts = and_parts (digit_glyph true n == slice_index upper_digits n) (are_same n) all in
    elim (cases_lt k n) [
      | inl below ↦ same_below n k parts.1 below
      | inr top ↦
          let e : k ≡ n = omega arith in
          rw e (eqb-true (digit_glyph true n) (slice_index upper_digits n) parts.0)
    ]

pub same_digit : (k : ℕ) → k < 16 → digit_glyph true k ≡ slice_index upper_digits k
same_digit k low = same_below 16 k refl low

-- what is written of a byte
abbrev pub spelt_byte : ℕ → List ℕ
spelt_byte n = padded_integral (format_spec 32 0 4 2 (2 ^ 64 - 1)) false [] (digits 16 true n)

pub two_digits : (n : ℕ) → n < 256 → spelt_byte n ≡ slice_index upper_digits (n / 16) ∷ slice_index upper_digits (n % 16) ∷ []
two_digits n low =
    hex_byte true n low ∙ (λ i. same_digit (n / 16) (omega (arith, low)) i ∷ same_digit (n % 16) (omega arith) i ∷ [])

-- it is written so, by the options of `{:02X}`
pub adds_byte : (text new : List ℕ) (o : Option (List ℕ)) (byte : ℕ) → o ≡ Some (digits 16 true byte) → AppendsText text new (option_map (padded_integral (format_spec 32 0 4 2 (2 ^ 64 - 1)) false []) o)
    → new ≡ text ++ spelt_byte byte
adds_byte text new o byte spelt adds = subst (λ (it : Option (List ℕ)). AppendsText text new (option_map (padded_integral (format_spec 32 0 4 2 (2 ^ 64 - 1)) false []) it)) spelt adds

-- ---- one byte more

pub digits_more : (bytes : List ℕ) (place byte : ℕ) (old text new : List ℕ) → place < length bytes → byte ≡ slice_index bytes place → byte < 256 → new ≡ text ++ spelt_byte byte
    → text ++ encode_upper (drop place bytes) ≡ old ++ encode_upper bytes → new ++ encode_upper (drop (place + 1) bytes) ≡ old ++ encode_upper bytes
digits_more bytes place byte old text new there is low adds so_far =
    let rest = encode_upper (drop (place + 1) bytes) in
    let high = slice_index upper_digits (byte / 16) in
    let last = slice_index upper_digits (byte % 16) in
    let next : encode_upper (drop place bytes) ≡ high ∷ last ∷ rest =
    encode_with-drop upper_digits bytes place there ∙ (λ i. slice_index upper_digits (sym is i / 16) ∷ slice_index upper_digits (sym is i % 16) ∷ rest) in
    ap (λ (l : List ℕ). l ++ rest) adds ∙ append_assoc text (spelt_byte byte) rest ∙ ap (λ (l : List ℕ). text ++ (l ++ rest)) (two_digits byte low)
    ∙ ap (λ (l : List ℕ). text ++ l) (sym next) ∙ so_far

-- all of them are written
pub digits_all : (bytes : List ℕ) (place : ℕ) (old text : List ℕ) → length bytes ≤ place → text ++ encode_upper (drop place bytes) ≡ old ++ encode_upper bytes
    → text ≡ old ++ encode_upper bytes
unfolding encode_with
digits_all bytes place old text end so_far =
    sym (append-nil text) ∙ ap (λ (l : List ℕ). text ++ encode_upper l) (sym (drop_all place bytes end)) ∙ so_far

-- ---- lines of words and digits

pub line_of_digits : (old words digits worded whole : List ℕ) → worded ≡ old ++ words → whole ≡ worded ++ digits → whole ++ line_feed ∷ [] ≡ old ++ ended (words ++ digits)
line_of_digits old words digits worded whole first second =
    ap (λ (l : List ℕ). l ++ line_feed ∷ []) (second ∙ ap (λ (l : List ℕ). l ++ digits) first ∙ append_assoc old words digits) ∙ append_assoc old (words ++ digits) (line_feed ∷ [])

-- of digits behind digits
pub line_of_both : (old words front digits worded one whole : List ℕ) → worded ≡ old ++ words → one ≡ worded ++ front → whole ≡ one ++ digits
    → whole ++ line_feed ∷ [] ≡ old ++ ended (words ++ (front ++ digits))
line_of_both old words front digits worded one whole first second third =
    line_of_digits old words (front ++ digits) worded whole first (third ∙ ap (λ (l : List ℕ). l ++ digits) second ∙ append_assoc worded front digits)
