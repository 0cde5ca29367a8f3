-- What the parts of lines are: each is read in one way.
use Rattle.std.proofs.Common.{◌≡◌, ◌≢◌, ◌<◌, ◌^◌, ◌==◌, inl, inr, ℕ, Bool, true, false, cond, List, [], ◌∷◌, ◌++◌, get_or, arith, refl, sym, ◌∙◌, ap, subst, append_assoc, Ok, Result, Option, Some, None, IfNone}
use denote.Ref.{Bor}
use Rattle.std.specs.Result.{result_unwrap_or}
use Rattle.std.specs.Fmt.{decimal}
use Rattle.std.specs.Str.Parse.{AllDigits, digits_value}
use Rattle.std.proofs.lemmas.Bool.Decides.{eqb_tells}
use Rattle.std.proofs.lemmas.List.Elements.{All-get_or}
use Rattle.std.proofs.lemmas.Str.Parse.{IsNumeralModel, numerals_by_value, tells_digits, not_in_digits}
use Rattle.std.proofs.lemmas.Fmt.{digits_decimal, decimal_injective}
use Rattle.hex.specs.declared.error.FromHexError.{FromHexError}
use Rattle.hex.specs.Hex.{decode_of, is_hex_digit}
use Rattle.hex.proofs.HexLemmas.{decode_of-ok}
use Rattle.text_lines.specs.Cuts.{LacksByte, CutsAt}
use Rattle.text_lines.proofs.Cuts.{lacks_by_index, same_cut, not_lacking}
use Rattle.text_lines.specs.UndoText.{BeginsWith}
use Rattle.text_journal.specs.JournalLines.{number_line, numbers_line, IsBytesLine}

-- ---- what lacks a mark

-- a test for the mark
abbrev has : ℕ → List ℕ → Bool
has mark [] = false
has mark (b ∷ bytes) = cond (b == mark) true (has mark bytes)

pub lacks_by_test : (mark : ℕ) (bytes : List ℕ) → has mark bytes ≡ false → LacksByte mark bytes
lacks_by_test mark [] h = tt
lacks_by_test mark (b ∷ bytes) h =
    elim (eqb_tells b mark) [
      | inl p ↦ (let k : cond true true (has mark bytes) ≡ false = rw p.0 at h in cc k)
      | inr p ↦ (p.1, lacks_by_test mark bytes (rw p.0 at h))
    ]

pub lacks_both : (mark : ℕ) (front back : List ℕ) → LacksByte mark front → LacksByte mark back → LacksByte mark (front ++ back)
lacks_both mark [] back f b = b
lacks_both mark (x ∷ front) back f b = (f.0, lacks_both mark front back f.1 b)

own : IsNumeralModel (AllDigits 10) (digits_value 10)
own = numerals_by_value (AllDigits 10) tells_digits

-- a number in decimal has digits alone
pub decimal_lacks : (mark n : ℕ) → n < 2 ^ 32 → mark < 48 → LacksByte mark (decimal n)
decimal_lacks mark n low small =
    let all : AllDigits 10 (decimal n) = digits_decimal own n (omega (arith, low)) in
    lacks_by_index mark (decimal n) (not_in_digits own (decimal n) mark all (λ r. omega (arith, r.0, small)))

-- digits in hexadecimal hold no line feed
pub digits_lack : (digits bytes : List ℕ) → decode_of digits ≡ Ok bytes → LacksByte 10 digits
digits_lack digits bytes h =
    let all = (decode_of-ok digits bytes h).1 in
    lacks_by_index 10 digits (λ i l e.
    let one : is_hex_digit (get_or digits i 0) ≡ true = All-get_or (λ d. is_hex_digit d ≡ true) digits i 0 l all in
    let none : is_hex_digit 10 ≡ true = subst (λ (d : ℕ). is_hex_digit d ≡ true) e one in
    cc none)

-- ---- what stands behind words

pub same_behind : (words a b : List ℕ) → words ++ a ≡ words ++ b → a ≡ b
same_behind [] a b e = e
same_behind (w ∷ words) a b e = same_behind words a b (cc e)

-- two numbers hold no line feed
pub numbers_lack : (first second : ℕ) → first < 2 ^ 32 → second < 2 ^ 32 → LacksByte 10 (numbers_line [] first second)
numbers_lack first second low small =
    lacks_both 10 (decimal first) (32 ∷ decimal second) (decimal_lacks 10 first low (omega arith)) ((λ (e : 32 ≡ 10). cc e), decimal_lacks 10 second small (omega arith))

-- they are two numbers in one way
pub same_numbers : (a b c d : ℕ) → a < 2 ^ 32 → b < 2 ^ 32 → c < 2 ^ 32 → d < 2 ^ 32 → numbers_line [] a b ≡ numbers_line [] c d → (a ≡ c) × (b ≡ d)
same_numbers a b c d p q r s e =
    let parts = same_cut 32 (decimal a) (decimal b) (decimal c) (decimal d) e (decimal_lacks 32 a p (omega arith)) (decimal_lacks 32 c r (omega arith)) in
    (decimal_injective a c (omega (arith, p)) (omega (arith, r)) parts.0, decimal_injective b d (omega (arith, q)) (omega (arith, s)) parts.1)

pub same_number : (a b : ℕ) → a < 2 ^ 32 → b < 2 ^ 32 → decimal a ≡ decimal b → a ≡ b
same_number a b p q e = decimal_injective a b (omega (arith, p)) (omega (arith, q)) e

pub same_bytes : (digits others bytes more : List ℕ) → digits ≡ others → decode_of digits ≡ Ok bytes → decode_of others ≡ Ok more → bytes ≡ more
same_bytes digits others bytes more e p q = ap (λ (r : Result (List ℕ) FromHexError). result_unwrap_or r []) (sym p ∙ ap decode_of e ∙ q)

-- ---- the first line of a text, behind words

-- a text that begins with a line behind words
pub begun : (words line text rest : List ℕ) → text ≡ words ++ (line ++ 10 ∷ rest) → text ≡ (words ++ line) ++ 10 ∷ rest
begun words line text rest e = e ∙ sym (append_assoc words line (10 ∷ rest))

-- what stands behind the words on that line stands there in every way to read it
pub one_behind : (words line other text rest more : List ℕ) → LacksByte 10 line → text ≡ words ++ (line ++ 10 ∷ rest) → LacksByte 10 other → text ≡ (words ++ other) ++ 10 ∷ more → line ≡ other
one_behind words line other text rest more lacks e none f =
    let both : words ++ (line ++ 10 ∷ rest) ≡ words ++ (other ++ 10 ∷ more) = sym e ∙ f ∙ append_assoc words other (10 ∷ more) in
    (same_cut 10 line rest other more (same_behind words (line ++ 10 ∷ rest) (other ++ 10 ∷ more) both) lacks none).0

pub nothing_behind : (words other text more : List ℕ) → ((line back : List ℕ) → LacksByte 10 line → text ≢ words ++ (line ++ 10 ∷ back)) → LacksByte 10 other → text ≢ (words ++ other) ++ 10 ∷ more
nothing_behind words other text more none lacks e = none other more lacks (e ∙ append_assoc words other (10 ∷ more))

-- ---- lines of one sort

-- words and a line feed begin no other line
pub no_words : (words text rest : List ℕ) → text ≡ words ++ rest → (found : Option (Bor (List ℕ))) → IfNone found ((back : List ℕ) → rest ≢ 10 ∷ back) → IfNone found ((more : List ℕ) → ¬ BeginsWith (λ line. line ≡ words) text more)
no_words words text rest e (Some found) none = tt
no_words words text rest e None none = λ more b.
    none more (same_behind words rest (10 ∷ more) (sym e ∙ b.1 ∙ ap (λ (l : List ℕ). l ++ 10 ∷ more) b.2))

-- what stands behind words without a line feed has no first line
pub no_line_behind : (words text rest : List ℕ) → text ≡ words ++ rest → (found : Option (Bor (List ℕ) × Bor (List ℕ))) → IfNone found (LacksByte 10 rest)
    → IfNone found ((line more : List ℕ) → LacksByte 10 line → text ≢ words ++ (line ++ 10 ∷ more))
no_line_behind words text rest e (Some found) lacks = tt
no_line_behind words text rest e None lacks = λ line more none f.
    not_lacking 10 line more (subst (LacksByte 10) (same_behind words rest (line ++ 10 ∷ more) (sym e ∙ f)) lacks)

-- the text begins with these words on a line, and goes on so
abbrev Behind : (words line text rest : List ℕ) → Type 0
Behind words line text rest = LacksByte 10 line × (text ≡ words ++ (line ++ 10 ∷ rest))

-- no line begins with these words
abbrev NoneBehind : (words text : List ℕ) → Type 0
NoneBehind words text = (line more : List ℕ) → LacksByte 10 line → text ≢ words ++ (line ++ 10 ∷ more)

-- a line of words and more, at the front of a text
line_is : (words other text more : List ℕ) (b : BeginsWith (λ line. line ≡ words ++ other) text more) → text ≡ (words ++ other) ++ 10 ∷ more
line_is words other text more b = b.1 ∙ ap (λ (l : List ℕ). l ++ 10 ∷ more) b.2

pub no_number : (words text more : List ℕ) (n : ℕ) → n < 2 ^ 32 → NoneBehind words text → ¬ BeginsWith (λ line. line ≡ number_line words n) text more
no_number words text more n low none b = nothing_behind words (decimal n) text more none (decimal_lacks 10 n low (omega arith)) (line_is words (decimal n) text more b)

pub number_behind : (words line text rest more : List ℕ) (n : ℕ) → n < 2 ^ 32 → Behind words line text rest → BeginsWith (λ line. line ≡ number_line words n) text more → line ≡ decimal n
number_behind words line text rest more n low found b =
    one_behind words line (decimal n) text rest more found.0 found.1 (decimal_lacks 10 n low (omega arith)) (line_is words (decimal n) text more b)

pub not_two : (words : List ℕ) (first second : ℕ) → words ≡ numbers_line [] first second → ¬ LacksByte 32 words
not_two words first second e lacks = not_lacking 32 (decimal first) (decimal second) (subst (LacksByte 32) e lacks)

pub two_cut : (words front back : List ℕ) (first second : ℕ) → first < 2 ^ 32 → words ≡ numbers_line [] first second → CutsAt 32 words front back → (front ≡ decimal first) × (back ≡ decimal second)
two_cut words front back first second low e cut = same_cut 32 front back (decimal first) (decimal second) (sym cut.parts ∙ e) cut.first (decimal_lacks 32 first low (omega arith))

pub no_numbers : (words text more : List ℕ) (first second : ℕ) → first < 2 ^ 32 → second < 2 ^ 32 → NoneBehind words text → ¬ BeginsWith (λ line. line ≡ numbers_line words first second) text more
no_numbers words text more first second low small none b =
    nothing_behind words (numbers_line [] first second) text more none (numbers_lack first second low small) (line_is words (numbers_line [] first second) text more b)

pub numbers_behind : (words line text rest more : List ℕ) (first second : ℕ) → first < 2 ^ 32 → second < 2 ^ 32 → Behind words line text rest → BeginsWith (λ line. line ≡ numbers_line words first second) text more
    → line ≡ numbers_line [] first second
numbers_behind words line text rest more first second low small found b =
    one_behind words line (numbers_line [] first second) text rest more found.0 found.1 (numbers_lack first second low small) (line_is words (numbers_line [] first second) text more b)

pub no_bytes : (words text more bytes : List ℕ) → NoneBehind words text → ¬ BeginsWith (λ line. IsBytesLine words line bytes) text more
no_bytes words text more bytes none b =
    nothing_behind words b.2.digits text more none (digits_lack b.2.digits bytes b.2.read) (line_is words b.2.digits text more (b.0, b.1, b.2.spelt))

pub bytes_begin : (words line text rest bytes : List ℕ) → Behind words line text rest → decode_of line ≡ Ok bytes → BeginsWith (λ line. IsBytesLine words line bytes) text rest
bytes_begin words line text rest bytes found read =
    (words ++ line, begun words line text rest found.1, record { digits = line; spelt = refl; read = read })

pub bytes_behind : (words line text rest more bytes : List ℕ) → Behind words line text rest → BeginsWith (λ line. IsBytesLine words line bytes) text more → decode_of line ≡ Ok bytes
bytes_behind words line text rest more bytes found b =
    let same : line ≡ b.2.digits =
    one_behind words line b.2.digits text rest more found.0 found.1 (digits_lack b.2.digits bytes b.2.read) (line_is words b.2.digits text more (b.0, b.1, b.2.spelt)) in
    subst (λ (d : List ℕ). decode_of d ≡ Ok bytes) (sym same) b.2.read
