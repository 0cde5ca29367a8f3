-- What is said of different numbers and texts differs.
use Rattle.std.proofs.Common.{◌≡◌, ℕ, ◌^◌, ◌<◌, ◌/◌, ◌%◌, ◌==◌, Bool, true, false, List, [], ◌∷◌, ◌++◌, codes, length, refl, sym, ap, ◌∙◌, arith, if◌then◌else◌, append_assoc}
use Rattle.std.proofs.lemmas.Bool.Decides.{nat_tests}
use Rattle.std.proofs.lemmas.Fmt.{decimal_injective, decimal_is_IsNumeral}
use Rattle.std.proofs.lemmas.Str.Parse.{digit_from_value}
use Rattle.std.specs.Str.Parse.{AllDigits}
use Rattle.std.specs.Fmt.{decimal, digit_glyph}
use Rattle.text_lines.specs.Cuts.{LacksByte}
use Rattle.text_lines.proofs.Cuts.{same_cut}
use Rattle.record_words.specs.Apart.{AreBytes}
use Rattle.record_words.specs.Digits.{hex_of}
use Rattle.record_words.specs.Quotes.{before_trimmed, escape_of, escaped, is_plain, quoted, trimmed}
use Rattle.record_words.specs.ShownWords.{bits_of, raw_of}

-- ---- numbers

digits_lack : (ds : List ℕ) → AllDigits 10 ds → LacksByte 32 ds
digits_lack [] d = tt
digits_lack (c ∷ cs) d = ((λ e. omega (arith, digit_from_value c d.0, e)), digits_lack cs d.1)

decimal_lacks : (n : ℕ) → n < 2 ^ 64 → LacksByte 32 (decimal n)
decimal_lacks n low = digits_lack (decimal n) (decimal_is_IsNumeral n low).0.1

-- the words behind the space in what is said of a byte
abbrev behind : ℕ → List ℕ
behind byte = codes "(" ++ (hex_of byte ++ codes "h)")

pub raw_apart : (m n : ℕ) → m < 2 ^ 64 → n < 2 ^ 64 → raw_of m ≡ raw_of n → m ≡ n
raw_apart m n p q e =
    decimal_injective m n p q (same_cut 32 (decimal m) (behind m) (decimal n) (behind n) e (decimal_lacks m p) (decimal_lacks n q)).0

digit_apart : (a b : ℕ) → a < 16 → b < 16 → digit_glyph true a ≡ digit_glyph true b → a ≡ b
digit_apart a b p q e = grind (arith, nat_tests, p, q, e)

-- two digits say one byte
two_digits : (m n : ℕ) → m < 256 → n < 256 → digit_glyph true (m / 16 % 16) ≡ digit_glyph true (n / 16 % 16) → digit_glyph true (m % 16) ≡ digit_glyph true (n % 16) → m ≡ n
two_digits m n p q high low =
    let front = digit_apart (m / 16 % 16) (n / 16 % 16) (omega arith) (omega arith) high in
    let back = digit_apart (m % 16) (n % 16) (omega arith) (omega arith) low in
    omega (arith, p, q, front, back)

pub bits_apart : (m n : ℕ) → m < 256 → n < 256 → bits_of m ≡ bits_of n → m ≡ n
bits_apart m n p q e = two_digits m n p q (cc e) (cc e)

-- ---- texts

abbrev quote : ℕ
quote = 34

abbrev backslash : ℕ
backslash = 92

-- the bytes that say two bytes, each in front of other words
abbrev Said : (one other : Bool) → (a b : ℕ) → (x y : List ℕ) → Type 0
Said one other a b x y =
    (if one then a ∷ [] else codes "\\x" ++ hex_of a) ++ x ≡ (if other then b ∷ [] else codes "\\x" ++ hex_of b) ++ y

first_said : (one other : Bool) (a b : ℕ) (x y : List ℕ) → is_plain a ≡ one → is_plain b ≡ other → a < 256 → b < 256 → Said one other a b x y → (a ≡ b) × (x ≡ y)
first_said true true a b x y p q low small e = (cc e, cc e)
first_said true false a b x y p q low small e =
    let mark : a ≡ 92 = cc e in
    let not_plain : is_plain a ≡ false = ap is_plain mark in
    let no : true ≡ false = sym p ∙ not_plain in cc no
first_said false true a b x y p q low small e =
    let mark : b ≡ 92 = cc e in
    let not_plain : is_plain b ≡ false = ap is_plain mark in
    let no : true ≡ false = sym q ∙ not_plain in cc no
first_said false false a b x y p q low small e = (two_digits a b low small (cc e) (cc e), cc e)

texts_apart : (a b : List ℕ) (c d : List ℕ) → AreBytes a → AreBytes b → escaped a ++ 34 ∷ c ≡ escaped b ++ 34 ∷ d → a ≡ b
texts_apart [] [] c d p q e = refl
texts_apart [] (y ∷ b) c d p q e = no_quote (is_plain y) y refl (escaped b ++ 34 ∷ d) (e ∙ append_assoc (escape_of y) (escaped b) (34 ∷ d))
  where
    no_quote : (plain : Bool) (byte : ℕ) → is_plain byte ≡ plain → (more : List ℕ) → 34 ∷ c ≡ (if plain then byte ∷ [] else codes "\\x" ++ hex_of byte) ++ more → [] ≡ y ∷ b
    no_quote true byte is more same =
        let mark : byte ≡ 34 = cc same in
        let not_plain : is_plain byte ≡ false = ap is_plain mark in
        let no : true ≡ false = sym is ∙ not_plain in cc no
    no_quote false byte is more same = let no : quote ≡ backslash = cc same in absurd (omega (arith, no))
texts_apart (x ∷ a) [] c d p q e = no_quote (is_plain x) x refl (escaped a ++ 34 ∷ c) (sym e ∙ append_assoc (escape_of x) (escaped a) (34 ∷ c))
  where
    no_quote : (plain : Bool) (byte : ℕ) → is_plain byte ≡ plain → (more : List ℕ) → 34 ∷ d ≡ (if plain then byte ∷ [] else codes "\\x" ++ hex_of byte) ++ more → x ∷ a ≡ []
    no_quote true byte is more same =
        let mark : byte ≡ 34 = cc same in
        let not_plain : is_plain byte ≡ false = ap is_plain mark in
        let no : true ≡ false = sym is ∙ not_plain in cc no
    no_quote false byte is more same = let no : quote ≡ backslash = cc same in absurd (omega (arith, no))
texts_apart (x ∷ a) (y ∷ b) c d p q e =
    let same = first_said (is_plain x) (is_plain y) x y (escaped a ++ 34 ∷ c) (escaped b ++ 34 ∷ d) refl refl p.0 q.0
    (sym (append_assoc (escape_of x) (escaped a) (34 ∷ c)) ∙ e ∙ append_assoc (escape_of y) (escaped b) (34 ∷ d)) in
    let rest = texts_apart a b c d p.1 q.1 same.1 in
    cc (same.0, rest)

pub quoted_apart : (a b : List ℕ) → AreBytes a → AreBytes b → quoted a ≡ quoted b → a ≡ b
quoted_apart a b p q e = texts_apart a b [] [] p q (cc e)

-- ---- names

name_front : (x y : ℕ) (a b : List ℕ) → before_trimmed x a ≡ before_trimmed y b → (x ≡ y) × (a ≡ b)
name_front x y [] [] e = (one_byte (x == 0) (y == 0) refl refl e, refl)
  where
    one_byte : (one other : Bool) → (x == 0) ≡ one → (y == 0) ≡ other → (if one then [] else x ∷ []) ≡ (if other then [] else y ∷ []) → x ≡ y
    one_byte true true p q same = grind (arith, nat_tests, p, q)
    one_byte true false p q same = cc same
    one_byte false true p q same = cc same
    one_byte false false p q same = cc same
name_front x y [] (b ∷ more) e = few (x == 0) e
  where
    few : (test : Bool) → (if test then [] else x ∷ []) ≡ y ∷ b ∷ more → (x ≡ y) × ([] ≡ b ∷ more)
    few true same = cc same
    few false same = let none : [] ≡ b ∷ more = cc same in cc none
name_front x y (a ∷ more) [] e = few (y == 0) e
  where
    few : (test : Bool) → x ∷ a ∷ more ≡ (if test then [] else y ∷ []) → (x ≡ y) × (a ∷ more ≡ [])
    few true same = cc same
    few false same = let none : a ∷ more ≡ [] = cc same in cc none
name_front x y (a ∷ more) (b ∷ others) e = (cc e, cc e)

pub names_apart : (a b : List ℕ) → length a ≡ length b → trimmed a ≡ trimmed b → a ≡ b
unfolding trimmed
names_apart [] [] long e = refl
names_apart [] (y ∷ b) long e = absurd (omega (arith, long))
names_apart (x ∷ a) [] long e = absurd (omega (arith, long))
names_apart (x ∷ a) (y ∷ b) long e =
    let front = name_front x y (trimmed a) (trimmed b) e in
    let rest = names_apart a b (omega (arith, long)) front.1 in
    cc (front.0, rest)

-- the front of bytes is bytes
pub trimmed_bytes : (a : List ℕ) → AreBytes a → AreBytes (trimmed a)
unfolding trimmed
trimmed_bytes [] p = tt
trimmed_bytes (x ∷ a) p = front_bytes (trimmed a) (trimmed_bytes a p.1)
  where
    front_bytes : (more : List ℕ) → AreBytes more → AreBytes (before_trimmed x more)
    front_bytes [] q = one_byte (x == 0)
      where
        one_byte : (test : Bool) → AreBytes (if test then [] else x ∷ [])
        one_byte true = tt
        one_byte false = (p.0, tt)
    front_bytes (b ∷ more) q = (p.0, q)
