-- What is written of an event says it.
use Rattle.std.proofs.Common.{◌≡◌, ◌≢◌, ℕ, zero, suc, ◌<◌, ◌≤◌, ◌%◌, ◌^◌, ◌==◌, inl, inr, Bool, true, false, cond, List, [], ◌∷◌, ◌++◌, map, length, take, get_or, arith, refl, sym, ◌∙◌, ap, subst, Ok, codes, not, append_assoc}
use Rattle.std.specs.Prelude.{nat_lt}
use Rattle.std.specs.List.{AllByRecursion, AllZip, slice_split}
use Rattle.std.specs.Fmt.{decimal}
use Rattle.std.specs.Str.Parse.{AllDigits, digits_value}
use Rattle.std.specs.List.{onto_first}
use Rattle.std.proofs.lemmas.Bool.Decides.{eqb_tells, nat_tests}
use Rattle.std.proofs.lemmas.List.Elements.{All-get_or}
use Rattle.std.proofs.lemmas.List.Splits.{slice_split-cons_yes, slice_split-cons_no}
use Rattle.std.proofs.lemmas.List.{take_all}
use Rattle.std.proofs.lemmas.Str.Parse.{IsNumeralModel, numerals_by_value, tells_digits, not_in_digits}
use Rattle.std.proofs.lemmas.Fmt.{decimal_is_IsNumeral, length-decimal-le}
use Rattle.hex.specs.Hex.{IsBytes, decode_of, encode_upper, is_hex_digit}
use Rattle.hex.proofs.HexLemmas.{decode_of-ok, decode_of-encode_upper}
use Rattle.text_lines.specs.Cuts.{LacksByte}
use Rattle.text_lines.proofs.Cuts.{lacks_by_index}
use Rattle.two_wire.specs.declared.Bus.{Bus}
use Rattle.two_wire.specs.declared.Bus.TheVariants.{Ipmb, Smbus}
use Rattle.text_lines.specs.declared.event.OtherRequest.{OtherRequest}
use Rattle.text_lines.specs.declared.event.OtherMessage.{OtherMessage}
use Rattle.text_lines.specs.declared.event.Event.{Event}
use Rattle.text_lines.specs.declared.event.Event.TheVariants.{ToBmc, ToMgr, OtherIpmb, OtherSmbus}
use Rattle.text_lines.specs.ScheduleText.{lines_of, words_of, IsNumber}
use Rattle.two_wire.specs.Buses.{bus_name}
use Rattle.text_lines.specs.EventLine.{Word, Name, Number, Digits, bytes_of, words_for, SpellsWord, AreSome, IsOtherRequest, IsSoundEvent, IsLineOf}
use Rattle.text_lines.specs.Schedule.{is_skipped, spoken, AreLinesOf}
use Rattle.text_lines.specs.Written.{said, written, spaced, line_with, line_of, text_of, IsEventLine}

-- ---- where a text is cut

own_mark : (mark : ℕ) → (mark == mark) ≡ true
own_mark mark = elim (eqb_tells mark mark) [
  | inl p ↦ p.0
  | inr p ↦ absurd (p.1 refl)
]

other_mark : (b mark : ℕ) → b ≢ mark → (b == mark) ≡ false
other_mark b mark differs = elim (eqb_tells b mark) [
  | inl p ↦ absurd (differs p.1)
  | inr p ↦ p.0
]

split_none : (mark : ℕ) (xs : List ℕ) → LacksByte mark xs → slice_split (λ b. b == mark) xs ≡ xs ∷ []
split_none mark [] l = refl
split_none mark (x ∷ xs) l = slice_split-cons_no (λ b. b == mark) x xs (other_mark x mark l.0) ∙ ap (onto_first x) (split_none mark xs l.1)

split_at : (mark : ℕ) (xs ys : List ℕ) → LacksByte mark xs → slice_split (λ b. b == mark) (xs ++ mark ∷ ys) ≡ xs ∷ slice_split (λ b. b == mark) ys
split_at mark [] ys l = slice_split-cons_yes (λ b. b == mark) mark ys (own_mark mark)
split_at mark (x ∷ xs) ys l = slice_split-cons_no (λ b. b == mark) x (xs ++ mark ∷ ys) (other_mark x mark l.0) ∙ ap (onto_first x) (split_at mark xs ys l.1)

-- a test for the mark
abbrev has : ℕ → List ℕ → Bool
has mark [] = false
has mark (b ∷ bytes) = cond (b == mark) true (has mark bytes)

lacks_by_test : (mark : ℕ) (bytes : List ℕ) → has mark bytes ≡ false → LacksByte mark bytes
lacks_by_test mark [] h = tt
lacks_by_test mark (b ∷ bytes) h =
    elim (eqb_tells b mark) [
      | inl p ↦ (let k : cond true true (has mark bytes) ≡ false = rw p.0 at h in cc k)
      | inr p ↦ (p.1, lacks_by_test mark bytes (rw p.0 at h))
    ]

lacks_both : (mark : ℕ) (front back : List ℕ) → LacksByte mark front → LacksByte mark back → LacksByte mark (front ++ back)
lacks_both mark [] back f b = b
lacks_both mark (x ∷ front) back f b = (f.0, lacks_both mark front back f.1 b)

own : IsNumeralModel (AllDigits 10) (digits_value 10)
own = numerals_by_value (AllDigits 10) tells_digits

-- what has neither spaces nor line feeds
pub record IsWord (word : List ℕ) : Type 0 where
  spaces : LacksByte 32 word
  feeds : LacksByte 10 word

decimal_word : (n : ℕ) → n < 2 ^ 32 → IsWord (decimal n)
decimal_word n small = let all : AllDigits 10 (decimal n) = (decimal_is_IsNumeral n (omega (arith, small))).0.1 in record {
  spaces = lacks_by_index 32 (decimal n) (not_in_digits own (decimal n) 32 all (λ r. omega (arith, r.0)));
  feeds = lacks_by_index 10 (decimal n) (not_in_digits own (decimal n) 10 all (λ r. omega (arith, r.0)));
}

digits_lack : (mark : ℕ) (digits bytes : List ℕ) → decode_of digits ≡ Ok bytes → is_hex_digit mark ≢ true → LacksByte mark digits
digits_lack mark digits bytes h no_digit =
    let all = (decode_of-ok digits bytes h).1 in
    lacks_by_index mark digits (λ i l e.
    let one : is_hex_digit (get_or digits i 0) ≡ true = All-get_or (λ d. is_hex_digit d ≡ true) digits i 0 l all in
    no_digit (subst (λ (d : ℕ). is_hex_digit d ≡ true) e one))

digits_word : (bytes : List ℕ) → IsBytes bytes → IsWord (encode_upper bytes)
digits_word bytes small = let read = decode_of-encode_upper bytes small in record {
  spaces = digits_lack 32 (encode_upper bytes) bytes read (λ h. cc h);
  feeds = digits_lack 10 (encode_upper bytes) bytes read (λ h. cc h);
}

pub bus_word : (on : Bus) → IsWord (bus_name on)
bus_word Ipmb = record { spaces = lacks_by_test 32 (codes "ipmb") refl; feeds = lacks_by_test 10 (codes "ipmb") refl }
bus_word Smbus = record { spaces = lacks_by_test 32 (codes "smbus") refl; feeds = lacks_by_test 10 (codes "smbus") refl }

pub one_word : (word : List ℕ) → has 32 word ≡ false → has 10 word ≡ false → IsWord word
one_word word spaces feeds = record { spaces = lacks_by_test 32 word spaces; feeds = lacks_by_test 10 word feeds }

-- ---- the words of a line

-- the line's words are these, and no line feed is in it
record HasWords (line : List ℕ) (words : List (List ℕ)) : Type 0 where
  are : words_of line ≡ words
  feeds : LacksByte 10 line

last_word : (word : List ℕ) → IsWord word → HasWords word (word ∷ [])
last_word word is = record { are = split_none 32 word is.spaces; feeds = is.feeds }

word_before : (word rest : List ℕ) (words : List (List ℕ)) → IsWord word → HasWords rest words → HasWords (said word rest) (word ∷ words)
word_before word rest words is has_words = record {
  are = split_at 32 word rest is.spaces ∙ ap (λ (ws : List (List ℕ)). word ∷ ws) has_words.are;
  feeds = lacks_both 10 word (32 ∷ rest) is.feeds ((λ (e : 32 ≡ 10). cc e), has_words.feeds);
}

pub small_byte : (byte : ℕ) → byte < 256 → IsBytes (byte ∷ [])
small_byte byte small zero = small
small_byte byte small (suc i) = omega arith

number_read : (n : ℕ) → nat_lt n 1000000000 ≡ true → (n < 2 ^ 32) × IsNumber 9 (decimal n) n
number_read n low =
    let small : n < 1000000000 = grind (arith, nat_tests) in
    let is = decimal_is_IsNumeral n (omega (arith, small)) in
    (omega (arith, small), record { decimal = is.0; few = length-decimal-le 9 n (omega arith) (omega (arith, small)) (omega (arith, small)); value = is.1 })

-- ---- a line of words

-- what is written of the word is read as it
abbrev pub IsGood : Word → Type 0
IsGood (Name name) = IsWord name
IsGood (Number number) = nat_lt number 1000000000 ≡ true
IsGood (Digits bytes) = IsBytes bytes

good_word : (word : Word) → IsGood word → IsWord (written word)
good_word (Name name) good = good
good_word (Number number) good = decimal_word number (number_read number good).0
good_word (Digits bytes) good = digits_word bytes good

good_spelled : (word : Word) → IsGood word → SpellsWord (written word) word
good_spelled (Name name) good = refl
good_spelled (Number number) good = (number_read number good).1
good_spelled (Digits bytes) good = decode_of-encode_upper bytes good

abbrev pub AllGood : List Word → Type 0
AllGood words = AllByRecursion IsGood words

all_spelled : (words : List Word) → AllGood words → AllZip SpellsWord (map written words) words
all_spelled [] all = tt
all_spelled (word ∷ words) all = (good_spelled word all.0, all_spelled words all.1)

has_all : (word : Word) (words : List Word) → IsGood word → AllGood words → HasWords (spaced word words) (map written (word ∷ words))
has_all word [] good all = last_word (written word) (good_word word good)
has_all word (next ∷ words) good all = word_before (written word) (spaced next words) (map written (next ∷ words)) (good_word word good) (has_all next words all.0 all.1)

line_has : (words : List Word) → AllGood words → is_skipped (line_with words) ≡ false → HasWords (line_with words) (map written words)
line_has [] all spoken = absurd cc
line_has (word ∷ words) all spoken = has_all word words all.0 all.1

-- a line of good words stands for its event
pub stands : (event : Event) → AllGood (words_for event) → IsSoundEvent event → is_skipped (line_of event) ≡ false → IsEventLine (line_of event) event
stands event good sound spoken =
    let has_words = line_has (words_for event) good spoken in
    record {
      says = (subst (λ (texts : List (List ℕ)). AllZip SpellsWord texts (words_for event)) (sym has_words.are) (all_spelled (words_for event) good), sound);
      spoken = spoken;
      whole = has_words.feeds;
    }

-- ---- the lines

pub to_bmc_stands : (n : ℕ) → nat_lt n 1000000000 ≡ true → IsEventLine (line_of (ToBmc n)) (ToBmc n)
to_bmc_stands n low = let e = ToBmc n in stands e (one_word _ refl refl, (low, tt)) tt refl

pub to_mgr_stands : (n : ℕ) → nat_lt n 1000000000 ≡ true → IsEventLine (line_of (ToMgr n)) (ToMgr n)
to_mgr_stands n low = let e = ToMgr n in stands e (one_word _ refl refl, (low, tt)) tt refl

-- by what the code has of the message
pub message_by : (m : OtherMessage) (body : List ℕ) → body ≡ m.body → m.from < 256 → IsBytes body → 0 < length body → length body ≤ 256 → IsEventLine (line_of (OtherSmbus m)) (OtherSmbus m)
message_by m body same from small some few =
    let e = OtherSmbus m in
    let sound : AreSome 256 m.body = subst (AreSome 256) same (record { some = some; few = few }) in
    stands e (one_word _ refl refl, (bus_word Smbus, (small_byte m.from from, (subst IsBytes same small, tt)))) sound refl

-- and of the request
pub request_by : (r : OtherRequest) (address : ℕ) (bytes : List ℕ) → address ≡ r.requester.address → address < 256 → bytes ≡ bytes_of r → IsBytes bytes → IsOtherRequest r (bytes_of r) → IsEventLine (line_of (OtherIpmb r)) (OtherIpmb r)
request_by r address bytes same small are all is =
    let e = OtherIpmb r in
    let from : r.requester.address < 256 = subst (λ (a : ℕ). a < 256) same small in
    stands e (one_word _ refl refl, (bus_word Ipmb, (small_byte r.requester.address from, (subst IsBytes are all, tt)))) is refl

pub request_is : (r : OtherRequest) (net_fn responder lun : ℕ) (body : List ℕ) (address : ℕ)
    → net_fn ≡ r.net_fn → responder ≡ r.responder → lun ≡ r.requester.lun → body ≡ r.body → address ≡ r.requester.address
    → net_fn % 2 ≡ 0 → responder < 4 → lun < 4 → length body ≤ 25 → address % 2 ≡ 0 → IsOtherRequest r (bytes_of r)
request_is r net_fn responder lun body address f p l b a even low under few plain = record {
  all = refl;
  net_fn = subst (λ (n : ℕ). n % 2 ≡ 0) f even;
  responder = subst (λ (n : ℕ). n < 4) p low;
  requester = subst (λ (n : ℕ). n < 4) l under;
  few = subst (λ (bytes : List ℕ). length bytes ≤ 25) b few;
  address = subst (λ (n : ℕ). n % 2 ≡ 0) a plain;
}

-- ---- the text

-- each of the events stands on its line
abbrev pub AllStand : List Event → Type 0
AllStand events = AllByRecursion (λ e. IsEventLine (line_of e) e) events

-- reading the lines gives the events back
pub lines_said : (es : List Event) → AllStand es → AreLinesOf (lines_of (text_of es)) es
lines_said [] all = tt
lines_said (e ∷ es) all = subst (λ (ls : List (List ℕ)). AllZip IsLineOf ls (e ∷ es)) (sym whole) (all.0.says, lines_said es all.1)
  where
    cut : lines_of (text_of (e ∷ es)) ≡ line_of e ∷ lines_of (text_of es)
    cut = ap lines_of (append_assoc (line_of e) (10 ∷ []) (text_of es)) ∙ split_at 10 (line_of e) (text_of es) all.0.whole

    whole : spoken (lines_of (text_of (e ∷ es))) ≡ line_of e ∷ spoken (lines_of (text_of es))
    whole = ap spoken cut ∙ ap (λ (t : Bool). cond (not t) (line_of e ∷ spoken (lines_of (text_of es))) (spoken (lines_of (text_of es)))) all.0.spoken

-- what is written is the text of the events so far
pub record IsWritten (es : List Event) (text : List ℕ) : Type 0 where
  pub are : text ≡ text_of es
  pub stand : AllStand es

pub written_all : (es : List Event) (i : ℕ) (text : List ℕ) → length es ≤ i → IsWritten (take i es) text → (text ≡ text_of es) × AreLinesOf (lines_of text) es
written_all es i text all is =
    let whole : IsWritten es text = subst (λ (l : List Event). IsWritten l text) (take_all i es all) is in
    (whole.are, subst (λ (t : List ℕ). AreLinesOf (lines_of t) es) (sym whole.are) (lines_said es whole.stand))
