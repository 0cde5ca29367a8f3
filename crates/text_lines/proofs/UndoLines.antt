-- What the lines of an undo text say, each in one way.
use Rattle.std.proofs.Common.{◌≡◌, ◌≢◌, ◌<◌, ◌≤◌, ◌*◌, ◌%◌, ◌^◌, ◌==◌, inl, inr, ℕ, suc, zero, Bool, true, false, cond, List, [], ◌∷◌, ◌++◌, length, get_or, arith, refl, sym, ◌∙◌, ap, subst, append_assoc, Ok, Result, codes}
use Rattle.std.specs.Fmt.{decimal}
use Rattle.std.specs.Str.Parse.{AllDigits, digits_value}
use Rattle.std.proofs.lemmas.Bool.Decides.{eqb_tells}
use Rattle.std.proofs.lemmas.List.Elements.{All-get_or}
use Rattle.std.proofs.lemmas.Str.Parse.{IsNumeralModel, numerals_by_value, tells_digits, not_in_digits}
use Rattle.std.proofs.lemmas.Fmt.{digits_decimal, decimal_injective}
use Rattle.std.specs.Result.{result_unwrap_or}
use Rattle.hex.specs.declared.error.FromHexError.{FromHexError}
use Rattle.hex.specs.Hex.{IsBytes, decode_of, encode_with, encode_upper, is_hex_digit}
use Rattle.hex.proofs.HexLemmas.{decode_of-ok, decode_of-encode_upper}
use Rattle.text_lines.specs.Cuts.{LacksByte, CutsAt, ended}
use Rattle.text_lines.proofs.Cuts.{lacks_by_index, same_cut, not_lacking}
use Rattle.record_base.specs.declared.message.Asked.{Asked}
use Rattle.record_base.specs.declared.message.Asked.TheVariants.{Ipmi, Pldm}
use Rattle.two_wire.specs.Circles.{sequence_numbers}
use Rattle.two_wire.specs.declared.Bus.{Bus}
use Rattle.two_wire.specs.declared.Bus.TheVariants.{Ipmb, Smbus}
use Rattle.undo_plans.specs.Fitting.{most_of}
use Rattle.undo_plans.specs.declared.names.Names.{Names}
use Rattle.undo_plans.specs.declared.undo_list.NextNumbers.{NextNumbers}
use Rattle.text_lines.specs.declared.undo_version.Version.{Version}
use Rattle.text_lines.specs.declared.undo_version.Version.TheVariants.{One, Two}
use Rattle.text_lines.specs.Versions.{version_line}
use Rattle.text_lines.specs.UndoText.{numbers_line, IsNumbersLine, IsPair, IsNamesLine, name_of, bus_of, bytes_of, line_of, IsPlain, LineFits, IsRequestLine, BeginsWith, IsGood}

-- ---- what lacks a mark

-- a test for the mark
abbrev has : ℕ → List ℕ → Bool
has mark [] = false
has mark (b ∷ bytes) = cond (b == mark) true (has mark bytes)

lacks_by_test : (mark : ℕ) (bytes : List ℕ) → has mark bytes ≡ false → LacksByte mark bytes
lacks_by_test mark [] h = tt
lacks_by_test mark (b ∷ bytes) h =
    elim (eqb_tells b mark) [
      | inl p ↦ (let k : cond true true (has mark bytes) ≡ false = rw p.0 at h in cc k)
      | inr p ↦ (p.1, lacks_by_test mark bytes (rw p.0 at h))
    ]

lacks_both : (mark : ℕ) (front back : List ℕ) → LacksByte mark front → LacksByte mark back → LacksByte mark (front ++ back)
lacks_both mark [] back f b = b
lacks_both mark (x ∷ front) back f b = (f.0, lacks_both mark front back f.1 b)

own : IsNumeralModel (AllDigits 10) (digits_value 10)
own = numerals_by_value (AllDigits 10) tells_digits

-- a number in decimal has digits alone
decimal_lacks : (mark n : ℕ) → n < 2 ^ 32 → mark < 48 → LacksByte mark (decimal n)
decimal_lacks mark n low small =
    let all : AllDigits 10 (decimal n) = digits_decimal own n (omega (arith, low)) in
    lacks_by_index mark (decimal n) (not_in_digits own (decimal n) mark all (λ r. omega (arith, r.0, small)))

-- digits in hexadecimal hold no other mark
mark_lacks : (mark : ℕ) (digits bytes : List ℕ) → decode_of digits ≡ Ok bytes → is_hex_digit mark ≢ true → LacksByte mark digits
mark_lacks mark digits bytes h no_digit =
    let all = (decode_of-ok digits bytes h).1 in
    lacks_by_index mark digits (λ i l e.
    let one : is_hex_digit (get_or digits i 0) ≡ true = All-get_or (λ d. is_hex_digit d ≡ true) digits i 0 l all in
    no_digit (subst (λ (d : ℕ). is_hex_digit d ≡ true) e one))

-- they hold no line feed
digits_lack : (digits bytes : List ℕ) → decode_of digits ≡ Ok bytes → LacksByte 10 digits
digits_lack digits bytes h = mark_lacks 10 digits bytes h (λ e. cc e)

-- and no space
pub spaces_lack : (digits bytes : List ℕ) → decode_of digits ≡ Ok bytes → LacksByte 32 digits
spaces_lack digits bytes h = mark_lacks 32 digits bytes h (λ e. cc e)

bus_lacks : (asked : Asked) → LacksByte 10 (bus_of asked)
bus_lacks (Ipmi from net_fn lun command body) = lacks_by_test 10 (codes "ipmb ") refl
bus_lacks (Pldm from kind command body) = lacks_by_test 10 (codes "smbus ") refl

-- ---- no line of the text holds a line feed

pub request_lacks : (line : List ℕ) (asked : Asked) → IsRequestLine line asked → LacksByte 10 line
request_lacks line asked is =
    subst (LacksByte 10) (sym is.spelt) (lacks_both 10 (bus_of asked) is.digits (bus_lacks asked) (digits_lack is.digits is.bytes is.read))

pub numbers_lack : (line : List ℕ) (next : NextNumbers) → IsNumbersLine line next → LacksByte 10 line
numbers_lack line next is =
    subst (LacksByte 10) (sym is.spelt)
    (lacks_both 10 (codes "next ipmb ") _ (lacks_by_test 10 (codes "next ipmb ") refl)
    (lacks_both 10 (decimal next.ipmb) _ (decimal_lacks 10 next.ipmb (omega (arith, is.ipmb)) (omega arith))
    (lacks_both 10 (codes " smbus ") _ (lacks_by_test 10 (codes " smbus ") refl)
    (decimal_lacks 10 next.smbus (omega (arith, is.smbus)) (omega arith)))))

pair_lacks : (words : List ℕ) (own peer : ℕ) → IsPair words own peer → LacksByte 10 words
pair_lacks words own peer is =
    subst (LacksByte 10) (sym is.spelt)
    (lacks_both 10 is.own_digits _ (digits_lack is.own_digits (own ∷ []) is.own_read)
    ((λ (e : 32 ≡ 10). cc e), digits_lack is.peer_digits (peer ∷ []) is.peer_read))

pub names_lack : (line : List ℕ) (names : Names) → IsNamesLine line names → LacksByte 10 line
names_lack line names is =
    subst (LacksByte 10) (sym is.spelt)
    (lacks_both 10 (codes "names ipmb ") _ (lacks_by_test 10 (codes "names ipmb ") refl)
    (lacks_both 10 is.ipmb _ (pair_lacks is.ipmb _ _ is.addresses)
    (lacks_both 10 (codes " smbus ") _ (lacks_by_test 10 (codes " smbus ") refl)
    (lacks_both 10 is.smbus _ (pair_lacks is.smbus _ _ is.wires)
    (lacks_both 10 (codes " eid ") _ (lacks_by_test 10 (codes " eid ") refl)
    (pair_lacks is.eid _ _ is.eids))))))

pub version_lacks : (version : Version) → LacksByte 10 (version_line version)
version_lacks One = lacks_by_test 10 (codes "undo 1") refl
version_lacks Two = lacks_by_test 10 (codes "undo 2") refl

pub good_lacks : (version : Version) (n : ℕ) (line : List ℕ) → IsGood version n line → LacksByte 10 line
good_lacks version n line (inl h) = numbers_lack line h.1.0 h.1.1
good_lacks version n line (inr (inl h)) = names_lack line h.2.0 h.2.1
good_lacks version n line (inr (inr h)) = request_lacks line h.2.0 h.2.1

-- ---- the version's line

-- each version has a line of its own
pub one_version : (a b : Version) → version_line a ≡ version_line b → a ≡ b
one_version One One e = refl
one_version Two Two e = refl
one_version One Two e = let last : 49 ≡ 50 = ap (λ (x : List ℕ). get_or x 5 0) e in absurd (omega (arith, last))
one_version Two One e = let last : 50 ≡ 49 = ap (λ (x : List ℕ). get_or x 5 0) e in absurd (omega (arith, last))

-- ---- the numbers' line

-- how a numbers' line goes on behind its first words
pub numbers_behind : (line numbers : List ℕ) (next : NextNumbers) → line ≡ codes "next ipmb " ++ numbers → IsNumbersLine line next → numbers ≡ decimal next.ipmb ++ (32 ∷ (codes "smbus " ++ decimal next.smbus))
numbers_behind line numbers next e is =
    let both : codes "next ipmb " ++ numbers ≡ numbers_line next = sym e ∙ is.spelt in
    cc both

-- and where it is cut
pub numbers_cut : (numbers word rest : List ℕ) (next : NextNumbers) → next.ipmb < sequence_numbers → numbers ≡ decimal next.ipmb ++ (32 ∷ (codes "smbus " ++ decimal next.smbus)) → CutsAt 32 numbers word rest
    → (word ≡ decimal next.ipmb) × (rest ≡ codes "smbus " ++ decimal next.smbus)
numbers_cut numbers word rest next low e cut =
    same_cut 32 word rest (decimal next.ipmb) _ (sym cut.parts ∙ e) cut.first (decimal_lacks 32 next.ipmb (omega (arith, low)) (omega arith))

same_next : (a b : NextNumbers) → a.ipmb ≡ b.ipmb → a.smbus ≡ b.smbus → a ≡ b
same_next a b p q =
    ap (λ (i : ℕ). let r : NextNumbers = record { ipmb = i; smbus = a.smbus } in r) p
    ∙ ap (λ (i : ℕ). let r : NextNumbers = record { ipmb = b.ipmb; smbus = i } in r) q

-- a line has the numbers of one list
pub one_numbers : (line : List ℕ) (a b : NextNumbers) → IsNumbersLine line a → IsNumbersLine line b → a ≡ b
one_numbers line a b p q =
    let rest = numbers_behind line _ a p.spelt p in
    let other = numbers_behind line _ b p.spelt q in
    let parts = same_cut 32 (decimal a.ipmb) (codes "smbus " ++ decimal a.smbus) (decimal b.ipmb) (codes "smbus " ++ decimal b.smbus) other
    (decimal_lacks 32 a.ipmb (omega (arith, p.ipmb)) (omega arith)) (decimal_lacks 32 b.ipmb (omega (arith, q.ipmb)) (omega arith)) in
    let last : decimal a.smbus ≡ decimal b.smbus = cc (parts.1) in
    same_next a b
    (decimal_injective a.ipmb b.ipmb (omega (arith, p.ipmb)) (omega (arith, q.ipmb)) parts.0)
    (decimal_injective a.smbus b.smbus (omega (arith, p.smbus)) (omega (arith, q.smbus)) last)

-- ---- a request's line

-- a line is of one request
pub one_request : (line : List ℕ) (a b : Asked) → IsRequestLine line a → IsRequestLine line b → a ≡ b
one_request line (Ipmi f n l c d) (Ipmi f' n' l' c' d') p q =
    let both : codes "ipmb " ++ p.digits ≡ codes "ipmb " ++ q.digits = sym p.spelt ∙ q.spelt in
    let digits : p.digits ≡ q.digits = cc both in
    let read : p.bytes ≡ q.bytes = ap (λ (r : Result (List ℕ) FromHexError). result_unwrap_or r []) (sym p.read ∙ ap decode_of digits ∙ q.read) in
    let bytes : n * 4 ∷ c ∷ d ≡ n' * 4 ∷ c' ∷ d' = p.is.spelt ∙ read ∙ sym q.is.spelt in
    let four : n * 4 ≡ n' * 4 = cc bytes in
    let same : n ≡ n' = omega (arith, four) in
    cc (same, bytes, p.is.plain.0, q.is.plain.0, p.is.plain.1, q.is.plain.1)
one_request line (Pldm f k c d) (Pldm f' k' c' d') p q =
    let both : codes "smbus " ++ p.digits ≡ codes "smbus " ++ q.digits = sym p.spelt ∙ q.spelt in
    let digits : p.digits ≡ q.digits = cc both in
    let read : p.bytes ≡ q.bytes = ap (λ (r : Result (List ℕ) FromHexError). result_unwrap_or r []) (sym p.read ∙ ap decode_of digits ∙ q.read) in
    let bytes : k ∷ c ∷ d ≡ k' ∷ c' ∷ d' = p.is.spelt ∙ read ∙ sym q.is.spelt in
    cc (bytes, p.is.plain, q.is.plain)
one_request line (Ipmi f n l c d) (Pldm f' k' c' d') p q =
    let k : 105 ≡ 115 = ap (λ (x : List ℕ). get_or x 0 0) (sym p.spelt ∙ q.spelt) in
    absurd (omega (arith, k))
one_request line (Pldm f k c d) (Ipmi f' n' l' c' d') p q =
    let h : 115 ≡ 105 = ap (λ (x : List ℕ). get_or x 0 0) (sym p.spelt ∙ q.spelt) in
    absurd (omega (arith, h))

-- ---- the first line of a text

-- a text that begins with a line of a sort that holds no line feed has that line first
pub first_of_sort : (Sort : List ℕ → Type 0) (text front back more : List ℕ) → CutsAt 10 text front back → ((line : List ℕ) → Sort line → LacksByte 10 line) → BeginsWith Sort text more → Sort front
first_of_sort Sort text front back more cut lacks b =
    let same = same_cut 10 front back b.0 more (sym cut.parts ∙ b.1) cut.first (lacks b.0 b.2) in
    subst Sort (sym same.0) b.2

-- a text without a line feed begins with no line
pub no_line : (Sort : List ℕ → Type 0) (text more : List ℕ) → LacksByte 10 text → ¬ BeginsWith Sort text more
no_line Sort text more lacks b = not_lacking 10 b.0 more (subst (LacksByte 10) b.1 lacks)

-- ---- what is written

-- the line that is written for a request is the request's
pub written_is : (asked : Asked) → IsPlain asked → LineFits asked → IsBytes (bytes_of asked) → IsRequestLine (line_of asked) asked
written_is asked plain fits small = record {
  digits = encode_upper (bytes_of asked);
  spelt = refl;
  bytes = bytes_of asked;
  read = decode_of-encode_upper (bytes_of asked) small;
  is = record { plain = plain; fits = fits; sent = refl; spelt = refl };
}

-- a line that names no bus is of no request
pub no_bus : (line : List ℕ) → ((bus : Bus) (rest : List ℕ) → line ≢ name_of bus ++ rest) → (asked : Asked) → ¬ IsRequestLine line asked
no_bus line none (Ipmi from net_fn lun command body) is = none Ipmb is.digits is.spelt
no_bus line none (Pldm from kind command body) is = none Smbus is.digits is.spelt

pub ipmb_written : (asked : Asked) (from net_fn lun command : ℕ) (body : List ℕ) (n : ℕ) (b : List ℕ) → asked ≡ Ipmi from net_fn lun command body → n ≡ net_fn → b ≡ body → n < 64 → n % 2 ≡ 0 → length b ≤ 25
    → IsBytes (n * 4 ∷ command ∷ b) → IsPlain asked → IsRequestLine (line_of asked) asked
ipmb_written asked from net_fn lun command body n b is same whole low even short small =
    let fits : LineFits (Ipmi from n lun command b) = (low, even, short) in
    let all : asked ≡ Ipmi from n lun command b = is ∙ ap (λ (m : ℕ). Ipmi from m lun command body) (sym same) ∙ ap (λ (x : List ℕ). Ipmi from n lun command x) (sym whole) in
    subst (λ (x : Asked). IsPlain x → IsRequestLine (line_of x) x) (sym all) (λ plain. written_is (Ipmi from n lun command b) plain fits small)

pub smbus_written : (asked : Asked) (from kind command : ℕ) (body : List ℕ) (n : ℕ) (b : List ℕ) → asked ≡ Pldm from kind command body → n ≡ kind → b ≡ body → n < 64 → length body ≤ most_of (Pldm from kind command body)
    → IsBytes (n ∷ command ∷ b) → IsPlain asked → IsRequestLine (line_of asked) asked
smbus_written asked from kind command body n b is same whole low short small =
    let fits : LineFits (Pldm from n command b) = (low, subst (λ (x : ℕ × List ℕ). length x.1 ≤ most_of (Pldm from x.0 command x.1)) (λ i. (sym same i, sym whole i)) short) in
    let all : asked ≡ Pldm from n command b = is ∙ ap (λ (m : ℕ). Pldm from m command body) (sym same) ∙ ap (λ (x : List ℕ). Pldm from n command x) (sym whole) in
    subst (λ (x : Asked). IsPlain x → IsRequestLine (line_of x) x) (sym all) (λ plain. written_is (Pldm from n command b) plain fits small)

pub bytes_cons : (b : ℕ) (rest : List ℕ) → b < 256 → IsBytes rest → IsBytes (b ∷ rest)
bytes_cons b rest h hs zero = h
bytes_cons b rest h hs (suc i) = hs i

-- ---- numbers below a limit

pub too_large : (word : List ℕ) (m n limit : ℕ) → word ≡ decimal m → word ≡ decimal n → m < 2 ^ 32 → n < limit → limit < 256 → limit ≤ m → ⊥
too_large word m n limit p q low below small large =
    let same : m ≡ n = decimal_injective m n (omega (arith, low)) (omega (arith, below, small)) (sym p ∙ q) in
    omega (arith, same, below, large)

-- what stands behind words that stand in front of both
pub behind_same : (rest last other : List ℕ) → rest ≡ codes "smbus " ++ last → rest ≡ codes "smbus " ++ other → last ≡ other
behind_same rest last other p q =
    let both : codes "smbus " ++ last ≡ codes "smbus " ++ other = sym p ∙ q in
    cc both

-- numbers that end where they are said to end aren't without a space
pub numbers_have_space : (numbers : List ℕ) (next : NextNumbers) → numbers ≡ decimal next.ipmb ++ (32 ∷ (codes "smbus " ++ decimal next.smbus)) → ¬ LacksByte 32 numbers
numbers_have_space numbers next e lacks = not_lacking 32 (decimal next.ipmb) (codes "smbus " ++ decimal next.smbus) (subst (LacksByte 32) e lacks)

-- the digits of the first two bytes stand in front of those of the others
pub digits_behind : (first command : ℕ) (body : List ℕ) → encode_upper (first ∷ command ∷ body) ≡ encode_upper (first ∷ command ∷ []) ++ encode_upper body
unfolding encode_with
digits_behind first command body = refl

-- what ends a line ends all that was written of it
pub line_ended : (bus first rest : List ℕ) → bus ++ (first ++ (rest ++ 10 ∷ [])) ≡ ended (bus ++ (first ++ rest))
line_ended bus first rest = sym (append_assoc bus (first ++ rest) (10 ∷ []) ∙ ap (λ (l : List ℕ). bus ++ l) (append_assoc first rest (10 ∷ [])))
