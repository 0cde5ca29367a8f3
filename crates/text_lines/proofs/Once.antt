-- Words say at most one event: the one that they are read as.
use Rattle.std.proofs.Common.{◌≡◌, ◌≢◌, ◌≤◌, ◌⊎◌, inl, inr, lit≤, map, get_or, ◌∷◌, [], List, ℕ, suc, ◌+◌, ◌*◌, ◌/◌, ◌%◌, ◌<◌, ◌==◌, Result, Ok, Err, if◌then◌else◌, slice_index, drop, length, refl, sym, ◌∙◌, ap, arith, codes}
use Rattle.std.specs.List.{AllZip}
use Rattle.std.specs.Borrow.{Bor}
use Rattle.std.specs.Str.Parse.{digits_value}
use Rattle.hex.specs.Hex.{decode_of}
use Rattle.hex.specs.declared.error.FromHexError.{FromHexError}
use Rattle.two_wire.specs.declared.Bus.{Bus}
use Rattle.two_wire.specs.declared.Bus.TheVariants.{Ipmb, Smbus}
use Rattle.model_undo.specs.declared.call.Call.{Call as Called}
use Rattle.model_undo.specs.declared.call.Call.TheVariants.{Start, Quiet, Stop, Again, Undo}
use Rattle.text_lines.specs.declared.event.OtherRequest.{OtherRequest}
use Rattle.text_lines.specs.declared.event.BenchEvent.TheVariants.{Scan, Tick}
use Rattle.text_lines.specs.declared.event.Event.{Event}
use Rattle.text_lines.specs.declared.event.Event.TheVariants.{Calls, ToBmc, ToMgr, OtherIpmb, OtherSmbus, Noise, Idle, OnBench}
use Rattle.two_wire.specs.Buses.{bus_name}
use Rattle.text_lines.specs.EventLine.{Word, SpellsWord, AreWordsOf, IsOtherRequest, call_name, bytes_of, words_for}

-- ---- what words are read as

abbrev bytes_in : Result (List ℕ) FromHexError → List ℕ
bytes_in (Ok bytes) = bytes
bytes_in (Err e) = []

abbrev bytes_said : List ℕ → List ℕ
bytes_said digits = bytes_in (decode_of digits)

abbrev byte_said : List ℕ → ℕ
byte_said digits = slice_index (bytes_said digits) 0

abbrev bus_said : List ℕ → Bus
bus_said name = if slice_index name 0 == 105 then Ipmb else Smbus

-- by the first letter, and where that is an s by the third
abbrev one_said : List ℕ → Event
one_said word =
    if slice_index word 0 == 113 then Calls Quiet
    else if slice_index word 0 == 97 then Calls Again
    else if slice_index word 0 == 117 then Calls Undo
    else if slice_index word 0 == 116 then OnBench Tick
    else if slice_index word 2 == 97 then Calls Start
    else Calls Stop

abbrev request_said : ℕ → List ℕ → OtherRequest
request_said from bytes = record {
  requester = record { address = from; lun = slice_index bytes 1 % 4 };
  responder = slice_index bytes 0 % 4;
  net_fn = slice_index bytes 0 / 4;
  sequence = slice_index bytes 1 / 4;
  command = slice_index bytes 2;
  body = drop 3 bytes;
}

abbrev said : List (List ℕ) → Event
said (word ∷ []) = one_said word
said (word ∷ digits ∷ []) = if slice_index word 3 == 98 then ToBmc (digits_value 10 digits) else ToMgr (digits_value 10 digits)
said (word ∷ first ∷ second ∷ []) =
    if slice_index word 0 == 110 then Noise (bus_said first) (bytes_said second)
    else if slice_index word 0 == 105 then Idle (bus_said first) (byte_said second)
    else OnBench (Scan (byte_said first) (byte_said second))
said (word ∷ bus ∷ from ∷ digits ∷ []) =
    if slice_index bus 0 == 105 then OtherIpmb (request_said (byte_said from) (bytes_said digits))
    else OtherSmbus (record { from = byte_said from; body = bytes_said digits })
said _ = OnBench Tick

-- ---- so many words

-- the words spell one, and no more
one : (texts : List (List ℕ)) (p : Word) → AllZip SpellsWord texts (p ∷ []) → (a : List ℕ) × (texts ≡ a ∷ []) × SpellsWord a p
one [] p all = absurd all
one (a ∷ []) p all = (a, refl, all.0)
one (a ∷ b ∷ more) p all = absurd all.1

two : (texts : List (List ℕ)) (p q : Word) → AllZip SpellsWord texts (p ∷ q ∷ []) → (a b : List ℕ) × (texts ≡ a ∷ b ∷ []) × SpellsWord a p × SpellsWord b q
two [] p q all = absurd all
two (a ∷ []) p q all = absurd all.1
two (a ∷ b ∷ []) p q all = (a, b, refl, all.0, all.1.0)
two (a ∷ b ∷ c ∷ more) p q all = absurd all.1.1

three : (texts : List (List ℕ)) (p q r : Word) → AllZip SpellsWord texts (p ∷ q ∷ r ∷ []) → (a b c : List ℕ) × (texts ≡ a ∷ b ∷ c ∷ []) × SpellsWord a p × SpellsWord b q × SpellsWord c r
three [] p q r all = absurd all
three (a ∷ texts) p q r all =
    let rest = two texts q r all.1 in
    (a, rest.0, rest.1, ap (λ (l : List (List ℕ)). a ∷ l) rest.2, all.0, rest.3, rest.4)

four_of : (texts : List (List ℕ)) (p q r s : Word) → AllZip SpellsWord texts (p ∷ q ∷ r ∷ s ∷ []) → (a b c d : List ℕ) × (texts ≡ a ∷ b ∷ c ∷ d ∷ []) × SpellsWord a p × SpellsWord b q × SpellsWord c r × SpellsWord d s
four_of [] p q r s all = absurd all
four_of (a ∷ texts) p q r s all =
    let rest = three texts q r s all.1 in
    (a, rest.0, rest.1, rest.2, ap (λ (l : List (List ℕ)). a ∷ l) rest.3, all.0, rest.4, rest.5, rest.6)

-- ---- what they say is that

call_is : (call : Called) → one_said (call_name call) ≡ Calls call
call_is Start = refl
call_is Quiet = refl
call_is Stop = refl
call_is Again = refl
call_is Undo = refl

bus_is : (bus : Bus) → bus_said (bus_name bus) ≡ bus
bus_is Ipmb = refl
bus_is Smbus = refl

bytes_are : (digits bytes : List ℕ) → decode_of digits ≡ Ok bytes → bytes_said digits ≡ bytes
bytes_are digits bytes is = ap bytes_in is

byte_is : (digits : List ℕ) (byte : ℕ) → decode_of digits ≡ Ok (byte ∷ []) → byte_said digits ≡ byte
byte_is digits byte is = ap (λ (bytes : List ℕ). slice_index bytes 0) (bytes_are digits (byte ∷ []) is)

high : (n m : ℕ) → m < 4 → (4 * n + m) / 4 ≡ n
high n m small = omega (arith, small)

low : (n m : ℕ) → m < 4 → (4 * n + m) % 4 ≡ m
low n m small = omega (arith, small)

request_is : (r : OtherRequest) (bytes : List ℕ) → IsOtherRequest r bytes → request_said r.requester.address bytes ≡ r
request_is r bytes is =
    let at = is.all in
    rw (at, high r.net_fn r.responder is.responder, low r.net_fn r.responder is.responder, high r.sequence r.requester.lun is.requester, low r.sequence r.requester.lun is.requester) refl

said_is : (words : List (List ℕ)) (event : Event) → AreWordsOf words event → said words ≡ event
said_is words (Calls call) (all, sound) =
    let w = one words _ all in ap said (w.1 ∙ ap (λ (a : List ℕ). a ∷ []) w.2) ∙ call_is call
said_is words (ToBmc number) (all, sound) =
    let w = two words _ _ all in
    ap said (w.2 ∙ ap (λ (a : List ℕ). a ∷ w.1 ∷ []) w.3) ∙ ap ToBmc w.4.value
said_is words (ToMgr number) (all, sound) =
    let w = two words _ _ all in
    ap said (w.2 ∙ ap (λ (a : List ℕ). a ∷ w.1 ∷ []) w.3) ∙ ap ToMgr w.4.value
said_is words (OtherIpmb r) (all, sound) =
    let w = four_of words _ _ _ _ all in
    ap said w.4
    ∙ rw (w.6, byte_is w.2 r.requester.address w.7, bytes_are w.3 (bytes_of r) w.8) (ap OtherIpmb (request_is r (bytes_of r) sound))
said_is words (OtherSmbus m) (all, sound) =
    let w = four_of words _ _ _ _ all in
    ap said w.4 ∙ rw (w.6, byte_is w.2 m.from w.7, bytes_are w.3 m.body w.8) refl
said_is words (Noise on bytes) (all, sound) =
    let w = three words _ _ _ all in
    ap said w.3 ∙ rw (w.4, w.5, bytes_are w.2 bytes w.6) (ap (λ (b : Bus). Noise b bytes) (bus_is on))
said_is words (Idle on requester) (all, sound) =
    let w = three words _ _ _ all in
    ap said w.3 ∙ rw (w.4, w.5, byte_is w.2 requester w.6) (ap (λ (b : Bus). Idle b requester) (bus_is on))
said_is words (OnBench (Scan sensor reading)) (all, sound) =
    let w = three words _ _ _ all in
    ap said w.3 ∙ rw (w.4, byte_is w.1 sensor w.5, byte_is w.2 reading w.6) refl
said_is words (OnBench Tick) (all, sound) =
    let w = one words _ all in ap said (w.1 ∙ ap (λ (a : List ℕ). a ∷ []) w.2)

-- words say one event
pub one_event : (words : List (List ℕ)) (event other : Event) → AreWordsOf words event → AreWordsOf words other → event ≡ other
one_event words event other is also = sym (said_is words event is) ∙ said_is words other also

-- ---- words that say nothing

-- no event is written with another bus
pub no_bus : (name from digits : List ℕ) → ((bus : Bus) → name ≢ bus_name bus) → (event : Event) → ¬ AreWordsOf (codes "other" ∷ name ∷ from ∷ digits ∷ []) event
no_bus name from digits none (Calls call) is = absurd is.0.1
no_bus name from digits none (ToBmc number) is = absurd is.0.1.1
no_bus name from digits none (ToMgr number) is = absurd is.0.1.1
no_bus name from digits none (OtherIpmb r) is = none Ipmb is.0.1.0
no_bus name from digits none (OtherSmbus m) is = none Smbus is.0.1.0
no_bus name from digits none (Noise on bytes) is = absurd is.0.1.1.1
no_bus name from digits none (Idle on requester) is = absurd is.0.1.1.1
no_bus name from digits none (OnBench (Scan sensor reading)) is = absurd is.0.1.1.1
no_bus name from digits none (OnBench Tick) is = absurd is.0.1

-- a line has one word to four
fewest : (event : Event) → 1 ≤ length (words_for event)
fewest (OnBench Tick) = lit≤ tt
fewest _ = lit≤ tt

most : (event : Event) → length (words_for event) ≤ 4
most (OnBench Tick) = lit≤ tt
most _ = lit≤ tt

long : (texts : List (Bor (List ℕ))) (words : List Word) → AllZip SpellsWord (map (λ x. x.now) texts) words → length texts ≡ length words
long [] [] all = refl
long [] (w ∷ words) all = absurd all
long (t ∷ texts) [] all = absurd all
long (t ∷ texts) (w ∷ words) all = ap suc (long texts words all.1)

pub other_length : (texts : List (Bor (List ℕ))) → length texts < 1 ⊎ 5 ≤ length texts → (event : Event) → ¬ AreWordsOf (map (λ x. x.now) texts) event
other_length texts (inl none) event is =
    let same = long texts (words_for event) is.0 in
    let some = fewest event in
    absurd (omega (arith, none, same, some))
other_length texts (inr many) event is =
    let same = long texts (words_for event) is.0 in
    let few = most event in
    absurd (omega (arith, many, same, few))

-- a line of four words
pub four : (words : List (Bor (List ℕ))) (d : Bor (List ℕ)) → 4 ≤ length words → length words < 5
    → map (λ x. x.now) words ≡ (get_or words 0 d).now ∷ (get_or words 1 d).now ∷ (get_or words 2 d).now ∷ (get_or words 3 d).now ∷ []
four [] d least most = absurd (omega (arith, least))
four (a ∷ []) d least most = absurd (omega (arith, least))
four (a ∷ b ∷ []) d least most = absurd (omega (arith, least))
four (a ∷ b ∷ c ∷ []) d least most = absurd (omega (arith, least))
four (a ∷ b ∷ c ∷ e ∷ []) d least most = refl
four (a ∷ b ∷ c ∷ e ∷ f ∷ words) d least most = absurd (omega (arith, most))
