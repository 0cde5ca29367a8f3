-- Words say one event at most: the one that they are read as.
use Rattle.std.proofs.Common.{◌≡◌, ◌≤◌, ◌-◌, ◌∷◌, [], List, ℕ, map, length, slice_index, take, drop, get_or, Result, Ok, Err, refl, sym, ◌∙◌, ap, subst, arith}
use Rattle.std.proofs.lemmas.List.{take_all}
use Rattle.std.specs.Borrow.{Bor}
use Rattle.std.specs.Str.Parse.{digits_value}
use Rattle.hex.specs.Hex.{decode_of}
use Rattle.hex.specs.declared.error.FromHexError.{FromHexError}
use Rattle.bmc_board.specs.declared.bench.Bench.{Bench}
use Rattle.bmc_board.specs.declared.bench.Bench.TheVariants.{Reading, Tick, Chassis}
use Rattle.bmc_ports.specs.declared.timetable.Timed.{Timed}
use Rattle.app_serve.specs.ReadingsLine.{AreWordsOf, SayTimed}

-- ---- what words are read as

abbrev bytes_in : Result (List ℕ) FromHexError → List ℕ
bytes_in (Ok bytes) = bytes
bytes_in (Err e) = []

abbrev byte_said : List ℕ → ℕ
byte_said digits = slice_index (bytes_in (decode_of digits)) 0

abbrev said : List (List ℕ) → Bench
said (word ∷ digits ∷ []) = Chassis (byte_said digits)
said (word ∷ first ∷ second ∷ []) = Reading (byte_said first) (byte_said second)
said _ = Tick

abbrev timed_said : List (List ℕ) → Timed
timed_said [] = record { at_ms = 0; event = Tick }
timed_said (time ∷ what) = record { at_ms = digits_value 10 time; event = said what }

-- ---- what they say is that

byte_is : (digits : List ℕ) (byte : ℕ) → decode_of digits ≡ Ok (byte ∷ []) → byte_said digits ≡ byte
byte_is digits byte is = ap (λ r. slice_index (bytes_in r) 0) is

said_is : (words : List (List ℕ)) (event : Bench) → AreWordsOf words event → said words ≡ event
said_is words (Reading sensor raw) (first, second, are, one, two) = ap said are ∙ rw (byte_is first sensor one, byte_is second raw two) refl
said_is words Tick is = ap said is
said_is words (Chassis state) (digits, are, is, few) = ap said are ∙ ap Chassis (byte_is digits state is)

timed_is : (words : List (List ℕ)) (timed : Timed) → SayTimed words timed → timed_said words ≡ timed
timed_is words timed (time, what, are, at, is) = ap timed_said are ∙ rw (at.value, said_is what timed.event is) refl

-- words say one event, at one time
pub one_timed : (words : List (List ℕ)) (timed other : Timed) → SayTimed words timed → SayTimed words other → timed ≡ other
one_timed words timed other is also = sym (timed_is words timed is) ∙ timed_is words other also

-- ---- words behind the first

pub cut : (words : List (Bor (List ℕ))) (d : Bor (List ℕ)) → 1 ≤ length words
    → map (λ x. x.now) words ≡ (get_or words 0 d).now ∷ map (λ x. x.now) (take (length words - 1) (drop 1 words))
cut [] d some = absurd (omega (arith, some))
cut (word ∷ words) d some = ap (λ (l : List (Bor (List ℕ))). word.now ∷ map (λ x. x.now) l) (sym (take_all (length (word ∷ words) - 1) words (omega arith)))

-- words of which those behind the first say nothing say no event
pub nothing : (words : List (List ℕ)) (first : List ℕ) (rest : List (List ℕ)) → words ≡ first ∷ rest → ((event : Bench) → ¬ AreWordsOf rest event) → (timed : Timed) → ¬ SayTimed words timed
nothing words first rest are none timed (time, what, also, at, is) =
    let same : what ≡ rest = cc (are, also) in
    none timed.event (subst (λ w. AreWordsOf w timed.event) same is)
