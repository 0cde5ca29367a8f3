-- A small family: numbered registers of two halves, and a board that has some of them. A Set writes the halves that it gives,
-- and is refused where the low half would be above the high one, so by what the register held before. Register 2 never shows
-- its low half, so a Set of that can't be undone. Each reply to a Get ends with the count of requests so far, which isn't
-- configuration. Even registers are reached over IPMB, odd ones over SMBus.
use Rattle.std.specs.Prelude.{◌≡◌, ℕ, zero, suc, ◌%◌, ◌≤◌, ◌<◌, Bool, ◌==◌, nat_le, nat_lt, ◌&&◌, List, [], ◌∷◌, Option, Some, None, if◌then◌else◌, slice_get, slice_set, unwrap_or, refl}
use Rattle.two_wire.specs.Codes.{success, not_present, invalid_data_field}
use Rattle.two_wire.specs.declared.Bus.TheVariants.{Ipmb, Smbus}
use Rattle.model_bus.specs.Answered.{Answered}
use Rattle.model_undo.specs.Words.{Words}
use Rattle.model_undo.specs.Family.{Family}
use Rattle.model_undo.specs.Wires.{Wires}

-- what a register holds
pub record Halves : Type 0 where
  pub low : ℕ
  pub high : ℕ

-- an operation: the halves that are written
pub record Write : Type 0 where
  pub register : ℕ
  pub low : Option ℕ
  pub high : Option ℕ

pub data Asked : Type 0 where
  AskGet : (register : ℕ) → Asked
  AskSet : (write : Write) → Asked

pub record Board : Type 0 where
  pub registers : List Halves
  pub requests : ℕ

-- the low half is at most the high one, and both are bytes
abbrev pub IsValid : Halves → Type 0
IsValid halves = (halves.low ≤ halves.high) × (halves.high < 256)

abbrev pub is_valid : Halves → Bool
is_valid halves = nat_le halves.low halves.high && nat_lt halves.high 256

-- the register with the halves written
abbrev pub written : Write → Halves → Halves
written write halves = record { low = unwrap_or write.low halves.low; high = unwrap_or write.high halves.high }

-- the data of a Get
abbrev pub shown : ℕ → Halves → ℕ → List ℕ
shown register halves requests = if register == 2 then halves.high ∷ requests ∷ [] else halves.high ∷ halves.low ∷ requests ∷ []

-- what of them is configuration
abbrev pub configuration : List ℕ → List ℕ
configuration (high ∷ requests ∷ []) = high ∷ []
configuration (high ∷ low ∷ requests ∷ []) = high ∷ low ∷ []
configuration _ = []

-- the half is written back, if it was written
abbrev pub back : Option ℕ → ℕ → Option ℕ
back None old = None
back (Some new) old = Some old

-- without the low half, only a write that leaves that is undone
abbrev pub inverse_of_high : ℕ → Option ℕ → Option ℕ → ℕ → Option Write
inverse_of_high register None high old = Some (record { register = register; low = None; high = back high old })
inverse_of_high register (Some new) high old = None

abbrev pub inverse : Write → List ℕ → Option Write
inverse write (high ∷ requests ∷ []) = inverse_of_high write.register write.low write.high high
inverse write (high ∷ low ∷ requests ∷ []) = Some (record { register = write.register; low = back write.low low; high = back write.high high })
inverse write _ = None

-- the data show each half that is written
abbrev pub IsRestorable : Write → List ℕ → Type 0
IsRestorable write (high ∷ requests ∷ []) = write.low ≡ None
IsRestorable write (high ∷ low ∷ requests ∷ []) = Unit {0}
IsRestorable write _ = ⊥

abbrev pub replied : ℕ → List ℕ → Answered
replied code body = record { code = code; body = body }

abbrev pub get_answer : ℕ → Option Halves → ℕ → Answered
get_answer register None requests = replied not_present []
get_answer register (Some halves) requests = replied success (shown register halves requests)

-- what a Set replies, and the registers after it
abbrev pub set_answer : Write → Option Halves → List Halves → Answered × List Halves
set_answer write None registers = (replied not_present [], registers)
set_answer write (Some halves) registers =
    if is_valid (written write halves) then (replied success [], slice_set registers write.register (written write halves)) else (replied invalid_data_field [], registers)

-- what the board replies to a request, and its registers after it
abbrev pub answer : Board → Asked → Answered × List Halves
answer board (AskGet register) = (get_answer register (slice_get board.registers register) board.requests, board.registers)
answer board (AskSet write) = set_answer write (slice_get board.registers write.register) board.registers

-- each request is counted
abbrev pub Row : Board → Asked → Answered → Board → Type 0
Row board asked answered after = (answered ≡ (answer board asked).0) × (after ≡ record { registers = (answer board asked).1; requests = suc board.requests })

abbrev pub register_of : Asked → ℕ
register_of (AskGet register) = register
register_of (AskSet write) = write.register

-- what a manager says of them
abbrev pub register_words : Words
register_words = record {
  Key = ℕ;
  Op = Write;
  key_of = λ write. write.register;
  Asked = Asked;
  bus_of = λ asked. if register_of asked % 2 == 0 then Ipmb else Smbus;
  Series = Asked;
  getting = AskGet;
  setting = AskSet;
  first = λ series. series;
  next = λ series bodies. None;
  joined = λ series bodies. unwrap_or (slice_get bodies 0) [];
  inverse = inverse;
}

abbrev pub registers : Family
registers = record {
  words = register_words;
  Value = Halves;
  Records = List Halves;
  get = slice_get;
  put = slice_set;
  Valid = λ register halves. IsValid halves;
  Sets = λ write old new. (new ≡ written write old) × IsValid new;
  Shows = λ register halves body. (requests : ℕ) × (body ≡ shown register halves requests);
  conf = λ register body. configuration body;
  Restorable = IsRestorable;
  Board = Board;
  records = λ board. board.registers;
  Ready = λ board series bodies. Unit {0};
  IsGet = λ asked register. asked ≡ AskGet register;
  Row = Row;
}

-- ---- the bytes: the number first, then 0 for a Get or 1 for a Set

abbrev pub given : Option ℕ → ℕ
given None = 0
given (Some half) = 1

abbrev pub bytes_of : ℕ → Asked → List ℕ
bytes_of number (AskGet register) = number ∷ 0 ∷ register ∷ []
bytes_of number (AskSet write) = number ∷ 1 ∷ write.register ∷ given write.low ∷ unwrap_or write.low 0 ∷ given write.high ∷ unwrap_or write.high 0 ∷ []

abbrev pub if_given : ℕ → ℕ → Option ℕ
if_given zero half = None
if_given (suc count) half = Some half

abbrev pub asked_from : List ℕ → Asked
asked_from (number ∷ zero ∷ register ∷ []) = AskGet register
asked_from (number ∷ suc count ∷ register ∷ has_low ∷ low ∷ has_high ∷ high ∷ []) = AskSet (record { register = register; low = if_given has_low low; high = if_given has_high high })
asked_from _ = AskGet 0

abbrev pub number_in : List ℕ → ℕ
number_in [] = 0
number_in (number ∷ bytes) = number

abbrev pub answered_from : List ℕ → Answered
answered_from (number ∷ code ∷ body) = replied code body
answered_from _ = replied 0 []

read_half : (half : Option ℕ) → if_given (given half) (unwrap_or half 0) ≡ half
read_half None = refl
read_half (Some half) = refl

-- what was written is read
pub read_back : (number : ℕ) (asked : Asked) → asked_from (bytes_of number asked) ≡ asked
read_back number (AskGet register) = refl
read_back number (AskSet write) = λ i. AskSet (record { register = write.register; low = read_half write.low i; high = read_half write.high i })

abbrev pub wires : Wires register_words
wires = record {
  bytes_of = bytes_of;
  asked_from = λ bus. asked_from;
  reply_to = λ bus bytes answered. number_in bytes ∷ answered.code ∷ answered.body;
  answered_from = λ bus. answered_from;
  same = λ number asked made. read_back number asked;
  same_reply = λ bus bytes answered. refl;
}
