-- A family whose Gets and Sets are two requests each: a record of two bytes, a low and a high limit, that is got, and set, a byte at a time. The
-- board stages the low byte of a Set until the high one comes.
use Rattle.std.specs.Prelude.{◌≡◌, ℕ, zero, suc, ◌≤◌, ◌<◌, nat_le, nat_lt, List, [], ◌∷◌, ◌++◌, Option, Some, None, if◌then◌else◌, refl}
use Rattle.two_wire.specs.Codes.{success, invalid_data_field}
use Rattle.two_wire.specs.declared.Bus.TheVariants.{Ipmb}
use Rattle.model_bus.specs.Answered.{Answered}
use Rattle.model_undo.specs.declared.call.Call.TheVariants as manager_call
use Rattle.model_undo.specs.Words.{Words}
use Rattle.model_undo.specs.Family.{Family}
use Rattle.model_undo.specs.Wires.{Wires}
use Rattle.model_undo.specs.declared.phase.Why.TheVariants.{Stop, Refused, NotRestorable}
use Rattle.model_undo.specs.declared.phase.Phase.{Phase}
use Rattle.model_undo.specs.declared.phase.Phase.TheVariants.{Getting, Setting, Done, Halted, Undoing, Undone}
use Rattle.model_undo.specs.Machine.{Machine, opened}
use Rattle.model_undo.specs.Resume.{Input, Called, Replies, NumberedRequest, trace}
use Rattle.model_undo.specs.Restart.{restarted}
use Rattle.model_undo.specs.Unsettled.{run}

-- an operation gives both bytes
pub record Pair : Type 0 where
  pub low : ℕ
  pub high : ℕ

pub data Asked : Type 0 where
  GetLow : Asked
  GetHigh : Asked
  SetLow : (byte : ℕ) → Asked
  SetHigh : (byte : ℕ) → Asked
  -- a Get of both bytes at once, which others ask
  GetAll : Asked

-- both bytes are got, or set
pub data Both : Type 0 where
  GetBoth : Both
  SetBoth : (pair : Pair) → Both

abbrev pub first : Both → Asked
first GetBoth = GetLow
first (SetBoth pair) = SetLow pair.low

-- the second request comes after the first reply; a Get stops where that has no byte
abbrev pub next : Both → List (List ℕ) → Option Asked
next GetBoth ((byte ∷ rest) ∷ []) = Some GetHigh
next (SetBoth pair) (body ∷ []) = Some (SetHigh pair.high)
next _ _ = None

abbrev pub joined : Both → List (List ℕ) → List ℕ
joined both [] = []
joined both (body ∷ bodies) = body ++ joined both bodies

abbrev pub inverse : Pair → List ℕ → Option Pair
inverse pair (low ∷ high ∷ []) = Some (record { low = low; high = high })
inverse pair _ = None

abbrev pub pairs : Words
pairs = record {
  Key = Unit {0};
  Op = Pair;
  key_of = λ pair. tt;
  Asked = Asked;
  bus_of = λ asked. Ipmb;
  Series = Both;
  getting = λ key. GetBoth;
  setting = SetBoth;
  first = first;
  next = next;
  joined = joined;
  inverse = inverse;
}

-- ---- the board

pub record Board : Type 0 where
  -- the record
  pub pair : Pair
  -- the low byte that the manager has staged
  pub staged : Option ℕ
  -- how many others have something staged, in places of their own: there are eight
  pub others : ℕ

-- the low byte isn't above the high one
abbrev pub IsValid : Pair → Type 0
IsValid pair = pair.low ≤ pair.high

abbrev pub replied : ℕ → List ℕ → Answered
replied code body = record { code = code; body = body }

-- a low byte is staged, in place of another, unless eight others have something staged
abbrev pub low_answer : ℕ → Board → Answered × Board
low_answer low board = if nat_lt board.others 8 then (replied success [], record board { staged = Some low }) else (replied invalid_data_field [], board)

-- behind a staged low byte a high one ends the staging and sets both, unless the low one is above it; a refusal changes nothing
abbrev pub high_answer : Option ℕ → ℕ → Board → Answered × Board
high_answer None high board = (replied invalid_data_field [], board)
high_answer (Some low) high board =
    if nat_le low high then (replied success [], record board { pair = record { low = low; high = high }; staged = None }) else (replied invalid_data_field [], board)

abbrev pub answer : Board → Asked → Answered × Board
answer board GetLow = (replied success (board.pair.low ∷ []), board)
answer board GetHigh = (replied success (board.pair.high ∷ []), board)
answer board GetAll = (replied success (board.pair.low ∷ board.pair.high ∷ []), board)
answer board (SetLow low) = low_answer low board
answer board (SetHigh high) = high_answer board.staged high board

abbrev pub Row : Board → Asked → Answered → Board → Type 0
Row board asked answered after = (answered ≡ (answer board asked).0) × (after ≡ (answer board asked).1)

-- there is a place for a low byte; behind one that was staged its Set goes on
abbrev pub Ready : Board → Both → List (List ℕ) → Type 0
Ready board both [] = board.others < 8
Ready board (SetBoth pair) (body ∷ []) = board.staged ≡ Some pair.low
Ready board both _ = Unit {0}

abbrev pub IsRestorable : Pair → List ℕ → Type 0
IsRestorable pair (low ∷ high ∷ []) = Unit {0}
IsRestorable pair _ = ⊥

abbrev pub pair_family : Family
pair_family = record {
  words = pairs;
  Value = Pair;
  Records = Pair;
  get = λ pair key. Some pair;
  put = λ pair key next. next;
  Valid = λ key pair. IsValid pair;
  Sets = λ op old new. (new ≡ op) × IsValid op;
  Shows = λ key pair body. body ≡ pair.low ∷ pair.high ∷ [];
  conf = λ key body. body;
  Restorable = IsRestorable;
  Board = Board;
  records = λ board. board.pair;
  Ready = Ready;
  IsGet = λ asked key. asked ≡ GetAll;
  Row = Row;
}

-- ---- the bytes: the number, which request it is, and its byte

abbrev pub bytes_of : ℕ → Asked → List ℕ
bytes_of number GetLow = number ∷ 0 ∷ 0 ∷ []
bytes_of number GetHigh = number ∷ 1 ∷ 0 ∷ []
bytes_of number GetAll = number ∷ 2 ∷ 0 ∷ []
bytes_of number (SetLow byte) = number ∷ 3 ∷ byte ∷ []
bytes_of number (SetHigh byte) = number ∷ 4 ∷ byte ∷ []

abbrev pub asked_as : ℕ → ℕ → Asked
asked_as zero byte = GetLow
asked_as (suc zero) byte = GetHigh
asked_as (suc (suc zero)) byte = GetAll
asked_as (suc (suc (suc zero))) byte = SetLow byte
asked_as (suc (suc (suc (suc kind)))) byte = SetHigh byte

abbrev pub asked_from : List ℕ → Asked
asked_from (number ∷ kind ∷ byte ∷ []) = asked_as kind byte
asked_from _ = GetAll

abbrev pub number_in : List ℕ → ℕ
number_in [] = 0
number_in (number ∷ bytes) = number

abbrev pub answered_from : List ℕ → Answered
answered_from (number ∷ code ∷ body) = replied code body
answered_from _ = replied 0 []

-- what was written is read
pub read_back : (number : ℕ) (asked : Asked) → asked_from (bytes_of number asked) ≡ asked
read_back number GetLow = refl
read_back number GetHigh = refl
read_back number GetAll = refl
read_back number (SetLow byte) = refl
read_back number (SetHigh byte) = refl

abbrev pub pair_wires : Wires pairs
pair_wires = record {
  bytes_of = bytes_of;
  asked_from = λ bus. asked_from;
  reply_to = λ bus bytes a. number_in bytes ∷ a.code ∷ a.body;
  answered_from = λ bus. answered_from;
  same = λ number asked made. read_back number asked;
  same_reply = λ bus bytes a. refl;
}

-- ---- what the machine sends

-- a request goes out under the number
abbrev pub sent : ℕ → Asked → Option (NumberedRequest pairs)
sent number asked = Some (record { bus = Ipmb; number = number; asked = asked })

-- a request is carried out, and shows these data; or it is refused
abbrev pub done : List ℕ → Input
done body = Replies (record { code = success; body = body })

abbrev pub refused : Input
refused = Replies (record { code = invalid_data_field; body = [] })

-- the bytes are to become 1 and 2; they are 7 and 9
abbrev pub begun : Machine pairs
begun = opened pairs (record { low = 1; high = 2 } ∷ []) 0

abbrev pub Seen : Type 0
Seen = List (Phase × Option (NumberedRequest pairs))

abbrev pub seen : List Input → Seen
seen calls = trace pairs calls begun

-- the same from the manager that is made again after some calls
abbrev pub seen_again : List Input → List Input → Seen
seen_again before calls = trace pairs calls (restarted pairs (run pairs before begun))

-- the Get, and its two replies
abbrev pub getting : List Input
getting = (Called manager_call.Start) ∷ done (7 ∷ []) ∷ done (9 ∷ []) ∷ []

abbrev pub got : Seen
got = (Getting 0, sent 0 GetLow) ∷ (Getting 0, sent 1 GetHigh) ∷ (Setting 0, sent 2 (SetLow 1)) ∷ []

pub record GoesOver : Type 0 where
  -- A phase lasts until the last request of its task is answered. The undo is made from both replies to the Get.
  pub undone : seen (getting ++ done [] ∷ done [] ∷ (Called manager_call.Undo) ∷ done [] ∷ done [] ∷ [])
      ≡ got ++ (Setting 0, sent 3 (SetHigh 2)) ∷ (Done, None) ∷ (Undoing 0, sent 4 (SetLow 7)) ∷ (Undoing 0, sent 5 (SetHigh 9)) ∷ (Undone, None) ∷ []
  -- a stop halts the plan at the next reply to a Get, and a Set only after its last
  pub stopped_get : seen ((Called manager_call.Start) ∷ (Called manager_call.Stop) ∷ done (7 ∷ []) ∷ []) ≡ (Getting 0, sent 0 GetLow) ∷ (Getting 0, None) ∷ (Halted 0 Stop, None) ∷ []
  pub stopped_set : seen (getting ++ (Called manager_call.Stop) ∷ done [] ∷ done [] ∷ []) ≡ got ++ (Setting 0, None) ∷ (Setting 0, sent 3 (SetHigh 2)) ∷ (Done, None) ∷ []
  -- A restart between the requests of a Set: that goes on to its last, since what was answered is kept. Between those of an undo likewise.
  pub restarted_set : seen_again (getting ++ done [] ∷ []) ((Called manager_call.Again) ∷ done [] ∷ []) ≡ (Setting 0, sent 3 (SetHigh 2)) ∷ (Done, None) ∷ []
  pub restarted_undo : seen_again (getting ++ done [] ∷ done [] ∷ (Called manager_call.Undo) ∷ done [] ∷ []) ((Called manager_call.Again) ∷ done [] ∷ [])
      ≡ (Undoing 0, sent 5 (SetHigh 9)) ∷ (Undone, None) ∷ []
  -- a refusal of the second request is one of the Set, and no undo is kept
  pub refused_late : seen (getting ++ done [] ∷ refused ∷ (Called manager_call.Undo) ∷ [])
      ≡ got ++ (Setting 0, sent 3 (SetHigh 2)) ∷ (Halted 0 (Refused invalid_data_field), None) ∷ (Undone, None) ∷ []
  -- a reply without a byte ends the Get, which can't be undone
  pub too_short : seen ((Called manager_call.Start) ∷ done [] ∷ []) ≡ (Getting 0, sent 0 GetLow) ∷ (Halted 0 NotRestorable, None) ∷ []
