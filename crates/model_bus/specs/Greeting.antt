-- The greeting: requests of a manager after which the rule says of all that comes later what it says where what the manager had
-- carried out before was forgotten.
use Rattle.std.specs.Prelude.{◌≡◌, ◌≢◌, ℕ, ◌+◌, ◌-◌, ◌/◌, ◌<◌, Bool, false, List, [], ◌∷◌, ◌⊎◌}
use Rattle.model_bus.specs.Request.{Request, Kept, Entry, Carried, Idled, carried_since}
use Rattle.model_bus.specs.Carried.{Repeats, IsBusy, IsNew, outcome, Heard, HeardRequest, HeardIdle, log_with, outcomes}
use Rattle.model_bus.specs.Start.{IsFresh, FreshWindow}
use Rattle.model_bus.specs.Numbering.{Rules, is_above}
use Rattle.model_bus.specs.BusState.{request_of}

-- The manager's request under the number of the request of this place. A greeting has that of place circle / 2 - 1 and of place
-- circle - 1: where the manager's requests count from 0, numbers 31 and 63 on IPMB, and 15 and 31 for PLDM. Or it is one request,
-- under the number of place circle / 2: 32, and 16.
abbrev pub greeting : Rules → (place : ℕ) → (bytes answer : List ℕ) → Kept
greeting rules place bytes answer = record { request = request_of rules place bytes; reply = answer }

-- the port doesn't hear this request; whatever else it hears, and who is forgotten, is left open
abbrev pub HearsNot : Request → List Heard → Type 0
HearsNot request [] = Unit {0}
HearsNot request (HeardRequest kept ∷ heards) = (kept.request ≢ request) × HearsNot request heards
HearsNot request (HeardIdle requester ∷ heards) = HearsNot request heards

-- the log after a list that the port hears, oldest first
abbrev pub log_with_all : (ℕ → ℕ → Bool) → List Heard → List Entry → List Entry
log_with_all is_above [] log = log
log_with_all is_above (heard ∷ heards) log = log_with_all is_above heards (log_with is_above heard log)

-- The manager greets a port that did anything before: the first greeting comes and isn't told that the port is busy; then the second
-- one comes, for the first time since, and isn't told so either. Between the two the port may hear anything else, from anybody.
pub record GreetsPort (rules : Rules) (first second : Kept) (before : List Entry) (between : List Heard) : Type 0 where
  pub first_heard : outcome rules.is_above first.request before ≢ IsBusy
  pub between_them : HearsNot second.request between
  pub second_heard : outcome rules.is_above second.request (log_with_all rules.is_above (HeardRequest first ∷ between) before) ≢ IsBusy

-- the manager's next request, where so many came since
abbrev pub IsNext : Rules → ℕ → Request → Type 0
IsNext rules count request = (request.requester ≡ rules.manager) × (request.number ≡ rules.number_of count)

-- somebody else's request, or a copy of one of the manager's that came since, or one whose number the greeting's isn't above, as a
-- copy of a greeting
abbrev pub IsPast : Rules → (greeted count : ℕ) → Request → Type 0
IsPast rules greeted count request =
    request.requester ≡ rules.manager
    → ((place : ℕ) × (place < count) × (request.number ≡ rules.number_of place)) ⊎ (rules.is_above request.number greeted ≡ false)

-- The manager's requests come in turn, each as often as it likes, with whatever bytes, so that none comes before each earlier one
-- came. Who else asks, and who is forgotten, is left open.
abbrev pub InTurn : Rules → (greeted count : ℕ) → List Heard → Type 0
InTurn rules greeted count [] = Unit {0}
InTurn rules greeted count (HeardRequest kept ∷ heards) =
    (IsNext rules count kept.request × InTurn rules greeted (count + 1) heards) ⊎ (IsPast rules greeted count kept.request × InTurn rules greeted count heards)
InTurn rules greeted count (HeardIdle requester ∷ heards) = InTurn rules greeted count heards

-- it is no request of the manager, or has a number that is neither that of the manager's first request nor above it
abbrev pub IsAside : Rules → Heard → Type 0
IsAside rules (HeardRequest kept) = kept.request.requester ≡ rules.manager → (kept.request.number ≢ rules.number_of 0) × (rules.is_above (rules.number_of 0) kept.request.number ≡ false)
IsAside rules (HeardIdle requester) = Unit {0}

abbrev pub AllAside : Rules → List Heard → Type 0
AllAside rules [] = Unit {0}
AllAside rules (heard ∷ heards) = IsAside rules heard × AllAside rules heards

pub record GreetingForgets (circle : ℕ) (rules : Rules) : Type 0 where
  -- whatever the port did before, the second of two greetings is carried out
  pub carried : (one two answer reply : List ℕ) (before : List Entry) (between : List Heard)
      → let first = greeting rules (circle / 2 - 1) one answer in let second = greeting rules (circle - 1) two reply in
      GreetsPort rules first second before between
      → outcome rules.is_above second.request (log_with_all rules.is_above (HeardRequest first ∷ between) before) ≡ IsNew
  -- so the manager's window is fresh then
  pub two_freshen : (one two answer reply : List ℕ) (before : List Entry) (between : List Heard)
      → let first = greeting rules (circle / 2 - 1) one answer in let second = greeting rules (circle - 1) two reply in
      GreetsPort rules first second before between
      → FreshWindow rules (log_with rules.is_above (HeardRequest second) (log_with_all rules.is_above (HeardRequest first ∷ between) before))
  -- and it is after one greeting of the other number, carried out or repeated
  pub one_freshens : (bytes answer : List ℕ) (before : List Entry)
      → let only = greeting rules (circle / 2) bytes answer in
      outcome rules.is_above only.request before ≢ IsBusy
      → FreshWindow rules (log_with rules.is_above (HeardRequest only) before)
  -- it stays so whatever others ask, whoever is forgotten, and whatever the manager asks under a number that is neither that of its
  -- first request nor above it, as one greeting behind another
  pub stays : (heard : Heard) (log : List Entry) → IsAside rules heard → FreshWindow rules log → FreshWindow rules (log_with rules.is_above heard log)
  -- so it is after the one greeting and any of these
  pub greeted : (bytes answer : List ℕ) (before : List Entry) (later : List Heard)
      → let only = greeting rules (circle / 2) bytes answer in
      outcome rules.is_above only.request before ≢ IsBusy → AllAside rules later
      → FreshWindow rules (log_with_all rules.is_above (HeardRequest only ∷ later) before)
  -- Where the window is fresh, the port does with each request of every list what it would do had it forgotten all that it carried
  -- out for the manager but the newest.
  pub forgets : (newest : Kept) (older : List Kept) (log : List Entry) (later : List Heard)
      → carried_since rules.manager log ≡ newest ∷ older → IsFresh rules (newest ∷ older) → InTurn rules newest.request.number 0 later
      → outcomes rules.is_above log later ≡ outcomes rules.is_above (Carried newest ∷ Idled rules.manager ∷ log) later

-- what a manager asks, and what the board would answer
abbrev pub asks : (number byte answer : ℕ) → Heard
asks number byte answer = HeardRequest (record { request = record { requester = 44; number = number; bytes = byte ∷ [] }; reply = answer ∷ [] })

-- Twice one greeting and then request 0. The second time both are told the old reply, where the greeting has the number 63, or 31.
abbrev pub OneIsNotEnough : Type 0
OneIsNotEnough =
    (outcomes (is_above 64) [] (asks 63 9 10 ∷ asks 0 7 11 ∷ asks 63 9 12 ∷ asks 0 7 13 ∷ []) ≡ IsNew ∷ IsNew ∷ Repeats (10 ∷ []) ∷ Repeats (11 ∷ []) ∷ [])
    × (outcomes (is_above 32) [] (asks 31 9 10 ∷ asks 0 7 11 ∷ asks 31 9 12 ∷ asks 0 7 13 ∷ []) ≡ IsNew ∷ IsNew ∷ Repeats (10 ∷ []) ∷ Repeats (11 ∷ []) ∷ [])

-- With both, request 0 is carried out each time: after a whole greeting, and after one that ended with its first request, which
-- then is a repeat.
abbrev pub BothAreEnough : Type 0
BothAreEnough =
    (outcomes (is_above 64) [] (asks 31 8 1 ∷ asks 63 9 2 ∷ asks 0 7 3 ∷ asks 31 8 4 ∷ asks 63 9 5 ∷ asks 0 7 6 ∷ asks 31 8 7 ∷ asks 31 8 8 ∷ asks 63 9 9 ∷ asks 0 7 10 ∷ [])
    ≡ IsNew ∷ IsNew ∷ IsNew ∷ IsNew ∷ IsNew ∷ IsNew ∷ IsNew ∷ Repeats (7 ∷ []) ∷ IsNew ∷ IsNew ∷ [])
    × (outcomes (is_above 32) [] (asks 15 8 1 ∷ asks 31 9 2 ∷ asks 0 7 3 ∷ asks 15 8 4 ∷ asks 31 9 5 ∷ asks 0 7 6 ∷ asks 15 8 7 ∷ asks 15 8 8 ∷ asks 31 9 9 ∷ asks 0 7 10 ∷ [])
    ≡ IsNew ∷ IsNew ∷ IsNew ∷ IsNew ∷ IsNew ∷ IsNew ∷ IsNew ∷ Repeats (7 ∷ []) ∷ IsNew ∷ IsNew ∷ [])

-- One under the number 32, or 16, is enough, carried out or repeated. But a late copy of it, behind request 0, makes the port forget
-- request 0, which then is carried out a second time. A late copy of each of the two greetings does no harm there, unless both come.
abbrev pub HalfIsEnough : Type 0
HalfIsEnough =
    (outcomes (is_above 64) [] (asks 32 9 1 ∷ asks 32 9 2 ∷ asks 0 7 3 ∷ asks 32 9 4 ∷ asks 0 7 5 ∷ []) ≡ IsNew ∷ Repeats (1 ∷ []) ∷ IsNew ∷ IsNew ∷ IsNew ∷ [])
    × (outcomes (is_above 64) [] (asks 31 8 1 ∷ asks 63 9 2 ∷ asks 0 7 3 ∷ asks 31 8 4 ∷ asks 0 7 5 ∷ []) ≡ IsNew ∷ IsNew ∷ IsNew ∷ IsNew ∷ Repeats (3 ∷ []) ∷ [])
    × (outcomes (is_above 64) [] (asks 31 8 1 ∷ asks 63 9 2 ∷ asks 0 7 3 ∷ asks 63 9 4 ∷ asks 0 7 5 ∷ []) ≡ IsNew ∷ IsNew ∷ IsNew ∷ Repeats (2 ∷ []) ∷ Repeats (3 ∷ []) ∷ [])
    × (outcomes (is_above 64) [] (asks 31 8 1 ∷ asks 63 9 2 ∷ asks 0 7 3 ∷ asks 31 8 4 ∷ asks 63 9 5 ∷ asks 0 7 6 ∷ []) ≡ IsNew ∷ IsNew ∷ IsNew ∷ IsNew ∷ IsNew ∷ IsNew ∷ [])
