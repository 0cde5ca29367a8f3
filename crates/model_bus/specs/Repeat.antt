-- The rule for repeats as a sentence, and what busy means.
use Rattle.std.specs.Prelude.{◌≡◌, ◌≢◌, ℕ, ◌≤◌, ◌↔◌, Bool, true, List, [], ◌∷◌, ◌++◌, length, ◌⊎◌}
use Rattle.model_bus.specs.Request.{Request, Kept, Entry, Carried, Idled, carried_since}
use Rattle.model_bus.specs.Carried.{Repeats, IsBusy, IsNew, outcome, requesters, most_windows, Heard, log_with}
use Rattle.model_bus.specs.Numbering.{is_above}

-- a value is in a list
abbrev pub In : {X : Type 0} → X → List X → Type 0
In x [] = ⊥
In x (y ∷ ys) = (y ≡ x) ⊎ In x ys

-- between a request and its repeat: no idle of the requester, and each request of it that was carried has a number above
abbrev pub MayStandBetween : (ℕ → ℕ → Bool) → Request → Entry → Type 0
MayStandBetween is_above request (Carried kept) = kept.request.requester ≡ request.requester → is_above request.number kept.request.number ≡ true
MayStandBetween is_above request (Idled requester) = requester ≢ request.requester

-- so it is with all entries between
abbrev pub AllBetween : (ℕ → ℕ → Bool) → Request → List Entry → Type 0
AllBetween is_above request [] = Unit {0}
AllBetween is_above request (entry ∷ entries) = MayStandBetween is_above request entry × AllBetween is_above request entries

-- the request repeats one that was carried out
pub record IsRepeat (is_above : ℕ → ℕ → Bool) (request : Request) (log : List Entry) (reply : List ℕ) : Type 0 where
  pub newer : List Entry
  pub kept : Kept
  pub older : List Entry
  pub whole : log ≡ newer ++ Carried kept ∷ older
  pub same : request ≡ kept.request
  pub between : AllBetween is_above request newer
  pub replied : kept.reply ≡ reply

-- no two members of a list are equal
abbrev pub AllDifferent : List ℕ → Type 0
AllDifferent [] = Unit {0}
AllDifferent (requester ∷ requesters) = (¬ (In requester requesters)) × AllDifferent requesters

-- the requester has carried nothing since its last idle, and eight or more have
pub record NeedsNinth (requester : ℕ) (log : List Entry) : Type 0 where
  pub nothing : carried_since requester log ≡ []
  pub full : most_windows ≤ length (requesters log)

-- the port gives a repeat the reply that it keeps; it is busy for a request that repeats none and needs a ninth window; any other request is new
pub record RuleIsSentence (is_above : ℕ → ℕ → Bool) : Type 0 where
  pub repeats : (request : Request) (log : List Entry) (reply : List ℕ) → (outcome is_above request log ≡ Repeats reply) ↔ IsRepeat is_above request log reply
  pub busy : (request : Request) (log : List Entry) → (outcome is_above request log ≡ IsBusy) ↔ (((reply : List ℕ) → ¬ (IsRepeat is_above request log reply)) × NeedsNinth request.requester log)
  pub new : (request : Request) (log : List Entry) → (outcome is_above request log ≡ IsNew) ↔ (((reply : List ℕ) → ¬ (IsRepeat is_above request log reply)) × (¬ (NeedsNinth request.requester log)))

-- the requesters of a log are those that had something carried out since their last idle, each once
abbrev pub RequestersOf : List Entry → Type 0
RequestersOf log = AllDifferent (requesters log) × ((requester : ℕ) → In requester (requesters log) ↔ (carried_since requester log ≢ []))

-- the rule never lets in more than eight requesters at a time
abbrev pub EightSuffice : (ℕ → ℕ → Bool) → Type 0
EightSuffice is_above = (heard : Heard) (log : List Entry) → length (requesters log) ≤ most_windows → length (requesters (log_with is_above heard log)) ≤ most_windows
