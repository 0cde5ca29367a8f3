-- Which requests a port carries out, which repeat an earlier one, which find it busy: a rule on the list of what it did.
use Rattle.std.specs.Prelude.{ℕ, Bool, true, false, ◌==◌, nat_le, not, ◌&&◌, List, [], ◌∷◌, ◌++◌, length, filter, Option, Some, None, if◌then◌else◌}
use Rattle.std.specs.List.{list_all, list_any}
use Rattle.model_bus.specs.Request.{Request, Kept, Entry, Carried, Idled, is_same, carried_since}

-- The reply of the carried request that the request repeats: the same request, above whose number stands each number that
-- was carried between. The carried ones stand newest first; `newer` are the numbers carried between.
abbrev pub kept_for : (ℕ → ℕ → Bool) → Request → List ℕ → List Kept → Option (List ℕ)
kept_for is_above request newer [] = None
kept_for is_above request newer (kept ∷ kepts) =
    if is_same request kept.request && list_all (is_above kept.request.number) newer
    then Some kept.reply
    else kept_for is_above request (kept.request.number ∷ newer) kepts

-- the requesters that had something carried out since their last idle, each once
abbrev pub requesters : List Entry → List ℕ
requesters [] = []
requesters (Carried kept ∷ log) = if list_any (λ other. other == kept.request.requester) (requesters log) then requesters log else kept.request.requester ∷ requesters log
requesters (Idled requester ∷ log) = filter (λ other. not (other == requester)) (requesters log)

-- how many requesters have a window at once
abbrev pub most_windows : ℕ
most_windows = 8

-- a requester has no window among these, and they are eight or more
abbrev pub has_no_slot : ℕ → List ℕ → Bool
has_no_slot requester slots = not (list_any (λ other. other == requester) slots) && nat_le most_windows (length slots)

-- a ninth window would be needed
abbrev pub is_busy : ℕ → List Entry → Bool
is_busy requester log = has_no_slot requester (requesters log)

-- what a port does with a request
pub data Outcome : Type 0 where
  -- it gives the reply that is kept for the repeated request
  Repeats : (reply : List ℕ) → Outcome
  -- it answers that it is busy, and changes nothing
  IsBusy : Outcome
  -- it carries the request out
  IsNew : Outcome

-- what is done, by the reply that is kept and by whether a ninth window would be needed
abbrev pub outcome_of : Option (List ℕ) → Bool → Outcome
outcome_of (Some reply) busy = Repeats reply
outcome_of None true = IsBusy
outcome_of None false = IsNew

-- the rule: a repeat first, then busy, else new
abbrev pub outcome : (ℕ → ℕ → Bool) → Request → List Entry → Outcome
outcome is_above request log = outcome_of (kept_for is_above request [] (carried_since request.requester log)) (is_busy request.requester log)

-- the log after it, where the board's answer would be the reply that is kept
abbrev pub log_after : Outcome → Kept → List Entry → List Entry
log_after (Repeats reply) kept log = log
log_after IsBusy kept log = log
log_after IsNew kept log = Carried kept ∷ log

-- the reply that goes out, none where the port is busy
abbrev pub reply_after : Outcome → Kept → Option (List ℕ)
reply_after (Repeats reply) kept = Some reply
reply_after IsBusy kept = None
reply_after IsNew kept = Some kept.reply

-- what was carried out, oldest first, after it
abbrev pub carried_after : Outcome → Kept → List Kept → List Kept
carried_after (Repeats reply) kept ks = ks
carried_after IsBusy kept ks = ks
carried_after IsNew kept ks = ks ++ kept ∷ []

-- what a port hears: a request, with the answer that the board would give now, or that a requester is idle
pub data Heard : Type 0 where
  HeardRequest : Kept → Heard
  HeardIdle : (requester : ℕ) → Heard

-- the log after one more
abbrev pub log_with : (ℕ → ℕ → Bool) → Heard → List Entry → List Entry
log_with is_above (HeardRequest kept) log = log_after (outcome is_above kept.request log) kept log
log_with is_above (HeardIdle requester) log = Idled requester ∷ log

-- what a port does with each request of a list that it hears, oldest first
abbrev pub outcomes : (ℕ → ℕ → Bool) → List Entry → List Heard → List Outcome
outcomes is_above log [] = []
outcomes is_above log (HeardRequest kept ∷ heards) = outcome is_above kept.request log ∷ outcomes is_above (log_with is_above (HeardRequest kept) log) heards
outcomes is_above log (HeardIdle requester ∷ heards) = outcomes is_above (Idled requester ∷ log) heards
