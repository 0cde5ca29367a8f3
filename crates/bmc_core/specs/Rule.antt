-- The rule for repeated requests, over lists of what is brought to a port.
use Rattle.std.specs.Prelude.{ℕ, Bool, ◌==◌, List, [], ◌∷◌, Option}
use Rattle.std.specs.List.{list_any}
use Rattle.model_bus.specs.Request.{Entry, Idled}
use Rattle.model_bus.specs.Carried.{Heard as Brought, HeardRequest, HeardIdle, outcome, log_with, reply_after, requesters}

-- the log after a list that was brought
abbrev pub logs_with : (ℕ → ℕ → Bool) → List Brought → List Entry → List Entry
logs_with above [] log = log
logs_with above (brought ∷ broughts) log = logs_with above broughts (log_with above brought log)

-- the reply to each request of the list, none where the port is busy
abbrev pub replies : (ℕ → ℕ → Bool) → List Entry → List Brought → List (Option (List ℕ))
replies above log [] = []
replies above log (HeardRequest kept ∷ broughts) = reply_after (outcome above kept.request log) kept ∷ replies above (log_with above (HeardRequest kept) log) broughts
replies above log (HeardIdle requester ∷ broughts) = replies above (Idled requester ∷ log) broughts

-- a requester has a window
abbrev pub has_window : ℕ → List Entry → Bool
has_window requester log = list_any (λ other. other == requester) (requesters log)
