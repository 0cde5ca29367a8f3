-- A manager whose process ends, and another that is made of what the first wrote down: before it sent each request for the first time, and after
-- it took each reply. So it has the plan, the list, the counts, and the open request with its task and the data of the replies before it. It has
-- neither how often that was sent again, nor what waited to be joined.
use Rattle.std.specs.Prelude.{◌≡◌, Bool, true, false, Option}
use Rattle.model_undo.specs.declared.call.Call.TheVariants as manager_call
use Rattle.model_undo.specs.Words.{Words}
use Rattle.model_undo.specs.Machine.{Task, Gets, Sets, Undoes, Stage, Opened, Machine, Sending, sends_at}
use Rattle.model_undo.specs.Resume.{Called, turn_of, after, list_of}

-- a plan that has a request open is to stop; an undo goes on
abbrev pub is_to_stop : (words : Words) → Task words → Bool → Bool
is_to_stop words (Gets step op) stopped = true
is_to_stop words (Sets step op back) stopped = true
is_to_stop words (Undoes first rest) stopped = stopped

-- the open request is unsettled, as one that was sent again as often as is allowed; where none is open, nothing changes
abbrev pub restarts : (words : Words) → Stage words → Machine words → Machine words
restarts words (Opened heeded task part) machine =
    record machine { stage = Opened false task part; stopped = is_to_stop words task machine.stopped; resent = machine.retries }
restarts words _ machine = machine

abbrev pub restarted : (words : Words) → Machine words → Machine words
restarted words machine = restarts words machine.stage machine

-- ---- what is kept

module _ (words : Words) where
  -- the open request, as it would be sent
  abbrev pub open_request : Machine words → Option (Sending words)
  open_request machine = sends_at words machine.stage machine.counts

  -- The manager that is made has the same request open, under the same number, and gives the same list. `quiet`, `again` and `stop` change nothing
  -- of it, so nothing need be written down at them; and nothing need be written down as it is made.
  pub record KeepsPlace : Type 0 where
    pub same_request : (machine : Machine words) → open_request (restarted words machine) ≡ open_request machine
    pub same_list : (machine : Machine words) → list_of words (restarted words machine) ≡ list_of words machine
    pub quiet : (machine : Machine words) → restarted words (after words (turn_of words (Called manager_call.Quiet) machine) machine) ≡ restarted words machine
    pub again : (machine : Machine words) → restarted words (after words (turn_of words (Called manager_call.Again) machine) machine) ≡ restarted words machine
    pub stop : (machine : Machine words) → restarted words (after words (turn_of words (Called manager_call.Stop) machine) machine) ≡ restarted words machine
    pub twice : (machine : Machine words) → restarted words (restarted words machine) ≡ restarted words machine
