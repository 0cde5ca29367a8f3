-- A manager that goes on from a list of what undoes.
use Rattle.std.specs.Prelude.{◌≡◌, ℕ, true, List, [], ◌∷◌, length, Option, Some, None}
use Rattle.std.specs.Option.{option_map}
use Rattle.two_wire.specs.declared.Bus.{Bus}
use Rattle.two_wire.specs.declared.Bus.TheVariants.{Ipmb, Smbus}
use Rattle.model_bus.specs.Answered.{Answered}
use Rattle.model_undo.specs.declared.call.Call.TheVariants as manager_call
use Rattle.model_undo.specs.declared.call.Call.{Call}
use Rattle.model_undo.specs.Words.{Words}
use Rattle.model_undo.specs.declared.phase.Why.TheVariants.{Stop}
use Rattle.model_undo.specs.declared.phase.Phase.{Phase}
use Rattle.model_undo.specs.declared.phase.Phase.TheVariants.{Done, Halted}
use Rattle.model_undo.specs.Machine.{Counts, Machine, AtHalt, Sending, Turn, open_bus, phase_of, call_of, reply_of}
use Rattle.model_undo.specs.Wires.{number_of}

-- what is kept of a manager: what undoes each step, the last step's first, and the next sequence number and instance
pub record UndoList (words : Words) : Type 0 where
  pub series : List words.Series
  pub next : Counts

-- the list of a manager
abbrev pub list_of : (words : Words) → Machine words → UndoList words
list_of words machine = record { series = machine.undo; next = record { ipmb = number_of Ipmb machine.counts.ipmb; smbus = number_of Smbus machine.counts.smbus } }

-- the manager that goes on from it: halted after as many steps as the list undoes, as if it was to stop
abbrev pub resumed : (words : Words) → ℕ → UndoList words → Machine words
resumed words retries list = record {
  plan = [];
  retries = retries;
  stage = AtHalt (length list.series) Stop;
  stopped = true;
  resent = 0;
  undo = list.series;
  counts = list.next;
}

-- ---- what is seen of a manager

-- a call, or a reply to the open request
pub data Input : Type 0 where
  Called : (call : Call) → Input
  Replies : (answered : Answered) → Input

-- a request as it goes out: under its number
pub record NumberedRequest (words : Words) : Type 0 where
  pub bus : Bus
  pub number : ℕ
  pub asked : words.Asked

module _ (words : Words) where
  abbrev pub turn_of : Input → Machine words → Option (Turn words)
  turn_of (Called call) machine = call_of words call machine
  turn_of (Replies answered) machine = reply_of words answered machine

  -- the machine after it
  abbrev pub after : Option (Turn words) → Machine words → Machine words
  after None machine = machine
  after (Some turn) machine = turn.machine

  abbrev pub request_of : Sending words → NumberedRequest words
  request_of sending = record { bus = sending.bus; number = number_of sending.bus sending.count; asked = sending.asked }

  -- the request that goes out then
  abbrev pub goes_out : Option (Turn words) → Option (NumberedRequest words)
  goes_out None = None
  goes_out (Some turn) = option_map request_of turn.sends

  -- the phase after each call, and the request that goes out
  abbrev pub trace : List Input → Machine words → List (Phase × Option (NumberedRequest words))
  trace [] machine = []
  trace (call ∷ calls) machine = (phase_of words (after (turn_of call machine) machine), goes_out (turn_of call machine)) ∷ trace calls (after (turn_of call machine) machine)

  -- the plan ended or halted
  abbrev pub IsOver : Phase → Type 0
  IsOver Done = Unit {0}
  IsOver (Halted step why) = Unit {0}
  IsOver _ = ⊥

  -- a manager that goes on from a list is halted after as many steps as the list undoes, with no request open, and gives that list
  -- itself; from `undo` on it goes through the same phases, and sends the same requests under the same numbers, for the same calls
  pub record GoesOnAlike : Type 0 where
    pub halted : (retries : ℕ) (list : UndoList words) → phase_of words (resumed words retries list) ≡ Halted (length list.series) Stop
    pub none_open : (retries : ℕ) (list : UndoList words) → open_bus words (resumed words retries list) ≡ None
    pub same_list : (retries : ℕ) (machine : Machine words) → list_of words (resumed words retries (list_of words machine)) ≡ list_of words machine
    pub alike : (machine : Machine words) → IsOver (phase_of words machine) → (calls : List Input)
        → trace ((Called manager_call.Undo) ∷ calls) (resumed words machine.retries (list_of words machine)) ≡ trace ((Called manager_call.Undo) ∷ calls) machine
