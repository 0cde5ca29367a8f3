-- A manager, a board, and two buses between them: what can happen, and what is asked of it.
use Rattle.std.specs.Prelude.{◌≡◌, ℕ, Bool, true, false, List, [], ◌∷◌, Option, Some, None}
use Rattle.two_wire.specs.declared.Bus.{Bus}
use Rattle.two_wire.specs.declared.Bus.TheVariants.{Ipmb, Smbus}
use Rattle.model_bus.specs.Answered.{Answered}
use Rattle.model_undo.specs.declared.call.Call.{Call}
use Rattle.model_undo.specs.declared.call.Call.TheVariants.{Start, Quiet, Stop, Again, Undo}
use Rattle.model_undo.specs.Family.{Family, KeepsRecords}
use Rattle.model_undo.specs.Machine.{Stage, Opened, AtEnd, AtHalt, Machine, Sending, Turn, bus_at, start_of, quiet_of, stop_of, again_of, undo_of, reply_of, opened, same_bus}
use Rattle.model_undo.specs.Resume.{list_of, resumed}
use Rattle.model_undo.specs.Restart.{restarted}
use Rattle.model_undo.specs.Wires.{number_of, Wires}
use Rattle.model_undo.specs.Line.{Exchange, Line}

-- both buses
abbrev pub States : (Bus → Line) → Type 0
States lines = (bus : Bus) → (lines bus).State

-- the buses with one of them changed
abbrev pub update : (lines : Bus → Line) (bus : Bus) → (lines bus).State → States lines → States lines
update lines Ipmb state on Ipmb = state
update lines Ipmb state on Smbus = on Smbus
update lines Smbus state on Ipmb = on Ipmb
update lines Smbus state on Smbus = state

pub record World (family : Family) (lines : Bus → Line) : Type 0 where
  pub machine : Machine family.words
  pub on : States lines
  pub board : family.Board

-- what can happen; a schedule is a list of these
pub data Happening (family : Family) (lines : Bus → Line) : Type 0 where
  -- the manager is called; a call that isn't for its phase changes nothing
  Calls : (call : Call) → Happening family lines
  -- another manager goes on from the list of this one, where it ended or halted
  Resume : (retries : ℕ) → Happening family lines
  -- the manager's process ends, at any moment, and it is made again of what it wrote down
  Restart : Happening family lines
  -- something comes to the manager on a bus
  ToManager : (bus : Bus) (event : (lines bus).Event) → Happening family lines
  -- anything else happens on a bus, and leaves the board so
  OnBus : (bus : Bus) (event : (lines bus).Event) (after : family.Board) → Happening family lines
  -- the board becomes another by itself
  OnBench : (after : family.Board) → Happening family lines

module _ (family : Family) (lines : Bus → Line) (wires : Wires family.words) where
  -- the bytes of a request that is sent
  abbrev pub bytes_sent : Sending family.words → List ℕ
  bytes_sent sending = wires.bytes_of (number_of sending.bus sending.count) sending.asked

  -- a request is begun, if one is sent
  abbrev pub begins : Option (Sending family.words) → States lines → States lines
  begins None on = on
  begins (Some sending) on = update lines sending.bus ((lines sending.bus).happens (on sending.bus) ((lines sending.bus).begins (bytes_sent sending))) on

  -- the open request is sent again, if one is sent
  abbrev pub sends_again : Option (Sending family.words) → States lines → States lines
  sends_again None on = on
  sends_again (Some sending) on = update lines sending.bus ((lines sending.bus).happens (on sending.bus) (lines sending.bus).sends_again) on

  -- a call that may open a request
  abbrev pub opens : Option (Turn family.words) → World family lines → World family lines
  opens None world = world
  opens (Some turn) world = record world { machine = turn.machine; on = begins turn.sends world.on }

  -- a call that may send the open request again
  abbrev pub repeats : Option (Turn family.words) → World family lines → World family lines
  repeats None world = world
  repeats (Some turn) world = record world { machine = turn.machine; on = sends_again turn.sends world.on }

  -- another manager is in the place of this one
  abbrev pub replaced : ℕ → World family lines → World family lines
  replaced retries world = record world { machine = resumed family.words retries (list_of family.words world.machine); on = λ bus. (lines bus).happens (world.on bus) (lines bus).resumes }

  abbrev pub resumes : ℕ → Stage family.words → World family lines → World family lines
  resumes retries AtEnd world = replaced retries world
  resumes retries (AtHalt step why) world = replaced retries world
  resumes retries _ world = world

  -- the manager is made again
  abbrev pub remade : World family lines → World family lines
  remade world = record world { machine = restarted family.words world.machine; on = λ bus. (lines bus).restarts (world.on bus) }

  -- something happens on a bus
  abbrev pub moved : (bus : Bus) → (lines bus).Event → World family lines → States lines
  moved bus event world = update lines bus ((lines bus).happens (world.on bus) event) world.on

  -- the manager takes the reply that came, unless it ignores it
  abbrev pub answered : (bus : Bus) → (lines bus).Event → Option (Turn family.words) → World family lines → World family lines
  answered bus event None world = world
  answered bus event (Some turn) world = record world { machine = turn.machine; on = begins turn.sends (moved bus event world) }

  abbrev pub brought : (bus : Bus) → (lines bus).Event → Option (List ℕ) → World family lines → World family lines
  brought bus event None world = record world { on = moved bus event world }
  brought bus event (Some reply) world = answered bus event (reply_of family.words (wires.answered_from bus reply) world.machine) world

  -- the manager looks at what comes on the bus of its open request, while that is heeded
  abbrev pub looks : (bus : Bus) → (lines bus).Event → Bool → World family lines → World family lines
  looks bus event false world = world
  looks bus event true world = brought bus event ((lines bus).brings (world.on bus) event) world

  abbrev pub returns : (bus : Bus) → (lines bus).Event → Stage family.words → World family lines → World family lines
  returns bus event (Opened true task part) world = looks bus event (same_bus bus (bus_at family.words part)) world
  returns bus event _ world = world

  -- the world after it
  abbrev pub happens : World family lines → Happening family lines → World family lines
  happens world (Calls Start) = opens (start_of family.words world.machine) world
  happens world (Calls Quiet) = repeats (quiet_of family.words world.machine) world
  happens world (Calls Stop) = opens (stop_of family.words world.machine) world
  happens world (Calls Again) = repeats (again_of family.words world.machine) world
  happens world (Calls Undo) = opens (undo_of family.words world.machine) world
  happens world (Resume retries) = resumes retries world.machine.stage world
  happens world Restart = remade world
  happens world (ToManager bus event) = returns bus event world.machine.stage world
  happens world (OnBus bus event after) = record world { on = moved bus event world; board = after }
  happens world (OnBench after) = record world { board = after }

  -- a request of the manager that is carried out is answered by the command relation; nothing else changes a record, or what the board is ready for
  abbrev pub BoardMay : Bus → Option Exchange → family.Board → family.Board → Type 0
  BoardMay bus None board after = KeepsRecords family board after
  BoardMay bus (Some exchange) board after =
      (answered : Answered) × (exchange.reply ≡ wires.reply_to bus exchange.bytes answered) × family.Row board (wires.asked_from bus exchange.bytes) answered after

  -- what happens on a bus is none of the manager's doing, and honest there
  abbrev pub IsHonestOn : (bus : Bus) → (lines bus).Event → World family lines → Type 0
  IsHonestOn bus event world = (lines bus).IsOutside event × (lines bus).IsHonest (world.on bus) event

  -- it may happen here
  abbrev pub MayHappen : World family lines → Happening family lines → Type 0
  MayHappen world (ToManager bus event) = IsHonestOn bus event world × ((lines bus).is_to_manager event ≡ true)
  MayHappen world (OnBus bus event after) = IsHonestOn bus event world × ((lines bus).is_to_manager event ≡ false) × BoardMay bus ((lines bus).carries (world.on bus) event) world.board after
  MayHappen world (OnBench after) = KeepsRecords family world.board after
  MayHappen world _ = Unit {0}

  -- the world after a schedule
  abbrev pub run : List (Happening family lines) → World family lines → World family lines
  run [] world = world
  run (happening ∷ happenings) world = run happenings (happens world happening)

  -- each may happen where it does
  abbrev pub AllMay : List (Happening family lines) → World family lines → Type 0
  AllMay [] world = Unit {0}
  AllMay (happening ∷ happenings) world = MayHappen world happening × AllMay happenings (happens world happening)

-- a manager that was opened with a plan, between these buses and this board
abbrev pub opening : (family : Family) (lines : Bus → Line) → List family.words.Op → ℕ → States lines → family.Board → World family lines
opening family lines plan retries on board = record { machine = opened family.words plan retries; on = on; board = board }
