-- What the board does in a run of the lab, as a history: what its ports carried out, by their logs, and what happened on the bench.
use Rattle.std.specs.Prelude.{◌≡◌, ℕ, ◌≤◌, List, [], ◌∷◌, ◌++◌, All}
use Rattle.std.specs.List.{AllZip}
use Rattle.record_base.specs.declared.message.Asked.{Asked}
use Rattle.record_base.specs.declared.message.Asked.TheVariants.{Ipmi, Pldm}
use Rattle.record_base.specs.declared.message.Answered.{Answered}
use Rattle.cfg_records.specs.declared.board_file.BoardFile.{BoardFile}
use Rattle.bmc_board.specs.declared.bench.Bench.{Bench}
use Rattle.bmc_board.specs.Decode.{sent_by}
use Rattle.bmc_board.specs.State.{State}
use Rattle.bmc_board.specs.Sensing.{bench_of}
use Rattle.model_bus.specs.Bytes.{ipmb_request, pldm_request}
use Rattle.model_bus.specs.Request.{Kept, Entry, Carried, Idled}
use Rattle.bmc_core.specs.Wires.{bus_of, reply_to, family_answer}
use Rattle.text_lines.specs.declared.event.Event.{Event}
use Rattle.text_lines.specs.declared.event.Event.TheVariants.{OnBench}
use Rattle.model_lab.specs.Lab.{Lab}
use Rattle.model_lab.specs.Meaning.{on_board}
use Rattle.model_lab.specs.Played.{plans, happens, after}
use Rattle.bmc_shared.specs.declared.event.Call.{Call}
use Rattle.bmc_shared.specs.declared.event.Call.TheVariants.{Exchanged, Benched}
use Rattle.bmc_shared.specs.declared.event.Event.{Event as BoardEvent}
use Rattle.bmc_shared.specs.Replay.{calls_of, IsReplay}

-- ---- what a port carried out, by its log

-- all requests that a log has as carried out, with the replies that are kept for them, oldest first
abbrev pub all_carried : List Entry → List Kept
all_carried [] = []
all_carried (Carried kept ∷ log) = all_carried log ++ kept ∷ []
all_carried (Idled requester ∷ log) = all_carried log

-- the bytes are those of the request under this number, on IPMB from some logical unit of the requester
abbrev pub SpellsAsked : (number : ℕ) → List ℕ → Asked → Type 0
SpellsAsked number bytes (Ipmi from net_fn lun command body) =
    (own_lun : ℕ) × (bytes ≡ ipmb_request (record { net_fn = net_fn; responder_lun = lun; requester_lun = own_lun; command = command }) number body)
SpellsAsked number bytes (Pldm from kind command body) = bytes ≡ pldm_request (record { pldm_type = kind; command = command }) number body

-- what is kept is the exchange: its requester asked this, in its bytes under its number, and its reply gives this answer
pub record IsExchange (kept : Kept) (asked : Asked) (answered : Answered) : Type 0 where
  pub from : sent_by kept.request.requester asked ≡ asked
  pub request : SpellsAsked kept.request.number kept.request.bytes asked
  pub reply : kept.reply ≡ reply_to (bus_of asked) kept.request.bytes (family_answer answered)

-- what is kept is the call of the board
abbrev pub IsCall : Kept → Call → Type 0
IsCall kept (Exchanged asked answered) = IsExchange kept asked answered
IsCall kept (Benched happened answered) = ⊥

-- from one log of a port to a later one, the port carried these calls out, in order
abbrev pub CarriesOut : List Call → List Entry → List Entry → Type 0
CarriesOut calls old new = (kept : List Kept) × (all_carried new ≡ all_carried old ++ kept) × AllZip IsCall kept calls

-- ---- what happened on the bench

-- the event, with the board's answer
abbrev pub benched : BoardFile → State → Bench → Call
benched file before happened = Benched happened (bench_of file before happened).0

-- what an event of a schedule has happen on the bench
abbrev pub on_bench : BoardFile → State → Event → List Call
on_bench file before (OnBench happened) = benched file before (on_board happened) ∷ []
on_bench file before _ = []

-- ---- the history

-- The event of the schedule led from one lab to the other, and this is what the board did: what the port on IPMB carried out, under seat 0,
-- that on SMBus, under seat 1, and what happened on the bench, under seat 2.
pub record IsDone (file : BoardFile) (happening : Event) (old new : Lab plans) (done : List BoardEvent) : Type 0 where
  pub seated : All (λ event. event.seat ≤ 2) done
  pub ipmb : CarriesOut (calls_of 0 done) old.ipmb.log new.ipmb.log
  pub smbus : CarriesOut (calls_of 1 done) old.smbus.log new.smbus.log
  pub on_the_bench : calls_of 2 done ≡ on_bench file old.board happening

-- the history is what the board did in a run of these events, in the order in which they happened
abbrev pub IsHistoryOf : BoardFile → List Event → Lab plans → List BoardEvent → Type 0
IsHistoryOf file [] lab history = history ≡ []
IsHistoryOf file (event ∷ later) lab history =
    (done : List BoardEvent) × (rest : List BoardEvent) × (history ≡ done ++ rest)
    × IsDone file event lab (happens file event lab) done × IsHistoryOf file later (happens file event lab) rest

-- The board's events in a run are a history. It replays from the board as the run began to the board as it ended, and each port's seat has all that
-- the port carried out between.
pub record HasHistory (file : BoardFile) (events : List Event) (lab : Lab plans) : Type 0 where
  pub history : List BoardEvent
  pub is : IsHistoryOf file events lab history
  pub replays : IsReplay file lab.board history (after file events lab).board
  pub ipmb : CarriesOut (calls_of 0 history) lab.ipmb.log (after file events lab).ipmb.log
  pub smbus : CarriesOut (calls_of 1 history) lab.smbus.log (after file events lab).smbus.log
