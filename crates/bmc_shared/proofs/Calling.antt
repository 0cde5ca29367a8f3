-- What a port of a worker takes by a call of the shared board.
use Rattle.std.specs.Prelude.{Result, Ok, Err, IfOk, IfErr, OnOk, OnErr, Some}
use Rattle.std.proofs.Common.{◌≡◌, ℕ, List, [], ◌∷◌, true, refl, sym, ap, subst}
use Rattle.record_base.specs.declared.message.Asked.{Asked}
use Rattle.bmc_board.specs.Carrying.{IsCarriedRequest}
use Rattle.bmc_core.specs.declared.out.Out.{Out}
use Rattle.bmc_core.specs.declared.port.Port.{Port}
use Rattle.bmc_core.specs.declared.step.ServeOutcome.{ServeOutcome}
use Rattle.bmc_core.specs.declared.step.ServeOutcome.TheVariants.{CarriedOut, NothingAsked}
use Rattle.bmc_core.specs.Port.{asked_of, ServesFrameBy}
use Rattle.bmc_shared.specs.declared.event.Call.{Call}
use Rattle.bmc_shared.specs.declared.event.Call.TheVariants.{Exchanged}
use Rattle.bmc_shared.specs.declared.held.PeriodFull.{PeriodFull}
use Rattle.bmc_shared.specs.Calls.{KeepsHere}
use Rattle.bmc_shared.specs.declared.seat.Seat.{Seat}
use Rattle.bmc_shared.specs.Calling.{HasCalled, HasFoundNoRoom}
use Rattle.bmc_shared.specs.Serving.{WorkerStep, frames_of}
use Rattle.bmc_shared.specs.declared.worker.End.TheVariants.{Turns, Full}
use Rattle.bmc_shared.proofs.Turning.{settled, answered, dropped}

module _ {J : Type 0} {g : _} (port next : Port) (frame : List ℕ) (seat now : Seat J g) (out : Out) where
  -- the port served the frame by a call of the shared board, if it made one
  abbrev pub ServesBy : Result ServeOutcome PeriodFull → Type 0
  ServesBy result =
      ServesFrameBy (λ asked answered later. HasCalled seat asked answered later) (λ (why : PeriodFull) (later : Seat J g). HasFoundNoRoom seat later) port frame seat result next out now

  -- it takes the frame
  pub takes : (served : ServeOutcome) → ServesBy (Ok served) → WorkerStep Turns (Some frame) port next seat.calls.items now.calls.items (frames_of out)
  takes CarriedOut done =
      let call : Call = Exchanged (asked_of done.pending) done.answered in
      answered port frame done.between next done.heard done.pending seat.calls.items now.calls.items (frames_of out) done.asks
      (call ∷ [], done.carried.gained, (done.answered, out, refl, refl, done.replied))
  takes NothingAsked done =
      subst (λ (calls : List Call). WorkerStep Turns (Some frame) port next seat.calls.items calls (frames_of out))
      (sym (ap (λ (s : Seat J g). s.calls.items) done.1)) (settled port frame next out seat.calls.items done.0)

  -- the seat is marked as it was, and has its number
  pub mark_left : (served : ServeOutcome) → ServesBy (Ok served) → now.refused ≡ seat.refused
  mark_left CarriedOut done = done.carried.mark
  mark_left NothingAsked done = ap (λ (s : Seat J g). s.refused) done.1

  pub number_left : (served : ServeOutcome) → ServesBy (Ok served) → now.number ≡ seat.number
  number_left CarriedOut done = done.carried.number
  number_left NothingAsked done = ap (λ (s : Seat J g). s.number) done.1

  -- or it drops the request
  pub drops : (why : PeriodFull) → ServesBy (Err why) → WorkerStep Full (Some frame) port next seat.calls.items now.calls.items []
  drops why done = dropped port frame next out done.0.0 seat.calls.items now.calls.items done.0.1 done.1.list

-- ---- the call itself
module _ {J : Type 0} {g : _} (seat now : Seat J g) where
  pub called : (asking : Asked) (old new : List ℕ) (result : Result (Result (Unit {0}) ℕ) PeriodFull)
      → IfOk result (λ given. KeepsHere seat.calls.items now.calls.items asking given old new) → OnOk result (now.refused ≡ seat.refused) → now.number ≡ seat.number
      → IfOk result (λ given. IsCarriedRequest (λ question answered later. HasCalled seat question answered later) asking given old new now)
  called asking old new (Ok given) keeps mark number = record {
    answered = keeps.answered;
    gives = keeps.gives;
    fits = keeps.fits;
    carried = record { gained = keeps.gained; mark = mark; number = number };
  }
  called asking old new (Err why) keeps mark number = tt

  pub found_no_room : (result : Result (Result (Unit {0}) ℕ) PeriodFull) → OnErr result (now.calls.items ≡ seat.calls.items) → OnErr result (now.refused ≡ true)
      → now.number ≡ seat.number → IfErr result (λ (why : PeriodFull). HasFoundNoRoom seat now)
  found_no_room (Ok given) list marked number = tt
  found_no_room (Err why) list marked number = record { list = list; marked = marked; number = number }
