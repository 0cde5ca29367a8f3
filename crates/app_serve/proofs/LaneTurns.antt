-- What the turns of lanes say of their ports, whatever the links are.
use Rattle.std.proofs.Common.{◌≡◌, ◌⊎◌, ◌+◌, ◌++◌, ◌∙◌, refl, inl, inr, sym, ap, subst, ℕ, Bool, false, List, [], ◌∷◌, Option, length, arith}
use Rattle.std.specs.List.{flat_map}
use Rattle.std.proofs.lemmas.List.{append_assoc, append-nil, length-append}
use Rattle.two_wire.specs.declared.Bus.{Bus}
use Rattle.two_wire.specs.declared.Bus.TheVariants as bus
use Rattle.bmc_core.specs.declared.port.Port.{Port}
use Rattle.cfg_records.specs.declared.board_file.BoardFile.{BoardFile}
use Rattle.bmc_board.specs.State.{State}
use Rattle.wire_links.specs.declared.link.Link.{Ghosts}
use Rattle.bmc_shared.specs.declared.event.Call.{Call}
use Rattle.bmc_shared.specs.declared.event.Event.{Event}
use Rattle.bmc_shared.specs.Replay.{calls_of}
use Rattle.bmc_shared.specs.declared.worker.End.{End}
use Rattle.bmc_shared.specs.declared.worker.End.TheVariants.{Turns, Full}
use Rattle.bmc_ports.specs.declared.lane.Lane.{Lane}
use Rattle.bmc_ports.specs.declared.lane.Lanes.{Lanes}
use Rattle.bmc_ports.specs.declared.silence.Silence.{Silence}
use Rattle.bmc_ports.specs.declared.timetable.Timed.{Timed}
use Rattle.bmc_ports.specs.Since.{Hearing}
use Rattle.bmc_ports.specs.Slices.{AreTurns, FindRoom, IsQuiet, IsQuietFor, IsTurn, WorkerEnd}
use Rattle.bmc_ports.proofs.Since.{counts_both, counts_still}
use Rattle.app_serve.specs.declared.periods.PeriodState.{PeriodState}
use Rattle.app_serve.specs.declared.run.ServeWords.{ServeWords}
use Rattle.app_serve.specs.Periods.{EndsServing, PeriodsFollow}
use Rattle.app_serve.specs.Served.{most_events}
use Rattle.app_serve.specs.Turns.{AllMade, IsFreshLane, PortRun, PortTurn, PortTurns, PortsRun}

-- turns of a port, and then others
turns_then : (forget : Option ℕ) (first later : List Hearing) (calls more : List Call) (before mid after : Port) (silence noted counted : Silence)
    → PortTurns forget first calls before mid silence noted → PortTurns forget later more mid after noted counted
    → PortTurns forget (first ++ later) (calls ++ more) before after silence counted
turns_then forget [] later calls more before mid after silence noted counted (none, same, still) then =
    subst (λ (c : List Call). PortTurns forget later (c ++ more) before after silence counted) (sym none)
    (subst (λ (p : Port). PortTurns forget later more p after silence counted) (sym same)
    (subst (λ (s : Silence). PortTurns forget later more mid after s counted) (sym still) then))
turns_then forget (heard ∷ rest) later calls more before mid after silence noted counted (first, others, at, at_silence, all, turn, made) then = (
  first,
  others ++ more,
  at,
  at_silence,
  ap (λ (c : List Call). c ++ more) all ∙ append_assoc first others more,
  turn,
  turns_then forget rest later others more at mid after at_silence noted counted made then,
)

-- ---- the turns of a lane

-- what turns of a lane come to: its seat's list gained these calls, and its port made turns
pub record LaneTurns {L : Type 0} (heard : List Hearing) (held kept : List Call) (before after : Lane L) : Type 0 where
  pub calls : List Call
  pub list : kept ≡ held ++ calls
  pub forget : after.forget ≡ before.forget
  pub made : PortTurns before.forget heard calls before.port after.port before.silence after.silence

module _ {L : Type 0} (of : Ghosts L) where
  -- a turn
  turn_of : (end : End) (heard : Hearing) (held kept : List Call) (before after : Lane L) (forget : Option ℕ) → before.forget ≡ forget
      → (turn : IsTurn of end heard held kept before after)
      → PortTurn forget heard turn.made.takes.step.gained before.port after.port before.silence after.silence
  turn_of end heard held kept before after forget is turn =
      subst (λ (f : Option ℕ). PortTurn f heard turn.made.takes.step.gained before.port after.port before.silence after.silence) is
      (record {
        end = end;
        sent = turn.made.takes.sent;
        between = turn.between;
        takes = turn.made.takes.step.takes;
        counts = turn.silence;
        forgets = turn.forgets;
      })

  -- turns in which there was room
  found_turns : (heard : List Hearing) (held kept : List Call) (before after : Lane L) → FindRoom of heard held kept before after
      → LaneTurns heard held kept before after
  found_turns [] held kept before after (same, lent) = record {
    calls = [];
    list = sym same ∙ sym (append-nil held);
    forget = ap (λ (lane : Lane L). lane.forget) (sym lent);
    made = (refl, ap (λ (lane : Lane L). lane.port) lent, ap (λ (lane : Lane L). lane.silence) lent);
  }
  found_turns (heard ∷ later) held kept before after (list, mid, turn, found) =
      let first : List Call = turn.made.takes.step.gained in
      let rest = found_turns later list kept mid after found in record {
        calls = first ++ rest.calls;
        list = rest.list ∙ ap (λ (c : List Call). c ++ rest.calls) turn.made.takes.step.list ∙ append_assoc held first rest.calls;
        forget = rest.forget ∙ turn.forget;
        made = (
          first,
          rest.calls,
          mid.port,
          mid.silence,
          refl,
          turn_of Turns heard held list before mid before.forget refl turn,
          subst (λ (f : Option ℕ). PortTurns f later rest.calls mid.port after.port mid.silence after.silence) turn.forget rest.made,
        );
      }

  -- the turns of a worker
  worker_turns : (end : End) (heard : List Hearing) (held kept : List Call) (before after : Lane L) → AreTurns of end heard held kept before after
      → LaneTurns heard held kept before after
  worker_turns Turns heard held kept before after turns = found_turns heard held kept before after turns
  worker_turns Full heard held kept before after turns =
      let found = found_turns turns.first held turns.list before turns.mid turns.found in
      let last : List Call = turns.full.made.takes.step.gained in
      let one : PortTurns before.forget (turns.last ∷ []) last turns.mid.port after.port turns.mid.silence after.silence = (
        last,
        [],
        after.port,
        after.silence,
        sym (append-nil last),
        turn_of Full turns.last turns.list kept turns.mid after before.forget found.forget turns.full,
        (refl, refl, refl),
      ) in record {
        calls = found.calls ++ last;
        list = turns.full.made.takes.step.list ∙ ap (λ (c : List Call). c ++ last) found.list ∙ append_assoc held found.calls last;
        forget = turns.full.forget ∙ found.forget;
        made = subst (λ (hs : List Hearing). PortTurns before.forget hs (found.calls ++ last) before.port after.port before.silence after.silence) (sym turns.all)
            (turns_then before.forget turns.first (turns.last ∷ []) found.calls last before.port turns.mid.port after.port before.silence turns.mid.silence after.silence found.made one);
      }

-- ---- the turns of all periods

-- a lane was served with these calls
pub record LaneRun {L : Type 0} (calls : List Call) (before after : Lane L) : Type 0 where
  pub heard : List Hearing
  pub turns : length heard + after.turns ≡ before.turns
  pub quiet : IsQuiet before.quiet heard after.quiet
  pub forget : after.forget ≡ before.forget
  pub made : PortTurns before.forget heard calls before.port after.port before.silence after.silence

-- it wasn't
run_none : {L : Type 0} (before after : Lane L) → before ≡ after → LaneRun [] before after
run_none {L} before after same = subst (λ (lane : Lane L). LaneRun [] before lane) same (record {
  heard = [];
  turns = omega arith;
  quiet = counts_still (λ frame. Unit {0}) before.quiet;
  forget = refl;
  made = (refl, refl, refl);
})

-- by a worker
run_of : {L : Type 0} (of : Ghosts L) (end : End) (calls : List Call) (before after : Lane L) → WorkerEnd of end [] calls before after → LaneRun calls before after
run_of of end calls before after goes =
    let turns = worker_turns of end goes.heard [] calls before after goes.makes.made in record {
      heard = goes.heard;
      turns = goes.makes.turns;
      quiet = goes.makes.quiet;
      forget = turns.forget;
      made = subst (λ (c : List Call). PortTurns before.forget goes.heard c before.port after.port before.silence after.silence) (sym turns.list) turns.made;
    }

-- and then by another one
run_then : {L : Type 0} (calls more : List Call) (before mid after : Lane L) → LaneRun calls before mid → LaneRun more mid after → LaneRun (calls ++ more) before after
run_then calls more before mid after first later =
    let begins = first.turns in
    let goes = later.turns in
    let both = length-append first.heard later.heard in record {
      heard = first.heard ++ later.heard;
      turns = omega (arith, begins, goes, both);
      quiet = counts_both (λ frame. Unit {0}) before.quiet mid.quiet after.quiet first.heard later.heard first.quiet later.quiet;
      forget = later.forget ∙ first.forget;
      made = turns_then before.forget first.heard later.heard calls more before.port mid.port after.port before.silence mid.silence after.silence first.made
          (subst (λ (f : Option ℕ). PortTurns f later.heard more mid.port after.port mid.silence after.silence) first.forget later.made);
    }

module _ {A B : Type 0} (one : Ghosts A) (two : Ghosts B) (periods : Bool) (quiet : Option ℕ) (setup : BoardFile) (repeats : Bool) (list : List Timed) where
  pub first_runs : (opening ending : State) (before after : Lanes A B) (from to : ℕ) (histories : List (List Event))
      → PeriodsFollow one two periods quiet setup repeats list opening before from histories ending after to
      → LaneRun (flat_map (calls_of 0) histories) before.first after.first
  first_runs opening ending before after from to [] (same, lent, at) = run_none before.first after.first (ap (λ (lanes : Lanes A B). lanes.first) lent)
  first_runs opening ending before after from to (history ∷ later) (mid, lanes, place, period, follow) =
      run_then (calls_of 0 history) (flat_map (calls_of 0) later) before.first lanes.first after.first
      (run_of one period.first_end (calls_of 0 history) before.first lanes.first period.first)
      (first_runs mid ending lanes after place to later follow)

  pub second_runs : (opening ending : State) (before after : Lanes A B) (from to : ℕ) (histories : List (List Event))
      → PeriodsFollow one two periods quiet setup repeats list opening before from histories ending after to
      → LaneRun (flat_map (calls_of 1) histories) before.second after.second
  second_runs opening ending before after from to [] (same, lent, at) = run_none before.second after.second (ap (λ (lanes : Lanes A B). lanes.second) lent)
  second_runs opening ending before after from to (history ∷ later) (mid, lanes, place, period, follow) =
      run_then (calls_of 1 history) (flat_map (calls_of 1) later) before.second lanes.second after.second
      (run_of two period.second_end (calls_of 1 history) before.second lanes.second period.second)
      (second_runs mid ending lanes after place to later follow)

-- a lane that was fresh is the run of a port
port_runs : {L : Type 0} (on : Bus) (turns : ℕ) (forget : Option ℕ) (calls : List Call) (before after : Lane L) → IsFreshLane on turns forget before
    → (run : LaneRun calls before after) → PortRun on turns forget calls run.heard after.quiet
port_runs on turns forget calls before after fresh run =
    let made = run.turns in
    let are = fresh.turns_are in record {
      before = before.port;
      after = after.port;
      silence = before.silence;
      counted = after.silence;
      fresh = fresh.port;
      nobody = fresh.silence;
      within = omega (arith, made, are);
      quiet_is = subst (λ (n : ℕ). IsQuiet n run.heard after.quiet) fresh.quiet run.quiet;
      made = subst (λ (f : Option ℕ). PortTurns f run.heard calls before.port after.port before.silence after.silence) fresh.forgets run.made;
    }

-- whose turns are over made all
made_all : (made left had turns : ℕ) → made + left ≡ had → had ≡ turns → left ≡ 0 → made ≡ turns
made_all made left had turns is are none = omega (arith, is, are, none)

-- the serving was over
was_over : {A B : Type 0} (words : ServeWords) (course : PeriodState A B) (events : ℕ) (ipmb smbus : List Hearing)
    → (course.lanes.first.turns ≡ 0 → length ipmb ≡ words.turns) → (course.lanes.second.turns ≡ 0 → length smbus ≡ words.turns)
    → events ≡ course.events → EndsServing words.periods words.quiet course
    → AllMade words.turns ipmb smbus
    ⊎ ((IsQuietFor words.quiet course.lanes.first.quiet × IsQuietFor words.quiet course.lanes.second.quiet)
    ⊎ ((words.periods ≡ false) × (events ≡ most_events)))
was_over words course events ipmb smbus first second counted (inl (inl (none, no_more))) = inl (first none, second no_more)
was_over words course events ipmb smbus first second counted (inl (inr silent)) = inr (inl silent)
was_over words course events ipmb smbus first second counted (inr (one, full)) = inr (inr (one, counted ∙ full))

-- so both ports ran
pub ports_run : {A B : Type 0} (words : ServeWords) (histories : List (List Event)) (before : Lanes A B) (course : PeriodState A B) (events : ℕ)
    → IsFreshLane bus.Ipmb words.turns words.forget before.first → IsFreshLane bus.Smbus words.turns words.forget before.second
    → LaneRun (flat_map (calls_of 0) histories) before.first course.lanes.first
    → LaneRun (flat_map (calls_of 1) histories) before.second course.lanes.second
    → EndsServing words.periods words.quiet course → events ≡ course.events → PortsRun words histories most_events events
ports_run words histories before course events fresh other first second ends counted = record {
  ipmb_heard = first.heard;
  smbus_heard = second.heard;
  ipmb_quiet = course.lanes.first.quiet;
  smbus_quiet = course.lanes.second.quiet;
  ipmb = port_runs bus.Ipmb words.turns words.forget (flat_map (calls_of 0) histories) before.first course.lanes.first fresh first;
  smbus = port_runs bus.Smbus words.turns words.forget (flat_map (calls_of 1) histories) before.second course.lanes.second other second;
  over = was_over words course events first.heard second.heard
      (made_all (length first.heard) course.lanes.first.turns before.first.turns words.turns first.turns fresh.turns_are)
      (made_all (length second.heard) course.lanes.second.turns before.second.turns words.turns second.turns other.turns_are)
      counted ends;
}
