-- The headline over a controller that did anything before, from fresh windows.
use Rattle.std.proofs.Common.{◌≡◌, ℕ, List, [], ◌++◌, length, refl, sym, ◌∙◌, ap, subst, arith, append-nil}
use Rattle.std.proofs.lemmas.Option.{none-some, slice_get_read}
use Rattle.two_wire.specs.declared.Bus.{Bus}
use Rattle.two_wire.specs.declared.Bus.TheVariants.{Ipmb, Smbus}
use Rattle.mctp_net.specs.Assembly.{nothing}
use Rattle.mctp_net.specs.Sound.{AreSoundAssemblies}
use Rattle.record_base.specs.declared.message.Asked.{Asked}
use Rattle.record_base.specs.declared.op.Op.{Op}
use Rattle.cfg_records.specs.declared.board_file.BoardFile.{BoardFile}
use Rattle.bmc_board.specs.State.{State}
use Rattle.model_bus.specs.Request.{Entry}
use Rattle.model_bus.specs.BusState.{opening as opening_bus}
use Rattle.model_bus.specs.Start.{FreshWindow}
use Rattle.model_bus.proofs.NumberLaws.{ipmb_numbers, smbus_numbers, ipmb_greeting, smbus_greeting}
use Rattle.model_bus.proofs.Greeting.{greeting_forgets}
use Rattle.model_bus.specs.Packet.{packets_of}
use Rattle.model_bus.specs.PacketBus.{opening_ends}
use Rattle.model_bus.specs.Answering.{AreWritten}
use Rattle.model_bus.proofs.Cutting.{packets_cut}
use Rattle.model_bus.specs.Repeat.{In}
use Rattle.model_bus.specs.Answered.{Answered}
use Rattle.model_undo.specs.declared.phase.Why.TheVariants.{Stop, Refused, NotRestorable, GetRefused}
use Rattle.model_undo.specs.declared.phase.Phase.{Phase}
use Rattle.model_undo.specs.declared.phase.Phase.TheVariants.{Fresh, Getting, Setting, Done, Halted, Unsettled, Undoing, Undone, UndoRefused}
use Rattle.model_undo.specs.Giving.{GivenAnswer, given_in, GaveIn as Gave, CausedIn}
use Rattle.model_undo.proofs.Giving.{halts_by_answers}
use Rattle.model_undo.proofs.Series.{reached_as, all_answered_as}
use Rattle.model_undo.specs.declared.call.Call.TheVariants.{Stop as StopCall}
use Rattle.model_headline.specs.Answers.{CausedBy}
use Rattle.model_headline.proofs.Each.{each_at}
use Rattle.model_headline.proofs.Stopped.{told_to_stop}
use Rattle.model_undo.specs.Plan.{IsAfter, HaltMeans, PhaseMeans}
use Rattle.model_undo.specs.Machine.{count_of, phase_of}
use Rattle.model_undo.specs.World as world
use Rattle.model_undo.specs.World.{States, World, Happening}
use Rattle.model_undo.specs.Headline.{IsStart, ShowsSame, PartsShowSame}
use Rattle.model_undo.proofs.Headline.{opening_holds, stands_at, halts_at, undone_for_good}
use Rattle.model_undo.proofs.TwoBuses.{packet_lines}
use Rattle.model_lab.proofs.IsFamily.{is_family}
use Rattle.undo_plans.specs.declared.names.Names.{Names}
use Rattle.model_lab.specs.ManagerSteps.{addresses}
use Rattle.model_lab.specs.Lab.{Event, Calls, Lab, run}
use Rattle.model_headline.specs.Each.{Each}
use Rattle.model_headline.specs.Tied.{own_plans, own_family, own_lines, own_wires, rules_on, requests, EntryAnswers, IsTied, world_of}
use Rattle.model_headline.specs.Follows.{HoldsInWorld}
use Rattle.model_headline.specs.Fresh.{first_over, IsFreshStart, IsTrustedFrom, GaveFrom, StandsFrom, FreshStartsStand, GreetedIsFresh}
use Rattle.model_headline.proofs.Goes.{Went, goes_may, goes_reach}
use Rattle.model_headline.proofs.Theorem.{GivenIn, Ran, all_followed, all_own, still_holds, first_honest, first_own, later_honest, later_own, both_run}

module _ (setup : BoardFile) (names : Names) (plan : List Op) (retries : ℕ) (board : State) (ipmb_log smbus_log : List Entry) (fresh : IsFreshStart setup names plan retries board ipmb_log smbus_log) where
  abbrev start : Lab (own_plans setup names)
  start = first_over setup names plan retries board ipmb_log smbus_log

  -- nothing of this manager has happened on either bus
  abbrev quiet : States (own_lines setup names)
  quiet Ipmb = opening_bus ipmb_log
  quiet Smbus = opening_ends smbus_log

  nothing_sound : AreSoundAssemblies nothing
  nothing_sound = record { fronts = λ n. tt; few = λ n. omega arith; slots = omega arith }

  nothing_counted : (bus : Bus) → count_of bus start.manager.machine.counts ≡ length (requests setup names quiet bus).taken
  nothing_counted Ipmb = refl
  nothing_counted Smbus = refl

  nothing_written : (bus : Bus) → AreWritten bus (rules_on setup names bus) (requests setup names quiet bus)
  nothing_written Ipmb = record { requests = λ n b e. absurd (none-some b e); replies = λ n k e. absurd (none-some k e) }
  nothing_written Smbus = record { requests = λ n b e. absurd (none-some b e); replies = λ n k e. absurd (none-some k e) }

  all_answered : (bus : Bus) → Each (EntryAnswers setup names bus) (requests setup names quiet bus).log
  all_answered Ipmb = fresh.ipmb_answers
  all_answered Smbus = fresh.smbus_answers

  start_tied : IsTied setup names start quiet
  start_tied = record {
    named = refl;
    ipmb_wire = refl;
    smbus_wire = refl;
    ipmb_log = refl;
    smbus_port = record { log = refl; waits = λ n. refl; sound = nothing_sound };
    waits = λ n. refl;
    alone = cc;
    counted = nothing_counted;
    written = nothing_written;
    answered = all_answered;
    made = record { stage = tt; undo = tt };
    frames = tt;
    opened = λ n t is. absurd is;
  }

  starts : (bus : Bus) → ((own_lines setup names) bus).IsStart (quiet bus)
  starts Ipmb = (record { begun = refl; carried = refl; taken = refl; frames = refl }, fresh.ipmb_fresh)
  starts Smbus = (record { begun = refl; carried = refl; taken = refl; frames = refl }, record { port = λ n e. refl; manager = λ n e. refl }, fresh.smbus_fresh)

  is_start : IsStart (own_family setup names) (own_lines setup names) (own_wires setup names) quiet board
  is_start = record { on_bus = starts; valid = fresh.valid; ready = fresh.ready }

  start_holds : HoldsInWorld setup names plan board.records (world_of setup names start quiet)
  start_holds = opening_holds (own_family setup names) (is_family setup (addresses names)) (own_lines setup names) (packet_lines (addresses names) packets_of packets_cut) (own_wires setup names) plan retries quiet board is_start

  ran : (events : List Event) → IsTrustedFrom setup names plan retries start events → Ran setup names plan board.records events start quiet
  ran events good = all_followed setup names plan board.records events start quiet start_tied start_holds good.0 (all_own setup names plan board.records events start quiet start_tied start_holds good.0 good.1)

  stands_so : (events : List Event) → IsTrustedFrom setup names plan retries start events
      → let now = run (own_plans setup names) setup events start in
      PhaseMeans (own_family setup names) plan board.records (phase_of (own_family setup names).words now.manager.machine) now.board.records
  stands_so events good =
      let g = (ran events good).went in
      let y = run (own_plans setup names) setup events start in
      let h = still_holds setup names plan board.records start y quiet start_holds g in
      stands_at (own_family setup names) (is_family setup (addresses names)) (own_lines setup names) (packet_lines (addresses names) packets_of packets_cut) (own_wires setup names) plan board.records (world_of setup names y g.left) h

  abbrev IsSame : State → Type 0
  IsSame now = (now.records ≡ board.records) × ShowsSame (own_family setup names) board now × PartsShowSame (own_family setup names) board now

  undone_so : (events later : List Event) → IsTrustedFrom setup names plan retries start (events ++ later)
      → phase_of (own_family setup names).words (run (own_plans setup names) setup events start).manager.machine ≡ Undone
      → IsSame (run (own_plans setup names) setup (events ++ later) start).board
  undone_so events later good undone =
      let y = run (own_plans setup names) setup events start in
      let z = run (own_plans setup names) setup later y in
      let own = all_own setup names plan board.records (events ++ later) start quiet start_tied start_holds good.0 good.1 in
      let honest = first_honest setup names plan retries events later start good.0 in
      let first = all_followed setup names plan board.records events start quiet start_tied start_holds honest (first_own setup names plan retries events later start own) in
      let g = first.went in
      let h = still_holds setup names plan board.records start y quiet start_holds g in
      let more : Went setup names y g.left z = (all_followed setup names plan board.records later y g.left g.tied h (later_honest setup names plan retries events later start good.0) (later_own setup names plan retries events later start own)).went in
      let at : phase_of (own_family setup names).words (world.run (own_family setup names) (own_lines setup names) (own_wires setup names) g.happenings (world_of setup names start quiet)).machine ≡ Undone =
      ap (λ (w : World (own_family setup names) (own_lines setup names)). phase_of (own_family setup names).words w.machine) g.reaches ∙ undone in
      let told = undone_for_good (own_family setup names) (is_family setup (addresses names)) (own_lines setup names) (packet_lines (addresses names) packets_of packets_cut) (own_wires setup names) plan retries quiet board is_start g.happenings more.happenings (goes_may setup names start y z quiet g more) at in
      subst (λ (l : Lab (own_plans setup names)). IsSame l.board) (both_run setup names plan retries events later start)
      (subst (λ (w : World (own_family setup names) (own_lines setup names)). IsSame w.board) (goes_reach setup names start y z quiet g more) told)

  -- the plan is to stop only where it was told to
  stopped_by : (events : List Event) (k : ℕ) → IsTrustedFrom setup names plan retries start events → phase_of (own_family setup names).words (run (own_plans setup names) setup events start).manager.machine ≡ Halted k Stop → In (Calls StopCall) events
  stopped_by events k good halted =
      let x0 = start in
      let y = run (own_plans setup names) setup events start in
      let g = (ran events good).went in
      let h = still_holds setup names plan x0.board.records x0 y quiet start_holds g in
      let told : HaltMeans (own_family setup names) y.manager.machine.stopped plan (Halted k Stop) y.board.records =
      subst (λ (p : Phase). HaltMeans (own_family setup names) y.manager.machine.stopped plan p y.board.records) halted
      (halts_at (own_family setup names) (is_family setup (addresses names)) (own_lines setup names) (packet_lines (addresses names) packets_of packets_cut) (own_wires setup names) plan x0.board.records (world_of setup names y g.left) h) in
      told_to_stop (own_plans setup names) setup events x0 refl told

  -- an answer that is one of a run's was given at an event of it
  gave_in : (events : List Event) (given : List (GivenAnswer (own_family setup names))) → Each (GivenIn setup names plan start.board.records events start) given
      → (k : ℕ) (asked : Asked) (a : Answered) → Gave (own_family setup names) (own_lines setup names) (own_wires setup names) given plan start.board.records k asked a → GaveFrom setup names plan retries start events k asked a
  gave_in events given all k asked a g =
      let x0 = start in
      let one : GivenAnswer (own_family setup names) = record { before = g.before; asked = asked; answered = a; after = g.after } in
      let is = each_at (GivenIn setup names plan x0.board.records events x0) given g.is_one.0 one all (slice_get_read given (length given) g.is_one.0 one refl g.is_one.1 (sym g.is_one.2)) in
      record {
        before = is.before;
        event = is.event;
        later = is.later;
        all = is.all;
        answers = is.given.answers;
        at = subst (λ (b : State). IsAfter (own_family setup names) plan x0.board.records k b.records) is.given.before g.at;
      }

  caused : (events : List Event) (happenings : List (Happening (own_family setup names) (own_lines setup names)))
      → Each (GivenIn setup names plan start.board.records events start) (given_in (own_family setup names) (own_lines setup names) (own_wires setup names) happenings (world_of setup names start quiet))
      → (phase : Phase) → ((k : ℕ) → phase ≡ Halted k Stop → In (Calls StopCall) events)
      → CausedIn (own_family setup names) (own_lines setup names) (own_wires setup names) happenings (world_of setup names start quiet) plan start.board.records phase
      → CausedBy setup names (GaveFrom setup names plan retries start events) (In (Calls StopCall) events) plan phase
  caused events hs all (Halted k Stop) told c = told k refl
  caused events hs all (Halted k (Refused code)) told c =
      let op = c.2.op in
      let given = given_in (own_family setup names) (own_lines setup names) (own_wires setup names) hs (world_of setup names start quiet) in
      let answered : Answered = record { code = code; body = c.1 } in
      let gave = Gave (own_family setup names) (own_lines setup names) (own_wires setup names) given plan start.board.records k in (
        op,
        c.2.bodies,
        c.2.asked,
        c.1,
        c.2.step,
        reached_as (own_family setup names).words ((own_family setup names).words.setting op) gave (GaveFrom setup names plan retries start events k) (gave_in events given all k) c.2.bodies c.2.asked c.2.reached,
        gave_in events given all k c.2.asked answered c.2.gave,
        c.0,
      )
  caused events hs all (Halted k (GetRefused code)) told c =
      let op = c.2.op in
      let given = given_in (own_family setup names) (own_lines setup names) (own_wires setup names) hs (world_of setup names start quiet) in
      let answered : Answered = record { code = code; body = c.1 } in
      let gave = Gave (own_family setup names) (own_lines setup names) (own_wires setup names) given plan start.board.records k in (
        op,
        c.2.bodies,
        c.2.asked,
        c.1,
        c.2.step,
        reached_as (own_family setup names).words ((own_family setup names).words.getting ((own_family setup names).words.key_of op)) gave (GaveFrom setup names plan retries start events k) (gave_in events given all k) c.2.bodies c.2.asked c.2.reached,
        gave_in events given all k c.2.asked answered c.2.gave,
        c.0,
      )
  caused events hs all (Halted k NotRestorable) told c =
      let op = c.1.op in
      let given = given_in (own_family setup names) (own_lines setup names) (own_wires setup names) hs (world_of setup names start quiet) in
      let get = (own_family setup names).words.getting ((own_family setup names).words.key_of op) in
      let gave = Gave (own_family setup names) (own_lines setup names) (own_wires setup names) given plan start.board.records k in
      (op, c.0, c.1.step, all_answered_as (own_family setup names).words get gave (GaveFrom setup names plan retries start events k) (gave_in events given all k) c.0 c.1.gave, c.1.not_restorable)
  caused events hs all Fresh told c = tt
  caused events hs all (Getting k) told c = tt
  caused events hs all (Setting k) told c = tt
  caused events hs all Done told c = tt
  caused events hs all (Unsettled k) told c = tt
  caused events hs all (Undoing k) told c = tt
  caused events hs all Undone told c = tt
  caused events hs all (UndoRefused k code) told c = tt

  halts_so : (events : List Event) → IsTrustedFrom setup names plan retries start events
      → CausedBy setup names (GaveFrom setup names plan retries start events) (In (Calls StopCall) events) plan (phase_of (own_family setup names).words (run (own_plans setup names) setup events start).manager.machine)
  halts_so events good =
      let x0 = start in
      let y = run (own_plans setup names) setup events start in
      let all = ran events good in
      let g = all.went in
      let may = subst (λ (hs : List (Happening (own_family setup names) (own_lines setup names))). world.AllMay (own_family setup names) (own_lines setup names) (own_wires setup names) hs (world_of setup names x0 quiet)) (sym (append-nil g.happenings)) g.may in
      let there = halts_by_answers (own_family setup names) (is_family setup (addresses names)) (own_lines setup names) (packet_lines (addresses names) packets_of packets_cut) (own_wires setup names) plan retries quiet x0.board is_start g.happenings [] may in
      let phase_is : phase_of (own_family setup names).words (world.run (own_family setup names) (own_lines setup names) (own_wires setup names) g.happenings (world_of setup names x0 quiet)).machine ≡ phase_of (own_family setup names).words (run (own_plans setup names) setup events start).manager.machine =
      ap (λ (w : World (own_family setup names) (own_lines setup names)). phase_of (own_family setup names).words w.machine) g.reaches in
      caused events g.happenings all.gives (phase_of (own_family setup names).words (run (own_plans setup names) setup events start).manager.machine) (λ k halted. stopped_by events k good halted)
      (subst (CausedIn (own_family setup names) (own_lines setup names) (own_wires setup names) g.happenings (world_of setup names x0 quiet) plan x0.board.records) phase_is there)

  pub stands_from : StandsFrom setup names plan retries start
  stands_from = record { stands = stands_so; halts = halts_so; undone = undone_so }

pub fresh_starts_stand : (setup : BoardFile) (names : Names) (plan : List Op) (retries : ℕ) → FreshStartsStand setup names plan retries
fresh_starts_stand setup names plan retries board ipmb_log smbus_log fresh = stands_from setup names plan retries board ipmb_log smbus_log fresh

pub greeted_is_fresh : (setup : BoardFile) (names : Names) (plan : List Op) (retries : ℕ) → GreetedIsFresh setup names plan retries
greeted_is_fresh setup names plan retries Ipmb log is =
    let b = rules_on setup names Ipmb in
    subst (FreshWindow b) (sym is.all) ((greeting_forgets b (ipmb_numbers b.manager b.controller 0) 64 (ipmb_greeting b.manager b.controller 0)).greeted is.bytes is.answer is.before is.later is.heard is.aside)
greeted_is_fresh setup names plan retries Smbus log is =
    let b = rules_on setup names Smbus in
    subst (FreshWindow b) (sym is.all) ((greeting_forgets b (smbus_numbers b.manager b.controller 0) 32 (smbus_greeting b.manager b.controller 0)).greeted is.bytes is.answer is.before is.later is.heard is.aside)
