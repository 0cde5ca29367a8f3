-- Whatever happens in a lab by honest events, the manager's phase stands on the records.
use Rattle.std.proofs.Common.{◌≡◌, ℕ, List, [], ◌∷◌, ◌++◌, length, refl, sym, ◌∙◌, ap, subst, arith, append-nil}
use Rattle.std.proofs.lemmas.Option.{none-some, slice_get_read}
use Rattle.two_wire.specs.declared.Bus.{Bus}
use Rattle.two_wire.specs.declared.Bus.TheVariants.{Ipmb, Smbus}
use Rattle.mctp_net.specs.Assembly.{nothing}
use Rattle.mctp_net.specs.Sound.{AreSoundAssemblies}
use Rattle.record_base.specs.declared.message.Asked.{Asked}
use Rattle.record_base.specs.declared.op.Op.{Op}
use Rattle.cfg_records.specs.declared.board_file.BoardFile.{BoardFile}
use Rattle.cfg_records.specs.Records.{Records}
use Rattle.bmc_board.specs.State.{State}
use Rattle.model_bus.specs.Repeat.{In}
use Rattle.model_bus.specs.BusState.{opening as opening_bus}
use Rattle.model_bus.specs.Start.{NothingUnderWay}
use Rattle.model_bus.specs.Packet.{packets_of}
use Rattle.model_bus.specs.PacketBus.{opening_ends}
use Rattle.model_bus.specs.Answering.{AreWritten}
use Rattle.model_bus.proofs.Cutting.{packets_cut}
use Rattle.model_bus.specs.Answered.{Answered}
use Rattle.model_undo.specs.declared.phase.Why.TheVariants.{Stop, Refused, NotRestorable, GetRefused}
use Rattle.model_undo.specs.declared.phase.Phase.{Phase}
use Rattle.model_undo.specs.declared.phase.Phase.TheVariants.{Fresh, Getting, Setting, Done, Halted, Unsettled, Undoing, Undone, UndoRefused}
use Rattle.model_undo.specs.Plan.{IsAfter, HaltMeans}
use Rattle.model_undo.specs.Giving.{GivenAnswer, given_in, GaveIn as Gave, CausedIn}
use Rattle.model_undo.proofs.Giving.{halts_by_answers}
use Rattle.model_undo.proofs.Series.{reached_as, all_answered_as}
use Rattle.model_undo.specs.Machine.{count_of, phase_of}
use Rattle.model_undo.specs.World as world
use Rattle.model_undo.specs.World.{States, World, Happening}
use Rattle.model_undo.specs.Headline.{IsStart, ShowsSame, PartsShowSame}
use Rattle.model_undo.proofs.World.{run_holds}
use Rattle.model_undo.proofs.Headline.{opening_holds, stands_at, halts_at, undone_for_good}
use Rattle.model_undo.proofs.TwoBuses.{packet_lines}
use Rattle.model_lab.proofs.IsFamily.{is_family}
use Rattle.model_lab.proofs.Board.{starts_valid, starts_ready}
use Rattle.undo_plans.specs.declared.names.Names.{Names}
use Rattle.model_undo.specs.declared.call.Call.TheVariants.{Stop as StopCall}
use Rattle.model_lab.specs.ManagerSteps.{addresses}
use Rattle.model_lab.specs.Lab.{Event, Calls, ToBmc, ToMgr, OtherIpmb, OtherSmbus, Noise, Idles, OnBench, Lab, step, run}
use Rattle.model_lab.specs.Faults.{AllTaken}
use Rattle.model_lab.specs.Honest.{HasBytes, IsHonest, AllHonest}
use Rattle.model_lab.specs.Own.{IsOwn, AllOwn}
use Rattle.model_lab.specs.Joins.{IsJoinLive, AllJoinLive}
use Rattle.model_lab.proofs.Breaches.{faults_are_breaches}
use Rattle.model_headline.specs.Each.{Each}
use Rattle.model_headline.specs.Tied.{own_plans, own_family, own_lines, own_wires, rules_on, requests, EntryAnswers, IsTied, IsGivenAnswer, world_of, WorldFollows}
use Rattle.model_headline.specs.Follows.{HoldsInWorld, IsFollowed}
use Rattle.model_headline.specs.Answers.{CausedBy}
use Rattle.model_headline.specs.Theorem.{first, after, phase_after, IsTrusted, IsHonestAndOwn, IsTakenAndOwn, AlwaysStands, UndoneForGood, GaveIn, HaltsByAnswers, Headline, PremisesAgree}
use Rattle.model_headline.proofs.Each.{each_at, each_imply, each_append}
use Rattle.model_headline.proofs.Goes.{Went, went_there, stays_there, given_on, goes_may, goes_reach, goes_on, gives_both}
use Rattle.model_headline.proofs.Joined.{is_own, is_live}
use Rattle.model_headline.proofs.Stopped.{told_to_stop}
use Rattle.model_headline.proofs.Steps.{calls_followed, replies_followed, requests_followed, others_followed}

-- ---- one event

module _ (setup : BoardFile) (names : Names) (plan : List Op) (start : Records) where
  -- an event that is honest, and joins no other request's assembly, is followed
  pub event_followed : (x : Lab (own_plans setup names)) (e : Event) → (HasBytes (own_plans setup names) e → IsHonest (own_plans setup names) x e) → IsOwn (own_plans setup names) x e → IsFollowed setup names plan start x e
  event_followed x (Calls call) honest own = calls_followed setup names plan start x call
  event_followed x (ToBmc number) honest own = requests_followed setup names plan start x number (honest tt) own
  event_followed x (ToMgr number) honest own = replies_followed setup names plan start x number (honest tt)
  event_followed x (OtherIpmb r) honest own = (others_followed setup names plan start).requests x r (honest tt)
  event_followed x (OtherSmbus m) honest own = (others_followed setup names plan start).messages x m (honest tt)
  event_followed x (Noise on bytes) honest own = (others_followed setup names plan start).noise x on bytes
  event_followed x (Idles on requester) honest own = (others_followed setup names plan start).idles x on requester (honest tt)
  event_followed x (OnBench activity) honest own = (others_followed setup names plan start).bench x activity

  -- ---- all events

  no_events : (x : Lab (own_plans setup names)) → x ≡ run (own_plans setup names) setup [] x
  unfolding run
  no_events x = refl

  more_events : (e : Event) (es : List Event) (x : Lab (own_plans setup names)) → run (own_plans setup names) setup es (step (own_plans setup names) setup x e) ≡ run (own_plans setup names) setup (e ∷ es) x
  unfolding run
  more_events e es x = refl

  -- where the world holds, it holds after what the lab does
  pub still_holds : (x y : Lab (own_plans setup names)) (on : States (own_lines setup names)) → HoldsInWorld setup names plan start (world_of setup names x on) → (g : Went setup names x on y) → HoldsInWorld setup names plan start (world_of setup names y g.left)
  still_holds x y on h g = subst (HoldsInWorld setup names plan start) g.reaches
      (run_holds (own_family setup names) (is_family setup (addresses names)) (own_lines setup names) (packet_lines (addresses names) packets_of packets_cut) (own_wires setup names) (λ bus. 0) plan start g.happenings (world_of setup names x on) h g.may)

  -- the answer was given at an event
  pub record GivenIn (es : List Event) (x : Lab (own_plans setup names)) (g : GivenAnswer (own_family setup names)) : Type 0 where
    pub before : List Event
    pub event : Event
    pub later : List Event
    pub all : es ≡ before ++ event ∷ later
    pub given : IsGivenAnswer setup names (run (own_plans setup names) setup before x) (step (own_plans setup names) setup (run (own_plans setup names) setup before x) event) g

  -- the model's world goes on to the lab's after all events, and gives no answer but those that are given at them
  pub record Ran (es : List Event) (x : Lab (own_plans setup names)) (on : States (own_lines setup names)) : Type 0 where
    pub went : Went setup names x on (run (own_plans setup names) setup es x)
    pub gives : Each (GivenIn es x) (given_on setup names x on (run (own_plans setup names) setup es x) went)

  given_first : (e : Event) (es : List Event) (x : Lab (own_plans setup names)) (g : GivenAnswer (own_family setup names)) → IsGivenAnswer setup names x (step (own_plans setup names) setup x e) g → GivenIn (e ∷ es) x g
  given_first e es x g is = record {
    before = [];
    event = e;
    later = es;
    all = refl;
    given = subst (λ (y : Lab (own_plans setup names)). IsGivenAnswer setup names y (step (own_plans setup names) setup y e) g) (no_events x) is;
  }

  given_later : (e : Event) (es : List Event) (x : Lab (own_plans setup names)) (g : GivenAnswer (own_family setup names)) → GivenIn es (step (own_plans setup names) setup x e) g → GivenIn (e ∷ es) x g
  given_later e es x g is = record {
    before = e ∷ is.before;
    event = is.event;
    later = is.later;
    all = ap (λ (l : List Event). e ∷ l) is.all;
    given = subst (λ (y : Lab (own_plans setup names)). IsGivenAnswer setup names y (step (own_plans setup names) setup y is.event) g) (more_events e is.before x) is.given;
  }

  pub all_followed : (events : List Event) (x : Lab (own_plans setup names)) (on : States (own_lines setup names)) → IsTied setup names x on → HoldsInWorld setup names plan start (world_of setup names x on)
      → AllHonest (own_plans setup names) setup events x → AllOwn (own_plans setup names) setup events x → Ran events x on
  unfolding run
  all_followed [] x on tied h honest own = record { went = stays_there setup names x on tied; gives = tt }
  all_followed (e ∷ es) x on tied h honest own =
      let next : Lab (own_plans setup names) = step (own_plans setup names) setup x e in
      let last : Lab (own_plans setup names) = run (own_plans setup names) setup es next in
      let one : WorldFollows setup names x on next = event_followed x e honest.0 own.0 on tied h in
      let first = went_there setup names x next on one in
      let rest = all_followed es next one.left one.tied (still_holds x next on h first) honest.1 own.1 in
      record {
        went = goes_on setup names x next last on first rest.went;
        gives = subst (Each (GivenIn (e ∷ es) x)) (gives_both setup names x next last on first rest.went)
            (each_append (GivenIn (e ∷ es) x) (given_on setup names x on next first) (given_on setup names next one.left last rest.went)
            (each_imply (IsGivenAnswer setup names x next) (GivenIn (e ∷ es) x) (given_on setup names x on next first) (given_first e es x) one.gives)
            (each_imply (GivenIn es next) (GivenIn (e ∷ es) x) (given_on setup names next one.left last rest.went) (given_later e es x) rest.gives));
      }

  -- ---- one premise for another

  -- what an honest event joins
  event_own : (x : Lab (own_plans setup names)) (on : States (own_lines setup names)) → IsTied setup names x on → HoldsInWorld setup names plan start (world_of setup names x on)
      → (e : Event) → (HasBytes (own_plans setup names) e → IsHonest (own_plans setup names) x e) → IsJoinLive (own_plans setup names) x e → IsOwn (own_plans setup names) x e
  event_own x on tied h (ToBmc number) honest joins = is_own setup names plan start x on tied h number (honest tt) joins
  event_own x on tied h (Calls call) honest joins = tt
  event_own x on tied h (ToMgr number) honest joins = tt
  event_own x on tied h (OtherIpmb r) honest joins = tt
  event_own x on tied h (OtherSmbus m) honest joins = tt
  event_own x on tied h (Noise bus bytes) honest joins = tt
  event_own x on tied h (Idles bus requester) honest joins = tt
  event_own x on tied h (OnBench activity) honest joins = tt

  event_live : (x : Lab (own_plans setup names)) (on : States (own_lines setup names)) → IsTied setup names x on → HoldsInWorld setup names plan start (world_of setup names x on)
      → (e : Event) → (HasBytes (own_plans setup names) e → IsHonest (own_plans setup names) x e) → IsOwn (own_plans setup names) x e → IsJoinLive (own_plans setup names) x e
  event_live x on tied h (ToBmc number) honest joins = is_live setup names plan start x on tied h number (honest tt) joins
  event_live x on tied h (Calls call) honest joins = tt
  event_live x on tied h (ToMgr number) honest joins = tt
  event_live x on tied h (OtherIpmb r) honest joins = tt
  event_live x on tied h (OtherSmbus m) honest joins = tt
  event_live x on tied h (Noise bus bytes) honest joins = tt
  event_live x on tied h (Idles bus requester) honest joins = tt
  event_live x on tied h (OnBench activity) honest joins = tt

  pub all_own : (events : List Event) (x : Lab (own_plans setup names)) (on : States (own_lines setup names)) → IsTied setup names x on → HoldsInWorld setup names plan start (world_of setup names x on)
      → AllHonest (own_plans setup names) setup events x → AllJoinLive (own_plans setup names) setup events x → AllOwn (own_plans setup names) setup events x
  all_own [] x on tied h honest joins = tt
  all_own (e ∷ es) x on tied h honest joins =
      let next : Lab (own_plans setup names) = step (own_plans setup names) setup x e in
      let own = event_own x on tied h e honest.0 joins.0 in
      let one : WorldFollows setup names x on next = event_followed x e honest.0 own on tied h in
      (own, all_own es next one.left one.tied (still_holds x next on h (went_there setup names x next on one)) honest.1 joins.1)

  pub all_live : (events : List Event) (x : Lab (own_plans setup names)) (on : States (own_lines setup names)) → IsTied setup names x on → HoldsInWorld setup names plan start (world_of setup names x on)
      → AllHonest (own_plans setup names) setup events x → AllOwn (own_plans setup names) setup events x → AllJoinLive (own_plans setup names) setup events x
  all_live [] x on tied h honest own = tt
  all_live (e ∷ es) x on tied h honest own =
      let next : Lab (own_plans setup names) = step (own_plans setup names) setup x e in
      let one : WorldFollows setup names x on next = event_followed x e honest.0 own.0 on tied h in
      (event_live x on tied h e honest.0 own.0, all_live es next one.left one.tied (still_holds x next on h (went_there setup names x next on one)) honest.1 own.1)

  -- what a lab takes is honest
  pub taken_honest : (events : List Event) (x : Lab (own_plans setup names)) → AllTaken (own_plans setup names) setup events x → AllHonest (own_plans setup names) setup events x
  taken_honest [] x taken = tt
  taken_honest (e ∷ es) x taken = (λ bytes. (faults_are_breaches (own_plans setup names)).taken x e bytes taken.0, taken_honest es (step (own_plans setup names) setup x e) taken.1)

-- ---- the start

module _ (setup : BoardFile) (names : Names) (plan : List Op) (retries : ℕ) where
  -- nothing has happened on either bus
  abbrev pub quiet : States (own_lines setup names)
  quiet Ipmb = opening_bus []
  quiet Smbus = opening_ends []

  nothing_yet : NothingUnderWay (opening_bus [])
  nothing_yet = record { begun = refl; carried = refl; taken = refl; frames = refl }

  nothing_sound : AreSoundAssemblies nothing
  nothing_sound = record { fronts = λ n. tt; few = λ n. omega arith; slots = omega arith }

  nothing_counted : (bus : Bus) → count_of bus (first setup names plan retries).manager.machine.counts ≡ length (requests setup names quiet bus).taken
  nothing_counted Ipmb = refl
  nothing_counted Smbus = refl

  nothing_written : (bus : Bus) → AreWritten bus (rules_on setup names bus) (requests setup names quiet bus)
  nothing_written Ipmb = record { requests = λ n b e. absurd (none-some b e); replies = λ n k e. absurd (none-some k e) }
  nothing_written Smbus = record { requests = λ n b e. absurd (none-some b e); replies = λ n k e. absurd (none-some k e) }

  nothing_answered : (bus : Bus) → Each (EntryAnswers setup names bus) (requests setup names quiet bus).log
  nothing_answered Ipmb = tt
  nothing_answered Smbus = tt

  pub first_tied : IsTied setup names (first setup names plan retries) quiet
  first_tied = record {
    named = refl;
    ipmb_wire = refl;
    smbus_wire = refl;
    ipmb_log = refl;
    smbus_port = record { log = refl; waits = λ n. refl; sound = nothing_sound };
    waits = λ n. refl;
    alone = cc;
    counted = nothing_counted;
    written = nothing_written;
    answered = nothing_answered;
    made = record { stage = tt; undo = tt };
    frames = tt;
    opened = λ n t is. absurd is;
  }

  starts : (bus : Bus) → ((own_lines setup names) bus).IsStart (quiet bus)
  starts Ipmb = (nothing_yet, tt)
  starts Smbus = (nothing_yet, record { port = λ n e. refl; manager = λ n e. refl }, tt)

  pub is_start : IsStart (own_family setup names) (own_lines setup names) (own_wires setup names) quiet (first setup names plan retries).board
  is_start = record { on_bus = starts; valid = (starts_valid setup (addresses names)).opened_valid; ready = starts_ready setup (addresses names) }

  pub first_holds : HoldsInWorld setup names plan (first setup names plan retries).board.records (world_of setup names (first setup names plan retries) quiet)
  first_holds = opening_holds (own_family setup names) (is_family setup (addresses names)) (own_lines setup names) (packet_lines (addresses names) packets_of packets_cut) (own_wires setup names) plan retries quiet (first setup names plan retries).board is_start

  -- ---- the theorem

  goes : (events : List Event) → IsHonestAndOwn setup names plan retries events → Ran setup names plan (first setup names plan retries).board.records events (first setup names plan retries) quiet
  goes events good = all_followed setup names plan (first setup names plan retries).board.records events (first setup names plan retries) quiet first_tied first_holds good.0 good.1

  always_stands : AlwaysStands setup names plan retries (IsHonestAndOwn setup names plan retries)
  always_stands events good =
      let x0 = first setup names plan retries in
      let g = (goes events good).went in
      let y = after setup names plan retries events in
      let h = still_holds setup names plan x0.board.records x0 y quiet first_holds g in
      stands_at (own_family setup names) (is_family setup (addresses names)) (own_lines setup names) (packet_lines (addresses names) packets_of packets_cut) (own_wires setup names) plan x0.board.records (world_of setup names y g.left) h

  -- the part of a schedule that comes first, and the rest
  pub first_honest : (events later : List Event) (x : Lab (own_plans setup names)) → AllHonest (own_plans setup names) setup (events ++ later) x → AllHonest (own_plans setup names) setup events x
  first_honest [] later x all = tt
  first_honest (e ∷ es) later x all = (all.0, first_honest es later (step (own_plans setup names) setup x e) all.1)

  pub first_own : (events later : List Event) (x : Lab (own_plans setup names)) → AllOwn (own_plans setup names) setup (events ++ later) x → AllOwn (own_plans setup names) setup events x
  first_own [] later x all = tt
  first_own (e ∷ es) later x all = (all.0, first_own es later (step (own_plans setup names) setup x e) all.1)

  pub later_honest : (events later : List Event) (x : Lab (own_plans setup names)) → AllHonest (own_plans setup names) setup (events ++ later) x → AllHonest (own_plans setup names) setup later (run (own_plans setup names) setup events x)
  unfolding run
  later_honest [] later x all = all
  later_honest (e ∷ es) later x all = later_honest es later (step (own_plans setup names) setup x e) all.1

  pub later_own : (events later : List Event) (x : Lab (own_plans setup names)) → AllOwn (own_plans setup names) setup (events ++ later) x → AllOwn (own_plans setup names) setup later (run (own_plans setup names) setup events x)
  unfolding run
  later_own [] later x all = all
  later_own (e ∷ es) later x all = later_own es later (step (own_plans setup names) setup x e) all.1

  pub both_run : (events later : List Event) (x : Lab (own_plans setup names)) → run (own_plans setup names) setup later (run (own_plans setup names) setup events x) ≡ run (own_plans setup names) setup (events ++ later) x
  unfolding run
  both_run [] later x = refl
  both_run (e ∷ es) later x = both_run es later (step (own_plans setup names) setup x e)

  -- the board has the records of the start, and shows what it showed then
  abbrev IsSame : State → Type 0
  IsSame now =
      let board = (first setup names plan retries).board in
      (now.records ≡ board.records) × ShowsSame (own_family setup names) board now × PartsShowSame (own_family setup names) board now

  undone_stays : UndoneForGood setup names plan retries (IsHonestAndOwn setup names plan retries)
  undone_stays events later good undone =
      let x0 = first setup names plan retries in
      let y = after setup names plan retries events in
      let z = run (own_plans setup names) setup later y in
      let g = (goes events (first_honest events later x0 good.0, first_own events later x0 good.1)).went in
      let h = still_holds setup names plan x0.board.records x0 y quiet first_holds g in
      let more : Went setup names y g.left z = (all_followed setup names plan x0.board.records later y g.left g.tied h (later_honest events later x0 good.0) (later_own events later x0 good.1)).went in
      let at : phase_of (own_family setup names).words (world.run (own_family setup names) (own_lines setup names) (own_wires setup names) g.happenings (world_of setup names x0 quiet)).machine ≡ Undone =
      ap (λ (w : World (own_family setup names) (own_lines setup names)). phase_of (own_family setup names).words w.machine) g.reaches ∙ undone in
      let told = undone_for_good (own_family setup names) (is_family setup (addresses names)) (own_lines setup names) (packet_lines (addresses names) packets_of packets_cut) (own_wires setup names) plan retries quiet x0.board is_start g.happenings more.happenings (goes_may setup names x0 y z quiet g more) at in
      subst (λ (l : Lab (own_plans setup names)). IsSame l.board) (both_run events later x0)
      (subst (λ (w : World (own_family setup names) (own_lines setup names)). IsSame w.board) (goes_reach setup names x0 y z quiet g more) told)

  -- ---- causes of a halt

  -- the plan is to stop only where it was told to
  stopped_by : (events : List Event) (k : ℕ) → IsHonestAndOwn setup names plan retries events → phase_after setup names plan retries events ≡ Halted k Stop → In (Calls StopCall) events
  stopped_by events k good halted =
      let x0 = first setup names plan retries in
      let y = after setup names plan retries events in
      let g = (goes events good).went in
      let h = still_holds setup names plan x0.board.records x0 y quiet first_holds g in
      let told : HaltMeans (own_family setup names) y.manager.machine.stopped plan (Halted k Stop) y.board.records =
      subst (λ (p : Phase). HaltMeans (own_family setup names) y.manager.machine.stopped plan p y.board.records) halted
      (halts_at (own_family setup names) (is_family setup (addresses names)) (own_lines setup names) (packet_lines (addresses names) packets_of packets_cut) (own_wires setup names) plan x0.board.records (world_of setup names y g.left) h) in
      told_to_stop (own_plans setup names) setup events x0 refl told

  -- an answer that is one of a run's was given at an event of it
  gave_in : (events : List Event) (given : List (GivenAnswer (own_family setup names))) → Each (GivenIn setup names plan (first setup names plan retries).board.records events (first setup names plan retries)) given
      → (k : ℕ) (asked : Asked) (a : Answered) → Gave (own_family setup names) (own_lines setup names) (own_wires setup names) given plan (first setup names plan retries).board.records k asked a → GaveIn setup names plan retries events k asked a
  gave_in events given all k asked a g =
      let x0 = first setup names plan retries in
      let one : GivenAnswer (own_family setup names) = record { before = g.before; asked = asked; answered = a; after = g.after } in
      let is = each_at (GivenIn setup names plan x0.board.records events x0) given g.is_one.0 one all (slice_get_read given (length given) g.is_one.0 one refl g.is_one.1 (sym g.is_one.2)) in
      record {
        before = is.before;
        event = is.event;
        later = is.later;
        all = is.all;
        answers = is.given.answers;
        at = subst (λ (b : State). IsAfter (own_family setup names) plan x0.board.records k b.records) is.given.before g.at;
      }

  caused : (events : List Event) (happenings : List (Happening (own_family setup names) (own_lines setup names)))
      → Each (GivenIn setup names plan (first setup names plan retries).board.records events (first setup names plan retries)) (given_in (own_family setup names) (own_lines setup names) (own_wires setup names) happenings (world_of setup names (first setup names plan retries) quiet))
      → (phase : Phase) → ((k : ℕ) → phase ≡ Halted k Stop → In (Calls StopCall) events)
      → CausedIn (own_family setup names) (own_lines setup names) (own_wires setup names) happenings (world_of setup names (first setup names plan retries) quiet) plan (first setup names plan retries).board.records phase
      → CausedBy setup names (GaveIn setup names plan retries events) (In (Calls StopCall) events) plan phase
  caused events hs all (Halted k Stop) told c = told k refl
  caused events hs all (Halted k (Refused code)) told c =
      let op = c.2.op in
      let given = given_in (own_family setup names) (own_lines setup names) (own_wires setup names) hs (world_of setup names (first setup names plan retries) quiet) in
      let answered : Answered = record { code = code; body = c.1 } in
      let gave = Gave (own_family setup names) (own_lines setup names) (own_wires setup names) given plan (first setup names plan retries).board.records k in (
        op,
        c.2.bodies,
        c.2.asked,
        c.1,
        c.2.step,
        reached_as (own_family setup names).words ((own_family setup names).words.setting op) gave (GaveIn setup names plan retries events k) (gave_in events given all k) c.2.bodies c.2.asked c.2.reached,
        gave_in events given all k c.2.asked answered c.2.gave,
        c.0,
      )
  caused events hs all (Halted k (GetRefused code)) told c =
      let op = c.2.op in
      let given = given_in (own_family setup names) (own_lines setup names) (own_wires setup names) hs (world_of setup names (first setup names plan retries) quiet) in
      let answered : Answered = record { code = code; body = c.1 } in
      let gave = Gave (own_family setup names) (own_lines setup names) (own_wires setup names) given plan (first setup names plan retries).board.records k in (
        op,
        c.2.bodies,
        c.2.asked,
        c.1,
        c.2.step,
        reached_as (own_family setup names).words ((own_family setup names).words.getting ((own_family setup names).words.key_of op)) gave (GaveIn setup names plan retries events k) (gave_in events given all k) c.2.bodies c.2.asked c.2.reached,
        gave_in events given all k c.2.asked answered c.2.gave,
        c.0,
      )
  caused events hs all (Halted k NotRestorable) told c =
      let op = c.1.op in
      let given = given_in (own_family setup names) (own_lines setup names) (own_wires setup names) hs (world_of setup names (first setup names plan retries) quiet) in
      let get = (own_family setup names).words.getting ((own_family setup names).words.key_of op) in
      let gave = Gave (own_family setup names) (own_lines setup names) (own_wires setup names) given plan (first setup names plan retries).board.records k in
      (op, c.0, c.1.step, all_answered_as (own_family setup names).words get gave (GaveIn setup names plan retries events k) (gave_in events given all k) c.0 c.1.gave, c.1.not_restorable)
  caused events hs all Fresh told c = tt
  caused events hs all (Getting k) told c = tt
  caused events hs all (Setting k) told c = tt
  caused events hs all Done told c = tt
  caused events hs all (Unsettled k) told c = tt
  caused events hs all (Undoing k) told c = tt
  caused events hs all Undone told c = tt
  caused events hs all (UndoRefused k code) told c = tt

  halts_so : HaltsByAnswers setup names plan retries (IsHonestAndOwn setup names plan retries)
  halts_so events good =
      let x0 = first setup names plan retries in
      let y = after setup names plan retries events in
      let ran = goes events good in
      let g = ran.went in
      let may = subst (λ (hs : List (Happening (own_family setup names) (own_lines setup names))). world.AllMay (own_family setup names) (own_lines setup names) (own_wires setup names) hs (world_of setup names x0 quiet)) (sym (append-nil g.happenings)) g.may in
      let there = halts_by_answers (own_family setup names) (is_family setup (addresses names)) (own_lines setup names) (packet_lines (addresses names) packets_of packets_cut) (own_wires setup names) plan retries quiet x0.board is_start g.happenings [] may in
      let phase_is : phase_of (own_family setup names).words (world.run (own_family setup names) (own_lines setup names) (own_wires setup names) g.happenings (world_of setup names x0 quiet)).machine ≡ phase_after setup names plan retries events =
      ap (λ (w : World (own_family setup names) (own_lines setup names)). phase_of (own_family setup names).words w.machine) g.reaches in
      caused events g.happenings ran.gives (phase_after setup names plan retries events) (λ k halted. stopped_by events k good halted)
      (subst (CausedIn (own_family setup names) (own_lines setup names) (own_wires setup names) g.happenings (world_of setup names x0 quiet) plan x0.board.records) phase_is there)

  -- ---- of each premise that comes to this one

  pub premises_agree : PremisesAgree setup names plan retries
  premises_agree =
      let x0 = first setup names plan retries in record {
        own = λ events good. all_own setup names plan x0.board.records events x0 quiet first_tied first_holds good.0 good.1;
        live = λ events good. all_live setup names plan x0.board.records events x0 quiet first_tied first_holds good.0 good.1;
        honest = λ events taken. taken_honest setup names plan x0.board.records events x0 taken;
      }

  pub headline_of : (Good : List Event → Type 0) → ((events : List Event) → Good events → IsHonestAndOwn setup names plan retries events) → Headline setup names plan retries Good
  headline_of Good comes_to = record {
    stands = λ events good. always_stands events (comes_to events good);
    undone = λ events later good undone. undone_stays events later (comes_to (events ++ later) good) undone;
    halts = λ events good. halts_so events (comes_to events good);
  }

  pub headline : Headline setup names plan retries (IsTrusted setup names plan retries)
  headline = headline_of (IsTrusted setup names plan retries) (λ events good. (good.0, premises_agree.own events good))

  pub headline_own : Headline setup names plan retries (IsTakenAndOwn setup names plan retries)
  headline_own = headline_of (IsTakenAndOwn setup names plan retries) (λ events good. (premises_agree.honest events good.0, good.1))
