-- Whatever happens in a lab by honest events, and however often the manager is made again, its phase stands on the records.
use Rattle.std.proofs.Common.{◌≡◌, ℕ, true, false, List, [], ◌∷◌, ◌++◌, length, refl, sym, ◌∙◌, ap, subst, ◌⊎◌, inl, inr, append-nil}
use Rattle.std.proofs.lemmas.Option.{slice_get_read}
use Rattle.std.proofs.lemmas.Bool.{false≢true}
use Rattle.record_base.specs.declared.message.Asked.{Asked}
use Rattle.record_base.specs.declared.op.Op.{Op}
use Rattle.cfg_records.specs.declared.board_file.BoardFile.{BoardFile}
use Rattle.cfg_records.specs.Records.{Records}
use Rattle.bmc_board.specs.State.{State}
use Rattle.model_bus.specs.Repeat.{In}
use Rattle.model_bus.specs.Packet.{packets_of}
use Rattle.model_bus.proofs.Cutting.{packets_cut}
use Rattle.model_bus.specs.Answered.{Answered}
use Rattle.model_undo.specs.declared.phase.Why.TheVariants.{Stop, Refused, NotRestorable, GetRefused}
use Rattle.model_undo.specs.declared.phase.Phase.{Phase}
use Rattle.model_undo.specs.declared.phase.Phase.TheVariants.{Fresh, Getting, Setting, Done, Halted, Unsettled, Undoing, Undone, UndoRefused}
use Rattle.model_undo.specs.Plan.{IsAfter, HaltMeans}
use Rattle.model_undo.specs.Giving.{GivenAnswer, given_in, GaveIn as Gave, CausedIn}
use Rattle.model_undo.proofs.Giving.{halts_by_answers}
use Rattle.model_undo.proofs.Series.{reached_as, all_answered_as}
use Rattle.model_undo.specs.Machine.{phase_of}
use Rattle.model_undo.specs.World as world
use Rattle.model_undo.specs.World.{States, World, Happening}
use Rattle.model_undo.specs.Headline.{ShowsSame, PartsShowSame}
use Rattle.model_undo.proofs.Headline.{stands_at, halts_at, undone_for_good}
use Rattle.model_undo.proofs.TwoBuses.{packet_lines}
use Rattle.model_lab.proofs.IsFamily.{is_family}
use Rattle.undo_plans.specs.declared.names.Names.{Names}
use Rattle.model_undo.specs.declared.call.Call.TheVariants.{Stop as StopCall}
use Rattle.model_lab.specs.ManagerSteps.{addresses}
use Rattle.model_lab.specs.Lab.{Event, Calls, Lab, step}
use Rattle.model_headline.specs.Each.{Each}
use Rattle.model_headline.specs.Answers.{CausedBy}
use Rattle.model_headline.specs.Tied.{own_plans, own_family, own_lines, own_wires, IsTied, IsGivenAnswer, world_of, WorldFollows}
use Rattle.model_headline.specs.Follows.{HoldsInWorld}
use Rattle.model_headline.specs.Theorem.{first}
use Rattle.model_headline.specs.Restarted.{Moment, Happens, Restarts, next, all_next, AllGood, after, phase_after, GaveIn, MakesStop, StandsOverRestarts}
use Rattle.model_headline.proofs.Goes.{Went, Quietly, went_there, stays_there, given_on, goes_may, goes_reach, goes_on, gives_both}
use Rattle.model_headline.proofs.Each.{each_at, each_imply, each_append}
use Rattle.model_headline.proofs.Restarts.{restart_quietly}
use Rattle.model_headline.proofs.Stopped.{step_same}
use Rattle.model_headline.proofs.Theorem.{event_followed, still_holds, quiet, is_start, first_tied, first_holds}

module _ (setup : BoardFile) (names : Names) (plan : List Op) (start : Records) where
  -- the answer was given at an event among the moments
  pub record GivenIn (ms : List Moment) (x : Lab (own_plans setup names)) (g : GivenAnswer (own_family setup names)) : Type 0 where
    pub before : List Moment
    pub event : Event
    pub later : List Moment
    pub all : ms ≡ before ++ (Happens event) ∷ later
    pub given : IsGivenAnswer setup names (all_next setup names before x) (step (own_plans setup names) setup (all_next setup names before x) event) g

  given_first : (e : Event) (ms : List Moment) (x : Lab (own_plans setup names)) (g : GivenAnswer (own_family setup names)) → IsGivenAnswer setup names x (step (own_plans setup names) setup x e) g → GivenIn ((Happens e) ∷ ms) x g
  given_first e ms x g is = record { before = []; event = e; later = ms; all = refl; given = is }

  given_later : (m : Moment) (ms : List Moment) (x : Lab (own_plans setup names)) (g : GivenAnswer (own_family setup names)) → GivenIn ms (next setup names x m) g → GivenIn (m ∷ ms) x g
  given_later m ms x g is = record { before = m ∷ is.before; event = is.event; later = is.later; all = ap (λ (l : List Moment). m ∷ l) is.all; given = is.given }

  -- the model's world goes on to the lab's after all moments, and gives no answer but those that are given at their events
  pub record Ran (ms : List Moment) (x : Lab (own_plans setup names)) (on : States (own_lines setup names)) : Type 0 where
    pub went : Went setup names x on (all_next setup names ms x)
    pub gives : Each (GivenIn ms x) (given_on setup names x on (all_next setup names ms x) went)

  all_followed : (ms : List Moment) (x : Lab (own_plans setup names)) (on : States (own_lines setup names)) → IsTied setup names x on → HoldsInWorld setup names plan start (world_of setup names x on)
      → AllGood setup names ms x → Ran ms x on
  all_followed [] x on tied h good = record { went = stays_there setup names x on tied; gives = tt }
  all_followed (Happens e ∷ ms) x on tied h good =
      let y : Lab (own_plans setup names) = step (own_plans setup names) setup x e in
      let last : Lab (own_plans setup names) = all_next setup names ms y in
      let one : WorldFollows setup names x on y = event_followed setup names plan start x e good.0.0 good.0.1 on tied h in
      let first = went_there setup names x y on one in
      let rest = all_followed ms y one.left one.tied (still_holds setup names plan start x y on h first) good.1 in
      record {
        went = goes_on setup names x y last on first rest.went;
        gives = subst (Each (GivenIn ((Happens e) ∷ ms) x)) (gives_both setup names x y last on first rest.went)
            (each_append (GivenIn ((Happens e) ∷ ms) x) (given_on setup names x on y first) (given_on setup names y one.left last rest.went)
            (each_imply (IsGivenAnswer setup names x y) (GivenIn ((Happens e) ∷ ms) x) (given_on setup names x on y first) (given_first e ms x) one.gives)
            (each_imply (GivenIn ms y) (GivenIn ((Happens e) ∷ ms) x) (given_on setup names y one.left last rest.went) (given_later (Happens e) ms x) rest.gives));
      }
  all_followed (Restarts ∷ ms) x on tied h good =
      let y : Lab (own_plans setup names) = next setup names x Restarts in
      let last : Lab (own_plans setup names) = all_next setup names ms y in
      let one : Quietly setup names x on y = restart_quietly setup names x on tied in
      let rest = all_followed ms y one.went.left one.went.tied (still_holds setup names plan start x y on h one.went) good.1 in
      record {
        went = goes_on setup names x y last on one.went rest.went;
        gives = subst (Each (GivenIn (Restarts ∷ ms) x)) (gives_both setup names x y last on one.went rest.went)
            (subst (λ (gs : List (GivenAnswer (own_family setup names))). Each (GivenIn (Restarts ∷ ms) x) (gs ++ given_on setup names y one.went.left last rest.went)) (sym one.none)
            (each_imply (GivenIn ms y) (GivenIn (Restarts ∷ ms) x) (given_on setup names y one.went.left last rest.went) (given_later Restarts ms x) rest.gives));
      }

  -- ---- the moments that come first, and the rest

  first_good : (ms later : List Moment) (x : Lab (own_plans setup names)) → AllGood setup names (ms ++ later) x → AllGood setup names ms x
  first_good [] later x all = tt
  first_good (m ∷ ms) later x all = (all.0, first_good ms later (next setup names x m) all.1)

  later_good : (ms later : List Moment) (x : Lab (own_plans setup names)) → AllGood setup names (ms ++ later) x → AllGood setup names later (all_next setup names ms x)
  later_good [] later x all = all
  later_good (m ∷ ms) later x all = later_good ms later (next setup names x m) all.1

  both_next : (ms later : List Moment) (x : Lab (own_plans setup names)) → all_next setup names later (all_next setup names ms x) ≡ all_next setup names (ms ++ later) x
  both_next [] later x = refl
  both_next (m ∷ ms) later x = both_next ms later (next setup names x m)

  -- ---- what makes a plan stop

  told_or_remade : (ms : List Moment) (x : Lab (own_plans setup names)) → x.manager.machine.stopped ≡ false → (all_next setup names ms x).manager.machine.stopped ≡ true
      → In (Happens (Calls StopCall)) ms ⊎ In Restarts ms
  told_or_remade [] x before stopped = absurd (false≢true (sym before ∙ stopped))
  told_or_remade (Restarts ∷ ms) x before stopped = inr (inl refl)
  told_or_remade (Happens e ∷ ms) x before stopped = elim (step_same (own_plans setup names) setup e x) [
    | inl same ↦ elim (told_or_remade ms (step (own_plans setup names) setup x e) (same ∙ before) stopped) [
      | inl told ↦ inl (inr told)
      | inr made ↦ inr (inr made)
    ]
    | inr told ↦ inl (inl (ap Happens told))
  ]

module _ (setup : BoardFile) (names : Names) (plan : List Op) (retries : ℕ) where
  abbrev begun : Lab (own_plans setup names)
  begun = first setup names plan retries

  abbrev on_start : States (own_lines setup names)
  on_start = quiet setup names plan retries

  ran : (ms : List Moment) → AllGood setup names ms begun → Ran setup names plan begun.board.records ms begun on_start
  ran ms good = all_followed setup names plan begun.board.records ms begun on_start (first_tied setup names plan retries) (first_holds setup names plan retries) good

  goes : (ms : List Moment) → AllGood setup names ms begun → Went setup names begun on_start (after setup names plan retries ms)
  goes ms good = (ran ms good).went

  holds_after : (ms : List Moment) (good : AllGood setup names ms begun) → HoldsInWorld setup names plan begun.board.records (world_of setup names (after setup names plan retries ms) (goes ms good).left)
  holds_after ms good = still_holds setup names plan begun.board.records begun (after setup names plan retries ms) on_start (first_holds setup names plan retries) (goes ms good)

  -- the board has the records of the start, and shows what it showed then
  abbrev IsSame : State → Type 0
  IsSame now = (now.records ≡ begun.board.records) × ShowsSame (own_family setup names) begun.board now × PartsShowSame (own_family setup names) begun.board now

  undone_stays : (ms later : List Moment) → AllGood setup names (ms ++ later) begun → phase_after setup names plan retries ms ≡ Undone → IsSame (after setup names plan retries (ms ++ later)).board
  undone_stays ms later good undone =
      let y = after setup names plan retries ms in
      let z = all_next setup names later y in
      let first_part = first_good setup names plan begun.board.records ms later begun good in
      let g = goes ms first_part in
      let more : Went setup names y g.left z =
      (all_followed setup names plan begun.board.records later y g.left g.tied (holds_after ms first_part) (later_good setup names plan begun.board.records ms later begun good)).went in
      let at : phase_of (own_family setup names).words (world.run (own_family setup names) (own_lines setup names) (own_wires setup names) g.happenings (world_of setup names begun on_start)).machine ≡ Undone =
      ap (λ (w : World (own_family setup names) (own_lines setup names)). phase_of (own_family setup names).words w.machine) g.reaches ∙ undone in
      let told = undone_for_good (own_family setup names) (is_family setup (addresses names)) (own_lines setup names) (packet_lines (addresses names) packets_of packets_cut) (own_wires setup names) plan retries on_start begun.board (is_start setup names plan retries) g.happenings more.happenings (goes_may setup names begun y z on_start g more) at in
      subst (λ (l : Lab (own_plans setup names)). IsSame l.board) (both_next setup names plan begun.board.records ms later begun)
      (subst (λ (w : World (own_family setup names) (own_lines setup names)). IsSame w.board) (goes_reach setup names begun y z on_start g more) told)

  stopped_by : (ms : List Moment) (k : ℕ) → AllGood setup names ms begun → phase_after setup names plan retries ms ≡ Halted k Stop → In (Happens (Calls StopCall)) ms ⊎ In Restarts ms
  stopped_by ms k good halted =
      let y = after setup names plan retries ms in
      let told : HaltMeans (own_family setup names) y.manager.machine.stopped plan (Halted k Stop) y.board.records =
      subst (λ (p : Phase). HaltMeans (own_family setup names) y.manager.machine.stopped plan p y.board.records) halted
      (halts_at (own_family setup names) (is_family setup (addresses names)) (own_lines setup names) (packet_lines (addresses names) packets_of packets_cut) (own_wires setup names) plan begun.board.records (world_of setup names y (goes ms good).left) (holds_after ms good)) in
      told_or_remade setup names plan begun.board.records ms begun refl told

  -- ---- causes of a halt

  abbrev Given : (ms : List Moment) → GivenAnswer (own_family setup names) → Type 0
  Given ms g = GivenIn setup names plan begun.board.records ms begun g

  -- an answer that is one of a run's was given at an event among the moments
  gave_in : (ms : List Moment) (given : List (GivenAnswer (own_family setup names))) → Each (Given ms) given
      → (k : ℕ) (asked : Asked) (a : Answered) → Gave (own_family setup names) (own_lines setup names) (own_wires setup names) given plan begun.board.records k asked a → GaveIn setup names plan retries ms k asked a
  gave_in ms given all k asked a g =
      let one : GivenAnswer (own_family setup names) = record { before = g.before; asked = asked; answered = a; after = g.after } in
      let is = each_at (Given ms) given g.is_one.0 one all (slice_get_read given (length given) g.is_one.0 one refl g.is_one.1 (sym g.is_one.2)) in
      record {
        before = is.before;
        event = is.event;
        later = is.later;
        all = is.all;
        answers = is.given.answers;
        at = subst (λ (b : State). IsAfter (own_family setup names) plan begun.board.records k b.records) is.given.before g.at;
      }

  caused : (ms : List Moment) (hs : List (Happening (own_family setup names) (own_lines setup names)))
      → Each (Given ms) (given_in (own_family setup names) (own_lines setup names) (own_wires setup names) hs (world_of setup names begun on_start))
      → (phase : Phase) → ((k : ℕ) → phase ≡ Halted k Stop → MakesStop setup names plan retries ms)
      → CausedIn (own_family setup names) (own_lines setup names) (own_wires setup names) hs (world_of setup names begun on_start) plan begun.board.records phase
      → CausedBy setup names (GaveIn setup names plan retries ms) (MakesStop setup names plan retries ms) plan phase
  caused ms hs all (Halted k Stop) told c = told k refl
  caused ms hs all (Halted k (Refused code)) told c =
      let given = given_in (own_family setup names) (own_lines setup names) (own_wires setup names) hs (world_of setup names begun on_start) in
      let answered : Answered = record { code = code; body = c.1 } in
      let gave = Gave (own_family setup names) (own_lines setup names) (own_wires setup names) given plan begun.board.records k in (
        c.2.op,
        c.2.bodies,
        c.2.asked,
        c.1,
        c.2.step,
        reached_as (own_family setup names).words ((own_family setup names).words.setting c.2.op) gave (GaveIn setup names plan retries ms k) (gave_in ms given all k) c.2.bodies c.2.asked c.2.reached,
        gave_in ms given all k c.2.asked answered c.2.gave,
        c.0,
      )
  caused ms hs all (Halted k (GetRefused code)) told c =
      let given = given_in (own_family setup names) (own_lines setup names) (own_wires setup names) hs (world_of setup names begun on_start) in
      let answered : Answered = record { code = code; body = c.1 } in
      let gave = Gave (own_family setup names) (own_lines setup names) (own_wires setup names) given plan begun.board.records k in (
        c.2.op,
        c.2.bodies,
        c.2.asked,
        c.1,
        c.2.step,
        reached_as (own_family setup names).words ((own_family setup names).words.getting ((own_family setup names).words.key_of c.2.op)) gave (GaveIn setup names plan retries ms k) (gave_in ms given all k) c.2.bodies c.2.asked c.2.reached,
        gave_in ms given all k c.2.asked answered c.2.gave,
        c.0,
      )
  caused ms hs all (Halted k NotRestorable) told c =
      let op = c.1.op in
      let given = given_in (own_family setup names) (own_lines setup names) (own_wires setup names) hs (world_of setup names begun on_start) in
      let get = (own_family setup names).words.getting ((own_family setup names).words.key_of op) in
      let gave = Gave (own_family setup names) (own_lines setup names) (own_wires setup names) given plan begun.board.records k in
      (op, c.0, c.1.step, all_answered_as (own_family setup names).words get gave (GaveIn setup names plan retries ms k) (gave_in ms given all k) c.0 c.1.gave, c.1.not_restorable)
  caused ms hs all Fresh told c = tt
  caused ms hs all (Getting k) told c = tt
  caused ms hs all (Setting k) told c = tt
  caused ms hs all Done told c = tt
  caused ms hs all (Unsettled k) told c = tt
  caused ms hs all (Undoing k) told c = tt
  caused ms hs all Undone told c = tt
  caused ms hs all (UndoRefused k code) told c = tt

  halts_so : (ms : List Moment) → AllGood setup names ms begun → CausedBy setup names (GaveIn setup names plan retries ms) (MakesStop setup names plan retries ms) plan (phase_after setup names plan retries ms)
  halts_so ms good =
      let r = ran ms good in
      let g = r.went in
      let may = subst (λ (hs : List (Happening (own_family setup names) (own_lines setup names))). world.AllMay (own_family setup names) (own_lines setup names) (own_wires setup names) hs (world_of setup names begun on_start)) (sym (append-nil g.happenings)) g.may in
      let there = halts_by_answers (own_family setup names) (is_family setup (addresses names)) (own_lines setup names) (packet_lines (addresses names) packets_of packets_cut) (own_wires setup names) plan retries on_start begun.board (is_start setup names plan retries) g.happenings [] may in
      let phase_is : phase_of (own_family setup names).words (world.run (own_family setup names) (own_lines setup names) (own_wires setup names) g.happenings (world_of setup names begun on_start)).machine ≡ phase_after setup names plan retries ms =
      ap (λ (w : World (own_family setup names) (own_lines setup names)). phase_of (own_family setup names).words w.machine) g.reaches in
      caused ms g.happenings r.gives (phase_after setup names plan retries ms) (λ k halted. stopped_by ms k good halted)
      (subst (CausedIn (own_family setup names) (own_lines setup names) (own_wires setup names) g.happenings (world_of setup names begun on_start) plan begun.board.records) phase_is there)

  pub stands_over_restarts : StandsOverRestarts setup names plan retries
  stands_over_restarts = record {
    stands = λ ms good. stands_at (own_family setup names) (is_family setup (addresses names)) (own_lines setup names) (packet_lines (addresses names) packets_of packets_cut) (own_wires setup names) plan begun.board.records
        (world_of setup names (after setup names plan retries ms) (goes ms good).left) (holds_after ms good);
    undone = undone_stays;
    halts = halts_so;
  }
