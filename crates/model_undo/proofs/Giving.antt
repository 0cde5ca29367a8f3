-- A halt has its cause among the answers that the board gave in its own schedule. The run is also one of a board that gives these answers
-- alone, and that board's family meets the laws too; so the cause, which is an answer of that board, is among them.
use Rattle.std.proofs.Common.{◌≡◌, ℕ, zero, suc, lit<, Bool, true, false, List, [], ◌∷◌, Option, Some, None, refl, sym, ◌∙◌, ap, subst, append-nil}
use Rattle.std.specs.Prelude.{Contains}
use Rattle.std.proofs.lemmas.List.Elements.{Contains-append_left, Contains-append_right}
use Rattle.two_wire.specs.declared.Bus.{Bus}
use Rattle.model_bus.specs.Answered.{Answered}
use Rattle.model_undo.specs.declared.phase.Why.TheVariants.{Stop, Refused, NotRestorable, GetRefused}
use Rattle.model_undo.specs.declared.phase.Phase.{Phase}
use Rattle.model_undo.specs.declared.phase.Phase.TheVariants.{Fresh, Getting, Setting, Done, Halted, Unsettled, Undoing, Undone, UndoRefused}
use Rattle.model_undo.specs.Family.{Family, GaveAnswer, SetsTo}
use Rattle.model_undo.specs.IsFamily.{ShownRecord, AnswersSet, AreKinds, IsFamily}
use Rattle.model_undo.specs.Plan.{IsAfter, PhaseMeans, GaveGet, GaveSet, GaveUnrestorable, HaltMeans}
use Rattle.model_undo.specs.Machine.{Stage, AtStart, Opened, AtEnd, AtHalt, AtUndone, AtRefused, Turn, bus_at, same_bus, start_of, quiet_of, stop_of, again_of, undo_of, reply_of, phase_of}
use Rattle.model_undo.specs.Wires.{Wires}
use Rattle.model_undo.specs.Line.{Exchange, Line}
use Rattle.model_undo.specs.declared.call.Call.TheVariants.{Start, Quiet, Stop as StopCall, Again, Undo}
use Rattle.model_undo.specs.World as world
use Rattle.model_undo.specs.World.{World, Happening, Calls, Resume, Restart, ToManager, OnBus, OnBench, BoardMay, happens, run, MayHappen, AllMay, opening}
use Rattle.model_undo.specs.Headline.{IsStart}
use Rattle.model_undo.specs.Giving.{GivenAnswer, given_by, given_at, given_in, GaveIn, GaveGetIn, GaveSetIn, GaveUnrestorableIn, CausedIn, HaltsByAnswers}
use Rattle.model_undo.proofs.Series.{reached_as, all_answered_as}
use Rattle.model_undo.proofs.LineLaws.{IsLine}
use Rattle.model_undo.proofs.Headline.{always_stands, may_prefix, stops_only_if_told}

-- the family whose board answers by the command relation, and gives no answer but these
abbrev pub giving : (F : Family) → List (GivenAnswer F) → Family
giving F given = record F { Row = λ b asked a after. F.Row b asked a after × Contains given (record { before = b; asked = asked; answered = a; after = after }) }

module _ (F : Family) (laws : IsFamily F) (given : List (GivenAnswer F)) where
  -- ---- it meets the laws

  showed : (key : F.words.Key) (body : List ℕ) (r : F.Records) → ShownRecord F key body r → ShownRecord (giving F given) key body r
  showed key body r s = record { value = s.value; found = s.found; shows = s.shows }

  does : (op : F.words.Op) (old new : F.Records) → SetsTo F op old new → SetsTo (giving F given) op old new
  does op old new s = record { before = s.before; after = s.after; found = s.found; sets = s.sets; changed = s.changed }

  did : (op : F.words.Op) (old new : F.Records) → SetsTo (giving F given) op old new → SetsTo F op old new
  did op old new s = record { before = s.before; after = s.after; found = s.found; sets = s.sets; changed = s.changed }

  set_by : (b after : F.Board) (op : F.words.Op) (bodies : List (List ℕ)) (a : Answered) → AnswersSet (giving F given) op bodies b a after → AnswersSet F op bodies b a after
  set_by b after op bodies a set = record { asked = set.asked; is_next = set.is_next; ready = set.ready; row = set.row.0 }

  gave_by : (r : F.Records) (asked : F.words.Asked) (a : Answered) → GaveAnswer (giving F given) r asked a → GaveAnswer F r asked a
  gave_by r asked a gave = (gave.0, gave.1, gave.2, gave.3.0)

  giving_kinds : AreKinds (giving F given)
  giving_kinds = record {
    put_back = laws.kinds.put_back;
    get_put = laws.kinds.get_put;
    put_valid = laws.kinds.put_valid;
    sets_valid = laws.kinds.sets_valid;
    sets_one = laws.kinds.sets_one;
    same_key = laws.kinds.same_key;
    undoes = laws.kinds.undoes;
    restores = laws.kinds.restores;
    refuses = laws.kinds.refuses;
    steady = laws.kinds.steady;
  }

  giving_is_family : IsFamily (giving F given)
  giving_is_family = record {
    kinds = giving_kinds;
    gets_steady = λ b after c later asked other key a d is is_too same valid row row_too. laws.gets_steady b after c later asked other key a d is is_too same valid row.0 row_too.0;
    gets_agree = λ b after c later asked other key a d is is_too same row row_too. laws.gets_agree b after c later asked other key a d is is_too same row.0 row_too.0;
    parts_keep = λ b after key asked a is row. laws.parts_keep b after key asked a is row.0;
    parts_show = λ r key bodies valid all.
        let get = F.words.getting key in
        showed key (F.words.joined get bodies) r (laws.parts_show r key bodies valid (all_answered_as F.words get (GaveAnswer (giving F given) r) (GaveAnswer F r) (gave_by r) bodies all));
    sets_go_on = λ b after op bodies a asked set carried is. laws.sets_go_on b after op bodies a asked (set_by b after op bodies a set) carried is;
    sets_do = λ b after op bodies a set carried is. does op (F.records b) (F.records after) (laws.sets_do b after op bodies a (set_by b after op bodies a set) carried is);
    refusals_keep = λ b after op bodies a set ne. laws.refusals_keep b after op bodies a (set_by b after op bodies a set) ne;
    refusals_say = λ b after op bodies a set ne r s. laws.refusals_say b after op bodies a (set_by b after op bodies a set) ne r (did op (F.records b) r s);
    stays_ready = λ b after asked a made free row. laws.stays_ready b after asked a made free row.0;
    never_busy = λ b after asked a row. laws.never_busy b after asked a row.0;
  }

  -- ---- the same run

  module _ (L : Bus → Line) (W : Wires F.words) where
    abbrev as_given : World F L → World (giving F given) L
    as_given w = record { machine = w.machine; on = w.on; board = w.board }

    abbrev event_given : Happening F L → Happening (giving F given) L
    event_given (Calls call) = Calls call
    event_given (Resume retries) = Resume retries
    event_given Restart = Restart
    event_given (ToManager bus e) = ToManager bus e
    event_given (OnBus bus e after) = OnBus bus e after
    event_given (OnBench after) = OnBench after

    abbrev all_given : List (Happening F L) → List (Happening (giving F given) L)
    all_given [] = []
    all_given (e ∷ es) = event_given e ∷ all_given es

    opens_same : (o : Option (Turn F.words)) (w : World F L) → as_given (world.opens F L W o w) ≡ world.opens (giving F given) L W o (as_given w)
    opens_same None w = refl
    opens_same (Some t) w = refl

    repeats_same : (o : Option (Turn F.words)) (w : World F L) → as_given (world.repeats F L W o w) ≡ world.repeats (giving F given) L W o (as_given w)
    repeats_same None w = refl
    repeats_same (Some t) w = refl

    resumes_same : (retries : ℕ) (stage : Stage F.words) (w : World F L) → as_given (world.resumes F L W retries stage w) ≡ world.resumes (giving F given) L W retries stage (as_given w)
    resumes_same retries AtEnd w = refl
    resumes_same retries (AtHalt k why) w = refl
    resumes_same retries AtStart w = refl
    resumes_same retries (Opened heeded task part) w = refl
    resumes_same retries AtUndone w = refl
    resumes_same retries (AtRefused k code) w = refl

    answered_same : (bus : Bus) (e : (L bus).Event) (o : Option (Turn F.words)) (w : World F L) → as_given (world.answered F L W bus e o w) ≡ world.answered (giving F given) L W bus e o (as_given w)
    answered_same bus e None w = refl
    answered_same bus e (Some t) w = refl

    brought_same : (bus : Bus) (e : (L bus).Event) (o : Option (List ℕ)) (w : World F L) → as_given (world.brought F L W bus e o w) ≡ world.brought (giving F given) L W bus e o (as_given w)
    brought_same bus e None w = refl
    brought_same bus e (Some reply) w = answered_same bus e (reply_of F.words (W.answered_from bus reply) w.machine) w

    looks_same : (bus : Bus) (e : (L bus).Event) (b : Bool) (w : World F L) → as_given (world.looks F L W bus e b w) ≡ world.looks (giving F given) L W bus e b (as_given w)
    looks_same bus e false w = refl
    looks_same bus e true w = brought_same bus e ((L bus).brings (w.on bus) e) w

    returns_same : (bus : Bus) (e : (L bus).Event) (stage : Stage F.words) (w : World F L) → as_given (world.returns F L W bus e stage w) ≡ world.returns (giving F given) L W bus e stage (as_given w)
    returns_same bus e (Opened true task part) w = looks_same bus e (same_bus bus (bus_at F.words part)) w
    returns_same bus e (Opened false task part) w = refl
    returns_same bus e AtStart w = refl
    returns_same bus e AtEnd w = refl
    returns_same bus e (AtHalt k why) w = refl
    returns_same bus e AtUndone w = refl
    returns_same bus e (AtRefused k code) w = refl

    happens_same : (w : World F L) (e : Happening F L) → as_given (happens F L W w e) ≡ happens (giving F given) L W (as_given w) (event_given e)
    happens_same w (Calls Start) = opens_same (start_of F.words w.machine) w
    happens_same w (Calls Quiet) = repeats_same (quiet_of F.words w.machine) w
    happens_same w (Calls StopCall) = opens_same (stop_of F.words w.machine) w
    happens_same w (Calls Again) = repeats_same (again_of F.words w.machine) w
    happens_same w (Calls Undo) = opens_same (undo_of F.words w.machine) w
    happens_same w (Resume retries) = resumes_same retries w.machine.stage w
    happens_same w Restart = refl
    happens_same w (ToManager bus e) = returns_same bus e w.machine.stage w
    happens_same w (OnBus bus e after) = refl
    happens_same w (OnBench after) = refl

    run_same : (events : List (Happening F L)) (w : World F L) → as_given (run F L W events w) ≡ run (giving F given) L W (all_given events) (as_given w)
    run_same [] w = refl
    run_same (e ∷ es) w = run_same es (happens F L W w e) ∙ ap (run (giving F given) L W (all_given es)) (happens_same w e)

    -- ---- it may happen there too, where its answers are among those that are given

    board_may : (bus : Bus) (o : Option Exchange) (board after : F.Board) → ((g : GivenAnswer F) → Contains (given_by F L W bus o board after) g → Contains given g) → BoardMay F L W bus o board after → BoardMay (giving F given) L W bus o board after
    board_may bus None board after all may = may
    board_may bus (Some x) board after all may =
        let a = may.0 in
        let asked = W.asked_from bus x.bytes in
        let told : W.answered_from bus x.reply ≡ a = ap (W.answered_from bus) may.1 ∙ W.same_reply bus x.bytes a in
        let g : GivenAnswer F = record { before = board; asked = asked; answered = W.answered_from bus x.reply; after = after } in
        let is_one : Contains given g = all g (0, lit< tt, refl) in
        (a, may.1, (may.2, subst (λ (y : Answered). Contains given (record { before = board; asked = asked; answered = y; after = after })) told is_one))

    may_given : (w : World F L) (e : Happening F L) → ((g : GivenAnswer F) → Contains (given_at F L W w e) g → Contains given g) → MayHappen F L W w e → MayHappen (giving F given) L W (as_given w) (event_given e)
    may_given w (Calls call) all may = tt
    may_given w (Resume retries) all may = tt
    may_given w Restart all may = tt
    may_given w (ToManager bus e) all may = may
    may_given w (OnBus bus e after) all may = (may.0, may.1, board_may bus ((L bus).carries (w.on bus) e) w.board after all may.2)
    may_given w (OnBench after) all may = may

    all_may_given : (events : List (Happening F L)) (w : World F L) → ((g : GivenAnswer F) → Contains (given_in F L W events w) g → Contains given g) → AllMay F L W events w → AllMay (giving F given) L W (all_given events) (as_given w)
    all_may_given [] w all may = tt
    all_may_given (e ∷ es) w all may = (
      may_given w e (λ g one. all g (Contains-append_left (given_at F L W w e) (given_in F L W es (happens F L W w e)) g one)) may.0,
      subst (AllMay (giving F given) L W (all_given es)) (happens_same w e)
          (all_may_given es (happens F L W w e) (λ g one. all g (Contains-append_right (given_at F L W w e) (given_in F L W es (happens F L W w e)) g one)) may.1),
    )

    -- ---- what holds of that run holds of this one

    after_same : (plan : List F.words.Op) (start : F.Records) (k : ℕ) (r : F.Records) → IsAfter (giving F given) plan start k r → IsAfter F plan start k r
    after_same plan start zero r h = h
    after_same plan start (suc k) r h = (h.0, h.1, after_same plan start k h.0 h.2, h.3, did h.1 h.0 r h.4)

    gave_one : (plan : List F.words.Op) (start : F.Records) (k : ℕ) (r : F.Records) → IsAfter F plan start k r → (asked : F.words.Asked) (a : Answered) → GaveAnswer (giving F given) r asked a → GaveIn F L W given plan start k asked a
    gave_one plan start k r at asked a gave = record { before = gave.0; after = gave.1; is_one = gave.3.1; row = gave.3.0; at = subst (IsAfter F plan start k) (sym gave.2) at }

    gave_get : (plan : List F.words.Op) (start : F.Records) (k : ℕ) (a : Answered) (r : F.Records) → IsAfter F plan start k r → GaveGet (giving F given) plan k a r → GaveGetIn F L W given plan start k a
    gave_get plan start k a r at g = record {
      op = g.op;
      step = g.step;
      bodies = g.bodies;
      asked = g.asked;
      reached = reached_as F.words (F.words.getting (F.words.key_of g.op)) (GaveAnswer (giving F given) r) (GaveIn F L W given plan start k) (gave_one plan start k r at) g.bodies g.asked g.reached;
      gave = gave_one plan start k r at g.asked a g.gave;
    }

    gave_set : (plan : List F.words.Op) (start : F.Records) (k : ℕ) (a : Answered) (r : F.Records) → IsAfter F plan start k r → GaveSet (giving F given) plan k a r → GaveSetIn F L W given plan start k a
    gave_set plan start k a r at g = record {
      op = g.op;
      step = g.step;
      bodies = g.bodies;
      asked = g.asked;
      reached = reached_as F.words (F.words.setting g.op) (GaveAnswer (giving F given) r) (GaveIn F L W given plan start k) (gave_one plan start k r at) g.bodies g.asked g.reached;
      gave = gave_one plan start k r at g.asked a g.gave;
    }

    gave_all : (plan : List F.words.Op) (start : F.Records) (k : ℕ) (bodies : List (List ℕ)) (r : F.Records) → IsAfter F plan start k r → GaveUnrestorable (giving F given) plan k bodies r → GaveUnrestorableIn F L W given plan start k bodies
    gave_all plan start k bodies r at g = record {
      op = g.op;
      step = g.step;
      gave = all_answered_as F.words (F.words.getting (F.words.key_of g.op)) (GaveAnswer (giving F given) r) (GaveIn F L W given plan start k) (gave_one plan start k r at) bodies g.gave;
      not_restorable = g.not_restorable;
    }

module _ (F : Family) (laws : IsFamily F) (L : Bus → Line) (lines : (bus : Bus) → IsLine (L bus)) (W : Wires F.words) where
  -- a halt, by what holds of the run in which the board gives these answers alone
  caused : (events : List (Happening F L)) (w : World F L) (plan : List F.words.Op) (start : F.Records) (stopped : Bool) (phase : Phase) (r : F.Records)
      → ((k : ℕ) → phase ≡ Halted k Stop → CausedIn F L W events w plan start (Halted k Stop))
      → PhaseMeans (giving F (given_in F L W events w)) plan start phase r → HaltMeans (giving F (given_in F L W events w)) stopped plan phase r
      → CausedIn F L W events w plan start phase
  caused events w plan start stopped (Halted k Stop) r told at h = told k refl
  caused events w plan start stopped (Halted k (Refused code)) r told at h =
      let given = given_in F L W events w in
      (h.0, h.1, gave_set F laws given L W plan start k (record { code = code; body = h.1 }) r (after_same F laws given L W plan start k r at) h.2)
  caused events w plan start stopped (Halted k (GetRefused code)) r told at h =
      let given = given_in F L W events w in
      (h.0, h.1, gave_get F laws given L W plan start k (record { code = code; body = h.1 }) r (after_same F laws given L W plan start k r at) h.2)
  caused events w plan start stopped (Halted k NotRestorable) r told at h =
      let given = given_in F L W events w in
      (h.0, gave_all F laws given L W plan start k h.0 r (after_same F laws given L W plan start k r at) h.1)
  caused events w plan start stopped Fresh r told at h = tt
  caused events w plan start stopped (Getting k) r told at h = tt
  caused events w plan start stopped (Setting k) r told at h = tt
  caused events w plan start stopped Done r told at h = tt
  caused events w plan start stopped (Unsettled k) r told at h = tt
  caused events w plan start stopped (Undoing k) r told at h = tt
  caused events w plan start stopped Undone r told at h = tt
  caused events w plan start stopped (UndoRefused k code) r told at h = tt

  pub halts_by_answers : HaltsByAnswers F L W
  halts_by_answers plan retries on board start events later all =
      let w0 = opening F L plan retries on board in
      let may = may_prefix F L W events later w0 all in
      let given = given_in F L W events w0 in
      let G = giving F given in
      let there : IsStart G L W on board = record { on_bus = start.on_bus; valid = start.valid; ready = start.ready } in
      let may_there : AllMay G L W (all_given F laws given L W events) (opening G L plan retries on board) = all_may_given F laws given L W events w0 (λ g one. one) may in
      let ends = append-nil (all_given F laws given L W events) in
      let stands = always_stands G (giving_is_family F laws given) L lines W plan retries on board there (all_given F laws given L W events) []
      (subst (λ (es : List (Happening G L)). AllMay G L W es (opening G L plan retries on board)) (sym ends) may_there) in
      let same = run_same F laws given L W events w0 in
      let here = subst (λ (w : World G L). PhaseMeans G plan (F.records board) (phase_of F.words w.machine) (F.records w.board) × HaltMeans G w.machine.stopped plan (phase_of F.words w.machine) (F.records w.board)) (sym same) stands in
      let w = run F L W events w0 in
      caused events w0 plan (F.records board) w.machine.stopped (phase_of F.words w.machine) (F.records w.board)
      (λ k halted. stops_only_if_told F laws L lines W plan retries k on board start events may halted) here.0 here.1
