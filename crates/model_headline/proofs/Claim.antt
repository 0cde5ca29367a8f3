-- The claim holds, since the model's headline does.
use Rattle.std.proofs.Common.{◌≡◌, ℕ, List, [], ◌∷◌, ◌++◌, map, refl, sym, ◌∙◌, ap, subst, inl, inr}
use Rattle.std.proofs.lemmas.List.{map-append, append_cancel_right}
use Rattle.two_wire.specs.declared.Bus.{Bus}
use Rattle.two_wire.specs.declared.Bus.TheVariants.{Ipmb, Smbus}
use Rattle.record_base.specs.declared.op.Op.{Op}
use Rattle.record_base.specs.declared.message.Asked.{Asked}
use Rattle.record_base.specs.declared.message.Answered.{Answered}
use Rattle.cfg_records.specs.declared.board_file.BoardFile.{BoardFile}
use Rattle.record_kinds.specs.Limits.{key_of}
use Rattle.bmc_board.specs.Row.{Row}
use Rattle.bmc_board.proofs.OneAnswer.{has_one_answer}
use Rattle.undo_plans.specs.declared.names.Names.{Names}
use Rattle.model_bus.specs.Request as bus
use Rattle.model_bus.specs.Repeat.{In}
use Rattle.model_bus.specs.Answered.{Answered as UndoAnswered}
use Rattle.model_undo.specs.Plan as plans
use Rattle.model_undo.specs.Machine as machine
use Rattle.model_undo.specs.Headline as undo_headline
use Rattle.model_lab.specs.WireLaws.{reply_read}
use Rattle.bmc_core.specs.Wires.{asked_from, answered_from}
use Rattle.model_lab.specs.ManagerSteps.{addresses}
use Rattle.model_lab.specs.Lab as lab
use Rattle.model_headline.specs.Each.{Each}
use Rattle.model_headline.specs.Tied.{own_family}
use Rattle.model_headline.specs.Answers as answers
use Rattle.model_headline.specs.Theorem as law
use Rattle.model_headline.proofs.Theorem.{headline}
use Rattle.model_headline.specs.Manager.{Call, Start, Quiet, Stop, Again, Undo, Why, GetRefused, Refused, NotRestorable, Phase, Halted, Undone, Reads, sends, own_on, by_manager}
use Rattle.model_headline.specs.Lab.{Heard, Entry, Carried, Idled, Event, Calls, ToBmc, ToMgr, OtherIpmb, OtherSmbus, Noise, Idles, OnBench, Lab, port_on, step}
use Rattle.model_headline.specs.Claim.{ours, AllHonest, first, after, GaveIn, IsCause, Claim}
use Rattle.model_headline.proofs.ClaimSeries.{board_of, all_given, refused_so}
use Rattle.model_headline.proofs.Labs.{none_orderly, Steps, step_so}
use Rattle.model_headline.proofs.Honesty.{Runs, runs_so, first_honest, later_honest}
use Rattle.model_headline.proofs.Grows.{step_grows}
use Rattle.model_headline.proofs.Meaning.{after_so, stands_so, shows_so, shows_parts}
use Rattle.model_headline.specs.Seen.{bare, seen_entry, seen_log, words_of, seen_plans, seen_words, spell, seen_call, seen_event, seen_why, seen_lab, stage_of, SeenManager}
use Rattle.model_headline.proofs.Holds.{Reads as EntryReads, Holds}
use Rattle.model_undo.specs.declared.call.Call.TheVariants as lab_call
use Rattle.model_undo.specs.declared.phase.Phase.TheVariants as undo_phase

-- ---- a log that grew by one entry

entry_same : (x y : bus.Entry) (xs ys : List bus.Entry) → x ∷ xs ≡ y ∷ ys → (x ≡ y) × (xs ≡ ys)
entry_same x y xs ys e = (ap head e, ap tail e)
  where
    head : List bus.Entry → bus.Entry
    head [] = x
    head (z ∷ zs) = z

    tail : List bus.Entry → List bus.Entry
    tail [] = xs
    tail (z ∷ zs) = zs

module _ (on : Bus) where
  -- the entry that was added
  record Added (kept : bus.Kept) (newer log : List Entry) : Type 0 where
    pub heard : Heard
    pub answer : Answered
    pub is : newer ≡ Carried heard answer ∷ log
    pub request : bare heard ≡ kept.request
    pub reply : spell on heard.bytes answer ≡ kept.reply

  -- what an entry of the model holds
  abbrev kept_in : bus.Entry → bus.Kept → bus.Kept
  kept_in (bus.Carried kept) other = kept
  kept_in (bus.Idled q) other = other

  one_added : (kept : bus.Kept) (more log newer : List Entry) → newer ≡ more ++ log → map (seen_entry (spell on)) more ≡ bus.Carried kept ∷ [] → Added kept newer log
  one_added kept [] log newer is e = absurd cc
  one_added kept (Idled q ∷ more) log newer is e = absurd (let both = (entry_same (bus.Idled q) (bus.Carried kept) (map (seen_entry (spell on)) more) [] e).0 in cc)
  one_added kept (Carried r a ∷ f ∷ more) log newer is e = absurd (let rest = (entry_same (seen_entry (spell on) (Carried r a)) (bus.Carried kept) (map (seen_entry (spell on)) (f ∷ more)) [] e).1 in cc)
  one_added kept (Carried r a ∷ []) log newer is e =
      let one : bus.Kept = record { request = bare r; reply = spell on r.bytes a } in
      let same : one ≡ kept = ap (λ (x : bus.Entry). kept_in x kept) (entry_same (bus.Carried one) (bus.Carried kept) [] [] e).0 in
      record { heard = r; answer = a; is = is; request = ap (λ (k : bus.Kept). k.request) same; reply = ap (λ (k : bus.Kept). k.reply) same }

  added : (kept : bus.Kept) (more log newer : List Entry) → newer ≡ more ++ log → seen_log (spell on) newer ≡ bus.Carried kept ∷ seen_log (spell on) log → Added kept newer log
  added kept more log newer is e =
      one_added kept more log newer is
      (append_cancel_right (map (seen_entry (spell on)) more) (bus.Carried kept ∷ []) (seen_log (spell on) log)
      (sym (map-append (seen_entry (spell on)) more log) ∙ ap (seen_log (spell on)) (sym is) ∙ e))

-- ---- parts of a schedule

-- an event of the model's schedule is one of this
record Split (events : List Event) (before later : List lab.Event) (event : lab.Event) : Type 0 where
  pub earlier : List Event
  pub here : Event
  pub rest : List Event
  pub all : events ≡ earlier ++ here ∷ rest
  pub same_before : before ≡ map seen_event earlier
  pub same_event : event ≡ seen_event here

event_same : (x y : lab.Event) (xs ys : List lab.Event) → x ∷ xs ≡ y ∷ ys → (x ≡ y) × (xs ≡ ys)
event_same x y xs ys e = (ap head e, ap tail e)
  where
    head : List lab.Event → lab.Event
    head [] = x
    head (z ∷ zs) = z

    tail : List lab.Event → List lab.Event
    tail [] = xs
    tail (z ∷ zs) = zs

split : (events : List Event) (before later : List lab.Event) (event : lab.Event) → map seen_event events ≡ before ++ event ∷ later → Split events before later event
split [] [] later event e = absurd cc
split [] (b ∷ before) later event e = absurd cc
split (f ∷ fs) [] later event e = record { earlier = []; here = f; rest = fs; all = refl; same_before = refl; same_event = sym (event_same (seen_event f) event (map seen_event fs) later e).0 }
split (f ∷ fs) (b ∷ before) later event e =
    let both = event_same (seen_event f) b (map seen_event fs) (before ++ event ∷ later) e in
    let more = split fs before later event both.1 in
    record {
      earlier = f ∷ more.earlier;
      here = more.here;
      rest = more.rest;
      all = ap (λ (es : List Event). f ∷ es) more.all;
      same_before = λ i. sym both.0 i ∷ more.same_before i;
      same_event = more.same_event;
    }

-- a call of `stop` in the model is one here
stop_call : (call : Call) → lab.Calls (seen_call call) ≡ lab.Calls lab_call.Stop → call ≡ Stop
stop_call Start e = absurd cc
stop_call Quiet e = absurd cc
stop_call Stop e = refl
stop_call Again e = absurd cc
stop_call Undo e = absurd cc

stop_event : (e : Event) → seen_event e ≡ lab.Calls lab_call.Stop → e ≡ Calls Stop
stop_event (Calls call) e = ap Calls (stop_call call e)
stop_event (ToBmc place) e = absurd cc
stop_event (ToMgr place) e = absurd cc
stop_event (OtherIpmb r) e = absurd cc
stop_event (OtherSmbus m) e = absurd cc
stop_event (Noise on bytes) e = absurd cc
stop_event (Idles on requester) e = absurd cc
stop_event (OnBench activity) e = absurd cc

record HasStop (events : List Event) : Type 0 where
  pub earlier : List Event
  pub rest : List Event
  pub all : events ≡ earlier ++ Calls Stop ∷ rest

has_stop : (events : List Event) → In (lab.Calls lab_call.Stop) (map seen_event events) → HasStop events
has_stop [] is = absurd is
has_stop (e ∷ es) (inl is) = record { earlier = []; rest = es; all = ap (λ (f : Event). f ∷ es) (stop_event e is) }
has_stop (e ∷ es) (inr is) = let more = has_stop es is in record { earlier = e ∷ more.earlier; rest = more.rest; all = ap (λ (fs : List Event). e ∷ fs) more.all }

-- ---- the claim

-- nothing was put together yet
abbrev pub nothing_made : SeenManager
nothing_made = record { ipmb = []; smbus = []; manager = [] }

module _ (setup : BoardFile) (names : Names) (plan : List Op) (retries : ℕ) where
  abbrev start : Lab
  start = first setup (ours setup) names plan retries

  pub start_holds : Holds names start
  start_holds = record { ipmb_orderly = none_orderly; smbus_orderly = none_orderly; manager_orderly = none_orderly; ipmb_reads = tt; smbus_reads = tt; frames = tt }

  pub ran : (events : List Event) → AllHonest (ours setup) names events start → Runs setup names events nothing_made start
  ran events all = runs_so setup names events nothing_made start start_holds all

  abbrev Trusted : List lab.Event → Type 0
  Trusted = law.IsTrusted setup names plan retries

  theorem : law.Headline setup names plan retries Trusted
  theorem = headline setup names plan retries

  stands : (events : List Event) (all : AllHonest (ours setup) names events start)
      → plans.PhaseMeans (own_family setup names) plan start.board.records (machine.phase_at (seen_words names) (stage_of names (after setup (ours setup) names plan retries events).manager.phase)) (after setup (ours setup) names plan retries events).board.records
  stands events all =
      let g = ran events all in
      subst (λ (y : lab.Lab (seen_plans names)). plans.PhaseMeans (own_family setup names) plan start.board.records (machine.phase_of (seen_words names) y.manager.machine) y.board.records) g.is
      (theorem.stands (map seen_event events) (g.honest, g.live))

  record Same (x : Lab) : Type 0 where
    pub records : x.board.records ≡ start.board.records
    pub shows : undo_headline.ShowsSame (own_family setup names) start.board x.board

  undone : (events later : List Event) → AllHonest (ours setup) names (events ++ later) start → (after setup (ours setup) names plan retries events).manager.phase ≡ Undone → Same (after setup (ours setup) names plan retries (events ++ later))
  undone events later all at_undone =
      let g = ran (events ++ later) all in
      let f = ran events (first_honest setup names events later start all) in
      let split_map : map seen_event (events ++ later) ≡ map seen_event events ++ map seen_event later = map-append seen_event events later in
      let trusted : Trusted (map seen_event events ++ map seen_event later) = subst Trusted split_map (g.honest, g.live) in
      let phase_undone : law.phase_after setup names plan retries (map seen_event events) ≡ undo_phase.Undone =
      ap (λ (y : lab.Lab (seen_plans names)). machine.phase_of (seen_words names) y.manager.machine) f.is ∙ ap (λ (p : Phase). machine.phase_at (seen_words names) (stage_of names p)) at_undone in
      let end : law.after setup names plan retries (map seen_event events ++ map seen_event later) ≡ seen_lab names g.made_then (after setup (ours setup) names plan retries (events ++ later)) =
      ap (law.after setup names plan retries) (sym split_map) ∙ g.is in
      let told = theorem.undone (map seen_event events) (map seen_event later) trusted phase_undone in
      record {
        records = ap (λ (y : lab.Lab (seen_plans names)). y.board.records) (sym end) ∙ told.0;
        shows = subst (λ (y : lab.Lab (seen_plans names)). undo_headline.ShowsSame (own_family setup names) start.board y.board) end told.1;
      }

  -- ---- causes of a halt

  pub port_log : (on : Bus) (made : SeenManager) (x : Lab) → (lab.port_on (seen_plans names) on (seen_lab names made x)).log ≡ seen_log (spell on) (port_on on x).log
  port_log Ipmb made x = refl
  port_log Smbus made x = refl

  pub holds_reads : (on : Bus) (x : Lab) → Holds names x → Each (EntryReads names on) (port_on on x).log
  holds_reads Ipmb x h = h.ipmb_reads
  holds_reads Smbus x h = h.smbus_reads

  module _ (earlier : List Event) (here : Event) (rest : List Event) (all : AllHonest (ours setup) names (earlier ++ here ∷ rest) start) where
    abbrev z : Lab
    z = after setup (ours setup) names plan retries earlier

    f : Runs setup names earlier nothing_made start
    f = ran earlier (first_honest setup names earlier (here ∷ rest) start all)

    one : Steps setup names (lab.step (seen_plans names) setup (seen_lab names f.made_then z) (seen_event here)) (step (ours setup) names z here)
    one = step_so setup names f.made_then z f.holds here (later_honest setup names earlier (here ∷ rest) start all).0

    -- what the board answered at the event, as this lab has it
    record Given (asked : Asked) (a : UndoAnswered) : Type 0 where
      pub on : Bus
      pub heard : Heard
      pub from_manager : heard.requester ≡ own_on on names
      pub asks : heard.asked ≡ asked
      pub carried : (port_on on (step (ours setup) names z here)).log ≡ Carried heard (board_of a) ∷ (port_on on z).log
      pub row : Row setup z.board asked (board_of a) (step (ours setup) names z here).board

    given : (asked : Asked) (a : UndoAnswered) → answers.AnswerGiven setup names (seen_lab names f.made_then z) (seen_lab names one.made (step (ours setup) names z here)) asked a → Given asked a
    given asked a was =
        let on = was.bus in
        let grown = step_grows (ours setup) names on z here in
        let carried_so : seen_log (spell on) (port_on on (step (ours setup) names z here)).log ≡ bus.Carried was.kept ∷ seen_log (spell on) (port_on on z).log =
        sym (port_log on one.made (step (ours setup) names z here)) ∙ was.carried ∙ ap (λ (log : List bus.Entry). bus.Carried was.kept ∷ log) (port_log on f.made_then z) in
        let put = added on was.kept grown.more (port_on on z).log (port_on on (step (ours setup) names z here)).log grown.is carried_so in
        let bytes_same : put.heard.bytes ≡ was.kept.request.bytes = ap (λ (r : bus.Request). r.bytes) put.request in
        let asker : put.heard.requester ≡ own_on on names = ap (λ (r : bus.Request). r.requester) put.request ∙ was.from_manager in
        let reads : Each (EntryReads names on) (Carried put.heard put.answer ∷ (port_on on z).log) = subst (Each (EntryReads names on)) put.is (holds_reads on (step (ours setup) names z here) one.holds) in
        let answer_same : put.answer ≡ board_of a =
        ap board_of (sym (reply_read on put.heard.bytes (words_of put.answer)) ∙ ap (answered_from on) (put.reply ∙ was.replies) ∙ reply_read on was.kept.request.bytes a) in
        record {
          on = on;
          heard = put.heard;
          from_manager = asker;
          asks = sym (reads.0 asker) ∙ ap (asked_from (addresses names) on) bytes_same ∙ was.asks;
          carried = put.is ∙ ap (λ (b : Answered). Carried put.heard b ∷ (port_on on z).log) answer_same;
          row = was.row;
        }

  -- an answer that was given in the model was given here
  gave : (events : List Event) (k : ℕ) (asked : Asked) (a : UndoAnswered) → AllHonest (ours setup) names events start
      → law.GaveIn setup names plan retries (map seen_event events) k (by_manager names asked) a → GaveIn setup (ours setup) names plan retries events k asked (board_of a)
  gave events k asked a all g =
      let s = split events g.before g.later g.event g.all in
      let all_here : AllHonest (ours setup) names (s.earlier ++ s.here ∷ s.rest) start = subst (λ (es : List Event). AllHonest (ours setup) names es start) s.all all in
      let ran_so = f s.earlier s.here s.rest all_here in
      let stepped = one s.earlier s.here s.rest all_here in
      let x : Lab = after setup (ours setup) names plan retries s.earlier in
      let before_is : law.after setup names plan retries g.before ≡ seen_lab names ran_so.made_then x = ap (law.after setup names plan retries) s.same_before ∙ ran_so.is in
      let after_is : lab.step (seen_plans names) setup (law.after setup names plan retries g.before) g.event ≡ seen_lab names stepped.made (step (ours setup) names x s.here) =
      (λ i. lab.step (seen_plans names) setup (before_is i) (s.same_event i)) ∙ stepped.is in
      let was : answers.AnswerGiven setup names (seen_lab names ran_so.made_then x) (seen_lab names stepped.made (step (ours setup) names x s.here)) (by_manager names asked) a =
      subst (λ (y : lab.Lab (seen_plans names)). answers.AnswerGiven setup names (seen_lab names ran_so.made_then x) y (by_manager names asked) a) after_is
      (subst (λ (y : lab.Lab (seen_plans names)). answers.AnswerGiven setup names y (lab.step (seen_plans names) setup (law.after setup names plan retries g.before) g.event) (by_manager names asked) a) before_is g.answers) in
      let is = given s.earlier s.here s.rest all_here (by_manager names asked) a was in
      record {
        before = s.earlier;
        event = s.here;
        later = s.rest;
        all = s.all;
        at = after_so setup names plan start.board.records k x.board.records (subst (λ (y : lab.Lab (seen_plans names)). plans.IsAfter (own_family setup names) plan start.board.records k y.board.records) before_is g.at);
        bus = is.on;
        heard = is.heard;
        from_manager = is.from_manager;
        asks = is.asks;
        carried = is.carried;
        gives = sym (has_one_answer setup x.board is.heard.asked (board_of a) (step (ours setup) names x s.here).board
            (subst (λ (q : Asked). Row setup x.board q (board_of a) (step (ours setup) names x s.here).board) (sym is.asks) is.row));
      }

  halts : (events : List Event) (k : ℕ) (why : Why) → AllHonest (ours setup) names events start → (after setup (ours setup) names plan retries events).manager.phase ≡ Halted k why → IsCause setup (ours setup) names plan retries events k why
  halts events k why all at_halt =
      let g = ran events all in
      let phase_is : law.phase_after setup names plan retries (map seen_event events) ≡ undo_phase.Halted k (seen_why names why) =
      ap (λ (y : lab.Lab (seen_plans names)). machine.phase_of (seen_words names) y.manager.machine) g.is ∙ ap (λ (p : Phase). machine.phase_at (seen_words names) (stage_of names p)) at_halt in
      by_why why (subst (answers.CausedBy setup names (law.GaveIn setup names plan retries (map seen_event events)) (In (lab.Calls lab_call.Stop) (map seen_event events)) plan) phase_is (theorem.halts (map seen_event events) (g.honest, g.live)))
    where
      GaveThere : Asked → UndoAnswered → Type 0
      GaveThere = law.GaveIn setup names plan retries (map seen_event events) k

      said : (asked : Asked) (a : UndoAnswered) → GaveThere (by_manager names asked) a → GaveIn setup (ours setup) names plan retries events k asked (board_of a)
      said asked a = gave events k asked a all

      by_why : (why : Why) → answers.CausedBy setup names (law.GaveIn setup names plan retries (map seen_event events)) (In (lab.Calls lab_call.Stop) (map seen_event events)) plan (undo_phase.Halted k (seen_why names why)) → IsCause setup (ours setup) names plan retries events k why
      by_why Stop was = let is = has_stop events was in (is.earlier, is.rest, is.all)
      by_why (GetRefused code) was = (was.0, was.4, refused_so names GaveThere (GaveIn setup (ours setup) names plan retries events k) (Reads (key_of was.0)) said code was.1 was.2 was.3 was.5 was.6 was.7)
      by_why (Refused code) was = (was.0, was.4, refused_so names GaveThere (GaveIn setup (ours setup) names plan retries events k) (sends was.0) said code was.1 was.2 was.3 was.5 was.6 was.7)
      by_why NotRestorable was = (was.0, was.1, was.2, all_given names GaveThere (GaveIn setup (ours setup) names plan retries events k) (Reads (key_of was.0)) said was.1 was.3, was.4)

  pub claim : Claim setup (ours setup) names plan retries
  claim = record {
    stands = λ events all. stands_so setup names plan start.board.records (after setup (ours setup) names plan retries events).manager.phase (after setup (ours setup) names plan retries events).board.records (stands events all);
    undone = λ events later all at_undone.
        let same = undone events later all at_undone in
        let now = (after setup (ours setup) names plan retries (events ++ later)).board in
        (same.records, shows_so setup names start.board now same.shows, shows_parts setup names start.board now same.records);
    halts = halts;
  }
