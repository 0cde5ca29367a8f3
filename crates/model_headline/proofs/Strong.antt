-- The machinery's headline follows from the statement's claim: so the claim is as strong.
use Rattle.std.proofs.Common.{◌≡◌, ◌⊎◌, ℕ, zero, suc, true, false, List, [], ◌∷◌, ◌++◌, length, map, Option, Some, None, refl, sym, ◌∙◌, ap, subst, inl, inr}
use Rattle.std.proofs.lemmas.List.{length-map, map-append}
use Rattle.two_wire.specs.Codes.{success}
use Rattle.record_base.specs.declared.op.Op.{Op}
use Rattle.record_base.specs.declared.key.Key.{Key}
use Rattle.record_base.specs.declared.message.Asked.{Asked}
use Rattle.record_base.specs.declared.message.Answered.{Answered}
use Rattle.cfg_records.specs.declared.board_file.BoardFile.{BoardFile}
use Rattle.cfg_records.specs.Records.{Records}
use Rattle.record_kinds.specs.declared.limits.Limits.{Limits}
use Rattle.record_kinds.specs.Limits.{key_of, limits_at, conf}
use Rattle.bmc_board.specs.Request.{asked_by}
use Rattle.bmc_board.specs.State.{State}
use Rattle.bmc_board.specs.Row.{Row}
use Rattle.bmc_board.specs.Answer.{AnswerAndState, answer_of}
use Rattle.bmc_board.proofs.OneAnswer.{has_answer, has_one_answer}
use Rattle.undo_plans.specs.declared.names.Names.{Names}
use Rattle.model_bus.specs.Request as bus
use Rattle.model_bus.specs.Repeat.{In}
use Rattle.model_bus.specs.Answered.{Answered as UndoAnswered}
use Rattle.model_undo.specs.Family as undo_family
use Rattle.model_undo.specs.Words.{IsReached}
use Rattle.model_undo.specs.Plan as plans
use Rattle.model_undo.specs.Machine as machine
use Rattle.model_undo.specs.Headline as undo_headline
use Rattle.model_undo.proofs.Headline.{parts_show_same}
use Rattle.model_lab.specs.Lab as lab
use Rattle.model_lab.specs.ManagerSteps.{addresses}
use Rattle.model_lab.specs.Family.{SetsWithin, conf_within}
use Rattle.model_lab.proofs.IsFamily.{is_family}
use Rattle.model_lab.proofs.Board.{starts_valid}
use Rattle.model_headline.specs.Each.{Each}
use Rattle.model_headline.specs.Tied.{own_family}
use Rattle.model_headline.specs.Answers as answers
use Rattle.model_headline.specs.Theorem as law
use Rattle.model_headline.specs.Manager.{Stop, Why, GetRefused, Refused, NotRestorable, Gets, Sets, Undoes, Phase, Fresh, Open, Done, Halted, Undone, UndoRefused, Series, Reads, sends, by_manager}
use Rattle.model_headline.specs.Lab.{Event, Calls, Carried, Lab, port_on, step}
use Rattle.model_headline.specs.Claim.{ours, SetsTo, IsAfter, PhaseMeans, ShowsSame, AllHonest, first, after, AreGiven, GaveIn, IsCause, Claim}
use Rattle.model_headline.specs.Seen.{seen_plans, seen_words, spell, seen_log, bare, seen_event, seen_lab, stage_of}
use Rattle.model_headline.proofs.Holds.{Reads as EntryReads}
use Rattle.model_headline.proofs.Labs.{step_so}
use Rattle.model_headline.proofs.Honesty.{first_honest, later_honest}
use Rattle.model_headline.proofs.ClaimSeries.{board_of, all_back, reached_back}
use Rattle.model_headline.proofs.Claim.{ran, port_log, holds_reads}
use Rattle.model_headline.specs.Refines.{Refines}
use Rattle.model_headline.proofs.Controller.{row_served}
use Rattle.model_headline.proofs.Refined.{all_here, honest_alike}
use Rattle.model_undo.specs.declared.call.Call.TheVariants as lab_call
use Rattle.model_undo.specs.declared.phase.Phase.{Phase as UndoPhase}
use Rattle.model_undo.specs.declared.phase.Phase.TheVariants as undo_phase

module _ (setup : BoardFile) (names : Names) where
  sets_back : (op : Op) (old new : Records) → SetsTo setup op old new → undo_family.SetsTo (own_family setup names) op old new
  sets_back op old new s = record {
    before = s.before;
    after = s.after;
    found = s.found;
    sets = subst (λ (o : Option Limits). SetsWithin o op s.before s.after) (sym s.within) s.accepted;
    changed = s.changed;
  }

  module _ (plan : List Op) (start : Records) where
    after_back : (k : ℕ) (r : Records) → IsAfter setup plan start k r → plans.IsAfter (own_family setup names) plan start k r
    after_back zero r is = is
    after_back (suc k) r is = (is.0, is.1, after_back k is.0 is.2, is.3, sets_back is.1 is.0 r is.4)

    both : (k m : ℕ) (r : Records) → IsAfter setup plan start k r ⊎ IsAfter setup plan start m r → plans.IsAfter (own_family setup names) plan start k r ⊎ plans.IsAfter (own_family setup names) plan start m r
    both k m r (inl is) = inl (after_back k r is)
    both k m r (inr is) = inr (after_back m r is)

    swapped : (k m : ℕ) (r : Records) → IsAfter setup plan start k r ⊎ IsAfter setup plan start m r → plans.IsAfter (own_family setup names) plan start m r ⊎ plans.IsAfter (own_family setup names) plan start k r
    swapped k m r (inl is) = inr (after_back k r is)
    swapped k m r (inr is) = inl (after_back m r is)

    stands_back : (phase : Phase) (r : Records) → PhaseMeans setup plan start phase r → plans.PhaseMeans (own_family setup names) plan start (machine.phase_at (seen_words names) (stage_of names phase)) r
    stands_back Fresh r is = is
    stands_back (Open true (Gets k op) bodies) r is = after_back k r is
    stands_back (Open false (Gets k op) bodies) r is = both k (suc k) r is
    stands_back (Open true (Sets k op back) bodies) r is = both k (suc k) r is
    stands_back (Open false (Sets k op back) bodies) r is = both k (suc k) r is
    stands_back (Open true (Undoes back rest) bodies) r is =
        subst (λ n. plans.IsAfter (own_family setup names) plan start (suc n) r ⊎ plans.IsAfter (own_family setup names) plan start n r) (sym (length-map rest sends)) (swapped (length rest) (suc (length rest)) r is)
    stands_back (Open false (Undoes back rest) bodies) r is =
        subst (λ n. plans.IsAfter (own_family setup names) plan start n r ⊎ plans.IsAfter (own_family setup names) plan start (suc n) r) (sym (length-map rest sends)) (both (length rest) (suc (length rest)) r is)
    stands_back Done r is = after_back (length plan) r is
    stands_back (Halted k why) r is = after_back k r is
    stands_back Undone r is = is
    stands_back (UndoRefused k code) r is = is

  -- two answers to Gets of a record have the same code, and where that is 00h show the same configuration
  abbrev Alike : Key → Answered → Answered → Type 0
  Alike key shown again = (again.code ≡ shown.code) × (shown.code ≡ success → (limits : Limits) → limits_at setup key ≡ Some limits → conf limits again.body ≡ conf limits shown.body)

  -- an answer of the relation is that of the function
  is_given : (before : State) (asked : Asked) (a : Answered) (after : State) → Row setup before asked a after → (answer_of setup before asked).0 ≡ a
  is_given before asked a after row = ap (λ (g : AnswerAndState). g.0) (sym (has_one_answer setup before asked a after row))

  shows_back : (b c : State) → ShowsSame setup (ours setup) b c → undo_headline.ShowsSame (own_family setup names) b c
  shows_back b c same key one other gets again_gets shown again left left_again row again_row =
      let told : Alike key (board_of shown) (board_of again) =
      subst (λ (s : Answered). Alike key s (board_of again)) (is_given b one (board_of shown) left row)
      (subst (λ (s : Answered). Alike key (answer_of setup b one).0 s) (is_given c other (board_of again) left_again again_row) (same key one other gets again_gets)) in
      (told.0, λ ok. at (limits_at setup key) refl (told.1 ok))
    where
      at : (o : Option Limits) → limits_at setup key ≡ o → ((limits : Limits) → limits_at setup key ≡ Some limits → conf limits again.body ≡ conf limits shown.body) → conf_within (limits_at setup key) again.body ≡ conf_within (limits_at setup key) shown.body
      at (Some limits) e told = subst (λ (o : Option Limits). conf_within o again.body ≡ conf_within o shown.body) (sym e) (told limits e)
      at None e told = subst (λ (o : Option Limits). conf_within o again.body ≡ conf_within o shown.body) (sym e) refl

-- a call of `stop` here is one in the model
stop_in : (earlier later : List Event) → In (lab.Calls lab_call.Stop) (map seen_event (earlier ++ Calls Stop ∷ later))
stop_in [] later = inl refl
stop_in (e ∷ es) later = inr (stop_in es later)

module _ (setup : BoardFile) (names : Names) (plan : List Op) (retries : ℕ) where
  abbrev start : Lab
  start = first setup (ours setup) names plan retries

  gave_back : (events : List Event) (k : ℕ) (asked : Asked) (a : UndoAnswered) → AllHonest (ours setup) names events start
      → GaveIn setup (ours setup) names plan retries events k asked (board_of a) → law.GaveIn setup names plan retries (map seen_event events) k (by_manager names asked) a
  gave_back events k asked a all g =
      let all_here : AllHonest (ours setup) names (g.before ++ g.event ∷ g.later) start = subst (λ (es : List Event). AllHonest (ours setup) names es start) g.all all in
      let x : Lab = after setup (ours setup) names plan retries g.before in
      let f = ran setup names plan retries g.before (first_honest setup names g.before (g.event ∷ g.later) start all_here) in
      let one = step_so setup names f.made_then x f.holds g.event (later_honest setup names g.before (g.event ∷ g.later) start all_here).0 in
      let y : Lab = step (ours setup) names x g.event in
      let after_is : lab.step (seen_plans names) setup (law.after setup names plan retries (map seen_event g.before)) (seen_event g.event) ≡ seen_lab names one.made y =
      ap (λ (l : lab.Lab (seen_plans names)). lab.step (seen_plans names) setup l (seen_event g.event)) f.is ∙ one.is in
      let reads : Each (EntryReads names g.bus) (Carried g.heard (board_of a) ∷ (port_on g.bus x).log) = subst (Each (EntryReads names g.bus)) g.carried (holds_reads setup names plan retries g.bus y one.holds) in
      let was : answers.AnswerGiven setup names (seen_lab names f.made_then x) (seen_lab names one.made y) (by_manager names asked) a = record {
        bus = g.bus;
        kept = record { request = bare g.heard; reply = spell g.bus g.heard.bytes (board_of a) };
        carried = port_log setup names plan retries g.bus one.made y ∙ ap (seen_log (spell g.bus)) g.carried
            ∙ ap (λ (log : List bus.Entry). bus.Carried (record { request = bare g.heard; reply = spell g.bus g.heard.bytes (board_of a) }) ∷ log) (sym (port_log setup names plan retries g.bus f.made_then x));
        from_manager = g.from_manager;
        asks = reads.0 g.from_manager ∙ g.asks;
        replies = refl;
        row = subst (λ (q : Asked). Row setup x.board q (board_of a) y.board) g.asks
            (subst (λ (given : AnswerAndState). Row setup x.board g.heard.asked given.0 given.1) g.gives (has_answer setup x.board g.heard.asked));
      } in
      record {
        before = map seen_event g.before;
        event = seen_event g.event;
        later = map seen_event g.later;
        all = ap (map seen_event) g.all ∙ map-append seen_event g.before (g.event ∷ g.later);
        answers = subst (λ (l : lab.Lab (seen_plans names)). answers.AnswerGiven setup names l (lab.step (seen_plans names) setup (law.after setup names plan retries (map seen_event g.before)) (seen_event g.event)) (by_manager names asked) a) (sym f.is)
            (subst (λ (l : lab.Lab (seen_plans names)). answers.AnswerGiven setup names (seen_lab names f.made_then x) l (by_manager names asked) a) (sym after_is) was);
        at = subst (λ (l : lab.Lab (seen_plans names)). plans.IsAfter (own_family setup names) plan start.board.records k l.board.records) (sym f.is) (after_back setup names plan start.board.records k x.board.records g.at);
      }

  module _ (claim : Claim setup (ours setup) names plan retries) where
    abbrev Trusted : List lab.Event → Type 0
    Trusted = law.IsTrusted setup names plan retries

    abbrev Caused : List Event → UndoPhase → Type 0
    Caused events = answers.CausedBy setup names (law.GaveIn setup names plan retries (map seen_event events)) (In (lab.Calls lab_call.Stop) (map seen_event events)) plan

    honest_of : (events : List Event) → Trusted (map seen_event events) → AllHonest (ours setup) names events start
    honest_of events trusted = (honest_alike setup names plan retries events).1 trusted

    stands_there : (events : List Event) → Trusted (map seen_event events) → law.StandsAfter setup names plan retries (map seen_event events)
    stands_there events trusted =
        let all = honest_of events trusted in
        subst (λ (l : lab.Lab (seen_plans names)). plans.PhaseMeans (own_family setup names) plan start.board.records (machine.phase_of (seen_words names) l.manager.machine) l.board.records) (sym (ran setup names plan retries events all).is)
        (stands_back setup names plan start.board.records (after setup (ours setup) names plan retries events).manager.phase (after setup (ours setup) names plan retries events).board.records (claim.stands events all))

    -- a request that was reached here was reached there
    reached_so : (events : List Event) (k : ℕ) → AllHonest (ours setup) names events start → (series : Series) (bodies : List (List ℕ)) (asked : Asked)
        → AreGiven (GaveIn setup (ours setup) names plan retries events k) series bodies (Some asked)
        → IsReached (seen_words names) (law.GaveIn setup names plan retries (map seen_event events) k) series bodies (by_manager names asked)
    reached_so events k all series =
        reached_back names (law.GaveIn setup names plan retries (map seen_event events) k) (GaveIn setup (ours setup) names plan retries events k) series (λ asked a. gave_back events k asked a all)

    caused : (events : List Event) → AllHonest (ours setup) names events start → (phase : Phase) → ((k : ℕ) (why : Why) → phase ≡ Halted k why → IsCause setup (ours setup) names plan retries events k why) → Caused events (machine.phase_at (seen_words names) (stage_of names phase))
    caused events all Fresh c = tt
    caused events all (Open true (Gets k op) bodies) c = tt
    caused events all (Open true (Sets k op back) bodies) c = tt
    caused events all (Open true (Undoes back rest) bodies) c = tt
    caused events all (Open false task bodies) c = tt
    caused events all Done c = tt
    caused events all Undone c = tt
    caused events all (UndoRefused k code) c = tt
    caused events all (Halted k Stop) c =
        let is = c k Stop refl in
        subst (λ (es : List Event). In (lab.Calls lab_call.Stop) (map seen_event es)) (sym is.2) (stop_in is.0 is.1)
    caused events all (Halted k (GetRefused code)) c =
        let is = c k (GetRefused code) refl in
        let was = is.2 in
        (is.0, was.0, by_manager names was.1, was.2, is.1, reached_so events k all (Reads (key_of is.0)) was.0 was.1 was.3, gave_back events k was.1 (record { code = code; body = was.2 }) all was.4, was.5)
    caused events all (Halted k (Refused code)) c =
        let is = c k (Refused code) refl in
        let was = is.2 in
        (is.0, was.0, by_manager names was.1, was.2, is.1, reached_so events k all (sends is.0) was.0 was.1 was.3, gave_back events k was.1 (record { code = code; body = was.2 }) all was.4, was.5)
    caused events all (Halted k NotRestorable) c =
        let is = c k NotRestorable refl in
        let back = all_back names (law.GaveIn setup names plan retries (map seen_event events) k) (GaveIn setup (ours setup) names plan retries events k) (Reads (key_of is.0))
        (λ asked a. gave_back events k asked a all) in
        (is.0, is.1, is.2, back is.1 is.3, is.4)

    halts_there : (events : List Event) → Trusted (map seen_event events) → Caused events (law.phase_after setup names plan retries (map seen_event events))
    halts_there events trusted =
        let all = honest_of events trusted in
        subst (Caused events) (sym (ap (λ (l : lab.Lab (seen_plans names)). machine.phase_of (seen_words names) l.manager.machine) (ran setup names plan retries events all).is))
        (caused events all (after setup (ours setup) names plan retries events).manager.phase (λ k why at_halt. claim.halts events k why all at_halt))

    undone_phase : (phase : Phase) → machine.phase_at (seen_words names) (stage_of names phase) ≡ undo_phase.Undone → phase ≡ Undone
    undone_phase Fresh e = absurd cc
    undone_phase (Open true (Gets k op) bodies) e = absurd cc
    undone_phase (Open true (Sets k op back) bodies) e = absurd cc
    undone_phase (Open true (Undoes back rest) bodies) e = absurd cc
    undone_phase (Open false task bodies) e = absurd cc
    undone_phase Done e = absurd cc
    undone_phase Undone e = refl
    undone_phase (UndoRefused k code) e = absurd cc
    undone_phase (Halted k why) e = absurd cc

    -- the board has the records of the start, and shows what it showed then
    abbrev IsSame : State → Type 0
    IsSame now = (now.records ≡ start.board.records) × undo_headline.ShowsSame (own_family setup names) start.board now × undo_headline.PartsShowSame (own_family setup names) start.board now

    undone_there : (events later : List Event) → Trusted (map seen_event events ++ map seen_event later) → law.phase_after setup names plan retries (map seen_event events) ≡ undo_phase.Undone
        → IsSame (law.after setup names plan retries (map seen_event events ++ map seen_event later)).board
    undone_there events later trusted at_undone =
        let split_map : map seen_event (events ++ later) ≡ map seen_event events ++ map seen_event later = map-append seen_event events later in
        let all = honest_of (events ++ later) (subst Trusted (sym split_map) trusted) in
        let f = ran setup names plan retries events (first_honest setup names events later start all) in
        let g = ran setup names plan retries (events ++ later) all in
        let here : (after setup (ours setup) names plan retries events).manager.phase ≡ Undone = undone_phase (after setup (ours setup) names plan retries events).manager.phase (ap (λ (l : lab.Lab (seen_plans names)). machine.phase_of (seen_words names) l.manager.machine) (sym f.is) ∙ at_undone) in
        let told = claim.undone events later all here in
        let end : seen_lab names g.made_then (after setup (ours setup) names plan retries (events ++ later)) ≡ law.after setup names plan retries (map seen_event events ++ map seen_event later) = sym g.is ∙ ap (law.after setup names plan retries) split_map in
        let now = (after setup (ours setup) names plan retries (events ++ later)).board in
        let valid = (starts_valid setup (addresses names)).opened_valid in
        subst (λ (l : lab.Lab (seen_plans names)). IsSame l.board) end (told.0, shows_back setup names start.board now told.1, parts_show_same (own_family setup names) (is_family setup (addresses names)) start.board now valid told.0)

    abbrev UndoneThere : List lab.Event → List lab.Event → Type 0
    UndoneThere es ls = Trusted (es ++ ls) → law.phase_after setup names plan retries es ≡ undo_phase.Undone
        → IsSame (law.after setup names plan retries (es ++ ls)).board

    abbrev HaltsThere : List lab.Event → Type 0
    HaltsThere es = Trusted es → answers.CausedBy setup names (law.GaveIn setup names plan retries es) (In (lab.Calls lab_call.Stop) es) plan (law.phase_after setup names plan retries es)

    pub headline_back : law.Headline setup names plan retries Trusted
    headline_back = record {
      stands = λ events trusted.
          let same = all_here events in
          subst (law.StandsAfter setup names plan retries) (sym same.1) (stands_there same.0 (subst Trusted same.1 trusted));
      undone = λ events later.
          let same = all_here events in
          let more = all_here later in
          subst (λ (es : List lab.Event). UndoneThere es later) (sym same.1) (subst (UndoneThere (map seen_event same.0)) (sym more.1) (undone_there same.0 more.0));
      halts = λ events.
          let same = all_here events in
          subst HaltsThere (sym same.1) (halts_there same.0);
    }

pub refines : (setup : BoardFile) (names : Names) (plan : List Op) (retries : ℕ) → Refines setup names plan retries
refines setup names plan retries = record {
  every = all_here;
  honest = honest_alike setup names plan retries;
  alike = λ events all. let g = ran setup names plan retries events all in (g.made_then, g.is);
  rows = λ before asked a after. row_served setup (asked_by asked) before a after;
  strong = headline_back setup names plan retries;
}
