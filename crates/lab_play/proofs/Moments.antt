-- What a play tells in which the manager is made again stands on the records.
use Rattle.std.proofs.Common.{◌≡◌, ℕ, List, [], ◌∷◌, ◌++◌, refl, sym, ◌∙◌, ap, subst, inl, inr}
use Rattle.record_base.specs.declared.message.Asked.{Asked}
use Rattle.record_base.specs.declared.op.Op.{Op}
use Rattle.cfg_records.specs.declared.board_file.BoardFile.{BoardFile}
use Rattle.bmc_board.specs.State.{State}
use Rattle.cfg_records.specs.Records.{Records}
use Rattle.model_bus.specs.Repeat.{In}
use Rattle.model_bus.specs.Answered.{Answered}
use Rattle.model_undo.proofs.Series.{reached_as, all_answered_as}
use Rattle.model_undo.specs.World.{States}
use Rattle.model_undo.specs.declared.phase.Why.TheVariants.{Stop, Refused, NotRestorable, GetRefused}
use Rattle.model_undo.specs.declared.phase.Phase.{Phase}
use Rattle.model_undo.specs.declared.phase.Phase.TheVariants.{Fresh, Getting, Setting, Done, Halted, Unsettled, Undoing, Undone, UndoRefused}
use Rattle.model_undo.specs.declared.call.Call.TheVariants as called
use Rattle.model_undo.specs.Plan.{IsAfter, PhaseMeans}
use Rattle.model_undo.specs.Machine.{phase_of}
use Rattle.model_undo.specs.Headline.{ShowsSame, PartsShowSame}
use Rattle.model_lab.specs.Lab as lab
use Rattle.model_lab.specs.Lab.{Lab as LabModel, step, opening}
use Rattle.model_lab.specs.Honest.{HasBytes, IsHonest}
use Rattle.model_lab.specs.Own.{IsOwn}
use Rattle.model_lab.specs.Joins.{IsJoinLive}
use Rattle.model_lab.specs.Meaning.{lab_names, event_of}
use Rattle.model_lab.specs.Played.{plans, happens, told_of}
use Rattle.model_lab.proofs.Breaches.{faults_are_breaches}
use Rattle.text_lines.specs.declared.event.Event.{Event}
use Rattle.text_lines.specs.declared.event.Event.TheVariants as event
use Rattle.model_headline.specs.Tied.{own_family, own_lines, IsTied, world_of, WorldFollows}
use Rattle.model_headline.specs.Follows.{HoldsInWorld, RestartsAreFollowed}
use Rattle.model_headline.specs.Answers.{AnswerGiven, CausedBy}
use Rattle.model_headline.specs.Restarted as law
use Rattle.model_headline.specs.Restarted.{Moment, Happens, Restarts, all_next, AllGood, StandsOverRestarts}
use Rattle.model_headline.proofs.Goes.{went_there}
use Rattle.model_headline.proofs.Theorem.{event_followed, still_holds, all_own, quiet, first_tied, first_holds}
use Rattle.lab_run.specs.Makes.{restarts}
use Rattle.lab_play.specs.Restarts.{Turn, Takes, Remakes, after, AreTaken, AllKeep, GaveIn, MakesStop, ToldStands, RestartedPlaysStand}

module _ (file : BoardFile) where
  -- the moments of the model that turns are, from a lab on
  abbrev moments_from : List Turn → LabModel plans → List Moment
  moments_from [] x = []
  moments_from (Takes e ∷ ts) x = Happens (event_of lab_names file x.board e) ∷ moments_from ts (happens file e x)
  moments_from (Remakes ∷ ts) x = Restarts ∷ moments_from ts (restarts file x)

  runs_so : (ts : List Turn) (x : LabModel plans) → all_next file lab_names (moments_from ts x) x ≡ after file ts x
  runs_so [] x = refl
  runs_so (Takes e ∷ ts) x = runs_so ts (happens file e x)
  runs_so (Remakes ∷ ts) x = runs_so ts (restarts file x)

  parts_from : (ts us : List Turn) (x : LabModel plans) → moments_from (ts ++ us) x ≡ moments_from ts x ++ moments_from us (after file ts x)
  parts_from [] us x = refl
  parts_from (Takes e ∷ ts) us x = ap (λ (rest : List Moment). Happens (event_of lab_names file x.board e) ∷ rest) (parts_from ts us (happens file e x))
  parts_from (Remakes ∷ ts) us x = ap (λ (rest : List Moment). Restarts ∷ rest) (parts_from ts us (restarts file x))

  -- ---- what makes a plan stop

  stops_here : (before : State) (e : Event) → event_of lab_names file before e ≡ lab.Calls called.Stop → e ≡ event.Calls called.Stop
  stops_here before (event.Calls call) is = (let same : call ≡ called.Stop = cc is in ap event.Calls same)
  stops_here before _ is = absurd cc

  stop_from : (ts : List Turn) (x : LabModel plans) → In (Happens (lab.Calls called.Stop)) (moments_from ts x) → In (Takes (event.Calls called.Stop)) ts
  stop_from [] x is = absurd is
  stop_from (Takes e ∷ ts) x (inl here) =
      let same : event_of lab_names file x.board e ≡ lab.Calls called.Stop = cc here in
      inl (ap Takes (stops_here x.board e same))
  stop_from (Takes e ∷ ts) x (inr later) = inr (stop_from ts (happens file e x) later)
  stop_from (Remakes ∷ ts) x (inl here) = absurd (cc here)
  stop_from (Remakes ∷ ts) x (inr later) = inr (stop_from ts (restarts file x) later)

  remade_from : (ts : List Turn) (x : LabModel plans) → In Restarts (moments_from ts x) → In Remakes ts
  remade_from [] x is = absurd is
  remade_from (Takes e ∷ ts) x (inl here) = absurd (cc here)
  remade_from (Takes e ∷ ts) x (inr later) = inr (remade_from ts (happens file e x) later)
  remade_from (Remakes ∷ ts) x is = inl refl

  -- ---- where the moments are split, the turns are

  record Split (ts : List Turn) (x : LabModel plans) (ms : List Moment) (e : lab.Event) : Type 0 where
    before : List Turn
    event : Event
    later : List Turn
    all : ts ≡ before ++ (Takes event) ∷ later
    same : moments_from before x ≡ ms
    is : event_of lab_names file (after file before x).board event ≡ e

  split_from : (ts : List Turn) (x : LabModel plans) (ms : List Moment) (e : lab.Event) (rest : List Moment) → moments_from ts x ≡ ms ++ (Happens e) ∷ rest → Split ts x ms e
  split_from [] x [] e rest h = absurd cc
  split_from [] x (m ∷ ms) e rest h = absurd cc
  split_from (Takes d ∷ ts) x [] e rest h = record { before = []; event = d; later = ts; all = refl; same = refl; is = cc }
  split_from (Remakes ∷ ts) x [] e rest h = absurd cc
  split_from (Takes d ∷ ts) x (m ∷ ms) e rest h =
      let here : Happens (event_of lab_names file x.board d) ≡ m = cc in
      let there : moments_from ts (happens file d x) ≡ ms ++ (Happens e) ∷ rest = cc in
      let s = split_from ts (happens file d x) ms e rest there in
      record {
        before = Takes d ∷ s.before;
        event = s.event;
        later = s.later;
        all = ap (λ (l : List Turn). Takes d ∷ l) s.all;
        same = λ i. here i ∷ s.same i;
        is = s.is;
      }
  split_from (Remakes ∷ ts) x (m ∷ ms) e rest h =
      let here : Restarts ≡ m = cc in
      let there : moments_from ts (restarts file x) ≡ ms ++ (Happens e) ∷ rest = cc in
      let s = split_from ts (restarts file x) ms e rest there in
      record {
        before = Remakes ∷ s.before;
        event = s.event;
        later = s.later;
        all = ap (λ (l : List Turn). Remakes ∷ l) s.all;
        same = λ i. here i ∷ s.same i;
        is = s.is;
      }

  -- ---- the premises

  module _ (plan : List Op) (start : Records) (follows : RestartsAreFollowed file lab_names plan start) where
    -- what an event that is taken joins
    taken_own : (x : LabModel plans) (on : States (own_lines file lab_names)) → IsTied file lab_names x on → HoldsInWorld file lab_names plan start (world_of file lab_names x on) → (e : lab.Event)
        → (HasBytes plans e → IsHonest plans x e) → IsJoinLive plans x e → IsOwn plans x e
    taken_own x on tied h e honest joins = (all_own file lab_names plan start (e ∷ []) x on tied h (honest, tt) (joins, tt)).0

    all_good : (ts : List Turn) (x : LabModel plans) (on : States (own_lines file lab_names)) → IsTied file lab_names x on → HoldsInWorld file lab_names plan start (world_of file lab_names x on)
        → AreTaken file ts x → AllKeep file ts x → AllGood file lab_names (moments_from ts x) x
    all_good [] x on tied h taken kept = tt
    all_good (Takes e ∷ ts) x on tied h taken kept =
        let event = event_of lab_names file x.board e in
        let y : LabModel plans = happens file e x in
        let honest : HasBytes plans event → IsHonest plans x event = λ bytes. (faults_are_breaches plans).taken x event bytes taken.0 in
        let own : IsOwn plans x event = taken_own x on tied h event honest kept.0 in
        let one : WorldFollows file lab_names x on y = event_followed file lab_names plan start x event honest own on tied h in
        ((honest, own), all_good ts y one.left one.tied (still_holds file lab_names plan start x y on h (went_there file lab_names x y on one)) taken.1 kept.1)
    all_good (Remakes ∷ ts) x on tied h taken kept =
        let y : LabModel plans = restarts file x in
        let one : WorldFollows file lab_names x on y = follows x on tied in
        (tt, all_good ts y one.left one.tied (still_holds file lab_names plan start x y on h (went_there file lab_names x y on one)) taken.1 kept.1)

  -- ---- what is told

  module _ (plan : List Op) (retries : ℕ) (over : StandsOverRestarts file lab_names plan retries)
      (follows : RestartsAreFollowed file lab_names plan (opening plans file lab_names plan retries).board.records) where
    abbrev first : LabModel plans
    first = opening plans file lab_names plan retries

    abbrev Good : List Turn → Type 0
    Good ts = AllGood file lab_names (moments_from ts first) first

    pub good_of : (ts : List Turn) → AreTaken file ts first → AllKeep file ts first → Good ts
    good_of ts taken kept =
        all_good plan first.board.records follows ts first (quiet file lab_names plan retries) (first_tied file lab_names plan retries) (first_holds file lab_names plan retries) taken kept

    first_good : (ms later : List Moment) (x : LabModel plans) → AllGood file lab_names (ms ++ later) x → AllGood file lab_names ms x
    first_good [] later x all = tt
    first_good (m ∷ ms) later x all = (all.0, first_good ms later (law.next file lab_names x m) all.1)

    prefix_good : (ts us : List Turn) → Good (ts ++ us) → Good ts
    prefix_good ts us good =
        first_good (moments_from ts first) (moments_from us (after file ts first)) first
        (subst (λ (ms : List Moment). AllGood file lab_names ms first) (parts_from ts us first) good)

    -- the board has the records of the start, and shows what it showed then
    abbrev IsSame : State → Type 0
    IsSame now = (now.records ≡ first.board.records) × ShowsSame (own_family file lab_names) first.board now × PartsShowSame (own_family file lab_names) first.board now

    -- once undone, for good
    for_good : (ts later : List Turn) → Good (ts ++ later) → phase_of plans.words (after file ts first).manager.machine ≡ Undone → IsSame (after file (ts ++ later) first).board
    for_good ts later good at =
        let one = moments_from ts first in
        let two = moments_from later (after file ts first) in
        let split = parts_from ts later first in
        let undone : phase_of plans.words (all_next file lab_names one first).manager.machine ≡ Undone = ap (λ (y : LabModel plans). phase_of plans.words y.manager.machine) (runs_so ts first) ∙ at in
        let there = over.undone one two (subst (λ (ms : List Moment). AllGood file lab_names ms first) split good) undone in
        let reaches : all_next file lab_names (one ++ two) first ≡ after file (ts ++ later) first =
        ap (λ (ms : List Moment). all_next file lab_names ms first) (sym split) ∙ runs_so (ts ++ later) first in
        subst (λ (y : LabModel plans). IsSame y.board) reaches there

    -- an answer that was given in a run was given in the play
    gave_so : (ts : List Turn) (k : ℕ) (asked : Asked) (a : Answered) → law.GaveIn file lab_names plan retries (moments_from ts first) k asked a → GaveIn file plan retries ts k asked a
    gave_so ts k asked a g =
        let s = split_from ts first g.before g.event g.later g.all in
        let y = after file s.before first in
        let there : all_next file lab_names g.before first ≡ y = ap (λ (l : List Moment). all_next file lab_names l first) (sym s.same) ∙ runs_so s.before first in
        record {
          before = s.before;
          event = s.event;
          later = s.later;
          all = s.all;
          answers = subst (λ (e : lab.Event). AnswerGiven file lab_names y (step plans file y e) asked a) (sym s.is)
              (subst (λ (z : LabModel plans). AnswerGiven file lab_names z (step plans file z g.event) asked a) there g.answers);
          at = subst (λ (z : LabModel plans). IsAfter (own_family file lab_names) plan first.board.records k z.board.records) there g.at;
        }

    stopped_so : (ts : List Turn) → law.MakesStop file lab_names plan retries (moments_from ts first) → MakesStop file plan retries ts
    stopped_so ts (inl told) = inl (stop_from ts first told)
    stopped_so ts (inr made) = inr (remade_from ts first made)

    -- and so is the cause of a halt
    caused_so : (ts : List Turn) (phase : Phase)
        → CausedBy file lab_names (law.GaveIn file lab_names plan retries (moments_from ts first)) (law.MakesStop file lab_names plan retries (moments_from ts first)) plan phase
        → CausedBy file lab_names (GaveIn file plan retries ts) (MakesStop file plan retries ts) plan phase
    caused_so ts (Halted k Stop) c = stopped_so ts c
    caused_so ts (Halted k (Refused code)) c =
        let words = (own_family file lab_names).words in
        let given = law.GaveIn file lab_names plan retries (moments_from ts first) k in
        (c.0, c.1, c.2, c.3, c.4, reached_as words (words.setting c.0) given (GaveIn file plan retries ts k) (gave_so ts k) c.1 c.2 c.5, gave_so ts k _ _ c.6, c.7)
    caused_so ts (Halted k (GetRefused code)) c =
        let words = (own_family file lab_names).words in
        let given = law.GaveIn file lab_names plan retries (moments_from ts first) k in
        (c.0, c.1, c.2, c.3, c.4, reached_as words (words.getting (words.key_of c.0)) given (GaveIn file plan retries ts k) (gave_so ts k) c.1 c.2 c.5, gave_so ts k _ _ c.6, c.7)
    caused_so ts (Halted k NotRestorable) c =
        let words = (own_family file lab_names).words in
        let given = law.GaveIn file lab_names plan retries (moments_from ts first) k in
        (c.0, c.1, c.2, all_answered_as words (words.getting (words.key_of c.0)) given (GaveIn file plan retries ts k) (gave_so ts k) c.1 c.3, c.4)
    caused_so ts Fresh c = tt
    caused_so ts (Getting k) c = tt
    caused_so ts (Setting k) c = tt
    caused_so ts Done c = tt
    caused_so ts (Unsettled k) c = tt
    caused_so ts (Undoing k) c = tt
    caused_so ts Undone c = tt
    caused_so ts (UndoRefused k code) c = tt

    pub told_stands : RestartedPlaysStand file plan retries
    told_stands ts taken kept =
        let good = good_of ts taken kept in
        let ms = moments_from ts first in
        let here = over.stands ms good in
        let causes = over.halts ms good in
        let x = all_next file lab_names ms first in
        subst (λ (y : LabModel plans). ToldStands file plan retries ts (told_of file first y)) (runs_so ts first) (record {
          stands = here;
          undone = λ at. subst (λ (p : Phase). PhaseMeans (own_family file lab_names) plan first.board.records p x.board.records) at here;
          for_good = λ before later rest split at. for_good before later (prefix_good (before ++ later) rest (subst Good split good)) at;
          halts = caused_so ts (phase_of plans.words x.manager.machine) causes;
        })
