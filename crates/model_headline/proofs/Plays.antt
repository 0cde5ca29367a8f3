-- What every play tells stands on the records.
use Rattle.std.proofs.Common.{◌≡◌, ℕ, ◌+◌, ◌-◌, List, [], ◌∷◌, ◌++◌, length, refl, sym, ◌∙◌, ap, subst, arith, inl, inr}
use Rattle.std.specs.Prelude.{take}
use Rattle.std.proofs.Math.Seq.{take-append_seam}
use Rattle.record_base.specs.declared.message.Asked.{Asked}
use Rattle.record_base.specs.declared.op.Op.{Op}
use Rattle.cfg_records.specs.declared.board_file.BoardFile.{BoardFile}
use Rattle.bmc_board.specs.State.{State}
use Rattle.model_bus.specs.Repeat.{In}
use Rattle.model_bus.specs.Answered.{Answered}
use Rattle.model_undo.proofs.Series.{reached_as, all_answered_as}
use Rattle.model_undo.specs.declared.phase.Why.TheVariants.{Stop, Refused, NotRestorable, GetRefused}
use Rattle.model_undo.specs.declared.phase.Phase.{Phase}
use Rattle.model_undo.specs.declared.phase.Phase.TheVariants.{Fresh, Getting, Setting, Done, Halted, Unsettled, Undoing, Undone, UndoRefused}
use Rattle.model_undo.specs.Plan.{IsAfter, PhaseMeans}
use Rattle.model_undo.specs.Machine.{phase_of}
use Rattle.model_undo.specs.Headline.{ShowsSame, PartsShowSame}
use Rattle.model_lab.specs.Lab as lab
use Rattle.model_lab.specs.Lab.{Lab, step, run, opening}
use Rattle.model_lab.specs.Faults.{AllTaken}
use Rattle.model_lab.specs.Own.{AllOwn}
use Rattle.model_lab.specs.Joins.{AllJoinLive}
use Rattle.model_undo.specs.declared.call.Call.TheVariants as called
use Rattle.text_lines.specs.declared.event.Event.{Event}
use Rattle.text_lines.specs.declared.event.Event.TheVariants as event
use Rattle.model_lab.specs.Meaning.{lab_names, event_of}
use Rattle.model_lab.specs.Played.{plans, Ending, Whole, Stops, happens, after, AreTaken, told_of, IsPlayed}
use Rattle.model_headline.specs.Tied.{own_family}
use Rattle.model_headline.specs.Answers.{AnswerGiven, CausedBy}
use Rattle.model_headline.specs.Theorem as law
use Rattle.model_headline.specs.Theorem.{IsHonestAndOwn}
use Rattle.model_headline.specs.Plays.{taken_by, told_by, AllKeepPremise, AreOwn, GaveIn, ToldStands, PlaysStand}
use Rattle.model_headline.specs.Claim.{ours, ShowsSameParts}
use Rattle.model_headline.proofs.Meaning.{shows_parts}
use Rattle.model_headline.proofs.Theorem.{first_honest, first_own, premises_agree, headline_of}

module _ (file : BoardFile) where
  -- the lab's events that a schedule's are, from a lab on
  abbrev pub events_from : List Event → Lab plans → List lab.Event
  events_from [] x = []
  events_from (e ∷ es) x = event_of lab_names file x.board e ∷ events_from es (happens file e x)

  taken_from : (es : List Event) (x : Lab plans) → AreTaken file es x → AllTaken plans file (events_from es x) x
  taken_from [] x all = tt
  taken_from (e ∷ es) x all = (all.0, taken_from es (happens file e x) all.1)

  own_from : (es : List Event) (x : Lab plans) → AreOwn file es x → AllOwn plans file (events_from es x) x
  own_from [] x all = tt
  own_from (e ∷ es) x all = (all.0, own_from es (happens file e x) all.1)

  pub live_from : (es : List Event) (x : Lab plans) → AllKeepPremise file es x → AllJoinLive plans file (events_from es x) x
  live_from [] x all = tt
  live_from (e ∷ es) x all = (all.0, live_from es (happens file e x) all.1)

  -- the events of a schedule are those of its parts
  parts_from : (es fs : List Event) (x : Lab plans) → events_from (es ++ fs) x ≡ events_from es x ++ events_from fs (after file es x)
  parts_from [] fs x = refl
  parts_from (e ∷ es) fs x = ap (λ (rest : List lab.Event). event_of lab_names file x.board e ∷ rest) (parts_from es fs (happens file e x))

  pub runs_so : (es : List Event) (x : Lab plans) → run plans file (events_from es x) x ≡ after file es x
  unfolding run
  runs_so [] x = refl
  runs_so (e ∷ es) x = runs_so es (happens file e x)

  stops_here : (before : State) (e : Event) → event_of lab_names file before e ≡ lab.Calls called.Stop → e ≡ event.Calls called.Stop
  stops_here before (event.Calls call) is = (let same : call ≡ called.Stop = cc is in ap event.Calls same)
  stops_here before _ is = absurd cc

  stop_from : (es : List Event) (x : Lab plans) → In (lab.Calls called.Stop) (events_from es x) → In (event.Calls called.Stop) es
  stop_from [] x is = absurd is
  stop_from (e ∷ es) x (inl here) = inl (stops_here x.board e here)
  stop_from (e ∷ es) x (inr later) = inr (stop_from es (happens file e x) later)

  -- where a lab's events are split, the schedule's are
  record Split (es : List Event) (x : Lab plans) (ks : List lab.Event) (e : lab.Event) : Type 0 where
    before : List Event
    event : Event
    later : List Event
    all : es ≡ before ++ event ∷ later
    same : events_from before x ≡ ks
    is : event_of lab_names file (after file before x).board event ≡ e

  split_from : (es : List Event) (x : Lab plans) (ks : List lab.Event) (e : lab.Event) (rest : List lab.Event) → events_from es x ≡ ks ++ e ∷ rest → Split es x ks e
  split_from [] x [] e rest h = absurd cc
  split_from [] x (k ∷ ks) e rest h = absurd cc
  split_from (d ∷ es) x [] e rest h = record { before = []; event = d; later = es; all = refl; same = refl; is = cc }
  split_from (d ∷ es) x (k ∷ ks) e rest h =
      let here : event_of lab_names file x.board d ≡ k = cc in
      let there : events_from es (happens file d x) ≡ ks ++ e ∷ rest = cc in
      let s = split_from es (happens file d x) ks e rest there in
      record {
        before = d ∷ s.before;
        event = s.event;
        later = s.later;
        all = ap (λ (l : List Event). d ∷ l) s.all;
        same = λ i. here i ∷ s.same i;
        is = s.is;
      }

  module _ (plan : List Op) (retries : ℕ) where
    abbrev first : Lab plans
    first = opening plans file lab_names plan retries

    -- a good schedule is one that the lab takes and whose first events are all good
    abbrev Good : List lab.Event → Type 0
    Good events = IsHonestAndOwn file lab_names plan retries events

    prefix_good : (es fs : List Event) → Good (events_from (es ++ fs) first) → Good (events_from es first)
    prefix_good es fs good =
        let split = parts_from es fs first in
        let later = events_from fs (after file es first) in
        let whole : Good (events_from es first ++ later) = subst Good split good in
        (first_honest file lab_names plan retries (events_from es first) later first whole.0, first_own file lab_names plan retries (events_from es first) later first whole.1)

    -- the board has the records of the start, and shows what it showed then
    abbrev IsSame : State → Type 0
    IsSame now = (now.records ≡ first.board.records) × ShowsSame (own_family file lab_names) first.board now × PartsShowSame (own_family file lab_names) first.board now
        × ShowsSameParts file (ours file) first.board now

    -- once undone, for good
    for_good : (es later : List Event) → Good (events_from (es ++ later) first) → phase_of plans.words (after file es first).manager.machine ≡ Undone → IsSame (after file (es ++ later) first).board
    for_good es later good at =
        let one = events_from es first in
        let two = events_from later (after file es first) in
        let split = parts_from es later first in
        let undone : phase_of plans.words (run plans file one first).manager.machine ≡ Undone = ap (λ (y : Lab plans). phase_of plans.words y.manager.machine) (runs_so es first) ∙ at in
        let there = (headline_of file lab_names plan retries Good (λ events is. is)).undone one two (subst Good split good) undone in
        let reaches : run plans file (one ++ two) first ≡ after file (es ++ later) first = ap (λ (events : List lab.Event). run plans file events first) (sym split) ∙ runs_so (es ++ later) first in
        let now = (run plans file (one ++ two) first).board in
        subst (λ (y : Lab plans). IsSame y.board) reaches (there.0, there.1, there.2, shows_parts file lab_names first.board now there.0)

    -- an answer that was given in a run was given in the play
    gave_so : (es : List Event) (k : ℕ) (asked : Asked) (a : Answered) → law.GaveIn file lab_names plan retries (events_from es first) k asked a → GaveIn file plan retries es k asked a
    gave_so es k asked a g =
        let s = split_from es first g.before g.event g.later g.all in
        let y = after file s.before first in
        let there : run plans file g.before first ≡ y = ap (λ (l : List lab.Event). run plans file l first) (sym s.same) ∙ runs_so s.before first in
        record {
          before = s.before;
          event = s.event;
          later = s.later;
          all = s.all;
          answers = subst (λ (e : lab.Event). AnswerGiven file lab_names y (step plans file y e) asked a) (sym s.is)
              (subst (λ (z : Lab plans). AnswerGiven file lab_names z (step plans file z g.event) asked a) there g.answers);
          at = subst (λ (z : Lab plans). IsAfter (own_family file lab_names) plan first.board.records k z.board.records) there g.at;
        }

    -- and so is the cause of a halt
    caused_so : (es : List Event) (phase : Phase) → CausedBy file lab_names (law.GaveIn file lab_names plan retries (events_from es first)) (In (lab.Calls called.Stop) (events_from es first)) plan phase
        → CausedBy file lab_names (GaveIn file plan retries es) (In (event.Calls called.Stop) es) plan phase
    caused_so es (Halted k Stop) c = stop_from es first c
    caused_so es (Halted k (Refused code)) c =
        let words = (own_family file lab_names).words in
        let given = law.GaveIn file lab_names plan retries (events_from es first) k in
        (c.0, c.1, c.2, c.3, c.4, reached_as words (words.setting c.0) given (GaveIn file plan retries es k) (gave_so es k) c.1 c.2 c.5, gave_so es k _ _ c.6, c.7)
    caused_so es (Halted k (GetRefused code)) c =
        let words = (own_family file lab_names).words in
        let given = law.GaveIn file lab_names plan retries (events_from es first) k in
        (c.0, c.1, c.2, c.3, c.4, reached_as words (words.getting (words.key_of c.0)) given (GaveIn file plan retries es k) (gave_so es k) c.1 c.2 c.5, gave_so es k _ _ c.6, c.7)
    caused_so es (Halted k NotRestorable) c =
        let words = (own_family file lab_names).words in
        let given = law.GaveIn file lab_names plan retries (events_from es first) k in
        (c.0, c.1, c.2, all_answered_as words (words.getting (words.key_of c.0)) given (GaveIn file plan retries es k) (gave_so es k) c.1 c.3, c.4)
    caused_so es Fresh c = tt
    caused_so es (Getting k) c = tt
    caused_so es (Setting k) c = tt
    caused_so es Done c = tt
    caused_so es (Unsettled k) c = tt
    caused_so es (Undoing k) c = tt
    caused_so es Undone c = tt
    caused_so es (UndoRefused k code) c = tt

    told_stands : (es : List Event) → Good (events_from es first) → ToldStands file plan retries es (told_of file first (after file es first))
    told_stands es good =
        let events = events_from es first in
        let headline = headline_of file lab_names plan retries Good (λ given is. is) in
        let here = headline.stands events good in
        let causes = headline.halts events good in
        let x = run plans file events first in
        subst (λ (y : Lab plans). ToldStands file plan retries es (told_of file first y)) (runs_so es first) (record {
          stands = here;
          undone = λ at. subst (λ (p : Phase). PhaseMeans (own_family file lab_names) plan first.board.records p x.board.records) at here;
          for_good = λ before later rest split at.
              for_good before later (prefix_good (before ++ later) rest (subst (λ (all : List Event). Good (events_from all first)) split good)) at;
          halts = caused_so es (phase_of plans.words x.manager.machine) causes;
        })

    -- of events that were taken, by either premise
    pub kept_good : (es : List Event) → AreTaken file es first → AllKeepPremise file es first → Good (events_from es first)
    kept_good es taken kept =
        let events = events_from es first in
        let agree = premises_agree file lab_names plan retries in
        let honest = agree.honest events (taken_from es first taken) in
        (honest, agree.own events (honest, live_from es first kept))

    own_good : (es : List Event) → AreTaken file es first → AreOwn file es first → Good (events_from es first)
    own_good es taken own =
        ((premises_agree file lab_names plan retries).honest (events_from es first) (taken_from es first taken), own_from es first own)

    before_place : (n : ℕ) → n + 1 - 1 ≡ n
    before_place n = omega arith

    -- the events that a play took were taken, and what it tells is told of them
    pub taken_told : (events : List Event) (ending : Ending) → IsPlayed file plan retries events ending
        → AreTaken file (taken_by events ending) first × (told_by ending ≡ told_of file first (after file (taken_by events ending) first))
    taken_told events (Whole told) played = played
    taken_told events (Stops fault place told) played =
        let before = played.0 in
        let rest = played.1 in
        let e = played.2 in
        let first_ones : take (place - 1) events ≡ before =
        ap (λ (n : ℕ). take (n - 1) events) played.4 ∙ ap (λ (n : ℕ). take n events) (before_place (length before)) ∙ ap (take (length before)) played.3 ∙ take-append_seam before (e ∷ rest) in
        subst (λ (es : List Event). AreTaken file es first × (told ≡ told_of file first (after file es first))) (sym first_ones) (played.5, played.7)

    stands_of : (events : List Event) (ending : Ending) → IsPlayed file plan retries events ending → Good (events_from (taken_by events ending) first)
        → ToldStands file plan retries (taken_by events ending) (told_by ending)
    stands_of events ending played good =
        subst (ToldStands file plan retries (taken_by events ending)) (sym (taken_told events ending played).1) (told_stands (taken_by events ending) good)

    pub plays_stand : PlaysStand file plan retries
    plays_stand events ending played =
        let es = taken_by events ending in
        let taken = (taken_told events ending played).0 in
        (λ kept. stands_of events ending played (kept_good es taken kept), λ own. stands_of events ending played (own_good es taken own))
