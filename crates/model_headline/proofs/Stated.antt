-- What a play tells is what the statement's lab has.
use Rattle.std.proofs.Common.{◌≡◌, ℕ, suc, true, false, List, [], ◌∷◌, length, refl, sym, ◌∙◌, ap, subst}
use Rattle.std.proofs.lemmas.List.{length-map}
use Rattle.record_base.specs.declared.op.Op.{Op}
use Rattle.cfg_records.specs.declared.board_file.BoardFile.{BoardFile}
use Rattle.model_undo.specs.declared.phase.Phase.TheVariants as told_phase
use Rattle.model_undo.specs.Machine.{phase_at, phase_of}
use Rattle.model_lab.specs.Lab as lab
use Rattle.model_lab.specs.Lab.{run, opening}
use Rattle.text_lines.specs.declared.event.Event.{Event}
use Rattle.model_lab.specs.Meaning.{lab_names}
use Rattle.model_lab.specs.Played.{plans, happens, after, AreTaken, told_of}
use Rattle.model_headline.specs.Theorem as law
use Rattle.model_headline.specs.Plays.{taken_by, AllKeepPremise}
use Rattle.model_headline.specs.Manager.{Why, Stop, GetRefused, Refused, NotRestorable, Gets, Sets, Undoes, Phase, Fresh, Open, Done, Halted, Undone, UndoRefused, sends}
use Rattle.model_headline.specs.Claim.{ours, after as stated_after}
use Rattle.model_headline.specs.Seen.{seen_words, seen_event, seen_lab, stage_of}
use Rattle.model_headline.specs.Stated.{phase_told, IsStated}
use Rattle.model_headline.specs.Keeps.{PlaysAreStated}
use Rattle.model_headline.proofs.Plays.{events_from, runs_so, live_from, kept_good, taken_told}
use Rattle.model_headline.proofs.Claim.{ran}
use Rattle.model_headline.proofs.Refined.{all_here, honest_alike}

-- a phase is told as the machinery tells it
why_same : (k : ℕ) (why : Why) → phase_told (Halted k why) ≡ phase_at (seen_words lab_names) (stage_of lab_names (Halted k why))
why_same k Stop = refl
why_same k (GetRefused code) = refl
why_same k (Refused code) = refl
why_same k NotRestorable = refl

phase_same : (phase : Phase) → phase_told phase ≡ phase_at (seen_words lab_names) (stage_of lab_names phase)
phase_same Fresh = refl
phase_same (Open true (Gets step op) bodies) = refl
phase_same (Open true (Sets step op back) bodies) = refl
phase_same (Open true (Undoes back rest) bodies) = ap told_phase.Undoing (sym (length-map rest sends))
phase_same (Open false (Gets step op) bodies) = refl
phase_same (Open false (Sets step op back) bodies) = refl
phase_same (Open false (Undoes back rest) bodies) = ap told_phase.Unsettled (sym (length-map rest sends))
phase_same Done = refl
phase_same (Halted steps why) = why_same steps why
phase_same Undone = refl
phase_same (UndoRefused steps code) = refl

module _ (file : BoardFile) where
  -- the lab has an event for each of the schedule's
  as_many : (es : List Event) (x : lab.Lab plans) → length (events_from file es x) ≡ length es
  as_many [] x = refl
  as_many (e ∷ es) x = ap suc (as_many es (happens file e x))

  module _ (plan : List Op) (retries : ℕ) where
    abbrev start : lab.Lab plans
    start = opening plans file lab_names plan retries

    -- of events that were taken and kept the premise on packets
    stated : (es : List Event) → AreTaken file es start → AllKeepPremise file es start → IsStated file plan retries (length es) (told_of file start (after file es start))
    stated es taken kept =
        let there = events_from file es start in
        let trusted : law.IsTrusted file lab_names plan retries there = ((kept_good file plan retries es taken kept).0, live_from file es start kept) in
        let here = all_here there in
        let honest = (honest_alike file lab_names plan retries here.0).1 (subst (law.IsTrusted file lab_names plan retries) here.1 trusted) in
        let g = ran file lab_names plan retries here.0 honest in
        let now = stated_after file (ours file) lab_names plan retries here.0 in
        let reached : after file es start ≡ seen_lab lab_names g.made_then now =
        sym (runs_so file es start) ∙ ap (λ (events : List lab.Event). run plans file events start) here.1 ∙ g.is in
        record {
          events = here.0;
          count_is = sym (length-map here.0 seen_event) ∙ ap (λ (events : List lab.Event). length events) (sym here.1) ∙ as_many es start;
          honest = honest;
          start = refl;
          records = ap (λ (x : lab.Lab plans). x.board.records) reached;
          phase = ap (λ (x : lab.Lab plans). phase_of plans.words x.manager.machine) reached ∙ sym (phase_same now.manager.phase);
        }

pub plays_are_stated : (file : BoardFile) (plan : List Op) (retries : ℕ) → PlaysAreStated file plan retries
plays_are_stated file plan retries events ending played kept =
    let es = taken_by events ending in
    let was = taken_told file plan retries events ending played in
    subst (IsStated file plan retries (length es)) (sym was.1) (stated file plan retries es was.0 kept)
