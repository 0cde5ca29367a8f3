-- A play keeps its promise.
use Rattle.std.proofs.Common.{◌≡◌, ◌⊎◌, ℕ, suc, List, [], ◌∷◌, ◌++◌, length, sym, ap, subst, inl, inr}
use Rattle.record_base.specs.declared.op.Op.{Op}
use Rattle.record_base.specs.declared.message.Asked.{Asked}
use Rattle.record_kinds.specs.Limits.{key_of}
use Rattle.record_kinds.specs.Series.{Reads, sends}
use Rattle.cfg_records.specs.declared.board_file.BoardFile.{BoardFile}
use Rattle.cfg_records.specs.Records.{Records}
use Rattle.model_undo.specs.declared.call.Call.TheVariants as call
use Rattle.text_lines.specs.declared.event.Event.{Event}
use Rattle.text_lines.specs.declared.event.Event.TheVariants.{Calls}
use Rattle.bmc_board.specs.Decode.{sent_by}
use Rattle.bmc_board.specs.Answer.{AnswerAndState}
use Rattle.bmc_board.proofs.OneAnswer.{has_one_answer}
use Rattle.model_bus.specs.Repeat.{In}
use Rattle.model_bus.specs.Answered.{Answered as UndoAnswered}
use Rattle.model_undo.specs.declared.phase.Why.{Why}
use Rattle.model_undo.specs.declared.phase.Why.TheVariants.{Stop, Refused, NotRestorable, GetRefused}
use Rattle.model_undo.specs.declared.phase.Phase.{Phase}
use Rattle.model_undo.specs.declared.phase.Phase.TheVariants.{Fresh, Getting, Setting, Done, Halted, Unsettled, Undoing, Undone, UndoRefused}
use Rattle.model_undo.specs.Plan as plans
use Rattle.model_lab.specs.Meaning.{lab_names}
use Rattle.model_lab.specs.Played.{Told, Ending, Whole, Stops, happens, IsPlayed}
use Rattle.model_headline.specs.Tied.{own_family}
use Rattle.model_headline.specs.Answers.{CausedBy}
use Rattle.model_headline.specs.Plays as plays
use Rattle.model_headline.specs.Plays.{taken_by, told_by, ToldStands, lab_after}
use Rattle.model_headline.proofs.Plays.{plays_stand}
use Rattle.model_headline.specs.Manager.{own_on, bus_of, by_manager}
use Rattle.model_headline.specs.Claim.{IsAfter}
use Rattle.model_headline.specs.Promise.{PhaseMeans, GaveAnswer, IsWhy, Promise}
use Rattle.model_headline.specs.Keeps.{KeepsPromise}
use Rattle.model_headline.proofs.ClaimSeries.{board_of, all_given, refused_so}
use Rattle.model_headline.proofs.Meaning.{after_so}

record HasStop (events : List Event) : Type 0 where
  pub earlier : List Event
  pub rest : List Event
  pub all : events ≡ earlier ++ Calls call.Stop ∷ rest

has_stop : (events : List Event) → In (Calls call.Stop) events → HasStop events
has_stop [] is = absurd is
has_stop (e ∷ es) (inl is) = record { earlier = []; rest = es; all = ap (λ (f : Event). f ∷ es) is }
has_stop (e ∷ es) (inr is) = let more = has_stop es is in record { earlier = e ∷ more.earlier; rest = more.rest; all = ap (λ (fs : List Event). e ∷ fs) more.all }

module _ (file : BoardFile) (plan : List Op) (start : Records) where
  after_k : (k : ℕ) (now : Records) → plans.IsAfter (own_family file lab_names) plan start k now → IsAfter file plan start k now
  after_k = after_so file lab_names plan start

  both : (k m : ℕ) (now : Records) → plans.IsAfter (own_family file lab_names) plan start k now ⊎ plans.IsAfter (own_family file lab_names) plan start m now → IsAfter file plan start k now ⊎ IsAfter file plan start m now
  both k m now (inl is) = inl (after_k k now is)
  both k m now (inr is) = inr (after_k m now is)

  swapped : (k m : ℕ) (now : Records) → plans.IsAfter (own_family file lab_names) plan start k now ⊎ plans.IsAfter (own_family file lab_names) plan start m now → IsAfter file plan start m now ⊎ IsAfter file plan start k now
  swapped k m now (inl is) = inr (after_k k now is)
  swapped k m now (inr is) = inl (after_k m now is)

  says : (phase : Phase) (now : Records) → plans.PhaseMeans (own_family file lab_names) plan start phase now → PhaseMeans file plan start phase now
  says Fresh now is = is
  says (Getting k) now is = after_k k now is
  says (Setting k) now is = both k (suc k) now is
  says Done now is = after_k (length plan) now is
  says (Halted k why) now is = after_k k now is
  says (Unsettled k) now is = both k (suc k) now is
  says (Undoing k) now is = swapped (suc k) k now is
  says Undone now is = is
  says (UndoRefused k code) now is = is

module _ (file : BoardFile) (plan : List Op) (retries : ℕ) where
  abbrev first_records : Records
  first_records = (lab_after file plan retries []).board.records

  module _ (taken : List Event) (start : Records) (same : first_records ≡ start) where
    gave : (k : ℕ) (asked : Asked) (from : ℕ) (a : UndoAnswered) → plays.GaveIn file plan retries taken k (sent_by from asked) a → GaveAnswer file plan start k asked (record { code = a.code; body = a.body })
    gave k asked from a g =
        let x = lab_after file plan retries g.before in
        record {
          before = x.board;
          from = from;
          at = subst (λ (r : Records). IsAfter file plan r k x.board.records) same (after_k file plan first_records k x.board.records g.at);
          answers = ap (λ (given : AnswerAndState). given.0) (sym (has_one_answer file x.board (sent_by from asked) (record { code = a.code; body = a.body }) (happens file g.event x).board g.answers.row));
        }

    module _ (k : ℕ) where
      abbrev GaveThere : Asked → UndoAnswered → Type 0
      GaveThere = plays.GaveIn file plan retries taken k

      -- the manager asked
      said : (asked : Asked) (a : UndoAnswered) → GaveThere (by_manager lab_names asked) a → GaveAnswer file plan start k asked (board_of a)
      said asked a = gave k asked (own_on (bus_of asked) lab_names) a

      why_so : (why : Why) → CausedBy file lab_names (plays.GaveIn file plan retries taken) (In (Calls call.Stop) taken) plan (Halted k why) → IsWhy file plan start taken k why
      why_so Stop was = let is = has_stop taken was in (is.earlier, is.rest, is.all)
      why_so (GetRefused code) was = (was.0, was.4, refused_so lab_names GaveThere (GaveAnswer file plan start k) (Reads (key_of was.0)) said code was.1 was.2 was.3 was.5 was.6 was.7)
      why_so (Refused code) was = (was.0, was.4, refused_so lab_names GaveThere (GaveAnswer file plan start k) (sends was.0) said code was.1 was.2 was.3 was.5 was.6 was.7)
      why_so NotRestorable was = (was.0, was.1, was.2, all_given lab_names GaveThere (GaveAnswer file plan start k) (Reads (key_of was.0)) said was.1 was.3, was.4)

  -- what is told of the start is that of the lab that begins
  begins : (events : List Event) (ending : Ending) → IsPlayed file plan retries events ending → first_records ≡ (told_by ending).start
  begins events (Whole told) is = ap (λ (t : Told). t.start) (sym is.1)
  begins events (Stops fault place told) is = ap (λ (t : Told). t.start) (sym is.7)

  pub promised : (events : List Event) (ending : Ending) → IsPlayed file plan retries events ending → ToldStands file plan retries (taken_by events ending) (told_by ending) → Promise file plan (taken_by events ending) (told_by ending)
  promised events ending played stands =
      let told = told_by ending in
      record {
        stands = says file plan told.start told.phase told.records stands.stands;
        undone = stands.undone;
        why = λ k why halted. why_so (taken_by events ending) told.start (begins events ending played) k why
            (subst (CausedBy file lab_names (plays.GaveIn file plan retries (taken_by events ending)) (In (Calls call.Stop) (taken_by events ending)) plan) halted stands.halts);
      }

pub keeps_promise : (file : BoardFile) (plan : List Op) (retries : ℕ) → KeepsPromise file plan retries
keeps_promise file plan retries events ending played kept = promised file plan retries events ending played ((plays_stand file plan retries events ending played).0 kept)
