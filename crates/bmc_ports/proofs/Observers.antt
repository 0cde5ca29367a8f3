-- A manager that is looked at while it is driven.
use Rattle.std.specs.Prelude.{Result, Option, Some, None}
use Rattle.std.proofs.Common.{◌≡◌, ◌++◌, Bool, true, false, List, [], ◌∷◌, inl, inr, refl, sym, ◌∙◌, subst}
use Rattle.two_wire.specs.declared.Bus.{Bus}
use Rattle.wire_links.specs.declared.link.Heard.{Heard}
use Rattle.wire_links.specs.declared.link.LinkFault.{LinkFault}
use Rattle.wire_links.specs.declared.link.Link.{Ghosts}
use Rattle.undo_plans.specs.declared.names.Names.{Names}
use Rattle.undo_core.specs.declared.manager.Manager.{Manager}
use Rattle.undo_core.specs.declared.sending.Sent.{Sent}
use Rattle.undo_core.specs.Shown.{Represents}
use Rattle.undo_core.specs.Course.{InputResult}
use Rattle.bmc_ports.specs.Driving.{DrivenState, Answers, call_for, open_at}
use Rattle.bmc_ports.specs.Conversation.{BothLinks, GivesOn}
use Rattle.bmc_ports.specs.Observing.{Look, SeesAll, HasRefusal, Permit, Unseen, MaySend, MayNot, SentAll, Observed}
use Rattle.bmc_ports.proofs.Conversing.{stays, then_course, hears_then, looks_then, looks_last}

-- a refusal is one among more looks
pub refused_later : (first later : List Look) → HasRefusal later → HasRefusal (first ++ later)
refused_later [] later is = is
refused_later (look ∷ first) later is = inr (refused_later first later is)

module _ {Watch : Type 0} (sees : Watch → Manager → Bool → Watch → Type 0) where
  pub sees_both : (first later : List Look) (old mid new : Watch) → SeesAll sees first old mid → SeesAll sees later mid new → SeesAll sees (first ++ later) old new
  sees_both [] later old mid new same then = subst (λ (w : Watch). SeesAll sees later w new) same then
  sees_both (look ∷ first) later old mid new (next, seen, rest) then = (next, seen, sees_both first later next mid new rest then)

  -- what always allows it refuses nothing
  pub never_refused : (always : (old : Watch) (m : Manager) (allowed : Bool) (new : Watch) → sees old m allowed new → allowed ≡ true)
      → (looks : List Look) (old new : Watch) → SeesAll sees looks old new → HasRefusal looks → ⊥
  never_refused always [] old new same none = none
  never_refused always (look ∷ later) old new (mid, seen, rest) (inl refused) = let both : true ≡ false = sym (always old look.manager look.allowed mid seen) ∙ refused in cc both
  never_refused always (look ∷ later) old new (mid, seen, rest) (inr refused) = never_refused always later mid new rest refused

  module _ {A B : Type 0} (one : Ghosts A) (two : Ghosts B) where
    -- nothing was done
    pub stays_seen : (m : Manager) (over : BothLinks A B) (watch : Watch) → Observed sees one two MaySend None m m over over MaySend watch watch
    stays_seen m over watch = record { looks = []; seen = refl; refused = λ is. cc is; course = λ names s shows. stays one two names s m over shows }

    -- it went on
    pub then_seen : (begin end : Permit) (given : Option Sent) (m mid last : Manager) (over at left : BothLinks A B) (old between new : Watch)
        → Observed sees one two begin given m mid over at MaySend old between → Observed sees one two MaySend None mid last at left end between new
        → Observed sees one two begin given m last over left end old new
    then_seen begin end given m mid last over at left old between new first then = record {
      looks = first.looks ++ then.looks;
      seen = sees_both first.looks then.looks old between new first.seen then.seen;
      refused = λ is. refused_later first.looks then.looks (then.refused is);
      course = λ names s shows.
          let course = first.course names s shows in
          then_course one two names begin end s given first.looks then.looks mid last over at left course (then.course names course.after course.shown);
    }

    -- a call of `next`, and what became of what the manager gave for it
    pub hears_seen : (on : Bus) (answer : Result Heard LinkFault) (end : Permit) (m mid last : Manager) (given : Option Sent) (over at left : BothLinks A B) (old new : Watch)
        → ((names : Names) (s : DrivenState names) → Represents names m s → open_at names s ≡ Some on) → GivesOn one two on over answer at
        → ((names : Names) (s : DrivenState names) → Represents names m s → InputResult names (call_for (Answers on answer)) s mid given)
        → Observed sees one two Unseen given mid last at left end old new → Observed sees one two MaySend None m last over left end old new
    hears_seen on answer end m mid last given over at left old new is_open gives comes then = record {
      looks = then.looks;
      seen = then.seen;
      refused = then.refused;
      course = λ names s shows.
          let came = comes names s shows in
          hears_then one two names on answer end s then.looks mid last given over at left (is_open names s shows) gives came (then.course names came.deed.manager came.does.0);
    }

    -- a look that allows it, and then what was given is sent
    pub sends_seen : (m last : Manager) (given : Option Sent) (over left : BothLinks A B) (old new : Watch) → sees old m true new
        → ((names : Names) (s : DrivenState names) → Represents names m s → SentAll one two names s given last over left)
        → Observed sees one two Unseen given m last over left MaySend old new
    sends_seen m last given over left old new look sends = record {
      looks = record { manager = m; allowed = true } ∷ [];
      seen = (new, look, refl);
      refused = λ is. cc is;
      course = λ names s shows. looks_then one two names s m last given over left shows (sends names s shows);
    }

    -- a look that doesn't
    pub keeps_back : (m : Manager) (given : Option Sent) (over : BothLinks A B) (old new : Watch) → sees old m false new → Observed sees one two Unseen given m m over over MayNot old new
    keeps_back m given over old new look = record {
      looks = record { manager = m; allowed = false } ∷ [];
      seen = (new, look, refl);
      refused = λ is. inl refl;
      course = λ names s shows. looks_last one two names s m given over shows;
    }
