-- A manager that is called, driven and called again, while it is looked at.
use Rattle.std.specs.Prelude.{Option, Some, None, Ok, Err}
use Rattle.std.proofs.Common.{◌≡◌, ◌++◌, ◌∙◌, Bool, List, [], ◌∷◌, map, refl, sym, ap, subst}
use Rattle.wire_links.specs.declared.link.Link.{Ghosts}
use Rattle.undo_plans.specs.declared.names.Names.{Names}
use Rattle.model_undo.specs.declared.call.Call.{Call}
use Rattle.model_undo.specs.declared.call.Call.TheVariants.{Again}
use Rattle.model_lab.specs.ManagerSteps.{ManagerStepResult, board_plans, called}
use Rattle.undo_core.specs.declared.manager.Manager.{Manager}
use Rattle.undo_core.specs.declared.phase.WrongPhase.{WrongPhase}
use Rattle.undo_core.specs.declared.sending.Sent.{Sent}
use Rattle.undo_core.specs.Shown.{Represents, IsCalled, CallStep}
use Rattle.undo_core.specs.Course.{Frames}
use Rattle.bmc_ports.specs.Driving.{DrivenState}
use Rattle.bmc_ports.specs.Conversation.{BothLinks, frames_given}
use Rattle.bmc_ports.specs.Observing.{Look, SeesAll, Permit, MaySend, DriveStep, CallsLink, LooksAt, looks_in, SeenMoment, StepsBy, SeenCourse, Observed, permit_for, begins_at}
use Rattle.bmc_ports.proofs.Conversing.{given_of}
use Rattle.bmc_ports.proofs.Observers.{refused_later, sees_both}
use Rattle.app_run.specs.Course.{RunStep, CallsManager, Drives, AreTries, IsCalledFor, GoesByAll, TriesOn, CallWay, SeenTries, RunCourse, looks_of}

-- ---- steps

looks_both : (first later : List RunStep) → looks_of (first ++ later) ≡ looks_of first ++ looks_of later
looks_both [] later = refl
looks_both (CallsManager call ∷ first) later = looks_both first later
looks_both (Drives (CallsLink call) ∷ first) later = looks_both first later
looks_both (Drives (LooksAt look) ∷ first) later = ap (λ (l : List Look). look ∷ l) (looks_both first later)

looks_driven : (steps : List DriveStep) → looks_of (map Drives steps) ≡ looks_in steps
looks_driven [] = refl
looks_driven (CallsLink call ∷ steps) = looks_driven steps
looks_driven (LooksAt look ∷ steps) = ap (λ (l : List Look). look ∷ l) (looks_driven steps)

tries_driven : (steps : List DriveStep) → AreTries (map Drives steps)
tries_driven [] = tt
tries_driven (step ∷ steps) = tries_driven steps

tries_both : (first later : List RunStep) → AreTries first → AreTries later → AreTries (first ++ later)
tries_both [] later are then = then
tries_both (CallsManager call ∷ first) later (again, are) then = (again, tries_both first later are then)
tries_both (Drives step ∷ first) later are then = tries_both first later are then

module _ {A B : Type 0} (one : Ghosts A) (two : Ghosts B) (names : Names) where
  goes_both : (first later : List RunStep) (a b c : SeenMoment A B names) → GoesByAll one two names first a b → GoesByAll one two names later b c
      → GoesByAll one two names (first ++ later) a c
  goes_both [] later a b c same then = subst (λ (x : SeenMoment A B names). GoesByAll one two names later x c) (sym same) then
  goes_both (step ∷ first) later a b c (mid, goes, rest) then = (mid, goes, goes_both first later mid b c rest then)

  goes_driven : (steps : List DriveStep) (a b : SeenMoment A B names) → StepsBy one two names steps a b → GoesByAll one two names (map Drives steps) a b
  goes_driven [] a b same = same
  goes_driven (step ∷ steps) a b (mid, moves, permits, rest) = (mid, (moves, permits), goes_driven steps mid b rest)

  -- ---- a manager on its way

  -- where a manager waits to send what a call gave
  abbrev waits_at : DrivenState names → BothLinks A B → Option Sent → SeenMoment A B names
  waits_at s over given = begins_at one two names s over given (permit_for (frames_given given))

  -- all that it gave is sent
  abbrev sent_at : DrivenState names → BothLinks A B → Option Frames → Permit → SeenMoment A B names
  sent_at s over unsent permit = record { at = record { manager = s; links = over; unsent = unsent }; permit = permit }

  -- it was driven and called again, and waits to send this
  pub record OnItsWay (s : DrivenState names) (given : Option Sent) (looks : List Look) (m : Manager) (waiting : Option Sent) (over left : BothLinks A B) : Type 0 where
    pub after : DrivenState names
    pub shown : Represents names m after
    pub steps : List RunStep
    pub tries : AreTries steps
    pub looked : looks_of steps ≡ looks
    pub leads : GoesByAll one two names steps (waits_at s over given) (waits_at after left waiting)

  starts : (s : DrivenState names) (given : Option Sent) (m : Manager) (over : BothLinks A B) → Represents names m s → OnItsWay s given [] m given over over
  starts s given m over shown = record { after = s; shown = shown; steps = []; tries = tt; looked = refl; leads = refl }

  -- it is driven from there
  drives_on : (s : DrivenState names) (given waiting : Option Sent) (looks later : List Look) (mid m : Manager) (over at left : BothLinks A B) (end : Permit)
      → (way : OnItsWay s given looks mid waiting over at) → SeenCourse one two names (permit_for (frames_given waiting)) way.after waiting later m at left end
      → TriesOn one two names s given (looks ++ later) m over left end
  drives_on s given waiting looks later mid m over at left end way course = record {
    after = course.after;
    unsent = course.unsent;
    shown = course.shown;
    steps = way.steps ++ map Drives course.steps;
    are = tries_both way.steps (map Drives course.steps) way.tries (tries_driven course.steps);
    looked = looks_both way.steps (map Drives course.steps) ∙ ap (λ (l : List Look). l ++ looks_of (map Drives course.steps)) way.looked
        ∙ ap (λ (l : List Look). looks ++ l) (looks_driven course.steps ∙ course.looked);
    leads = goes_both way.steps (map Drives course.steps) (waits_at s over given) (waits_at way.after at waiting) (sent_at course.after left course.unsent end) way.leads
        (goes_driven course.steps (waits_at way.after at waiting) (sent_at course.after left course.unsent end) course.leads);
    is_left = course.is_left;
  }

  -- what a call makes of a manager that has sent all
  is_called_for : (call : Call) (s : DrivenState names) (m : Manager) (sent : Option Sent) (over : BothLinks A B) (deed : ManagerStepResult (board_plans names))
      → called (board_plans names) call s ≡ Some deed → IsCalled names s m (Ok sent) (Some deed)
      → IsCalledFor names call (sent_at s over None MaySend) (waits_at deed.manager over sent)
  is_called_for call s m sent over deed takes is = record {
    deed = deed;
    takes = takes;
    sent = refl;
    might = refl;
    manager = refl;
    gave = given_of names sent deed.sent is.1;
    links = refl;
    permit = refl;
  }

  -- it is called to try again
  tries_again : (s : DrivenState names) (given sent : Option Sent) (looks : List Look) (mid m : Manager) (over left : BothLinks A B)
      → (way : TriesOn one two names s given looks mid over left MaySend) → IsCalled names way.after m (Ok sent) (called (board_plans names) Again way.after)
      → OnItsWay s given looks m sent over left
  tries_again s given sent looks mid m over left way is = go (called (board_plans names) Again way.after) refl is
    where
      go : (deed : Option (ManagerStepResult (board_plans names))) → called (board_plans names) Again way.after ≡ deed → IsCalled names way.after m (Ok sent) deed
          → OnItsWay s given looks m sent over left
      go (Some deed) takes does = record {
        after = deed.manager;
        shown = does.0;
        steps = way.steps ++ CallsManager Again ∷ [];
        tries = tries_both way.steps (CallsManager Again ∷ []) way.are (refl, tt);
        looked = looks_both way.steps (CallsManager Again ∷ []) ∙ ap (λ (l : List Look). l ++ []) way.looked ∙ none_more looks;
        leads = goes_both way.steps (CallsManager Again ∷ []) (waits_at s over given) (sent_at way.after left None MaySend) (waits_at deed.manager left sent)
            (subst (λ (unsent : Option Frames). GoesByAll one two names way.steps (waits_at s over given) (sent_at way.after left unsent MaySend)) way.is_left way.leads)
            (waits_at deed.manager left sent, is_called_for Again way.after m sent left deed takes does, refl);
      }
        where
          none_more : (l : List Look) → l ++ [] ≡ l
          none_more [] = refl
          none_more (look ∷ l) = ap (λ (k : List Look). look ∷ k) (none_more l)
      go None takes does = absurd does

  -- the call is refused
  tries_no_more : (s : DrivenState names) (given : Option Sent) (wrong : WrongPhase) (looks : List Look) (mid m : Manager) (over left : BothLinks A B) (end : Permit)
      → (way : TriesOn one two names s given looks mid over left end) → IsCalled names way.after m (Err wrong) (called (board_plans names) Again way.after)
      → TriesOn one two names s given looks m over left end
  tries_no_more s given wrong looks mid m over left end way is = record {
    after = way.after;
    unsent = way.unsent;
    shown = go (called (board_plans names) Again way.after) is;
    steps = way.steps;
    are = way.are;
    looked = way.looked;
    leads = way.leads;
    is_left = way.is_left;
  }
    where
      go : (deed : Option (ManagerStepResult (board_plans names))) → IsCalled names way.after m (Err wrong) deed → Represents names m way.after
      go (Some deed) does = absurd does
      go None shown = shown

  -- ---- a manager that is called

  -- it goes on from what it gave for the call
  begins_so : (call : Call) (s : DrivenState names) (mid m : Manager) (sent : Option Sent) (looks : List Look) (over left : BothLinks A B) (end : Permit)
      → IsCalled names s mid (Ok sent) (called (board_plans names) call s)
      → ((t : DrivenState names) → Represents names mid t → TriesOn one two names t sent looks m over left end) → CallWay one two names call s looks m over left end
  begins_so call s mid m sent looks over left end is then = go (called (board_plans names) call s) refl is
    where
      go : (deed : Option (ManagerStepResult (board_plans names))) → called (board_plans names) call s ≡ deed → IsCalled names s mid (Ok sent) deed
          → CallWay one two names call s looks m over left end
      go (Some deed) takes does =
          let way = then deed.manager does.0 in record {
            after = way.after;
            unsent = way.unsent;
            shown = way.shown;
            steps = CallsManager call ∷ way.steps;
            are = (refl, way.are);
            looked = way.looked;
            leads = (waits_at deed.manager over sent, is_called_for call s mid sent over deed takes does, way.leads);
            is_left = way.is_left;
          }
      go None takes does = absurd does

  -- the phase isn't one for the call
  never_begins : (call : Call) (s : DrivenState names) (m : Manager) (wrong : WrongPhase) (over : BothLinks A B) → IsCalled names s m (Err wrong) (called (board_plans names) call s)
      → CallWay one two names call s [] m over over MaySend
  never_begins call s m wrong over is = go (called (board_plans names) call s) refl is
    where
      go : (deed : Option (ManagerStepResult (board_plans names))) → called (board_plans names) call s ≡ deed → IsCalled names s m (Err wrong) deed
          → CallWay one two names call s [] m over over MaySend
      go (Some deed) takes does = absurd does
      go None takes shown = record { after = s; unsent = None; shown = shown; steps = []; are = takes; looked = refl; leads = refl; is_left = refl }

-- ---- what looks at it

module _ {Watch A B : Type 0} (sees : Watch → Manager → Bool → Watch → Type 0) (one : Ghosts A) (two : Ghosts B) where
  -- an observer looked at a manager that is on its way, and waits to send this
  pub record SeenOn (before m : Manager) (given waiting : Option Sent) (over left : BothLinks A B) (old new : Watch) : Type 0 where
    pub looks : List Look
    pub seen : SeesAll sees looks old new
    pub course : (names : Names) (s : DrivenState names) → Represents names before s → OnItsWay one two names s given looks m waiting over left

  pub seen_starts : (m : Manager) (given : Option Sent) (over : BothLinks A B) (watch : Watch) → SeenOn m m given given over over watch watch
  seen_starts m given over watch = record { looks = []; seen = refl; course = λ names s shows. starts one two names s given m over shows }

  -- it is driven from there
  pub seen_drives : (before mid m : Manager) (given waiting : Option Sent) (over at left : BothLinks A B) (end : Permit) (old between new : Watch)
      → SeenOn before mid given waiting over at old between → Observed sees one two (permit_for (frames_given waiting)) waiting mid m at left end between new
      → SeenTries sees one two before m given over left end old new
  seen_drives before mid m given waiting over at left end old between new first then = record {
    looks = first.looks ++ then.looks;
    seen = sees_both sees first.looks then.looks old between new first.seen then.seen;
    refused = λ is. refused_later first.looks then.looks (then.refused is);
    course = λ names s shows.
        let way = first.course names s shows in
        drives_on one two names s given waiting first.looks then.looks mid m over at left end way (then.course names way.after way.shown);
  }

  -- it is called to try again
  pub seen_again : (before mid m : Manager) (given sent : Option Sent) (over left : BothLinks A B) (old new : Watch)
      → SeenTries sees one two before mid given over left MaySend old new → CallStep Again mid m (Ok sent) → SeenOn before m given sent over left old new
  seen_again before mid m given sent over left old new first is = record {
    looks = first.looks;
    seen = first.seen;
    course = λ names s shows.
        let way = first.course names s shows in
        tries_again one two names s given sent first.looks mid m over left way (is names way.after way.shown);
  }

  -- the call is refused
  pub seen_no_more : (before mid m : Manager) (given : Option Sent) (wrong : WrongPhase) (over left : BothLinks A B) (end : Permit) (old new : Watch)
      → SeenTries sees one two before mid given over left end old new → CallStep Again mid m (Err wrong) → SeenTries sees one two before m given over left end old new
  seen_no_more before mid m given wrong over left end old new first is = record {
    looks = first.looks;
    seen = first.seen;
    refused = first.refused;
    course = λ names s shows.
        let way = first.course names s shows in
        tries_no_more one two names s given wrong first.looks mid m over left end way (is names way.after way.shown);
  }

  -- it was called, and goes on from what it gave for that
  pub seen_called : (call : Call) (before mid m : Manager) (sent : Option Sent) (over left : BothLinks A B) (end : Permit) (old new : Watch)
      → CallStep call before mid (Ok sent) → SeenTries sees one two mid m sent over left end old new → RunCourse sees one two call before m over left end old new
  seen_called call before mid m sent over left end old new is then = record {
    looks = then.looks;
    seen = then.seen;
    refused = then.refused;
    course = λ names s shows. begins_so one two names call s mid m sent then.looks over left end (is names s shows) (λ t shown. then.course names t shown);
  }

  -- the phase isn't one for the call
  pub seen_uncalled : (call : Call) (before m : Manager) (wrong : WrongPhase) (over : BothLinks A B) (watch : Watch) → CallStep call before m (Err wrong)
      → RunCourse sees one two call before m over over MaySend watch watch
  seen_uncalled call before m wrong over watch is = record {
    looks = [];
    seen = refl;
    refused = λ is. cc is;
    course = λ names s shows. never_begins one two names call s m wrong over (is names s shows);
  }
