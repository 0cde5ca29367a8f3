-- Calls of both links by what drives a manager, one after another.
use Rattle.std.specs.Prelude.{Result, Ok, Err, option_map, nat_lt}
use Rattle.std.proofs.Common.{◌≡◌, ◌≤◌, ◌<◌, ◌+◌, ◌++◌, ◌∙◌, ◌⊎◌, inl, inr, ℕ, Bool, true, false, List, [], ◌∷◌, Option, Some, None, refl, sym, ap, subst, cond, arith}
use Rattle.two_wire.specs.declared.Bus.{Bus}
use Rattle.two_wire.specs.declared.Bus.TheVariants.{Ipmb, Smbus}
use Rattle.wire_links.specs.declared.link.Heard.{Heard}
use Rattle.wire_links.specs.declared.link.LinkFault.{LinkFault}
use Rattle.wire_links.specs.declared.link.Link.{Ghosts}
use Rattle.wire_links.specs.Trace.{Sending, Gives}
use Rattle.undo_plans.specs.declared.names.Names.{Names}
use Rattle.model_undo.specs.Machine.{Stage, AtStart, Opened, AtEnd, AtHalt, AtUndone, AtRefused, Turn, quiets, sending, rests as machine_rests}
use Rattle.model_undo.specs.declared.call.Call.TheVariants.{Quiet}
use Rattle.model_lab.specs.ManagerSteps.{Sent as AllSent, ManagerStepResult, board_plans, called, goes_on}
use Rattle.undo_core.specs.declared.manager.Manager.{Manager}
use Rattle.undo_core.specs.declared.sending.Sent.{Sent}
use Rattle.undo_core.specs.Shown.{words_of, Represents, IsSent}
use Rattle.undo_core.specs.Course.{Frames, Input, Calls, InputResult, frames_of, or_rests}
use Rattle.bmc_ports.specs.Driving.{DrivenState, Answers, call_for, open_at}
use Rattle.bmc_ports.specs.Conversation.{BothLinks, Moment, LinkCall, Next, Send, IsTold, GivesOn, SendsOn, LeadsByAll, HeardAndSent, frames_given, links}
use Rattle.bmc_ports.specs.Observing.{Look, Permit, Unseen, MaySend, MayNot, DriveStep, CallsLink, LooksAt, looks_in, SeenMoment, StepsBy, SeenCourse, SentAll}

module _ (names : Names) where
  -- what the manager sends is what its machine does
  pub given_of : (sent : Option Sent) (all_sent : Option AllSent) → IsSent sent all_sent → frames_given sent ≡ option_map (frames_of names) all_sent
  given_of None None is = refl
  given_of (Some sent) (Some all) (on, request, frames, reads) =
      ap (λ (bus : Bus). Some (record { on = bus; frames = sent.frames.items })) on
      ∙ ap (λ (items : List (List ℕ)). Some (record { on = all.on; frames = items })) frames
  given_of None (Some all) is = absurd is
  given_of (Some sent) None is = absurd is

  -- ---- a manager that is told again and again that no reply came

  -- it sends nothing, or has sent its request again once more
  abbrev SendsMore : DrivenState names → Option (ManagerStepResult (board_plans names)) → Type 0
  SendsMore s deed = ((or_rests names deed s).sent ≡ None) ⊎ ((or_rests names deed s).manager.machine.resent ≡ s.machine.resent + 1)

  tested : (test : Bool) (s : DrivenState names) (again rest : Turn (words_of names)) → SendsMore s (Some (goes_on (board_plans names) s again))
      → SendsMore s (Some (goes_on (board_plans names) s rest)) → SendsMore s (option_map (goes_on (board_plans names) s) (cond test (Some again) (Some rest)))
  tested true s again rest first second = first
  tested false s again rest first second = second

  quiets_more : (stage : Stage (words_of names)) (s : DrivenState names) → SendsMore s (option_map (goes_on (board_plans names) s) (quiets (words_of names) stage s.machine))
  quiets_more (Opened true task part) s =
      tested (nat_lt s.machine.resent s.machine.retries) s
      (record { machine = record s.machine { resent = s.machine.resent + 1 }; sends = Some (sending (words_of names) part s.machine.counts) })
      (machine_rests (words_of names) (record s.machine { stage = Opened false task part })) (inr refl) (inl refl)
  quiets_more (Opened false task part) s = inl refl
  quiets_more AtStart s = inl refl
  quiets_more AtEnd s = inl refl
  quiets_more (AtHalt k why) s = inl refl
  quiets_more AtUndone s = inl refl
  quiets_more (AtRefused k code) s = inl refl

  called_more : (s : DrivenState names) → SendsMore s (called (board_plans names) Quiet s)
  unfolding called
  called_more s = quiets_more s.machine.stage s

  -- so its frames are sent no more often than it counts
  many : (counter : ℕ) (s : DrivenState names) (d : ManagerStepResult (board_plans names)) → d ≡ or_rests names (called (board_plans names) Quiet s) s
      → counter ≤ s.machine.resent → (option_map (frames_of names) d.sent ≡ None) ⊎ (counter + 1 ≤ d.manager.machine.resent)
  many counter s d is least = by (called_more s)
    where
      by : SendsMore s (called (board_plans names) Quiet s) → (option_map (frames_of names) d.sent ≡ None) ⊎ (counter + 1 ≤ d.manager.machine.resent)
      by (inl none) = inl (ap (λ (e : ManagerStepResult (board_plans names)). option_map (frames_of names) e.sent) is ∙ ap (option_map (frames_of names)) none)
      by (inr more) =
          let count : d.manager.machine.resent ≡ s.machine.resent + 1 = ap (λ (e : ManagerStepResult (board_plans names)). e.manager.machine.resent) is ∙ more in
          inr (omega (arith, count, least))

-- ---- looks

pub looks_both : (first later : List DriveStep) → looks_in (first ++ later) ≡ looks_in first ++ looks_in later
looks_both [] later = refl
looks_both (CallsLink call ∷ first) later = looks_both first later
looks_both (LooksAt look ∷ first) later = ap (λ (l : List Look). look ∷ l) (looks_both first later)

-- ---- steps of a drive
module _ {A B : Type 0} (one : Ghosts A) (two : Ghosts B) (names : Names) where
  -- steps, and then others
  steps_both : (first later : List DriveStep) (a b c : SeenMoment A B names) → StepsBy one two names first a b → StepsBy one two names later b c
      → StepsBy one two names (first ++ later) a c
  steps_both [] later a b c same then = subst (λ (x : SeenMoment A B names). StepsBy one two names later x c) (sym same) then
  steps_both (step ∷ first) later a b c (mid, moves, permits, rest) then = (mid, moves, permits, steps_both first later mid b c rest then)

  abbrev moment : DrivenState names → BothLinks A B → Option Frames → Moment A B names
  moment s over unsent = record { manager = s; links = over; unsent = unsent }

  abbrev at_moment : DrivenState names → BothLinks A B → Option Frames → Permit → SeenMoment A B names
  at_moment s over unsent permit = record { at = moment s over unsent; permit = permit }

  -- the manager was told, and what it gave is to be sent
  told : (input : Input) (s : DrivenState names) (m : Manager) (sent : Option Sent) (over left : BothLinks A B) (unsent : Option Frames)
      → (comes : InputResult names input s m sent) → IsTold names input (moment s over unsent) (moment comes.deed.manager left (frames_given sent))
  told input s m sent over left unsent comes =
      record { deed = comes.deed; is = comes.is; manager = refl; gave = given_of names sent comes.deed.sent comes.does.1 }

  -- nothing was done
  pub stays : (s : DrivenState names) (m : Manager) (over : BothLinks A B) → Represents names m s → SeenCourse one two names MaySend s None [] m over over MaySend
  stays s m over shown = record { after = s; unsent = None; shown = shown; steps = []; looked = refl; leads = refl; is_left = refl }

  -- a course, and then another
  pub then_course : (permit end : Permit) (s : DrivenState names) (given : Option Sent) (looks later : List Look) (mid m : Manager) (over at left : BothLinks A B)
      → (begins : SeenCourse one two names permit s given looks mid over at MaySend) → SeenCourse one two names MaySend begins.after None later m at left end
      → SeenCourse one two names permit s given (looks ++ later) m over left end
  then_course permit end s given looks later mid m over at left begins then = record {
    after = then.after;
    unsent = then.unsent;
    shown = then.shown;
    steps = begins.steps ++ then.steps;
    looked = looks_both begins.steps then.steps ∙ ap (λ (l : List Look). l ++ looks_in then.steps) begins.looked ∙ ap (λ (l : List Look). looks ++ l) then.looked;
    leads = steps_both begins.steps then.steps (at_moment s over (frames_given given) permit) (at_moment begins.after at None MaySend) (at_moment then.after left then.unsent end)
        (subst (λ (unsent : Option Frames). StepsBy one two names begins.steps (at_moment s over (frames_given given) permit) (at_moment begins.after at unsent MaySend)) begins.is_left begins.leads)
        then.leads;
    is_left = then.is_left;
  }

  -- a call of `next`, and then what became of what the manager gave for it
  pub hears_then : (on : Bus) (answer : Result Heard LinkFault) (end : Permit) (s : DrivenState names) (looks : List Look) (mid m : Manager) (sent : Option Sent) (over at left : BothLinks A B)
      → open_at names s ≡ Some on → GivesOn one two on over answer at → (comes : InputResult names (call_for (Answers on answer)) s mid sent)
      → SeenCourse one two names Unseen comes.deed.manager sent looks m at left end → SeenCourse one two names MaySend s None looks m over left end
  hears_then on answer end s looks mid m sent over at left is_open gives comes then = record {
    after = then.after;
    unsent = then.unsent;
    shown = then.shown;
    steps = CallsLink (Next on answer) ∷ then.steps;
    looked = then.looked;
    leads = (
      at_moment comes.deed.manager at (frames_given sent) Unseen,
      (refl, is_open, gives, told (call_for (Answers on answer)) s mid sent over at None comes),
      (refl, refl),
      then.leads,
    );
    is_left = then.is_left;
  }

  -- a look that allows it, and then what was given is sent
  pub looks_then : (s : DrivenState names) (seen m : Manager) (given : Option Sent) (over left : BothLinks A B) → Represents names seen s
      → SentAll one two names s given m over left → SeenCourse one two names Unseen s given (record { manager = seen; allowed = true } ∷ []) m over left MaySend
  looks_then s seen m given over left shown then = record {
    after = then.after;
    unsent = then.unsent;
    shown = then.shown;
    steps = LooksAt (record { manager = seen; allowed = true }) ∷ then.steps;
    looked = ap (λ (l : List Look). record { manager = seen; allowed = true } ∷ l) then.looked;
    leads = (at_moment s over (frames_given given) MaySend, (shown, refl), (refl, refl), then.leads);
    is_left = then.is_left;
  }

  -- a look that doesn't
  pub looks_last : (s : DrivenState names) (m : Manager) (given : Option Sent) (over : BothLinks A B) → Represents names m s
      → SeenCourse one two names Unseen s given (record { manager = m; allowed = false } ∷ []) m over over MayNot
  looks_last s m given over shown = record {
    after = s;
    unsent = frames_given given;
    shown = shown;
    steps = LooksAt (record { manager = m; allowed = false }) ∷ [];
    looked = refl;
    leads = (at_moment s over (frames_given given) MayNot, (shown, refl), (refl, refl), refl);
    is_left = tt;
  }

  -- a manager that is on its way, while what it gave is sent: that failed so often
  pub record OnItsWay (s : DrivenState names) (given : Option Sent) (over : BothLinks A B) (counter : ℕ) (m : Manager) (sent : Option Sent) (left : BothLinks A B) : Type 0 where
    pub after : DrivenState names
    pub shown : Represents names m after
    pub steps : List DriveStep
    pub looked : looks_in steps ≡ []
    pub leads : StepsBy one two names steps (at_moment s over (frames_given given) MaySend) (at_moment after left (frames_given sent) MaySend)
    pub many : (frames_given sent ≡ None) ⊎ (counter ≤ after.machine.resent)

  pub begins : (s : DrivenState names) (m : Manager) (given : Option Sent) (over : BothLinks A B) → Represents names m s → OnItsWay s given over 0 m given over
  begins s m given over shown = record { after = s; shown = shown; steps = []; looked = refl; leads = refl; many = inr (omega arith) }

  -- all is sent
  pub all_sent : (s : DrivenState names) (given sent : Option Sent) (over left : BothLinks A B) (counter : ℕ) (m : Manager) → OnItsWay s given over counter m sent left
      → frames_given sent ≡ None → SentAll one two names s given m over left
  all_sent s given sent over left counter m way none = record {
    after = way.after;
    unsent = frames_given sent;
    shown = way.shown;
    steps = way.steps;
    looked = way.looked;
    leads = way.leads;
    is_left = none;
  }

  -- it is, where that failed more often than a manager counts
  pub no_more : (s : DrivenState names) (given sent : Option Sent) (over left : BothLinks A B) (counter most : ℕ) (m : Manager) (way : OnItsWay s given over counter m sent left)
      → most ≡ way.after.machine.resent → most < counter → SentAll one two names s given m over left
  no_more s given sent over left counter most m way is less = all_sent s given sent over left counter m way (by way.many)
    where
      by : (frames_given sent ≡ None) ⊎ (counter ≤ way.after.machine.resent) → frames_given sent ≡ None
      by (inl none) = none
      by (inr least) = absurd (omega (arith, least, is, less))

  -- a call to send, behind others
  no_looks : (steps : List DriveStep) (call : LinkCall) → looks_in steps ≡ [] → looks_in (steps ++ CallsLink call ∷ []) ≡ []
  no_looks steps call none = looks_both steps (CallsLink call ∷ []) ∙ ap (λ (l : List Look). l ++ []) none

  -- the frames were sent
  pub sent_now : (s : DrivenState names) (given : Option Sent) (own : Sent) (over at left : BothLinks A B) (counter : ℕ) (m : Manager)
      → OnItsWay s given over counter m (Some own) at → SendsOn one two own.bus at own.frames.items (Ok tt) left → SentAll one two names s given m over left
  sent_now s given own over at left counter m way sends =
      let sent : Frames = record { on = own.bus; frames = own.frames.items } in
      let call : LinkCall = Send sent (Ok tt) in record {
        after = way.after;
        unsent = None;
        shown = way.shown;
        steps = way.steps ++ CallsLink call ∷ [];
        looked = no_looks way.steps call way.looked;
        leads = steps_both way.steps (CallsLink call ∷ []) (at_moment s over (frames_given given) MaySend) (at_moment way.after at (Some sent) MaySend)
            (at_moment way.after left None MaySend) way.leads
            (at_moment way.after left None MaySend, (refl, sends, (refl, refl)), (refl, refl), refl);
        is_left = refl;
      }

  -- their sending failed, and the manager was told that no reply came
  pub failed_now : (s : DrivenState names) (given : Option Sent) (own : Sent) (fault : LinkFault) (over at left : BothLinks A B) (counter : ℕ) (mid m : Manager) (next : Option Sent)
      (way : OnItsWay s given over counter mid (Some own) at) → SendsOn one two own.bus at own.frames.items (Err fault) left
      → InputResult names (Calls Quiet) way.after m next → OnItsWay s given over (counter + 1) m next left
  failed_now s given own fault over at left counter mid m next way sends comes =
      let sent : Frames = record { on = own.bus; frames = own.frames.items } in
      let answer : Sending = Err fault in
      let call : LinkCall = Send sent answer in record {
        after = comes.deed.manager;
        shown = comes.does.0;
        steps = way.steps ++ CallsLink call ∷ [];
        looked = no_looks way.steps call way.looked;
        leads = steps_both way.steps (CallsLink call ∷ []) (at_moment s over (frames_given given) MaySend) (at_moment way.after at (Some sent) MaySend)
            (at_moment comes.deed.manager left (frames_given next) MaySend) way.leads
            (at_moment comes.deed.manager left (frames_given next) MaySend, (refl, sends, told (Calls Quiet) way.after m next at left (Some sent) comes), (refl, refl), refl);
        many = by way.many;
      }
    where
      by : (frames_given (Some own) ≡ None) ⊎ (counter ≤ way.after.machine.resent) → (frames_given next ≡ None) ⊎ (counter + 1 ≤ comes.deed.manager.machine.resent)
      by (inl none) = cc none
      by (inr least) = quieted (many names counter way.after comes.deed comes.is least)
        where
          quieted : (option_map (frames_of names) comes.deed.sent ≡ None) ⊎ (counter + 1 ≤ comes.deed.manager.machine.resent)
              → (frames_given next ≡ None) ⊎ (counter + 1 ≤ comes.deed.manager.machine.resent)
          quieted (inl none) = inl (given_of names next comes.deed.sent comes.does.1 ∙ none)
          quieted (inr more) = inr more

  -- ---- the calls of the links alone

  calls_in : List DriveStep → List LinkCall
  calls_in [] = []
  calls_in (CallsLink call ∷ later) = call ∷ calls_in later
  calls_in (LooksAt look ∷ later) = calls_in later

  calls_lead : (steps : List DriveStep) (a b : SeenMoment A B names) → StepsBy one two names steps a b → LeadsByAll one two names (calls_in steps) a.at b.at
  unfolding calls_in
  calls_lead [] a b same = ap (λ (x : SeenMoment A B names). x.at) same
  calls_lead (CallsLink call ∷ later) a b (mid, moves, permits, rest) = (mid.at, moves, calls_lead later mid b rest)
  calls_lead (LooksAt look ∷ later) a b (mid, moves, permits, rest) =
      subst (λ (x : Moment A B names). LeadsByAll one two names (calls_in later) x b.at) moves.1 (calls_lead later mid b rest)

  -- what a manager that is looked at heard and sent
  pub heard_and_sent : (permit : Permit) (s : DrivenState names) (given : Option Sent) (looks : List Look) (m : Manager) (over left : BothLinks A B)
      → SeenCourse one two names permit s given looks m over left MaySend → HeardAndSent one two names s given m over left
  heard_and_sent permit s given looks m over left course = record {
    after = course.after;
    shown = course.shown;
    calls = calls_in course.steps;
    leads = subst (λ (unsent : Option Frames). LeadsByAll one two names (calls_in course.steps) (moment s over (frames_given given)) (moment course.after left unsent)) course.is_left
        (calls_lead course.steps (at_moment s over (frames_given given) permit) (at_moment course.after left course.unsent MaySend) course.leads);
  }

-- ---- what one of both links does
module _ {A B : Type 0} (one : Ghosts A) (two : Ghosts B) (ipmb next : A) (smbus last : B) where
  pub gives_ipmb : (answer : Result Heard LinkFault) → Gives one ipmb answer next → GivesOn one two Ipmb (links ipmb smbus) answer (links next smbus)
  gives_ipmb answer gives = (gives, refl)

  pub gives_smbus : (answer : Result Heard LinkFault) → Gives two smbus answer last → GivesOn one two Smbus (links ipmb smbus) answer (links ipmb last)
  gives_smbus answer gives = (gives, refl)
