-- Turns of a manager that is driven, one after another.
use Rattle.std.specs.Prelude.{Result, Ok, Err, OnOk, OnErr, sum_by}
use Rattle.std.proofs.Common.{◌≡◌, ℕ, ◌+◌, ◌++◌, List, [], ◌∷◌, Option, Some, None, option_map, ◌⊎◌, inl, inr, refl, sym, ◌∙◌, ap, subst, arith}
use Rattle.std.proofs.lemmas.List.Sums.{sum_by-append}
use Rattle.two_wire.specs.declared.Bus.{Bus}
use Rattle.two_wire.specs.declared.Bus.TheVariants.{Ipmb, Smbus}
use Rattle.wire_links.specs.declared.link.Counts.{Counts}
use Rattle.wire_links.specs.declared.link.Heard.{Heard}
use Rattle.wire_links.specs.declared.link.Heard.TheVariants.{Frame, Quiet}
use Rattle.wire_links.specs.declared.link.LinkFault.{LinkFault}
use Rattle.wire_links.specs.Counted.{one_more, counted_on, after_next, after_send}
use Rattle.wire_links.specs.Trace.{Sending}
use Rattle.wire_links.proofs.Counting.{counted_twice}
use Rattle.undo_plans.specs.declared.names.Names.{Names}
use Rattle.model_undo.specs.Machine.{Stage, AtStart, Opened, AtEnd, AtHalt, AtUndone, AtRefused, Machine, open_bus_at, quiets}
use Rattle.model_undo.specs.declared.call.Call.TheVariants as call
use Rattle.model_lab.specs.ManagerSteps.{ManagerStepResult, board_plans, called, goes_on}
use Rattle.undo_core.specs.Shown.{words_of}
use Rattle.undo_core.specs.Course.{Calls, InputResult, or_rests}
use Rattle.undo_core.specs.declared.manager.Manager.{Manager}
use Rattle.undo_core.specs.declared.sending.Sent.{Sent}
use Rattle.model_undo.specs.declared.phase.Phase.{Phase}
use Rattle.bmc_ports.specs.declared.observer.KeptBack.{KeptBack}
use Rattle.bmc_ports.specs.Observing.{DrivesTo}
use Rattle.bmc_ports.specs.Driving.{Turnout, Answers, FailsToSend, call_for, calls_on, heard_on, failures_on, HasCounted, HaveCounted, CountsFailures, faults_in, LinkFails, Links, both, turns_in, DrivenState, open_at, ReachesBy, LeadsThrough, LeadsTo, DrivenTurns}

-- ---- counts

pub summed : (f : Turnout → ℕ) (first later : List Turnout) → sum_by f later + sum_by f first ≡ sum_by f (first ++ later)
summed f first later = omega (arith, sum_by-append f first later)

counted_both : (f : Turnout → ℕ) (first later : List Turnout) (a b c : ℕ) → b ≡ counted_on a (sum_by f first) → c ≡ counted_on b (sum_by f later)
    → c ≡ counted_on a (sum_by f (first ++ later))
counted_both f first later a b c begins then =
    then ∙ ap (λ (n : ℕ). counted_on n (sum_by f later)) begins ∙ counted_twice a (sum_by f first) (sum_by f later) ∙ ap (counted_on a) (summed f first later)

has_counted_both : (on : Bus) (first later : List Turnout) (a b c : Counts) → HasCounted on first a b → HasCounted on later b c → HasCounted on (first ++ later) a c
has_counted_both on first later a b c begins then = record {
  calls = counted_both (calls_on on) first later a.calls b.calls c.calls begins.calls then.calls;
  heard = counted_both (heard_on on) first later a.heard b.heard c.heard begins.heard then.heard;
  failures = counted_both (failures_on on) first later a.failures b.failures c.failures begins.failures then.failures;
}

none_counted : (on : Bus) (a : Counts) → HasCounted on [] a a
none_counted on a = record { calls = refl; heard = refl; failures = refl }

counts_next : (on : Bus) (answer : Result Heard LinkFault) (a : Counts) → HasCounted on (Answers on answer ∷ []) a (after_next answer a)
counts_next Ipmb (Ok (Frame bytes)) a = record { calls = refl; heard = refl; failures = refl }
counts_next Ipmb (Ok Quiet) a = record { calls = refl; heard = refl; failures = refl }
counts_next Ipmb (Err fault) a = record { calls = refl; heard = refl; failures = refl }
counts_next Smbus (Ok (Frame bytes)) a = record { calls = refl; heard = refl; failures = refl }
counts_next Smbus (Ok Quiet) a = record { calls = refl; heard = refl; failures = refl }
counts_next Smbus (Err fault) a = record { calls = refl; heard = refl; failures = refl }

-- a call of `next` of IPMB's link, or of SMBus's
pub counts_ipmb : (answer : Result Heard LinkFault) (a b c : Counts) → b ≡ after_next answer a → HaveCounted (Answers Ipmb answer ∷ []) (both a c) (both b c)
counts_ipmb answer a b c is = (
  subst (λ (x : Counts). HasCounted Ipmb (Answers Ipmb answer ∷ []) a x) (sym is) (counts_next Ipmb answer a),
  record { calls = refl; heard = refl; failures = refl },
)

pub counts_smbus : (answer : Result Heard LinkFault) (a b c : Counts) → b ≡ after_next answer a → HaveCounted (Answers Smbus answer ∷ []) (both c a) (both c b)
counts_smbus answer a b c is = (
  record { calls = refl; heard = refl; failures = refl },
  subst (λ (x : Counts). HasCounted Smbus (Answers Smbus answer ∷ []) a x) (sym is) (counts_next Smbus answer a),
)

-- one more frame was sent
pub nothing_more : (a b c : Counts) → CountsFailures 0 a b → c ≡ after_send (Ok tt) b → CountsFailures 0 a c
nothing_more a b c begins is = record {
  calls = ap (λ (x : Counts). x.calls) is ∙ begins.calls;
  heard = ap (λ (x : Counts). x.heard) is ∙ begins.heard;
  failures = ap (λ (x : Counts). x.failures) is ∙ begins.failures;
}

-- and then a sending failed
pub nothing_then : (fault : LinkFault) (a b c : Counts) → CountsFailures 0 a b → c ≡ after_send (Err fault) b → CountsFailures 1 a c
nothing_then fault a b c begins is = record {
  calls = ap (λ (x : Counts). x.calls) is ∙ begins.calls;
  heard = ap (λ (x : Counts). x.heard) is ∙ begins.heard;
  failures = ap (λ (x : Counts). x.failures) is ∙ ap one_more begins.failures;
}

-- ---- what frames that were sent over one link count, while the other is as it was
none_more : (on : Bus) (a b : Counts) → CountsFailures 0 a b → HasCounted on [] a b
none_more on a b counts = record { calls = counts.calls; heard = counts.heard; failures = counts.failures }

pub frames_counted : (answer : Sending) (a b c : Counts) → CountsFailures (faults_in answer) a b → OnOk answer (HaveCounted [] (both a c) (both b c))
frames_counted (Ok done) a b c counts = (none_more Ipmb a b counts, none_counted Smbus c)
frames_counted (Err fault) a b c counts = tt

pub counted_frames : (answer : Sending) (a b c : Counts) → CountsFailures (faults_in answer) a b → OnOk answer (HaveCounted [] (both c a) (both c b))
counted_frames (Ok done) a b c counts = (none_counted Ipmb c, none_more Smbus a b counts)
counted_frames (Err fault) a b c counts = tt

pub frames_failed : (answer : Sending) (a b c : Counts) → CountsFailures (faults_in answer) a b → OnErr answer (LinkFails (both a c) (both b c))
frames_failed (Ok done) a b c counts = tt
frames_failed (Err fault) a b c counts = (
  Ipmb,
  (record { calls = counts.calls; heard = counts.heard; failures = counts.failures }, record { calls = refl; heard = refl; failures = refl }),
)

pub failed_frames : (answer : Sending) (a b c : Counts) → CountsFailures (faults_in answer) a b → OnErr answer (LinkFails (both c a) (both c b))
failed_frames (Ok done) a b c counts = tt
failed_frames (Err fault) a b c counts = (
  Smbus,
  (record { calls = refl; heard = refl; failures = refl }, record { calls = counts.calls; heard = counts.heard; failures = counts.failures }),
)

turns_of : (on : Bus) (answer : Result Heard LinkFault) → turns_in (Answers on answer ∷ []) ≡ 1
turns_of Ipmb answer = refl
turns_of Smbus answer = refl

-- ---- what is led to

module _ (names : Names) where
  reaches_both : (first later : List Turnout) (s t u : DrivenState names) → ReachesBy names first s t → ReachesBy names later t u → ReachesBy names (first ++ later) s u
  reaches_both [] later s t u same then = subst (λ (x : DrivenState names). ReachesBy names later x u) (sym same) then
  reaches_both (came ∷ first) later s t u (deed, is_open, is, rest) then = (deed, is_open, is, reaches_both first later deed.manager t u rest then)

  -- nothing came
  pub leads_nowhere : (s : DrivenState names) (a : Links) → LeadsThrough names 0 s s a a
  leads_nowhere s a = record { came = []; turns_made = refl; reaches = refl; counted = (none_counted Ipmb a.ipmb, none_counted Smbus a.smbus) }

  -- turns, and then others
  pub leads_on : (turns more : ℕ) (s t u : DrivenState names) (a b c : Links) → LeadsThrough names turns s t a b → LeadsThrough names more t u b c → LeadsThrough names (turns + more) s u a c
  leads_on turns more s t u a b c begins then = record {
    came = begins.came ++ then.came;
    turns_made = omega (arith, sum_by-append (calls_on Ipmb) begins.came then.came, sum_by-append (calls_on Smbus) begins.came then.came, begins.turns_made, then.turns_made);
    reaches = reaches_both begins.came then.came s t u begins.reaches then.reaches;
    counted = (
      has_counted_both Ipmb begins.came then.came a.ipmb b.ipmb c.ipmb begins.counted.0 then.counted.0,
      has_counted_both Smbus begins.came then.came a.smbus b.smbus c.smbus begins.counted.1 then.counted.1,
    );
  }

  -- one turn
  pub turn_leads : (on : Bus) (answer : Result Heard LinkFault) (s : DrivenState names) (m : Manager) (sent : Option Sent) → open_at names s ≡ Some on
      → InputResult names (call_for (Answers on answer)) s m sent → (a b : Links) → HaveCounted (Answers on answer ∷ []) a b → LeadsTo names 1 s m a b
  turn_leads on answer s m sent at comes a b counted = record {
    after = comes.deed.manager;
    shown = comes.does.0;
    leads = record {
      came = Answers on answer ∷ [];
      turns_made = turns_of on answer;
      reaches = (comes.deed, at, comes.is, refl);
      counted = counted;
    };
  }

  -- a frame that wasn't sent
  pub failure_leads : (s : DrivenState names) (m : Manager) (sent : Option Sent) → InputResult names (Calls call.Quiet) s m sent → (a b : Links) → LinkFails a b → LeadsTo names 0 s m a b
  failure_leads s m sent comes a b fails = record {
    after = comes.deed.manager;
    shown = comes.does.0;
    leads = record {
      came = FailsToSend fails.0 ∷ [];
      turns_made = refl;
      reaches = (comes.deed, tt, comes.is, refl);
      counted = fails.1;
    };
  }

  -- frames that were sent
  pub sending_leads : (s : DrivenState names) (a b : Links) → HaveCounted [] a b → LeadsThrough names 0 s s a b
  sending_leads s a b counted = record { came = []; turns_made = refl; reaches = refl; counted = counted }

  -- turns led to a manager, and then frames were sent
  pub sends_on : (turns : ℕ) (s : DrivenState names) (m : Manager) (a b c : Links) → (met : LeadsTo names turns s m a b) → HaveCounted [] b c → LeadsTo names turns s m a c
  sends_on turns s m a b c met counted =
      let same : turns + 0 ≡ turns = omega arith in record {
        after = met.after;
        shown = met.shown;
        leads = subst (λ (n : ℕ). LeadsThrough names n s met.after a c) same
            (leads_on turns 0 s met.after met.after a b c met.leads (sending_leads met.after b c counted));
      }

  -- turns led to a manager, and others lead on from what it shows
  pub goes_on_to : (turns more : ℕ) (s t : DrivenState names) (m : Manager) (a b c : Links) → LeadsThrough names turns s t a b → LeadsTo names more t m b c → LeadsTo names (turns + more) s m a c
  goes_on_to turns more s t m a b c begins then = record {
    after = then.after;
    shown = then.shown;
    leads = leads_on turns more s t then.after a b c begins then.leads;
  }

  -- ---- no request is open

  quiets_none : (stage : Stage (words_of names)) (m : Machine (words_of names)) → open_bus_at (words_of names) stage ≡ None → quiets (words_of names) stage m ≡ None
  quiets_none (Opened heeded task part) m none = cc none
  quiets_none AtStart m none = refl
  quiets_none AtEnd m none = refl
  quiets_none (AtHalt k why) m none = refl
  quiets_none AtUndone m none = refl
  quiets_none (AtRefused k code) m none = refl

  not_called : (s : DrivenState names) → open_at names s ≡ None → called (board_plans names) call.Quiet s ≡ None
  unfolding called
  not_called s none = ap (option_map (goes_on (board_plans names) s)) (quiets_none s.machine.stage s.machine none)

  -- nothing that comes then is a turn, and opens a request
  stays_closed : (came : List Turnout) (s t : DrivenState names) → ReachesBy names came s t → open_at names s ≡ None → open_at names t ≡ None
  stays_closed [] s t same none = ap (open_at names) (sym same) ∙ none
  stays_closed (Answers on answer ∷ later) s t (_, is_open, _, _) none = let both : None ≡ Some on = sym none ∙ is_open in cc both
  stays_closed (FailsToSend on ∷ later) s t (deed, _, is, rest) none =
      let same : deed.manager ≡ s = ap (λ (d : ManagerStepResult (board_plans names)). d.manager) is ∙ ap (λ (d : Option (ManagerStepResult (board_plans names))). (or_rests names d s).manager) (not_called s none) in
      stays_closed later deed.manager t rest (ap (open_at names) same ∙ none)

  -- ---- a drive

  -- no turn was made, and then a manager was driven
  pub driven_from : (turns : ℕ) (s t u : DrivenState names) (a b c : Links) → LeadsThrough names 0 s t a b → DrivenTurns names turns t u b c → DrivenTurns names turns s u a c
  driven_from turns s t u a b c begins driven =
      let same : 0 + driven.made ≡ driven.made = omega arith in record {
        made = driven.made;
        few = driven.few;
        leads = subst (λ (n : ℕ). LeadsThrough names n s u a c) same (leads_on 0 driven.made s t u a b c begins driven.leads);
        ended = driven.ended;
      }

  ends : (turns more made others : ℕ) (t u : DrivenState names) (came : List Turnout) → ReachesBy names came t u
      → (made ≡ turns) ⊎ (open_at names t ≡ None) → (others ≡ more) ⊎ (open_at names u ≡ None) → (made + others ≡ turns + more) ⊎ (open_at names u ≡ None)
  ends turns more made others t u came reaches (inl all) (inl rest) = inl (omega (arith, all, rest))
  ends turns more made others t u came reaches (inl all) (inr none) = inr none
  ends turns more made others t u came reaches (inr none) _ = inr (stays_closed came t u reaches none)

  pub drives_both : (turns more : ℕ) (s t u : DrivenState names) (a b c : Links) → DrivenTurns names turns s t a b → DrivenTurns names more t u b c → DrivenTurns names (turns + more) s u a c
  drives_both turns more s t u a b c begins then = record {
    made = begins.made + then.made;
    few = omega (arith, begins.few, then.few);
    leads = leads_on begins.made then.made s t u a b c begins.leads then.leads;
    ended = ends turns more begins.made then.made t u then.leads.came then.leads.reaches begins.ended then.ended;
  }

  -- no turn was made, and then a manager was driven while it was looked at
  pub drives_from : (turns : ℕ) (s : DrivenState names) (m : Manager) (end : Result Phase KeptBack) (t : DrivenState names) (a b c : Links) → LeadsThrough names 0 s t a b → DrivesTo names turns t m end b c
      → DrivesTo names turns s m end a c
  drives_from turns s m (Ok phase) t a b c begins rest = record {
    after = rest.after;
    shown = rest.shown;
    is_phase = rest.is_phase;
    driven = driven_from turns s t rest.after a b c begins rest.driven;
  }
  drives_from turns s m (Err kept) t a b c begins rest =
      let same : 0 + rest.made ≡ rest.made = omega arith in record {
        made = rest.made;
        few = rest.few;
        leads = subst (λ (n : ℕ). LeadsTo names n s m a c) same (goes_on_to 0 rest.made s t m a b c begins rest.leads);
      }
