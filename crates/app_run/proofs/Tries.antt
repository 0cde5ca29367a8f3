-- A manager that is driven a turn at a time, and called again.
use Rattle.std.specs.Prelude.{Option, Some, None}
use Rattle.std.proofs.Common.{◌≡◌, ◌≤◌, ◌<◌, ◌+◌, ◌⊎◌, ℕ, suc, inl, inr, refl, sym, ◌∙◌, subst, true, false, Ok, Err, arith}
use Rattle.model_undo.specs.declared.phase.Phase.{Phase}
use Rattle.model_undo.specs.Machine.{phase_of}
use Rattle.model_lab.specs.Meaning.{lab_names}
use Rattle.model_lab.specs.ManagerSteps.{ManagerStepResult, board_plans, called}
use Rattle.model_undo.specs.declared.call.Call.TheVariants.{Again}
use Rattle.undo_core.specs.declared.manager.Manager.{Manager}
use Rattle.undo_core.specs.declared.phase.WrongPhase.{WrongPhase}
use Rattle.undo_core.specs.declared.sending.Sent.{Sent}
use Rattle.undo_core.specs.Shown.{words_of, Represents, IsCalled}
use Rattle.bmc_ports.specs.declared.observer.KeptBack.{KeptBack}
use Rattle.bmc_ports.specs.Driving.{Links, DriveResult, open_at}
use Rattle.bmc_ports.specs.Observing.{DrivesTo}
use Rattle.bmc_ports.proofs.Turns.{drives_both}
use Rattle.app_run.specs.Driven.{DriveEnd, DrivenState, RunFrom, DrivesAgain, RetriesFrom, StaysUndriven, UpToLast, is_unsettled}
use Rattle.app_run.proofs.Driving.{rests}

-- ---- a turn at a time

-- so many turns were made, and none of them left the manager unsettled
pub record Going (made : ℕ) (s : DrivenState) (m : Manager) (had met : Links) : Type 0 where
  pub phase : Phase
  pub drives : DriveResult lab_names made s m phase had met
  pub is_heeded : (made ≡ 0) ⊎ (is_unsettled phase ≡ false)

-- turns, and then others
pub join : (turns more : ℕ) (s : DrivenState) (mid last : Manager) (p q : Phase) (had met has : Links) (first : DriveResult lab_names turns s mid p had met)
    → DriveResult lab_names more first.after last q met has → DriveResult lab_names (turns + more) s last q had has
join turns more s mid last p q had met has first then = record {
  after = then.after;
  shown = then.shown;
  is_phase = then.is_phase;
  driven = drives_both lab_names turns more s first.after then.after had met has first.driven then.driven;
}

-- one turn more, which may have left it unsettled
pub one_more : (fewer turns : ℕ) (s : DrivenState) (mid last : Manager) (end : DriveEnd) (had met has : Links) → suc fewer ≡ turns → (going : Going fewer s mid had met)
    → DrivesTo lab_names 1 going.drives.after last end met has → UpToLast turns s last end had has
one_more fewer turns s mid last end had met has more going then = record {
  fewer = fewer;
  one_more = more;
  mid = mid;
  heeded = going.phase;
  met = met;
  first = going.drives;
  is_heeded = going.is_heeded;
  last = then;
}

-- one turn more, which didn't
pub goes_one_more : (fewer turns : ℕ) (s : DrivenState) (mid last : Manager) (phase : Phase) (had met has : Links) → fewer + 1 ≡ turns → (going : Going fewer s mid had met)
    → DriveResult lab_names 1 going.drives.after last phase met has → is_unsettled phase ≡ false → Going turns s last had has
goes_one_more fewer turns s mid last phase had met has more going then heeded = record {
  phase = phase;
  drives = subst (λ (n : ℕ). DriveResult lab_names n s last phase had has) more (join fewer 1 s mid last going.phase phase had met has going.drives then);
  is_heeded = inr heeded;
}

-- where no request is open, all turns might as well be made
pub closed : (made turns : ℕ) (s : DrivenState) (m : Manager) (phase : Phase) (had has : Links) → made ≤ turns → (drives : DriveResult lab_names made s m phase had has)
    → open_at lab_names drives.after ≡ None → DriveResult lab_names turns s m phase had has
closed made turns s m phase had has few drives none = record {
  after = drives.after;
  shown = drives.shown;
  is_phase = drives.is_phase;
  driven = record { made = drives.driven.made; few = omega (arith, few, drives.driven.few); leads = drives.driven.leads; ended = inr none };
}

-- one turn more, after which no request is open
pub closed_after : (fewer made turns : ℕ) (s : DrivenState) (mid last : Manager) (phase : Phase) (had met has : Links) → fewer + 1 ≡ made → made ≤ turns → (going : Going fewer s mid had met)
    → DriveResult lab_names 1 going.drives.after last phase met has → is_unsettled phase ≡ false → ((t : DrivenState) → Represents lab_names last t → open_at lab_names t ≡ None) → StaysUndriven turns s last (Ok phase) had has
closed_after fewer made turns s mid last phase had met has more few going then heeded none =
    let drives = subst (λ (n : ℕ). DriveResult lab_names n s last phase had has) more (join fewer 1 s mid last going.phase phase had met has going.drives then) in
    inl (closed made turns s last phase had has few drives (none drives.after drives.shown), inl heeded)

-- ---- one drive after another

-- Some turns and calls to try again are over. Whatever becomes of the manager in those that are left became of the first one in all of them.
pub record Continues (agains turns : ℕ) (s : DrivenState) (had : Links) (more left : ℕ) (m : Manager) (met : Links) : Type 0 where
  pub state : DrivenState
  pub shown : Represents lab_names m state
  pub rest : (last : Manager) (end : DriveEnd) (has : Links) → DrivesAgain more left state last end met has → DrivesAgain agains turns s last end had has

-- nothing is over
pub begins : (agains more turns : ℕ) (s : DrivenState) (m : Manager) (had : Links) → more ≡ agains → Represents lab_names m s → Continues agains turns s had more turns m had
begins agains more turns s m had same shown = record {
  state = s;
  shown = shown;
  rest = λ last end has becomes. subst (λ (n : ℕ). DrivesAgain n turns s last end had has) same becomes;
}

-- a call to try again, and what became of it
pub retakes : (Becomes : (left : ℕ) → DrivenState → Manager → DriveEnd → Links → Links → Type 0) (turns left made : ℕ) (s : DrivenState) (mid last : Manager) (stopped : Phase) (end : DriveEnd) (had met has : Links)
    → made + left ≡ turns → 0 < left → (drives : UpToLast made s mid (Ok stopped) had met) → is_unsettled stopped ≡ true
    → RunFrom (Becomes left) (called (board_plans lab_names) Again drives.last.after) drives.last.after last end met has → RetriesFrom Becomes turns s last end had has
retakes Becomes turns left made s mid last stopped end had met has all some drives unsettled again = record {
  made = made;
  left = left;
  all = all;
  some_left = some;
  mid = mid;
  stopped = stopped;
  met = met;
  drives = drives;
  unsettled = unsettled;
  again = again;
}

-- a manager has one phase
one_phase : (turns : ℕ) (s : DrivenState) (m : Manager) (named phase : Phase) (had has : Links) → ((t : DrivenState) → Represents lab_names m t → named ≡ phase_of (words_of lab_names) t.machine)
    → DriveResult lab_names turns s m phase had has → named ≡ phase
one_phase turns s m named phase had has is drives = is drives.after drives.shown ∙ sym drives.is_phase

stays_in : (turns : ℕ) (s : DrivenState) (m : Manager) (named phase : Phase) (had has : Links) → ((t : DrivenState) → Represents lab_names m t → named ≡ phase_of (words_of lab_names) t.machine)
    → StaysUndriven turns s m (Ok phase) had has → named ≡ phase
stays_in turns s m named phase had has is (inl (drives, heeded)) = one_phase turns s m named phase had has is drives
stays_in turns s m named phase had has is (inr up) = one_phase 1 up.first.after m named phase up.met has is up.last

-- a drive that need not be followed by another
pub ends_over : (agains turns : ℕ) (s : DrivenState) (had : Links) (more less left : ℕ) (m last : Manager) (named : Phase) (met has : Links) → more ≡ suc less
    → (on : Continues agains turns s had more left m met) → ((phase : Phase) × StaysUndriven left on.state last (Ok phase) met has)
    → ((t : DrivenState) → Represents lab_names last t → named ≡ phase_of (words_of lab_names) t.machine) → DrivesAgain agains turns s last (Ok named) had has
ends_over agains turns s had more less left m last named met has some on (phase, stays) is =
    let same : phase ≡ named = sym (stays_in left on.state last named phase met has is stays) in
    on.rest last (Ok named) has (subst (λ (n : ℕ). DrivesAgain n left on.state last (Ok named) met has) (sym some) (inl (subst (λ (p : Phase). StaysUndriven left on.state last (Ok p) met has) same stays)))

-- one in which frames were kept back
pub kept_over : (agains turns : ℕ) (s : DrivenState) (had : Links) (more less left : ℕ) (m last : Manager) (kept : KeptBack) (met has : Links) → more ≡ suc less
    → (on : Continues agains turns s had more left m met) → StaysUndriven left on.state last (Err kept) met has → DrivesAgain agains turns s last (Err kept) had has
kept_over agains turns s had more less left m last kept met has some on stays =
    on.rest last (Err kept) has (subst (λ (n : ℕ). DrivesAgain n left on.state last (Err kept) met has) (sym some) (inl stays))

-- a turn left the manager unsettled, and this became of the call to try again
pub record Stopped (left rest : ℕ) (s : DrivenState) (m : Manager) (met has : Links) : Type 0 where
  pub made : ℕ
  pub phase : Phase
  pub all : made + rest ≡ left
  pub some : 0 < rest
  pub drives : UpToLast made s m (Ok phase) met has
  pub unsettled : is_unsettled phase ≡ true

pub stopped : (left rest : ℕ) (s : DrivenState) (m : Manager) (met has : Links)
    → ((made : ℕ) × (phase : Phase) × (made + rest ≡ left) × (0 < rest) × UpToLast made s m (Ok phase) met has × (is_unsettled phase ≡ true)) → Stopped left rest s m met has
stopped left rest s m met has (made, phase, all, some, drives, unsettled) =
    record { made = made; phase = phase; all = all; some = some; drives = drives; unsettled = unsettled }

-- what becomes of it from there on
pub taken_up : (agains turns : ℕ) (s : DrivenState) (had : Links) (more less left rest : ℕ) (m mid last : Manager) (end : DriveEnd) (met then has : Links) → more ≡ suc less
    → (on : Continues agains turns s had more left m met) (at : Stopped left rest on.state mid met then)
    → RunFrom (DrivesAgain less rest) (called (board_plans lab_names) Again at.drives.last.after) at.drives.last.after last end then has → DrivesAgain agains turns s last end had has
taken_up agains turns s had more less left rest m mid last end met then has some on at becomes =
    on.rest last end has (subst (λ (n : ℕ). DrivesAgain n left on.state last end met has) (sym some)
    (inr (retakes (DrivesAgain less) left rest at.made on.state mid last at.phase end met then has at.all at.some at.drives at.unsettled becomes)))

-- the call was taken
pub called_again : (agains turns : ℕ) (s : DrivenState) (had : Links) (more less left rest : ℕ) (m mid next : Manager) (sent : Option Sent) (met then : Links) → more ≡ suc less
    → (on : Continues agains turns s had more left m met) (at : Stopped left rest on.state mid met then)
    → IsCalled lab_names at.drives.last.after next (Ok sent) (called (board_plans lab_names) Again at.drives.last.after) → Continues agains turns s had less rest next then
called_again agains turns s had more less left rest m mid next sent met then some on at is =
    go (called (board_plans lab_names) Again at.drives.last.after) refl is
  where
    go : (deed : Option (ManagerStepResult (board_plans lab_names))) → deed ≡ called (board_plans lab_names) Again at.drives.last.after
        → IsCalled lab_names at.drives.last.after next (Ok sent) deed → Continues agains turns s had less rest next then
    go (Some deed) same does = record {
      state = deed.manager;
      shown = does.0;
      rest = λ last end has becomes.
          taken_up agains turns s had more less left rest m mid last end met then has some on at
          (subst (λ (d : Option (ManagerStepResult (board_plans lab_names))). RunFrom (DrivesAgain less rest) d at.drives.last.after last end then has) same becomes);
    }
    go None same does = absurd does

-- the call was refused
pub not_again : (agains turns : ℕ) (s : DrivenState) (had : Links) (more less left rest : ℕ) (m mid next : Manager) (wrong : WrongPhase) (phase : Phase) (met then : Links) → more ≡ suc less
    → (on : Continues agains turns s had more left m met) (at : Stopped left rest on.state mid met then)
    → IsCalled lab_names at.drives.last.after next (Err wrong) (called (board_plans lab_names) Again at.drives.last.after)
    → ((t : DrivenState) → Represents lab_names next t → phase ≡ phase_of (words_of lab_names) t.machine) → DrivesAgain agains turns s next (Ok phase) had then
not_again agains turns s had more less left rest m mid next wrong phase met then some on at is named =
    taken_up agains turns s had more less left rest m mid next (Ok phase) met then then some on at
    (rests (DrivesAgain less rest) at.drives.last.after next wrong phase then (called (board_plans lab_names) Again at.drives.last.after) is named)
