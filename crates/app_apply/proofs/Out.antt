-- A manager that is driven until a turn leaves it unsettled, and called again.
use Rattle.std.specs.Prelude.{Option, Some, None}
use Rattle.std.proofs.Common.{◌≡◌, ℕ, suc, inl, inr, refl, sym, ◌∙◌, subst, ap, Ok, Err}
use Rattle.model_undo.specs.declared.phase.Phase.{Phase}
use Rattle.model_undo.specs.Machine.{phase_of}
use Rattle.model_lab.specs.Meaning.{lab_names}
use Rattle.model_lab.specs.ManagerSteps.{ManagerStepResult, board_plans, called}
use Rattle.model_undo.specs.declared.call.Call.TheVariants.{Again}
use Rattle.undo_core.specs.declared.manager.Manager.{Manager}
use Rattle.undo_core.specs.declared.phase.WrongPhase.{WrongPhase}
use Rattle.undo_core.specs.declared.sending.Sent.{Sent}
use Rattle.undo_core.specs.Shown.{words_of, Represents, IsCalled}
use Rattle.bmc_ports.specs.declared.observer.KeptBack.{KeptBack}
use Rattle.bmc_ports.specs.Driving.{Links, DriveResult}
use Rattle.app_run.specs.Driven.{DriveEnd, DrivenState, RunFrom, StaysUndriven, UpToLast}
use Rattle.app_run.specs.Stops.{StopsAfter}
use Rattle.app_run.proofs.Driving.{rests}
use Rattle.app_run.proofs.Tries.{Stopped, stopped}
use Rattle.app_apply.specs.Driven.{DrivesOut, EndsDrive}

-- this is the phase of the manager, whatever machine it shows
abbrev pub Named : Manager → Phase → Type 0
Named m named = (t : DrivenState) → Represents lab_names m t → named ≡ phase_of (words_of lab_names) t.machine

one_phase : (turns : ℕ) (s : DrivenState) (m : Manager) (named phase : Phase) (had has : Links) → Named m named → DriveResult lab_names turns s m phase had has → named ≡ phase
one_phase turns s m named phase had has is drives = is drives.after drives.shown ∙ sym drives.is_phase

last_phase : (made : ℕ) (s : DrivenState) (m : Manager) (named phase : Phase) (had has : Links) → Named m named → UpToLast made s m (Ok phase) had has → named ≡ phase
last_phase made s m named phase had has is up = one_phase 1 up.first.after m named phase up.met has is up.last

stays_in : (turns : ℕ) (s : DrivenState) (m : Manager) (named phase : Phase) (had has : Links) → Named m named → StaysUndriven turns s m (Ok phase) had has → named ≡ phase
stays_in turns s m named phase had has is (inl (drives, heeded)) = one_phase turns s m named phase had has is drives
stays_in turns s m named phase had has is (inr up) = last_phase turns s m named phase had has is up

stays_named : (turns : ℕ) (s : DrivenState) (m : Manager) (named : Phase) (had has : Links) → Named m named → ((phase : Phase) × StaysUndriven turns s m (Ok phase) had has)
    → StaysUndriven turns s m (Ok named) had has
stays_named turns s m named had has is (phase, stays) =
    subst (λ (p : Phase). StaysUndriven turns s m (Ok p) had has) (sym (stays_in turns s m named phase had has is stays)) stays

-- ---- one drive after another

-- Some calls to try again are over. Whatever becomes of the manager in those that are left became of the first one in all of them.
pub record Continues (agains turns : ℕ) (s : DrivenState) (had : Links) (more : ℕ) (m : Manager) (met : Links) : Type 0 where
  pub state : DrivenState
  pub shown : Represents lab_names m state
  pub rest : (last : Manager) (end : DriveEnd) (has : Links) → DrivesOut more turns state last end met has → DrivesOut agains turns s last end had has

-- none is over
pub begins : (agains more turns : ℕ) (s : DrivenState) (m : Manager) (had : Links) → more ≡ agains → Represents lab_names m s → Continues agains turns s had more m had
begins agains more turns s m had same shown = record {
  state = s;
  shown = shown;
  rest = λ last end has becomes. subst (λ (n : ℕ). DrivesOut n turns s last end had has) same becomes;
}

-- it need not be called again
pub ends_over : (agains turns : ℕ) (s : DrivenState) (had : Links) (more less : ℕ) (m last : Manager) (named : Phase) (met has : Links) → more ≡ suc less
    → (on : Continues agains turns s had more m met) → ((phase : Phase) × StaysUndriven turns on.state last (Ok phase) met has) → Named last named
    → DrivesOut agains turns s last (Ok named) had has
ends_over agains turns s had more less m last named met has some on stays is =
    on.rest last (Ok named) has
    (subst (λ (n : ℕ). DrivesOut n turns on.state last (Ok named) met has) (sym some) (inl (stays_named turns on.state last named met has is stays)))

-- frames were kept back
pub kept_over : (agains turns : ℕ) (s : DrivenState) (had : Links) (more less : ℕ) (m last : Manager) (kept : KeptBack) (met has : Links) → more ≡ suc less
    → (on : Continues agains turns s had more m met) → StaysUndriven turns on.state last (Err kept) met has → DrivesOut agains turns s last (Err kept) had has
kept_over agains turns s had more less m last kept met has some on stays =
    on.rest last (Err kept) has (subst (λ (n : ℕ). DrivesOut n turns on.state last (Err kept) met has) (sym some) (inl stays))

-- a turn left it unsettled, and this became of the call to try again
taken_up : (agains turns : ℕ) (s : DrivenState) (had : Links) (more less rest : ℕ) (m mid last : Manager) (end : DriveEnd) (met then has : Links) → more ≡ suc less
    → (on : Continues agains turns s had more m met) (at : Stopped turns rest on.state mid met then)
    → RunFrom (DrivesOut less turns) (called (board_plans lab_names) Again at.drives.last.after) at.drives.last.after last end then has → DrivesOut agains turns s last end had has
taken_up agains turns s had more less rest m mid last end met then has some on at becomes =
    on.rest last end has (subst (λ (n : ℕ). DrivesOut n turns on.state last end met has) (sym some)
    (inr (record {
      made = at.made;
      mid = mid;
      stopped = at.phase;
      met = then;
      drives = at.drives;
      unsettled = at.unsettled;
      again = becomes;
    })))

-- the call was taken
pub called_again : (agains turns : ℕ) (s : DrivenState) (had : Links) (more less rest : ℕ) (m mid next : Manager) (sent : Option Sent) (met then : Links) → more ≡ suc less
    → (on : Continues agains turns s had more m met) (at : Stopped turns rest on.state mid met then)
    → IsCalled lab_names at.drives.last.after next (Ok sent) (called (board_plans lab_names) Again at.drives.last.after) → Continues agains turns s had less next then
called_again agains turns s had more less rest m mid next sent met then some on at is =
    go (called (board_plans lab_names) Again at.drives.last.after) refl is
  where
    go : (deed : Option (ManagerStepResult (board_plans lab_names))) → deed ≡ called (board_plans lab_names) Again at.drives.last.after
        → IsCalled lab_names at.drives.last.after next (Ok sent) deed → Continues agains turns s had less next then
    go (Some deed) same does = record {
      state = deed.manager;
      shown = does.0;
      rest = λ last end has becomes.
          taken_up agains turns s had more less rest m mid last end met then has some on at
          (subst (λ (d : Option (ManagerStepResult (board_plans lab_names))). RunFrom (DrivesOut less turns) d at.drives.last.after last end then has) same becomes);
    }
    go None same does = absurd does

-- the call was refused
pub not_again : (agains turns : ℕ) (s : DrivenState) (had : Links) (more less rest : ℕ) (m mid next : Manager) (wrong : WrongPhase) (phase : Phase) (met then : Links) → more ≡ suc less
    → (on : Continues agains turns s had more m met) (at : Stopped turns rest on.state mid met then)
    → IsCalled lab_names at.drives.last.after next (Err wrong) (called (board_plans lab_names) Again at.drives.last.after) → Named next phase
    → DrivesOut agains turns s next (Ok phase) had then
not_again agains turns s had more less rest m mid next wrong phase met then some on at is named =
    taken_up agains turns s had more less rest m mid next (Ok phase) met then then some on at
    (rests (DrivesOut less turns) at.drives.last.after next wrong phase then (called (board_plans lab_names) Again at.drives.last.after) is named)

-- ---- the last drive

pub ends_last : (turns : ℕ) (s : DrivenState) (last : Manager) (left : Option ℕ) (named : Phase) (had has : Links) → StopsAfter turns s last (Ok left) had has → Named last named
    → EndsDrive turns s last (Ok named) had has
ends_last turns s last None named had has stays is = inl (stays_named turns s last named had has is stays)
ends_last turns s last (Some rest) named had has (made, phase, all, some, drives, unsettled) is =
    let same : named ≡ phase = last_phase made s last named phase had has is drives in
    inr (record { made = made; stopped = phase; end_is = ap Ok same; drives = drives; unsettled = unsettled })
