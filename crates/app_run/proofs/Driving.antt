-- A manager that is called, and then driven.
use Rattle.std.specs.Prelude.{Option, Some, None}
use Rattle.std.proofs.Common.{◌≡◌, refl, ap, Ok, Err}
use Rattle.model_undo.specs.declared.phase.Phase.{Phase}
use Rattle.model_undo.specs.Machine.{phase_of}
use Rattle.model_lab.specs.Meaning.{lab_names}
use Rattle.model_lab.specs.ManagerSteps.{ManagerStepResult, board_plans}
use Rattle.undo_core.specs.declared.manager.Manager.{Manager}
use Rattle.undo_core.specs.declared.phase.WrongPhase.{WrongPhase}
use Rattle.undo_core.specs.declared.sending.Sent.{Sent}
use Rattle.undo_core.specs.Shown.{words_of, Represents, IsCalled}
use Rattle.wire_links.specs.declared.link.Counts.{Counts}
use Rattle.wire_links.specs.Counted.{none_counted}
use Rattle.bmc_ports.specs.Driving.{Links, both}
use Rattle.app_run.specs.Driven.{DriveEnd, DrivenState, RunFrom, fresh_links}

-- the call was taken, and that became of the manager from then on
pub goes_on : (Becomes : DrivenState → Manager → DriveEnd → Links → Links → Type 0) (before : DrivenState) (mid last : Manager) (first : Option Sent) (end : DriveEnd) (counted counts : Links)
    → (called : Option (ManagerStepResult (board_plans lab_names))) → IsCalled lab_names before mid (Ok first) called
    → ((s : DrivenState) → Represents lab_names mid s → Becomes s last end counted counts)
    → RunFrom Becomes called before last end counted counts
goes_on Becomes before mid last first end counted counts (Some deed) is becomes = becomes deed.manager is.0
goes_on Becomes before mid last first end counted counts None is becomes = absurd is

-- the call was refused
pub rests : (Becomes : DrivenState → Manager → DriveEnd → Links → Links → Type 0) (before : DrivenState) (m : Manager) (wrong : WrongPhase) (phase : Phase) (counts : Links)
    → (called : Option (ManagerStepResult (board_plans lab_names))) → IsCalled lab_names before m (Err wrong) called
    → ((s : DrivenState) → Represents lab_names m s → phase ≡ phase_of (words_of lab_names) s.machine)
    → RunFrom Becomes called before m (Ok phase) counts counts
rests Becomes before m wrong phase counts (Some deed) is named = absurd is
rests Becomes before m wrong phase counts None is named = record { shown = is; end_is = ap Ok (named before is); same = refl }

-- links that have counted nothing
pub fresh : (ipmb smbus : Counts) → ipmb ≡ none_counted → smbus ≡ none_counted → both ipmb smbus ≡ fresh_links
fresh ipmb smbus is_ipmb is_smbus = λ i. both (is_ipmb i) (is_smbus i)
