-- A manager is told that no reply came.
use Rattle.std.specs.Prelude.{Result, Ok, Err}
use Rattle.std.proofs.Common.{◌≡◌, Option, Some, None, refl}
use Rattle.undo_plans.specs.declared.names.Names.{Names}
use Rattle.model_undo.specs.declared.call.Call.TheVariants.{Quiet}
use Rattle.model_lab.specs.ManagerSteps.{ManagerStepResult, board_plans, called, rests}
use Rattle.undo_core.specs.declared.manager.Manager.{Manager}
use Rattle.undo_core.specs.declared.sending.Sent.{Sent}
use Rattle.undo_core.specs.declared.phase.WrongPhase.{WrongPhase}
use Rattle.undo_core.specs.Shown.{IsCalled}
use Rattle.undo_core.specs.Course.{Calls, InputResult, or_rests}
use Rattle.bmc_ports.specs.Driving.{DrivenState}

-- what a call gives, and nothing where it's refused
abbrev pub given_by : Result (Option Sent) WrongPhase → Option Sent
given_by (Ok sent) = sent
given_by (Err wrong) = None

module _ (names : Names) (s : DrivenState names) (m : Manager) where
  quiet_by : (result : Result (Option Sent) WrongPhase) (deed : Option (ManagerStepResult (board_plans names))) → deed ≡ called (board_plans names) Quiet s
      → IsCalled names s m result deed → InputResult names (Calls Quiet) s m (given_by result)
  quiet_by (Ok sent) (Some deed) is does = record { deed = deed; is = λ i. or_rests names (is i) s; does = does }
  quiet_by (Err wrong) None is shown = record { deed = rests (board_plans names) s; is = λ i. or_rests names (is i) s; does = (shown, tt) }
  quiet_by (Ok sent) None is does = absurd does
  quiet_by (Err wrong) (Some deed) is does = absurd does

  -- a call of `quiet`, in a phase that is one for it or not
  pub quiet_comes : (result : Result (Option Sent) WrongPhase) → IsCalled names s m result (called (board_plans names) Quiet s) → InputResult names (Calls Quiet) s m (given_by result)
  quiet_comes result is = quiet_by result (called (board_plans names) Quiet s) refl is
