-- How the records of a plan's steps are looked at, which of the steps are kept, and how a call ends whose look failed.
use Rattle.std.specs.Prelude.{◌≡◌, ℕ, List, Option, Some, None}
use Rattle.std.specs.Option.{unwrap_or}
use Rattle.record_base.specs.declared.key.Key.{Key}
use Rattle.record_base.specs.declared.live.Live.{Live}
use Rattle.record_base.specs.declared.op.Op.{Op}
use Rattle.record_kinds.specs.declared.limits.Limits.{Limits}
use Rattle.record_kinds.specs.Limits.{valid}
use Rattle.undo_plans.specs.declared.plan.Plan.{Plan}
use Rattle.app_base.specs.declared.status.Status.{Status}
use Rattle.app_base.specs.declared.status.Status.TheVariants.{Stopped, Unsettled}
use Rattle.app_look.specs.declared.records.Found.{Found}
use Rattle.app_look.specs.declared.records.LookFault.{LookFault}
use Rattle.app_look.specs.declared.records.LookFault.TheVariants as look
use Rattle.app_look.specs.declared.records.StopFault.TheVariants as stop
use Rattle.app_look.specs.declared.session.OpenFault.TheVariants as open_fault
use Rattle.app_look.specs.declared.session.Way.{Way}
use Rattle.app_look.specs.Reading.{FindsAndNames}
use Rattle.app_apply.specs.declared.kept_calls.Reach.{Reach}
use Rattle.app_change.specs.PreviewRuns.{Carries}
use Rattle.app_change.specs.Kept.{kept_of}
use Rattle.app_change.specs.KeepLook.{records_of}
use Rattle.app_change.specs.Runs.{AreFoundAt}

-- they are looked at as the plan is carried out: on these ports, and as patiently
abbrev pub way_of : Plan → Reach → Way
way_of plan reach =
    record { ipmb_port = reach.ipmb_port; smbus_port = unwrap_or reach.smbus_port 0; wait_ms = reach.wait_ms; retries = plan.retries; again = reach.again }

-- Where a record of any board accepts the steps that are on it from the value that was found, it accepts the kept ones from that value, too, and they
-- lead it to the same.
abbrev pub LeadAlike : (steps kept : List Op) → List Found → Type 0
LeadAlike steps kept found = (limits : Limits) (key : Key) (old new : List ℕ) (live : Live) → valid limits old → AreFoundAt limits key old steps found
    → Carries limits key live steps old new → Carries limits key live kept old new

-- The record of each step of a plan was looked at, and those steps are kept that change what was found. They lead each record to where the plan leads
-- it, and are tried as often.
pub record KeepsChanges (way : Way) (plan kept : Plan) : Type 0 where
  pub found : List Found
  pub finds : FindsAndNames way (records_of plan.steps) found
  pub steps : kept.steps ≡ kept_of plan.steps found
  pub alike : LeadAlike plan.steps kept.steps found
  pub retries : kept.retries ≡ plan.retries

-- how a call ends whose look failed; where memory was refused, nothing is said but that
abbrev pub status_unlooked : LookFault → Option Status
status_unlooked (look.Unopened open_fault.Memory) = None
status_unlooked (look.Unopened open_fault.NoLink) = Some Stopped
status_unlooked (look.Unopened (open_fault.Ungreeted why)) = Some Unsettled
status_unlooked (look.Stopped stop.Memory) = None
status_unlooked (look.Stopped (stop.Silent place)) = Some Unsettled
