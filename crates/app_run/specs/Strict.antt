-- How a run and an undo end strictly, and which plans a strict run refuses.
use Rattle.std.specs.Prelude.{◌≡◌, ◌&&◌, ℕ, Bool, true, false, List}
use Rattle.undo_plans.specs.declared.plan.Plan.{Plan}
use Rattle.model_undo.specs.declared.phase.Phase.{Phase}
use Rattle.model_undo.specs.declared.phase.Phase.TheVariants.{Fresh}
use Rattle.app_base.specs.declared.console.Stream.TheVariants.{Error}
use Rattle.app_base.specs.declared.status.Status.{Status}
use Rattle.app_base.specs.declared.status.Status.TheVariants.{RefusedFile, Success, Unsettled}
use Rattle.app_base.specs.Ending.{Saying}
use Rattle.app_base.specs.Refusals.{is_loose_plan}
use Rattle.app_base.specs.Statuses.{strict_status}

-- how a run ends that left its manager in this phase
abbrev pub ran_status : (strict : Bool) → Phase → Status
ran_status true phase = strict_status phase
ran_status false phase = Success

-- How an undo ends whose manager came to this phase. Where nothing was begun there is nothing to take back, and that is well.
abbrev pub undone_status : (strict : Bool) → Phase → Status
undone_status strict Fresh = Success
undone_status strict phase = ran_status strict phase

-- how a run or an undo ends of which a greeting wasn't answered
abbrev pub ungreeted_status : (strict : Bool) → Status
ungreeted_status true = Unsettled
ungreeted_status false = Success

-- a run is strict, and the text of its plan has a key that nothing reads, or the plan no step
abbrev pub is_refused : (strict : Bool) → (text : List ℕ) → Plan → Bool
is_refused strict text plan = strict && is_loose_plan text plan

-- standard error says that of such a plan
abbrev pub SaysRefused : (refused : Bool) → Saying
SaysRefused refused stream text status = (refused ≡ true) × (stream ≡ Error) × (status ≡ RefusedFile)
