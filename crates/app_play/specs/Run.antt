-- What a run says of three texts.
use Rattle.std.specs.Prelude.{◌≡◌, ℕ, Bool, true, false, List, [], ◌∷◌, ◌++◌, None, Ok, Err}
use Rattle.text_board.specs.declared.fault.FileFault.TheVariants as of_file
use Rattle.plan_file.specs.declared.plan_fault.PlanFault.TheVariants as of_plan
use Rattle.text_lines.specs.declared.schedule.ScheduleFault.TheVariants as of_schedule
use Rattle.app_play.specs.declared.inputs.Inputs.{Inputs}
use Rattle.app_play.specs.declared.inputs.InputFault.{InputFault}
use Rattle.app_play.specs.declared.inputs.InputFault.TheVariants as fault
use Rattle.app_play.specs.declared.account.Account.{Account}
use Rattle.app_play.specs.Inputs.{InputsAreRead, input_fault_name}
use Rattle.app_play.specs.Lines.{text_of}
use Rattle.model_lab.specs.Lab.{Lab, opening}
use Rattle.model_lab.specs.Meaning.{lab_names}
use Rattle.model_lab.specs.Played.{plans, Ending, IsPlayed}
use Rattle.model_headline.specs.Plays.{taken_by, told_by, TellsPremise, ToldStands}
use Rattle.app_base.specs.declared.console.Stream.TheVariants.{Output, Error}
use Rattle.app_base.specs.declared.status.Status.{Status}
use Rattle.app_base.specs.declared.status.Status.TheVariants.{RefusedFile}
use Rattle.app_base.specs.Ending.{Saying}
use Rattle.app_play.specs.declared.run.Shown.{Shown}
use Rattle.app_play.specs.declared.run.Shown.TheVariants as shown
use Rattle.app_play.specs.Account.{IsAccountOf, status_of}
use Rattle.app_play.specs.Drawn.{DrawsChart}

-- a text wasn't read for want of memory
abbrev pub is_memory : InputFault → Bool
is_memory (fault.Board of_file.Memory) = true
is_memory (fault.Plan of_plan.Memory) = true
is_memory (fault.Schedule of_schedule.Memory) = true
is_memory _ = false

-- what is said of a text that is refused: which of the three it is, and why
abbrev pub refusal_line : InputFault → List ℕ
refusal_line why = input_fault_name why ++ 10 ∷ []

-- the lab with which a play of these inputs begins
abbrev pub begun_with : Inputs → Lab plans
begun_with inputs = opening plans inputs.file lab_names inputs.plan.steps inputs.plan.retries

-- The text is the account of a play of these inputs: of the lab's run of the schedule, up to the first event that has a fault. The
-- account tells which event broke the premise on packets first; where none did, what is told stands.
pub record RecountsPlay (frames premises : Bool) (inputs : Inputs) (text : List ℕ) (status : Status) : Type 0 where
  pub ending : Ending
  pub played : IsPlayed inputs.file inputs.plan.steps inputs.plan.retries inputs.events ending
  pub account : Account
  pub is : IsAccountOf account ending
  pub premise : TellsPremise inputs.file (taken_by inputs.events ending) (begun_with inputs) account.broken
  pub stands : account.broken ≡ None → ToldStands inputs.file inputs.plan.steps inputs.plan.retries (taken_by inputs.events ending) (told_by ending)
  pub said : text ≡ text_of frames premises account
  pub ended : status ≡ status_of account.stopped

-- what a text and a status say of inputs
abbrev pub Telling : Type 1
Telling = Inputs → List ℕ → Status → Type 0

-- the play of these inputs, as it is shown
abbrev pub tells_of : Shown → Telling
tells_of (shown.Lines frames premises) = RecountsPlay frames premises
tells_of shown.Chart = DrawsChart

-- what a run says, and where: on standard output the play that the texts tell, or on standard error which text is the first that is
-- refused, and why
abbrev pub PrintsPlay : Telling → (board plan schedule : List ℕ) → Saying
PrintsPlay tells board plan schedule Output text status = (inputs : Inputs) × InputsAreRead board plan schedule (Ok inputs) × tells inputs text status
PrintsPlay tells board plan schedule Error text status =
    (why : InputFault) × (is_memory why ≡ false) × InputsAreRead board plan schedule (Err why) × (text ≡ refusal_line why) × (status ≡ RefusedFile)
