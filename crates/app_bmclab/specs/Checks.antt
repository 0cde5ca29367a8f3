-- What a run says of files that it checks.
use Rattle.std.specs.Prelude.{◌≡◌, ◌⊎◌, ℕ, false, List, Option, Ok, Err}
use Rattle.std.specs.List.{AllZip}
use Rattle.app_base.specs.declared.console.Stream.TheVariants.{Output}
use Rattle.app_base.specs.declared.files.UnreadFile.TheVariants.{NoText}
use Rattle.app_base.specs.declared.status.Status.{Status}
use Rattle.app_base.specs.declared.status.Status.TheVariants.{Success, NotSent, RefusedFile}
use Rattle.app_base.specs.Ending.{Saying}
use Rattle.app_base.specs.Files.{Readings}
use Rattle.text_check.specs.declared.outcome.Outcome.{Outcome}
use Rattle.text_check.specs.declared.text_form.TextForm.{TextForm}
use Rattle.text_check.specs.declared.outcome.Outcome.TheVariants.{Fine, Told, Refused}
use Rattle.text_check.specs.declared.text_form.TextForm.TheVariants as looks
use Rattle.text_check.specs.Looks.{form_or}
use Rattle.text_check.specs.Outcomes.{IsOutcomeBy, OutcomeOf, worst_of}
use Rattle.bmc_ports.specs.declared.timetable.Timed.{Timed}
use Rattle.app_serve.specs.ReadingsText.{IsFirstBad, IsReadingsText}

-- what comes of a text of readings
abbrev pub IsReadingsOutcome : List ℕ → Outcome → Type 0
IsReadingsOutcome text = OutcomeOf ((line : ℕ) × IsFirstBad text line) ((list : List Timed) × IsReadingsText text list) false

-- what comes of a text of this form
abbrev pub IsTextOutcome : TextForm → List ℕ → Outcome → Type 0
IsTextOutcome looks.Readings text = IsReadingsOutcome text
IsTextOutcome form text = IsOutcomeBy form text

-- what comes of a text that is said to be of a form, or else of the form that it looks like
abbrev pub IsOutcome : (said : Option TextForm) → List ℕ → Outcome → Type 0
IsOutcome said text = IsTextOutcome (form_or said text) text

-- what comes of the file that a word names, which is said to be of a form or isn't: what comes of its text; one that gives no text is refused
abbrev pub FileOutcome : Readings → (said : Option TextForm) → (word : List ℕ) → Outcome → Type 0
FileOutcome gives said word Refused = ((text : List ℕ) × gives word (Ok text) × IsOutcome said text Refused) ⊎ gives word (Err NoText)
FileOutcome gives said word outcome = (text : List ℕ) × gives word (Ok text) × IsOutcome said text outcome

-- how a run ends of whose files this came
abbrev pub status_of : Outcome → Status
status_of Refused = RefusedFile
status_of Told = NotSent
status_of Fine = Success

-- What a run says of the files that words name: on standard output what came of each. It ends by the worst of that.
abbrev pub SaysOfChecks : Readings → (said : Option TextForm) → (words : List (List ℕ)) → Saying
SaysOfChecks gives said words stream text status =
    (stream ≡ Output) × ((outcomes : List Outcome) × AllZip (FileOutcome gives said) words outcomes × (status ≡ status_of (worst_of outcomes)))
