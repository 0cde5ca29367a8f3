-- What a run says of three texts, where the manager is made again behind the events of some places.
use Rattle.std.specs.Prelude.{◌≡◌, ◌⊎◌, ℕ, ◌+◌, nat_lt, Bool, true, false, List, [], ◌∷◌, ◌++◌, length, find, Option, Some, None, Ok, codes}
use Rattle.std.specs.List.{flat_map, enumerate_from}
use Rattle.std.specs.Fmt.{decimal}
use Rattle.text_lines.specs.Cuts.{ended}
use Rattle.cfg_records.specs.declared.board_file.BoardFile.{BoardFile}
use Rattle.record_base.specs.declared.op.Op.{Op}
use Rattle.text_lines.specs.declared.event.Event.{Event}
use Rattle.model_undo.specs.declared.phase.Phase.{Phase}
use Rattle.model_undo.specs.PhaseNames.{phase_name}
use Rattle.model_lab.specs.Lab.{opening}
use Rattle.model_lab.specs.Meaning.{lab_names}
use Rattle.model_lab.specs.Played.{plans, Ending}
use Rattle.model_headline.specs.Plays.{taken_by, told_by}
use Rattle.lab_run.specs.declared.note.Note.{Note}
use Rattle.lab_play.specs.declared.run.Stopped.{Stopped}
use Rattle.lab_play.specs.Restarts.{is_among, turns_of, AllKeep, TellsKept, PlaysTurns, ToldStands, remade_phase}
use Rattle.lab_play.specs.Restarting.{AreTurnNotes}
use Rattle.app_base.specs.declared.console.Stream.TheVariants.{Output, Error}
use Rattle.app_base.specs.declared.status.Status.{Status}
use Rattle.app_base.specs.declared.status.Status.TheVariants.{RefusedWords}
use Rattle.app_base.specs.Ending.{Saying}
use Rattle.app_play.specs.declared.account.Account.{Account}
use Rattle.app_play.specs.declared.inputs.Inputs.{Inputs}
use Rattle.app_play.specs.declared.run.Shown.{Shown}
use Rattle.app_play.specs.declared.run.Shown.TheVariants as shown
use Rattle.app_play.specs.Account.{IsAccountOf, status_of}
use Rattle.app_play.specs.Chart.{head_line, event_line}
use Rattle.app_play.specs.Columns.{at_most, in_column}
use Rattle.app_play.specs.Drawn.{EndsAt}
use Rattle.app_play.specs.Inputs.{InputsAreRead}
use Rattle.app_play.specs.Lines.{text_of, ending}
use Rattle.app_play.specs.Run.{begun_with, Telling, tells_of, PrintsPlay}

-- ---- the places

-- the first of the places that is behind the last event
abbrev pub behind_last : (places : List ℕ) → List Event → Option ℕ
behind_last places events = find (λ place. nat_lt (length events) place) places

-- that this one is
abbrev pub place_line : (place : ℕ) → List ℕ
place_line place = codes "restart " ++ (decimal place ++ 10 ∷ [])

-- ---- the account

-- The text is the account of a play of these inputs whose manager is made again behind the events of those places: of the lab's run of the
-- schedule, up to the first event that has a fault. The account tells which event broke the premise on packets first; where none did, what is told stands.
pub record RecountsRestarted (frames premises : Bool) (places : List ℕ) (inputs : Inputs) (text : List ℕ) (status : Status) : Type 0 where
  pub ending : Ending
  pub played : PlaysTurns inputs.file places (begun_with inputs) inputs.events ending
  pub account : Account
  pub is : IsAccountOf account ending
  pub premise : TellsKept inputs.file places (taken_by inputs.events ending) (begun_with inputs) account.broken
  pub stands : account.broken ≡ None → ToldStands inputs.file inputs.plan.steps inputs.plan.retries (turns_of places (taken_by inputs.events ending)) (told_by ending)
  pub said : text ≡ text_of frames premises account
  pub ended : status ≡ status_of account.stopped

-- ---- the chart

-- the line of a restart: the manager dies, and the phase that it has once it is made again
abbrev pub restart_line : Phase → List ℕ
restart_line phase =
    in_column 6 [] ++ (in_column 5 (codes "dies") ++ (codes "|" ++ (in_column 18 [] ++ (in_column 17 [] ++ (codes "|" ++ (in_column 8 [] ++ at_most 24 (phase_name phase)))))))

-- that line, where the manager is made again
abbrev pub restart_lines : Bool → Phase → List (List ℕ)
restart_lines true phase = restart_line phase ∷ []
restart_lines false phase = []

-- the line of the event of this place, counted from 0, and that of the restart behind it, if one is there
abbrev pub turn_lines : (places : List ℕ) → List Note → ℕ → Note → List (List ℕ)
turn_lines places notes place note = event_line notes place note ∷ restart_lines (is_among places (place + 1)) (remade_phase note.phase)

-- the lines of the first events
abbrev pub turn_rows : (places : List ℕ) → List Note → List Note → List (List ℕ)
turn_rows places notes first = flat_map (λ p. turn_lines places notes p.0 p.1) (enumerate_from 0 first)

-- the chart
abbrev pub restarted_chart : (places : List ℕ) → List Note → List ℕ
restarted_chart places notes = flat_map ended (head_line ∷ turn_rows places notes notes)

-- the chart, and the line of the event that wasn't taken
abbrev pub restarted_drawing : (places : List ℕ) → List Note → Option Stopped → List ℕ
restarted_drawing places notes stopped = restarted_chart places notes ++ flat_map ended (ending stopped)

-- These are the notes of such a play: of all its events, or of those before this one, which has a fault. The play's phase is true: it says
-- what the records are.
pub record NotesTurnsPlay (file : BoardFile) (steps : List Op) (retries : ℕ) (places : List ℕ) (events : List Event) (stopped : Option Stopped) (notes : List Note) : Type 0 where
  pub ending : Ending
  pub played : PlaysTurns file places (opening plans file lab_names steps retries) events ending
  pub stands : AllKeep file (turns_of places (taken_by events ending)) (opening plans file lab_names steps retries)
      → ToldStands file steps retries (turns_of places (taken_by events ending)) (told_by ending)
  pub ends : EndsAt events (length notes) stopped ending
  pub are : AreTurnNotes file steps retries places events notes

-- the text is the chart of such a play of these inputs
pub record DrawsRestarted (places : List ℕ) (inputs : Inputs) (text : List ℕ) (status : Status) : Type 0 where
  pub notes : List Note
  pub stopped : Option Stopped
  pub play : NotesTurnsPlay inputs.file inputs.plan.steps inputs.plan.retries places inputs.events stopped notes
  pub said : text ≡ restarted_drawing places notes stopped
  pub ended : status ≡ status_of stopped

-- ---- what a run says

-- such a play of these inputs, as it is shown
abbrev pub tells_restarted : (places : List ℕ) → Shown → Telling
tells_restarted places (shown.Lines frames premises) = RecountsRestarted frames premises places
tells_restarted places shown.Chart = DrawsRestarted places

-- What is said of inputs: on standard output their play, or, where one of the places is behind the last event, on standard error the first that is.
abbrev pub SaysOfPlaces : (places : List ℕ) → Shown → Inputs → Saying
SaysOfPlaces places shown inputs Output text status = (behind_last places inputs.events ≡ None) × tells_restarted places shown inputs text status
SaysOfPlaces places shown inputs Error text status = (place : ℕ) × (behind_last places inputs.events ≡ Some place) × (text ≡ place_line place) × (status ≡ RefusedWords)

-- what a run says of three texts: what it says of what they tell, or on standard error which is the first that is refused, and why
abbrev pub PrintsRestarted : (places : List ℕ) → Shown → (board plan schedule : List ℕ) → Saying
PrintsRestarted places shown board plan schedule stream text status =
    ((inputs : Inputs) × InputsAreRead board plan schedule (Ok inputs) × SaysOfPlaces places shown inputs stream text status)
    ⊎ ((stream ≡ Error) × PrintsPlay (tells_restarted places shown) board plan schedule Error text status)

-- so it is where there are places; without them it is what `bmclab play` says of a play in which the manager isn't made again
abbrev pub PrintsBy : Shown → (places : List ℕ) → (board plan schedule : List ℕ) → Saying
PrintsBy shown [] = PrintsPlay (tells_of shown)
PrintsBy shown (place ∷ places) = PrintsRestarted (place ∷ places) shown
