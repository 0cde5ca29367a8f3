-- What a run says that is asked to end by what came of the plan, or for the list of the changed records.
use Rattle.std.specs.Prelude.{◌≡◌, ◌⊎◌, ℕ, nat_lt, Bool, true, false, List, [], ◌∷◌, ◌++◌, length, Option, Some, None, Result, Ok, Err}
use Rattle.std.specs.List.{flat_map}
use Rattle.text_lines.specs.Cuts.{ended}
use Rattle.cfg_records.specs.declared.board_file.BoardFile.{BoardFile}
use Rattle.record_base.specs.declared.op.Op.{Op}
use Rattle.text_lines.specs.declared.event.Event.{Event}
use Rattle.model_lab.specs.Played.{Ending}
use Rattle.model_headline.specs.Plays.{told_by}
use Rattle.lab_run.specs.declared.note.Note.{Note}
use Rattle.lab_play.specs.Ends.{PlayResult}
use Rattle.lab_play.specs.Noted.{NotesPlay}
use Rattle.lab_play.specs.Restarting.{NotesTurns, RestartedResult}
use Rattle.lab_play.specs.declared.played.LabFault.{LabFault}
use Rattle.lab_play.specs.declared.played.Played.{Played}
use Rattle.lab_play.specs.declared.run.Stopped.{Stopped}
use Rattle.report_words.specs.Changes.{listed}
use Rattle.app_base.specs.declared.console.Stream.TheVariants.{Output, Error}
use Rattle.app_base.specs.declared.status.Status.{Status}
use Rattle.app_base.specs.declared.status.Status.TheVariants.{RefusedFile, RefusedWords}
use Rattle.app_base.specs.Ending.{Saying}
use Rattle.app_base.specs.Files.{Readings}
use Rattle.app_base.specs.Refusals.{SaysUnless, is_loose}
use Rattle.app_base.specs.Statuses.{end_status}
use Rattle.app_play.specs.declared.account.Account.{Account}
use Rattle.app_play.specs.declared.inputs.InputFault.{InputFault}
use Rattle.app_play.specs.declared.inputs.Inputs.{Inputs}
use Rattle.app_play.specs.declared.run.Shown.{Shown}
use Rattle.app_play.specs.declared.run.Shown.TheVariants as shown
use Rattle.app_play.specs.declared.strict.PlayOptions.{PlayOptions}
use Rattle.app_play.specs.Account.{IsAccountOf, status_of}
use Rattle.app_play.specs.Drawn.{DrawsChart, NotesPlayOf, drawing}
use Rattle.app_play.specs.Files.{PrintsOfFiles}
use Rattle.app_play.specs.Inputs.{InputsAreRead}
use Rattle.app_play.specs.Lines.{ending, premised, shown as shown_frames, start_lines}
use Rattle.app_play.specs.Restarted.{DrawsRestarted, NotesTurnsPlay, PrintsBy, RecountsRestarted, behind_last, place_line, restarted_drawing}
use Rattle.app_play.specs.Run.{RecountsPlay, Telling, is_memory, refusal_line}

-- ---- how a play ends

-- A play of a plan of so many steps that ends strictly, by its account: by the phase and the records, unless an event wasn't taken. A plan that is
-- undone halted where fewer requests undo it than it has steps.
abbrev pub ended_by : (strict : Bool) → (steps : ℕ) → Account → Option Stopped → Status
ended_by true steps account None = end_status account.phase (nat_lt (length account.undo.now.members) steps) account.changed
ended_by strict steps account stopped = status_of stopped

-- so a play ends whose account is that of this ending, and names this event
pub record EndsBy (strict : Bool) (steps : ℕ) (ending : Ending) (stopped : Option Stopped) (status : Status) : Type 0 where
  pub account : Account
  pub is : IsAccountOf account ending
  pub names : account.stopped ≡ stopped
  pub ends : status ≡ ended_by strict steps account stopped

-- ---- the lines

-- the text of an account, with these lines behind that of the records
abbrev pub listed_text : (lines : List (List ℕ)) → (frames premises : Bool) → Account → List ℕ
listed_text lines frames premises told =
    flat_map ended (start_lines told ++ (lines ++ (shown_frames frames told.frames.now ++ (premised premises told.broken told.stopped ++ ending told.stopped))))

-- The text is that of the account of a play of these inputs that ended so, with a line for each record that changed, where they are asked for; and
-- the play ends strictly or not.
pub record TellsBy (options : PlayOptions) (frames premises : Bool) (inputs : Inputs) (ending : Ending) (account : Account) (text : List ℕ) (status : Status) : Type 0 where
  pub said : text ≡ listed_text (listed options.list inputs.file (told_by ending).records) frames premises account
  pub ends : status ≡ ended_by options.strict (length inputs.plan.steps) account account.stopped

-- it is the account that is told without these options
abbrev pub RecountsBy : PlayOptions → (frames premises : Bool) → (places : List ℕ) → Telling
RecountsBy options frames premises [] inputs text status =
    (plain : List ℕ) × (ended : Status) × (told : RecountsPlay frames premises inputs plain ended)
    × TellsBy options frames premises inputs told.ending told.account text status
RecountsBy options frames premises (place ∷ places) inputs text status =
    (plain : List ℕ) × (ended : Status) × (told : RecountsRestarted frames premises (place ∷ places) inputs plain ended)
    × TellsBy options frames premises inputs told.ending told.account text status

-- ---- the chart

-- the chart is the one that is drawn without these options, and the play ends strictly or not
abbrev pub DrawsBy : (strict : Bool) → (places : List ℕ) → Telling
DrawsBy strict [] inputs text status =
    (ended : Status) × (drawn : DrawsChart inputs text ended) × EndsBy strict (length inputs.plan.steps) drawn.play.ending drawn.stopped status
DrawsBy strict (place ∷ places) inputs text status =
    (ended : Status) × (drawn : DrawsRestarted (place ∷ places) inputs text ended) × EndsBy strict (length inputs.plan.steps) drawn.play.ending drawn.stopped status

-- ---- what a run says

-- such a play of these inputs, as it is shown
abbrev pub tells_by : PlayOptions → (places : List ℕ) → Shown → Telling
tells_by options places (shown.Lines frames premises) = RecountsBy options frames premises places
tells_by options places shown.Chart = DrawsBy options.strict places

-- What is said of inputs: on standard output their play, or, where one of the places is behind the last event, on standard error the first that is.
abbrev pub SaysBy : PlayOptions → (places : List ℕ) → Shown → Inputs → Saying
SaysBy options places shown inputs Output text status = (behind_last places inputs.events ≡ None) × tells_by options places shown inputs text status
SaysBy options places shown inputs Error text status = (place : ℕ) × (behind_last places inputs.events ≡ Some place) × (text ≡ place_line place) × (status ≡ RefusedWords)

-- What a run says of three texts: which is the first that is refused, and why; or what it says of what they tell, unless it is strict, and the
-- board has a key that nothing reads, or the plan has one, or no step.
abbrev pub PrintsAsked : PlayOptions → Shown → (places : List ℕ) → (board plan schedule : List ℕ) → Saying
PrintsAsked options shown places board plan schedule stream text status =
    ((inputs : Inputs) × InputsAreRead board plan schedule (Ok inputs)
    × SaysUnless (is_loose options.strict board plan inputs.plan) (SaysBy options places shown inputs) stream text status)
    ⊎ ((why : InputFault) × (is_memory why ≡ false) × InputsAreRead board plan schedule (Err why)
    × (stream ≡ Error) × (text ≡ refusal_line why) × (status ≡ RefusedFile))

-- without these options it is what `bmclab play` says
abbrev pub PrintsStrictly : (strict list : Bool) → Shown → (places : List ℕ) → (board plan schedule : List ℕ) → Saying
PrintsStrictly false false shown places = PrintsBy shown places
PrintsStrictly strict list shown places = PrintsAsked (record { strict = strict; list = list }) shown places

-- so it is of the files that the words name
abbrev pub PrintsAskedOfFiles : Readings → PlayOptions → Shown → (places : List ℕ) → (words : List (List ℕ)) → Saying
PrintsAskedOfFiles gives options shown places words = PrintsOfFiles gives (PrintsStrictly options.strict options.list shown places) words

-- ---- what the calls give

-- a play whose manager is made again behind the events of these places gave this
abbrev pub PlaysBy : BoardFile → List Op → (retries : ℕ) → (places : List ℕ) → List Event → Result Played LabFault → Type 0
PlaysBy file steps retries [] events given = PlayResult file steps retries events given
PlaysBy file steps retries (place ∷ places) events given = RestartedResult file steps retries (place ∷ places) events given

-- and these are its notes
abbrev pub NotesBy : BoardFile → List Op → (retries : ℕ) → (places : List ℕ) → List Event → Result Played LabFault → List Note → Type 0
NotesBy file steps retries [] events given notes = NotesPlay file steps retries events given notes
NotesBy file steps retries (place ∷ places) events given notes = NotesTurns file steps retries (place ∷ places) events given notes

-- the notes of such a play, which ended so, strictly or not
abbrev pub NotesEnd : (strict : Bool) → BoardFile → List Op → (retries : ℕ) → (places : List ℕ) → List Event → Option Stopped → Status → List Note → Type 0
NotesEnd strict file steps retries [] events stopped status notes =
    (play : NotesPlayOf file steps retries events stopped notes) × EndsBy strict (length steps) play.ending stopped status
NotesEnd strict file steps retries (place ∷ places) events stopped status notes =
    (play : NotesTurnsPlay file steps retries (place ∷ places) events stopped notes) × EndsBy strict (length steps) play.ending stopped status

-- the chart with these notes, and the line of the event that wasn't taken
abbrev pub drawing_by : (places : List ℕ) → List Note → Option Stopped → List ℕ
drawing_by [] notes stopped = drawing notes stopped
drawing_by (place ∷ places) notes stopped = restarted_drawing (place ∷ places) notes stopped
