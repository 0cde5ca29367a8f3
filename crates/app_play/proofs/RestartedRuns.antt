-- What is said of a play in which the manager is made again, once it is known how it ended.
use Rattle.std.proofs.Common.{◌≡◌, ℕ, Bool, true, false, List, [], ◌∷◌, length, Option, Result, Ok, Err, Some, None, IfOk, string_bytes, ◌==◌, arith, sym, ◌∙◌, subst, inl}
use Rattle.std.proofs.lemmas.Bool.{true≢false, eqb-true}
use Rattle.cfg_records.specs.declared.board_file.BoardFile.{BoardFile}
use Rattle.record_base.specs.declared.op.Op.{Op}
use Rattle.text_lines.specs.declared.event.Event.{Event}
use Rattle.model_lab.specs.declared.fault.Fault.{Fault}
use Rattle.model_headline.specs.Plays.{taken_by}
use Rattle.lab_run.specs.declared.note.Note.{Note}
use Rattle.lab_play.specs.declared.played.Played.{Played}
use Rattle.lab_play.specs.declared.played.LabFault.{LabFault}
use Rattle.lab_play.specs.declared.played.LabFault.TheVariants as fault
use Rattle.lab_play.specs.declared.run.Stopped.{Stopped}
use Rattle.lab_play.specs.Restarts.{TellsKept}
use Rattle.lab_play.specs.Restarting.{RestartedResult, NotesTurns}
use Rattle.app_base.specs.declared.console.Stream.{Stream}
use Rattle.app_base.specs.declared.console.Stream.TheVariants.{Output, Error}
use Rattle.app_base.specs.declared.report.Report.{Report}
use Rattle.app_base.specs.declared.status.Status.TheVariants.{RefusedWords}
use Rattle.app_play.specs.declared.account.Account.{Account}
use Rattle.app_play.specs.declared.inputs.Inputs.{Inputs}
use Rattle.app_play.specs.declared.run.Shown.{Shown}
use Rattle.app_play.specs.Account.{status_of}
use Rattle.app_play.specs.Ended.{given_of}
use Rattle.app_play.specs.Inputs.{InputsAreRead}
use Rattle.app_play.specs.Lines.{text_of}
use Rattle.app_play.specs.Run.{begun_with, tells_of, PrintsPlay}
use Rattle.app_play.specs.Restarted.{behind_last, place_line, RecountsRestarted, NotesTurnsPlay, DrawsRestarted, restarted_drawing, tells_restarted, SaysOfPlaces, PrintsBy}
use Rattle.app_play.proofs.Plays.{SaysOf, whole_account, stopped_account}
use Rattle.app_play.proofs.Noted.{ends_whole, ends_stopped}

-- ---- the account

module _ (places : List ℕ) where
  -- a play of these inputs gave this
  abbrev pub RestartedOf : Inputs → Result Played LabFault → Type 0
  RestartedOf inputs given = RestartedResult inputs.file inputs.plan.steps inputs.plan.retries places inputs.events given

  recounts_whole : {E : Type 0} (frames premises : Bool) (inputs : Inputs) (r : Result Report E) (played : Played) (account : Account) → RestartedOf inputs (Ok played) → SaysOf account played
      → account.broken ≡ played.watch.broken → account.stopped ≡ None → IfOk r (λ report. string_bytes report.text ≡ text_of frames premises account) → IfOk r (λ report. report.status ≡ status_of account.stopped)
      → IfOk r (λ report. RecountsRestarted frames premises places inputs (string_bytes report.text) report.status)
  recounts_whole frames premises inputs (Ok report) played account plays says broken none said ended = record {
    ending = plays.ending;
    played = plays.played;
    premise = subst (TellsKept inputs.file places (taken_by inputs.events plays.ending) (begun_with inputs)) (sym broken) plays.premise;
    stands = λ none_broke. plays.unbroken (sym broken ∙ none_broke);
    account = account;
    is = whole_account played plays.ending account plays.is says none;
    said = said;
    ended = ended;
  }
  recounts_whole frames premises inputs (Err e) played account plays says broken none said ended = tt

  recounts_stopped : {E : Type 0} (frames premises : Bool) (inputs : Inputs) (r : Result Report E) (why : Fault) (place : ℕ) (played : Played) (account : Account)
      → RestartedOf inputs (Err (fault.Event why place played)) → SaysOf account played → account.broken ≡ played.watch.broken → account.stopped ≡ Some (record { place = place; fault = why })
      → IfOk r (λ report. string_bytes report.text ≡ text_of frames premises account) → IfOk r (λ report. report.status ≡ status_of account.stopped)
      → IfOk r (λ report. RecountsRestarted frames premises places inputs (string_bytes report.text) report.status)
  recounts_stopped frames premises inputs (Ok report) why place played account plays says broken named said ended = record {
    ending = plays.ending;
    played = plays.played;
    premise = subst (TellsKept inputs.file places (taken_by inputs.events plays.ending) (begun_with inputs)) (sym broken) plays.premise;
    stands = λ none_broke. plays.unbroken (sym broken ∙ none_broke);
    account = account;
    is = stopped_account why place played plays.ending account plays.is says named;
    said = said;
    ended = ended;
  }
  recounts_stopped frames premises inputs (Err e) why place played account plays says broken named said ended = tt

  -- the account's text recounts a play with these parts
  pub recounts : {E : Type 0} (frames premises : Bool) (inputs : Inputs) (r : Result Report E) (given : Result Played LabFault) (played : Played) (stopped : Option Stopped) (account : Account)
      → given ≡ given_of played stopped → RestartedOf inputs given → SaysOf account played → account.broken ≡ played.watch.broken → account.stopped ≡ stopped
      → IfOk r (λ report. string_bytes report.text ≡ text_of frames premises account) → IfOk r (λ report. report.status ≡ status_of account.stopped)
      → IfOk r (λ report. RecountsRestarted frames premises places inputs (string_bytes report.text) report.status)
  recounts frames premises inputs r given played None account same plays says broken named said ended =
      recounts_whole frames premises inputs r played account (subst (RestartedOf inputs) same plays) says broken named said ended
  recounts frames premises inputs r given played (Some stopped) account same plays says broken named said ended =
      recounts_stopped frames premises inputs r stopped.fault stopped.place played account (subst (RestartedOf inputs) same plays) says broken named said ended

  -- ---- the notes

  notes_whole : (file : BoardFile) (steps : List Op) (retries : ℕ) (events : List Event) (notes : List Note) (played : Played)
      → RestartedResult file steps retries places events (Ok played) → NotesTurns file steps retries places events (Ok played) notes → NotesTurnsPlay file steps retries places events None notes
  notes_whole file steps retries events notes played plays noted = record {
    ending = plays.ending;
    played = plays.played;
    stands = plays.stands;
    ends = ends_whole events (length notes) played plays.ending plays.is noted.1;
    are = noted.0;
  }

  notes_stopped : (file : BoardFile) (steps : List Op) (retries : ℕ) (events : List Event) (notes : List Note) (why : Fault) (place : ℕ) (played : Played)
      → RestartedResult file steps retries places events (Err (fault.Event why place played)) → NotesTurns file steps retries places events (Err (fault.Event why place played)) notes
      → NotesTurnsPlay file steps retries places events (Some (record { place = place; fault = why })) notes
  notes_stopped file steps retries events notes why place played plays noted = record {
    ending = plays.ending;
    played = plays.played;
    stands = plays.stands;
    ends = ends_stopped events (length notes) why place played plays.ending plays.is noted.1;
    are = noted.0;
  }

  -- what was noted of a play with these parts
  pub notes_of : (file : BoardFile) (steps : List Op) (retries : ℕ) (events : List Event) (notes : List Note) (given : Result Played LabFault) (played : Played) (stopped : Option Stopped)
      → given ≡ given_of played stopped → RestartedResult file steps retries places events given → NotesTurns file steps retries places events given notes
      → NotesTurnsPlay file steps retries places events stopped notes
  notes_of file steps retries events notes given played None same plays noted =
      notes_whole file steps retries events notes played (subst (λ (g : Result Played LabFault). RestartedResult file steps retries places events g) same plays)
      (subst (λ (g : Result Played LabFault). NotesTurns file steps retries places events g notes) same noted)
  notes_of file steps retries events notes given played (Some stopped) same plays noted =
      notes_stopped file steps retries events notes stopped.fault stopped.place played (subst (λ (g : Result Played LabFault). RestartedResult file steps retries places events g) same plays)
      (subst (λ (g : Result Played LabFault). NotesTurns file steps retries places events g notes) same noted)

  -- a report of the drawing draws the play
  pub draws : {E : Type 0} (inputs : Inputs) (r : Result Report E) (notes : List Note) (stopped : Option Stopped)
      → NotesTurnsPlay inputs.file inputs.plan.steps inputs.plan.retries places inputs.events stopped notes
      → IfOk r (λ report. string_bytes report.text ≡ restarted_drawing places notes stopped) → IfOk r (λ report. report.status ≡ status_of stopped)
      → IfOk r (λ report. DrawsRestarted places inputs (string_bytes report.text) report.status)
  draws inputs (Ok report) notes stopped play said ended = record { notes = notes; stopped = stopped; play = play; said = said; ended = ended }
  draws inputs (Err e) notes stopped play said ended = tt

  -- ---- what is said of inputs

  module _ {E : Type 0} (shown : Shown) (inputs : Inputs) where
    -- a report of the play says so
    pub says_played : (r : Result Report E) → behind_last places inputs.events ≡ None → IfOk r (λ report. report.stream ≡ Output)
        → IfOk r (λ report. tells_restarted places shown inputs (string_bytes report.text) report.status)
        → IfOk r (λ report. SaysOfPlaces places shown inputs report.stream (string_bytes report.text) report.status)
    says_played (Ok report) none written told =
        subst (λ (stream : Stream). SaysOfPlaces places shown inputs stream (string_bytes report.text) report.status) (sym written) (none, told)
    says_played (Err e) none written told = tt

    -- and so does one of a place that is behind the last event
    pub says_behind : (r : Result Report E) (place : ℕ) → behind_last places inputs.events ≡ Some place → IfOk r (λ report. report.stream ≡ Error)
        → IfOk r (λ report. string_bytes report.text ≡ place_line place) → IfOk r (λ report. report.status ≡ RefusedWords)
        → IfOk r (λ report. SaysOfPlaces places shown inputs report.stream (string_bytes report.text) report.status)
    says_behind (Ok report) place behind written said ended =
        subst (λ (stream : Stream). SaysOfPlaces places shown inputs stream (string_bytes report.text) report.status) (sym written) (place, behind, said, ended)
    says_behind (Err e) place behind written said ended = tt

-- ---- what is said of texts

-- a run says this of three texts
abbrev Says : Shown → (places : List ℕ) → (board plan schedule : List ℕ) → Report → Type 0
Says shown places board plan schedule report = PrintsBy shown places board plan schedule report.stream (string_bytes report.text) report.status

-- where there are no places
pub says_plain : {E : Type 0} (shown : Shown) (places : List ℕ) (board plan schedule : List ℕ) (r : Result Report E) → (length places == 0) ≡ true
    → IfOk r (λ report. PrintsPlay (tells_of shown) board plan schedule report.stream (string_bytes report.text) report.status) → IfOk r (Says shown places board plan schedule)
says_plain shown [] board plan schedule r none said = said
says_plain shown (place ∷ places) board plan schedule r none said = absurd (let no : length (place ∷ places) ≡ 0 = eqb-true _ _ none in omega (arith, no))

restarted_by : (shown : Shown) (places : List ℕ) (board plan schedule : List ℕ) (inputs : Inputs) (report : Report) → (length places == 0) ≡ false
    → InputsAreRead board plan schedule (Ok inputs) → SaysOfPlaces places shown inputs report.stream (string_bytes report.text) report.status → Says shown places board plan schedule report
restarted_by shown [] board plan schedule inputs report some read said = absurd (true≢false some)
restarted_by shown (place ∷ places) board plan schedule inputs report some read said = inl (inputs, read, said)

-- where there are some
pub says_restarted : {E : Type 0} (shown : Shown) (places : List ℕ) (board plan schedule : List ℕ) (r : Result Report E) (inputs : Inputs) → (length places == 0) ≡ false
    → InputsAreRead board plan schedule (Ok inputs) → IfOk r (λ report. SaysOfPlaces places shown inputs report.stream (string_bytes report.text) report.status)
    → IfOk r (Says shown places board plan schedule)
says_restarted shown places board plan schedule (Ok report) inputs some read said = restarted_by shown places board plan schedule inputs report some read said
says_restarted shown places board plan schedule (Err e) inputs some read said = tt
