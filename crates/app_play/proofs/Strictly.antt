-- What is said of a play that is asked to be strict, or for the list of changed records, once it is known how it ended.
use Rattle.std.proofs.Common.{◌≡◌, ◌⊎◌, ℕ, not, Bool, true, false, List, [], ◌∷◌, ◌++◌, length, Option, Result, Ok, Err, Some, None, IfOk, string_bytes, refl, sym, ◌∙◌, ap, subst, inl, inr}
use Rattle.std.proofs.lemmas.Bool.{true≢false}
use Rattle.std.specs.List.{flat_map}
use Rattle.text_lines.specs.Cuts.{ended}
use Rattle.cfg_records.specs.declared.board_file.BoardFile.{BoardFile}
use Rattle.cfg_records.specs.Records.{Records}
use Rattle.record_base.specs.declared.op.Op.{Op}
use Rattle.text_lines.specs.declared.event.Event.{Event}
use Rattle.model_lab.specs.declared.fault.Fault.{Fault}
use Rattle.model_lab.specs.Played.{Told, Ending, Whole, Stops}
use Rattle.model_headline.specs.Plays.{taken_by, told_by, TellsPremise}
use Rattle.lab_run.specs.declared.note.Note.{Note}
use Rattle.lab_play.specs.Ends.{TellsPlay, IsEnding, PlayResult}
use Rattle.lab_play.specs.Noted.{NotesPlay}
use Rattle.lab_play.specs.Restarts.{TellsKept}
use Rattle.lab_play.specs.Restarting.{NotesTurns, RestartedResult}
use Rattle.lab_play.specs.declared.played.LabFault.{LabFault}
use Rattle.lab_play.specs.declared.played.LabFault.TheVariants as fault
use Rattle.lab_play.specs.declared.played.Played.{Played}
use Rattle.lab_play.specs.declared.run.Stopped.{Stopped}
use Rattle.report_words.specs.Changes.{listed}
use Rattle.app_base.specs.declared.console.Console.{Console}
use Rattle.app_base.specs.declared.console.Stream.{Stream}
use Rattle.app_base.specs.declared.files.UnreadFile.{UnreadFile}
use Rattle.app_base.specs.declared.report.Report.{Report}
use Rattle.app_base.specs.declared.status.Status.{Status}
use Rattle.app_base.specs.Ending.{RunEnds}
use Rattle.app_base.specs.EndingLaws.{run_ends_as}
use Rattle.app_base.specs.Files.{FirstUnread, PrintsRefusal, Readings}
use Rattle.app_base.specs.Refusals.{SaysUnless, is_loose}
use Rattle.app_play.specs.declared.account.Account.{Account}
use Rattle.app_play.specs.declared.inputs.Inputs.{Inputs}
use Rattle.app_play.specs.declared.run.Shown.{Shown}
use Rattle.app_play.specs.declared.strict.PlayOptions.{PlayOptions}
use Rattle.app_play.specs.Account.{status_of}
use Rattle.app_play.specs.Ended.{given_of}
use Rattle.app_play.specs.Files.{ArePlayTexts}
use Rattle.app_play.specs.Inputs.{InputsAreRead}
use Rattle.app_play.specs.Lines.{text_of}
use Rattle.app_play.specs.Restarted.{PrintsBy, RecountsRestarted}
use Rattle.app_play.specs.Run.{RecountsPlay, begun_with}
use Rattle.app_play.specs.Strict.{DrawsBy, EndsBy, NotesBy, NotesEnd, PlaysBy, PrintsAsked, PrintsAskedOfFiles, PrintsStrictly, RecountsBy, SaysBy, drawing_by, ended_by, listed_text}
use Rattle.app_play.proofs.Plays.{PlaysOf, SaysOf, stopped_account, whole_account}
use Rattle.app_play.proofs.RestartedRuns.{RestartedOf}
use Rattle.app_play.proofs.Noted.{ends_whole as whole_notes, ends_stopped as stopped_notes}

-- ---- endings

-- what was played tells what its ending tells
tells_whole : (played : Played) (ending : Ending) → IsEnding (Ok played) ending → TellsPlay played (told_by ending)
tells_whole played (Whole told) is = is
tells_whole played (Stops cause at told) is = absurd is

tells_stopped : (why : Fault) (place : ℕ) (played : Played) (ending : Ending) → IsEnding (Err (fault.Event why place played)) ending → TellsPlay played (told_by ending)
tells_stopped why place played (Whole told) is = absurd is
tells_stopped why place played (Stops cause at told) is = is.2

module _ (strict : Bool) (steps : ℕ) (played : Played) (ending : Ending) (account : Account) (says : SaysOf account played) (status : Status) (ends : status ≡ ended_by strict steps account account.stopped) where
  ends_whole : IsEnding (Ok played) ending → account.stopped ≡ None → EndsBy strict steps ending None status
  ends_whole is none = record {
    account = account;
    is = whole_account played ending account is says none;
    names = none;
    ends = ends ∙ ap (ended_by strict steps account) none;
  }

  ends_stopped : (why : Fault) (place : ℕ) → IsEnding (Err (fault.Event why place played)) ending → account.stopped ≡ Some (record { place = place; fault = why })
      → EndsBy strict steps ending (Some (record { place = place; fault = why })) status
  ends_stopped why place is named = record {
    account = account;
    is = stopped_account why place played ending account is says named;
    names = named;
    ends = ends ∙ ap (ended_by strict steps account) named;
  }

-- ---- the list

-- the bytes of the list's lines are those of the records that what was played tells
pub list_bytes : (asked : Bool) (file : BoardFile) (now records : Records) (begun lines : List ℕ) → begun ≡ [] → lines ≡ begun ++ flat_map ended (listed asked file now) → now ≡ records
    → lines ≡ flat_map ended (listed asked file records)
list_bytes asked file now records begun lines none grown same =
    grown ∙ ap (λ (l : List ℕ). l ++ flat_map ended (listed asked file now)) none ∙ ap (λ (r : Records). flat_map ended (listed asked file r)) same

-- ---- the account

module _ (frames premises : Bool) (inputs : Inputs) (played : Played) (account : Account) (says : SaysOf account played) (broken : account.broken ≡ played.watch.broken) where
  recount_whole : PlaysOf inputs (Ok played) → account.stopped ≡ None → RecountsPlay frames premises inputs (text_of frames premises account) (status_of account.stopped)
  recount_whole plays none = record {
    ending = plays.ending;
    played = plays.played;
    premise = subst (TellsPremise inputs.file (taken_by inputs.events plays.ending) (begun_with inputs)) (sym broken) plays.premise;
    stands = λ none_broke. plays.unbroken (sym broken ∙ none_broke);
    account = account;
    is = whole_account played plays.ending account plays.is says none;
    said = refl;
    ended = refl;
  }

  recount_stopped : (why : Fault) (place : ℕ) → PlaysOf inputs (Err (fault.Event why place played)) → account.stopped ≡ Some (record { place = place; fault = why })
      → RecountsPlay frames premises inputs (text_of frames premises account) (status_of account.stopped)
  recount_stopped why place plays named = record {
    ending = plays.ending;
    played = plays.played;
    premise = subst (TellsPremise inputs.file (taken_by inputs.events plays.ending) (begun_with inputs)) (sym broken) plays.premise;
    stands = λ none_broke. plays.unbroken (sym broken ∙ none_broke);
    account = account;
    is = stopped_account why place played plays.ending account plays.is says named;
    said = refl;
    ended = refl;
  }

  module _ (places : List ℕ) where
    again_whole : RestartedOf places inputs (Ok played) → account.stopped ≡ None → RecountsRestarted frames premises places inputs (text_of frames premises account) (status_of account.stopped)
    again_whole plays none = record {
      ending = plays.ending;
      played = plays.played;
      premise = subst (TellsKept inputs.file places (taken_by inputs.events plays.ending) (begun_with inputs)) (sym broken) plays.premise;
      stands = λ none_broke. plays.unbroken (sym broken ∙ none_broke);
      account = account;
      is = whole_account played plays.ending account plays.is says none;
      said = refl;
      ended = refl;
    }

    again_stopped : (why : Fault) (place : ℕ) → RestartedOf places inputs (Err (fault.Event why place played)) → account.stopped ≡ Some (record { place = place; fault = why })
        → RecountsRestarted frames premises places inputs (text_of frames premises account) (status_of account.stopped)
    again_stopped why place plays named = record {
      ending = plays.ending;
      played = plays.played;
      premise = subst (TellsKept inputs.file places (taken_by inputs.events plays.ending) (begun_with inputs)) (sym broken) plays.premise;
      stands = λ none_broke. plays.unbroken (sym broken ∙ none_broke);
      account = account;
      is = stopped_account why place played plays.ending account plays.is says named;
      said = refl;
      ended = refl;
    }

  module _ (options : PlayOptions) (text : List ℕ) (status : Status)
      (said : (told : Told) → TellsPlay played told → text ≡ listed_text (listed options.list inputs.file told.records) frames premises account)
      (ends : status ≡ ended_by options.strict (length inputs.plan.steps) account account.stopped) where
    -- the text recounts a play with these parts
    recounts_by : (places : List ℕ) (given : Result Played LabFault) (stopped : Option Stopped) → given ≡ given_of played stopped
        → PlaysBy inputs.file inputs.plan.steps inputs.plan.retries places inputs.events given → account.stopped ≡ stopped → RecountsBy options frames premises places inputs text status
    unfolding recount_whole recount_stopped again_whole again_stopped
    recounts_by [] given None same plays named =
        let all = subst (PlaysOf inputs) same plays in (
          text_of frames premises account,
          status_of account.stopped,
          recount_whole all named,
          record { said = said (told_by all.ending) (tells_whole played all.ending all.is); ends = ends },
        )
    recounts_by [] given (Some stopped) same plays named =
        let some = subst (PlaysOf inputs) same plays in (
          text_of frames premises account,
          status_of account.stopped,
          recount_stopped stopped.fault stopped.place some named,
          record { said = said (told_by some.ending) (tells_stopped stopped.fault stopped.place played some.ending some.is); ends = ends },
        )
    recounts_by (place ∷ places) given None same plays named =
        let all = subst (RestartedOf (place ∷ places) inputs) same plays in (
          text_of frames premises account,
          status_of account.stopped,
          again_whole (place ∷ places) all named,
          record { said = said (told_by all.ending) (tells_whole played all.ending all.is); ends = ends },
        )
    recounts_by (place ∷ places) given (Some stopped) same plays named =
        let some = subst (RestartedOf (place ∷ places) inputs) same plays in (
          text_of frames premises account,
          status_of account.stopped,
          again_stopped (place ∷ places) stopped.fault stopped.place some named,
          record { said = said (told_by some.ending) (tells_stopped stopped.fault stopped.place played some.ending some.is); ends = ends },
        )

-- a report of such a play says so
pub recounts_report : {E : Type 0} (options : PlayOptions) (frames premises : Bool) (places : List ℕ) (inputs : Inputs) (r : Result Report E) (given : Result Played LabFault) (played : Played)
    (stopped : Option Stopped) (account : Account) → given ≡ given_of played stopped → PlaysBy inputs.file inputs.plan.steps inputs.plan.retries places inputs.events given → SaysOf account played
    → account.broken ≡ played.watch.broken → account.stopped ≡ stopped
    → ((told : Told) → TellsPlay played told → IfOk r (λ report. string_bytes report.text ≡ listed_text (listed options.list inputs.file told.records) frames premises account))
    → IfOk r (λ report. report.status ≡ ended_by options.strict (length inputs.plan.steps) account account.stopped)
    → IfOk r (λ report. RecountsBy options frames premises places inputs (string_bytes report.text) report.status)
recounts_report options frames premises places inputs (Ok report) given played stopped account same plays says broken named said ends =
    recounts_by frames premises inputs played account says broken options (string_bytes report.text) report.status said ends places given stopped same plays named
recounts_report options frames premises places inputs (Err e) given played stopped account same plays says broken named said ends = tt

-- ---- the chart

module _ (strict : Bool) (file : BoardFile) (steps : List Op) (retries : ℕ) (events : List Event) (notes : List Note) (given : Result Played LabFault) (played : Played) (account : Account)
    (says : SaysOf account played) (status : Status) (ends : status ≡ ended_by strict (length steps) account account.stopped) where
  -- the notes of a play with these parts, and how it ends
  pub notes_end : (places : List ℕ) (stopped : Option Stopped) → given ≡ given_of played stopped → PlaysBy file steps retries places events given → NotesBy file steps retries places events given notes
      → account.stopped ≡ stopped → NotesEnd strict file steps retries places events stopped status notes
  notes_end [] None same plays noted named =
      let all = subst (λ (g : Result Played LabFault). PlayResult file steps retries events g) same plays in
      let are = subst (λ (g : Result Played LabFault). NotesPlay file steps retries events g notes) same noted in (
        record { ending = all.ending; played = all.played; stands = all.stands; ends = whole_notes events (length notes) played all.ending all.is are.1; are = are.0 },
        ends_whole strict (length steps) played all.ending account says status ends all.is named,
      )
  notes_end [] (Some stopped) same plays noted named =
      let some = subst (λ (g : Result Played LabFault). PlayResult file steps retries events g) same plays in
      let are = subst (λ (g : Result Played LabFault). NotesPlay file steps retries events g notes) same noted in (
        record {
          ending = some.ending;
          played = some.played;
          stands = some.stands;
          ends = stopped_notes events (length notes) stopped.fault stopped.place played some.ending some.is are.1;
          are = are.0;
        },
        ends_stopped strict (length steps) played some.ending account says status ends stopped.fault stopped.place some.is named,
      )
  notes_end (place ∷ places) None same plays noted named =
      let all = subst (λ (g : Result Played LabFault). RestartedResult file steps retries (place ∷ places) events g) same plays in
      let are = subst (λ (g : Result Played LabFault). NotesTurns file steps retries (place ∷ places) events g notes) same noted in (
        record { ending = all.ending; played = all.played; stands = all.stands; ends = whole_notes events (length notes) played all.ending all.is are.1; are = are.0 },
        ends_whole strict (length steps) played all.ending account says status ends all.is named,
      )
  notes_end (place ∷ places) (Some stopped) same plays noted named =
      let some = subst (λ (g : Result Played LabFault). RestartedResult file steps retries (place ∷ places) events g) same plays in
      let are = subst (λ (g : Result Played LabFault). NotesTurns file steps retries (place ∷ places) events g notes) same noted in (
        record {
          ending = some.ending;
          played = some.played;
          stands = some.stands;
          ends = stopped_notes events (length notes) stopped.fault stopped.place played some.ending some.is are.1;
          are = are.0;
        },
        ends_stopped strict (length steps) played some.ending account says status ends stopped.fault stopped.place some.is named,
      )

-- a text that is the drawing of such notes draws the play
pub draws_by : (strict : Bool) (places : List ℕ) (inputs : Inputs) (text : List ℕ) (notes : List Note) (stopped : Option Stopped) (status : Status)
    → NotesEnd strict inputs.file inputs.plan.steps inputs.plan.retries places inputs.events stopped status notes → text ≡ drawing_by places notes stopped → DrawsBy strict places inputs text status
draws_by strict [] inputs text notes stopped status (play, ends) said =
    (status_of stopped, record { notes = notes; stopped = stopped; play = play; said = said; ended = refl }, ends)
draws_by strict (place ∷ places) inputs text notes stopped status (play, ends) said =
    (status_of stopped, record { notes = notes; stopped = stopped; play = play; said = said; ended = refl }, ends)

-- what is said of what the texts tell is said of the texts
pub says_asked : {E : Type 0} (options : PlayOptions) (shown : Shown) (places : List ℕ) (board plan schedule : List ℕ) (r : Result Report E) (inputs : Inputs) → InputsAreRead board plan schedule (Ok inputs)
    → IfOk r (λ report. SaysUnless (is_loose options.strict board plan inputs.plan) (SaysBy options places shown inputs) report.stream (string_bytes report.text) report.status)
    → IfOk r (λ report. PrintsAsked options shown places board plan schedule report.stream (string_bytes report.text) report.status)
says_asked options shown places board plan schedule (Ok report) inputs read said = inl (inputs, read, said)
says_asked options shown places board plan schedule (Err e) inputs read said = tt

-- ---- what is said of texts

-- where a run is strict or lists records, it says this
strictly_by : (strict list : Bool) (shown : Shown) (places board plan schedule : List ℕ) (stream : Stream) (text : List ℕ) (status : Status) → (not strict ≡ false) ⊎ (not list ≡ false)
    → PrintsAsked (record { strict = strict; list = list }) shown places board plan schedule stream text status → PrintsStrictly strict list shown places board plan schedule stream text status
strictly_by false false shown places board plan schedule stream text status (inl asks) said = absurd (true≢false asks)
strictly_by false false shown places board plan schedule stream text status (inr asks) said = absurd (true≢false asks)
strictly_by false true shown places board plan schedule stream text status asks said = said
strictly_by true list shown places board plan schedule stream text status asks said = said

pub strictly : {W E : Type 0} (out : W → Option (List ℕ)) (err : E → Option (List ℕ)) (options : PlayOptions) (shown : Shown) (places board plan schedule : List ℕ) (old new : Console W E) (result : ℕ)
    → (not options.strict ≡ false) ⊎ (not options.list ≡ false) → RunEnds out err (PrintsAsked options shown places board plan schedule) old new result
    → RunEnds out err (PrintsStrictly options.strict options.list shown places board plan schedule) old new result
strictly out err options shown places board plan schedule old new result asks ends =
    run_ends_as out err (PrintsAsked options shown places board plan schedule) (PrintsStrictly options.strict options.list shown places board plan schedule) old new result
    (λ stream text status said. strictly_by options.strict options.list shown places board plan schedule stream text status asks said) ends

-- where it is neither, it says what is said without these options
plainly_by : {W E : Type 0} (out : W → Option (List ℕ)) (err : E → Option (List ℕ)) (strict list : Bool) (shown : Shown) (places board plan schedule : List ℕ) (old new : Console W E) (result : ℕ)
    → not strict ≡ true → not list ≡ true → RunEnds out err (PrintsBy shown places board plan schedule) old new result
    → RunEnds out err (PrintsStrictly strict list shown places board plan schedule) old new result
plainly_by out err false false shown places board plan schedule old new result loose unlisted ends = ends
plainly_by out err false true shown places board plan schedule old new result loose unlisted ends = absurd (true≢false (sym unlisted))
plainly_by out err true list shown places board plan schedule old new result loose unlisted ends = absurd (true≢false (sym loose))

pub plainly : {W E : Type 0} (out : W → Option (List ℕ)) (err : E → Option (List ℕ)) (options : PlayOptions) (shown : Shown) (places board plan schedule : List ℕ) (old new : Console W E) (result : ℕ)
    → not options.strict ≡ true → not options.list ≡ true → RunEnds out err (PrintsBy shown places board plan schedule) old new result
    → RunEnds out err (PrintsStrictly options.strict options.list shown places board plan schedule) old new result
plainly out err options shown places board plan schedule old new result loose unlisted ends =
    plainly_by out err options.strict options.list shown places board plan schedule old new result loose unlisted ends

-- ---- what is said of files

-- what is said of the texts of files is said of the files
pub asked_of_files : {W E : Type 0} (out : W → Option (List ℕ)) (err : E → Option (List ℕ)) (gives : Readings) (options : PlayOptions) (shown : Shown) (places : List ℕ) (words : List (List ℕ))
    (board plan schedule one two three : List ℕ) (old new : Console W E) (result : ℕ) → one ≡ board → two ≡ plan → three ≡ schedule → ArePlayTexts gives words board plan schedule
    → RunEnds out err (PrintsStrictly options.strict options.list shown places one two three) old new result
    → RunEnds out err (PrintsAskedOfFiles gives options shown places words) old new result
asked_of_files out err gives options shown places words board plan schedule one two three old new result first second third are ends =
    run_ends_as out err (PrintsStrictly options.strict options.list shown places one two three) (PrintsAskedOfFiles gives options shown places words) old new result
    (λ stream text status said. inl (
      board,
      plan,
      schedule,
      are,
      subst (λ (b : List ℕ). PrintsStrictly options.strict options.list shown places b plan schedule stream text status) first
          (subst (λ (p : List ℕ). PrintsStrictly options.strict options.list shown places one p schedule stream text status) second
          (subst (λ (s : List ℕ). PrintsStrictly options.strict options.list shown places one two s stream text status) third said)),
    ))
    ends

-- and so is that one of them isn't read
pub unread_of_files : {W E : Type 0} (out : W → Option (List ℕ)) (err : E → Option (List ℕ)) (gives : Readings) (options : PlayOptions) (shown : Shown) (places : List ℕ) (words : List (List ℕ))
    (word : List ℕ) (why : UnreadFile) (old new : Console W E) (result : ℕ) → FirstUnread gives words word why → RunEnds out err (PrintsRefusal why word) old new result
    → RunEnds out err (PrintsAskedOfFiles gives options shown places words) old new result
unread_of_files out err gives options shown places words word why old new result unread ends =
    run_ends_as out err (PrintsRefusal why word) (PrintsAskedOfFiles gives options shown places words) old new result (λ stream text status said. inr (word, why, unread, said)) ends
