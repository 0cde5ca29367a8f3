-- How a run of `bmcnet show` ends: what it sent, what it leaves of the files, what it says, and its status.
use Rattle.std.specs.Prelude.{◌≡◌, ◌⊎◌, ◌&&◌, ◌||◌, ◌==◌, ℕ, Bool, true, false, not, List, Option, length, Some, None, is_some, is_none, String, string_bytes}
use Rattle.std.specs.Option.{unwrap_or}
use Rattle.std.specs.declared.alloc.Global.{Global}
use Rattle.app_base.specs.declared.console.Console.{Console}
use Rattle.app_base.specs.declared.console.Stream.{Stream}
use Rattle.app_base.specs.declared.console.Stream.TheVariants.{Output, Error}
use Rattle.app_base.specs.declared.status.Status.{Status}
use Rattle.app_base.specs.declared.status.Status.TheVariants.{Success, Unsettled, RefusedWords, RefusedFile, Stopped}
use Rattle.app_base.specs.Console.{IsWrittenTo}
use Rattle.app_base.specs.Ending.{RunEnds, Saying}
use Rattle.app_journal.specs.declared.files.WritesFiles.{Ghosts}
use Rattle.app_journal.specs.declared.undo_files.UndoFiles.{UndoFiles}
use Rattle.app_run.specs.Ends.{PrintsNothing}
use Rattle.app_apply.specs.declared.kept_calls.Reach.{Reach}
use Rattle.app_apply.specs.Ends.{SaysWith}
use Rattle.app_look.specs.declared.session.OpenFault.{OpenFault}
use Rattle.app_look.specs.declared.session.OpenFault.TheVariants as fault
use Rattle.app_look.specs.declared.session.Session.{Session}
use Rattle.app_look.specs.declared.session.Way.{Way}
use Rattle.app_look.specs.Opened.{IsOpened, IsUnopened}
use Rattle.app_show.specs.declared.backup.Backup.{Backup}
use Rattle.app_show.specs.declared.reading.ReadFault.{ReadFault}
use Rattle.app_show.specs.declared.reading.ReadFault.TheVariants as stop
use Rattle.app_show.specs.declared.reading.Reader.{Reader}
use Rattle.app_show.specs.declared.putting.Unput.{Unput}
use Rattle.app_show.specs.declared.showing.ShowWords.{ShowWords}
use Rattle.app_show.specs.Asking.{Asking, AsksAll}
use Rattle.app_show.specs.Reading.{IsNewReader, ReadsOn, StopsBy}
use Rattle.app_show.specs.Plans.{ArePlans, all_of, plans_of}
use Rattle.app_show.specs.Putting.{AreFilesOf, AreFree, IsFirstTaken, PutsAll, StopsPutting}

-- a Get is sent again so often
abbrev pub show_retries : ℕ
show_retries = 3

-- a looker's way to the controller
abbrev pub way_of : Reach → Way
way_of reach = record {
  ipmb_port = reach.ipmb_port;
  smbus_port = unwrap_or reach.smbus_port 0;
  wait_ms = reach.wait_ms;
  retries = show_retries;
  again = reach.again;
}

-- effecters are asked for, which are read on SMBus, and no port of that is known
abbrev pub lacks_port : ShowWords → Bool
lacks_port words = is_none words.reach.smbus_port && not (length words.effecters.items == 0)

-- the words don't go together: so they are, or objects are asked for, which go to standard output, and files, too
abbrev pub is_misfit : ShowWords → Bool
is_misfit words = lacks_port words || (words.json && is_some words.out)

-- the records that are asked for: those on SMBus where its port is known, with the effecters of the ids that are given
abbrev pub asking_of : ShowWords → Asking
asking_of words = AsksAll (is_some words.reach.smbus_port) words.effecters.items

-- the stream has this text, and the status is this
abbrev pub SaysText : Stream → (text : List ℕ) → Status → Saying
SaysText on said status stream text ends = (stream ≡ on) × (text ≡ said) × (ends ≡ status)

module _ {Stdout Stderr : Type 0} (out : Stdout → Option (List ℕ)) (err : Stderr → Option (List ℕ)) where
  -- a run that made no look ends so
  abbrev pub EndsUnopened : OpenFault → (old new : Console Stdout Stderr) → ℕ → Type 0
  EndsUnopened fault.Memory old new result = RunEnds out err PrintsNothing old new result
  EndsUnopened fault.NoLink old new result = RunEnds out err (SaysWith Stopped) old new result
  EndsUnopened (fault.Ungreeted why) old new result = RunEnds out err (SaysWith Unsettled) old new result

  -- a sentence is said on standard error, and behind it standard output gets the texts; or they aren't written whole, or memory was refused
  abbrev pub EndsOnOutput : (texts : List (String Global)) → (old new : Console Stdout Stderr) → ℕ → Type 0
  EndsOnOutput texts old new result =
      ((mid : Console Stdout Stderr) × (sentence : List ℕ) × IsWrittenTo Error sentence (out old.out) (out mid.out) (err old.err) (err mid.err)
      × RunEnds out err (SaysText Output (all_of texts) Success) mid new result)
      ⊎ RunEnds out err PrintsNothing old new result

  -- some text is printed so, which is that of the objects
  abbrev pub EndsInObjects : (old new : Console Stdout Stderr) → ℕ → Type 0
  EndsInObjects old new result = (texts : List (String Global)) × EndsOnOutput texts old new result

module _ {Files Stdout Stderr : Type 0} (out : Stdout → Option (List ℕ)) (err : Stderr → Option (List ℕ)) (files : Ghosts Files) where
  -- each file is put, which is said; or one can't be, which is said
  abbrev pub EndsPut : List UndoFiles → (texts : List (String Global)) → (before after : Files) → (old new : Console Stdout Stderr) → ℕ → Type 0
  EndsPut all texts before after old new result =
      (PutsAll files all texts before after × RunEnds out err (SaysWith Success) old new result)
      ⊎ ((why : Unput) × StopsPutting files all texts why before after × RunEnds out err (SaysWith RefusedFile) old new result)

  -- The plans go to files of this name. Where none of them is there, each is put; where one is, nothing is written, and that is said.
  abbrev pub EndsInFiles : (name : List ℕ) → (texts : List (String Global)) → (before after : Files) → (old new : Console Stdout Stderr) → ℕ → Type 0
  EndsInFiles name texts before after old new result =
      ((all : List UndoFiles) × AreFilesOf name (length texts) all
      × ((AreFree (files.leads before) all × EndsPut all texts before after old new result)
      ⊎ ((place : ℕ) × IsFirstTaken (files.leads before) all (Some place) × (after ≡ before) × RunEnds out err (SaysWith RefusedFile) old new result)))
      ⊎ ((after ≡ before) × RunEnds out err PrintsNothing old new result)

  -- the texts go to files, or else to standard output, and no file is written
  abbrev pub GoesTo : (name : Option (String Global)) → (texts : List (String Global)) → (before after : Files) → (old new : Console Stdout Stderr) → ℕ → Type 0
  GoesTo (Some name) texts before after old new result = EndsInFiles (string_bytes name) texts before after old new result
  GoesTo None texts before after old new result = (after ≡ before) × EndsOnOutput out err texts old new result

  abbrev pub EndsWithTexts : ShowWords → (texts : List (String Global)) → (before after : Files) → (old new : Console Stdout Stderr) → ℕ → Type 0
  EndsWithTexts words texts before after old new result = GoesTo words.out texts before after old new result

  -- A backup's plans go there, each as a text that is read back as its steps. Or a text isn't, and nothing is written but a sentence; or memory was
  -- refused.
  abbrev pub EndsRead : ShowWords → Backup → (before after : Files) → (old new : Console Stdout Stderr) → ℕ → Type 0
  EndsRead words backup before after old new result =
      ((texts : List (String Global)) × ArePlans texts (plans_of backup) × EndsWithTexts words texts before after old new result)
      ⊎ ((after ≡ before) × (RunEnds out err (SaysWith Stopped) old new result ⊎ RunEnds out err PrintsNothing old new result))

  -- what a backup says is told so, or in objects on standard output, and then no file is written
  abbrev pub EndsTold : ShowWords → Backup → (before after : Files) → (old new : Console Stdout Stderr) → ℕ → Type 0
  EndsTold words backup before after old new result =
      ((words.json ≡ true) × (after ≡ before) × EndsInObjects out err old new result)
      ⊎ ((words.json ≡ false) × EndsRead words backup before after old new result)

  -- what a run says whose reading came to no end
  abbrev pub EndsUnread : ReadFault → (old new : Console Stdout Stderr) → ℕ → Type 0
  EndsUnread stop.Silent old new result = RunEnds out err (SaysWith Unsettled) old new result
  EndsUnread stop.Memory old new result = RunEnds out err PrintsNothing old new result

  -- Over a session the records that are to be asked for are looked at one after another, and nothing else is sent. What they show is a backup, which
  -- is told; or reading came to no end, and no file is written.
  abbrev pub EndsOpened : ShowWords → Session → (before after : Files) → (old new : Console Stdout Stderr) → ℕ → Type 0
  EndsOpened words session before after old new result =
      (first last : Reader) × IsNewReader first × (left : Session)
      × ((ReadsOn (asking_of words) session left first last × EndsTold words last.backup before after old new result)
      ⊎ ((why : ReadFault) × StopsBy (asking_of words) why session left first last × (after ≡ before) × EndsUnread why old new result))

  -- So a run of `show` ends. Where its words don't go together, that is said, and nothing is sent. Else the controller is
  -- greeted, on SMBus where its port is known; where that isn't answered, or a link can't be had, nothing is read, and else its records are.
  abbrev pub ShowEndsOf : ShowWords → (before after : Files) → (old new : Console Stdout Stderr) → ℕ → Type 0
  ShowEndsOf words before after old new result =
      ((is_misfit words ≡ true) × (after ≡ before) × RunEnds out err (SaysWith RefusedWords) old new result)
      ⊎ ((is_misfit words ≡ false)
      × (((why : OpenFault) × IsUnopened (way_of words.reach) true (is_some words.reach.smbus_port) why × (after ≡ before) × EndsUnopened out err why old new result)
      ⊎ ((session : Session) × IsOpened (way_of words.reach) true (is_some words.reach.smbus_port) session × EndsOpened words session before after old new result)))
