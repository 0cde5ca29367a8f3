-- What a run of `bmcnet serve` says.
use Rattle.std.specs.Prelude.{◌≡◌, ◌≢◌, ◌⊎◌, ◌++◌, ◌∷◌, ◌&&◌, ℕ, Bool, true, false, List, [], Option, None, Some, option_map, Result, Ok, Err, codes, string_bytes}
use Rattle.std.specs.Fmt.{decimal}
use Rattle.cfg_records.specs.declared.board_file.BoardFile.{BoardFile}
use Rattle.text_board.specs.declared.fault.FileFault.{FileFault}
use Rattle.text_board.specs.declared.fault.FileFault.TheVariants as of_file
use Rattle.text_board.specs.Holds.{ReadsText}
use Rattle.text_lines.specs.Cuts.{ended}
use Rattle.app_serve.specs.declared.readings_text.ReadingsFault.{ReadingsFault}
use Rattle.app_serve.specs.declared.readings_text.ReadingsFault.TheVariants.{Memory, Line}
use Rattle.app_serve.specs.ReadingsNames.{readings_fault_name}
use Rattle.app_serve.specs.ReadingsText.{IsFirstBad, IsReadingsText}
use Rattle.bmc_ports.specs.declared.timetable.Timed.{Timed}
use Rattle.app_base.specs.declared.console.Console.{Console}
use Rattle.app_base.specs.declared.console.Stream.TheVariants.{Output, Error}
use Rattle.app_base.specs.declared.status.Status.{Status}
use Rattle.app_base.specs.declared.status.Status.TheVariants.{Success, RefusedFile, Stopped}
use Rattle.app_base.specs.declared.files.UnreadFile.{UnreadFile}
use Rattle.app_base.specs.Console.{IsWrittenTo}
use Rattle.app_base.specs.Ending.{RunEnds, Saying}
use Rattle.app_base.specs.Files.{FilesGive, FirstUnread, Readings, PrintsRefusal}
use Rattle.app_base.specs.Report.{board_line}
use Rattle.app_base.specs.Refusals.{is_loose_board}
use Rattle.app_base.specs.Statuses.{records_status}
use Rattle.app_serve.specs.declared.ends.EndFault.{EndFault}
use Rattle.app_serve.specs.declared.ends.EndFault.TheVariants as end
use Rattle.app_serve.specs.declared.inputs.InputFault.{InputFault}
use Rattle.app_serve.specs.declared.inputs.InputFault.TheVariants as fault
use Rattle.app_serve.specs.declared.inputs.ServeInputs.{ServeInputs}
use Rattle.app_serve.specs.declared.run.ServeWords.{ServeWords}
use Rattle.app_serve.specs.Served.{TalliesOf, list_in, most_events, text_of}

-- the text is a board file
abbrev pub IsBoard : List ℕ → Type 0
IsBoard text = (file : BoardFile) × ReadsText text (Ok file)

-- ---- the readings

-- a text of readings, where there is one, stands for this list
abbrev pub StandsFor : Option (List ℕ) → Option (List Timed) → Type 0
StandsFor None None = Unit {0}
StandsFor (Some text) (Some list) = IsReadingsText text list
StandsFor given list = ⊥

-- it stands for a list, or there is none
abbrev pub AreReadings : Option (List ℕ) → Type 0
AreReadings given = (list : Option (List Timed)) × StandsFor given list

-- there is one, and this is its first bad line
abbrev pub IsBadAt : Option (List ℕ) → ℕ → Type 0
IsBadAt None line = ⊥
IsBadAt (Some text) line = IsFirstBad text line

-- why a text of readings, where there is one, stands for no list: memory was refused, or this is its first bad line
abbrev pub IsRefused : Option (List ℕ) → ReadingsFault → Type 0
IsRefused given Memory = Unit {0}
IsRefused given (Line line) = IsBadAt given line

-- what is said of a text of readings that is refused
abbrev pub readings_line : ReadingsFault → List ℕ
readings_line why = ended (codes "readings " ++ readings_fault_name why)

-- ---- the ports

-- the port that is taken is the one that was asked for, or any for 0
abbrev pub IsTakenPort : (asked taken : ℕ) → Type 0
IsTakenPort asked taken = (asked ≡ 0) ⊎ (taken ≡ asked)

-- a run has nothing to say
abbrev pub SaysNothing : Saying
SaysNothing stream text status = ⊥

-- the line that tells of both ports
abbrev pub ports_line : (ipmb smbus : ℕ) → List ℕ
ports_line ipmb smbus = codes "bmcnet: ipmb on 127.0.0.1:" ++ decimal ipmb ++ codes ", smbus on 127.0.0.1:" ++ decimal smbus ++ 10 ∷ []

-- standard error grows by the line of these ports
abbrev pub SaysPorts : {Stdout Stderr : Type 0} → (out : Stdout → Option (List ℕ)) → (err : Stderr → Option (List ℕ)) → (ipmb smbus : ℕ) → (old new : Console Stdout Stderr) → Type 0
SaysPorts out err ipmb smbus old new = IsWrittenTo Error (ports_line ipmb smbus) (out old.out) (out new.out) (err old.err) (err new.err)

-- it grows by that of the ports that were taken for those of the words
abbrev pub TellsPorts : {Stdout Stderr : Type 0} → (out : Stdout → Option (List ℕ)) → (err : Stderr → Option (List ℕ)) → ServeWords → (old new : Console Stdout Stderr) → Type 0
TellsPorts out err words old new =
    (ipmb : ℕ) × (smbus : ℕ) × IsTakenPort words.ipmb_port ipmb × IsTakenPort words.smbus_port smbus
    × SaysPorts out err ipmb smbus old new

-- the end is that of a bus at the port that the words name for it
abbrev pub IsEndOf : ServeWords → EndFault → Type 0
IsEndOf words (end.Ipmb port) = port ≡ words.ipmb_port
IsEndOf words (end.Smbus port) = port ≡ words.smbus_port

-- the line that says of the end of a bus that it can't be had at this port, or at any for 0
abbrev pub TellsUnopened : (bus : List ℕ) → (port : ℕ) → (text : List ℕ) → Type 0
TellsUnopened bus port text =
    ((port ≡ 0) × (text ≡ codes "no port of " ++ bus ++ codes " can be opened on 127.0.0.1\n"))
    ⊎ ((port ≢ 0) × (text ≡ codes "port " ++ decimal port ++ codes " of " ++ bus ++ codes " can't be opened on 127.0.0.1: is it in use?\n"))

-- the text is that line of this end
abbrev pub TellsEnd : EndFault → (text : List ℕ) → Type 0
TellsEnd (end.Ipmb port) text = TellsUnopened (codes "IPMB") port text
TellsEnd (end.Smbus port) text = TellsUnopened (codes "SMBus") port text

-- what is said where an end can't be had: standard error has its line
abbrev pub SaysUnopened : ServeWords → Saying
SaysUnopened words Output text status = ⊥
SaysUnopened words Error text status = (why : EndFault) × IsEndOf words why × TellsEnd why text × (status ≡ Stopped)

-- ---- the board

-- a strict run refuses this text of a board file for a key that is unknown or not used
abbrev pub is_refused_strictly : ServeWords → (board : List ℕ) → Bool
is_refused_strictly words board = words.strict && is_loose_board board

-- the text is a board file, that of the readings, where there is one, stands for a list, and no strict run refuses it
abbrev pub IsServable : ServeWords → (board : List ℕ) → (given : Option (List ℕ)) → Type 0
IsServable words board given = IsBoard board × AreReadings given × (is_refused_strictly words board ≡ false)

-- What is said of a board file's text, and of a text of readings, where there is one, that aren't served: why the first holds no board, or the
-- first bad line of the second; or what a strict run says of keys; or which end can't be had.
abbrev pub SaysUnserved : ServeWords → (board : List ℕ) → (given : Option (List ℕ)) → Saying
SaysUnserved words board given Output text status = ⊥
SaysUnserved words board given Error text status =
    ((why : FileFault) × ReadsText board (Err why) × (text ≡ board_line why) × (status ≡ RefusedFile))
    ⊎ ((IsBoard board × (line : ℕ) × IsBadAt given line × (text ≡ readings_line (Line line)) × (status ≡ RefusedFile))
    ⊎ ((IsBoard board × AreReadings given × (is_refused_strictly words board ≡ true) × (status ≡ RefusedFile))
    ⊎ (IsServable words board given × SaysUnopened words Error text status)))

-- the line that tells that the room of the one history is over, and how to go on then
abbrev pub room_line : List ℕ
room_line = codes "bmcnet: room is over: 4096 events; serve --periods goes on\n"

-- where there is one history, and it is full, standard error grows by that line, and else by nothing
abbrev pub TellsRoom : {Stdout Stderr : Type 0} → (out : Stdout → Option (List ℕ)) → (err : Stderr → Option (List ℕ)) → (periods : Bool) → (events : ℕ) → (old new : Console Stdout Stderr) → Type 0
TellsRoom out err periods events old new =
    ((periods ≡ false) × (events ≡ most_events) × IsWrittenTo Error room_line (out old.out) (out new.out) (err old.err) (err new.err))
    ⊎ (((periods ≡ true) ⊎ (events ≢ most_events)) × (new ≡ old))

-- how a run ends that served a board, of whose records so many have another value: well, or strictly
abbrev pub end_status : (strict : Bool) → (changed : ℕ) → Status
end_status true changed = records_status changed
end_status false changed = Success

-- what is said of a board that was served: on standard output how many events there were, and whether records are changed, and which, where that is asked for
abbrev pub SaysTally : (strict : Bool) → (events changed : ℕ) → (changes : List ℕ) → Saying
SaysTally strict events changed changes Output text status = (text ≡ text_of events changed ++ changes) × (status ≡ end_status strict changed)
SaysTally strict events changed changes Error text status = ⊥

-- So a run ends whose board was served: it tells of the room first, where that is over, or it can't.
abbrev pub TallyEnds : {Stdout Stderr : Type 0} → (out : Stdout → Option (List ℕ)) → (err : Stderr → Option (List ℕ)) → ServeWords → (events changed : ℕ) → (changes : List ℕ)
    → (old new : Console Stdout Stderr) → ℕ → Type 0
TallyEnds {Stdout} {Stderr} out err words events changed changes old new result =
    ((mid : Console Stdout Stderr) × TellsRoom out err words.periods events old mid × RunEnds out err (SaysTally words.strict events changed changes) mid new result)
    ⊎ RunEnds out err SaysNothing old new result

-- nothing is said of a board whose serving came to no end
abbrev pub SaysUnended : ServeWords → (board : List ℕ) → (given : Option (List ℕ)) → Saying
SaysUnended words board given Output text status = ⊥
SaysUnended words board given Error text status = IsServable words board given × (text ≡ []) × (status ≡ Stopped)

-- the board of a text was served so, with a text of readings, where there is one
pub record ServesBoard (words : ServeWords) (board : List ℕ) (given : Option (List ℕ)) (events changed : ℕ) (changes : List ℕ) : Type 0 where
  pub file : BoardFile
  pub reads : ReadsText board (Ok file)
  pub list : Option (List Timed)
  pub stands : StandsFor given list
  pub used : is_refused_strictly words board ≡ false
  pub tallies : TalliesOf words list file events changed changes

-- So a run ends that told of its ports: it says how the board was served, or nothing, where the serving came to no end.
abbrev pub BoardEnds : {Stdout Stderr : Type 0} → (out : Stdout → Option (List ℕ)) → (err : Stderr → Option (List ℕ)) → ServeWords → (board : List ℕ) → (given : Option (List ℕ))
    → (old new : Console Stdout Stderr) → ℕ → Type 0
BoardEnds out err words board given old new result =
    ((events : ℕ) × (changed : ℕ) × (changes : List ℕ) × ServesBoard words board given events changed changes × TallyEnds out err words events changed changes old new result)
    ⊎ RunEnds out err (SaysUnended words board given) old new result

-- So a run ends that serves the board of a text, with a text of readings, where there is one: it isn't served, or both ports are told of first.
abbrev pub TextEnds : {Stdout Stderr : Type 0} → (out : Stdout → Option (List ℕ)) → (err : Stderr → Option (List ℕ)) → ServeWords → (board : List ℕ) → (given : Option (List ℕ))
    → (old new : Console Stdout Stderr) → ℕ → Type 0
TextEnds {Stdout} {Stderr} out err words board given old new result =
    RunEnds out err (SaysUnserved words board given) old new result
    ⊎ ((mid : Console Stdout Stderr) × TellsPorts out err words old mid × BoardEnds out err words board given mid new result)

-- ---- the files

-- what there is, as a list
abbrev pub texts_in : Option (List ℕ) → List (List ℕ)
texts_in None = []
texts_in (Some one) = one ∷ []

-- the words of the files, in their order: that of the board file, and that of the readings, where there is one
abbrev pub files_of : ServeWords → List (List ℕ)
files_of words = string_bytes words.board ∷ texts_in (option_map string_bytes words.readings)

-- what a board file's text and a text of readings, where there is one, hold, or why the first that is refused is; a reader may be refused memory
abbrev pub AreInputs : (board : List ℕ) → (given : Option (List ℕ)) → Result ServeInputs InputFault → Type 0
AreInputs board given (Ok inputs) = ReadsText board (Ok inputs.file) × StandsFor given (list_in inputs.readings)
AreInputs board given (Err (fault.Board why)) = (why ≡ of_file.Memory) ⊎ ReadsText board (Err why)
AreInputs board given (Err (fault.Readings why)) = IsBoard board × IsRefused given why

-- they hold this, and no strict run refuses them
abbrev pub AreServable : ServeWords → (board : List ℕ) → (given : Option (List ℕ)) → ServeInputs → Type 0
AreServable words board given inputs = AreInputs board given (Ok inputs) × (is_refused_strictly words board ≡ false)

-- the files that the words name have texts that hold this, and no strict run refuses them
abbrev pub HoldServable : Readings → ServeWords → ServeInputs → Type 0
HoldServable gives words inputs =
    (board : List ℕ) × (given : Option (List ℕ)) × FilesGive gives (files_of words) (board ∷ texts_in given) × AreServable words board given inputs

-- So a run of `serve` ends: as it does with the texts of its files, or one of these isn't read, the first of them.
abbrev pub ServeEnds : {Stdout Stderr : Type 0} → (out : Stdout → Option (List ℕ)) → (err : Stderr → Option (List ℕ)) → Readings → ServeWords → (old new : Console Stdout Stderr) → ℕ → Type 0
ServeEnds out err gives words old new result =
    ((board : List ℕ) × (given : Option (List ℕ)) × FilesGive gives (files_of words) (board ∷ texts_in given) × TextEnds out err words board given old new result)
    ⊎ ((word : List ℕ) × (why : UnreadFile) × FirstUnread gives (files_of words) word why × RunEnds out err (PrintsRefusal why word) old new result)
