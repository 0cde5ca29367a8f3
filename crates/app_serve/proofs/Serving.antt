-- What a served board is told of, and what is said of that.
use Rattle.std.proofs.Common.{◌≡◌, ◌∙◌, ◌⊎◌, refl, inl, inr, sym, ap, subst, ℕ, Bool, List, [], Option, Some, Result, Ok, Err, string_bytes}
use Rattle.std.specs.Prelude.{IfErr, IfOk}
use Rattle.std.specs.List.{flat_map}
use Rattle.cfg_records.specs.declared.board_file.BoardFile.{BoardFile}
use Rattle.two_wire.specs.declared.Bus.TheVariants as bus
use Rattle.bmc_board.specs.State.{State, state_of, opened}
use Rattle.wire_links.specs.declared.link.Link.{Ghosts}
use Rattle.bmc_shared.specs.declared.event.Call.{Call}
use Rattle.bmc_shared.specs.declared.event.Event.{Event}
use Rattle.bmc_shared.specs.Replay.{calls_of}
use Rattle.bmc_ports.specs.declared.timetable.Timed.{Timed}
use Rattle.bmc_ports.specs.declared.agenda.Agenda.{Agenda}
use Rattle.bmc_ports.specs.Timing.{GainsCalls}
use Rattle.bmc_ports.specs.declared.lane.Lanes.{Lanes}
use Rattle.text_lines.specs.Cuts.{ended}
use Rattle.cfg_records.specs.Changed.{changed_in}
use Rattle.report_words.specs.Changes.{IsListOf, listed}
use Rattle.app_base.specs.declared.console.Console.{Console}
use Rattle.app_base.specs.declared.report.Report.{Report}
use Rattle.app_base.specs.declared.console.Stream.{Stream}
use Rattle.app_base.specs.declared.console.Stream.TheVariants.{Output, Error}
use Rattle.app_base.specs.declared.status.Status.{Status}
use Rattle.app_base.specs.declared.status.Status.TheVariants.{Stopped}
use Rattle.app_base.specs.Refusals.{RefusedIf}
use Rattle.app_base.specs.declared.ending.ReportFault.{ReportFault}
use Rattle.app_base.specs.declared.ending.ReportFault.TheVariants as untold
use Rattle.app_base.specs.Ending.{RunEnds, SaysReport, ReportTells}
use Rattle.app_base.specs.EndingLaws.{run_ends_as, run_reports}
use Rattle.app_base.specs.Files.{Readings}
use Rattle.app_serve.specs.declared.periods.PeriodState.{PeriodState}
use Rattle.app_serve.specs.declared.run.ServeWords.{ServeWords}
use Rattle.app_serve.specs.declared.ends.EndFault.{EndFault}
use Rattle.app_serve.specs.declared.inputs.ServeInputs.{ServeInputs}
use Rattle.app_serve.specs.declared.tally.ListedBoard.{ListedBoard}
use Rattle.app_serve.specs.declared.tally.ServeAccount.{ServeAccount}
use Rattle.app_serve.specs.Served.{IsAsked, IsListedBoard, HistoriesLead, PlaysAgenda, TalliesOf, is_repeated, list_for, list_in}
use Rattle.app_serve.specs.Periods.{EndsServing, RunsTo}
use Rattle.app_serve.specs.Turns.{IsFreshLane}
use Rattle.app_serve.specs.Run.{AreInputs, HoldServable, IsEndOf, IsServable, SaysNothing, SaysTally, SaysUnended, SaysUnopened, SaysUnserved, ServeEnds, ServesBoard, TallyEnds, TellsEnd, TellsPorts, TellsRoom, TextEnds, is_refused_strictly}
use Rattle.app_serve.proofs.Following.{follow_leads}
use Rattle.app_serve.proofs.LaneTurns.{first_runs, ports_run, second_runs}

-- ---- what is counted

-- what leads from a board as it begins leads from the file's
from_file : (asked : Bool) (file : BoardFile) (begun : ListedBoard) (histories : List (List Event)) (after : State) → IsListedBoard asked file begun
    → HistoriesLead begun.board.setup (state_of begun.board) histories after → HistoriesLead file (opened file) histories after
from_file asked file begun histories after begins lead =
    subst (λ (s : BoardFile). HistoriesLead s (opened file) histories after) begins.setup
    (subst (λ (o : State). HistoriesLead begun.board.setup o histories after) begins.opens lead)

-- what happened by an agenda of which nothing had happened plays what is asked for
plays_asked : (words : ServeWords) (given : Option (List Timed)) (agenda : Agenda) (to : ℕ) (histories : List (List Event)) → IsAsked words given agenda
    → GainsCalls agenda.repeats agenda.table.list.now agenda.table.next to [] (flat_map (calls_of 2) histories) → PlaysAgenda words given histories
plays_asked words given agenda to histories asked gains =
    let calls : List Call = flat_map (calls_of 2) histories in
    let how : Bool = is_repeated words.clock words.repeats in
    let list : List Timed = list_for words.clock given in (
      to,
      subst (λ (n : ℕ). GainsCalls how list n to [] calls) asked.next
          (subst (λ (l : List Timed). GainsCalls how l agenda.table.next to [] calls) asked.list
          (subst (λ (r : Bool). GainsCalls r agenda.table.list.now agenda.table.next to [] calls) asked.repeats gains)),
    )

-- what is counted of a file's board that was served
pub tallies_all : {A B : Type 0} (one : Ghosts A) (two : Ghosts B) (words : ServeWords) (file : BoardFile) (given : Option (List Timed)) (begun : ListedBoard) (agenda : Agenda)
    (lanes : Lanes A B) (course : PeriodState A B) (events changed : ℕ) (changes : List ℕ) → IsListedBoard words.list file begun → IsAsked words given agenda
    → IsFreshLane bus.Ipmb words.turns words.forget lanes.first → IsFreshLane bus.Smbus words.turns words.forget lanes.second
    → RunsTo one two words.periods words.quiet begun.board.setup (state_of begun.board) lanes agenda course → EndsServing words.periods words.quiet course
    → events ≡ course.events → changed ≡ changed_in (state_of course.board).records begun.first.start.items
    → ((listing : Bool) (board : BoardFile) → IsListOf listing board begun.first.list → changes ≡ flat_map ended (listed listing board (state_of course.board).records))
    → TalliesOf words given file events changed changes
tallies_all one two words file given begun agenda lanes course events changed changes begins asked fresh other runs ends counted differ told =
    let opening : State = state_of begun.board in
    let after : State = state_of course.board in
    let list : List Timed = agenda.table.list.now in
    let from : ℕ = agenda.table.next in
    let to : ℕ = course.agenda.table.next in record {
      histories = runs.histories;
      after = after;
      plays = plays_asked words given agenda course.agenda.table.next runs.histories asked runs.plays;
      count = runs.count;
      lead = from_file words.list file begun runs.histories after begins
          (follow_leads one two words.periods words.quiet begun.board.setup agenda.repeats list opening after lanes course.lanes from to runs.histories runs.follow);
      ports = ports_run words runs.histories lanes course events fresh other
          (first_runs one two words.periods words.quiet begun.board.setup agenda.repeats list opening after lanes course.lanes from to runs.histories runs.follow)
          (second_runs one two words.periods words.quiet begun.board.setup agenda.repeats list opening after lanes course.lanes from to runs.histories runs.follow)
          ends counted;
      counted = counted ∙ runs.events;
      differ = differ ∙ ap (changed_in after.records) begins.start;
      told = told words.list file begins.list;
    }

-- likewise what is told of it, where memory for that isn't refused
pub tallies_told : {A B : Type 0} (one : Ghosts A) (two : Ghosts B) (words : ServeWords) (file : BoardFile) (given : Option (List Timed)) (begun : ListedBoard) (agenda : Agenda)
    (lanes : Lanes A B) (course : PeriodState A B) (told : Result ServeAccount ReportFault) → IsListedBoard words.list file begun → IsAsked words given agenda
    → IsFreshLane bus.Ipmb words.turns words.forget lanes.first → IsFreshLane bus.Smbus words.turns words.forget lanes.second
    → RunsTo one two words.periods words.quiet begun.board.setup (state_of begun.board) lanes agenda course → EndsServing words.periods words.quiet course
    → IfOk told (λ account. account.tally.events ≡ course.events)
    → IfOk told (λ account. account.tally.changed ≡ changed_in (state_of course.board).records begun.first.start.items)
    → IfOk told (λ account. (listing : Bool) (board : BoardFile) → IsListOf listing board begun.first.list
    → string_bytes account.changes ≡ flat_map ended (listed listing board (state_of course.board).records))
    → IfOk told (λ account. TalliesOf words given file account.tally.events account.tally.changed (string_bytes account.changes))
tallies_told one two words file given begun agenda lanes course (Ok account) begins asked fresh other runs ends counted differ lines =
    tallies_all one two words file given begun agenda lanes course account.tally.events account.tally.changed (string_bytes account.changes) begins asked fresh other runs ends counted
    differ lines
tallies_told one two words file given begun agenda lanes course (Err why) begins asked fresh other runs ends counted differ lines = tt

-- ---- what is said

-- a reader that answers a value wasn't refused memory
pub was_read : {A E R : Type 0} (a : A) (why : E) → (Ok a ≡ Err why) ⊎ R → R
was_read a why (inl e) = cc e
was_read a why (inr r) = r

-- a board file that has a key which nothing reads is refused by what a strict run says
pub strict_told : (words : ServeWords) (board : List ℕ) (given : Option (List ℕ)) (inputs : ServeInputs) (report : Report) → AreInputs board given (Ok inputs)
    → RefusedIf (is_refused_strictly words board) (Some report) → ReportTells (SaysUnserved words board given) (Ok report)
strict_told words board given inputs report reads (loose, to, ends) =
    subst (λ (s : Stream). SaysUnserved words board given s (string_bytes report.text) report.status) (sym to)
    (inr (inr (inl ((inputs.file, reads.0), (list_in inputs.readings, reads.1), loose, ends))))

-- the report of an end that can't be had is told
pub unopened_told : (words : ServeWords) (why : EndFault) (report : Report) → IsEndOf words why → report.stream ≡ Error → TellsEnd why (string_bytes report.text) → report.status ≡ Stopped
    → ReportTells (SaysUnopened words) (Ok report)
unopened_told words why report is to says ends =
    subst (λ (s : Stream). SaysUnopened words s (string_bytes report.text) report.status) (sym to) (why, is, says, ends)

-- a run that says nothing says which end can't be had, where it says that
pub nothing_unopened : {W E : Type 0} (out : W → Option (List ℕ)) (err : E → Option (List ℕ)) (words : ServeWords) (old new : Console W E) (result : ℕ)
    → RunEnds out err SaysNothing old new result → RunEnds out err (SaysUnopened words) old new result
nothing_unopened out err words old new result ends = run_ends_as out err SaysNothing (SaysUnopened words) old new result (λ stream text status said. absurd said) ends

-- what is said of an end that can't be had is said of texts that can be served
unopened_unserved : (words : ServeWords) (board : List ℕ) (given : Option (List ℕ)) → IsServable words board given → (stream : Stream) (text : List ℕ) (status : Status)
    → SaysUnopened words stream text status → SaysUnserved words board given stream text status
unopened_unserved words board given servable Output text status said = absurd said
unopened_unserved words board given servable Error text status said = inr (inr (inr (servable, said)))

-- and so is nothing, where the serving came to no end
unended_tells : (words : ServeWords) (board : List ℕ) (given : Option (List ℕ)) → IsServable words board given → (why : ReportFault) → ReportTells (SaysUnended words board given) (Err why)
unended_tells words board given servable untold.Memory = tt
unended_tells words board given servable untold.Stopped = (servable, refl, refl)

module _ {W E : Type 0} (out : W → Option (List ℕ)) (err : E → Option (List ℕ)) (gives : Readings) (words : ServeWords) (inputs : ServeInputs)
    (hold : HoldServable gives words inputs) (start old new : Console W E) (same : old ≡ start) (result : ℕ) where
  -- so the texts can be served
  is_servable : IsServable words hold.0 hold.1
  is_servable = ((inputs.file, hold.3.0.0), (list_in inputs.readings, hold.3.0.1), hold.3.1)

  -- the run ends as with these texts
  with_texts : TextEnds out err words hold.0 hold.1 old new result → ServeEnds out err gives words start new result
  with_texts ends = subst (λ (first : Console W E). ServeEnds out err gives words first new result) same (inl (hold.0, hold.1, hold.2, ends))

  -- an end can't be had
  pub ends_unopened : RunEnds out err (SaysUnopened words) old new result → ServeEnds out err gives words start new result
  ends_unopened ends =
      with_texts (inl (run_ends_as out err (SaysUnopened words) (SaysUnserved words hold.0 hold.1) old new result (unopened_unserved words hold.0 hold.1 is_servable) ends))

  -- the ports are told of, and the serving came to no end
  pub ends_unended : (told : Console W E) → TellsPorts out err words old told → (why : ReportFault) → RunEnds out err (SaysReport (Err why)) told new result
      → ServeEnds out err gives words start new result
  ends_unended told tells why ends =
      let says : RunEnds out err (SaysUnended words hold.0 hold.1) told new result =
      run_reports out err (SaysUnended words hold.0 hold.1) (Err why) told new result (unended_tells words hold.0 hold.1 is_servable why) ends in
      with_texts (inr (told, tells, inr says))

  -- the ports are told of, the board is served, and that is told
  ends_served : (told : Console W E) → TellsPorts out err words old told → (events changed : ℕ) (changes : List ℕ)
      → TalliesOf words (list_in inputs.readings) inputs.file events changed changes → TallyEnds out err words events changed changes told new result
      → ServeEnds out err gives words start new result
  ends_served told tells events changed changes tallies ends =
      let serves : ServesBoard words hold.0 hold.1 events changed changes =
      record { file = inputs.file; reads = hold.3.0.0; list = list_in inputs.readings; stands = hold.3.0.1; used = hold.3.1; tallies = tallies } in
      with_texts (inr (told, tells, inl (events, changed, changes, serves, ends)))

  -- they are told of, and what came of the board is told
  pub ends_told : (told : Console W E) → TellsPorts out err words old told → (account : Result ServeAccount ReportFault)
      → IfOk account (λ account. TalliesOf words (list_in inputs.readings) inputs.file account.tally.events account.tally.changed (string_bytes account.changes))
      → IfOk account (λ account. TallyEnds out err words account.tally.events account.tally.changed (string_bytes account.changes) told new result)
      → IfErr account (λ why. RunEnds out err (SaysReport (Err why)) told new result)
      → ServeEnds out err gives words start new result
  ends_told told tells (Ok account) tallies ends unended =
      ends_served told tells account.tally.events account.tally.changed (string_bytes account.changes) tallies ends
  ends_told told tells (Err why) tallies ends unended = ends_unended told tells why unended

-- a report of a served board is told, unless the room can't be
pub account_told : {W E : Type 0} (out : W → Option (List ℕ)) (err : E → Option (List ℕ)) (words : ServeWords) (events changed : ℕ) (changes : List ℕ) (old mid new : Console W E)
    (report : Result Report ReportFault) (result : ℕ)
    → TellsRoom out err words.periods events old mid → ReportTells (SaysTally words.strict events changed changes) report → RunEnds out err (SaysReport report) mid new result
    → TallyEnds out err words events changed changes old new result
account_told out err words events changed changes old mid new report result room tells ends =
    inl (mid, room, run_reports out err (SaysTally words.strict events changed changes) report mid new result tells ends)
