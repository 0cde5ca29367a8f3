-- What a run writes, where, and the status that it ends with.
use Rattle.std.specs.Prelude.{◌≡◌, ◌⊎◌, ℕ, List, [], Option, Result, Ok, Err, codes, string_bytes}
use Rattle.std.specs.Io.KnownBytes.{Appends, Keeps}
use Rattle.app_base.specs.declared.console.Console.{Console}
use Rattle.app_base.specs.declared.console.Stream.{Stream}
use Rattle.app_base.specs.declared.console.Stream.TheVariants.{Error}
use Rattle.app_base.specs.declared.report.Report.{Report}
use Rattle.app_base.specs.declared.status.Status.{Status}
use Rattle.app_base.specs.declared.status.Status.TheVariants.{Memory, Stopped, Output}
use Rattle.app_base.specs.declared.ending.ReportFault.{ReportFault}
use Rattle.app_base.specs.declared.ending.ReportFault.TheVariants as untold
use Rattle.app_base.specs.Console.{HasFailed, IsWrittenTo}
use Rattle.app_base.specs.Report.{byte_of}

-- what standard error says of a run that ends so without a report
abbrev pub complaint_of : Status → List ℕ
complaint_of Memory = codes "memory\n"
complaint_of _ = []

-- a report goes to its stream and gives its status; without memory for one, standard error says so
abbrev pub ReportEnds : {Failure : Type 0} → Result Report Failure → Stream → List ℕ → Status → Type 0
ReportEnds (Ok report) stream text status = (stream ≡ report.stream) × (text ≡ string_bytes report.text) × (status ≡ report.status)
ReportEnds (Err failure) stream text status = (stream ≡ Error) × (text ≡ codes "memory\n") × (status ≡ Memory)

-- what a run may say: where, in which text, and with which status
abbrev pub Saying : Type 1
Saying = Stream → List ℕ → Status → Type 0

-- How a run of this console ends that has something to say, and with which status: `Output` where a write failed, `Memory` where memory was refused,
-- which standard error says, or that of what it says, once that is written.
abbrev pub RunEnds : {Stdout Stderr : Type 0} → (out : Stdout → Option (List ℕ)) → (err : Stderr → Option (List ℕ)) → Saying → (old new : Console Stdout Stderr) → ℕ → Type 0
RunEnds out err says old new result =
    ((result ≡ byte_of Output) × HasFailed new)
    ⊎ (((result ≡ byte_of Memory) × Appends (err old.err) (err new.err) (codes "memory\n") × Keeps (out old.out) (out new.out))
    ⊎ ((stream : Stream) × (text : List ℕ) × (status : Status) × says stream text status × (result ≡ byte_of status)
    × IsWrittenTo stream text (out old.out) (out new.out) (err old.err) (err new.err)))

-- ---- a run that has a report, or none

-- the status of a run that says nothing of what it did
abbrev pub untold_status : ReportFault → Status
untold_status untold.Memory = Memory
untold_status untold.Stopped = Stopped

-- what a run says by its report. Where it came to no end it says nothing, and where memory was refused the report doesn't matter
abbrev pub SaysReport : Result Report ReportFault → Saying
SaysReport (Ok report) stream text status = (stream ≡ report.stream) × (text ≡ string_bytes report.text) × (status ≡ report.status)
SaysReport (Err untold.Memory) stream text status = ⊥
SaysReport (Err untold.Stopped) stream text status = (stream ≡ Error) × (text ≡ []) × (status ≡ Stopped)

-- what a run says by its report may be said so
abbrev pub ReportTells : Saying → Result Report ReportFault → Type 0
ReportTells says (Ok report) = says report.stream (string_bytes report.text) report.status
ReportTells says (Err untold.Memory) = Unit {0}
ReportTells says (Err untold.Stopped) = says Error [] Stopped
