-- What is said of a play, line by line.
use Rattle.std.specs.Prelude.{ℕ, Bool, true, false, List, [], ◌∷◌, ◌++◌, length, map, reverse, Option, Some, None, codes}
use Rattle.std.specs.List.{flat_map, enumerate_from}
use Rattle.std.specs.Fmt.{decimal}
use Rattle.hex.specs.Hex.{encode_upper}
use Rattle.text_lines.specs.Cuts.{ended}
use Rattle.record_base.specs.declared.message.Asked.{Asked}
use Rattle.text_lines.specs.UndoText.{line_of}
use Rattle.two_wire.specs.Buses.{bus_name}
use Rattle.model_undo.specs.PhaseNames.{phase_name}
use Rattle.model_lab.specs.declared.way.Way.{Way}
use Rattle.model_lab.specs.declared.way.Way.TheVariants.{ToPort, ToManager, ToOthers}
use Rattle.lab_run.specs.declared.frames.SentFrame.{SentFrame}
use Rattle.text_lines.specs.RecordsLine.{records_line}
use Rattle.model_lab.specs.FaultNames.{fault_name}
use Rattle.app_play.specs.declared.account.Account.{Account}
use Rattle.lab_play.specs.declared.run.Stopped.{Stopped}

-- a word, and what stands behind it after a space
abbrev pub said : List ℕ → List ℕ → List ℕ
said word rest = word ++ codes " " ++ rest

-- ---- the lines

-- the requests that undo the plan, how many and each, that of the last step first
abbrev pub undo_lines : List Asked → List (List ℕ)
undo_lines requests = said (codes "undo") (decimal (length requests)) ∷ map line_of (reverse requests)

-- the end that sends what goes this way: the manager, or the controller
abbrev pub end_name : Way → List ℕ
end_name ToPort = codes "mgr"
end_name ToManager = codes "bmc"
end_name ToOthers = codes "bmc"

-- a frame: its number, who sent it, its bus, and its bytes in upper-case hexadecimal
abbrev pub frame_line : ℕ → SentFrame → List ℕ
frame_line number frame = said (codes "frame") (said (decimal number) (said (end_name frame.way) (said (bus_name frame.mark.on) (encode_upper frame.bytes))))

-- the frames, which count from 0
abbrev pub frame_lines : List SentFrame → List (List ℕ)
frame_lines frames = map (λ f. frame_line f.0 f.1) (enumerate_from 0 frames)

-- the event that wasn't taken: its place and its fault
abbrev pub stopped_line : Stopped → List ℕ
stopped_line stopped = said (codes "fault") (said (decimal stopped.place) (fault_name stopped.fault))

-- ---- the text

-- the frames, where they are asked for
abbrev pub shown : Bool → List SentFrame → List (List ℕ)
shown true frames = frame_lines frames
shown false frames = []

-- the event that wasn't taken, where there is one
abbrev pub ending : Option Stopped → List (List ℕ)
ending (Some stopped) = stopped_line stopped ∷ []
ending None = []

-- which event broke the premise on packets first, or that each kept it; of a play that an event's fault ended it isn't said that each did
abbrev pub premise_lines : Option ℕ → Option Stopped → List (List ℕ)
premise_lines (Some place) stopped = said (codes "premise broken") (decimal place) ∷ []
premise_lines None None = codes "premises kept" ∷ []
premise_lines None (Some stopped) = []

-- that, where it is asked for
abbrev pub premised : Bool → Option ℕ → Option Stopped → List (List ℕ)
premised true broken stopped = premise_lines broken stopped
premised false broken stopped = []

-- the lines before the frames: the phase, how many frames there are, the requests, the records
abbrev pub start_lines : Account → List (List ℕ)
start_lines told =
    said (codes "phase") (phase_name told.phase)
    ∷ said (codes "frames") (decimal (length told.frames.now))
    ∷ (undo_lines told.undo.now.members ++ records_line told.changed ∷ [])

-- the lines: the phase, how many frames there are, the requests, the records, the frames, the premise, and the event that wasn't taken
abbrev pub lines_of : (frames premises : Bool) → Account → List (List ℕ)
lines_of frames premises told =
    said (codes "phase") (phase_name told.phase)
    ∷ said (codes "frames") (decimal (length told.frames.now))
    ∷ (undo_lines told.undo.now.members ++ records_line told.changed ∷ (shown frames told.frames.now ++ (premised premises told.broken told.stopped ++ ending told.stopped)))

-- the text: the lines, each of which a line feed ends
abbrev pub text_of : (frames premises : Bool) → Account → List ℕ
text_of frames premises told = flat_map ended (lines_of frames premises told)
