-- One request to a fresh controller, and one frame with what it says.
use Rattle.std.specs.Prelude.{◌≡◌, ◌⊎◌, ℕ, List, [], ◌++◌, Option, codes}
use Rattle.std.specs.List.{flat_map}
use Rattle.two_wire.specs.declared.Bus.{Bus}
use Rattle.record_base.specs.declared.message.Asked.{Asked}
use Rattle.cfg_records.specs.declared.board_file.BoardFile.{BoardFile}
use Rattle.bmc_core.specs.declared.out.Out.{Out}
use Rattle.bmc_core.specs.Outs.{sent}
use Rattle.bmc_core.specs.Wires.{bus_of}
use Rattle.text_board.specs.declared.fault.FileFault.{FileFault}
use Rattle.app_base.specs.declared.console.Stream.{Stream}
use Rattle.app_base.specs.declared.console.Stream.TheVariants.{Output, Error}
use Rattle.app_base.specs.declared.status.Status.{Status}
use Rattle.app_base.specs.declared.status.Status.TheVariants.{RefusedFile}
use Rattle.app_base.specs.Report.{board_line}
use Rattle.bmc_lab.specs.Report.{done_line, status_of}
use Rattle.bmc_lab.specs.Run.{IsBoardOf, IsFaultOf, FramePrints}
use Rattle.bmc_lab.specs.Frames.{AreFramesOf}
use Rattle.bmc_lab.specs.Heard.{HeardByFresh}
use Rattle.bmc_lab.specs.Reply.{IsReplyIn, bytes_line, reply_lines}

-- what is told of the reply that frames carry: its code and data, or nothing where they carry none
abbrev pub TellsReply : Bus → (frames : List (List ℕ)) → List ℕ → Type 0
TellsReply bus frames lines =
    ((code : ℕ) × (body : List ℕ) × IsReplyIn bus frames code body × (lines ≡ reply_lines bus code body))
    ⊎ (((code : ℕ) (body : List ℕ) → ¬ IsReplyIn bus frames code body) × (lines ≡ []))

-- the lines of the frames that were sent, of those that came back, and why none did
abbrev pub exchange_lines : (frames : List (List ℕ)) → Out → List ℕ
exchange_lines frames out = flat_map (bytes_line (codes "sent")) frames ++ flat_map (bytes_line (codes "came")) (sent out) ++ done_line out.done

-- what is said of a request: its frames, what a fresh controller with the board does with them where it hears them in turn, and the reply's code and data
pub record AskPrints (board : Option (List ℕ)) (asked : Asked) (text : List ℕ) (status : Status) : Type 0 where
  pub file : BoardFile
  pub opens : IsBoardOf board file
  pub frames : List (List ℕ)
  pub framed : AreFramesOf asked frames
  pub out : Out
  pub heard : HeardByFresh file (bus_of asked) frames out
  pub told : List ℕ
  pub tells : TellsReply (bus_of asked) (sent out) told
  pub said : text ≡ exchange_lines frames out ++ told
  pub ended : status ≡ status_of (sent out)

-- why the file holds no board, on standard error
abbrev pub SaysFault : Option (List ℕ) → List ℕ → Status → Type 0
SaysFault board text status = (why : FileFault) × IsFaultOf board why × (text ≡ board_line why) × (status ≡ RefusedFile)

-- what a run says of a request, and where
abbrev pub PrintsAsk : Option (List ℕ) → Asked → Stream → List ℕ → Status → Type 0
PrintsAsk board asked Output text status = AskPrints board asked text status
PrintsAsk board asked Error text status = SaysFault board text status

-- these lines stand in the text, behind others and before others
abbrev pub HasLines : (lines text : List ℕ) → Type 0
HasLines lines text = (before : List ℕ) × (behind : List ℕ) × (text ≡ before ++ lines ++ behind)

-- what is said of the bytes: what a run says of the frame, and lines before and behind that say what frames say
abbrev pub ExplainPrints : Option (List ℕ) → Bus → (bytes text : List ℕ) → Status → Type 0
ExplainPrints board bus bytes text status = (plain : List ℕ) × FramePrints board bus bytes plain status × HasLines plain text

-- and where
abbrev pub PrintsExplained : Option (List ℕ) → Bus → List ℕ → Stream → List ℕ → Status → Type 0
PrintsExplained board bus bytes Output text status = ExplainPrints board bus bytes text status
PrintsExplained board bus bytes Error text status = SaysFault board text status
