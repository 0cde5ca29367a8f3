-- What a run says of a request, and of a frame that it explains.
use Rattle.std.proofs.Common.{◌≡◌, ◌∙◌, ◌++◌, [], ℕ, List, Option, Result, Ok, Err, IfOk, string_bytes, refl, ap, subst}
use Rattle.two_wire.specs.declared.Bus.{Bus}
use Rattle.record_base.specs.declared.message.Asked.{Asked}
use Rattle.cfg_records.specs.declared.board_file.BoardFile.{BoardFile}
use Rattle.bmc_board.specs.State.{State, opened}
use Rattle.bmc_core.specs.declared.out.Out.{Out}
use Rattle.bmc_core.specs.declared.port.Port.{Port}
use Rattle.bmc_core.specs.Outs.{sent}
use Rattle.bmc_core.specs.Port.{PortStep}
use Rattle.bmc_core.specs.Wires.{bus_of}
use Rattle.app_base.specs.declared.report.Report.{Report}
use Rattle.app_base.specs.declared.status.Status.{Status}
use Rattle.bmc_lab.specs.Report.{status_of, text_of}
use Rattle.bmc_lab.specs.Run.{IsBoardOf, IsFreshPort}
use Rattle.bmc_lab.specs.Frames.{AreFramesOf}
use Rattle.bmc_lab.specs.Heard.{HeardByFresh}
use Rattle.bmc_lab.specs.AskRun.{AskPrints, ExplainPrints, HasLines, TellsReply, exchange_lines}

pub ask_prints : (board : Option (List ℕ)) (file : BoardFile) (asked : Asked) (bus : Bus) (items shown read came : List (List ℕ)) (out : Out) (start mid text lines : List ℕ) (status : Status)
    → IsBoardOf board file → bus ≡ bus_of asked → AreFramesOf asked items → shown ≡ items → HeardByFresh file bus shown out → read ≡ items → start ≡ []
    → mid ≡ start ++ exchange_lines read out → came ≡ sent out → TellsReply bus came lines → text ≡ mid ++ lines → status ≡ status_of (sent out) → AskPrints board asked text status
ask_prints board file asked bus items shown read came out start mid text lines status opens on are one hears other begins first given tells last ends = record {
  file = file;
  opens = opens;
  frames = items;
  framed = are;
  out = out;
  heard = subst (λ (b : Bus). HeardByFresh file b items out) on (subst (λ (fs : List (List ℕ)). HeardByFresh file bus fs out) one hears);
  told = lines;
  tells = subst (λ (b : Bus). TellsReply b (sent out) lines) on (subst (λ (fs : List (List ℕ)). TellsReply bus fs lines) given tells);
  said = last ∙ ap (λ (l : List ℕ). l ++ lines) (first ∙ ap (λ (l : List ℕ). l ++ exchange_lines read out) begins ∙ ap (λ (fs : List (List ℕ)). exchange_lines fs out) other);
  ended = ends;
}

pub explain_prints : {E : Type 0} (r : Result Report E) (board : Option (List ℕ)) (bus : Bus) (bytes : List ℕ) (file : BoardFile) (port : Port) (out : Out) (next : Port) (after : State)
    → IsBoardOf board file → IsFreshPort bus port → PortStep file port (opened file) bytes out next after → IfOk r (λ report. HasLines (text_of out) (string_bytes report.text))
    → IfOk r (λ report. report.status ≡ status_of (sent out)) → IfOk r (λ report. ExplainPrints board bus bytes (string_bytes report.text) report.status)
explain_prints (Ok report) board bus bytes file port out next after is_board is_new is_heard lines is_ended = (
  text_of out,
  record { file = file; opens = is_board; port = port; fresh = is_new; out = out; next = next; after = after; heard = is_heard; said = refl; ended = is_ended },
  lines,
)
explain_prints (Err e) board bus bytes file port out next after is_board is_new is_heard lines is_ended = tt
