use Rattle.std.proofs.Common.{◌∙◌, inr, Some, ap, subst, sym}
use Rattle.std.specs.Option.{option_copied}
use Rattle.app_base.specs.Ending.{RunEnds}
use Rattle.app_base.specs.EndingLaws.{run_ends_as}
use Rattle.app_base.specs.Files.{PrintsRefusal}
use Rattle.app_base.specs.Report.{file_line}
use Rattle.bmc_lab.specs.AskFiles.{SaysOfAsk}
use Rattle.bmc_lab.proofs.ask_files.answer_of_file.Goals as goal

pub returns-in-Err : goal.returns-in-Err
returns-in-Err g c =
    subst (λ board. RunEnds g.W.Write.contents g.E.Write.contents (SaysOfAsk (g.F.TextFiles.gives c.args.files.now) (option_copied board) c.args.asked.now) c.args.console.now c.refuse.new.console c.refuse.result)
    (sym c.in-Some.is)
    (run_ends_as g.W.Write.contents g.E.Write.contents (PrintsRefusal c.in-Err.unread.why c.in-Err.unread.word.now)
    (SaysOfAsk (g.F.TextFiles.gives c.args.files.now) (Some c.in-Some.word.now) c.args.asked.now)
    c.args.console.now c.refuse.new.console c.refuse.result
    (λ stream text status said. inr (c.in-Err.unread.why, c.in-Err.ensures.unread, (said.0, said.1, said.2 ∙ ap file_line c.in-Err.ensures.word, said.3)))
    c.refuse.ensures)
