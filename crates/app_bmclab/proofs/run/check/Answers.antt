use Rattle.std.proofs.Common.{ℕ, List, map, string_bytes, subst, sym}
use Rattle.app_base.specs.Ending.{RunEnds}
use Rattle.app_bmclab.specs.declared.check_words.CheckWay.{CheckWay}
use Rattle.app_bmclab.specs.Against.{SaysOfAgainst}
use Rattle.app_bmclab.specs.Checks.{SaysOfChecks}
use Rattle.app_bmclab.specs.Run.{SaysOfCheckedBy}
use Rattle.app_bmclab.proofs.run.check.Goals as goal

pub returns-in-Alone : goal.returns-in-Alone
returns-in-Alone g c =
    let gives = g.F.TextFiles.gives c.args.files.now in
    subst (λ (way : CheckWay). RunEnds g.W.Write.contents g.E.Write.contents (SaysOfCheckedBy gives way (map string_bytes c.args.words.now.files.items)) c.args.console.now c.check_files.new.console c.check_files.result)
    (sym c.in-Alone.is)
    (subst (λ words. RunEnds g.W.Write.contents g.E.Write.contents (SaysOfChecks gives c.in-Alone.form (map string_bytes words)) c.args.console.now c.check_files.new.console c.check_files.result)
    c.as_slice-named.ensures.value
    c.check_files.ensures)

pub returns-in-Against : goal.returns-in-Against
returns-in-Against g c =
    let gives = g.F.TextFiles.gives c.args.files.now in
    subst (λ (way : CheckWay). RunEnds g.W.Write.contents g.E.Write.contents (SaysOfCheckedBy gives way (map string_bytes c.args.words.now.files.items)) c.args.console.now c.check_against.new.console c.check_against.result)
    (sym c.in-Against.is)
    (subst (λ words. RunEnds g.W.Write.contents g.E.Write.contents (SaysOfAgainst gives (string_bytes c.in-Against.board) (map string_bytes words)) c.args.console.now c.check_against.new.console c.check_against.result)
    c.as_slice-named.ensures.value
    (subst (λ (board : List ℕ). RunEnds g.W.Write.contents g.E.Write.contents (SaysOfAgainst gives board (map string_bytes c.as_slice-named.result.now)) c.args.console.now c.check_against.new.console c.check_against.result)
    c.as_str.ensures.value
    c.check_against.ensures))
