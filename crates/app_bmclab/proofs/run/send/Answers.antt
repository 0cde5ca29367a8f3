use Rattle.std.proofs.Common.{ℕ, List, Bool, Option, option_map, string_bytes, sym, subst}
use Rattle.std.specs.Option.{option_copied}
use Rattle.app_base.specs.Ending.{RunEnds}
use Rattle.bmc_lab.specs.Files.{SaysOfFile}
use Rattle.bmc_lab.specs.AskFiles.{SaysOfExplained}
use Rattle.app_bmclab.specs.Run.{SaysOfFrame}
use Rattle.app_bmclab.proofs.run.send.Goals as goal

pub returns-then-words : goal.returns-then-words
returns-then-words g c =
    let gives = g.F.TextFiles.gives c.args.files.now in
    let words = c.args.words.now in
    subst (λ (explain : Bool). RunEnds g.W.Write.contents g.E.Write.contents (SaysOfFrame gives explain (option_map string_bytes words.board) words.frame.bus words.frame.bytes.items) c.args.console.now c.explained_of_file.new.console c.explained_of_file.result)
    (sym c.if-words.true)
    (subst (λ (board : Option (List ℕ)). RunEnds g.W.Write.contents g.E.Write.contents (SaysOfExplained gives board words.frame.bus words.frame.bytes.items) c.args.console.now c.explained_of_file.new.console c.explained_of_file.result)
    c.as_deref-board.ensures.value
    (subst (λ (bytes : List ℕ). RunEnds g.W.Write.contents g.E.Write.contents (SaysOfExplained gives (option_copied c.as_deref-board.result) words.frame.bus bytes) c.args.console.now c.explained_of_file.new.console c.explained_of_file.result)
    c.as_slice-bytes.ensures.value
    c.explained_of_file.ensures))

pub returns : goal.returns
returns g c =
    let gives = g.F.TextFiles.gives c.args.files.now in
    let words = c.args.words.now in
    subst (λ (explain : Bool). RunEnds g.W.Write.contents g.E.Write.contents (SaysOfFrame gives explain (option_map string_bytes words.board) words.frame.bus words.frame.bytes.items) c.args.console.now c.frame_of_file.new.console c.frame_of_file.result)
    (sym c.if-words.false)
    (subst (λ (board : Option (List ℕ)). RunEnds g.W.Write.contents g.E.Write.contents (SaysOfFile gives board words.frame.bus words.frame.bytes.items) c.args.console.now c.frame_of_file.new.console c.frame_of_file.result)
    c.as_deref-board.ensures.value
    (subst (λ (bytes : List ℕ). RunEnds g.W.Write.contents g.E.Write.contents (SaysOfFile gives (option_copied c.as_deref-board.result) words.frame.bus bytes) c.args.console.now c.frame_of_file.new.console c.frame_of_file.result)
    c.as_slice-bytes.ensures.value
    c.frame_of_file.ensures))
