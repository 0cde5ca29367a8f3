use Rattle.std.proofs.Common.{string_bytes}
use Rattle.app_play.specs.Files.{words_of}
use Rattle.app_play.proofs.Strictly.{asked_of_files, unread_of_files}
use Rattle.app_bmclab.proofs.explained.explained_play_of_files.Goals as goal

pub returns-in-Err : goal.returns-in-Err
returns-in-Err g c =
    unread_of_files g.W.Write.contents g.E.Write.contents (g.F.TextFiles.gives c.args.files.now) c.args.options c.args.shown c.args.places.now (words_of c.args.words)
    c.in-Err.unread.word.now c.in-Err.unread.why c.args.console.now c.refuse.new.console c.refuse.result c.in-Err.ensures.unread c.refuse.ensures

pub returns : goal.returns
returns g c =
    asked_of_files g.W.Write.contents g.E.Write.contents (g.F.TextFiles.gives c.args.files.now) c.args.options c.args.shown c.args.places.now (words_of c.args.words)
    (string_bytes c.in-Ok.read.board) (string_bytes c.in-Ok.read.plan) (string_bytes c.in-Ok.read.schedule)
    c.named-texts.result.board.text.now c.named-texts.result.plan.text.now c.named-texts.result.schedule.now
    c.args.console.now c.show_asked-status.new.console c.show_asked-status.result
    c.named-texts.ensures.board c.named-texts.ensures.plan c.named-texts.ensures.schedule c.in-Ok.ensures.texts c.show_asked-status.ensures
