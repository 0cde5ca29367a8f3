use Rattle.std.proofs.Common.{inr}
use Rattle.app_base.specs.EndingLaws.{run_ends_as}
use Rattle.app_base.specs.Files.{PrintsRefusal}
use Rattle.app_pair.specs.PairRun.{PrintsPairOfFiles, words_of}
use Rattle.app_pair.proofs.pairing.pair.Goals as goal

pub returns-in-Err : goal.returns-in-Err
returns-in-Err g c =
    run_ends_as g.W.Write.contents g.E.Write.contents (PrintsRefusal c.in-Err.unread.why c.in-Err.unread.word.now)
    (PrintsPairOfFiles (g.F.TextFiles.gives c.args.files.now) (words_of c.args.words.now) c.args.words.now.options) c.args.console.now c.refuse.new.console c.refuse.result
    (λ stream text status said. inr (c.in-Err.unread.word.now, c.in-Err.unread.why, c.in-Err.ensures.unread, said)) c.refuse.ensures
