use Rattle.std.proofs.Common.{string_bytes}
use Rattle.app_bmclab.proofs.OnBoard.{told_next}
use Rattle.app_bmclab.proofs.against.told_each.Goals as goal

pub loop-word-preserved : goal.loop-word-preserved
loop-word-preserved g c =
    told_next (g.F.TextFiles.gives c.args.files.now) c.args.board.now c.args.words.now c.loop-word.word-index c.word-item.result c.as_str.result.now
    c.loop-word.account.outcomes.items c.push.new.self.outcomes.items c.in_ok-told.told.outcome
    (string_bytes c.loop-word.account.text) (string_bytes c.push.new.self.text) (string_bytes c.in_ok-told.told.text)
    c.loop-word-test.true c.word-item.is c.as_str.ensures.value c.loop-word.invariant c.in_ok-told.ensures.told c.in-Ok.ensures.outcomes c.in-Ok.ensures.text
