use Rattle.std.proofs.Common.{string_bytes}
use Rattle.app_serve.proofs.Serving.{account_told}
use Rattle.app_serve.proofs.run.tell_account.Goals as goal

pub returns-in-Ok : goal.returns-in-Ok
returns-in-Ok g c =
    account_told g.W.Write.contents g.E.Write.contents c.args.words.now c.args.account.now.tally.events c.args.account.now.tally.changed
    (string_bytes c.args.account.now.changes) c.args.console.now c.tell_room.new.console c.finish.new.console c.account_report.result c.finish.result c.in-Ok.ensures.told
    c.account_report.ensures c.finish.ensures
