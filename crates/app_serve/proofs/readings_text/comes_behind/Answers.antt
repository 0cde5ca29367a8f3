use Rattle.std.proofs.Common.{sym}
use Rattle.app_serve.proofs.ReadingsLists.{comes_behind}
use Rattle.app_serve.proofs.readings_text.comes_behind.Goals as goal

pub returns-in-Some : goal.returns-in-Some
returns-in-Some c = comes_behind c.args.list.now c.in-Some.last.now c.args.next.now (sym c.in-Some.ensures.value) c.requires
