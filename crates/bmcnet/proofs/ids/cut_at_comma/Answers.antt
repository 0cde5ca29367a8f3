use Rattle.std.proofs.Common.{arith}
use Rattle.text_lines.proofs.Cuts.{cuts}
use Rattle.bmcnet.proofs.ids.cut_at_comma.Goals as goal

pub returns-clause-some : goal.returns-clause-some
returns-clause-some c = (cuts 44 c.args.word.now c.split_once.result c.split_once.ensures.cases (omega arith)).0

pub returns-clause-none : goal.returns-clause-none
returns-clause-none c = (cuts 44 c.args.word.now c.split_once.result c.split_once.ensures.cases (omega arith)).1
