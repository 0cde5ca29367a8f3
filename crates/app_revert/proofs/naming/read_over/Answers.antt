use Rattle.std.proofs.Common.{subst}
use Rattle.app_look.specs.declared.session.Session.{Session}
use Rattle.app_look.specs.Reading.{KnowsNames}
use Rattle.app_revert.specs.Names.{keys_of}
use Rattle.app_revert.proofs.naming.read_over.Goals as goal

pub returns : goal.returns
returns c = (
  c.read_named.new.session,
  subst (λ (session : Session). KnowsNames (keys_of c.args.looked.now) session c.read_named.new.session c.read_named.result) c.over-session.ensures
      (c.read_named.ensures.tables, c.read_named.ensures.names),
)
