use Rattle.std.proofs.Common.{Option, subst}
use Rattle.undo_look.specs.declared.looker.Seen.{Seen}
use Rattle.undo_look.specs.Looks.{IsSeen}
use Rattle.app_look.proofs.Findings.{finds_none}
use Rattle.app_look.proofs.records.look_once.Goals as goal

pub returns-in_default-clause-found : goal.returns-in_default-clause-found
returns-in_default-clause-found c =
    let left = c.look.new.self in
    finds_none c.args.key.now c.args.session.now c.look.result left c.look.ensures
    (subst (λ (told : Option Seen). IsSeen left.looker.stage left.looker.shown told) c.in_default.is c.seen.ensures)
