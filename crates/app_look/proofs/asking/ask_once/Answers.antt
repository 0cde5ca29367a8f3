use Rattle.std.proofs.Common.{Option, sym, subst}
use Rattle.undo_look.specs.declared.looker.Seen.{Seen}
use Rattle.app_look.specs.declared.asking.Told.TheVariants.{Silent}
use Rattle.app_look.specs.Asking.{TellsSeen}
use Rattle.app_look.proofs.Asks.{asks_one}
use Rattle.app_look.proofs.asking.ask_once.Goals as goal

pub returns-in-Some-clause-tables : goal.returns-in-Some-clause-tables
returns-in-Some-clause-tables c = asks_one c.args.part.now c.args.session.now c.ask.new.self (c.ask.result, c.ask.ensures)

pub returns-in-Some-clause-told : goal.returns-in-Some-clause-told
returns-in-Some-clause-told c =
    let seen = subst (λ (came : Option Seen). TellsSeen came c.told_of.result) (sym c.in-Some.is) c.told_of.ensures in
    record { asks = (c.ask.result, c.ask.ensures); tells = (c.seen.result, c.seen.ensures, seen) }

pub returns-in-None-clause-tables : goal.returns-in-None-clause-tables
returns-in-None-clause-tables c = asks_one c.args.part.now c.args.session.now c.ask.new.self (c.ask.result, c.ask.ensures)

pub returns-in-None-clause-told : goal.returns-in-None-clause-told
returns-in-None-clause-told c =
    let seen = subst (λ (came : Option Seen). TellsSeen came Silent) (sym c.in-None.is) tt in
    record { asks = (c.ask.result, c.ask.ensures); tells = (c.seen.result, c.seen.ensures, seen) }
