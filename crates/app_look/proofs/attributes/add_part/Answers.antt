use Rattle.std.proofs.Common.{rules}
use Rattle.app_look.proofs.Asks.{asks_one}
use Rattle.app_look.proofs.attributes.add_part.Goals as goal

pub returns-in_err-extend_from_slice-in-Some-Shown-clause-tables : goal.returns-in_err-extend_from_slice-in-Some-Shown-clause-tables
returns-in_err-extend_from_slice-in-Some-Shown-clause-tables c = asks_one c.args.part.now c.args.session.now c.ask.new.self (c.ask.result, c.ask.ensures)

pub returns-in_ok-extend_from_slice-in-Some-Shown-clause-tables : goal.returns-in_ok-extend_from_slice-in-Some-Shown-clause-tables
returns-in_ok-extend_from_slice-in-Some-Shown-clause-tables c = asks_one c.args.part.now c.args.session.now c.ask.new.self (c.ask.result, c.ask.ensures)

pub returns-in_ok-extend_from_slice-in-Some-Shown-clause-added : goal.returns-in_ok-extend_from_slice-in-Some-Shown-clause-added
returns-in_ok-extend_from_slice-in-Some-Shown-clause-added c = record { asks = (c.ask.result, c.ask.ensures); adds = search rules }

pub returns-in-Some-Refused-clause-tables : goal.returns-in-Some-Refused-clause-tables
returns-in-Some-Refused-clause-tables c = asks_one c.args.part.now c.args.session.now c.ask.new.self (c.ask.result, c.ask.ensures)

pub returns-in-Some-Refused-clause-added : goal.returns-in-Some-Refused-clause-added
returns-in-Some-Refused-clause-added c = record { asks = (c.ask.result, c.ask.ensures); adds = search rules }

pub returns-in-Some-Refused-2-clause-tables : goal.returns-in-Some-Refused-2-clause-tables
returns-in-Some-Refused-2-clause-tables c = asks_one c.args.part.now c.args.session.now c.ask.new.self (c.ask.result, c.ask.ensures)

pub returns-in-Some-Refused-2-clause-added : goal.returns-in-Some-Refused-2-clause-added
returns-in-Some-Refused-2-clause-added c = record { asks = (c.ask.result, c.ask.ensures); adds = search rules }
