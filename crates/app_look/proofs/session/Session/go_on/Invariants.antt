use Rattle.app_look.specs.Looking.{CallsAgain}
use Rattle.app_look.proofs.session.Session.go_on.Given as goal

abbrev pub invariant-loop : goal.invariant-loop
invariant-loop l = CallsAgain l.counter l.fn.first l.fn.self l.end l.self
