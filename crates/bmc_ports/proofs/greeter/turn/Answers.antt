use Rattle.std.proofs.Common.{None, refl, sym, subst}
use Rattle.two_wire.specs.declared.Bus.{Bus}
use Rattle.bmc_ports.specs.Greeted.{Hears, moment, state}
use Rattle.bmc_ports.proofs.Greeting.{drives_both, hears_once}
use Rattle.bmc_ports.proofs.greeter.turn.Goals as goal

pub returns : goal.returns
returns g c heeded on =
    let heard = c.hear-sent.ensures in
    let before = state c.args.greeting.now None c.args.busy in
    let after = state c.hear-sent.new.greeting c.hear-sent.result.sent c.hear-sent.result.busy in
    drives_both g.L.Link 1 0 1 (moment before c.args.link.now) (moment after c.hear-sent.new.link) (moment (state c.send_now.new.greeting None c.hear-sent.result.busy) c.send_now.new.link) refl
    (hears_once g.L.Link c.args.greeting.now c.hear-sent.new.greeting c.hear-sent.result.sent c.args.busy c.hear-sent.result.busy heard.0 c.args.link.now c.hear-sent.new.link heeded heard.1
    (subst (λ (b : Bus). Hears b heard.0 before after) (sym on) heard.2)) (c.send_now.ensures c.hear-sent.result.busy)
