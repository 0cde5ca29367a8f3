use Rattle.std.proofs.Common.{◌<◌, List, Option, ℕ, refl, sym, subst}
use Rattle.bmc_ports.specs.Greeted.{Drives, moment, state}
use Rattle.bmc_ports.proofs.Greeting.{drives_both, fails, fewer_left, sendings_left, sends, stays}
use Rattle.bmc_ports.proofs.greeter.send_now.Goals as goal

pub loop-sent-init : goal.loop-sent-init
loop-sent-init g c busy = stays g.L.Link (moment (state c.args.greeting.now c.args.first busy) c.args.link.now)

pub loop-sent-preserved : goal.loop-sent-preserved
loop-sent-preserved g c busy =
    let way = subst (λ (sent : Option (List ℕ)). Drives g.L.Link 0 (moment (state c.args.greeting.now c.args.first busy) c.args.link.now) (moment (state c.loop-sent.greeting sent busy) c.loop-sent.link))
    c.in-Some.is (c.loop-sent.invariant busy) in
    drives_both g.L.Link 0 0 0 _ _ _ refl way
    (fails g.L.Link c.loop-sent.greeting c.be_quiet-sent.new.greeting c.in-Some.frame c.be_quiet-sent.result _ busy c.loop-sent.link c.send.new.self
    (record { took = c.in-Err.ensures.took; counted = c.in-Err.ensures.counted }) c.be_quiet-sent.ensures)

pub loop-sent-smaller : goal.loop-sent-smaller
loop-sent-smaller g c =
    subst (λ (sent : Option (List ℕ)). sendings_left c.be_quiet-sent.result c.be_quiet-sent.new.greeting < sendings_left sent c.loop-sent.greeting) (sym c.in-Some.is)
    (fewer_left c.loop-sent.greeting c.be_quiet-sent.new.greeting c.in-Some.frame c.be_quiet-sent.result c.be_quiet-sent.ensures)

pub returns-in-Ok : goal.returns-in-Ok
returns-in-Ok g c busy =
    let way = subst (λ (sent : Option (List ℕ)). Drives g.L.Link 0 (moment (state c.args.greeting.now c.args.first busy) c.args.link.now) (moment (state c.loop-sent.greeting sent busy) c.loop-sent.link))
    c.in-Some.is (c.loop-sent.invariant busy) in
    drives_both g.L.Link 0 0 0 _ _ _ refl way
    (sends g.L.Link c.loop-sent.greeting c.in-Some.frame busy c.loop-sent.link c.send.new.self (record { took = c.in-Ok.ensures.took; counted = c.in-Ok.ensures.counted }))

pub returns : goal.returns
returns g c busy =
    subst (λ (sent : Option (List ℕ)). Drives g.L.Link 0 (moment (state c.args.greeting.now c.args.first busy) c.args.link.now) (moment (state c.loop-sent.greeting sent busy) c.loop-sent.link))
    c.in_default.is (c.loop-sent.invariant busy)
