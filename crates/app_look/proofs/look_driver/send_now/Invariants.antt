use Rattle.app_look.specs.Driven.{Drives, IsGivenOn, IsOn, moment, state}
use Rattle.app_look.proofs.Looking.{sendings_left}
use Rattle.app_look.proofs.look_driver.send_now.Given as goal

abbrev pub invariant-loop-sent : goal.invariant-loop-sent
invariant-loop-sent g l =
    Drives g.L.Link l.fn.bus 0 (moment (state l.initial.looker l.fn.first) l.initial.link) (moment (state l.looker l.sent) l.link)
    × IsOn l.fn.bus l.looker.stage × IsGivenOn l.fn.bus l.looker.stage l.sent

abbrev pub decreases-loop-sent : goal.decreases-loop-sent
decreases-loop-sent g l = sendings_left l.sent l.looker
