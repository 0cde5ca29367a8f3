use Rattle.std.proofs.Common.{None}
use Rattle.app_look.specs.Driven.{Drives, IsOn, moment, state}
use Rattle.app_look.proofs.look_driver.make_turns.Given as goal

abbrev pub invariant-loop : goal.invariant-loop
invariant-loop g l =
    Drives g.L.Link l.fn.bus l.counter (moment (state l.initial.looker None) l.initial.link) (moment (state l.looker None) l.link) × IsOn l.fn.bus l.looker.stage
