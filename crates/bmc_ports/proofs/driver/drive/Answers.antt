use Rattle.std.proofs.Common.{refl}
use Rattle.bmc_ports.specs.Conversation.{frames_given, links}
use Rattle.bmc_ports.specs.Observing.{permit_for}
use Rattle.bmc_ports.proofs.Conversing.{heard_and_sent}
use Rattle.bmc_ports.proofs.Observers.{never_refused}
use Rattle.bmc_ports.proofs.driver.drive.Goals as goal

pub unreachable-requires : goal.unreachable-requires
unreachable-requires g c =
    let seen = c.in-Err.ensures.observed in
    never_refused _ (λ old m allowed new saw. saw.0) seen.looks _ c.drive_observed.new.observer seen.seen (seen.refused refl)

pub returns-clause-over : goal.returns-clause-over
returns-clause-over g c names s shows =
    let seen = c.in-Ok.ensures.observed in
    heard_and_sent g.A.Link g.B.Link names (permit_for (frames_given c.args.first)) s c.args.first seen.looks c.drive_observed.new.manager (links c.args.ipmb.now c.args.smbus.now)
    (links c.drive_observed.new.ipmb c.drive_observed.new.smbus) (seen.course names s shows)
