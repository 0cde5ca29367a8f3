use Rattle.std.proofs.Common.{None, refl}
use Rattle.app_look.specs.Driven.{moment, state}
use Rattle.app_look.proofs.Looking.{awaits_on, drives_both, hears_on, hears_once}
use Rattle.app_look.proofs.look_driver.turn.Goals as goal

pub send_now-requires-clause-on : goal.send_now-requires-clause-on
send_now-requires-clause-on g c =
    (hears_on c.args.bus c.args.looker.now c.hear-sent.new.looker c.hear-sent.result c.hear-sent.ensures.0 c.args.looker.now.gets
    (awaits_on c.args.bus c.args.looker.now.stage c.requires) c.hear-sent.ensures.2).0

pub send_now-requires-clause-given : goal.send_now-requires-clause-given
send_now-requires-clause-given g c =
    (hears_on c.args.bus c.args.looker.now c.hear-sent.new.looker c.hear-sent.result c.hear-sent.ensures.0 c.args.looker.now.gets
    (awaits_on c.args.bus c.args.looker.now.stage c.requires) c.hear-sent.ensures.2).1

pub returns-clause-drives : goal.returns-clause-drives
returns-clause-drives g c =
    drives_both g.L.Link c.args.bus 1 0 1 (moment (state c.args.looker.now None) c.args.link.now) (moment (state c.hear-sent.new.looker c.hear-sent.result) c.hear-sent.new.link)
    (moment (state c.send_now.new.looker None) c.send_now.new.link) refl
    (hears_once g.L.Link c.args.bus c.args.looker.now c.hear-sent.new.looker c.hear-sent.result c.hear-sent.ensures.0 c.args.link.now c.hear-sent.new.link c.requires c.hear-sent.ensures.1 c.hear-sent.ensures.2)
    c.send_now.ensures.drives
