use Rattle.std.proofs.Common.{None, arith}
use Rattle.app_look.specs.Driven.{moment, state}
use Rattle.app_look.proofs.Looking.{drives_both}
use Rattle.app_look.proofs.look_driver.drive_on.Goals as goal

pub returns : goal.returns
returns g c =
    let rest = c.make_turns.ensures in record {
      made = rest.made;
      few = rest.few;
      drives = drives_both g.L.Link c.args.bus 0 rest.made rest.made (moment (state c.args.looker.now c.args.first) c.args.link.now)
          (moment (state c.send_now.new.looker None) c.send_now.new.link) (moment (state c.make_turns.new.looker None) c.make_turns.new.link)
          (omega arith) c.send_now.ensures.drives rest.drives;
      ended = rest.ended;
    }
