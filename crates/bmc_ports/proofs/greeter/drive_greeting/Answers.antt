use Rattle.std.proofs.Common.{◌∙◌, Bool, None, false, ap, arith}
use Rattle.bmc_ports.specs.Greeted.{end_of, moment, state}
use Rattle.bmc_ports.proofs.Greeting.{drives_both}
use Rattle.bmc_ports.proofs.greeter.drive_greeting.Goals as goal

pub returns : goal.returns
returns g c =
    let rest = c.make_turns-busy.ensures in record {
      begun = c.begin-first.new.greeting;
      first = c.begin-first.result;
      is_begun = c.begin-first.ensures;
      busy = c.make_turns-busy.result;
      driven = record {
        made = rest.made;
        few = rest.few;
        drives = drives_both g.L.Link 0 rest.made rest.made (moment (state c.begin-first.new.greeting c.begin-first.result false) c.args.link.now)
            (moment (state c.send_now.new.greeting None false) c.send_now.new.link) (moment (state c.make_turns-busy.new.greeting None c.make_turns-busy.result) c.make_turns-busy.new.link)
            (omega arith) (c.send_now.ensures false) rest.drives;
        ended = rest.ended;
      };
      ends = c.of.ensures ∙ ap (λ (over : Bool). end_of over c.make_turns-busy.result) c.is_answered.ensures;
    }
