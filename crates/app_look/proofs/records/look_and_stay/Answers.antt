use Rattle.app_look.proofs.Findings.{opens_for}
use Rattle.app_look.proofs.records.look_and_stay.Goals as goal

pub returns-in-Ok-look_at_each-clause-found : goal.returns-in-Ok-look_at_each-clause-found
returns-in-Ok-look_at_each-clause-found g c = record {
  session = c.in-Ok.session;
  opened = opens_for c.args.way.now c.args.keys.now c.looks_use-ipmb.result c.looks_use-smbus.result c.in-Ok.session c.looks_use-ipmb.ensures c.looks_use-smbus.ensures c.in-Ok.ensures.opened;
  finds = c.in-Ok-look_at_each.ensures.found;
}

pub returns-in-Err-look_at_each-clause-fault : goal.returns-in-Err-look_at_each-clause-fault
returns-in-Err-look_at_each-clause-fault g c = record {
  session = c.in-Ok.session;
  opened = opens_for c.args.way.now c.args.keys.now c.looks_use-ipmb.result c.looks_use-smbus.result c.in-Ok.session c.looks_use-ipmb.ensures c.looks_use-smbus.ensures c.in-Ok.ensures.opened;
  left = c.look_at_each.new.session;
  stops = c.in-Err-look_at_each.ensures.stopped;
}
