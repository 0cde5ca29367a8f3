use Rattle.app_show.specs.Asking.{AsksAll, AsksIpmb, AsksSmbus}
use Rattle.app_show.proofs.AskedFor.{all_alone, all_begins, all_then}
use Rattle.app_show.proofs.Told.{goes_as, goes_by, stops_by, stops_first}
use Rattle.app_show.proofs.reading.Reader.read_all.Goals as goal

pub returns-in_err-read_ipmb-clause-stopped : goal.returns-in_err-read_ipmb-clause-stopped
returns-in_err-read_ipmb-clause-stopped c =
    stops_first c.from_residual.result _ AsksIpmb (AsksAll c.args.smbus c.args.effecters.now) (all_begins c.args.smbus c.args.effecters.now) c.args.session.now c.read_ipmb.new.session
    c.args.self.now c.read_ipmb.new.self c.from_residual.ensures.1 c.in_err-read_ipmb.ensures.stopped

pub returns-then-not-smbus-clause-read : goal.returns-then-not-smbus-clause-read
returns-then-not-smbus-clause-read c =
    goes_as AsksIpmb (AsksAll c.args.smbus c.args.effecters.now) (all_alone c.args.smbus c.args.effecters.now c.if-not-smbus.true) c.args.session.now c.read_ipmb.new.session c.args.self.now
    c.read_ipmb.new.self c.in_ok-read_ipmb.ensures.read

pub returns-clause-read : goal.returns-clause-read
returns-clause-read c =
    let effecters = c.args.effecters.now in
    goes_by c.read_smbus.result AsksIpmb (AsksSmbus effecters) (AsksAll c.args.smbus effecters) (all_then c.args.smbus effecters c.if-not-smbus.false) c.args.session.now
    c.read_ipmb.new.session c.read_smbus.new.session c.args.self.now c.read_ipmb.new.self c.read_smbus.new.self c.in_ok-read_ipmb.ensures.read c.read_smbus.ensures.read

pub returns-clause-stopped : goal.returns-clause-stopped
returns-clause-stopped c =
    let effecters = c.args.effecters.now in
    stops_by c.read_smbus.result AsksIpmb (AsksSmbus effecters) (AsksAll c.args.smbus effecters) (all_then c.args.smbus effecters c.if-not-smbus.false) c.args.session.now
    c.read_ipmb.new.session c.read_smbus.new.session c.args.self.now c.read_ipmb.new.self c.read_smbus.new.self c.in_ok-read_ipmb.ensures.read c.read_smbus.ensures.stopped
