use Rattle.app_show.specs.Keys.{effecter_keys}
use Rattle.app_show.specs.Asking.{AsksEach, AsksHandles, AsksSmbus}
use Rattle.app_show.proofs.AskedFor.{smbus_begins, then_joins}
use Rattle.app_show.proofs.Told.{goes_by_names, stops_by_names, stops_first}
use Rattle.app_show.proofs.reading.Reader.read_smbus.Goals as goal

pub returns-in_err-read_attributes-clause-stopped : goal.returns-in_err-read_attributes-clause-stopped
returns-in_err-read_attributes-clause-stopped c =
    stops_first c.from_residual.result _ (AsksHandles 0 0) (AsksSmbus c.args.effecters.now) (smbus_begins c.args.effecters.now) c.args.session.now c.read_attributes.new.session
    c.args.self.now c.read_attributes.new.self c.from_residual.ensures.1 c.in_err-read_attributes.ensures.stopped

pub returns-clause-read : goal.returns-clause-read
returns-clause-read c =
    let keys = effecter_keys c.args.effecters.now in
    goes_by_names c.read_named.result c.effecter_keys-keys.result keys c.effecter_keys-keys.ensures (AsksHandles 0 0) (AsksSmbus c.args.effecters.now) (then_joins (AsksHandles 0 0) (AsksEach keys))
    c.args.session.now c.read_attributes.new.session c.read_named.new.session c.args.self.now c.read_attributes.new.self c.read_named.new.self c.in_ok-read_attributes.ensures.read
    c.read_named.ensures.read

pub returns-clause-stopped : goal.returns-clause-stopped
returns-clause-stopped c =
    let keys = effecter_keys c.args.effecters.now in
    stops_by_names c.read_named.result c.effecter_keys-keys.result keys c.effecter_keys-keys.ensures (AsksHandles 0 0) (AsksSmbus c.args.effecters.now) (then_joins (AsksHandles 0 0) (AsksEach keys))
    c.args.session.now c.read_attributes.new.session c.read_named.new.session c.args.self.now c.read_attributes.new.self c.read_named.new.self c.in_ok-read_attributes.ensures.read
    c.read_named.ensures.stopped
