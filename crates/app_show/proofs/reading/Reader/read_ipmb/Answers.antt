use Rattle.app_show.specs.Keys.{numbered_keys}
use Rattle.app_show.specs.Asking.{AsksEach, AsksIpmb, AsksPeople}
use Rattle.app_show.proofs.AskedFor.{ipmb_begins, then_joins}
use Rattle.app_show.proofs.Told.{goes_by, named_on, named_stops, stops_by, stops_first}
use Rattle.app_show.proofs.reading.Reader.read_ipmb.Goals as goal

pub returns-in_err-read_named-clause-stopped : goal.returns-in_err-read_named-clause-stopped
returns-in_err-read_named-clause-stopped c =
    stops_first c.from_residual.result _ (AsksEach numbered_keys) AsksIpmb ipmb_begins c.args.session.now c.read_named.new.session c.args.self.now c.read_named.new.self
    c.from_residual.ensures.1
    (named_stops _ c.numbered_keys-keys.result numbered_keys c.numbered_keys-keys.ensures c.args.session.now c.read_named.new.session c.args.self.now c.read_named.new.self
    c.in_err-read_named.ensures.stopped)

pub returns-clause-read : goal.returns-clause-read
returns-clause-read c =
    goes_by c.read_people.result (AsksEach numbered_keys) AsksPeople AsksIpmb (then_joins (AsksEach numbered_keys) AsksPeople) c.args.session.now c.read_named.new.session
    c.read_people.new.session c.args.self.now c.read_named.new.self c.read_people.new.self
    (named_on c.numbered_keys-keys.result numbered_keys c.numbered_keys-keys.ensures c.args.session.now c.read_named.new.session c.args.self.now c.read_named.new.self c.in_ok-read_named.ensures.read)
    c.read_people.ensures.read

pub returns-clause-stopped : goal.returns-clause-stopped
returns-clause-stopped c =
    stops_by c.read_people.result (AsksEach numbered_keys) AsksPeople AsksIpmb (then_joins (AsksEach numbered_keys) AsksPeople) c.args.session.now c.read_named.new.session
    c.read_people.new.session c.args.self.now c.read_named.new.self c.read_people.new.self
    (named_on c.numbered_keys-keys.result numbered_keys c.numbered_keys-keys.ensures c.args.session.now c.read_named.new.session c.args.self.now c.read_named.new.self c.in_ok-read_named.ensures.read)
    c.read_people.ensures.stopped
