use Rattle.app_show.specs.Keys.{channels, name_keys}
use Rattle.app_show.specs.Asking.{AsksPeople, AsksSomeUsers, AsksUsers}
use Rattle.app_show.proofs.AskedFor.{people_begin, people_then}
use Rattle.app_show.proofs.Told.{goes_by_names, stops_by_names, stops_first}
use Rattle.app_show.proofs.reading.Reader.read_people.Goals as goal

pub returns-in_err-users-clause-stopped : goal.returns-in_err-users-clause-stopped
returns-in_err-users-clause-stopped c =
    stops_first c.from_residual.result _ (AsksSomeUsers channels) AsksPeople people_begin c.args.session.now c.read_users.new.session c.args.self.now c.read_users.new.self
    c.from_residual.ensures.1 c.in_err-users.ensures.stopped

pub returns-clause-read : goal.returns-clause-read
returns-clause-read c =
    goes_by_names c.read_named.result c.name_keys-names.result (name_keys c.in_ok-users.users) c.name_keys-names.ensures (AsksUsers channels 0 c.in_ok-users.users) AsksPeople
    (people_then c.in_ok-users.users) c.args.session.now c.read_users.new.session c.read_named.new.session c.args.self.now c.read_users.new.self c.read_named.new.self
    c.in_ok-users.ensures.read c.read_named.ensures.read

pub returns-clause-stopped : goal.returns-clause-stopped
returns-clause-stopped c =
    stops_by_names c.read_named.result c.name_keys-names.result (name_keys c.in_ok-users.users) c.name_keys-names.ensures (AsksUsers channels 0 c.in_ok-users.users) AsksPeople
    (people_then c.in_ok-users.users) c.args.session.now c.read_users.new.session c.read_named.new.session c.args.self.now c.read_users.new.self c.read_named.new.self
    c.in_ok-users.ensures.read c.read_named.ensures.stopped
