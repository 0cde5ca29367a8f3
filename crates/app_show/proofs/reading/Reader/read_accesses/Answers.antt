use Rattle.std.proofs.Common.{◌≡◌, ◌∙◌, [], ◌∷◌, ap, sym}
use Rattle.record_base.specs.Numbers.{UserNumber}
use Rattle.app_show.specs.Keys.{later_access_keys}
use Rattle.app_show.specs.Asking.{AsksAccesses, AsksEach, AsksOne, AsksSomeAccesses, users_in}
use Rattle.app_show.specs.Reading.{first_of}
use Rattle.app_show.proofs.AskedFor.{accesses_begin, accesses_none, accesses_stop, accesses_then}
use Rattle.app_show.proofs.Told.{goes_as, goes_then, named_on, named_stops, stops_first, stops_on}
use Rattle.app_show.proofs.reading.Reader.read_accesses.Goals as goal

pub returns-in_err-first-clause-stopped : goal.returns-in_err-first-clause-stopped
returns-in_err-first-clause-stopped c =
    stops_first c.from_residual.result _ (AsksEach (c.access_key.result ∷ [])) (AsksSomeAccesses c.args.channel) (accesses_begin c.args.channel c.access_key.result c.access_key.ensures)
    c.args.session.now c.read.new.session c.args.self.now c.read.new.self c.from_residual.ensures.1 c.in_err-first.ensures.stopped

pub returns-in_default-clause-read : goal.returns-in_default-clause-read
returns-in_default-clause-read c =
    goes_as (AsksOne c.access_key.result (first_of c.in_ok-first.field-0)) (AsksAccesses c.args.channel 0)
    (accesses_none c.args.channel c.access_key.result (first_of c.in_ok-first.field-0) c.access_key.ensures (ap first_of c.in_default.is)) c.args.session.now c.read.new.session c.args.self.now
    c.read.new.self c.in_ok-first.ensures.read

pub returns-in_err-read_named-clause-stopped : goal.returns-in_err-read_named-clause-stopped
returns-in_err-read_named-clause-stopped c =
    let channel = c.args.channel in
    let key = c.access_key.result in
    let first = first_of c.in_ok-first.field-0 in
    let later = later_access_keys channel c.of-users.result.number in
    let many : c.of-users.result.number ≡ users_in first = ap (λ (user : UserNumber). user.number) c.of-users.ensures ∙ ap users_in (sym (ap first_of c.in-Found.is)) in
    stops_on c.from_residual-in_err-read_named.result _ (AsksOne key first) (AsksEach later) (AsksSomeAccesses channel)
    (accesses_stop channel c.of-users.result.number key first c.access_key.ensures many) c.args.session.now c.read.new.session c.read_named.new.session c.args.self.now
    c.read.new.self c.read_named.new.self c.from_residual-in_err-read_named.ensures.1 c.in_ok-first.ensures.read
    (named_stops _ c.later_access_keys-keys.result later c.later_access_keys-keys.ensures c.read.new.session c.read_named.new.session c.read.new.self c.read_named.new.self
    c.in_err-read_named.ensures.stopped)

pub returns-clause-read : goal.returns-clause-read
returns-clause-read c =
    let channel = c.args.channel in
    let key = c.access_key.result in
    let first = first_of c.in_ok-first.field-0 in
    let later = later_access_keys channel c.of-users.result.number in
    let many : c.of-users.result.number ≡ users_in first = ap (λ (user : UserNumber). user.number) c.of-users.ensures ∙ ap users_in (sym (ap first_of c.in-Found.is)) in
    goes_then (AsksOne key first) (AsksEach later) (AsksAccesses channel c.of-users.result.number) (accesses_then channel c.of-users.result.number key first c.access_key.ensures many)
    c.args.session.now c.read.new.session c.read_named.new.session c.args.self.now c.read.new.self c.read_named.new.self c.in_ok-first.ensures.read
    (named_on c.later_access_keys-keys.result later c.later_access_keys-keys.ensures c.read.new.session c.read_named.new.session c.read.new.self c.read_named.new.self
    c.in_ok-read_named.ensures.read)
