use Rattle.std.proofs.Common.{◌∙◌, ◌+◌, ◌++◌, [], ◌∷◌, refl, take, arith}
use Rattle.std.proofs.lemmas.List.{take_all}
use Rattle.app_show.specs.Asking.{AsksEach, AsksOne}
use Rattle.app_show.specs.Reading.{first_of}
use Rattle.app_show.proofs.AskedFor.{each_begins, each_more, one_of}
use Rattle.app_show.proofs.Told.{goes_as, goes_then, reads_none, stops_on}
use Rattle.app_show.proofs.reading.Reader.read_each.Goals as goal

pub loop-place-init : goal.loop-place-init
loop-place-init c = reads_none (AsksEach []) refl c.args.session.now c.args.self.now c.requires

pub loop-place-preserved : goal.loop-place-preserved
loop-place-preserved c =
    let keys = c.args.keys.now in
    let place = c.loop-place.place in
    let key = c.index-keys-place.result in
    let first = first_of c.in_ok-read.field-0 in
    goes_then (AsksEach (take place keys)) (AsksOne key first) (AsksEach (take (place + 1) keys))
    (λ before behind one other. each_more keys place key (omega arith) c.index-keys-place.is before behind one (one_of key first behind other))
    c.args.session.now c.loop-place.session c.read.new.session c.args.self.now c.loop-place.self c.read.new.self c.loop-place.invariant c.in_ok-read.ensures.read

pub returns-in_err-read-clause-stopped : goal.returns-in_err-read-clause-stopped
returns-in_err-read-clause-stopped c =
    let keys = c.args.keys.now in
    let place = c.loop-place.place in
    let key = c.index-keys-place.result in
    stops_on c.from_residual.result _ (AsksEach (take place keys)) (AsksEach (key ∷ [])) (AsksEach keys)
    (λ before behind one other. each_begins keys (place + 1) (before ++ behind) (each_more keys place key (omega arith) c.index-keys-place.is before behind one other))
    c.args.session.now c.loop-place.session c.read.new.session c.args.self.now c.loop-place.self c.read.new.self c.from_residual.ensures.1 c.loop-place.invariant
    c.in_err-read.ensures.stopped

pub returns-clause-read : goal.returns-clause-read
returns-clause-read c =
    goes_as (AsksEach (take c.loop-place.place c.args.keys.now)) (AsksEach c.args.keys.now) (λ told asks. asks ∙ take_all c.loop-place.place c.args.keys.now (omega arith)) c.args.session.now
    c.loop-place.session c.args.self.now c.loop-place.self c.loop-place.invariant
