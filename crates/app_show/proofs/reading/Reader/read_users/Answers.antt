use Rattle.std.specs.Prelude.{get_or}
use Rattle.std.proofs.Common.{◌+◌, [], List, ℕ, take, refl, subst, arith}
use Rattle.std.proofs.lemmas.List.{take_all}
use Rattle.app_show.specs.Asking.{AsksAccesses, AsksSomeAccesses, AsksSomeUsers, AsksUsers}
use Rattle.app_show.proofs.AskedFor.{users_more, users_stop}
use Rattle.app_show.proofs.Told.{goes_as, goes_then, reads_none, stops_on}
use Rattle.app_show.proofs.reading.Reader.read_users.Goals as goal

pub loop-place-init : goal.loop-place-init
loop-place-init c = reads_none (AsksUsers [] 0 0) (refl, refl) c.args.session.now c.args.self.now c.requires

pub loop-place-preserved : goal.loop-place-preserved
loop-place-preserved c =
    let all = c.args.channels.now in
    let place = c.loop-place.place in
    goes_then (AsksUsers (take place all) 0 c.loop-place.most) (AsksAccesses (get_or all place 0) c.in_ok-users.users) (AsksUsers (take (place + 1) all) 0 c.max-most.result)
    (users_more all place 0 c.loop-place.most c.in_ok-users.users c.max-most.result (omega arith) c.max-most.ensures) c.args.session.now c.loop-place.session c.read_accesses.new.session c.args.self.now
    c.loop-place.self c.read_accesses.new.self c.loop-place.invariant c.in_ok-users.ensures.read

pub returns-in_err-users-clause-stopped : goal.returns-in_err-users-clause-stopped
returns-in_err-users-clause-stopped c =
    let all = c.args.channels.now in
    let place = c.loop-place.place in
    stops_on c.from_residual.result _ (AsksUsers (take place all) 0 c.loop-place.most) (AsksSomeAccesses (get_or all place 0)) (AsksSomeUsers all)
    (users_stop all place 0 c.loop-place.most (omega arith)) c.args.session.now c.loop-place.session c.read_accesses.new.session c.args.self.now c.loop-place.self c.read_accesses.new.self
    c.from_residual.ensures.1 c.loop-place.invariant c.in_err-users.ensures.stopped

pub returns-clause-read : goal.returns-clause-read
returns-clause-read c =
    let all = c.args.channels.now in
    goes_as (AsksUsers (take c.loop-place.place all) 0 c.loop-place.most) (AsksUsers all 0 c.loop-place.most)
    (λ told asks. subst (λ (l : List ℕ). AsksUsers l 0 c.loop-place.most told) (take_all c.loop-place.place all (omega arith)) asks) c.args.session.now c.loop-place.session c.args.self.now
    c.loop-place.self c.loop-place.invariant
