use Rattle.std.proofs.Common.{◌≡◌, ◌<◌, List, Option, Some, ℕ, refl, sym, subst}
use Rattle.undo_look.specs.Looks.{open_on}
use Rattle.app_look.specs.Driven.{Drives, IsGivenOn, moment, quieted_at, state}
use Rattle.app_look.proofs.LinkBuses.{quiet_on}
use Rattle.app_look.proofs.Looking.{drives_both, fails, fewer_left, given, sendings_left, sends, stays}
use Rattle.app_look.proofs.look_driver.send_now.Goals as goal

pub loop-sent-init : goal.loop-sent-init
loop-sent-init g c = (stays g.L.Link c.args.bus (moment (state c.args.looker.now c.args.first) c.args.link.now), c.requires.on, c.requires.given)

pub loop-sent-preserved : goal.loop-sent-preserved
loop-sent-preserved g c =
    let on = c.args.bus in
    let way = subst (λ (sent : Option (List ℕ)). Drives g.L.Link on 0 (moment (state c.args.looker.now c.args.first) c.args.link.now) (moment (state c.loop-sent.looker sent) c.loop-sent.link))
    c.in-Some.is c.loop-sent.invariant.0 in
    let opened : open_on c.loop-sent.looker.stage ≡ Some on = subst (IsGivenOn on c.loop-sent.looker.stage) c.in-Some.is c.loop-sent.invariant.2 in
    let here = quiet_on on c.loop-sent.looker c.be_quiet-sent.new.looker c.be_quiet-sent.result c.be_quiet-sent.ensures c.loop-sent.invariant.1 in (
      drives_both g.L.Link on 0 0 0 _ _ _ refl way
          (fails g.L.Link on c.loop-sent.looker c.be_quiet-sent.new.looker c.in-Some.frame c.be_quiet-sent.result _ c.loop-sent.link c.send.new.self opened
          (record { took = c.in-Err.ensures.took; counted = c.in-Err.ensures.counted }) c.be_quiet-sent.ensures),
      here,
      given on c.be_quiet-sent.new.looker c.be_quiet-sent.result (quieted_at c.loop-sent.looker) c.be_quiet-sent.ensures here,
    )

pub loop-sent-smaller : goal.loop-sent-smaller
loop-sent-smaller g c =
    subst (λ (sent : Option (List ℕ)). sendings_left c.be_quiet-sent.result c.be_quiet-sent.new.looker < sendings_left sent c.loop-sent.looker) (sym c.in-Some.is)
    (fewer_left c.loop-sent.looker c.be_quiet-sent.new.looker c.in-Some.frame c.be_quiet-sent.result c.be_quiet-sent.ensures)

pub returns-in-Ok-clause-drives : goal.returns-in-Ok-clause-drives
returns-in-Ok-clause-drives g c =
    let on = c.args.bus in
    let way = subst (λ (sent : Option (List ℕ)). Drives g.L.Link on 0 (moment (state c.args.looker.now c.args.first) c.args.link.now) (moment (state c.loop-sent.looker sent) c.loop-sent.link))
    c.in-Some.is c.loop-sent.invariant.0 in
    let opened : open_on c.loop-sent.looker.stage ≡ Some on = subst (IsGivenOn on c.loop-sent.looker.stage) c.in-Some.is c.loop-sent.invariant.2 in
    drives_both g.L.Link on 0 0 0 _ _ _ refl way
    (sends g.L.Link on c.loop-sent.looker c.in-Some.frame c.loop-sent.link c.send.new.self opened (record { took = c.in-Ok.ensures.took; counted = c.in-Ok.ensures.counted }))

pub returns-in-Ok-clause-on : goal.returns-in-Ok-clause-on
returns-in-Ok-clause-on g c = c.loop-sent.invariant.1

pub returns-clause-drives : goal.returns-clause-drives
returns-clause-drives g c =
    subst (λ (sent : Option (List ℕ)). Drives g.L.Link c.args.bus 0 (moment (state c.args.looker.now c.args.first) c.args.link.now) (moment (state c.loop-sent.looker sent) c.loop-sent.link))
    c.in_default.is c.loop-sent.invariant.0

pub returns-clause-on : goal.returns-clause-on
returns-clause-on g c = c.loop-sent.invariant.1
