use Rattle.std.specs.Prelude.{is_some}
use Rattle.std.proofs.Common.{◌∙◌, Bool, inr, true, subst, sym}
use Rattle.app_look.specs.declared.session.Way.{Way}
use Rattle.app_look.specs.Opened.{IsOpened}
use Rattle.app_show.proofs.showing.show.Goals as goal

pub returns-in-Ok : goal.returns-in-Ok
returns-in-Ok g c =
    let reach = c.args.words.now.reach in
    let opened = subst (λ (way : Way). IsOpened way true (is_some reach.smbus_port) c.in-Ok.session) c.way_of-way.ensures
    (subst (λ (smbus : Bool). IsOpened c.way_of-way.result true smbus c.in-Ok.session) c.is_some-smbus.ensures c.in-Ok.ensures.opened) in
    inr (sym c.is_misfit.ensures ∙ c.if-is_misfit.false, inr (c.in-Ok.session, opened, c.show_over.ensures))
