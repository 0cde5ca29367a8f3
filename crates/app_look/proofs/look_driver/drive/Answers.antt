use Rattle.std.proofs.Common.{◌≡◌, Option, None, refl, sym, ◌∙◌, subst}
use Rattle.two_wire.specs.declared.Bus.{Bus}
use Rattle.undo_look.specs.Looks.{open_on}
use Rattle.app_look.specs.Driven.{DrivenOn, state}
use Rattle.app_look.proofs.Looking.{none_given}
use Rattle.app_look.proofs.look_driver.drive.Goals as goal

pub returns-in-None : goal.returns-in-None
returns-in-None g c =
    let looker = c.args.looker.now in
    let none : open_on looker.stage ≡ None = sym c.open_bus.ensures ∙ c.in-None.is in
    subst (λ (on : Option Bus). DrivenOn g.A.Link g.B.Link c.args.turns (state looker c.args.first) c.args.ipmb.now c.args.smbus.now looker c.args.ipmb.now c.args.smbus.now on) (sym none)
    ((λ i. state looker (sym (none_given looker.stage c.args.first none c.requires) i)), refl, refl)
