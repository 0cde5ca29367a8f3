use Rattle.std.proofs.Common.{rules, ◌≡◌, ◌∙◌, subst}
use Rattle.two_wire.specs.declared.Bus.{Bus}
use Rattle.two_wire.specs.declared.Bus.TheVariants.{Ipmb, Smbus}
use Rattle.bmc_core.specs.Values.{IsFrameOn}
use Rattle.lab_run.proofs.Parts.{none_on_ipmb}
use Rattle.lab_run.proofs.lab_state.Lab.part_of.Goals as goal

pub returns-in-Ipmb : goal.returns-in-Ipmb
returns-in-Ipmb c file x f shows is =
    let on : c.args.frame.now.mark.on ≡ Ipmb = search rules in
    none_on_ipmb x f.request f.value c.args.frame.now.bytes (subst (λ (b : Bus). IsFrameOn b f.value c.args.frame.now.bytes) (is.is.mark.on ∙ on) is.read)

pub returns-in-Smbus : goal.returns-in-Smbus
returns-in-Smbus c file x f shows is =
    let on : c.args.frame.now.mark.on ≡ Smbus = search rules in
    c.packet_of.ensures file x f shows is (is.is.mark.on ∙ on)
