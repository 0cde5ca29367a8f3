use Rattle.std.proofs.Common.{◌≡◌, ◌<◌, ◌+◌, arith, sym, ◌∙◌, ap, subst}
use Rattle.two_wire.specs.declared.Bus.{Bus}
use Rattle.two_wire.specs.declared.Bus.TheVariants.{Ipmb, Smbus}
use Rattle.undo_plans.specs.declared.names.Names.{Names}
use Rattle.model_lab.specs.Lab.{with_port, port_on}
use Rattle.bmc_core.specs.PortSteps.{idles}
use Rattle.model_lab.specs.Played.{plans}
use Rattle.lab_run.specs.Shown.{Represents}
use Rattle.lab_run.proofs.Idling.{one_more, no_more, forgot_ipmb, forgot_smbus}
use Rattle.lab_run.proofs.lab_state.Lab.idle.Goals as goal

pub overflow_add-self : goal.overflow_add-self
overflow_add-self c = let few : c.args.self.now.idles.ipmb < 9223372036854775807 = c.requires Ipmb in omega arith

pub overflow_add-self-then-requester-self : goal.overflow_add-self-then-requester-self
overflow_add-self-then-requester-self c = let few : c.args.self.now.idles.smbus < 9223372036854775807 = c.requires Smbus in omega arith

pub returns-then-requester-byte-clause-becomes : goal.returns-then-requester-byte-clause-becomes
returns-then-requester-byte-clause-becomes c file x shows =
    let old = c.args.self.now in
    let own : c.args.requester ≡ x.manager.names.own_address = c.if-requester-byte.true ∙ c.byte.ensures.value ∙ ap (λ (n : Names). n.own_address) (shows.named ∙ sym shows.manager.is_named) in
    let made = forgot_ipmb file old x shows c.args.requester (old.idles.ipmb + 1) c.idle.new.self (c.idle.ensures.keeps x.ipmb shows.ipmb)
    (one_more c.args.requester x.manager.names.own_address x.ipmb.log old.idles.ipmb own (shows.idles Ipmb)) in
    subst (λ (on : Bus). Represents file (record old { ipmb = c.idle.new.self; idles = record old.idles { ipmb = old.idles.ipmb + 1 } }) (with_port plans on (idles c.args.requester (port_on plans on x)) x)) (sym c.in-Ipmb.is) made

pub returns-else-requester-byte-clause-becomes : goal.returns-else-requester-byte-clause-becomes
returns-else-requester-byte-clause-becomes c file x shows =
    let old = c.args.self.now in
    let own : c.byte.result ≡ x.manager.names.own_address = c.byte.ensures.value ∙ ap (λ (n : Names). n.own_address) (shows.named ∙ sym shows.manager.is_named) in
    let made = forgot_ipmb file old x shows c.args.requester old.idles.ipmb c.idle.new.self (c.idle.ensures.keeps x.ipmb shows.ipmb)
    (no_more c.args.requester x.manager.names.own_address x.ipmb.log old.idles.ipmb (λ is. c.if-requester-byte.false (is ∙ sym own)) (shows.idles Ipmb)) in
    subst (λ (on : Bus). Represents file (record old { ipmb = c.idle.new.self }) (with_port plans on (idles c.args.requester (port_on plans on x)) x)) (sym c.in-Ipmb.is) made

pub returns-then-requester-self-clause-becomes : goal.returns-then-requester-self-clause-becomes
returns-then-requester-self-clause-becomes c file x shows =
    let old = c.args.self.now in
    let own : c.args.requester ≡ x.manager.names.own_eid = c.if-requester-self.true ∙ ap (λ (n : Names). n.own_eid) (shows.named ∙ sym shows.manager.is_named) in
    let made = forgot_smbus file old x shows c.args.requester (old.idles.smbus + 1) c.idle-in-Smbus.new.self (c.idle-in-Smbus.ensures.keeps x.smbus shows.smbus)
    (one_more c.args.requester x.manager.names.own_eid x.smbus.log old.idles.smbus own (shows.idles Smbus)) in
    subst (λ (on : Bus). Represents file (record old { smbus = c.idle-in-Smbus.new.self; idles = record old.idles { smbus = old.idles.smbus + 1 } }) (with_port plans on (idles c.args.requester (port_on plans on x)) x)) (sym c.in-Smbus.is) made

pub returns-else-requester-self-clause-becomes : goal.returns-else-requester-self-clause-becomes
returns-else-requester-self-clause-becomes c file x shows =
    let old = c.args.self.now in
    let own : old.names.own_eid ≡ x.manager.names.own_eid = ap (λ (n : Names). n.own_eid) (shows.named ∙ sym shows.manager.is_named) in
    let made = forgot_smbus file old x shows c.args.requester old.idles.smbus c.idle-in-Smbus.new.self (c.idle-in-Smbus.ensures.keeps x.smbus shows.smbus)
    (no_more c.args.requester x.manager.names.own_eid x.smbus.log old.idles.smbus (λ is. c.if-requester-self.false (is ∙ sym own)) (shows.idles Smbus)) in
    subst (λ (on : Bus). Represents file (record old { smbus = c.idle-in-Smbus.new.self }) (with_port plans on (idles c.args.requester (port_on plans on x)) x)) (sym c.in-Smbus.is) made
