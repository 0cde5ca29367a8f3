use Rattle.std.proofs.Common.{◌∙◌, inl, inr, refl, sym}
use Rattle.bmc_ports.specs.Conversation.{links}
use Rattle.app_run.proofs.Greets.{no_number}
use Rattle.app_run.proofs.greeting.greet_first.Goals as goal

pub returns-then-are_none : goal.returns-then-are_none
returns-then-are_none g c =
    let none = no_number c.args.greetings.now.ipmb c.args.greetings.now.smbus (sym c.are_none.ensures ∙ c.if-are_none.true) in
    inl (none.0, none.1, refl)

pub returns-in-None : goal.returns-in-None
returns-in-None g c =
    inr (record {
      over = links c.in-Some.ends.ipmb c.in-Some.ends.smbus;
      left = links c.greet_both.new.ipmb c.greet_both.new.smbus;
      ipmb = c.in-Some.ensures.ipmb;
      smbus = c.in-Some.ensures.smbus;
      greets = c.in-None.ensures;
    })

pub returns : goal.returns
returns g c =
    inr (record {
      over = links c.in-Some.ends.ipmb c.in-Some.ends.smbus;
      left = links c.greet_both.new.ipmb c.greet_both.new.smbus;
      ipmb = c.in-Some.ensures.ipmb;
      smbus = c.in-Some.ensures.smbus;
      greets = c.in-Some-greet_both.ensures;
    })
