use Rattle.std.proofs.Common.{◌≡◌, ◌∙◌, subst, sym, ℕ, List, refl, arith}
use Rattle.bmc_core.specs.PortSteps.{PortState}
use Rattle.bmc_core.specs.Port.{Represents}
use Rattle.model_bus.specs.Request.{requester_bytes}
use Rattle.bmc_ports.specs.Silence.{idles_all, silent_among}
use Rattle.bmc_ports.proofs.Silent.{among_none, forgets_more}
use Rattle.bmc_ports.proofs.silence.forget_all.Goals as goal

pub loop-who-init : goal.loop-who-init
loop-who-init c = record {
  forgets = λ p shows. subst (λ (gone : List ℕ). Represents c.args.port.now (idles_all gone p)) (sym (among_none c.args.turns c.args.silence.now)) shows;
  bus = refl;
}

pub loop-who-preserved : goal.loop-who-preserved
loop-who-preserved c = record {
  forgets = λ p shows.
      let gone : List ℕ = silent_among c.loop-who.who c.args.turns c.args.silence.now in
      subst (λ (left : PortState). Represents c.forget_one.new.port left) (sym (forgets_more c.loop-who.who c.args.turns c.args.silence.now p))
      (c.forget_one.ensures.forgets (idles_all gone p) (c.loop-who.invariant.forgets p shows));
  bus = c.forget_one.ensures.bus ∙ c.loop-who.invariant.bus;
}

pub returns-clause-forgets : goal.returns-clause-forgets
returns-clause-forgets c =
    let end : c.loop-who.who ≡ requester_bytes = omega arith in
    λ p shows.
    subst (λ (who : ℕ). Represents c.loop-who.port (idles_all (silent_among who c.args.turns c.args.silence.now) p)) end
    (c.loop-who.invariant.forgets p shows)
