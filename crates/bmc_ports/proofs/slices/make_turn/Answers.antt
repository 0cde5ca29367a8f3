use Rattle.std.proofs.Common.{refl, ◌∙◌, [], ◌∷◌, subst, arith}
use Rattle.two_wire.specs.declared.Bus.{Bus}
use Rattle.bmc_ports.specs.Silence.{AreCounted}
use Rattle.bmc_ports.proofs.slices.make_turn.Goals as goal

pub returns-clause-turn : goal.returns-clause-turn
returns-clause-turn g c = (
  c.turn-turned.result.heard,
  record {
    between = c.turn-turned.new.port;
    made = c.turn-turned.ensures.made;
    forgets = c.forget_silent.ensures.forgets;
    silence = subst
        (λ (on : Bus). AreCounted c.args.lane.now.forget on c.args.lane.now.silence (c.turn-turned.result.heard ∷ []) c.forget_silent.new.silence)
        c.turn-turned.ensures.bus c.forget_silent.ensures.counted;
    forget = refl;
    turns = omega (arith, c.requires);
    quiet = c.quiet_behind.ensures;
    bus = c.forget_silent.ensures.bus ∙ c.turn-turned.ensures.bus;
  },
)
