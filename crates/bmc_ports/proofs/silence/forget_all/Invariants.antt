use Rattle.std.proofs.Common.{◌≡◌}
use Rattle.bmc_core.specs.PortSteps.{PortState}
use Rattle.bmc_core.specs.Port.{Represents, bus_of}
use Rattle.bmc_ports.specs.Silence.{idles_all, silent_among}
use Rattle.bmc_ports.proofs.silence.forget_all.Given as goal

-- those so far are forgotten that were silent for just so many turns
abbrev pub invariant-loop-who : goal.invariant-loop-who
invariant-loop-who l = record {
  forgets : (p : PortState) → Represents l.initial.port p → Represents l.port (idles_all (silent_among l.who l.turns l.silence) p);
  bus : bus_of l.port ≡ bus_of l.initial.port;
}
