-- The runs in packets compute.
use Rattle.std.proofs.Common.{refl}
use Rattle.record_base.specs.Masks.{is_within}
use Rattle.record_base.specs.Sensor.Thresholds.{is_in_order, is_clear}
use Rattle.bmc_core.specs.PortSteps.{turn, hears_request, hears_message, hears_part, hears_parts}
use Rattle.model_lab.specs.ManagerSteps.{called, hears_response, hears_packet}
use Rattle.model_lab.specs.Lab.{step, run}
use Rattle.model_lab.specs.PacketExample.{SetsInPackets, TakesPackets}

pub sets_in_packets : SetsInPackets
unfolding step run turn hears_request hears_message hears_part hears_parts called hears_response hears_packet is_within is_in_order is_clear
sets_in_packets = record {
  taken = (refl, (refl, (refl, (refl, (refl, (refl, (refl, (refl, (refl, (refl, (refl, (refl, (refl, (refl, (refl, tt)))))))))))))));
  own = (tt, (λ joins. absurd cc, (tt, (λ joins. absurd cc, (λ joins own. refl, (λ joins own. refl, (tt, (λ joins own. refl, (tt, (λ joins own. refl, (tt, (λ joins own. refl, (λ joins own. refl, (λ joins own. refl, (tt, tt)))))))))))))));
  setting = refl;
  packets = refl;
  frames = refl;
  phase = refl;
  carried = refl;
}

pub takes_packets : TakesPackets
unfolding step run turn hears_request hears_message hears_part hears_parts called hears_response hears_packet is_within is_in_order is_clear
takes_packets = record { packets = refl; taken = (refl, (refl, (refl, tt))); waits = refl; whole = refl; sends = refl; busy_between = refl }
