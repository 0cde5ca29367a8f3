-- The longer runs compute.
use Rattle.std.proofs.Common.{refl}
use Rattle.record_base.specs.Masks.{is_within}
use Rattle.record_base.specs.Sensor.Thresholds.{is_in_order, is_clear}
use Rattle.bmc_core.specs.PortSteps.{turn, hears_request, hears_message, hears_part, hears_parts}
use Rattle.model_lab.specs.ManagerSteps.{called, hears_response, hears_packet}
use Rattle.model_lab.specs.Lab.{step, run}
use Rattle.model_lab.specs.LongExample.{CopiesAge, NinthIsBusy, AnswersPackets, JoinsPackets}

pub answers_packets : AnswersPackets
unfolding step run turn hears_request hears_message hears_part hears_parts called hears_response hears_packet is_within is_in_order is_clear
answers_packets = record { tid = refl; eid = refl }

pub ninth_is_busy : NinthIsBusy
unfolding step run turn hears_request hears_message hears_part hears_parts called hears_response hears_packet is_within is_in_order is_clear
ninth_is_busy = record { taken = (refl, (refl, (refl, (refl, (refl, (refl, (refl, (refl, (refl, (refl, tt)))))))))); busy = refl; kept_reply = refl }

pub joins_packets : JoinsPackets
unfolding step run turn hears_request hears_message hears_part hears_parts called hears_response hears_packet is_within is_in_order is_clear
joins_packets = record {
  taken = (refl, (refl, (refl, (refl, (refl, (refl, (refl, (refl, (refl, (refl, tt))))))))));
  own = (λ no joined. refl, (λ no joined. refl, (λ no joined. refl, (λ no joined. refl, (tt, (λ no joined. refl, (tt, (λ no joined. refl, (λ no joined. refl, (λ no joined. refl, tt))))))))));
  packets = refl;
  frames = refl;
  first_other = refl;
  second_other = refl;
  reply = refl;
  carried = refl;
}

pub copies_age : CopiesAge
unfolding step run turn hears_request hears_message hears_part hears_parts called hears_response hears_packet is_within is_in_order is_clear
copies_age = record { sent = refl; kept_reply = refl; stays = refl; phase = refl; frames = refl; undo = refl; aged = refl }
