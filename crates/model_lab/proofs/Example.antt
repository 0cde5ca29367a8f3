-- The runs compute.
use Rattle.std.proofs.Common.{refl, ◌++◌, inr}
use Rattle.record_base.specs.Masks.{is_within}
use Rattle.record_base.specs.Sensor.Thresholds.{is_in_order, is_clear}
use Rattle.bmc_core.specs.PortSteps.{turn, hears_request, hears_message, hears_part, hears_parts}
use Rattle.model_lab.specs.ManagerSteps.{called, hears_response, hears_packet}
use Rattle.model_lab.specs.Lab.{step, run}
use Rattle.model_lab.specs.Clean.{IsCleanRun, IsCleanUndo}
use Rattle.model_lab.specs.Example.{board_file, plans, two_steps, start, exchange, run_two, clean_two, ShowsFaults, TwoStepsUndone, RepliesOnce, SettlesAgain}

pub shows_faults : ShowsFaults
unfolding step run turn hears_request hears_message hears_part hears_parts called hears_response hears_packet is_within is_in_order is_clear
shows_faults = record { no_frame = refl; wrong_way = refl; changing = refl; impersonates = refl; forged = refl; still_open = refl; on_the_other_bus = refl }

pub replies_once : RepliesOnce
unfolding step run turn hears_request hears_message hears_part hears_parts called hears_response hears_packet is_within is_in_order is_clear
replies_once = record { taken = (refl, (refl, (refl, (refl, (refl, (refl, (refl, (refl, tt)))))))); done = refl; frames = refl; again = refl; first_reply = refl; kept_reply = refl; late = refl }

pub settles_again : SettlesAgain
unfolding step run turn hears_request hears_message hears_part hears_parts called hears_response hears_packet is_within is_in_order is_clear
settles_again = record { taken = (refl, (refl, (refl, (refl, (refl, (refl, (refl, (refl, (refl, (refl, (refl, tt))))))))))); unsettled_first = refl; done = refl; undone = refl; frames = refl; same = refl }

two_steps_ran : IsCleanRun plans board_file run_two (start two_steps 3)
unfolding step run turn hears_request hears_message hears_part hears_parts called hears_response hears_packet is_within is_in_order is_clear
two_steps_ran = record {
  deliveries = exchange 0 ++ exchange 2 ++ exchange 4 ++ exchange 6;
  delivered = (refl, (refl, (refl, (refl, (refl, (refl, (refl, (refl, refl))))))));
  all = refl;
}

two_steps_clean : IsCleanUndo plans board_file clean_two (start two_steps 3)
unfolding step run turn hears_request hears_message hears_part hears_parts called hears_response hears_packet is_within is_in_order is_clear
two_steps_clean = record { before = run_two; deliveries = exchange 8 ++ exchange 10; ran = two_steps_ran; delivered = (refl, (refl, (refl, (refl, refl)))); all = refl }

pub two_steps_undone : TwoStepsUndone
unfolding step run turn hears_request hears_message hears_part hears_parts called hears_response hears_packet is_within is_in_order is_clear
two_steps_undone = record { clean = inr two_steps_clean; taken = (refl, (refl, (refl, (refl, (refl, (refl, (refl, (refl, (refl, (refl, (refl, (refl, (refl, (refl, tt)))))))))))))); undone = refl; frames = refl; undoes = refl; same = refl }
