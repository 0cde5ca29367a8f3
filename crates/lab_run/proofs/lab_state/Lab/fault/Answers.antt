use Rattle.std.proofs.Common.{◌≡◌, sym, ◌∙◌, ap, subst}
use Rattle.two_wire.specs.declared.Bus.TheVariants.{Ipmb, Smbus}
use Rattle.undo_plans.specs.declared.names.Names.{Names}
use Rattle.bmc_board.specs.Table.{is_changing}
use Rattle.model_undo.specs.Machine.{open_bus}
use Rattle.bmc_core.specs.PortSteps.{asked_in}
use Rattle.model_lab.specs.ManagerSteps.{board_plans}
use Rattle.model_lab.specs.Lab.{Lab, Noise, Idles}
use Rattle.model_lab.specs.Faults.{fault_of as fault_of_event, message_changes}
use Rattle.model_lab.specs.Meaning.{lab_names, request_of}
use Rattle.model_lab.specs.Played.{plans, fault_at}
use Rattle.lab_run.proofs.Checks.{other_faulty, other_room}
use Rattle.lab_run.proofs.lab_state.Lab.fault.Goals as goal

pub returns-in-Calls : goal.returns-in-Calls
returns-in-Calls c file x shows = c.room_fault.ensures lab_names c.marks-marks.result x (c.marks-marks.ensures file x shows) ∙ ap (fault_at file x) (sym c.in-Calls.is)

pub returns-in-ToBmc : goal.returns-in-ToBmc
returns-in-ToBmc c file x shows = c.delivery_fault.ensures lab_names x (c.marks-marks.ensures file x shows) ∙ ap (fault_at file x) (sym c.in-ToBmc.is)

pub returns-in-ToMgr : goal.returns-in-ToMgr
returns-in-ToMgr c file x shows = c.delivery_fault-in-ToMgr.ensures lab_names x (c.marks-marks.ensures file x shows) ∙ ap (fault_at file x) (sym c.in-ToMgr.is)

pub returns-in-Some : goal.returns-in-Some
returns-in-Some c file x shows =
    let r = c.in-OtherIpmb.request in
    other_faulty x c.args.self.now.names (shows.named ∙ sym shows.manager.is_named) (is_changing (asked_in (request_of lab_names r))) Ipmb r.requester.address c.in-Some.fault c.in-Some.ensures
    ∙ ap (fault_at file x) (sym c.in-OtherIpmb.is)

pub returns-in-None : goal.returns-in-None
returns-in-None c file x shows =
    let r = c.in-OtherIpmb.request in
    other_room x c.args.self.now.names (shows.named ∙ sym shows.manager.is_named) (is_changing (asked_in (request_of lab_names r))) Ipmb r.requester.address c.room_fault-in-None.result c.in-None.ensures
    (c.room_fault-in-None.ensures lab_names c.marks-marks.result x (c.marks-marks.ensures file x shows))
    ∙ ap (fault_at file x) (sym c.in-OtherIpmb.is)

pub returns-in-Some-message_fault : goal.returns-in-Some-message_fault
returns-in-Some-message_fault c file x shows =
    let m = c.in-OtherSmbus.message in
    other_faulty x c.args.self.now.names (shows.named ∙ sym shows.manager.is_named) (message_changes m.from m.body) Smbus m.from c.in-Some-message_fault.fault c.in-Some-message_fault.ensures
    ∙ ap (fault_at file x) (sym c.in-OtherSmbus.is)

pub returns-in-None-message_fault : goal.returns-in-None-message_fault
returns-in-None-message_fault c file x shows =
    let m = c.in-OtherSmbus.message in
    other_room x c.args.self.now.names (shows.named ∙ sym shows.manager.is_named) (message_changes m.from m.body) Smbus m.from c.room_fault-in-None-message_fault.result c.in-None-message_fault.ensures
    (c.room_fault-in-None-message_fault.ensures lab_names c.marks-marks.result x (c.marks-marks.ensures file x shows))
    ∙ ap (fault_at file x) (sym c.in-OtherSmbus.is)

pub returns-in-Noise : goal.returns-in-Noise
returns-in-Noise c file x shows =
    c.noise_fault.ensures lab_names x
    ∙ ap (λ bytes. fault_of_event plans x (Noise c.in-Noise.on bytes)) c.as_slice.ensures.value
    ∙ ap (fault_at file x) (sym c.in-Noise.is)

pub returns-in-Idle : goal.returns-in-Idle
returns-in-Idle c file x shows =
    subst (λ (names : Names). (y : Lab (board_plans names)) → y.manager.names ≡ names → open_bus (board_plans names).words y.manager.machine ≡ c.open_bus.result
    → c.idle_fault.result ≡ fault_of_event (board_plans names) y (Idles c.in-Idle.on c.in-Idle.requester)) shows.named c.idle_fault.ensures
    x shows.manager.is_named (sym (c.open_bus.ensures lab_names x.manager shows.manager))
    ∙ ap (fault_at file x) (sym c.in-Idle.is)
