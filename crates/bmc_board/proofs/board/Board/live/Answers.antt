use Rattle.std.proofs.Common.{◌∷◌, List, ℕ, [], Ok, refl, sym, ◌∙◌, ap, subst}
use Rattle.std.proofs.lemmas.List.{append-nil}
use Rattle.std.specs.Int.{w16, w32, to_le_bytes}
use Rattle.sel_log.specs.Clock.{clock_at}
use Rattle.bmc_board.specs.declared.live.LiveCommand.TheVariants as live
use Rattle.bmc_board.specs.Gives.{AppendsReply}
use Rattle.bmc_board.specs.Live.{device_data}
use Rattle.bmc_board.specs.Storage.{sel_info, sdr_part, sel_part}
use Rattle.bmc_board.specs.Serves.{reading_by}
use Rattle.bmc_board.proofs.LiveServed.{served, shown}
use Rattle.bmc_board.proofs.board.Board.live.Goals as goal

pub returns-in-GetDeviceId : goal.returns-in-GetDeviceId
returns-in-GetDeviceId g c =
    served g.B.Buffer.bytes c.args.self.now _ c.args.body.now c.show.result c.args.to.now c.show.new.to
    live.GetDeviceId c.in-GetDeviceId.is
    (shown g.B.Buffer.bytes c.show.result c.args.to.now c.show.new.to (c.device_data.ensures ∙ ap device_data c.device.ensures) c.show.ensures) refl refl refl

pub returns-in-GetSelfTestResults : goal.returns-in-GetSelfTestResults
returns-in-GetSelfTestResults g c =
    served g.B.Buffer.bytes c.args.self.now _ c.args.body.now c.show-in-GetSelfTestResults.result c.args.to.now c.show-in-GetSelfTestResults.new.to
    live.GetSelfTestResults c.in-GetSelfTestResults.is
    c.show-in-GetSelfTestResults.ensures refl refl refl

pub returns-in-ResetWatchdog : goal.returns-in-ResetWatchdog
returns-in-ResetWatchdog g c =
    served g.B.Buffer.bytes c.args.self.now _ c.args.body.now c.reset_watchdog.result c.args.to.now c.args.to.now
    live.ResetWatchdog c.in-ResetWatchdog.is
    (c.reset_watchdog.ensures.answer (g.B.Buffer.bytes c.args.to.now))
    c.reset_watchdog.ensures.left c.reset_watchdog.ensures.records c.reset_watchdog.ensures.setup

pub returns-in-GetSensorReading : goal.returns-in-GetSensorReading
returns-in-GetSensorReading g c =
    served g.B.Buffer.bytes c.args.self.now _ c.args.body.now c.show_reading.result c.args.to.now c.show_reading.new.to
    live.GetSensorReading c.in-GetSensorReading.is
    (subst (λ (sensor : ℕ). AppendsReply g.B.Buffer.bytes c.show_reading.result c.args.to.now c.show_reading.new.to (reading_by c.args.self.now sensor)) c.byte_at.ensures c.show_reading.ensures) refl refl refl

pub returns-in-GetSdrRepositoryInfo : goal.returns-in-GetSdrRepositoryInfo
returns-in-GetSdrRepositoryInfo g c =
    served g.B.Buffer.bytes c.args.self.now _ c.args.body.now c.show-in-GetSdrRepositoryInfo.result c.args.to.now c.show-in-GetSdrRepositoryInfo.new.to
    live.GetSdrRepositoryInfo c.in-GetSdrRepositoryInfo.is
    (shown g.B.Buffer.bytes c.show-in-GetSdrRepositoryInfo.result c.args.to.now c.show-in-GetSdrRepositoryInfo.new.to (c.sdr_info.ensures) c.show-in-GetSdrRepositoryInfo.ensures) refl refl refl

pub returns-in-ReserveSdrRepository : goal.returns-in-ReserveSdrRepository
returns-in-ReserveSdrRepository g c =
    served g.B.Buffer.bytes c.args.self.now _ c.args.body.now c.show-in-ReserveSdrRepository.result c.args.to.now c.show-in-ReserveSdrRepository.new.to
    live.ReserveSdrRepository c.in-ReserveSdrRepository.is
    (shown g.B.Buffer.bytes c.show-in-ReserveSdrRepository.result c.args.to.now c.show-in-ReserveSdrRepository.new.to (c.to_le_bytes.ensures ∙ ap (to_le_bytes w16) c.reserve.ensures.number) c.show-in-ReserveSdrRepository.ensures)
    (ap (λ s. record c.args.self.now.activity { sdr = s }) (c.reserve.ensures.after ∙ ap (λ (n : ℕ). record c.args.self.now.activity.sdr { reservations = record { present = n; last = n } }) c.reserve.ensures.number)) refl refl

pub returns-in-GetSdr : goal.returns-in-GetSdr
returns-in-GetSdr g c =
    served g.B.Buffer.bytes c.args.self.now _ c.args.body.now c.show_sdr.result c.args.to.now c.show_sdr.new.to
    live.GetSdr c.in-GetSdr.is
    (subst (λ asked. AppendsReply g.B.Buffer.bytes c.show_sdr.result c.args.to.now c.show_sdr.new.to (sdr_part c.args.self.now.activity.sdr asked)) c.part_in.ensures c.show_sdr.ensures) refl refl refl

pub returns-in-GetSelInfo : goal.returns-in-GetSelInfo
returns-in-GetSelInfo g c =
    served g.B.Buffer.bytes c.args.self.now _ c.args.body.now c.show-in-GetSelInfo.result c.args.to.now c.show-in-GetSelInfo.new.to
    live.GetSelInfo c.in-GetSelInfo.is
    (shown g.B.Buffer.bytes c.show-in-GetSelInfo.result c.args.to.now c.show-in-GetSelInfo.new.to (c.sel_info.ensures ∙ ap sel_info c.info.ensures) c.show-in-GetSelInfo.ensures) refl refl refl

pub returns-in-ReserveSel : goal.returns-in-ReserveSel
returns-in-ReserveSel g c =
    served g.B.Buffer.bytes c.args.self.now _ c.args.body.now c.show-in-ReserveSel.result c.args.to.now c.show-in-ReserveSel.new.to
    live.ReserveSel c.in-ReserveSel.is
    (shown g.B.Buffer.bytes c.show-in-ReserveSel.result c.args.to.now c.show-in-ReserveSel.new.to (c.to_le_bytes-in-ReserveSel.ensures ∙ ap (to_le_bytes w16) c.reserve-in-ReserveSel.ensures.number) c.show-in-ReserveSel.ensures)
    (ap (λ s. record c.args.self.now.activity { log = s }) (c.reserve-in-ReserveSel.ensures.after ∙ ap (λ (n : ℕ). record c.args.self.now.activity.log { reservations = record { present = n; last = n } }) c.reserve-in-ReserveSel.ensures.number)) refl refl

pub returns-in-GetSelEntry : goal.returns-in-GetSelEntry
returns-in-GetSelEntry g c =
    served g.B.Buffer.bytes c.args.self.now _ c.args.body.now c.show_entry.result c.args.to.now c.show_entry.new.to
    live.GetSelEntry c.in-GetSelEntry.is
    (subst (λ asked. AppendsReply g.B.Buffer.bytes c.show_entry.result c.args.to.now c.show_entry.new.to (sel_part c.args.self.now.activity.log asked)) c.part_in-in-GetSelEntry.ensures c.show_entry.ensures) refl refl refl

pub returns-in-AddSelEntry : goal.returns-in-AddSelEntry
returns-in-AddSelEntry g c =
    served g.B.Buffer.bytes c.args.self.now _ c.args.body.now c.add_entry.result c.args.to.now c.add_entry.new.to
    live.AddSelEntry c.in-AddSelEntry.is
    c.add_entry.ensures.answer
    (ap (λ log. record c.args.self.now.activity { log = log }) c.add_entry.ensures.left) refl refl

pub returns-in-ClearSel : goal.returns-in-ClearSel
returns-in-ClearSel g c =
    served g.B.Buffer.bytes c.args.self.now _ c.args.body.now c.clear.result c.args.to.now c.clear.new.to
    live.ClearSel c.in-ClearSel.is
    c.clear.ensures.answer
    (ap (λ log. record c.args.self.now.activity { log = log }) c.clear.ensures.left) refl refl

pub returns-in-GetSelTime : goal.returns-in-GetSelTime
returns-in-GetSelTime g c =
    served g.B.Buffer.bytes c.args.self.now _ c.args.body.now c.show-in-GetSelTime.result c.args.to.now c.show-in-GetSelTime.new.to
    live.GetSelTime c.in-GetSelTime.is
    (shown g.B.Buffer.bytes c.show-in-GetSelTime.result c.args.to.now c.show-in-GetSelTime.new.to (c.to_le_bytes-in-GetSelTime.ensures ∙ ap (to_le_bytes w32) c.time.ensures) c.show-in-GetSelTime.ensures) refl refl refl

pub returns-in-SetSelTime : goal.returns-in-SetSelTime
returns-in-SetSelTime g c =
    served g.B.Buffer.bytes c.args.self.now _ c.args.body.now (Ok tt) c.args.to.now c.args.to.now
    live.SetSelTime c.in-SetSelTime.is
    (refl, sym (append-nil (g.B.Buffer.bytes c.args.to.now)))
    (ap (λ log. record c.args.self.now.activity { log = log }) (c.set_time.ensures ∙ ap (λ (seconds : ℕ). record c.args.self.now.activity.log { clock = clock_at seconds }) c.time_in.ensures)) refl refl

pub returns-in-SetBootProgress : goal.returns-in-SetBootProgress
returns-in-SetBootProgress g c =
    served g.B.Buffer.bytes c.args.self.now _ c.args.body.now c.set_boot_progress.result c.args.to.now c.args.to.now
    (live.SetBootProgress c.in-SetBootProgress.byte) c.in-SetBootProgress.is
    (c.set_boot_progress.ensures.answer (g.B.Buffer.bytes c.args.to.now))
    c.set_boot_progress.ensures.left c.set_boot_progress.ensures.records c.set_boot_progress.ensures.setup

pub returns-in-GetBootProgress : goal.returns-in-GetBootProgress
returns-in-GetBootProgress g c =
    served g.B.Buffer.bytes c.args.self.now _ c.args.body.now c.show-in-GetBootProgress.result c.args.to.now c.show-in-GetBootProgress.new.to
    live.GetBootProgress c.in-GetBootProgress.is
    (shown g.B.Buffer.bytes c.show-in-GetBootProgress.result c.args.to.now c.show-in-GetBootProgress.new.to (c.progress_data.ensures) c.show-in-GetBootProgress.ensures) refl refl refl

pub returns-in-LeaveChannelAccess : goal.returns-in-LeaveChannelAccess
returns-in-LeaveChannelAccess g c =
    served g.B.Buffer.bytes c.args.self.now _ c.args.body.now c.leave_channel.result c.args.to.now c.args.to.now
    (live.LeaveChannelAccess c.in-LeaveChannelAccess.channel) c.in-LeaveChannelAccess.is
    (c.leave_channel.ensures (g.B.Buffer.bytes c.args.to.now)) refl refl refl

pub returns-in-SetUserPassword : goal.returns-in-SetUserPassword
returns-in-SetUserPassword g c =
    served g.B.Buffer.bytes c.args.self.now _ c.args.body.now c.set_password.result c.args.to.now c.args.to.now
    live.SetUserPassword c.in-SetUserPassword.is
    (c.set_password.ensures.answer (g.B.Buffer.bytes c.args.to.now))
    c.set_password.ensures.left c.set_password.ensures.records c.set_password.ensures.setup

pub returns-in-GetTid : goal.returns-in-GetTid
returns-in-GetTid g c =
    served g.B.Buffer.bytes c.args.self.now _ c.args.body.now c.show-in-GetTid.result c.args.to.now c.show-in-GetTid.new.to
    live.GetTid c.in-GetTid.is
    (shown g.B.Buffer.bytes c.show-in-GetTid.result c.args.to.now c.show-in-GetTid.new.to (ap (λ (tid : ℕ). let xs : List ℕ = tid ∷ [] in xs) c.tid.ensures) c.show-in-GetTid.ensures) refl refl refl

pub returns-in-GetPldmTypes : goal.returns-in-GetPldmTypes
returns-in-GetPldmTypes g c =
    served g.B.Buffer.bytes c.args.self.now _ c.args.body.now c.show-in-GetPldmTypes.result c.args.to.now c.show-in-GetPldmTypes.new.to
    live.GetPldmTypes c.in-GetPldmTypes.is
    c.show-in-GetPldmTypes.ensures refl refl refl

pub returns-in-GetBiosTable : goal.returns-in-GetBiosTable
returns-in-GetBiosTable g c =
    served g.B.Buffer.bytes c.args.self.now _ c.args.body.now c.show_table.result c.args.to.now c.show_table.new.to
    live.GetBiosTable c.in-GetBiosTable.is
    c.show_table.ensures.answer
    c.show_table.ensures.activity (ap g.S.Store.records c.show_table.ensures.store) c.show_table.ensures.setup

pub returns-in-AnswerLan : goal.returns-in-AnswerLan
returns-in-AnswerLan g c =
    served g.B.Buffer.bytes c.args.self.now _ c.args.body.now c.answer_lan.result c.args.to.now c.answer_lan.new.to
    (live.AnswerLan c.in-AnswerLan.channel c.in-AnswerLan.answer) c.in-AnswerLan.is
    c.answer_lan.ensures refl refl refl
