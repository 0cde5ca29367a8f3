-- What live commands do: commands that ask for no configuration record (IPMI 2.0; DSP0240, "GetTID" and "GetPLDMTypes"; DSP0247, "GetBIOSTable").
use Rattle.std.specs.Prelude.{ℕ, ◌/◌, ◌%◌, List, [], ◌∷◌, Option, Some, None, Result, Ok, Err, Bool, true, false, ◌==◌, if◌then◌else◌}
use Rattle.two_wire.specs.Codes.{uninitialized_watchdog, invalid_data_field}
use Rattle.std.specs.Int.{w16, w32, to_le_bytes}
use Rattle.two_wire.specs.Sizes.{most_ipmi_reply_data}
use Rattle.cfg_records.specs.Records.{Records}
use Rattle.record_base.specs.Requests.{byte_at}
use Rattle.record_base.specs.declared.key.Key.TheVariants as key
use Rattle.record_base.specs.declared.message.Answered.{Answered}
use Rattle.record_base.specs.declared.device.Device.{Device}
use Rattle.cfg_records.specs.declared.board_file.BoardFile.{BoardFile}
use Rattle.record_base.specs.declared.channel.Channel.{Channel}
use Rattle.record_base.specs.declared.channel.AccessStore.TheVariants.{Neither}
use Rattle.record_base.specs.Values.{stored}
use Rattle.record_kinds.specs.Boards.{channel_at, user_at}
use Rattle.record_base.specs.declared.user.User.{User}
use Rattle.record_base.specs.Numbers.{ChannelNumber, user_in}
use Rattle.user_chan.specs.declared.password.PasswordChange.{PasswordChange}
use Rattle.user_chan.specs.declared.password.PasswordChange.TheVariants.{Disable, Enable, Set, Test}
use Rattle.user_chan.specs.Passwords.{change_of, test_answer, password_of, after_set, with_enabled}
use Rattle.watch_boot.specs.Watchdog.{was_set, live_after_reset}
use Rattle.bmc_board.specs.declared.activity.Activity.{Activity}
use Rattle.bmc_board.specs.declared.live.LiveCommand.{LiveCommand}
use Rattle.bmc_board.specs.declared.live.LiveCommand.TheVariants as live
use Rattle.sel_log.specs.declared.reservations.Reservations.{Reservations}
use Rattle.sel_log.specs.Clock.{clock_at}
use Rattle.sel_log.specs.Reservations.{next_number}
use Rattle.sel_log.specs.Log.{info_of}
use Rattle.bmc_board.specs.Storage.{sdr_info, sel_info, part_in, sdr_part, sel_part, LogGiven, added, cleared, time_in}
use Rattle.bmc_board.specs.Sensing.{reading_answer}
use Rattle.bmc_board.specs.Replies.{done, refused, unknown_code}
use Rattle.bmc_board.specs.LanCommands.{lan_answer}
use Rattle.bmc_board.specs.BiosTables.{table_answer, longest_part}

-- what Get Device ID replies: three bytes of the device, its revisions, IPMI 2.0, what it supports, and whose it is, the lowest
-- byte of a number first
abbrev pub device_data : Device → List ℕ
device_data d =
    d.id ∷ d.revision ∷ d.major ∷ d.minor.byte ∷ 0x02 ∷ d.support
    ∷ d.manufacturer.number % 256 ∷ d.manufacturer.number / 256 % 256 ∷ d.manufacturer.number / 65536 ∷ d.product % 256 ∷ d.product / 256 ∷ []

-- what Get Self Test Results replies: no error was found
abbrev pub no_error : List ℕ
no_error = 0x55 ∷ 0x00 ∷ []

-- what GetPLDMTypes replies: eight bytes, the lowest first, with a bit for each type, 0, 2 and 3
abbrev pub pldm_types : List ℕ
pldm_types = 0x0D ∷ 0 ∷ 0 ∷ 0 ∷ 0 ∷ 0 ∷ 0 ∷ 0 ∷ []

-- the watchdog timer starts where it was set once
abbrev pub reset_answer : Option (List ℕ) → ℕ → Activity → Answered × Activity
reset_answer (Some value) unknown before =
    if was_set value then (done [], record before { live = live_after_reset value before.live }) else (refused uninitialized_watchdog, before)
reset_answer None unknown before = (refused unknown, before)

-- what parameter 0 of the boot options shows: version 1, the selector 0 without a mark, and whether a set is in progress
abbrev pub progress_byte : Bool → ℕ
progress_byte true = 1
progress_byte false = 0

abbrev pub progress_data : Bool → List ℕ
progress_data progress = 1 ∷ 0 ∷ progress_byte progress ∷ []

-- the code of a set that is in progress already
abbrev pub already_in_progress : ℕ
already_in_progress = 0x81

abbrev pub with_progress : Activity → Bool → Activity
with_progress before progress = record before { boot_progress = progress }

-- a set in progress is begun where none is
abbrev pub begun : Bool → Activity → Answered × Activity
begun true before = (refused already_in_progress, before)
begun false before = (done [], with_progress before true)

-- parameter 0 becomes 00h or 01h, and without a byte it stays
abbrev pub progress_answer : Option ℕ → Activity → Answered × Activity
progress_answer None before = (done [], before)
progress_answer (Some byte) before =
    if byte == 0 then (done [], with_progress before false) else (if byte == 1 then begun before.boot_progress before else (refused invalid_data_field, before))

-- a channel with sessions has an access that could be set: that nothing of it is to change is done
abbrev pub leave_where : Option Channel → ℕ → Answered
leave_where (Some channel) unknown = done []
leave_where None unknown = refused unknown

abbrev pub leave_answer : BoardFile → ChannelNumber → Answered
leave_answer setup channel = leave_where (channel_at setup.channels.items channel.number) (unknown_code setup (key.ChannelAccess (stored channel Neither)))

-- what a test of a password answers
abbrev pub tested : Result (Unit {0}) ℕ → Answered
tested (Ok _) = done []
tested (Err code) = refused code

-- a user is disabled or enabled, a password is set, or one is tested
abbrev pub password_changed : PasswordChange → ℕ → Activity → Answered × Activity
password_changed Disable user before = (done [], record before { live = with_enabled before.live user false })
password_changed Enable user before = (done [], record before { live = with_enabled before.live user true })
password_changed (Set password) user before = (done [], record before { passwords = after_set before.passwords user password })
password_changed (Test password) user before = (tested (test_answer (password_of before.passwords user) password), before)

-- Set User Password: an unknown user is refused before the size of the password
abbrev pub password_answer : Option User → Result PasswordChange ℕ → ℕ → Activity → Answered × Activity
password_answer None change user before = (refused invalid_data_field, before)
password_answer (Some known) (Err code) user before = (refused code, before)
password_answer (Some known) (Ok change) user before = password_changed change user before

-- an answer, with the log after it
abbrev pub with_log : Activity → LogGiven → Answered × Activity
with_log before given = (given.0, record before { log = given.1 })

-- the next reservation of a list of records
abbrev pub reserved : Reservations → Reservations
reserved reservations = record { present = next_number reservations.last; last = next_number reservations.last }

-- its number
abbrev pub number_reply : Reservations → Answered
number_reply reservations = done (to_le_bytes w16 (next_number reservations.last))

-- the reply to each live command with this data, and what it leaves of what isn't configuration
abbrev pub live_answer : BoardFile → Records → Activity → LiveCommand → List ℕ → Answered × Activity
live_answer setup records before live.GetDeviceId body = (done (device_data setup.device), before)
live_answer setup records before live.GetSelfTestResults body = (done no_error, before)
live_answer setup records before live.ResetWatchdog body = reset_answer (records key.Watchdog) (unknown_code setup key.Watchdog) before
live_answer setup records before live.GetSensorReading body = (reading_answer setup records before (byte_at body 0), before)
live_answer setup records before live.GetSdrRepositoryInfo body = (done (sdr_info before.sdr), before)
live_answer setup records before live.ReserveSdrRepository body = (number_reply before.sdr.reservations, record before { sdr = record before.sdr { reservations = reserved before.sdr.reservations } })
live_answer setup records before live.GetSdr body = (sdr_part before.sdr (part_in body), before)
live_answer setup records before live.GetSelInfo body = (done (sel_info (info_of before.log)), before)
live_answer setup records before live.ReserveSel body = (number_reply before.log.reservations, record before { log = record before.log { reservations = reserved before.log.reservations } })
live_answer setup records before live.GetSelEntry body = (sel_part before.log (part_in body), before)
live_answer setup records before live.AddSelEntry body = with_log before (added before.log body)
live_answer setup records before live.ClearSel body = with_log before (cleared before.log body)
live_answer setup records before live.GetSelTime body = (done (to_le_bytes w32 before.log.clock.seconds), before)
live_answer setup records before live.SetSelTime body = (done [], record before { log = record before.log { clock = clock_at (time_in body) } })
live_answer setup records before (live.SetBootProgress byte) body = progress_answer byte before
live_answer setup records before live.GetBootProgress body = (done (progress_data before.boot_progress), before)
live_answer setup records before (live.LeaveChannelAccess channel) body = (leave_answer setup channel, before)
live_answer setup records before live.SetUserPassword body = password_answer (user_at setup.users.items (user_in (byte_at body 0)).number) (change_of body) (user_in (byte_at body 0)).number before
live_answer setup records before live.GetTid body = (done (setup.tid ∷ []), before)
live_answer setup records before live.GetPldmTypes body = (done pldm_types, before)
live_answer setup records before live.GetBiosTable body = (table_answer setup records body, before)
live_answer setup records before (live.AnswerLan channel answer) body = (lan_answer setup channel answer, before)

-- the reply to a live command has at most so many bytes of data, which fit any frame; but a part of a table, which fits a message of PLDM
abbrev pub longest_live_reply : ℕ
longest_live_reply = most_ipmi_reply_data

abbrev pub longest_live : LiveCommand → ℕ
longest_live live.GetBiosTable = longest_part
longest_live _ = longest_live_reply
