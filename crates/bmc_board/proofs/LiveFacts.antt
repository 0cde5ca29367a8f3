-- What every live command has in common: a line for each.
use Rattle.std.proofs.Common.{◌≡◌, ◌≤◌, ◌-◌, ◌%◌, subst, ℕ, nat_lt, List, [], ◌∷◌, ◌++◌, length, take, drop, Option, Some, None, Result, Ok, Err, Bool, true, false, if◌then◌else◌, ◌==◌, ◌||◌, not, refl, arith, lit≤}
use Rattle.std.proofs.lemmas.Bool.Decides.{nat_tests}
use Rattle.std.proofs.lemmas.List.{length-take}
use Rattle.std.specs.Int.{w16, to_le_bytes}
use Rattle.two_wire.specs.Codes.{success, uninitialized_watchdog, out_of_space, reservation_canceled, out_of_range, too_many_bytes, not_present, invalid_data_field, invalid_length, pldm_invalid_data, pldm_no_table, pldm_invalid_table}
use Rattle.record_base.specs.Meaning.{IsRefusal}
use Rattle.cfg_records.specs.Records.{Records}
use Rattle.record_base.specs.Requests.{byte_at}
use Rattle.record_base.specs.declared.key.Key.TheVariants as key
use Rattle.record_base.specs.declared.sensor.Sensor.{Sensor}
use Rattle.sel_log.specs.LogRecord.{kept}
use Rattle.sel_log.specs.Reservations.{is_present}
use Rattle.sel_log.specs.Log.{Log, after_clear, is_full, next_id}
use Rattle.sensor_recs.specs.declared.comparator.LastReading.{LastReading}
use Rattle.watch_boot.specs.Watchdog.{was_set, live_after_reset}
use Rattle.bmc_board.specs.declared.activity.Activity.{Activity}
use Rattle.bmc_board.specs.declared.storage.PartAsked.{PartAsked}
use Rattle.bmc_board.specs.declared.live.LiveCommand.{LiveCommand}
use Rattle.bmc_board.specs.declared.live.LiveCommand.TheVariants as live
use Rattle.bmc_board.specs.State.{state}
use Rattle.bmc_board.specs.Storage.{most_shown, part_in, part_length, part_shown, record_in, id_reply, erased, says_clear, word_at}
use Rattle.bmc_board.specs.Sensing.{reading_of}
use Rattle.bmc_board.specs.Replies.{done, refused, sessionless_channel}
use Rattle.record_base.specs.RefusalLaws.{invalid_field}
use Rattle.record_base.specs.declared.channel.Channel.{Channel}
use Rattle.record_base.specs.declared.channel.AccessStore.TheVariants.{Neither}
use Rattle.record_base.specs.Values.{stored}
use Rattle.record_kinds.specs.Boards.{channel_at, user_at, is_sessionless}
use Rattle.record_base.specs.declared.user.User.{User}
use Rattle.record_base.specs.Numbers.{user_in}
use Rattle.record_base.specs.Masks.{has}
use Rattle.user_chan.specs.declared.password.Password.{Password}
use Rattle.user_chan.specs.declared.password.Password.TheVariants.{Sixteen, Twenty}
use Rattle.user_chan.specs.declared.password.PasswordChange.{PasswordChange}
use Rattle.user_chan.specs.declared.password.PasswordChange.TheVariants.{Disable, Enable, Set as ToSet, Test}
use Rattle.user_chan.specs.Passwords.{wrong_text, wrong_size, password_in, with_password, change_of, same_password, same_size, password_of}
use Rattle.bmc_board.specs.AnyAnswer.{IsCode, UnknownIsRefused}
use Rattle.bmc_board.specs.Live.{reset_answer, already_in_progress, with_progress, begun, progress_answer, leave_where, tested, password_changed, password_answer, with_log, longest_live_reply}
use Rattle.bios_attr.specs.declared.bios_table.BiosTable.{BiosTable}
use Rattle.record_base.specs.declared.attribute.Attribute.{Attribute}
use Rattle.pldm_base.specs.Parts.{asked_offset}
use Rattle.bios_attr.specs.EntryParts.{transfer_handle}
use Rattle.bmc_board.specs.BiosTables.{values_in, table_bytes, table_numbered, table_asked, part_data, part_answer, table_where, longest_part}
use Rattle.bmc_board.specs.AnyLive.{IsLiveAnswer, AreLive}
use Rattle.bmc_board.proofs.Rightly.{code_of}
use Rattle.bmc_board.proofs.LiveReplies.{is_done, Stays, is_refused}
use Rattle.bmc_board.proofs.LanFacts as lan

-- ---- codes

-- the code of a refusal isn't a busy controller's
pub refusal_code : (code : ℕ) → IsRefusal code → IsCode code
refusal_code code is = record { not_busy = is.not_busy; is_ready = is.is_ready }

not_present_refuses : IsRefusal 0xCB
not_present_refuses = record {
  is_fault = omega arith;
  is_byte = omega arith;
  not_busy = λ same. omega arith;
  is_ready = λ same. omega arith;
}

no_effecter_refuses : IsRefusal 0x80
no_effecter_refuses = record {
  is_fault = omega arith;
  is_byte = omega arith;
  not_busy = λ same. omega arith;
  is_ready = λ same. omega arith;
}

no_attribute_refuses : IsRefusal 0x88
no_attribute_refuses = record {
  is_fault = omega arith;
  is_byte = omega arith;
  not_busy = λ same. omega arith;
  is_ready = λ same. omega arith;
}

sessionless_refuses : IsRefusal sessionless_channel
sessionless_refuses = record {
  is_fault = omega arith;
  is_byte = omega arith;
  not_busy = λ same. omega arith;
  is_ready = λ same. omega arith;
}

channel_refuses : (b : Bool) → IsRefusal (if b then sessionless_channel else invalid_data_field)
channel_refuses true = sessionless_refuses
channel_refuses false = invalid_field

pub unknown_is_refused : UnknownIsRefused
unknown_is_refused setup (key.NumericEffecter id) = no_effecter_refuses
unknown_is_refused setup (key.StateEffecter id) = no_effecter_refuses
unknown_is_refused setup (key.UserName user) = invalid_field
unknown_is_refused setup (key.UserAccess on) = invalid_field
unknown_is_refused setup (key.ChannelAccess at) = channel_refuses (is_sessionless setup at.channel.number)
unknown_is_refused setup (key.BiosAttribute handle) = no_attribute_refuses
unknown_is_refused setup (key.LanParam on) = invalid_field
unknown_is_refused setup _ = not_present_refuses

-- ---- live commands

reset_where : (asked : List ℕ) (records : Records) (value : List ℕ) (before : Activity) (b : Bool)
    → IsLiveAnswer live.ResetWatchdog asked records before (if b then (done [], record before { live = live_after_reset value before.live }) else (refused uninitialized_watchdog, before))
reset_where asked records value before true = is_done live.ResetWatchdog asked records before _ [] (omega arith)
reset_where asked records value before false = is_refused live.ResetWatchdog asked records before _ (code_of uninitialized_watchdog refl) (λ code. refl)

resets : (asked : List ℕ) (records : Records) (value : Option (List ℕ)) (unknown : ℕ) (before : Activity) → IsCode unknown → IsLiveAnswer live.ResetWatchdog asked records before (reset_answer value unknown before)
resets asked records (Some value) unknown before is = reset_where asked records value before (was_set value)
resets asked records None unknown before is = is_refused live.ResetWatchdog asked records before unknown is (λ code. refl)

reads : (asked : List ℕ) (records : Records) (before : Activity) (sensor : Option Sensor) (unknown : ℕ) (events : List ℕ) (last : Option LastReading) → IsCode unknown
    → IsLiveAnswer live.GetSensorReading asked records before (reading_of sensor unknown events last, before)
reads asked records before (Some s) unknown events last is = is_done live.GetSensorReading asked records before before _ (lit≤ tt)
reads asked records before None unknown events last is = is_refused live.GetSensorReading asked records before unknown is (λ code. refl)

not_above : (m n : ℕ) → nat_lt m n ≡ false → n ≤ m
not_above m n h = grind (arith, nat_tests)

take_few : (n : ℕ) (xs : List ℕ) → length (take n xs) ≤ n
take_few n xs = omega (arith, length-take n xs)

few_shown : (part : PartAsked) (bytes : List ℕ) (next : ℕ) → nat_lt most_shown (part_length part (length bytes - part.offset)) ≡ false
    → length (to_le_bytes w16 next ++ take (part_length part (length bytes - part.offset)) (drop part.offset bytes)) ≤ longest_live_reply
few_shown part bytes next within =
    let shown = part_length part (length bytes - part.offset) in
    let few : shown ≤ 22 = not_above 22 shown within in
    let cut : length (take shown (drop part.offset bytes)) ≤ shown = take_few shown (drop part.offset bytes) in
    omega (arith, few, cut)

part_where : (command : LiveCommand) (asked : List ℕ) (records : Records) (before : Activity) (a b c : Bool) (shown : List ℕ) → (c ≡ false → length shown ≤ longest_live_reply) → Stays command asked (state records before)
    → IsLiveAnswer command asked records before ((if a then refused reservation_canceled else (if b then refused out_of_range else (if c then refused too_many_bytes else done shown))), before)
part_where command asked records before true b c shown short stays = is_refused command asked records before _ (code_of reservation_canceled refl) stays
part_where command asked records before false true c shown short stays = is_refused command asked records before _ (code_of out_of_range refl) stays
part_where command asked records before false false true shown short stays = is_refused command asked records before _ (code_of too_many_bytes refl) stays
part_where command asked records before false false false shown short stays = is_done command asked records before before shown (short refl)

shows_part : (command : LiveCommand) (asked : List ℕ) (records : Records) (before : Activity) (part : PartAsked) (reserved : Bool) (bytes : Option (List ℕ)) (next : ℕ) → Stays command asked (state records before)
    → IsLiveAnswer command asked records before (part_shown part reserved bytes next, before)
shows_part command asked records before part reserved (Some bytes) next stays =
    part_where command asked records before _ _ _ _ (few_shown part bytes next) stays
shows_part command asked records before part reserved None next stays = is_refused command asked records before _ (code_of not_present refl) stays

add_where : (asked : List ℕ) (records : Records) (before : Activity) (b : Bool) → is_full before.log ≡ b
    → IsLiveAnswer live.AddSelEntry asked records before (with_log before (
      id_reply (if b then Err out_of_space else Ok (next_id before.log)),
      if b then record before.log { overflow = true } else record before.log { records = before.log.records ++ kept (next_id before.log) before.log.clock.seconds (record_in asked) ∷ []; last_add = before.log.clock.seconds },
    ))
add_where asked records before true full = record {
  has_code = code_of out_of_space refl;
  short = omega arith;
  left = λ fault. record { is_out_of_space = refl; was_full = full; left = refl };
}
add_where asked records before false full = is_done live.AddSelEntry asked records before _ _ (lit≤ tt)

clear_where : (asked : List ℕ) (records : Records) (before : Activity) (emptied : Log) (a b c d : Bool)
    → IsLiveAnswer live.ClearSel asked records before (with_log before (
    if a then (refused reservation_canceled, before.log)
    else (if b then (refused invalid_data_field, before.log)
    else (if c then (erased, emptied) else (if d then (erased, before.log) else (refused invalid_data_field, before.log))))))
clear_where asked records before emptied true b c d = is_refused live.ClearSel asked records before _ (code_of reservation_canceled refl) (λ code. refl)
clear_where asked records before emptied false true c d = is_refused live.ClearSel asked records before _ (code_of invalid_data_field refl) (λ code. refl)
clear_where asked records before emptied false false true d = is_done live.ClearSel asked records before _ _ (lit≤ tt)
clear_where asked records before emptied false false false true = is_done live.ClearSel asked records before before _ (lit≤ tt)
clear_where asked records before emptied false false false false = is_refused live.ClearSel asked records before _ (code_of invalid_data_field refl) (λ code. refl)

progress_where : (command : LiveCommand) (asked : List ℕ) (records : Records) (before : Activity) (progress : Bool) → Stays command asked (state records before)
    → IsLiveAnswer command asked records before (begun progress before)
progress_where command asked records before true stays = is_refused command asked records before _ (code_of already_in_progress refl) stays
progress_where command asked records before false stays = is_done command asked records before _ [] (omega arith)

progress_tests : (command : LiveCommand) (asked : List ℕ) (records : Records) (before : Activity) (a b : Bool) → Stays command asked (state records before)
    → IsLiveAnswer command asked records before (if a then (done [], with_progress before false) else (if b then begun before.boot_progress before else (refused invalid_data_field, before)))
progress_tests command asked records before true b stays = is_done command asked records before _ [] (omega arith)
progress_tests command asked records before false true stays = progress_where command asked records before before.boot_progress stays
progress_tests command asked records before false false stays = is_refused command asked records before _ (code_of invalid_data_field refl) stays

progresses : (command : LiveCommand) (asked : List ℕ) (records : Records) (before : Activity) (byte : Option ℕ) → Stays command asked (state records before)
    → IsLiveAnswer command asked records before (progress_answer byte before)
progresses command asked records before None stays = is_done command asked records before before [] (omega arith)
progresses command asked records before (Some byte) stays = progress_tests command asked records before (byte == 0) (byte == 1) stays

leaves : (command : LiveCommand) (asked : List ℕ) (records : Records) (before : Activity) (channel : Option Channel) (unknown : ℕ) → IsCode unknown → Stays command asked (state records before)
    → IsLiveAnswer command asked records before (leave_where channel unknown, before)
leaves command asked records before (Some c) unknown is stays = is_done command asked records before before [] (omega arith)
leaves command asked records before None unknown is stays = is_refused command asked records before unknown is stays

-- the codes of Set User Password
with_code : (to : Password → PasswordChange) (r : Result Password ℕ) (code : ℕ) → ((c : ℕ) → r ≡ Err c → IsCode c) → with_password to r ≡ Err code → IsCode code
with_code to (Ok password) code is e = cc
with_code to (Err c) code is e = let same : c ≡ code = cc in subst IsCode same (is c refl)

password_where : (b : Bool) (password : Password) (code : ℕ) → (if b then Ok password else Err invalid_length) ≡ Err code → IsCode code
password_where true password code e = cc
password_where false password code e = let same : invalid_length ≡ code = cc in subst IsCode same (code_of invalid_length refl)

password_code : (twenty : Bool) (bytes : List ℕ) (code : ℕ) → password_in twenty bytes ≡ Err code → IsCode code
password_code true bytes code e = password_where (length bytes == 20) (Twenty bytes) code e
password_code false bytes code e = password_where (length bytes == 16) (Sixteen bytes) code e

change_where : (a b c twenty : Bool) (bytes : List ℕ) (code : ℕ)
    → (if a then Ok Disable else (if b then Ok Enable else (if c then with_password ToSet (password_in twenty bytes) else with_password Test (password_in twenty bytes)))) ≡ Err code → IsCode code
change_where true b c twenty bytes code e = cc
change_where false true c twenty bytes code e = cc
change_where false false true twenty bytes code e = with_code ToSet (password_in twenty bytes) code (password_code twenty bytes) e
change_where false false false twenty bytes code e = with_code Test (password_in twenty bytes) code (password_code twenty bytes) e

change_code : (body : List ℕ) (code : ℕ) → change_of body ≡ Err code → IsCode code
change_code body code e = change_where (byte_at body 1 % 4 == 0) (byte_at body 1 % 4 == 1) (byte_at body 1 % 4 == 2) (has (byte_at body 0) 7) (drop 2 body) code e

tested_where : (command : LiveCommand) (asked : List ℕ) (records : Records) (before : Activity) (a b : Bool) → Stays command asked (state records before)
    → IsLiveAnswer command asked records before (tested (if a then Ok tt else Err (if b then wrong_text else wrong_size)), before)
tested_where command asked records before true b stays = is_done command asked records before before [] (omega arith)
tested_where command asked records before false true stays = is_refused command asked records before _ (code_of wrong_text refl) stays
tested_where command asked records before false false stays = is_refused command asked records before _ (code_of wrong_size refl) stays

changes_password : (command : LiveCommand) (asked : List ℕ) (records : Records) (before : Activity) (change : PasswordChange) (user : ℕ) → Stays command asked (state records before)
    → IsLiveAnswer command asked records before (password_changed change user before)
changes_password command asked records before Disable user stays = is_done command asked records before _ [] (omega arith)
changes_password command asked records before Enable user stays = is_done command asked records before _ [] (omega arith)
changes_password command asked records before (ToSet password) user stays = is_done command asked records before _ [] (omega arith)
changes_password command asked records before (Test password) user stays =
    tested_where command asked records before (same_password (password_of before.passwords user) password) (same_size (password_of before.passwords user) password) stays

passwords : (command : LiveCommand) (asked : List ℕ) (records : Records) (before : Activity) (known : Option User) (change : Result PasswordChange ℕ) (user : ℕ) → ((code : ℕ) → change ≡ Err code → IsCode code)
    → Stays command asked (state records before) → IsLiveAnswer command asked records before (password_answer known change user before)
passwords command asked records before None change user is stays = is_refused command asked records before _ (code_of invalid_data_field refl) stays
passwords command asked records before (Some known) (Err code) user is stays = is_refused command asked records before code (is code refl) stays
passwords command asked records before (Some known) (Ok change) user is stays = changes_password command asked records before change user stays

-- a part of a table is short, and the codes are none of a busy controller's
pub part_long : (table : List ℕ) (offset : ℕ) → length (part_data table offset) ≤ longest_part
part_long table offset = omega (arith, length-take 192 (drop offset table))

shows_part_of : (asked : List ℕ) (records : Records) (before : Activity) (table : List ℕ) (offset : Option ℕ) → IsLiveAnswer live.GetBiosTable asked records before (part_answer table offset, before)
shows_part_of asked records before table (Some offset) = record { has_code = code_of success refl; short = part_long table offset; left = λ fault. absurd (fault refl) }
shows_part_of asked records before table None = is_refused live.GetBiosTable asked records before _ (code_of pldm_invalid_data refl) (λ code. refl)

shows_table : (asked : List ℕ) (records : Records) (before : Activity) (table : Result BiosTable ℕ) (bytes_of : BiosTable → List ℕ) → ((code : ℕ) → table ≡ Err code → IsCode code)
    → IsLiveAnswer live.GetBiosTable asked records before (table_where table asked bytes_of, before)
shows_table asked records before (Ok table) bytes_of is = shows_part_of asked records before (bytes_of table) (asked_offset (bytes_of table) (byte_at asked 4) (transfer_handle asked))
shows_table asked records before (Err code) bytes_of is = is_refused live.GetBiosTable asked records before code (is code refl) (λ code. refl)

code_where : (a b : Bool) (table : BiosTable) (code : ℕ) → (if a then Err pldm_invalid_table else (if b then Err pldm_no_table else Ok table)) ≡ Err code → IsCode code
code_where true b table code e = let same : pldm_invalid_table ≡ code = cc in subst IsCode same (code_of pldm_invalid_table refl)
code_where false true table code e = let same : pldm_no_table ≡ code = cc in subst IsCode same (code_of pldm_no_table refl)
code_where false false table code e = cc

asked_code : (attributes : List Attribute) (number : ℕ) (code : ℕ) → table_asked attributes number ≡ Err code → IsCode code
asked_code attributes number code e = code_where (nat_lt 3 number) ((number == 3) || (length attributes == 0)) (table_numbered number) code e

pub are_live : AreLive
are_live setup records before live.GetDeviceId asked = is_done live.GetDeviceId asked records before before _ (lit≤ tt)
are_live setup records before live.GetSelfTestResults asked = is_done live.GetSelfTestResults asked records before before _ (lit≤ tt)
are_live setup records before live.ResetWatchdog asked = resets asked records (records key.Watchdog) _ before (refusal_code _ (unknown_is_refused setup key.Watchdog))
are_live setup records before live.GetSensorReading asked = reads asked records before _ _ _ _ (refusal_code _ (unknown_is_refused setup (key.EventEnable (byte_at asked 0))))
are_live setup records before live.GetSdrRepositoryInfo asked = is_done live.GetSdrRepositoryInfo asked records before before _ (lit≤ tt)
are_live setup records before live.ReserveSdrRepository asked = is_done live.ReserveSdrRepository asked records before _ _ (lit≤ tt)
are_live setup records before live.GetSdr asked = shows_part live.GetSdr asked records before (part_in asked) _ _ _ (λ code. refl)
are_live setup records before live.GetSelInfo asked = is_done live.GetSelInfo asked records before before _ (lit≤ tt)
are_live setup records before live.ReserveSel asked = is_done live.ReserveSel asked records before _ _ (lit≤ tt)
are_live setup records before live.GetSelEntry asked = shows_part live.GetSelEntry asked records before (part_in asked) _ _ _ (λ code. refl)
are_live setup records before live.AddSelEntry asked = add_where asked records before (is_full before.log) refl
are_live setup records before live.ClearSel asked =
    clear_where asked records before (after_clear before.log (word_at asked 0)) (not (is_present before.log.reservations (word_at asked 0))) (not (says_clear asked)) (byte_at asked 5 == 0xAA) (byte_at asked 5 == 0x00)
are_live setup records before live.GetSelTime asked = is_done live.GetSelTime asked records before before _ (lit≤ tt)
are_live setup records before live.SetSelTime asked = is_done live.SetSelTime asked records before _ [] (omega arith)
are_live setup records before (live.SetBootProgress byte) asked = progresses (live.SetBootProgress byte) asked records before byte (λ code. refl)
are_live setup records before live.GetBootProgress asked = is_done live.GetBootProgress asked records before before _ (lit≤ tt)
are_live setup records before (live.LeaveChannelAccess channel) asked = leaves (live.LeaveChannelAccess channel) asked records before (channel_at setup.channels.items channel.number) _ (refusal_code _ (unknown_is_refused setup (key.ChannelAccess (stored channel Neither)))) (λ code. refl)
are_live setup records before live.SetUserPassword asked = passwords live.SetUserPassword asked records before (user_at setup.users.items (user_in (byte_at asked 0)).number) (change_of asked) (user_in (byte_at asked 0)).number (change_code asked) (λ code. refl)
are_live setup records before live.GetTid asked = is_done live.GetTid asked records before before _ (lit≤ tt)
are_live setup records before live.GetPldmTypes asked = is_done live.GetPldmTypes asked records before before _ (lit≤ tt)
are_live setup records before live.GetBiosTable asked = shows_table asked records before (table_asked setup.attributes.items (byte_at asked 5)) (table_bytes setup.attributes.items (values_in records)) (asked_code setup.attributes.items (byte_at asked 5))
are_live setup records before (live.AnswerLan channel answer) asked = lan.answers setup records before channel answer asked
