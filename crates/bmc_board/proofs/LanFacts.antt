-- The commands of LAN parameters: they ask rightly, a request with a parameter is read, and one without is answered.
use Rattle.std.proofs.Common.{◌≡◌, ℕ, ◌/◌, ◌%◌, ◌<◌, ◌==◌, ap, List, Bool, true, false, if◌then◌else◌, Option, Some, None, Result, Ok, refl, arith, lit≤}
use Rattle.two_wire.specs.Codes.{invalid_length, invalid_data_field}
use Rattle.record_base.specs.declared.op.Op.TheVariants as op
use Rattle.record_base.specs.declared.lan_parameter.LanAddress.TheVariants.{Ip, SubnetMask, DefaultGateway}
use Rattle.record_base.specs.declared.lan_parameter.LanParameter.{LanParameter}
use Rattle.record_base.specs.declared.lan_parameter.LanParameter.TheVariants as parameter
use Rattle.record_base.specs.declared.lan_parameter.LanChange.{LanChange}
use Rattle.record_base.specs.declared.lan_parameter.LanChange.TheVariants.{Address, AddressSource, Vlan}
use Rattle.record_base.specs.declared.lan.Lan.{Lan}
use Rattle.record_base.specs.LanItems.{lan_key}
use Rattle.record_base.specs.Masks.{has}
use Rattle.record_base.specs.Numbers.{ChannelNumber}
use Rattle.record_base.specs.NumberLaws.{low_bits_again}
use Rattle.cfg_records.specs.declared.board_file.BoardFile.{BoardFile}
use Rattle.cfg_records.specs.Records.{Records}
use Rattle.user_chan.specs.LanRequests.{lan_request_in, lan_shown_in, shown_in}
use Rattle.user_chan.specs.declared.lan_request.LanAnswer.{LanAnswer}
use Rattle.user_chan.specs.declared.lan_request.LanAnswer.TheVariants.{Revision, Unsupported, WrongLength}
use Rattle.user_chan.specs.declared.lan_request.LanRequest.{LanRequest}
use Rattle.user_chan.specs.declared.lan_request.LanRequest.TheVariants as to_set
use Rattle.user_chan.specs.declared.lan_request.LanShown.{LanShown}
use Rattle.user_chan.specs.declared.lan_request.LanShown.TheVariants as to_show
use Rattle.record_kinds.specs.Lans.{lan_at}
use Rattle.record_kinds.specs.Limits.{get_asked}
use Rattle.record_kinds.specs.Series.{set_whole}
use Rattle.bmc_board.specs.declared.activity.Activity.{Activity}
use Rattle.bmc_board.specs.declared.live.LiveCommand.TheVariants as live
use Rattle.bmc_board.specs.Asks as request
use Rattle.bmc_board.specs.Asks.{Request}
use Rattle.bmc_board.specs.Request.{asked_by}
use Rattle.bmc_board.specs.LanCommands.{lan_set, lan_get, lan_set_asked, lan_get_asked, unsupported_parameter, lan_where, lan_answer}
use Rattle.bmc_board.specs.Replies.{refused}
use Rattle.bmc_board.specs.AnyAnswer.{IsCode}
use Rattle.bmc_board.specs.AnyLive.{IsLiveAnswer}
use Rattle.bmc_board.proofs.Rightly.{is_right, code_of}
use Rattle.bmc_board.proofs.LiveReplies.{is_done, is_refused}

-- ---- they ask rightly

set_right_of : (asked : LanRequest) → is_right 24 true (Ok (lan_set asked)) ≡ true
set_right_of (to_set.Param change) = refl
set_right_of (to_set.Other channel answer) = refl

pub set_right : (body : List ℕ) → is_right 24 true (Ok (lan_set_asked body)) ≡ true
set_right body = set_right_of (lan_request_in body)

get_right_of : (asked : LanShown) → is_right 24 false (Ok (lan_get asked)) ≡ true
get_right_of (to_show.Param on) = refl
get_right_of (to_show.Other channel answer) = refl

pub get_right : (body : List ℕ) → is_right 24 false (Ok (lan_get_asked body)) ≡ true
get_right body = get_right_of (lan_shown_in body)

-- ---- each request for a parameter, and each that sets one, is read as what it asks for

-- a channel's number has no bit 7
low : (n : ℕ) → n < 16 → n / 128 % 2 ≡ 0
low n lt = omega arith

no_mark : (c : ChannelNumber) → has c.number 7 ≡ false
no_mark c = ap (λ (bit : ℕ). bit == 1) (low c.number c.below)

-- what a Get asks for, by whether it has the mark
abbrev asks_where : Bool → ChannelNumber → LanShown → Result Request ℕ
asks_where mark channel shown = Ok (lan_get (if mark then to_show.Other channel Revision else shown))

abbrev GetIsRead : ChannelNumber → LanParameter → Type 0
GetIsRead c p = asked_by (get_asked (lan_key c p)) ≡ Ok (request.Get (lan_key c p))

pub get_read : (c : ChannelNumber) (p : LanParameter) → GetIsRead c p
get_read c (parameter.Address Ip) = λ i. asks_where (no_mark c i) (low_bits_again c i) (shown_in (low_bits_again c i) (Some (parameter.Address Ip)))
get_read c parameter.AddressSource = λ i. asks_where (no_mark c i) (low_bits_again c i) (shown_in (low_bits_again c i) (Some parameter.AddressSource))
get_read c (parameter.Address SubnetMask) = λ i. asks_where (no_mark c i) (low_bits_again c i) (shown_in (low_bits_again c i) (Some (parameter.Address SubnetMask)))
get_read c (parameter.Address DefaultGateway) = λ i. asks_where (no_mark c i) (low_bits_again c i) (shown_in (low_bits_again c i) (Some (parameter.Address DefaultGateway)))
get_read c parameter.Vlan = λ i. asks_where (no_mark c i) (low_bits_again c i) (shown_in (low_bits_again c i) (Some parameter.Vlan))

-- the operation with another channel
abbrev asks_to_set : ChannelNumber → LanChange → Result Request ℕ
asks_to_set c change = Ok (request.Set (op.LanParam (record { channel = c; change = change })))

abbrev SetIsRead : ChannelNumber → LanChange → Type 0
SetIsRead c change = asked_by (set_whole (op.LanParam (record { channel = c; change = change }))) ≡ asks_to_set c change

pub set_read : (c : ChannelNumber) (change : LanChange) → SetIsRead c change
set_read c (Address Ip a) = λ i. asks_to_set (low_bits_again c i) (Address Ip a)
set_read c (Address SubnetMask a) = λ i. asks_to_set (low_bits_again c i) (Address SubnetMask a)
set_read c (Address DefaultGateway a) = λ i. asks_to_set (low_bits_again c i) (Address DefaultGateway a)
set_read c (AddressSource byte) = λ i. asks_to_set (low_bits_again c i) (AddressSource byte)
set_read c (Vlan vlan) = λ i. asks_to_set (low_bits_again c i) (Vlan vlan)

-- ---- a request that names no parameter is answered

refuses : (channel : ChannelNumber) (answer : LanAnswer) (asked : List ℕ) (records : Records) (before : Activity) (code : ℕ) → IsCode code
    → IsLiveAnswer (live.AnswerLan channel answer) asked records before (refused code, before)
refuses channel answer asked records before code is = is_refused (live.AnswerLan channel answer) asked records before code is (λ code. refl)

answers_where : (lan : Option Lan) (channel : ChannelNumber) (answer : LanAnswer) (asked : List ℕ) (records : Records) (before : Activity)
    → IsLiveAnswer (live.AnswerLan channel answer) asked records before (lan_where lan answer, before)
answers_where (Some lan) channel Revision asked records before = is_done (live.AnswerLan channel Revision) asked records before before _ (lit≤ tt)
answers_where (Some lan) channel Unsupported asked records before = refuses channel Unsupported asked records before _ (code_of unsupported_parameter refl)
answers_where (Some lan) channel WrongLength asked records before = refuses channel WrongLength asked records before _ (code_of invalid_length refl)
answers_where None channel answer asked records before = refuses channel answer asked records before _ (code_of invalid_data_field refl)

pub answers : (setup : BoardFile) (records : Records) (before : Activity) (channel : ChannelNumber) (answer : LanAnswer) (asked : List ℕ)
    → IsLiveAnswer (live.AnswerLan channel answer) asked records before (lan_answer setup channel answer, before)
answers setup records before channel answer asked = answers_where (lan_at setup.lans.items channel.number) channel answer asked records before
