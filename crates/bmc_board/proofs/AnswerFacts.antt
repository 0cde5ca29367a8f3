-- What every answer has in common.
use Rattle.std.proofs.Common.{◌≡◌, ◌≢◌, ℕ, ◌≤◌, List, [], length, Option, Some, None, Result, Ok, Err, Bool, refl, sym, ◌∙◌, subst, arith}
use Rattle.std.specs.Int.{w32, to_le_bytes}
use Rattle.two_wire.specs.Codes.{success, pldm_invalid_data}
use Rattle.two_wire.specs.Sizes.{most_pldm_reply_data}
use Rattle.pldm_base.specs.Parts.{asked_of_entry}
use Rattle.record_kinds.specs.Limits.{key_of, limits_at}
use Rattle.record_base.specs.Meaning.{DecidesValue, room_for}
use Rattle.record_base.specs.declared.key.Key.{Key}
use Rattle.record_base.specs.declared.key.Key.TheVariants as key
use Rattle.record_base.specs.declared.op.Op.{Op}
use Rattle.record_base.specs.declared.live.Live.{Live as LivePart}
use Rattle.record_base.specs.declared.message.Asked.{Asked}
use Rattle.cfg_records.specs.declared.board_file.BoardFile.{BoardFile}
use Rattle.record_kinds.specs.declared.limits.Limits.{Limits}
use Rattle.record_kinds.specs.Limits.{is_of, sets, outcome, get_asked, set_asked}
use Rattle.record_kinds.specs.LimitsLaws as laws
use Rattle.record_kinds.specs.SeriesLaws.{first_short}
use Rattle.record_kinds.specs.Sound.{AreSoundRecords, IsSoundAt}
use Rattle.record_kinds.specs.SoundLaws.{sound_set, sound_with}
use Rattle.record_base.specs.declared.bios_attribute.SetBiosAttribute.{SetBiosAttribute}
use Rattle.record_kinds.specs.Stagings.{start_outcome, add_outcome, end_outcome}
use Rattle.record_kinds.specs.declared.set_part.SetPart.{SetPart}
use Rattle.record_kinds.specs.declared.set_part.SetPart.TheVariants.{Start, Middle, End}
pub use Rattle.record_kinds.proofs.LimitsOf.{limits_are_of}
use Rattle.record_kinds.proofs.Written.{IsWritten, written}
use Rattle.bmc_board.specs.Request.{Request}
use Rattle.bmc_board.specs.Request.{Live, Get, Set, SetStores, PartOfSet, LaterPart}
use Rattle.record_base.specs.declared.channel.SetChannelAccess.{SetChannelAccess}
use Rattle.record_base.specs.declared.op.Op.TheVariants as of_kind
use Rattle.cfg_records.specs.Records.{with_record}
use Rattle.bmc_board.specs.Table.{is_changing}
use Rattle.bmc_board.specs.Request.{asked_by}
use Rattle.bmc_board.specs.State.{State}
use Rattle.bmc_board.specs.Leaves.{RefusalLeaves}
use Rattle.bmc_board.specs.Replies.{done, refused, unknown_code}
use Rattle.bmc_board.specs.Room.{longest_reply}
use Rattle.bmc_board.specs.Answer.{AnswerAndState, get_answer, set_result, set_answer, outcome_at, both_given, set_at, staged, ended, part_given, serve, reply, answer_of}
use Rattle.bmc_board.specs.AttributeParts.{named_in, limits_named, entry_shown, later_answer}
use Rattle.bios_attr.specs.BiosAttribute.{get_next_part}
use Rattle.bmc_board.specs.BiosTables.{part_answer, longest_part}
use Rattle.bmc_board.specs.AnyAnswer.{IsCode, NeverBusy, RefusedLeaves, StaysSound, AnswersFit}
use Rattle.bmc_board.proofs.Rightly.{code_of}
use Rattle.bmc_board.proofs.AskedFacts.{IsRight, asked_right}
use Rattle.bmc_board.proofs.LiveFacts.{refusal_code, unknown_is_refused, are_live, part_long}
use Rattle.bmc_board.proofs.PartFacts.{Refuses, start_code, add_code, end_code, not_unstaged, unstaged_records}
use Rattle.bmc_board.proofs.BothFacts.{outcome_code}

-- ---- its code is not a busy controller's, and what a refusal leaves

record IsProper (r : Result Request ℕ) (before : State) (given : AnswerAndState) : Type 0 where
  has_code : IsCode given.0.code
  left : given.0.code ≢ success → RefusalLeaves r given.0.code before given.1

done_proper : (r : Result Request ℕ) (before after : State) (body : List ℕ) → IsProper r before (done body, after)
done_proper r before after body = record { has_code = code_of success refl; left = λ fault. absurd (fault refl) }

refused_proper : (r : Result Request ℕ) (before : State) (fault : ℕ) → IsCode fault → RefusalLeaves r fault before before → IsProper r before (refused fault, before)
refused_proper r before fault is stays = record { has_code = is; left = λ _. stays }

get_proper : (key : Key) (limits : Option Limits) (value : Option (List ℕ)) (live : LivePart) (unknown : ℕ) (before : State) → IsCode unknown → IsProper (Ok (Get key)) before (get_answer limits value live unknown, before)
get_proper key (Some limits) (Some value) live unknown before is = done_proper (Ok (Get key)) before before _
get_proper key (Some limits) None live unknown before is = refused_proper (Ok (Get key)) before unknown is refl
get_proper key None (Some value) live unknown before is = refused_proper (Ok (Get key)) before unknown is refl
get_proper key None None live unknown before is = refused_proper (Ok (Get key)) before unknown is refl

result_proper : (limits : Limits) (old : List ℕ) (op : Op) (before : State) (r : Result (List ℕ) ℕ) → outcome limits op old ≡ r → IsProper (Ok (Set op)) before (set_result r op before)
result_proper limits old op before (Ok new) e = done_proper (Ok (Set op)) before _ _
result_proper limits old op before (Err fault) e = refused_proper (Ok (Set op)) before fault (refusal_code fault ((laws.record_laws limits).refuses op old fault e)) refl

set_proper : (limits : Option Limits) (value : Option (List ℕ)) (unknown : ℕ) (op : Op) (before : State) → IsCode unknown → IsProper (Ok (Set op)) before (set_answer limits value unknown op before)
set_proper (Some limits) (Some old) unknown op before is = result_proper limits old op before (outcome limits op old) refl
set_proper (Some limits) None unknown op before is = refused_proper (Ok (Set op)) before unknown is refl
set_proper None (Some old) unknown op before is = refused_proper (Ok (Set op)) before unknown is refl
set_proper None None unknown op before is = refused_proper (Ok (Set op)) before unknown is refl

unknown_is_code : (setup : BoardFile) (key : Key) → IsCode (unknown_code setup key)
unknown_is_code setup key = refusal_code _ (unknown_is_refused setup key)

outcome_is_code : (setup : BoardFile) (before : State) (op : Op) (code : ℕ) → outcome_at setup before op ≡ Err code → IsCode code
outcome_is_code setup before op code is = outcome_code (limits_at setup (key_of op)) (before.records (key_of op)) (unknown_code setup (key_of op)) op code (unknown_is_code setup (key_of op)) is

both_proper : (first second : SetChannelAccess) (before : State) (key other : Key) (a b : Result (List ℕ) ℕ) → ((code : ℕ) → a ≡ Err code → IsCode code) → ((code : ℕ) → b ≡ Err code → IsCode code)
    → IsProper (Ok (SetStores first second)) before (both_given a b key other before)
both_proper first second before key other (Ok new) (Ok value) p q = done_proper (Ok (SetStores first second)) before _ []
both_proper first second before key other (Ok new) (Err code) p q = refused_proper (Ok (SetStores first second)) before code (q code refl) refl
both_proper first second before key other (Err code) (Ok value) p q = refused_proper (Ok (SetStores first second)) before code (p code refl) refl
both_proper first second before key other (Err code) (Err later) p q = refused_proper (Ok (SetStores first second)) before code (p code refl) refl

-- a part that is staged changes no record, and the last part is a Set
staged_proper : (from : ℕ) (part : SetPart) (before : State) (r : Result (List ℕ) ℕ) → Refuses r → IsProper (Ok (PartOfSet from part)) before (staged from before r)
staged_proper from part before (Ok entry) is = done_proper (Ok (PartOfSet from part)) before _ _
staged_proper from part before (Err code) is = refused_proper (Ok (PartOfSet from part)) before code (refusal_code code is) refl

ended_proper : (setup : BoardFile) (from : ℕ) (part : SetPart) (before : State) (r : Result SetBiosAttribute ℕ) → Refuses r → IsProper (Ok (PartOfSet from part)) before (ended setup from before r)
ended_proper setup from part before (Ok change) is =
    let op : Op = of_kind.BiosAttribute change in
    let set : IsProper (Ok (Set op)) before (set_at setup before op) = set_proper _ _ _ op before (unknown_is_code setup (key_of op)) in
    record { has_code = set.has_code; left = λ fault. not_unstaged from (set_at setup before op).0.code (set_at setup before op).1 fault ∙ set.left fault }
ended_proper setup from part before (Err code) is = refused_proper (Ok (PartOfSet from part)) before code (refusal_code code is) refl

part_proper : (setup : BoardFile) (from : ℕ) (part : SetPart) (before : State) → IsProper (Ok (PartOfSet from part)) before (part_given setup from before part)
part_proper setup from (Start entry) before = staged_proper from (Start entry) before _ (start_code (limits_named setup (named_in entry)) before.activity.stagings from entry)
part_proper setup from (Middle handle bytes) before = staged_proper from (Middle handle bytes) before _ (add_code before.activity.stagings from handle bytes)
part_proper setup from (End handle bytes) before = ended_proper setup from (End handle bytes) before _ (end_code before.activity.stagings from handle bytes)

later_proper : (handle transfer : ℕ) (limits : Option Limits) (value : Option (List ℕ)) (live : LivePart) (unknown : ℕ) (before : State) → IsCode unknown
    → IsProper (Ok (LaterPart handle transfer)) before (later_answer limits value live unknown transfer, before)
later_proper handle transfer (Some limits) (Some value) live unknown before is = part_of (entry_shown limits value live) (asked_of_entry (entry_shown limits value live) get_next_part transfer)
  where
    part_of : (entry : List ℕ) (offset : Option ℕ) → IsProper (Ok (LaterPart handle transfer)) before (part_answer entry offset, before)
    part_of entry (Some offset) = done_proper (Ok (LaterPart handle transfer)) before before _
    part_of entry None = refused_proper (Ok (LaterPart handle transfer)) before pldm_invalid_data (code_of pldm_invalid_data refl) refl
later_proper handle transfer (Some limits) None live unknown before is = refused_proper (Ok (LaterPart handle transfer)) before unknown is refl
later_proper handle transfer None (Some value) live unknown before is = refused_proper (Ok (LaterPart handle transfer)) before unknown is refl
later_proper handle transfer None None live unknown before is = refused_proper (Ok (LaterPart handle transfer)) before unknown is refl

serve_proper : (setup : BoardFile) (before : State) (request : Request) → IsProper (Ok request) before (serve setup before request)
serve_proper setup before (Live command body) = let is = are_live setup before.records before.activity command body in record { has_code = is.has_code; left = is.left }
serve_proper setup before (Get key) = get_proper key _ _ before.activity.live _ before (unknown_is_code setup key)
serve_proper setup before (Set op) = set_proper _ _ _ op before (unknown_is_code setup (key_of op))
serve_proper setup before (SetStores first second) = both_proper first second before _ _ _ _ (outcome_is_code setup before (of_kind.ChannelAccess first)) (outcome_is_code setup before (of_kind.ChannelAccess second))
serve_proper setup before (PartOfSet from part) = part_proper setup from part before
serve_proper setup before (LaterPart handle transfer) =
    let named : Key = key.BiosAttribute handle in
    later_proper handle transfer (limits_at setup named) (before.records named) before.activity.live (unknown_code setup named) before (unknown_is_code setup named)

reply_proper : (setup : BoardFile) (before : State) (room : ℕ) (changing : Bool) (r : Result Request ℕ) → IsRight room changing r → IsProper r before (reply setup before r)
reply_proper setup before room changing (Ok request) right = serve_proper setup before request
reply_proper setup before room changing (Err fault) right = refused_proper (Err fault) before fault right refl

answer_proper : (setup : BoardFile) (before : State) (asked : Asked) → IsProper (asked_by asked) before (answer_of setup before asked)
answer_proper setup before asked = reply_proper setup before (room_for asked) (is_changing asked) (asked_by asked) (asked_right asked)

pub never_busy : NeverBusy
never_busy setup before asked = (answer_proper setup before asked).has_code

pub refused_leaves : RefusedLeaves
refused_leaves setup before asked = (answer_proper setup before asked).left

-- ---- its data fits the frame or message that carries it, and each record keeps a valid value

record IsFit (setup : BoardFile) (room : ℕ) (given : AnswerAndState) : Type 0 where
  short : length given.0.body ≤ room
  sound : AreSoundRecords setup given.1.records

refused_fit : (setup : BoardFile) (room fault : ℕ) (before : State) → AreSoundRecords setup before.records → IsFit setup room (refused fault, before)
refused_fit setup room fault before sound = record { short = omega arith; sound = sound }

get_short : (limits : Option Limits) (value : Option (List ℕ)) (live : LivePart) (unknown : ℕ) (key : Key) (room : ℕ) → ((l : Limits) → limits ≡ Some l → is_of l key) → IsSoundAt limits value → room_for (get_asked key) ≤ room
    → length (get_answer limits value live unknown).body ≤ room
get_short (Some l) (Some v) live unknown key room of sound le = omega (arith, first_short l key v live (of l refl) sound)
get_short (Some l) None live unknown key room of sound le = omega arith
get_short None (Some v) live unknown key room of sound le = omega arith
get_short None None live unknown key room of sound le = omega arith

result_fit : (setup : BoardFile) (room : ℕ) (limits : Limits) (old : List ℕ) (op : Op) (before : State) (r : Result (List ℕ) ℕ) → AreSoundRecords setup before.records → limits_at setup (key_of op) ≡ Some limits → before.records (key_of op) ≡ Some old
    → DecidesValue r (sets limits op old) → room_for (set_asked op) ≤ room → IsFit setup room (set_result r op before)
result_fit setup room limits old op before (Ok new) sound at had is le = record {
  short = omega (arith, laws.kind_laws.set_short op);
  sound = sound_set setup before.records (key_of op) limits op old new sound at had is;
}
result_fit setup room limits old op before (Err fault) sound at had is le = refused_fit setup room fault before sound

set_fit : (setup : BoardFile) (room : ℕ) (limits : Option Limits) (value : Option (List ℕ)) (unknown : ℕ) (op : Op) (before : State) → AreSoundRecords setup before.records → limits_at setup (key_of op) ≡ limits → before.records (key_of op) ≡ value
    → room_for (set_asked op) ≤ room → IsFit setup room (set_answer limits value unknown op before)
set_fit setup room (Some l) (Some old) unknown op before sound at had le = result_fit setup room l old op before (outcome l op old) sound at had ((laws.record_laws l).decides op old) le
set_fit setup room (Some l) None unknown op before sound at had le = refused_fit setup room unknown before sound
set_fit setup room None (Some old) unknown op before sound at had le = refused_fit setup room unknown before sound
set_fit setup room None None unknown op before sound at had le = refused_fit setup room unknown before sound

both_fit : (setup : BoardFile) (room : ℕ) (first second : Op) (before : State) (a b : Result (List ℕ) ℕ) → AreSoundRecords setup before.records
    → ((new : List ℕ) → a ≡ Ok new → IsWritten setup first new) → ((new : List ℕ) → b ≡ Ok new → IsWritten setup second new) → IsFit setup room (both_given a b (key_of first) (key_of second) before)
both_fit setup room first second before (Ok new) (Ok value) sound p q =
    let one = p new refl in
    let two = q value refl in
    record {
      short = omega arith;
      sound = sound_with setup (with_record before.records (key_of first) new) (key_of second) two.limits value (sound_with setup before.records (key_of first) one.limits new sound one.at one.is_valid) two.at two.is_valid;
    }
both_fit setup room first second before (Ok new) (Err code) sound p q = refused_fit setup room code before sound
both_fit setup room first second before (Err code) (Ok value) sound p q = refused_fit setup room code before sound
both_fit setup room first second before (Err code) (Err later) sound p q = refused_fit setup room code before sound

staged_fit : (setup : BoardFile) (room from : ℕ) (before : State) (r : Result (List ℕ) ℕ) → AreSoundRecords setup before.records → most_pldm_reply_data ≤ room → IsFit setup room (staged from before r)
staged_fit setup room from before (Ok entry) sound le = let four : length (to_le_bytes w32 (length entry)) ≡ 4 = refl in record { short = omega (arith, four, le); sound = sound }
staged_fit setup room from before (Err code) sound le = refused_fit setup room code before sound

ended_fit : (setup : BoardFile) (room from : ℕ) (before : State) (r : Result SetBiosAttribute ℕ) → AreSoundRecords setup before.records → most_pldm_reply_data ≤ room → IsFit setup room (ended setup from before r)
ended_fit setup room from before (Ok change) sound le =
    let op : Op = of_kind.BiosAttribute change in
    let given : AnswerAndState = set_at setup before op in
    let set : IsFit setup room given = set_fit setup room _ _ _ op before sound refl refl le in
    record { short = set.short; sound = subst (AreSoundRecords setup) (sym (unstaged_records from given.0.code given.1)) set.sound }
ended_fit setup room from before (Err code) sound le = refused_fit setup room code before sound

part_fit : (setup : BoardFile) (room from : ℕ) (part : SetPart) (before : State) → AreSoundRecords setup before.records → most_pldm_reply_data ≤ room → IsFit setup room (part_given setup from before part)
part_fit setup room from (Start entry) before sound le = staged_fit setup room from before (start_outcome (limits_named setup (named_in entry)) before.activity.stagings from entry) sound le
part_fit setup room from (Middle handle bytes) before sound le = staged_fit setup room from before (add_outcome before.activity.stagings from handle bytes) sound le
part_fit setup room from (End handle bytes) before sound le = ended_fit setup room from before (end_outcome before.activity.stagings from handle bytes) sound le

later_short : (limits : Option Limits) (value : Option (List ℕ)) (live : LivePart) (unknown transfer room : ℕ) → longest_part ≤ room → length (later_answer limits value live unknown transfer).body ≤ room
later_short (Some limits) (Some value) live unknown transfer room le = part_of (entry_shown limits value live) (asked_of_entry (entry_shown limits value live) get_next_part transfer)
  where
    part_of : (entry : List ℕ) (offset : Option ℕ) → length (part_answer entry offset).body ≤ room
    part_of entry (Some offset) = omega (arith, part_long entry offset, le)
    part_of entry None = omega arith
later_short (Some limits) None live unknown transfer room le = omega arith
later_short None (Some value) live unknown transfer room le = omega arith
later_short None None live unknown transfer room le = omega arith

serve_fit : (setup : BoardFile) (before : State) (request : Request) (room : ℕ) → AreSoundRecords setup before.records → longest_reply request ≤ room → IsFit setup room (serve setup before request)
serve_fit setup before (Live command body) room sound has = record { short = omega (arith, (are_live setup before.records before.activity command body).short, has); sound = sound }
serve_fit setup before (Get key) room sound has = record { short = get_short (limits_at setup key) (before.records key) before.activity.live (unknown_code setup key) key room (limits_are_of setup key) (sound key) has; sound = sound }
serve_fit setup before (Set op) room sound has = set_fit setup room _ _ _ op before sound refl refl has
serve_fit setup before (SetStores first second) room sound has =
    both_fit setup room (of_kind.ChannelAccess first) (of_kind.ChannelAccess second) before (outcome_at setup before (of_kind.ChannelAccess first)) (outcome_at setup before (of_kind.ChannelAccess second)) sound
    (λ new is. written setup before.records _ _ _ (of_kind.ChannelAccess first) new refl refl sound is)
    (λ new is. written setup before.records _ _ _ (of_kind.ChannelAccess second) new refl refl sound is)
serve_fit setup before (PartOfSet from part) room sound has = part_fit setup room from part before sound has
serve_fit setup before (LaterPart handle transfer) room sound has =
    let named : Key = key.BiosAttribute handle in
    record { short = later_short (limits_at setup named) (before.records named) before.activity.live (unknown_code setup named) transfer room has; sound = sound }

reply_fit : (setup : BoardFile) (before : State) (room : ℕ) (changing : Bool) (r : Result Request ℕ) → IsRight room changing r → AreSoundRecords setup before.records → IsFit setup room (reply setup before r)
reply_fit setup before room changing (Ok request) right sound = serve_fit setup before request room sound right.0
reply_fit setup before room changing (Err fault) right sound = refused_fit setup room fault before sound

answer_fit : (setup : BoardFile) (before : State) (asked : Asked) → AreSoundRecords setup before.records → IsFit setup (room_for asked) (answer_of setup before asked)
answer_fit setup before asked sound = reply_fit setup before (room_for asked) (is_changing asked) (asked_by asked) (asked_right asked) sound

pub answers_fit : AnswersFit
answers_fit setup before asked sound = (answer_fit setup before asked sound).short

pub stays_sound : StaysSound
stays_sound setup before asked sound = (answer_fit setup before asked sound).sound
