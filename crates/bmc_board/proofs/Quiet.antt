-- A command that the table doesn't mark as setting asks for no Set, and leaves what is staged.
use Rattle.std.proofs.Common.{◌≡◌, ℕ, List, ◌==◌, Bool, true, false, if◌then◌else◌, Option, Some, None, Result, Ok, Err, refl, ap, subst, ◌∙◌}
use Rattle.record_base.specs.Requests.{byte_at}
use Rattle.record_base.specs.Numbers.{user_in}
use Rattle.record_base.specs.declared.key.Key.TheVariants as key
use Rattle.record_base.specs.declared.user.User.{User}
use Rattle.user_chan.specs.declared.password.PasswordChange.{PasswordChange}
use Rattle.user_chan.specs.declared.password.PasswordChange.TheVariants.{Disable, Enable, Set as ToSet, Test}
use Rattle.user_chan.specs.Passwords.{change_of}
use Rattle.watch_boot.specs.Watchdog.{was_set}
use Rattle.cfg_records.specs.Records.{Records}
use Rattle.record_kinds.specs.Boards.{user_at}
use Rattle.record_kinds.specs.Stagings.{StagedParts}
use Rattle.record_base.specs.Meaning.{room_for}
use Rattle.record_base.specs.declared.message.Answered.{Answered}
use Rattle.cfg_records.specs.declared.board_file.BoardFile.{BoardFile}
use Rattle.bmc_board.specs.Request.{Request}
use Rattle.bmc_board.specs.Request.{Live, Get, Set, SetStores, PartOfSet, LaterPart}
use Rattle.bmc_board.specs.Request.{asked_by}
use Rattle.bmc_board.specs.State.{State}
use Rattle.bmc_board.specs.Answer.{AnswerAndState}
use Rattle.bmc_board.specs.Row.{AnswersRequest, AnswersResult}
use Rattle.bmc_board.specs.Quiet.{KeepsRecords, KeepsStagings}
use Rattle.bmc_board.specs.declared.activity.Activity.{Activity}
use Rattle.bmc_board.specs.declared.live.LiveCommand.{LiveCommand}
use Rattle.bmc_board.specs.declared.live.LiveCommand.TheVariants as live
use Rattle.bmc_board.specs.Replies.{unknown_code}
use Rattle.bmc_board.specs.Live.{reset_answer, begun, progress_answer, password_answer, live_answer}
use Rattle.bmc_board.proofs.AskedFacts.{IsQuiet, IsRight, asked_right}

served_quietly : (setup : BoardFile) (before : State) (request : Request) (answered : Answered) (after : State) → IsQuiet request → AnswersRequest setup before request answered after → after.records ≡ before.records
served_quietly setup before (Live command body) answered after quiet row = ap (λ (g : AnswerAndState). g.1.records) row
served_quietly setup before (Get key) answered after quiet row = ap (λ (g : AnswerAndState). g.1.records) row
served_quietly setup before (Set op) answered after quiet row = absurd quiet
served_quietly setup before (SetStores first second) answered after quiet row = absurd quiet
served_quietly setup before (PartOfSet from part) answered after quiet row = absurd quiet
served_quietly setup before (LaterPart handle transfer) answered after quiet row = ap (λ (g : AnswerAndState). g.1.records) row

replied_quietly : (setup : BoardFile) (before : State) (room : ℕ) (r : Result Request ℕ) (answered : Answered) (after : State) → IsRight room false r → AnswersResult setup before r answered after → after.records ≡ before.records
replied_quietly setup before room (Ok request) answered after right row = served_quietly setup before request answered after (right.1 refl) row
replied_quietly setup before room (Err fault) answered after right row = ap (λ (g : AnswerAndState). g.1.records) row

pub keeps_records : KeepsRecords
keeps_records setup before asked answered after quiet row =
    replied_quietly setup before (room_for asked) (asked_by asked) answered after (subst (λ (changing : Bool). IsRight (room_for asked) changing (asked_by asked)) quiet (asked_right asked)) row

-- ---- what is staged

-- both ways of a test leave it
either_keeps : (b : Bool) (one other : Answered × Activity) (stagings : StagedParts) → one.1.stagings ≡ stagings → other.1.stagings ≡ stagings → (if b then one else other).1.stagings ≡ stagings
either_keeps true one other stagings is is_too = is
either_keeps false one other stagings is is_too = is_too

reset_keeps : (value : Option (List ℕ)) (unknown : ℕ) (before : Activity) → (reset_answer value unknown before).1.stagings ≡ before.stagings
reset_keeps (Some value) unknown before = either_keeps (was_set value) _ _ before.stagings refl refl
reset_keeps None unknown before = refl

begun_keeps : (progress : Bool) (before : Activity) → (begun progress before).1.stagings ≡ before.stagings
begun_keeps true before = refl
begun_keeps false before = refl

progress_keeps : (byte : Option ℕ) (before : Activity) → (progress_answer byte before).1.stagings ≡ before.stagings
progress_keeps (Some byte) before = either_keeps (byte == 0) _ _ before.stagings refl (either_keeps (byte == 1) _ _ before.stagings (begun_keeps before.boot_progress before) refl)
progress_keeps None before = refl

password_keeps : (known : Option User) (change : Result PasswordChange ℕ) (user : ℕ) (before : Activity) → (password_answer known change user before).1.stagings ≡ before.stagings
password_keeps None change user before = refl
password_keeps (Some known) (Err code) user before = refl
password_keeps (Some known) (Ok Disable) user before = refl
password_keeps (Some known) (Ok Enable) user before = refl
password_keeps (Some known) (Ok (ToSet password)) user before = refl
password_keeps (Some known) (Ok (Test password)) user before = refl

-- a live command leaves it
live_keeps : (setup : BoardFile) (records : Records) (before : Activity) (command : LiveCommand) (body : List ℕ) → (live_answer setup records before command body).1.stagings ≡ before.stagings
live_keeps setup records before live.ResetWatchdog body = reset_keeps (records key.Watchdog) (unknown_code setup key.Watchdog) before
live_keeps setup records before (live.SetBootProgress byte) body = progress_keeps byte before
live_keeps setup records before live.SetUserPassword body = password_keeps (user_at setup.users.items (user_in (byte_at body 0)).number) (change_of body) (user_in (byte_at body 0)).number before
live_keeps setup records before _ body = refl

staged_quietly : (setup : BoardFile) (before : State) (request : Request) (answered : Answered) (after : State) → IsQuiet request → AnswersRequest setup before request answered after → after.activity.stagings ≡ before.activity.stagings
staged_quietly setup before (Live command body) answered after quiet row = ap (λ (g : AnswerAndState). g.1.activity.stagings) row ∙ live_keeps setup before.records before.activity command body
staged_quietly setup before (Get key) answered after quiet row = ap (λ (g : AnswerAndState). g.1.activity.stagings) row
staged_quietly setup before (Set op) answered after quiet row = absurd quiet
staged_quietly setup before (SetStores first second) answered after quiet row = absurd quiet
staged_quietly setup before (PartOfSet from part) answered after quiet row = absurd quiet
staged_quietly setup before (LaterPart handle transfer) answered after quiet row = ap (λ (g : AnswerAndState). g.1.activity.stagings) row

left_quietly : (setup : BoardFile) (before : State) (room : ℕ) (r : Result Request ℕ) (answered : Answered) (after : State) → IsRight room false r → AnswersResult setup before r answered after → after.activity.stagings ≡ before.activity.stagings
left_quietly setup before room (Ok request) answered after right row = staged_quietly setup before request answered after (right.1 refl) row
left_quietly setup before room (Err fault) answered after right row = ap (λ (g : AnswerAndState). g.1.activity.stagings) row

pub keeps_stagings : KeepsStagings
keeps_stagings setup before asked answered after quiet row =
    left_quietly setup before (room_for asked) (asked_by asked) answered after (subst (λ (changing : Bool). IsRight (room_for asked) changing (asked_by asked)) quiet (asked_right asked)) row
