-- An exchange of a request that is looked at where it lies.
use Rattle.std.specs.Prelude.{Result, Ok, Err}
use Rattle.std.proofs.Common.{◌≡◌, ◌≤◌, ℕ, List, ◌-◌, length, take, drop, sym, ◌∙◌, ap, subst, arith, lit≤}
use Rattle.std.proofs.lemmas.List.{length-drop, take_all}
use Rattle.std.proofs.Math.Seq.{drop-append_seam, drop-length}
use Rattle.record_base.specs.declared.message.Asked.{Asked}
use Rattle.record_base.specs.declared.message.Asked.TheVariants.{Ipmi, Pldm}
use Rattle.record_base.specs.declared.message.Answered.{Answered}
use Rattle.record_base.specs.Meaning.{room_for}
use Rattle.cfg_records.specs.declared.board_file.BoardFile.{BoardFile}
use Rattle.bmc_board.specs.declared.board.Board.{Board}
use Rattle.bmc_board.specs.State.{state_of}
use Rattle.bmc_board.specs.Gives.{GivesReply}
use Rattle.bmc_board.specs.Answer.{AnswerAndState}
use Rattle.bmc_board.specs.Row.{Row}
use Rattle.bmc_board.proofs.OneAnswer.{has_answer}
use Rattle.bmc_board.specs.declared.asked_ref.AskedRef.{AskedRef}
use Rattle.bmc_board.specs.Asking.{as_asked}
use Rattle.bmc_board.specs.Carrying.{code_given}
use Rattle.bmc_shared.specs.declared.event.Call.TheVariants.{Exchanged}
use Rattle.bmc_shared.specs.Entries.{exchanged}
use Rattle.bmc_shared.specs.declared.event.Event.{Event}
use Rattle.bmc_shared.specs.Calls.{IsRow, IsReply, GainsEvent, ExchangesHere}

-- the bytes that were appended are the answer's data
data_are : (given : Result (Unit {0}) ℕ) (old new : List ℕ) (a : Answered) → GivesReply given old new a → drop (length old) new ≡ a.body
data_are (Ok done) old new a gives = ap (λ (xs : List ℕ). drop (length old) xs) gives.1 ∙ drop-append_seam old a.body
data_are (Err code) old new a gives =
    ap (λ (xs : List ℕ). drop (length old) xs) gives.1 ∙ drop-length old ∙ sym (ap (λ (b : Answered). b.body) gives.0)

-- as a slice that begins behind what was there shows them
rest_of : (xs : List ℕ) (n : ℕ) → take (length xs - n) (drop n xs) ≡ drop n xs
rest_of xs n = let few : length (drop n xs) ≡ length xs - n = length-drop n xs in take_all (length xs - n) (drop n xs) (omega (arith, few))

pub rest_given : (xs start old new : List ℕ) → xs ≡ new → start ≡ old → take (length xs - length start) (drop (length start) xs) ≡ drop (length old) new
rest_given xs start old new whole first = rest_of xs (length start) ∙ (λ i. drop (length (first i)) (whole i))

-- its code is the answer's
code_is : (given : Result (Unit {0}) ℕ) (old new : List ℕ) (a : Answered) → GivesReply given old new a → code_given given ≡ a.code
code_is (Ok done) old new a gives = sym gives.0
code_is (Err code) old new a gives = sym (ap (λ (b : Answered). b.code) gives.0)

-- the call of what was given is the answer's
pub call_is : (asked : AskedRef) (given : Result (Unit {0}) ℕ) (old new shown : List ℕ) (code : ℕ) (a : Answered) → GivesReply given old new a
    → code ≡ code_given given → shown ≡ drop (length old) new → exchanged asked code shown ≡ Exchanged (as_asked asked) a
call_is asked given old new shown code a gives coded taken =
    let same : (let b : Answered = record { code = code; body = shown } in b) ≡ a =
    λ i. record { code = (coded ∙ code_is given old new a gives) i; body = (taken ∙ data_are given old new a gives) i } in
    ap (λ (b : Answered). Exchanged (as_asked asked) b) same

-- so many are room for any reply
pub room_is : (asked : Asked) → room_for asked ≤ 251
room_is (Ipmi from net_fn lun command body) = lit≤ tt
room_is (Pldm from kind command body) = lit≤ tt

-- the board's one answer stands in the command relation
pub row_of : {S : Type 0} {g h : _} (setup : BoardFile) (before after : Board S g h) (asked : Asked) (a : Answered)
    → IsReply setup before after asked a → IsRow setup before after asked a
row_of setup before after asked a is =
    subst (λ (p : AnswerAndState). Row setup (state_of before) asked p.0 p.1) (sym is) (has_answer setup (state_of before) asked)

-- an answer in a value of its own is the one that was given
pub exchanged_as : {S : Type 0} {g h : _} (setup : BoardFile) (before after : Board S g h) (events later : List Event) (seat : ℕ) (asked question : Asked)
    (given : Result (Unit {0}) ℕ) (old new : List ℕ) (a : Answered) → asked ≡ question → (done : ExchangesHere setup before after events later seat asked given old new)
    → a ≡ done.answered
    → IsRow setup before after question a × IsReply setup before after question a × (length a.body ≤ room_for question) × GainsEvent events later seat (Exchanged question a)
exchanged_as setup before after events later seat asked question given old new a same done said =
    subst (λ (q : Asked). IsRow setup before after q a × IsReply setup before after q a × (length a.body ≤ room_for q) × GainsEvent events later seat (Exchanged q a)) same
    (subst (λ (b : Answered). IsRow setup before after asked b × IsReply setup before after asked b × (length b.body ≤ room_for asked) × GainsEvent events later seat (Exchanged asked b))
    (sym said) (done.row, done.reply, done.fits, done.gained))
