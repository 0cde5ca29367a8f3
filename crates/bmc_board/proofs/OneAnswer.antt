-- The function of answers meets the command relation, and the relation has no other answer.
use Rattle.std.proofs.Common.{◌≡◌, ℕ, List, Option, Some, None, Result, Ok, Err, refl, ap, ◌∙◌, inl, inr}
use Rattle.record_kinds.specs.Limits.{key_of}
use Rattle.cfg_records.specs.Records.{with_record}
use Rattle.record_base.specs.Meaning.{DecidesValue}
use Rattle.record_base.specs.declared.op.Op.{Op}
use Rattle.record_base.specs.declared.op.Op.TheVariants as of_kind
use Rattle.record_base.specs.declared.bios_attribute.SetBiosAttribute.{SetBiosAttribute}
use Rattle.record_base.specs.declared.message.Answered.{Answered}
use Rattle.cfg_records.specs.declared.board_file.BoardFile.{BoardFile}
use Rattle.record_kinds.specs.declared.limits.Limits.{Limits}
use Rattle.record_kinds.specs.Limits.{sets, outcome}
use Rattle.record_kinds.specs.LimitsLaws as laws
use Rattle.record_kinds.specs.declared.set_part.SetPart.TheVariants.{Start, Middle, End}
use Rattle.record_kinds.specs.Stagings.{end_outcome}
use Rattle.bmc_board.specs.Request.{Request}
use Rattle.bmc_board.specs.Request.{Live, Get, Set, SetStores, PartOfSet, LaterPart}
use Rattle.bmc_board.specs.Request.{asked_by}
use Rattle.bmc_board.specs.State.{State, state}
use Rattle.bmc_board.specs.Replies.{refused}
use Rattle.bmc_board.specs.Answer.{AnswerAndState, activity_after, set_result, set_answer, set_at, end_staging, ended, serve, reply}
use Rattle.bmc_board.specs.Row.{SetAnswered, IsAnswerGiven, AnswersLastPart, AnswersRequest, AnswersResult}
use Rattle.bmc_board.specs.AnyAnswer.{HasAnswer, HasOneAnswer}

-- two parts that are equal make equal pairs
pair : (a b : Answered) (s t : State) → a ≡ b → s ≡ t → (let p : AnswerAndState = (a, s) in p) ≡ (let q : AnswerAndState = (b, t) in q)
pair a b s t e f = λ i. (e i, f i)

-- ---- each request has an answer: the function's

result_sets : (limits : Limits) (old : List ℕ) (unknown : ℕ) (op : Op) (before : State) (r : Result (List ℕ) ℕ) → outcome limits op old ≡ r → DecidesValue r (sets limits op old)
    → SetAnswered (Some limits) (Some old) unknown op before (set_result r op before).0 (set_result r op before).1
result_sets limits old unknown op before (Ok new) e d = inl (record { new = new; is_set = d; replied = refl; left = refl })
result_sets limits old unknown op before (Err fault) e d = inr (record { fault = fault; no_value = d; has_fault = e; replied = refl; left = refl })

sets_answer : (limits : Option Limits) (value : Option (List ℕ)) (unknown : ℕ) (op : Op) (before : State) → SetAnswered limits value unknown op before (set_answer limits value unknown op before).0 (set_answer limits value unknown op before).1
sets_answer (Some limits) (Some old) unknown op before = result_sets limits old unknown op before (outcome limits op old) refl ((laws.record_laws limits).decides op old)
sets_answer (Some limits) None unknown op before = (refl, refl)
sets_answer None (Some old) unknown op before = (refl, refl)
sets_answer None None unknown op before = (refl, refl)

ends : (setup : BoardFile) (from : ℕ) (before : State) (r : Result SetBiosAttribute ℕ) → AnswersLastPart setup from r before (ended setup from before r).0 (ended setup from before r).1
ends setup from before (Ok change) =
    record { set = (set_at setup before (of_kind.BiosAttribute change)).1; sets = sets_answer _ _ _ (of_kind.BiosAttribute change) before; left = refl }
ends setup from before (Err fault) = refl

serves : (setup : BoardFile) (before : State) (request : Request) → AnswersRequest setup before request (serve setup before request).0 (serve setup before request).1
serves setup before (Live command body) = refl
serves setup before (Get key) = refl
serves setup before (Set op) = sets_answer _ _ _ op before
serves setup before (SetStores first second) = refl
serves setup before (PartOfSet from (Start entry)) = refl
serves setup before (PartOfSet from (Middle handle bytes)) = refl
serves setup before (PartOfSet from (End handle bytes)) = ends setup from before (end_outcome before.activity.stagings from handle bytes)
serves setup before (LaterPart handle transfer) = refl

replies : (setup : BoardFile) (before : State) (r : Result Request ℕ) → AnswersResult setup before r (reply setup before r).0 (reply setup before r).1
replies setup before (Ok request) = serves setup before request
replies setup before (Err fault) = refl

pub has_answer : HasAnswer
has_answer setup before asked = replies setup before (asked_by asked)

-- ---- and no other

result_once : (limits : Limits) (old : List ℕ) (unknown : ℕ) (op : Op) (before : State) (answered : Answered) (after : State) (r : Result (List ℕ) ℕ) → outcome limits op old ≡ r → DecidesValue r (sets limits op old)
    → SetAnswered (Some limits) (Some old) unknown op before answered after → IsAnswerGiven answered after (set_result r op before)
result_once limits old unknown op before answered after (Ok new) e d (inl h) =
    pair _ _ _ _ h.replied (h.left ∙ ap (λ v. state (with_record before.records (key_of op) v) (activity_after op before.activity)) ((laws.record_laws limits).determined op old h.new new h.is_set d))
result_once limits old unknown op before answered after (Ok new) e d (inr h) = absurd (h.no_value new d)
result_once limits old unknown op before answered after (Err fault) e d (inl h) = absurd (d h.new h.is_set)
result_once limits old unknown op before answered after (Err fault) e d (inr h) =
    let same : h.fault ≡ fault = cc in
    pair _ _ _ _ (h.replied ∙ ap refused same) h.left

sets_once : (limits : Option Limits) (value : Option (List ℕ)) (unknown : ℕ) (op : Op) (before : State) (answered : Answered) (after : State) → SetAnswered limits value unknown op before answered after → IsAnswerGiven answered after (set_answer limits value unknown op before)
sets_once (Some limits) (Some old) unknown op before answered after h = result_once limits old unknown op before answered after (outcome limits op old) refl ((laws.record_laws limits).decides op old) h
sets_once (Some limits) None unknown op before answered after h = pair _ _ _ _ h.0 h.1
sets_once None (Some old) unknown op before answered after h = pair _ _ _ _ h.0 h.1
sets_once None None unknown op before answered after h = pair _ _ _ _ h.0 h.1

ends_once : (setup : BoardFile) (from : ℕ) (before : State) (answered : Answered) (after : State) (r : Result SetBiosAttribute ℕ) → AnswersLastPart setup from r before answered after → IsAnswerGiven answered after (ended setup from before r)
ends_once setup from before answered after (Ok change) h =
    let same : IsAnswerGiven answered h.set (set_at setup before (of_kind.BiosAttribute change)) = sets_once _ _ _ (of_kind.BiosAttribute change) before answered h.set h.sets in
    pair _ _ _ _ refl h.left ∙ ap (end_staging from) same
ends_once setup from before answered after (Err fault) h = h

serves_once : (setup : BoardFile) (before : State) (request : Request) (answered : Answered) (after : State) → AnswersRequest setup before request answered after → IsAnswerGiven answered after (serve setup before request)
serves_once setup before (Live command body) answered after h = h
serves_once setup before (Get key) answered after h = h
serves_once setup before (Set op) answered after h = sets_once _ _ _ op before answered after h
serves_once setup before (SetStores first second) answered after h = h
serves_once setup before (PartOfSet from (Start entry)) answered after h = h
serves_once setup before (PartOfSet from (Middle handle bytes)) answered after h = h
serves_once setup before (PartOfSet from (End handle bytes)) answered after h = ends_once setup from before answered after (end_outcome before.activity.stagings from handle bytes) h
serves_once setup before (LaterPart handle transfer) answered after h = h

replies_once : (setup : BoardFile) (before : State) (r : Result Request ℕ) (answered : Answered) (after : State) → AnswersResult setup before r answered after → IsAnswerGiven answered after (reply setup before r)
replies_once setup before (Ok request) answered after h = serves_once setup before request answered after h
replies_once setup before (Err fault) answered after h = h

pub has_one_answer : HasOneAnswer
has_one_answer setup before asked answered after h = replies_once setup before (asked_by asked) answered after h
