-- A change and its undo, at any record.
use Rattle.std.proofs.Common.{◌≡◌, ◌≢◌, ℕ, ◌<◌, List, Option, Some, None, Result, Ok, refl, ap, sym, ◌∙◌, subst, arith, inl, inr}
use Rattle.two_wire.specs.Codes.{success}
use Rattle.record_kinds.specs.Limits.{key_of, limits_at}
use Rattle.cfg_records.specs.Records.{Records, with_record}
use Rattle.cfg_records.specs.RecordLaws.{with_record_same, with_record_back}
use Rattle.record_base.specs.declared.key.Key.{Key}
use Rattle.record_base.specs.declared.op.Op.{Op}
use Rattle.record_base.specs.declared.live.Live.{Live as LivePart}
use Rattle.record_base.specs.declared.message.Asked.{Asked}
use Rattle.record_base.specs.declared.message.Answered.{Answered}
use Rattle.cfg_records.specs.declared.board_file.BoardFile.{BoardFile}
use Rattle.record_kinds.specs.declared.limits.Limits.{Limits}
use Rattle.record_base.specs.Kind.{RecordLaws}
use Rattle.record_kinds.specs.Limits.{words, record_words, valid, sets, view, get_asked, is_reply, inverse}
use Rattle.record_kinds.specs.Series.{set_whole, first_shown}
use Rattle.record_kinds.specs.SeriesLaws.{undoes_whole}
use Rattle.record_kinds.specs.LimitsLaws as laws
use Rattle.record_kinds.specs.SoundLaws.{valid_at}
use Rattle.bmc_board.specs.Request.{Request}
use Rattle.bmc_board.specs.Request.{Get, Set}
use Rattle.bmc_board.specs.Request.{asked_by}
use Rattle.bmc_board.specs.State.{State}
use Rattle.bmc_board.specs.Replies.{done, refused, unknown_code}
use Rattle.bmc_board.specs.Answer.{AnswerAndState, get_answer}
use Rattle.bmc_board.specs.Row.{IsCarriedOut, SetAnswered, AnswersRequest, AnswersResult, Row}
use Rattle.bmc_board.specs.Decode.{sent_by, asked_from}
use Rattle.bmc_board.specs.Undo.{IsUndone, IsAReply}
use Rattle.bmc_board.proofs.AnswerFacts.{limits_are_of}
use Rattle.bmc_board.proofs.LiveFacts.{unknown_is_refused}
use Rattle.bmc_board.proofs.FromAnyone.{is_read_from_all}
use Rattle.bmc_board.proofs.Decoded.{gets_are_read, sets_are_read}

-- ---- requests that are read

read_as : (setup : BoardFile) (before : State) (asked : Asked) (request : Request) (answered : Answered) (after : State) → asked_by asked ≡ Ok request → Row setup before asked answered after → AnswersRequest setup before request answered after
read_as setup before asked request answered after is row = subst (λ (r : Result Request ℕ). AnswersResult setup before r answered after) is row

pub get_served : (setup : BoardFile) (before : State) (from : ℕ) (key : Key) (answered : Answered) (after : State) → Row setup before (sent_by from (get_asked key)) answered after → AnswersRequest setup before (Get key) answered after
get_served setup before from key answered after row = read_as setup before (sent_by from (get_asked key)) (Get key) answered after (is_read_from_all from (get_asked key) ∙ ap (asked_from from) (gets_are_read key).is_read) row

pub set_served : (setup : BoardFile) (before : State) (from : ℕ) (op : Op) (answered : Answered) (after : State) → Row setup before (sent_by from (set_whole op)) answered after → AnswersRequest setup before (Set op) answered after
set_served setup before from op answered after row = read_as setup before (sent_by from (set_whole op)) (Set op) answered after (is_read_from_all from (set_whole op) ∙ ap (asked_from from) (sets_are_read op).is_read) row

-- ---- requests that are carried out

-- a record that isn't there has a code of its own
pub unknown_is_fault : (setup : BoardFile) (key : Key) → unknown_code setup key ≢ success
unknown_is_fault setup key is = omega (arith, (unknown_is_refused setup key).is_fault, is)

-- a request that was carried out wasn't refused
not_refused : (answered : Answered) (fault : ℕ) → fault ≢ success → answered ≡ refused fault → answered.code ≡ success → ⊥
not_refused answered fault is_fault refusal carried = is_fault (sym (ap (λ (a : Answered). a.code) refusal) ∙ carried)

-- a Get that was carried out shows a value that the record has, under its limits, or the first part of it
pub record Shows (limits : Option Limits) (value : Option (List ℕ)) (live : LivePart) (shown : Answered) : Type 0 where
  pub of : Limits
  pub limits_are : limits ≡ Some of
  pub old : List ℕ
  pub value_is : value ≡ Some old
  pub body_is : shown ≡ done (first_shown of (view of old live))

pub shows : (limits : Option Limits) (value : Option (List ℕ)) (live : LivePart) (unknown : ℕ) (shown : Answered) → unknown ≢ success → shown ≡ get_answer limits value live unknown → shown.code ≡ success → Shows limits value live shown
shows (Some limits) (Some value) live unknown shown is_fault gets carried = record { of = limits; limits_are = refl; old = value; value_is = refl; body_is = gets }
shows (Some limits) None live unknown shown is_fault gets carried = absurd (not_refused shown unknown is_fault gets carried)
shows None (Some value) live unknown shown is_fault gets carried = absurd (not_refused shown unknown is_fault gets carried)
shows None None live unknown shown is_fault gets carried = absurd (not_refused shown unknown is_fault gets carried)

-- a Set that was carried out wasn't refused by its record
pub carried_out : (limits : Limits) (old : List ℕ) (unknown : ℕ) (op : Op) (before : State) (changed : Answered) (after : State) → SetAnswered (Some limits) (Some old) unknown op before changed after → changed.code ≡ success → IsCarriedOut limits old op before changed after
carried_out limits old unknown op before changed after (inl is) carried = is
carried_out limits old unknown op before changed after (inr is) carried =
    let fault : 0 < is.fault = ((laws.record_laws limits).refuses op old is.fault is.has_fault).is_fault in
    absurd (not_refused changed is.fault (λ zero. omega (arith, fault, zero)) is.replied carried)

-- ---- the way back

-- where an operation can make the old value of the new one, it is carried out, and it writes the old value
undone_at : (limits : Limits) (key : Key) (op : Op) (unknown : ℕ) (records : Records) (old new : List ℕ) (from back : State) (undone : Answered)
    → key_of op ≡ key → records key ≡ Some old → from.records ≡ with_record records key new → sets limits op new old
    → SetAnswered (Some limits) (Some new) unknown op from undone back
    → (undone.code ≡ success) × (back.records ≡ records)
undone_at limits key op unknown records old new from back undone same had changed can (inl is) = (
  ap (λ (a : Answered). a.code) is.replied,
  ap (λ (s : State). s.records) is.left
      ∙ ap (λ (k : Key). with_record from.records k is.new) same
      ∙ ap (with_record from.records key) ((laws.record_laws limits).determined op new is.new old is.is_set can)
      ∙ ap (λ (r : Records). with_record r key old) changed
      ∙ with_record_back records key new old had,
)
undone_at limits key op unknown records old new from back undone same had changed can (inr is) = absurd (is.no_value old can)

-- a Set at a record with these limits and this value
pub sets_at : (limits : Option Limits) (value : Option (List ℕ)) (of : Limits) (old : List ℕ) (unknown : ℕ) (op : Op) (before : State) (answered : Answered) (after : State)
    → limits ≡ Some of → value ≡ Some old → SetAnswered limits value unknown op before answered after → SetAnswered (Some of) (Some old) unknown op before answered after
sets_at limits value of old unknown op before answered after limits_are value_is s =
    subst (λ (v : Option (List ℕ)). SetAnswered (Some of) v unknown op before answered after) value_is (subst (λ (l : Option Limits). SetAnswered l value unknown op before answered after) limits_are s)

-- what a Get replies is a reply of the record's kind, or the first part of one
pub is_a_reply : IsAReply
is_a_reply setup op before got shown h =
    let key : Key = key_of op in
    let served : AnswersRequest setup before (Get key) shown got = get_served setup before h.reader key shown got h.read in
    let seen : Shows (limits_at setup key) (before.records key) before.activity.live shown = shows _ _ before.activity.live (unknown_code setup key) shown (unknown_is_fault setup key) (ap (λ (g : AnswerAndState). g.0) served) h.was_read in
    let is_valid : valid seen.of seen.old = valid_at _ _ seen.of seen.old seen.limits_are seen.value_is (h.sound key) in
    let reply : is_reply op (view seen.of seen.old before.activity.live) = (laws.record_laws seen.of).replies op seen.old before.activity.live (limits_are_of setup key seen.of seen.limits_are) is_valid in
    record { limits = seen.of; has_limits = seen.limits_are; whole = view seen.of seen.old before.activity.live; is_whole = reply; shown = ap (λ (a : Answered). a.body) seen.body_is }

pub is_undone : IsUndone
is_undone setup op made before got until after from back shown changed undone h =
    let key : Key = key_of op in
    let unknown : ℕ = unknown_code setup key in
    let served : AnswersRequest setup before (Get key) shown got = get_served setup before h.reader key shown got h.read in
    let seen : Shows (limits_at setup key) (before.records key) before.activity.live shown = shows _ _ before.activity.live unknown shown (unknown_is_fault setup key) (ap (λ (g : AnswerAndState). g.0) served) h.was_read in
    let is_valid : valid seen.of seen.old = valid_at _ _ seen.of seen.old seen.limits_are seen.value_is (h.sound key) in
    let stayed : until.records ≡ before.records = h.stayed ∙ ap (λ (g : AnswerAndState). g.1.records) served in
    let had : until.records key ≡ Some seen.old = ap (λ (r : Records). r key) stayed ∙ seen.value_is in
    let change : IsCarriedOut seen.of seen.old op until changed after =
    carried_out seen.of seen.old unknown op until changed after (sets_at _ _ seen.of seen.old unknown op until changed after seen.limits_are had (set_served setup until h.changer op changed after h.change)) h.was_changed in
    let of_seen : RecordLaws words (record_words seen.of) = laws.record_laws seen.of in
    let shown_is : first_shown seen.of (view seen.of seen.old before.activity.live) ≡ shown.body = sym (ap (λ (a : Answered). a.body) seen.body_is) in
    let is_made : inverse op (view seen.of seen.old before.activity.live) ≡ Some made =
    undoes_whole seen.of op (view seen.of seen.old before.activity.live) made (limits_are_of setup key seen.of seen.limits_are) (ap (inverse op) shown_is ∙ h.undoes) in
    let can : sets seen.of made change.new seen.old = of_seen.undoes op made seen.old change.new before.activity.live is_valid change.is_set is_made in
    let here : (record_words seen.of).is_of key = of_seen.taken op seen.old change.new change.is_set in
    let same : key_of made ≡ key = of_seen.same_record op made seen.old before.activity.live here is_valid is_made in
    let written : from.records ≡ with_record until.records key change.new = h.stayed_changed ∙ ap (λ (s : State). s.records) change.left in
    let has : from.records key ≡ Some change.new = ap (λ (r : Records). r key) written ∙ with_record_same until.records key change.new in
    let way : SetAnswered (limits_at setup key) (from.records key) unknown made from undone back =
    subst (λ (k : Key). SetAnswered (limits_at setup k) (from.records k) (unknown_code setup k) made from undone back) same (set_served setup from h.undoer made undone back h.way_back) in
    let end : (undone.code ≡ success) × (back.records ≡ until.records) =
    undone_at seen.of key made unknown until.records seen.old change.new from back undone same had written can (sets_at _ _ seen.of change.new unknown made from undone back seen.limits_are has way) in
    (end.0, end.1 ∙ stayed)
