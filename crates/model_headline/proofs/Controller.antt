-- The controller that is claimed of does with each request as the statement says: so does each answer of the command relation.
use Rattle.std.proofs.Common.{◌≡◌, ◌≢◌, ℕ, List, Option, Some, None, Result, Ok, Err, ◌⊎◌, inl, inr, refl, sym, ◌∙◌, ap, subst, arith}
use Rattle.std.proofs.lemmas.Option.{none-some, same_Some}
use Rattle.two_wire.specs.Codes.{success}
use Rattle.record_base.specs.Meaning.{IsRefusal}
use Rattle.record_base.specs.declared.op.Op.{Op}
use Rattle.record_base.specs.declared.op.Op.TheVariants as of_kind
use Rattle.record_base.specs.declared.bios_attribute.SetBiosAttribute.{SetBiosAttribute}
use Rattle.record_base.specs.declared.message.Answered.{Answered}
use Rattle.cfg_records.specs.declared.board_file.BoardFile.{BoardFile}
use Rattle.cfg_records.specs.Records.{Records}
use Rattle.record_kinds.specs.declared.limits.Limits.{Limits}
use Rattle.record_kinds.specs.Limits.{key_of, limits_at, sets}
use Rattle.record_kinds.specs.LimitsLaws as laws
use Rattle.record_kinds.specs.declared.set_part.SetPart.TheVariants.{Start, Middle, End}
use Rattle.record_kinds.specs.Stagings.{start_outcome, add_outcome, end_outcome}
use Rattle.bmc_board.specs.Request.{Request, Live, Get, Set, SetStores, PartOfSet, LaterPart, asked_by}
use Rattle.bmc_board.specs.State.{State}
use Rattle.bmc_board.specs.Replies.{unknown_code}
use Rattle.bmc_board.specs.AttributeParts.{named_in, limits_named}
use Rattle.bmc_board.specs.Answer.{AnswerAndState, get_answer, serve}
use Rattle.bmc_board.specs.Stores.{ChangesNeither}
use Rattle.bmc_board.specs.Row.{SetAnswered, AnswersLastPart, AnswersResult}
use Rattle.bmc_board.proofs.LiveFacts.{unknown_is_refused}
use Rattle.bmc_board.proofs.PartFacts.{staged_records, unstaged_records}
use Rattle.bmc_board.proofs.StoresFacts.{both_or_none}
use Rattle.bmc_board.proofs.OneAnswer.{has_answer}
use Rattle.model_headline.specs.Claim.{SetsTo, AnswersGet, IsAnsweredRequest, IsController, ours}

-- a refusal isn't success
fault_of : (code : ℕ) → IsRefusal code → code ≢ success
fault_of code is same = absurd (omega (arith, is.is_fault))

module _ (setup : BoardFile) where
  shows : (limits : Option Limits) (value : Option (List ℕ)) (before : State) (unknown : ℕ) (a : Answered) → unknown ≢ success → a ≡ get_answer limits value before.activity.live unknown → AnswersGet setup limits value before a
  shows (Some limits) (Some value) before unknown a fault is = is
  shows (Some limits) None before unknown a fault is = λ same. fault (sym (ap (λ (b : Answered). b.code) is) ∙ same)
  shows None (Some value) before unknown a fault is = λ same. fault (sym (ap (λ (b : Answered). b.code) is) ∙ same)
  shows None None before unknown a fault is = λ same. fault (sym (ap (λ (b : Answered). b.code) is) ∙ same)

  -- a Set is accepted only where its record is there, and has limits
  none_within : (op : Op) (old other : Records) → limits_at setup (key_of op) ≡ None → ¬ SetsTo setup op old other
  none_within op old other none is = none-some is.limits (sym none ∙ is.within)

  none_found : (op : Op) (old other : Records) → old (key_of op) ≡ None → ¬ SetsTo setup op old other
  none_found op old other none is = none-some is.before (sym none ∙ is.found)

  sets_served : (op : Op) (before : State) (a : Answered) (after : State) (limits : Option Limits) (value : Option (List ℕ)) → limits_at setup (key_of op) ≡ limits → before.records (key_of op) ≡ value
      → SetAnswered limits value (unknown_code setup (key_of op)) op before a after → IsAnsweredRequest setup (Ok (Set op)) before a after
  sets_served op before a after (Some limits) (Some value) within found (inl row) = inl (
    ap (λ (b : Answered). b.code) row.replied,
    record {
      limits = limits;
      before = value;
      after = row.new;
      within = within;
      found = found;
      accepted = row.is_set;
      changed = ap (λ (s : State). s.records) row.left;
    },
  )
  sets_served op before a after (Some limits) (Some value) within found (inr row) = inr (
    λ same. fault_of row.fault ((laws.record_laws limits).refuses op value row.fault row.has_fault) (sym (ap (λ (b : Answered). b.code) row.replied) ∙ same),
    ap (λ (s : State). s.records) row.left,
    λ other is.
        let same_limits : is.limits ≡ limits = same_Some is.limits limits (sym is.within ∙ within) in
        let same_value : is.before ≡ value = same_Some is.before value (sym is.found ∙ found) in
        row.no_value is.after (subst (λ (v : List ℕ). sets limits op v is.after) same_value (subst (λ (l : Limits). sets l op is.before is.after) same_limits is.accepted)),
  )
  sets_served op before a after (Some limits) None within found row = inr (
    λ same. fault_of (unknown_code setup (key_of op)) (unknown_is_refused setup (key_of op)) (sym (ap (λ (b : Answered). b.code) row.0) ∙ same),
    ap (λ (s : State). s.records) row.1,
    λ other is. none_found op before.records other found is,
  )
  sets_served op before a after None (Some value) within found row = inr (
    λ same. fault_of (unknown_code setup (key_of op)) (unknown_is_refused setup (key_of op)) (sym (ap (λ (b : Answered). b.code) row.0) ∙ same),
    ap (λ (s : State). s.records) row.1,
    λ other is. none_within op before.records other within is,
  )
  sets_served op before a after None None within found row = inr (
    λ same. fault_of (unknown_code setup (key_of op)) (unknown_is_refused setup (key_of op)) (sym (ap (λ (b : Answered). b.code) row.0) ∙ same),
    ap (λ (s : State). s.records) row.1,
    λ other is. none_within op before.records other within is,
  )

  both_served : {Both : Type 0} (before : State) (given : AnswerAndState) → (Both → given.0.code ≡ success) → Both ⊎ ChangesNeither before given → given.0.code ≢ success → given.1.records ≡ before.records
  both_served before given succeeds (inl both) fault = absurd (fault (succeeds both))
  both_served before given succeeds (inr neither) fault = ap (λ (s : State). s.records) neither.left

  -- the last part of a Set is the Set of the whole entry
  last_served : (from : ℕ) (r : Result SetBiosAttribute ℕ) (before : State) (a : Answered) (after : State) → AnswersLastPart setup from r before a after
      → (after.records ≡ before.records) ⊎ ((a.code ≡ success) × (op : Op) × SetsTo setup op before.records after.records)
  last_served from (Ok change) before a after row = by (sets_served op before a row.set (limits_at setup (key_of op)) (before.records (key_of op)) refl refl row.sets)
    where
      op : Op
      op = of_kind.BiosAttribute change

      same : after.records ≡ row.set.records
      same = ap (λ (s : State). s.records) row.left ∙ unstaged_records from a.code row.set

      by : IsAnsweredRequest setup (Ok (Set op)) before a row.set → (after.records ≡ before.records) ⊎ ((a.code ≡ success) × (op : Op) × SetsTo setup op before.records after.records)
      by (inl is) = inr (is.0, op, subst (λ (r : Records). SetsTo setup op before.records r) (sym same) is.1)
      by (inr is) = inl (same ∙ is.1)
  last_served from (Err code) before a after row = inl (ap (λ (g : AnswerAndState). g.1.records) row)

  -- the command relation is within that of the statement
  pub row_served : (r : Result Request ℕ) (before : State) (a : Answered) (after : State) → AnswersResult setup before r a after → IsAnsweredRequest setup r before a after
  row_served (Ok (Live command body)) before a after row = ap (λ (g : AnswerAndState). g.1.records) row
  row_served (Ok (Get key)) before a after row = (
    ap (λ (g : AnswerAndState). g.1.records) row,
    shows (limits_at setup key) (before.records key) before (unknown_code setup key) a (fault_of (unknown_code setup key) (unknown_is_refused setup key)) (ap (λ (g : AnswerAndState). g.0) row),
  )
  row_served (Ok (Set op)) before a after row = sets_served op before a after (limits_at setup (key_of op)) (before.records (key_of op)) refl refl row
  row_served (Ok (SetStores first second)) before a after row = λ fault.
      ap (λ (g : AnswerAndState). g.1.records) row
      ∙ both_served before (serve setup before (SetStores first second)) (λ both. ap (λ (b : Answered). b.code) both.replied) (both_or_none setup before first second)
      (λ same. fault (ap (λ (g : AnswerAndState). g.0.code) row ∙ same))
  row_served (Ok (PartOfSet from (Start entry))) before a after row =
      inl (ap (λ (g : AnswerAndState). g.1.records) row ∙ staged_records from before (start_outcome (limits_named setup (named_in entry)) before.activity.stagings from entry))
  row_served (Ok (PartOfSet from (Middle handle bytes))) before a after row = inl (ap (λ (g : AnswerAndState). g.1.records) row ∙ staged_records from before (add_outcome before.activity.stagings from handle bytes))
  row_served (Ok (PartOfSet from (End handle bytes))) before a after row = last_served from (end_outcome before.activity.stagings from handle bytes) before a after row
  row_served (Ok (LaterPart handle transfer)) before a after row = ap (λ (g : AnswerAndState). g.1.records) row
  row_served (Err code) before a after row = ap (λ (g : AnswerAndState). g.1.records) row

  pub is_controller : IsController setup (ours setup)
  is_controller = record { begins = (refl, refl); serves = λ before asked. row_served (asked_by asked) before _ _ (has_answer setup before asked) }
