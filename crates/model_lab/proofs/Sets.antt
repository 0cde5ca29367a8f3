-- The manager's Set: what each of its requests does.
use Rattle.std.proofs.Common.{◌≡◌, ◌≢◌, inl, inr, ℕ, suc, ◌+◌, ◌*◌, ◌<◌, ◌≤◌, Bool, true, false, not, List, [], ◌∷◌, ◌++◌, length, take, Option, Some, None, Result, Ok, Err, refl, sym, ◌∙◌, ap, subst, if◌then◌else◌, arith}
use Rattle.std.specs.Prelude.{nat_lt, ◌==◌}
use Rattle.std.specs.Option.{option_map}
use Rattle.std.proofs.lemmas.Bool.{cases_eq, leb-false, lt-ltb, le-ltb, ltb-true, ltb-false}
use Rattle.std.proofs.lemmas.Bool.Decides.{nat_tests}
use Rattle.std.proofs.lemmas.Option.{none-some, same_Some}
use Rattle.std.proofs.lemmas.List.{length-append, take_all}
use Rattle.two_wire.specs.Codes.{success}
use Rattle.two_wire.specs.declared.Bus.{Bus}
use Rattle.two_wire.specs.declared.Bus.TheVariants.{Smbus}
use Rattle.record_base.specs.Attribute.{range_of}
use Rattle.record_base.specs.AttributeSizes.{most_sent}
use Rattle.record_base.specs.declared.attribute.Attribute.{Attribute}
use Rattle.record_base.specs.declared.bios_attribute.SetBiosAttribute.{SetBiosAttribute}
use Rattle.record_base.specs.declared.op.Op.{Op}
use Rattle.record_base.specs.declared.op.Op.TheVariants as op
use Rattle.record_base.specs.declared.message.Asked.{Asked}
use Rattle.record_base.specs.declared.message.Asked.TheVariants.{Ipmi, Pldm}
use Rattle.record_base.specs.declared.message.Answered.{Answered as BoardAnswer}
use Rattle.cfg_records.specs.declared.board_file.BoardFile.{BoardFile}
use Rattle.cfg_records.specs.Records.{Records, with_record}
use Rattle.pldm_base.specs.Parts.{part_length, part_bytes, most_whole, goes_whole}
use Rattle.bios_attr.specs.BiosAttribute.{attribute_body, op_entry}
use Rattle.bios_attr.specs.declared.bios_attribute.AttributeLimits.{AttributeLimits}
use Rattle.bios_attr.specs.EntryParts.{bios, set_current_value, set_part, part_at, is_in_parts, entry_of, first_request, request_at, alone_at}
use Rattle.record_kinds.specs.declared.set_part.SetPart.TheVariants.{Start, Middle, End}
use Rattle.record_kinds.specs.Entries.{middle_fault, last_fault, op_of}
use Rattle.record_kinds.specs.Stagings.{StagedParts, most_stagings, staged_by, without, or_else, start_fault, later_fault, unless, joined, start_outcome, add_outcome, end_outcome}
use Rattle.record_kinds.proofs.Apart.{own_last}
use Rattle.record_kinds.specs.Boards.{attribute_at}
use Rattle.record_kinds.specs.declared.limits.Limits.{Limits}
use Rattle.record_kinds.specs.declared.limits.Limits.TheVariants as limits
use Rattle.record_kinds.specs.Limits.{key_of, sets, limits_at}
use Rattle.record_kinds.specs.LimitsLaws as laws
use Rattle.record_kinds.specs.Series.{sends, set_whole}
use Rattle.bmc_board.specs.Request.{Set, PartOfSet}
use Rattle.bmc_board.specs.State.{State, IsUnchanged}
use Rattle.bmc_board.specs.Replies.{refused, unknown_code}
use Rattle.bmc_board.specs.AttributeParts.{named_in, limits_named}
use Rattle.bmc_board.specs.Answer.{AnswerAndState, staged}
use Rattle.bmc_board.specs.Row.{IsAnswerGiven, SetAnswered, SetsAt, SetsWhole, AnswersLastPart, Row}
use Rattle.bmc_board.proofs.PartFacts.{Refuses, start_code, add_code, end_code, unstaged_records}
use Rattle.bmc_board.proofs.Undone.{unknown_is_fault}
use Rattle.model_bus.specs.Answered.{Answered}
use Rattle.model_bus.specs.Addresses.{Addresses}
use Rattle.model_undo.specs.Words.{IsNext}
use Rattle.model_undo.specs.Family.{SetsTo}
use Rattle.model_undo.specs.IsFamily.{AnswersSet}
use Rattle.bmc_core.specs.Wires.{board_answer}
use Rattle.model_lab.specs.ManagerWords.{from_manager, manager_words}
use Rattle.model_lab.specs.Family.{SetsWithin, IsReadyFor, family}
use Rattle.model_lab.proofs.Parts.{take_next, more_behind, none_behind}
use Rattle.model_lab.proofs.Accepted.{IsAccepted, accepted, first_none, middle_none, last_none, op_back, has_room}
use Rattle.model_lab.proofs.Requests.{read_as, whole_is_read, start_is_read, middle_is_read, last_is_read}

-- ---- what a Set at a record with these limits and this value does to the records

pub record Tells (limits : Option Limits) (value : Option (List ℕ)) (op : Op) (before : Records) (code : ℕ) (after : Records) : Type 0 where
  pub does : code ≡ success → (old : List ℕ) × (new : List ℕ) × (value ≡ Some old) × SetsWithin limits op old new × (after ≡ with_record before (key_of op) new)
  pub keeps : code ≢ success → after ≡ before
  pub says : code ≢ success → (old new : List ℕ) → value ≡ Some old → ¬ SetsWithin limits op old new

told_where : (limits : Limits) (old : List ℕ) (unknown : ℕ) (op : Op) (before : State) (answered : BoardAnswer) (after : State) → SetAnswered (Some limits) (Some old) unknown op before answered after → Tells (Some limits) (Some old) op before.records answered.code after.records
told_where limits old unknown op before answered after (inl is) = record {
  does = λ _. (old, is.new, refl, is.is_set, ap (λ (s : State). s.records) is.left);
  keeps = λ ne. absurd (ne (ap (λ (a : BoardAnswer). a.code) is.replied));
  says = λ ne. absurd (ne (ap (λ (a : BoardAnswer). a.code) is.replied));
}
told_where limits old unknown op before answered after (inr is) = record {
  does = λ carried. absurd (omega (arith, ((laws.record_laws limits).refuses op old is.fault is.has_fault).is_fault, sym (ap (λ (a : BoardAnswer). a.code) is.replied) ∙ carried));
  keeps = λ _. ap (λ (s : State). s.records) is.left;
  says = λ _ had new same is_set. is.no_value new (subst (λ (v : List ℕ). sets limits op v new) (sym (same_Some _ _ same)) is_set);
}

-- a record that isn't there
told_absent : (limits : Option Limits) (value : Option (List ℕ)) (unknown : ℕ) (op : Op) (before : State) (answered : BoardAnswer) (after : State) → unknown ≢ success → ((old new : List ℕ) → value ≡ Some old → ¬ SetsWithin limits op old new)
    → (answered ≡ refused unknown) × IsUnchanged before after → Tells limits value op before.records answered.code after.records
told_absent limits value unknown op before answered after fault none is = record {
  does = λ carried. absurd (fault (sym (ap (λ (a : BoardAnswer). a.code) is.0) ∙ carried));
  keeps = λ _. ap (λ (s : State). s.records) is.1;
  says = λ _. none;
}

pub tells : (limits : Option Limits) (value : Option (List ℕ)) (unknown : ℕ) (op : Op) (before : State) (answered : BoardAnswer) (after : State) → unknown ≢ success → SetAnswered limits value unknown op before answered after
    → Tells limits value op before.records answered.code after.records
tells (Some l) (Some old) unknown op before answered after fault is = told_where l old unknown op before answered after is
tells (Some l) None unknown op before answered after fault is = told_absent (Some l) None unknown op before answered after fault (λ old new had is_set. none-some old had) is
tells None (Some old) unknown op before answered after fault is = told_absent None (Some old) unknown op before answered after fault (λ had new same is_set. is_set) is
tells None None unknown op before answered after fault is = told_absent None None unknown op before answered after fault (λ had new same is_set. is_set) is

-- ---- what a request of a Set does: the answer, and the board after it

-- the byte by which a controller knows the manager as a requester on SMBus
abbrev pub own_byte : (Bus → Addresses) → ℕ
own_byte at = (at Smbus).manager

module _ (setup : BoardFile) (at : Bus → Addresses) where
  abbrev pub own : ℕ
  own = own_byte at

  -- the request behind replies with these data, if there is one
  abbrev pub behind : Op → List (List ℕ) → Option Asked
  behind o bodies = option_map (from_manager at) (request_at (set_whole o) (length bodies))

  -- no record changed, and the board is ready for the request behind it
  pub record GoesOn (o : Op) (bodies : List (List ℕ)) (board : State) (a : Answered) (after : State) : Type 0 where
    pub carried : a.code ≡ success
    pub more : behind o (bodies ++ a.body ∷ []) ≢ None
    pub kept : after.records ≡ board.records
    pub ready : IsReadyFor own after.activity.stagings (sends o) (bodies ++ a.body ∷ [])

  -- the operation is done, and no request is behind it
  pub record Does (o : Op) (bodies : List (List ℕ)) (board : State) (a : Answered) (after : State) : Type 0 where
    pub carried : a.code ≡ success
    pub ends : behind o (bodies ++ a.body ∷ []) ≡ None
    pub done : SetsTo (family setup at) o board.records after.records

  -- it is refused: the operation isn't accepted at these records
  pub record IsRefusedSo (o : Op) (board : State) (a : Answered) (after : State) : Type 0 where
    pub fault : a.code ≢ success
    pub kept : after.records ≡ board.records
    pub says : (records : Records) → ¬ SetsTo (family setup at) o board.records records

  pub data Deed (o : Op) (bodies : List (List ℕ)) (board : State) (a : Answered) (after : State) : Type 0 where
    Goes : GoesOn o bodies board a after → Deed o bodies board a after
    Done : Does o bodies board a after → Deed o bodies board a after
    Refused : IsRefusedSo o board a after → Deed o bodies board a after

  -- ---- the Set of a record, by one request or by the last of several

  set_does : (before : State) (o : Op) (code : ℕ) (after : Records) → Tells (limits_at setup (key_of o)) (before.records (key_of o)) o before.records code after → code ≡ success → SetsTo (family setup at) o before.records after
  set_does before o code after t carried =
      let d = t.does carried in
      record { before = d.0; after = d.1; found = d.2; sets = d.3; changed = d.4 }

  told : (o : Op) (bodies : List (List ℕ)) (board : State) (a : Answered) (after : State) → behind o (bodies ++ a.body ∷ []) ≡ None → Tells (limits_at setup (key_of o)) (board.records (key_of o)) o board.records a.code after.records
      → Deed o bodies board a after
  told o bodies board a after ends t = elim (cases_eq a.code success) [
    | inl carried ↦ Done (record { carried = carried; ends = ends; done = set_does board o a.code after.records t carried })
    | inr fault ↦ Refused (record { fault = fault; kept = t.keeps fault; says = λ records s. t.says fault s.before s.after s.found s.sets })
  ]

  set_tells : (o : Op) (board set : State) (a : Answered) → SetsAt setup o board (board_answer a) set → Tells (limits_at setup (key_of o)) (board.records (key_of o)) o board.records a.code set.records
  set_tells o board set a is = tells (limits_at setup (key_of o)) (board.records (key_of o)) (unknown_code setup (key_of o)) o board (board_answer a) set (unknown_is_fault setup (key_of o)) is

  -- ---- one request

  pub alone_first : (asked : Asked) → is_in_parts asked ≡ false → first_request asked ≡ asked
  alone_first (Ipmi from net_fn lun command body) e = refl
  alone_first (Pldm from kind command body) e = ap (λ (t : Bool). Pldm from kind command (if t then set_part (entry_of (Pldm from kind command body)) 0 else body)) e

  not_first : (place : ℕ) → (suc place == 0) ≡ false
  not_first place = grind (arith, nat_tests)

  pub alone_later : (asked : Asked) (place : ℕ) → is_in_parts asked ≡ false → request_at asked (suc place) ≡ None
  alone_later (Ipmi from net_fn lun command body) place e = ap (λ (t : Bool). if t then Some (Ipmi from net_fn lun command body) else None) (not_first place)
  alone_later (Pldm from kind command body) place e =
      ap (λ (t : Bool). if t then option_map (Pldm from kind command) (part_at body (suc place)) else alone_at (Pldm from kind command body) (suc place)) e
      ∙ ap (λ (t : Bool). if t then Some (Pldm from kind command body) else None) (not_first place)

  one_behind : (o : Op) (bodies : List (List ℕ)) (body : List ℕ) → is_in_parts (set_whole o) ≡ false → behind o (bodies ++ body ∷ []) ≡ None
  one_behind o [] body e = ap (option_map (from_manager at)) (alone_later (set_whole o) 0 e)
  one_behind o (other ∷ bodies) body e = ap (option_map (from_manager at)) (alone_later (set_whole o) (length (bodies ++ body ∷ [])) e)

  by_one : (o : Op) → is_in_parts (set_whole o) ≡ false → (bodies : List (List ℕ)) (board : State) (a : Answered) (after : State) → AnswersSet (family setup at) o bodies board a after → Deed o bodies board a after
  by_one o e [] board a after s =
      let is : s.asked ≡ from_manager at (set_whole o) = s.is_next ∙ ap (from_manager at) (alone_first (set_whole o) e) in
      let row = read_as setup board (from_manager at (set_whole o)) (Set o) (board_answer a) after (whole_is_read at o) (subst (λ (x : Asked). Row setup board x (board_answer a) after) is s.row) in
      told o [] board a after (one_behind o [] a.body e) (set_tells o board after a row)
  by_one o e (body ∷ bodies) board a after s = absurd (none-some s.asked (sym (ap (option_map (from_manager at)) (alone_later (set_whole o) (length bodies) e)) ∙ s.is_next))

  -- ---- several requests

  module _ (o : SetBiosAttribute) (parts : goes_whole (op_entry o) ≡ false) where
    abbrev pub entry : List ℕ
    entry = op_entry o

    abbrev pub setting : Op
    setting = op.BiosAttribute o

    pub long : most_whole < length entry
    long = leb-false _ _ parts

    pub fits : length entry ≤ 3 + most_sent
    fits = omega (arith, o.fits)

    in_parts : is_in_parts (set_whole setting) ≡ true
    in_parts = ap not parts

    -- the request of each place
    abbrev pub part_request : ℕ → Asked
    part_request place = Pldm 0 bios set_current_value (set_part entry (part_length * place))

    by_parts : (place : ℕ) → request_at (set_whole setting) place ≡ option_map (Pldm 0 bios set_current_value) (part_at (attribute_body o) place)
    by_parts place = ap (λ (t : Bool). if t then option_map (Pldm 0 bios set_current_value) (part_at (attribute_body o) place) else alone_at (set_whole setting) place) in_parts

    abbrev part_where : ℕ → Bool → Option Asked
    part_where place t = option_map (Pldm 0 bios set_current_value) (if t then Some (set_part entry (part_length * place)) else None)

    pub there : (place : ℕ) → part_length * place < length entry → request_at (set_whole setting) place ≡ Some (part_request place)
    there place within = by_parts place ∙ ap (part_where place) (lt-ltb (part_length * place) (length entry) within)

    past : (place : ℕ) → length entry ≤ part_length * place → request_at (set_whole setting) place ≡ None
    past place within = by_parts place ∙ ap (part_where place) (le-ltb (part_length * place) (length entry) within)

    -- the open request
    pub record IsPart (bodies : List (List ℕ)) (asked : Asked) : Type 0 where
      pub is : asked ≡ Pldm own bios set_current_value (set_part entry (part_length * length bodies))
      pub within : part_length * length bodies < length entry

    pub open_part : (bodies : List (List ℕ)) (asked : Asked) → IsNext (manager_words at) (sends setting) bodies asked → IsPart bodies asked
    open_part [] asked next = record { is = next ∙ ap (λ (t : Bool). Pldm own bios set_current_value (if t then set_part entry 0 else attribute_body o)) in_parts; within = omega (arith, long) }
    open_part (body ∷ bodies) asked next = by (nat_lt (part_length * suc (length bodies)) (length entry)) refl
      where
        by : (t : Bool) → nat_lt (part_length * suc (length bodies)) (length entry) ≡ t → IsPart (body ∷ bodies) asked
        by true e =
            let within = ltb-true (part_length * suc (length bodies)) (length entry) e in
            record { is = sym (same_Some _ _ (sym (ap (option_map (from_manager at)) (there (suc (length bodies)) within)) ∙ next)); within = within }
        by false e = absurd (none-some asked (sym (ap (option_map (from_manager at)) (past (suc (length bodies)) (ltb-false (part_length * suc (length bodies)) (length entry) e))) ∙ next))

    count : (bodies : List (List ℕ)) (body : List ℕ) → length (bodies ++ body ∷ []) ≡ suc (length bodies)
    count bodies body = omega (arith, length-append bodies (body ∷ []))

    behind_there : (bodies : List (List ℕ)) (body : List ℕ) → part_length * suc (length bodies) < length entry → behind setting (bodies ++ body ∷ []) ≢ None
    behind_there bodies body within none =
        none-some (from_manager at (part_request (suc (length bodies))))
        (sym none ∙ ap (λ (n : ℕ). option_map (from_manager at) (request_at (set_whole setting) n)) (count bodies body) ∙ ap (option_map (from_manager at)) (there (suc (length bodies)) within))

    behind_none : (bodies : List (List ℕ)) (body : List ℕ) → length entry ≤ part_length * suc (length bodies) → behind setting (bodies ++ body ∷ []) ≡ None
    behind_none bodies body within =
        ap (λ (n : ℕ). option_map (from_manager at) (request_at (set_whole setting) n)) (count bodies body) ∙ ap (option_map (from_manager at)) (past (suc (length bodies)) within)

    -- ---- where the operation is accepted, there are limits, and no part is refused

    abbrev limits_of : Attribute → AttributeLimits
    limits_of a = record { handle = o.attribute; read_only = a.read_only; range = range_of a.kind }

    record IsThere : Type 0 where
      attribute : Attribute
      found : attribute_at setup.attributes.items o.attribute ≡ Some attribute
      is : IsAccepted (limits_of attribute) o

    there_where : (found : Option Attribute) (old new : List ℕ) → attribute_at setup.attributes.items o.attribute ≡ found → SetsWithin (option_map (λ a. limits.BiosAttribute (limits_of a)) found) setting old new → IsThere
    there_where None old new e set = absurd set
    there_where (Some a) old new e set = record { attribute = a; found = e; is = accepted (limits_of a) o new set long }

    is_there : (old new : Records) → SetsTo (family setup at) setting old new → IsThere
    is_there old new s = there_where (attribute_at setup.attributes.items o.attribute) s.before s.after refl s.sets

    made_of : {X : Type 0} (fault : Option ℕ) (x made : X) → unless fault x ≡ Ok made → made ≡ x
    made_of (Some code) x made e = absurd cc
    made_of None x made e = cc

    refused_not : {X : Type 0} (x : X) (code : ℕ) (r : Result X ℕ) → r ≡ Ok x → r ≡ Err code → ⊥
    refused_not x code r ok err = absurd cc

    module _ (board after : State) (a : Answered) where
      abbrev stagings : StagedParts
      stagings = board.activity.stagings

      refusal : (bodies : List (List ℕ)) (code : ℕ) → (0 < code) → IsAnswerGiven (board_answer a) after (refused code, board) → ((records : Records) → ¬ SetsTo (family setup at) setting board.records records) → Deed setting bodies board a after
      refusal bodies code fault is says = Refused (record {
        fault = λ carried. let same : a.code ≡ code = ap (λ (g : AnswerAndState). g.0.code) is in omega (arith, fault, same, carried);
        kept = ap (λ (g : AnswerAndState). g.1.records) is;
        says = says;
      })

      -- ---- the first part

      abbrev first : List ℕ
      first = take part_length entry

      abbrev start : Result (List ℕ) ℕ
      start = start_outcome (limits_named setup (named_in first)) stagings own first

      named : named_in first ≡ o.attribute
      named = omega arith

      start_ok : IsThere → length (without own stagings) < most_stagings → start ≡ Ok first
      start_ok there few =
          (λ i. start_outcome (limits_named setup (named i)) stagings own first)
          ∙ ap (λ (f : Option Attribute). start_outcome (option_map limits_of f) stagings own first) there.found
          ∙ (λ i. unless (or_else (first_none (limits_of there.attribute) o there.is long i) (has_room own stagings few i)) first)

      first_staged : (r : Result (List ℕ) ℕ) → start ≡ r → length (without own stagings) < most_stagings → IsAnswerGiven (board_answer a) after (staged own board r) → Deed setting [] board a after
      first_staged (Ok made) e few is =
          let same : made ≡ first = made_of (start_fault (limits_named setup (named_in first)) stagings own first) first made e in
          Goes (record {
            carried = ap (λ (g : AnswerAndState). g.0.code) is;
            more = behind_there [] a.body (omega (arith, long));
            kept = ap (λ (g : AnswerAndState). g.1.records) is;
            ready = ap (λ (g : AnswerAndState). staged_by own g.1.activity.stagings) is ∙ own_last stagings own made ∙ ap Some same;
          })
      first_staged (Err code) e few is =
          refusal [] code (subst Refuses e (start_code (limits_named setup (named_in first)) stagings own first)).is_fault is
          (λ records s. refused_not first code start (start_ok (is_there board.records records s) few) e)

      -- ---- a later part

      module _ (body : List ℕ) (bodies : List (List ℕ)) where
        abbrev place : ℕ
        place = suc (length bodies)

        abbrev before : List ℕ
        before = take (part_length * place) entry

        abbrev part : List ℕ
        part = part_bytes entry (part_length * place)

        abbrev all : List (List ℕ)
        all = body ∷ bodies

        abbrev added : Result (List ℕ) ℕ
        added = add_outcome stagings own (part_length * place) part

        abbrev ended : Result SetBiosAttribute ℕ
        ended = end_outcome stagings own (part_length * place) part

        module _ (ready : staged_by own stagings ≡ Some before) where
          added_is : added ≡ unless (middle_fault before (part_length * place) part) (before ++ part)
          added_is = ap (λ (s : Option (List ℕ)). unless (later_fault (λ x. middle_fault x (part_length * place) part) s) (joined s part)) ready

          ended_is : ended ≡ unless (last_fault before (part_length * place) part) (op_of (before ++ part))
          ended_is = ap (λ (s : Option (List ℕ)). unless (later_fault (λ x. last_fault x (part_length * place) part) s) (op_of (joined s part))) ready

          added_ok : part_length * suc place < length entry → IsThere → added ≡ Ok (before ++ part)
          added_ok within there = added_is ∙ ap (λ (f : Option ℕ). unless f (before ++ part)) (middle_none (limits_of there.attribute) o there.is long place (omega arith) within)

          ended_ok : part_length * place < length entry → length entry ≤ part_length * suc place → IsThere → ended ≡ Ok (op_of (before ++ part))
          ended_ok begun within there = ended_is ∙ ap (λ (f : Option ℕ). unless f (op_of (before ++ part))) (last_none (limits_of there.attribute) o there.is long place (omega arith) begun within)

          later_staged : (r : Result (List ℕ) ℕ) → added ≡ r → part_length * suc place < length entry → IsAnswerGiven (board_answer a) after (staged own board r) → Deed setting all board a after
          later_staged (Ok made) e within is =
              let same : made ≡ before ++ part = made_of (middle_fault before (part_length * place) part) (before ++ part) made (sym added_is ∙ e) in
              let next : take (part_length * suc place) entry ≡ take (part_length * suc (length (bodies ++ a.body ∷ []))) entry = ap (λ (n : ℕ). take (part_length * suc n) entry) (sym (count bodies a.body)) in
              Goes (record {
                carried = ap (λ (g : AnswerAndState). g.0.code) is;
                more = behind_there all a.body within;
                kept = ap (λ (g : AnswerAndState). g.1.records) is;
                ready = ap (λ (g : AnswerAndState). staged_by own g.1.activity.stagings) is ∙ own_last stagings own made ∙ ap Some (same ∙ take_next entry place ∙ next);
              })
          later_staged (Err code) e within is =
              refusal all code (subst Refuses e (add_code stagings own (part_length * place) part)).is_fault is
              (λ records s. refused_not (before ++ part) code added (added_ok within (is_there board.records records s)) e)

          whole : length entry ≤ part_length * suc place → op_of (before ++ part) ≡ o
          whole within = ap op_of (take_next entry place ∙ take_all (part_length * suc place) entry within) ∙ op_back o

          last_ended : (r : Result SetBiosAttribute ℕ) → ended ≡ r → part_length * place < length entry → length entry ≤ part_length * suc place → AnswersLastPart setup own r board (board_answer a) after → Deed setting all board a after
          last_ended (Ok made) e begun within is =
              let same : made ≡ o = made_of (last_fault before (part_length * place) part) (op_of (before ++ part)) made (sym ended_is ∙ e) ∙ whole within in
              let set : SetsWhole setup own setting board (board_answer a) after = subst (λ (x : SetBiosAttribute). SetsWhole setup own (op.BiosAttribute x) board (board_answer a) after) same is in
              let records : after.records ≡ set.set.records = ap (λ (s : State). s.records) set.left ∙ unstaged_records own a.code set.set in
              told setting all board a after (behind_none all a.body within)
              (subst (Tells (limits_at setup (key_of setting)) (board.records (key_of setting)) setting board.records a.code) (sym records) (set_tells setting board set.set a set.sets))
          last_ended (Err code) e begun within is =
              refusal all code (subst Refuses e (end_code stagings own (part_length * place) part)).is_fault is
              (λ records s. refused_not (op_of (before ++ part)) code ended (ended_ok begun within (is_there board.records records s)) e)

          later_does : (asked : Asked) → IsPart all asked → Row setup board asked (board_answer a) after → Deed setting all board a after
          later_does asked is row = by (nat_lt (part_length * suc place) (length entry)) refl
            where
              here : Row setup board (Pldm own bios set_current_value (set_part entry (part_length * place))) (board_answer a) after
              here = subst (λ (x : Asked). Row setup board x (board_answer a) after) is.is row

              by : (t : Bool) → nat_lt (part_length * suc place) (length entry) ≡ t → Deed setting all board a after
              by true e =
                  let within = ltb-true (part_length * suc place) (length entry) e in
                  let read = middle_is_read own entry place (omega arith) is.within fits (more_behind entry place within) in
                  later_staged added refl within (read_as setup board (Pldm own bios set_current_value (set_part entry (part_length * place))) (PartOfSet own (Middle (part_length * place) part)) (board_answer a) after read here)
              by false e =
                  let within = ltb-false (part_length * suc place) (length entry) e in
                  let read = last_is_read own entry place (omega arith) is.within fits (none_behind entry place within) in
                  last_ended ended refl is.within within (read_as setup board (Pldm own bios set_current_value (set_part entry (part_length * place))) (PartOfSet own (End (part_length * place) part)) (board_answer a) after read here)

    by_several : (bodies : List (List ℕ)) (board : State) (a : Answered) (after : State) → AnswersSet (family setup at) setting bodies board a after → Deed setting bodies board a after
    by_several [] board a after s =
        let is = open_part [] s.asked s.is_next in
        let row = read_as setup board (Pldm own bios set_current_value (set_part entry 0)) (PartOfSet own (Start (take part_length entry))) (board_answer a) after (start_is_read own entry long)
        (subst (λ (x : Asked). Row setup board x (board_answer a) after) is.is s.row) in
        first_staged board after a (start board after a) refl s.ready row
    by_several (body ∷ bodies) board a after s = later_does board after a body bodies s.ready s.asked (open_part (body ∷ bodies) s.asked s.is_next) s.row

  -- ---- both

  attribute_deed : (o : SetBiosAttribute) (bodies : List (List ℕ)) (board : State) (a : Answered) (after : State) → AnswersSet (family setup at) (op.BiosAttribute o) bodies board a after → Deed (op.BiosAttribute o) bodies board a after
  attribute_deed o bodies board a after s = by (goes_whole (op_entry o)) refl
    where
      by : (t : Bool) → goes_whole (op_entry o) ≡ t → Deed (op.BiosAttribute o) bodies board a after
      by true e = by_one (op.BiosAttribute o) (ap not e) bodies board a after s
      by false e = by_several o e bodies board a after s

  pub deed : (o : Op) (bodies : List (List ℕ)) (board : State) (a : Answered) (after : State) → AnswersSet (family setup at) o bodies board a after → Deed o bodies board a after
  deed (op.BiosAttribute o) bodies board a after s = attribute_deed o bodies board a after s
  deed other bodies board a after s = by_one other refl bodies board a after s
