-- What the manager's requests leave: a Get changes no record, and no request changes what others have staged.
use Rattle.std.proofs.Common.{◌≡◌, inl, inr, ℕ, suc, ◌*◌, ◌<◌, Bool, true, false, not, List, [], ◌∷◌, length, take, Option, Some, None, Result, Ok, Err, refl, sym, ◌∙◌, ap, subst, if◌then◌else◌, arith}
use Rattle.std.specs.Prelude.{nat_lt, ◌==◌}
use Rattle.std.specs.Option.{option_map}
use Rattle.std.proofs.lemmas.Bool.{ltb-true, ltb-false}
use Rattle.std.proofs.lemmas.Option.{none-some, same_Some}
use Rattle.two_wire.specs.Codes.{success}
use Rattle.two_wire.specs.declared.Bus.{Bus}
use Rattle.record_base.specs.declared.bios_attribute.SetBiosAttribute.{SetBiosAttribute}
use Rattle.record_base.specs.declared.key.Key.{Key}
use Rattle.record_base.specs.declared.key.Key.TheVariants as key
use Rattle.record_base.specs.declared.op.Op.{Op}
use Rattle.record_base.specs.declared.op.Op.TheVariants as op
use Rattle.record_base.specs.declared.message.Asked.{Asked}
use Rattle.record_base.specs.declared.message.Asked.TheVariants.{Ipmi, Pldm}
use Rattle.record_base.specs.declared.message.Answered.{Answered as BoardAnswer}
use Rattle.cfg_records.specs.declared.board_file.BoardFile.{BoardFile}
use Rattle.pldm_base.specs.Parts.{part_length, part_bytes, goes_whole}
use Rattle.bios_attr.specs.BiosAttribute.{op_entry}
use Rattle.bios_attr.specs.EntryParts.{bios, set_current_value, set_part, is_in_parts, request_at, get_part, goes_on, last_of, alone_at, part_at}
use Rattle.record_kinds.specs.declared.set_part.SetPart.TheVariants.{Start, Middle, End}
use Rattle.record_kinds.specs.Stagings.{StagedParts, most_stagings, without, start_outcome, add_outcome, end_outcome}
use Rattle.record_kinds.specs.declared.limits.Limits.{Limits}
use Rattle.record_kinds.specs.Limits.{key_of, get_asked, limits_at}
use Rattle.record_kinds.specs.Series.{Series, Reads, Sends, sends, set_whole, next_after}
use Rattle.bmc_board.specs.Request.{Get, Set, PartOfSet}
use Rattle.bmc_board.specs.State.{State}
use Rattle.bmc_board.specs.Table.{is_changing}
use Rattle.bmc_board.specs.Replies.{unknown_code}
use Rattle.bmc_board.specs.AttributeParts.{named_in, limits_named, with_stagings}
use Rattle.bmc_board.specs.Answer.{AnswerAndState, staged}
use Rattle.bmc_board.specs.Row.{IsAnswerGiven, SetAnswered, SetsAt, AnswersLastPart, Row}
use Rattle.bmc_board.proofs.Quiet.{keeps_records, keeps_stagings}
use Rattle.model_bus.specs.Answered.{Answered}
use Rattle.model_bus.specs.Addresses.{Addresses}
use Rattle.model_undo.specs.Words.{IsOneOf, IsMade}
use Rattle.model_undo.specs.Family.{IsReady}
use Rattle.bmc_core.specs.Wires.{board_answer}
use Rattle.model_lab.specs.ManagerWords.{from_manager, manager_words}
use Rattle.model_lab.specs.Family.{IsReadyFor, family}
use Rattle.model_lab.proofs.Parts.{more_behind, none_behind}
use Rattle.model_lab.proofs.Accepted.{without_staged, without_twice}
use Rattle.model_lab.proofs.Requests.{read_as, get_is_read, whole_is_read, start_is_read, middle_is_read, last_is_read}
use Rattle.model_lab.proofs.Sets.{own_byte, alone_first, alone_later, there, IsPart, open_part, long, fits}

-- a board that has these records and stagings, as another has
pub record Leaves (board after : State) : Type 0 where
  pub records : after.records ≡ board.records
  pub stagings : after.activity.stagings ≡ board.activity.stagings

module _ (setup : BoardFile) (at : Bus → Addresses) where
  abbrev own : ℕ
  own = own_byte at

  -- ---- a Get

  later_quiet : (k : Key) (bodies : List (List ℕ)) (asked : Asked) → option_map (from_manager at) (next_after (Reads k) bodies) ≡ Some asked → is_changing asked ≡ false
  later_quiet (key.BiosAttribute handle) bodies asked is = by (goes_on (length bodies) (last_of bodies)) is
    where
      by : (t : Bool) → option_map (from_manager at) (if t then Some (get_part handle (part_length * length bodies)) else None) ≡ Some asked → is_changing asked ≡ false
      by true is = subst (λ (x : Asked). is_changing x ≡ false) (same_Some _ _ is) refl
      by false is = absurd (none-some asked is)
  later_quiet _ bodies asked is = absurd (none-some asked is)

  pub get_leaves : (k : Key) (asked : Asked) (b : State) (a : Answered) (after : State) → IsOneOf (manager_words at) (Reads k) asked → Row setup b asked (board_answer a) after → Leaves b after
  get_leaves k asked b a after (inl is) row =
      let served = read_as setup b (from_manager at (get_asked k)) (Get k) (board_answer a) after (get_is_read at k) (subst (λ (x : Asked). Row setup b x (board_answer a) after) is row) in
      record { records = ap (λ (g : AnswerAndState). g.1.records) served; stagings = ap (λ (g : AnswerAndState). g.1.activity.stagings) served }
  get_leaves k asked b a after (inr is) row =
      let quiet = later_quiet k is.0 asked is.1 in
      record { records = keeps_records setup b asked (board_answer a) after quiet row; stagings = keeps_stagings setup b asked (board_answer a) after quiet row }

  -- ---- a Set

  -- what others have staged stays
  abbrev LeavesOthers : State → State → Type 0
  LeavesOthers b after = without own after.activity.stagings ≡ without own b.activity.stagings

  sets_where : (limits : Option Limits) (value : Option (List ℕ)) (unknown : ℕ) (o : Op) (b : State) (a : BoardAnswer) (after : State) → SetAnswered limits value unknown o b a after → after.activity.stagings ≡ b.activity.stagings
  sets_where (Some l) (Some old) unknown o b a after (inl is) = ap (λ (s : State). s.activity.stagings) is.left
  sets_where (Some l) (Some old) unknown o b a after (inr is) = ap (λ (s : State). s.activity.stagings) is.left
  sets_where (Some l) None unknown o b a after is = ap (λ (s : State). s.activity.stagings) is.1
  sets_where None (Some old) unknown o b a after is = ap (λ (s : State). s.activity.stagings) is.1
  sets_where None None unknown o b a after is = ap (λ (s : State). s.activity.stagings) is.1

  set_leaves : (o : Op) (b : State) (a : BoardAnswer) (after : State) → SetsAt setup o b a after → after.activity.stagings ≡ b.activity.stagings
  set_leaves o b a after is = sets_where (limits_at setup (key_of o)) (b.records (key_of o)) (unknown_code setup (key_of o)) o b a after is

  staged_leaves : (r : Result (List ℕ) ℕ) (b : State) (a : BoardAnswer) (after : State) → IsAnswerGiven a after (staged own b r) → LeavesOthers b after
  staged_leaves (Ok entry) b a after is = ap (λ (g : AnswerAndState). without own g.1.activity.stagings) is ∙ without_staged own entry b.activity.stagings
  staged_leaves (Err code) b a after is = ap (λ (g : AnswerAndState). without own g.1.activity.stagings) is

  unstaged_leaves : (t : Bool) (s : State) → LeavesOthers s (if t then with_stagings s (without own s.activity.stagings) else s)
  unstaged_leaves true s = without_twice own s.activity.stagings
  unstaged_leaves false s = refl

  ends_leave : (r : Result SetBiosAttribute ℕ) (b : State) (a : BoardAnswer) (after : State) → AnswersLastPart setup own r b a after → LeavesOthers b after
  ends_leave (Ok o) b a after is =
      ap (λ (s : State). without own s.activity.stagings) is.left
      ∙ unstaged_leaves (a.code == success) is.set
      ∙ ap (without own) (set_leaves (op.BiosAttribute o) b a is.set is.sets)
  ends_leave (Err code) b a after is = ap (λ (g : AnswerAndState). without own g.1.activity.stagings) is

  -- of one request
  alone_now : (asked : Asked) → is_in_parts asked ≡ false → request_at asked 0 ≡ Some asked
  alone_now (Ipmi from net_fn lun command body) e = refl
  alone_now (Pldm from kind command body) e = ap (λ (t : Bool). if t then option_map (Pldm from kind command) (part_at body 0) else alone_at (Pldm from kind command body) 0) e

  only_one : (o : Op) → is_in_parts (set_whole o) ≡ false → (asked : Asked) → IsOneOf (manager_words at) (sends o) asked → asked ≡ from_manager at (set_whole o)
  only_one o e asked (inl is) = is ∙ ap (from_manager at) (alone_first setup at (set_whole o) e)
  only_one o e asked (inr is) = by is.0 is.1
    where
      by : (bodies : List (List ℕ)) → option_map (from_manager at) (request_at (set_whole o) (length bodies)) ≡ Some asked → asked ≡ from_manager at (set_whole o)
      by [] next = sym (same_Some _ _ (sym (ap (option_map (from_manager at)) (alone_now (set_whole o) e)) ∙ next))
      by (body ∷ bodies) next = absurd (none-some asked (sym (ap (option_map (from_manager at)) (alone_later setup at (set_whole o) (length bodies) e)) ∙ next))

  one_leaves : (o : Op) → is_in_parts (set_whole o) ≡ false → (asked : Asked) (b : State) (a : Answered) (after : State) → IsOneOf (manager_words at) (sends o) asked → Row setup b asked (board_answer a) after → LeavesOthers b after
  one_leaves o e asked b a after of row =
      ap (without own) (set_leaves o b (board_answer a) after
      (read_as setup b (from_manager at (set_whole o)) (Set o) (board_answer a) after (whole_is_read at o) (subst (λ (x : Asked). Row setup b x (board_answer a) after) (only_one o e asked of) row)))

  -- of several
  module _ (o : SetBiosAttribute) (parts : goes_whole (op_entry o) ≡ false) where
    abbrev entry : List ℕ
    entry = op_entry o

    one_of_them : (asked : Asked) → IsOneOf (manager_words at) (sends (op.BiosAttribute o)) asked → (bodies : List (List ℕ)) × IsPart setup at o parts bodies asked
    one_of_them asked (inl is) = ([], open_part setup at o parts [] asked is)
    one_of_them asked (inr is) = by is.0 is.1
      where
        by : (bodies : List (List ℕ)) → option_map (from_manager at) (request_at (set_whole (op.BiosAttribute o)) (length bodies)) ≡ Some asked → (bodies : List (List ℕ)) × IsPart setup at o parts bodies asked
        by [] next =
            let within : part_length * 0 < length entry = omega (arith, long setup at o parts) in
            ([], record { is = sym (same_Some _ _ (sym (ap (option_map (from_manager at)) (there setup at o parts 0 within)) ∙ next)); within = within })
        by (body ∷ bodies) next = (body ∷ bodies, open_part setup at o parts (body ∷ bodies) asked next)

    part_leaves : (bodies : List (List ℕ)) (asked : Asked) (b : State) (a : Answered) (after : State) → IsPart setup at o parts bodies asked → Row setup b asked (board_answer a) after → LeavesOthers b after
    part_leaves [] asked b a after is row =
        staged_leaves (start_outcome (limits_named setup (named_in (take part_length entry))) b.activity.stagings own (take part_length entry)) b (board_answer a) after
        (read_as setup b (Pldm own bios set_current_value (set_part entry 0)) (PartOfSet own (Start (take part_length entry))) (board_answer a) after (start_is_read own entry (long setup at o parts))
        (subst (λ (x : Asked). Row setup b x (board_answer a) after) is.is row))
    part_leaves (body ∷ bodies) asked b a after is row = by (nat_lt (part_length * suc place) (length entry)) refl
      where
        place : ℕ
        place = suc (length bodies)

        by : (t : Bool) → nat_lt (part_length * suc place) (length entry) ≡ t → LeavesOthers b after
        by true e =
            let n = suc (length bodies) in
            let bytes = part_bytes entry (part_length * n) in
            let read = middle_is_read own entry n (omega arith) is.within (fits setup at o parts) (more_behind entry n (ltb-true (part_length * suc n) (length entry) e)) in
            staged_leaves (add_outcome b.activity.stagings own (part_length * n) bytes) b (board_answer a) after
            (read_as setup b (Pldm own bios set_current_value (set_part entry (part_length * n))) (PartOfSet own (Middle (part_length * n) bytes)) (board_answer a) after read
            (subst (λ (x : Asked). Row setup b x (board_answer a) after) is.is row))
        by false e =
            let n = suc (length bodies) in
            let bytes = part_bytes entry (part_length * n) in
            let read = last_is_read own entry n (omega arith) is.within (fits setup at o parts) (none_behind entry n (ltb-false (part_length * suc n) (length entry) e)) in
            ends_leave (end_outcome b.activity.stagings own (part_length * n) bytes) b (board_answer a) after
            (read_as setup b (Pldm own bios set_current_value (set_part entry (part_length * n))) (PartOfSet own (End (part_length * n) bytes)) (board_answer a) after read
            (subst (λ (x : Asked). Row setup b x (board_answer a) after) is.is row))

    several_leave : (asked : Asked) (b : State) (a : Answered) (after : State) → IsOneOf (manager_words at) (sends (op.BiosAttribute o)) asked → Row setup b asked (board_answer a) after → LeavesOthers b after
    several_leave asked b a after of row = let p = one_of_them asked of in part_leaves p.0 asked b a after p.1 row

  attribute_leaves : (o : SetBiosAttribute) (asked : Asked) (b : State) (a : Answered) (after : State) → IsOneOf (manager_words at) (sends (op.BiosAttribute o)) asked → Row setup b asked (board_answer a) after → LeavesOthers b after
  attribute_leaves o asked b a after of row = by (goes_whole (op_entry o)) refl
    where
      by : (t : Bool) → goes_whole (op_entry o) ≡ t → LeavesOthers b after
      by true e = one_leaves (op.BiosAttribute o) (ap not e) asked b a after of row
      by false e = several_leave o e asked b a after of row

  sends_leave : (o : Op) (asked : Asked) (b : State) (a : Answered) (after : State) → IsOneOf (manager_words at) (sends o) asked → Row setup b asked (board_answer a) after → LeavesOthers b after
  sends_leave (op.BiosAttribute o) asked b a after of row = attribute_leaves o asked b a after of row
  sends_leave other asked b a after of row = one_leaves other refl asked b a after of row

  -- ---- both

  made_leaves : (asked : Asked) (b : State) (a : Answered) (after : State) → IsMade (manager_words at) asked → Row setup b asked (board_answer a) after → LeavesOthers b after
  made_leaves asked b a after made row = elim made.1 [
    | inl is ↦ ap (without own) (get_leaves is.0 asked b a after (subst (λ (s : Series). IsOneOf (manager_words at) s asked) is.1 made.2) row).stagings
    | inr is ↦ sends_leave is.0 asked b a after (subst (λ (s : Series). IsOneOf (manager_words at) s asked) is.1 made.2) row
  ]

  ready_with : (stagings : StagedParts) → length (without own stagings) < most_stagings → (series : Series) → IsReadyFor own stagings series []
  ready_with stagings few (Reads k) = tt
  ready_with stagings few (Sends asked) = few

  pub stays_ready : (asked : Asked) (b : State) (a : Answered) (after : State) → IsMade (manager_words at) asked → Row setup b asked (board_answer a) after → IsReady (family setup at) b → IsReady (family setup at) after
  stays_ready asked b a after made row ready =
      ready_with after.activity.stagings (subst (λ (others : StagedParts). length others < most_stagings) (sym (made_leaves asked b a after made row)) (ready (Sends asked)))
