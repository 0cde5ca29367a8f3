-- The records of a board and its commands meet the laws of a family. No line here is a kind's.
use Rattle.std.proofs.Common.{◌≡◌, ◌≢◌, ℕ, Bool, true, false, List, [], ◌∷◌, ◌++◌, Option, Some, None, Ok, refl, sym, ◌∙◌, ap, subst, if◌then◌else◌, arith}
use Rattle.std.specs.Option.{IsSome}
use Rattle.std.proofs.lemmas.Bool.{false≢true}
use Rattle.std.proofs.lemmas.Option.{same_Some, none-some}
use Rattle.std.proofs.lemmas.Bool.Decides.{nat_tests}
use Rattle.two_wire.specs.Codes.{success, node_busy, pldm_not_ready}
use Rattle.two_wire.specs.declared.Bus.{Bus}
use Rattle.record_base.specs.declared.key.Key.{Key}
use Rattle.record_base.specs.declared.op.Op.{Op}
use Rattle.record_base.specs.declared.live.Live.{Live as LivePart}
use Rattle.record_base.specs.declared.message.Asked.{Asked}
use Rattle.record_base.specs.declared.message.Answered.{Answered as BoardAnswer}
use Rattle.cfg_records.specs.declared.board_file.BoardFile.{BoardFile}
use Rattle.record_base.specs.Keys.{same_key}
use Rattle.record_base.specs.KeyLaws.{exact_key}
use Rattle.cfg_records.specs.Records.{Records}
use Rattle.cfg_records.specs.RecordLaws.{with_record_same, with_record_back}
use Rattle.record_kinds.specs.declared.limits.Limits.{Limits}
use Rattle.record_kinds.specs.declared.limits.Limits.TheVariants as limits
use Rattle.record_kinds.specs.Limits.{key_of, restorable, inverse, is_reply, is_of, view, conf, limits_at}
use Rattle.record_kinds.specs.LimitsLaws as laws
use Rattle.record_kinds.specs.Series.{sends, first_shown}
use Rattle.bmc_board.specs.Request.{Get, asked_by}
use Rattle.bmc_board.specs.State.{State}
use Rattle.bmc_board.specs.Replies.{unknown_code}
use Rattle.bmc_board.specs.Answer.{AnswerAndState, get_answer, answer_of}
use Rattle.bmc_board.specs.AnyAnswer.{IsCode}
use Rattle.bmc_board.specs.Row.{Row}
use Rattle.bmc_board.proofs.AnswerFacts.{limits_are_of, never_busy}
use Rattle.bmc_board.proofs.OneAnswer.{has_one_answer}
use Rattle.bmc_board.proofs.Undone.{unknown_is_fault}
use Rattle.model_bus.specs.Answered.{Answered}
use Rattle.model_undo.specs.Words.{is_busy}
use Rattle.model_undo.specs.Family.{Family, SetsTo}
use Rattle.model_undo.specs.IsFamily.{AreKinds, IsFamily}
use Rattle.model_bus.specs.Addresses.{Addresses}
use Rattle.bmc_core.specs.Wires.{board_answer}
use Rattle.model_lab.specs.Family.{AllowsBody, SetsWithin, ShowsWithin, conf_within, IsReadyFor, family}
use Rattle.model_lab.proofs.Requests.{read_as}
use Rattle.model_lab.proofs.Gets.{Shown, shown_where, parts_show}
use Rattle.model_lab.proofs.Sets.{own_byte, behind, Deed, Goes, Done, Refused, IsRefusedSo, deed}
use Rattle.model_lab.proofs.Ready.{get_leaves, stays_ready}

-- ---- the kinds: what holds within limits that may be none

keeps_within : (limits : Option Limits) (op : Op) (old new : List ℕ) → AllowsBody limits old → SetsWithin limits op old new → AllowsBody limits new
keeps_within (Some l) op old new is_valid is_set = (laws.record_laws l).keeps op old new is_valid is_set
keeps_within None op old new is_valid is_set = absurd is_set

one_within : (limits : Option Limits) (op : Op) (old new other : List ℕ) → SetsWithin limits op old new → SetsWithin limits op old other → new ≡ other
one_within (Some l) op old new other is again = (laws.record_laws l).determined op old new other is again
one_within None op old new other is again = absurd is

steady_within : (limits : Option Limits) (value body other : List ℕ) → ShowsWithin limits value body → ShowsWithin limits value other → conf_within limits body ≡ conf_within limits other
steady_within (Some l) value body other shown again = ap (conf l) shown.1 ∙ (laws.record_laws l).steady value shown.0 again.0 ∙ sym (ap (conf l) again.1)
steady_within None value body other shown again = refl

-- the limits are those of the record that the operation changes
abbrev AreOf : Option Limits → Key → Type 0
AreOf limits key = (l : Limits) → limits ≡ Some l → is_of l key

same_key_within : (limits : Option Limits) (op back : Op) (value body : List ℕ) → AreOf limits (key_of op) → AllowsBody limits value → ShowsWithin limits value body → inverse op body ≡ Some back → key_of back ≡ key_of op
same_key_within (Some l) op back value body of is_valid shown is =
    (laws.record_laws l).same_record op back value shown.0 (of l refl) is_valid (sym (ap (inverse op) shown.1) ∙ is)
same_key_within None op back value body of is_valid shown is = absurd is_valid

undoes_within : (limits : Option Limits) (op back : Op) (old new body : List ℕ) → AllowsBody limits old → SetsWithin limits op old new → ShowsWithin limits old body → inverse op body ≡ Some back → SetsWithin limits back new old
undoes_within (Some l) op back old new body is_valid is_set shown is =
    (laws.record_laws l).undoes op back old new shown.0 is_valid is_set (sym (ap (inverse op) shown.1) ∙ is)
undoes_within None op back old new body is_valid is_set shown is = absurd is_set

not_some : {X : Type 0} (o : Option X) → o ≡ None → IsSome o → ⊥
not_some (Some x) none is = none-some x (sym none)
not_some None none is = false≢true is

refuses_within : (limits : Option Limits) (op : Op) (value body : List ℕ) → AreOf limits (key_of op) → AllowsBody limits value → ShowsWithin limits value body → inverse op body ≡ None → restorable op body → ⊥
refuses_within (Some l) op value body of is_valid shown none can =
    let reply : is_reply op body = subst (is_reply op) (sym shown.1) ((laws.record_laws l).replies op value shown.0 (of l refl) is_valid) in
    not_some (inverse op body) none ((laws.kind_laws.invertible op body).1 (reply, can))
refuses_within None op value body of is_valid shown none can = absurd is_valid

restores_from : (op back : Op) (body : List ℕ) → inverse op body ≡ Some back → restorable op body
restores_from op back body is = ((laws.kind_laws.invertible op body).0 (subst IsSome (sym is) refl)).1

-- ---- the map of records

valid_where : (setup : BoardFile) (records : Records) (key : Key) (new : List ℕ) → ((k : Key) (v : List ℕ) → records k ≡ Some v → AllowsBody (limits_at setup k) v) → AllowsBody (limits_at setup key) new
    → (k : Key) (b : Bool) → same_key key k ≡ b → (v : List ℕ) → (if b then Some new else records k) ≡ Some v → AllowsBody (limits_at setup k) v
valid_where setup records key new all is k true e v at =
    subst (λ (q : Key). AllowsBody (limits_at setup q) v) (exact_key key k e) (subst (AllowsBody (limits_at setup key)) (same_Some _ _ at) is)
valid_where setup records key new all is k false e v at = all k v at

-- ---- Gets

read_get : (setup : BoardFile) (before : State) (asked : Asked) (key : Key) (a : Answered) (after : State) → asked_by asked ≡ Ok (Get key) → Row setup before asked (board_answer a) after
    → board_answer a ≡ get_answer (limits_at setup key) (before.records key) before.activity.live (unknown_code setup key)
read_get setup before asked key a after is row = ap (λ (g : AnswerAndState). g.0) (read_as setup before asked (Get key) (board_answer a) after is row)

get_shows : (setup : BoardFile) (before : State) (asked : Asked) (key : Key) (a : Answered) (after : State) → asked_by asked ≡ Ok (Get key) → Row setup before asked (board_answer a) after → a.code ≡ success
    → Shown (limits_at setup key) (before.records key) a.body
get_shows setup before asked key a after is row carried =
    shown_where (limits_at setup key) (before.records key) before.activity.live (unknown_code setup key) (board_answer a) (unknown_is_fault setup key) (read_get setup before asked key a after is row) carried

-- what isn't configuration changes no configuration that a reply shows
shown_steady : (l : Limits) (value : List ℕ) (live other : LivePart) → conf l (first_shown l (view l value live)) ≡ conf l (first_shown l (view l value other))
shown_steady (limits.BiosAttribute own) value live other = refl
shown_steady l value live other = (laws.record_laws l).steady value live other

gets_steady : (setup : BoardFile) (b after c later : State) (asked other : Asked) (key : Key) (a d : Answered) → asked_by asked ≡ Ok (Get key) → asked_by other ≡ Ok (Get key) → c.records ≡ b.records
    → Row setup b asked (board_answer a) after → Row setup c other (board_answer d) later → a.code ≡ success → d.code ≡ success → conf_within (limits_at setup key) d.body ≡ conf_within (limits_at setup key) a.body
gets_steady setup b after c later asked other key a d is is_too same row row_too carried carried_too =
    let one = get_shows setup b asked key a after is row carried in
    let two = get_shows setup c other key d later is_too row_too carried_too in
    let limits_are : two.limits ≡ one.limits = same_Some _ _ (sym two.at ∙ one.at) in
    let value_is : two.value ≡ one.value = same_Some _ _ (sym two.found ∙ ap (λ (r : Records). r key) same ∙ one.found) in
    ap (λ (l : Option Limits). conf_within l d.body) two.at
    ∙ ap (conf two.limits) two.shows
    ∙ (λ i. conf (limits_are i) (first_shown (limits_are i) (view (limits_are i) (value_is i) two.live)))
    ∙ shown_steady one.limits one.value two.live one.live
    ∙ sym (ap (conf one.limits) one.shows)
    ∙ ap (λ (l : Option Limits). conf_within l a.body) (sym one.at)

-- a Get's code is that of whether there are limits and a value
get_agrees : (limits : Option Limits) (value : Option (List ℕ)) (live other : LivePart) (unknown : ℕ) → (get_answer limits value live unknown).code ≡ (get_answer limits value other unknown).code
get_agrees (Some l) (Some value) live other unknown = refl
get_agrees (Some l) None live other unknown = refl
get_agrees None (Some value) live other unknown = refl
get_agrees None None live other unknown = refl

gets_agree : (setup : BoardFile) (b after c later : State) (asked other : Asked) (key : Key) (a d : Answered) → asked_by asked ≡ Ok (Get key) → asked_by other ≡ Ok (Get key) → c.records ≡ b.records
    → Row setup b asked (board_answer a) after → Row setup c other (board_answer d) later → d.code ≡ a.code
gets_agree setup b after c later asked other key a d is is_too same row row_too =
    let limits = limits_at setup key in
    let unknown = unknown_code setup key in
    ap (λ (x : BoardAnswer). x.code) (read_get setup c other key d later is_too row_too)
    ∙ ap (λ (r : Records). (get_answer limits (r key) c.activity.live unknown).code) same
    ∙ get_agrees limits (b.records key) c.activity.live b.activity.live unknown
    ∙ sym (ap (λ (x : BoardAnswer). x.code) (read_get setup b asked key a after is row))

-- ---- codes

not_busy : (code : ℕ) → code ≢ node_busy → code ≢ pldm_not_ready → is_busy code ≡ false
not_busy code one other = grind (arith, nat_tests)

free : (setup : BoardFile) (before : State) (asked : Asked) (a : Answered) (after : State) → Row setup before asked (board_answer a) after → is_busy a.code ≡ false
free setup before asked a after row =
    let given = has_one_answer setup before asked (board_answer a) after row in
    let code : a.code ≡ (answer_of setup before asked).0.code = ap (λ (g : AnswerAndState). g.0.code) given in
    let is : IsCode a.code = subst IsCode (sym code) (never_busy setup before asked) in
    not_busy a.code is.not_busy is.is_ready

-- ---- all laws

kinds : (setup : BoardFile) (at : Bus → Addresses) → AreKinds (family setup at)
kinds setup at = record {
  put_back = λ records key old new had. with_record_back records key new old had;
  get_put = λ records key old new had. with_record_same records key new;
  put_valid = λ records key new all is. λ k v found. valid_where setup records key new all is k (same_key key k) refl v found;
  sets_valid = λ op old new is_valid is_set. keeps_within (limits_at setup (key_of op)) op old new is_valid is_set;
  sets_one = λ op old new other is again. one_within (limits_at setup (key_of op)) op old new other is again;
  same_key = λ op back value body is_valid shown is. same_key_within (limits_at setup (key_of op)) op back value body (limits_are_of setup (key_of op)) is_valid shown is;
  undoes = λ op back old new body is_valid is_set shown is.
      subst (λ (k : Key). SetsWithin (limits_at setup k) back new old)
      (sym (same_key_within (limits_at setup (key_of op)) op back old body (limits_are_of setup (key_of op)) is_valid shown is))
      (undoes_within (limits_at setup (key_of op)) op back old new body is_valid is_set shown is);
  restores = λ op back value body is_valid shown is. restores_from op back body is;
  refuses = λ op value body is_valid shown none. refuses_within (limits_at setup (key_of op)) op value body (limits_are_of setup (key_of op)) is_valid shown none;
  steady = λ key value body other is_valid shown again. steady_within (limits_at setup key) value body other shown again;
}

module _ (setup : BoardFile) (at : Bus → Addresses) where
  abbrev F : Family
  F = family setup at

  goes_on_so : (b after : State) (o : Op) (bodies : List (List ℕ)) (a : Answered) (following : Asked) → Deed setup at o bodies b a after → a.code ≡ success → behind setup at o (bodies ++ a.body ∷ []) ≡ Some following
      → (after.records ≡ b.records) × IsReadyFor (own_byte at) after.activity.stagings (sends o) (bodies ++ a.body ∷ [])
  goes_on_so b after o bodies a following (Goes g) carried is = (g.kept, g.ready)
  goes_on_so b after o bodies a following (Done d) carried is = absurd (none-some following (sym d.ends ∙ is))
  goes_on_so b after o bodies a following (Refused r) carried is = absurd (r.fault carried)

  done_so : (b after : State) (o : Op) (bodies : List (List ℕ)) (a : Answered) → Deed setup at o bodies b a after → a.code ≡ success → behind setup at o (bodies ++ a.body ∷ []) ≡ None → SetsTo F o b.records after.records
  done_so b after o bodies a (Goes g) carried is = absurd (g.more is)
  done_so b after o bodies a (Done d) carried is = d.done
  done_so b after o bodies a (Refused r) carried is = absurd (r.fault carried)

  refused_so : (b after : State) (o : Op) (bodies : List (List ℕ)) (a : Answered) → Deed setup at o bodies b a after → a.code ≢ success → IsRefusedSo setup at o b a after
  refused_so b after o bodies a (Goes g) fault = absurd (fault g.carried)
  refused_so b after o bodies a (Done d) fault = absurd (fault d.carried)
  refused_so b after o bodies a (Refused r) fault = r

  pub is_family : IsFamily F
  is_family = record {
    kinds = kinds setup at;
    gets_steady = λ b after c later asked other key a d is is_too same valid row row_too. gets_steady setup b after c later asked other key a d is is_too same row row_too;
    gets_agree = λ b after c later asked other key a d is is_too same row row_too. gets_agree setup b after c later asked other key a d is is_too same row row_too;
    parts_keep = λ b after key asked a is row. (get_leaves setup at key asked b a after is row).records;
    parts_show = parts_show setup at;
    sets_go_on = λ b after o bodies a following s. goes_on_so b after o bodies a following (deed setup at o bodies b a after s);
    sets_do = λ b after o bodies a s. done_so b after o bodies a (deed setup at o bodies b a after s);
    refusals_keep = λ b after o bodies a s fault. (refused_so b after o bodies a (deed setup at o bodies b a after s) fault).kept;
    refusals_say = λ b after o bodies a s fault. (refused_so b after o bodies a (deed setup at o bodies b a after s) fault).says;
    stays_ready = λ b after asked a made ready row. stays_ready setup at asked b a after made row ready;
    never_busy = λ b after asked a row. free setup b asked a after row;
  }
