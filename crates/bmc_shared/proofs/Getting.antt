-- A Get shows what was set.
use Rattle.std.proofs.Common.{◌≡◌, ◌≢◌, ◌<◌, ◌++◌, ◌⊎◌, ℕ, List, [], ◌∷◌, Option, Some, None, Result, Ok, Err, Bool, true, false, if◌then◌else◌, inl, inr, refl, sym, ap, ◌∙◌, subst, arith}
use Rattle.two_wire.specs.Codes.{success}
use Rattle.record_base.specs.Meaning.{DecidesValue}
use Rattle.record_base.specs.Keys.{same_key}
use Rattle.record_base.specs.KeyLaws.{exact_key}
use Rattle.record_base.specs.declared.key.Key.{Key}
use Rattle.record_base.specs.declared.key.Key.TheVariants as of_key
use Rattle.record_base.specs.declared.op.Op.{Op}
use Rattle.record_base.specs.declared.op.Op.TheVariants as of_kind
use Rattle.record_base.specs.declared.bios_attribute.SetBiosAttribute.{SetBiosAttribute}
use Rattle.record_base.specs.declared.message.Answered.{Answered}
use Rattle.cfg_records.specs.Records.{Records, with_record}
use Rattle.cfg_records.specs.RecordLaws.{with_record_same}
use Rattle.cfg_records.specs.declared.board_file.BoardFile.{BoardFile}
use Rattle.record_kinds.specs.declared.limits.Limits.{Limits}
use Rattle.record_kinds.specs.Limits.{key_of, limits_at, sets, outcome, view}
use Rattle.record_kinds.specs.LimitsLaws as laws
use Rattle.record_kinds.specs.declared.set_part.SetPart.TheVariants.{Start, Middle, End}
use Rattle.record_kinds.specs.Stagings.{start_outcome, add_outcome, end_outcome}
use Rattle.bmc_board.specs.Request.{Request}
use Rattle.bmc_board.specs.Request.{Live, Get, Set, SetStores, PartOfSet, LaterPart}
use Rattle.record_kinds.specs.Sets.{set_outcome}
use Rattle.bmc_board.specs.Request.{asked_by}
use Rattle.bmc_board.specs.State.{State}
use Rattle.bmc_board.specs.Replies.{unknown_code}
use Rattle.bmc_board.specs.Answer.{AnswerAndState, get_answer, set_result, set_answer, outcome_at, both_given, set_at, end_staging, ended, reply}
use Rattle.bmc_board.specs.AttributeParts.{named_in, limits_named, later_answer}
use Rattle.bmc_board.specs.Stores.{ChangesBoth, ChangesNeither}
use Rattle.bmc_board.proofs.LiveFacts.{unknown_is_refused}
use Rattle.bmc_board.proofs.PartFacts.{staged_records, unstaged_records}
use Rattle.bmc_board.proofs.StoresFacts.{both_or_none}
use Rattle.bmc_shared.specs.declared.event.Call.{Call}
use Rattle.bmc_shared.specs.declared.event.Call.TheVariants.{Exchanged, Benched}
use Rattle.bmc_shared.specs.declared.event.Event.{Event}
use Rattle.bmc_shared.specs.Replay.{IsReplay, IsAnsweredCall, after_call}
use Rattle.bmc_shared.proofs.TwoStores.{NamesTwo, names_two}
use Rattle.bmc_shared.specs.Gets.{state_after, IsSetBy, WritesRecord, MayWrite, NoneWrites, IsGetOf, shown_by, GetsWhatWasSet}

-- ---- calls that don't write a record keep it

kept_at : (records : Records) (other key : Key) (new : List ℕ) (b : Bool) → same_key other key ≡ b → (other ≡ key → ⊥) → (if b then Some new else records key) ≡ records key
kept_at records other key new true e differ = absurd (differ (exact_key other key e))
kept_at records other key new false e differ = refl

kept : (records : Records) (other key : Key) (new : List ℕ) → (other ≡ key → ⊥) → with_record records other new key ≡ records key
kept records other key new differ = kept_at records other key new (same_key other key) refl differ

result_keeps : (r : Result (List ℕ) ℕ) (op : Op) (before : State) (key : Key) → (key_of op ≡ key → ⊥) → (set_result r op before).1.records key ≡ before.records key
result_keeps (Ok new) op before key differ = kept before.records (key_of op) key new differ
result_keeps (Err fault) op before key differ = refl

set_keeps : (limits : Option Limits) (value : Option (List ℕ)) (unknown : ℕ) (op : Op) (before : State) (key : Key) → (key_of op ≡ key → ⊥) → (set_answer limits value unknown op before).1.records key ≡ before.records key
set_keeps (Some limits) (Some old) unknown op before key differ = result_keeps (outcome limits op old) op before key differ
set_keeps (Some limits) None unknown op before key differ = refl
set_keeps None (Some old) unknown op before key differ = refl
set_keeps None None unknown op before key differ = refl

both_keep : (a b : Result (List ℕ) ℕ) (one other : Key) (before : State) (key : Key) → (one ≡ key → ⊥) → (other ≡ key → ⊥) → (both_given a b one other before).1.records key ≡ before.records key
both_keep (Ok new) (Ok value) one other before key first second = kept (with_record before.records one new) other key value second ∙ kept before.records one key new first
both_keep (Ok new) (Err fault) one other before key first second = refl
both_keep (Err fault) (Ok value) one other before key first second = refl
both_keep (Err fault) (Err later) one other before key first second = refl

-- the last part of a Set, which is the Set of the whole entry
ended_keeps : (setup : BoardFile) (from : ℕ) (before : State) (r : Result SetBiosAttribute ℕ) (key : Key) → ((change : SetBiosAttribute) → r ≡ Ok change → key_of (of_kind.BiosAttribute change) ≡ key → ⊥)
    → (ended setup from before r).1.records key ≡ before.records key
ended_keeps setup from before (Ok change) key not =
    let op : Op = of_kind.BiosAttribute change in
    let given : AnswerAndState = set_at setup before op in
    ap (λ (r : Records). r key) (unstaged_records from given.0.code given.1)
    ∙ set_keeps (limits_at setup (key_of op)) (before.records (key_of op)) (unknown_code setup (key_of op)) op before key (not change refl)
ended_keeps setup from before (Err code) key not = refl

reply_keeps : (setup : BoardFile) (before : State) (r : Result Request ℕ) (key : Key) → (WritesRecord before r key → ⊥) → (reply setup before r).1.records key ≡ before.records key
reply_keeps setup before (Ok (Live command body)) key not = refl
reply_keeps setup before (Ok (Get other)) key not = refl
reply_keeps setup before (Ok (Set op)) key not = set_keeps (limits_at setup (key_of op)) (before.records (key_of op)) (unknown_code setup (key_of op)) op before key (λ is. not (op, refl, is))
reply_keeps setup before (Ok (SetStores first second)) key not =
    both_keep (outcome_at setup before (of_kind.ChannelAccess first)) (outcome_at setup before (of_kind.ChannelAccess second)) (key_of (of_kind.ChannelAccess first)) (key_of (of_kind.ChannelAccess second)) before key
    (λ is. not (of_kind.ChannelAccess first, inl refl, is)) (λ is. not (of_kind.ChannelAccess second, inr refl, is))
reply_keeps setup before (Ok (PartOfSet from (Start entry))) key not = ap (λ (r : Records). r key) (staged_records from before (start_outcome (limits_named setup (named_in entry)) before.activity.stagings from entry))
reply_keeps setup before (Ok (PartOfSet from (Middle handle bytes))) key not = ap (λ (r : Records). r key) (staged_records from before (add_outcome before.activity.stagings from handle bytes))
reply_keeps setup before (Ok (PartOfSet from (End handle bytes))) key not =
    ended_keeps setup from before (end_outcome before.activity.stagings from handle bytes) key (λ change e is. not (of_kind.BiosAttribute change, (change, e, refl), is))
reply_keeps setup before (Ok (LaterPart handle transfer)) key not = refl
reply_keeps setup before (Err fault) key not = refl

call_keeps : (setup : BoardFile) (before : State) (call : Call) (key : Key) → (MayWrite before key call → ⊥) → (after_call setup before call).records key ≡ before.records key
call_keeps setup before (Exchanged asked answered) key not = reply_keeps setup before (asked_by asked) key not
call_keeps setup before (Benched bench answered) key not = refl

calls_keep : (setup : BoardFile) (before : State) (events : List Event) (key : Key) → NoneWrites setup before key events → (state_after setup before events).records key ≡ before.records key
calls_keep setup before [] key none = refl
calls_keep setup before (event ∷ later) key none = calls_keep setup (after_call setup before event.call) later key none.1 ∙ call_keeps setup before event.call key none.0

-- ---- a Set that was carried out

record Written (limits : Option Limits) (value : Option (List ℕ)) (op : Op) (before : State) (given : AnswerAndState) : Type 0 where
  of : Limits
  old : List ℕ
  new : List ℕ
  limits_are : limits ≡ Some of
  had : value ≡ Some old
  was_set : sets of op old new
  has : given.1.records (key_of op) ≡ Some new

result_written : (of : Limits) (old : List ℕ) (op : Op) (before : State) (r : Result (List ℕ) ℕ) → outcome of op old ≡ r → DecidesValue r (sets of op old) → (set_result r op before).0.code ≡ success → Written (Some of) (Some old) op before (set_result r op before)
result_written of old op before (Ok new) e d carried = record {
  of = of;
  old = old;
  new = new;
  limits_are = refl;
  had = refl;
  was_set = d;
  has = with_record_same before.records (key_of op) new;
}
result_written of old op before (Err fault) e d carried = absurd (omega (arith, ((laws.record_laws of).refuses op old fault e).is_fault, carried))

set_written : (limits : Option Limits) (value : Option (List ℕ)) (unknown : ℕ) (op : Op) (before : State) → 0 < unknown → (set_answer limits value unknown op before).0.code ≡ success → Written limits value op before (set_answer limits value unknown op before)
set_written (Some of) (Some old) unknown op before fault carried = result_written of old op before (outcome of op old) refl ((laws.record_laws of).decides op old) carried
set_written (Some of) None unknown op before fault carried = absurd (omega (arith, fault, carried))
set_written None (Some old) unknown op before fault carried = absurd (omega (arith, fault, carried))
set_written None None unknown op before fault carried = absurd (omega (arith, fault, carried))

-- the last part of a Set was carried out as the Set of the whole entry
ended_written : (setup : BoardFile) (from : ℕ) (before : State) (r : Result SetBiosAttribute ℕ) (change : SetBiosAttribute) → r ≡ Ok change → (ended setup from before r).0.code ≡ success
    → Written (limits_at setup (key_of (of_kind.BiosAttribute change))) (before.records (key_of (of_kind.BiosAttribute change))) (of_kind.BiosAttribute change) before (ended setup from before r)
ended_written setup from before (Ok other) change e carried =
    let same : other ≡ change = cc in
    let op : Op = of_kind.BiosAttribute other in
    let given : AnswerAndState = set_at setup before op in
    let unknown : 0 < unknown_code setup (key_of op) = (unknown_is_refused setup (key_of op)).is_fault in
    let w : Written (limits_at setup (key_of op)) (before.records (key_of op)) op before given = set_written (limits_at setup (key_of op)) (before.records (key_of op)) (unknown_code setup (key_of op)) op before unknown carried in
    let whole : Written (limits_at setup (key_of op)) (before.records (key_of op)) op before (end_staging from given) =
    record { of = w.of; old = w.old; new = w.new; limits_are = w.limits_are; had = w.had; was_set = w.was_set; has = ap (λ (r : Records). r (key_of op)) (unstaged_records from given.0.code given.1) ∙ w.has } in
    subst (λ (c : SetBiosAttribute). Written (limits_at setup (key_of (of_kind.BiosAttribute c))) (before.records (key_of (of_kind.BiosAttribute c))) (of_kind.BiosAttribute c) before (end_staging from given)) same whole
ended_written setup from before (Err code) change e carried = cc

-- what an operation makes of its record, where it is accepted
record Made (limits : Option Limits) (value : Option (List ℕ)) (op : Op) (new : List ℕ) : Type 0 where
  of : Limits
  old : List ℕ
  limits_are : limits ≡ Some of
  had : value ≡ Some old
  was_set : sets of op old new

made_where : (limits : Option Limits) (value : Option (List ℕ)) (unknown : ℕ) (op : Op) (new : List ℕ) → set_outcome limits value unknown op ≡ Ok new → Made limits value op new
made_where (Some of) (Some old) unknown op new is = record {
  of = of;
  old = old;
  limits_are = refl;
  had = refl;
  was_set = subst (λ (r : Result (List ℕ) ℕ). DecidesValue r (sets of op old)) is ((laws.record_laws of).decides op old);
}
made_where (Some of) None unknown op new is = absurd cc
made_where None (Some old) unknown op new is = absurd cc
made_where None None unknown op new is = absurd cc

made_at : (setup : BoardFile) (before : State) (op : Op) (new : List ℕ) → outcome_at setup before op ≡ Ok new → Made (limits_at setup (key_of op)) (before.records (key_of op)) op new
made_at setup before op new is = made_where (limits_at setup (key_of op)) (before.records (key_of op)) (unknown_code setup (key_of op)) op new is

-- Two operations on two records were carried out, so both were.
both_written : (setup : BoardFile) (before : State) (first second op : Op) (given : AnswerAndState) → (key_of first ≢ key_of second) → ChangesBoth setup before first second given
    → (first ≡ op) ⊎ (second ≡ op) → Written (limits_at setup (key_of op)) (before.records (key_of op)) op before given
both_written setup before first second op given apart both (inl is) =
    let made : Made (limits_at setup (key_of first)) (before.records (key_of first)) first both.new = made_at setup before first both.new both.first_made in
    let once : Records = with_record before.records (key_of first) both.new in
    let whole : Written (limits_at setup (key_of first)) (before.records (key_of first)) first before given = record {
      of = made.of;
      old = made.old;
      new = both.new;
      limits_are = made.limits_are;
      had = made.had;
      was_set = made.was_set;
      has = ap (λ (s : State). s.records (key_of first)) both.left ∙ kept once (key_of second) (key_of first) both.other (λ e. apart (sym e)) ∙ with_record_same before.records (key_of first) both.new;
    } in
    subst (λ (o : Op). Written (limits_at setup (key_of o)) (before.records (key_of o)) o before given) is whole
both_written setup before first second op given apart both (inr is) =
    let made : Made (limits_at setup (key_of second)) (before.records (key_of second)) second both.other = made_at setup before second both.other both.second_made in
    let once : Records = with_record before.records (key_of first) both.new in
    let whole : Written (limits_at setup (key_of second)) (before.records (key_of second)) second before given = record {
      of = made.of;
      old = made.old;
      new = both.other;
      limits_are = made.limits_are;
      had = made.had;
      was_set = made.was_set;
      has = ap (λ (s : State). s.records (key_of second)) both.left ∙ with_record_same once (key_of second) both.other;
    } in
    subst (λ (o : Op). Written (limits_at setup (key_of o)) (before.records (key_of o)) o before given) is whole

stores_written : (setup : BoardFile) (before : State) (first second op : Op) (given : AnswerAndState) → (key_of first ≢ key_of second)
    → ChangesBoth setup before first second given ⊎ ChangesNeither before given → given.0.code ≡ success → (first ≡ op) ⊎ (second ≡ op)
    → Written (limits_at setup (key_of op)) (before.records (key_of op)) op before given
stores_written setup before first second op given apart (inl both) carried is = both_written setup before first second op given apart both is
stores_written setup before first second op given apart (inr neither) carried is = absurd (neither.is_fault carried)

-- so was any Set by the operation
written_by : (setup : BoardFile) (before : State) (r : Result Request ℕ) (op : Op) → NamesTwo r → IsSetBy before r op → (reply setup before r).0.code ≡ success
    → Written (limits_at setup (key_of op)) (before.records (key_of op)) op before (reply setup before r)
written_by setup before (Ok (Set other)) op two is carried =
    let unknown : 0 < unknown_code setup (key_of other) = (unknown_is_refused setup (key_of other)).is_fault in
    subst (λ (o : Op). Written (limits_at setup (key_of o)) (before.records (key_of o)) o before (reply setup before (Ok (Set other)))) is
    (set_written (limits_at setup (key_of other)) (before.records (key_of other)) (unknown_code setup (key_of other)) other before unknown carried)
written_by setup before (Ok (PartOfSet from (End handle bytes))) op two is carried =
    let given : AnswerAndState = ended setup from before (end_outcome before.activity.stagings from handle bytes) in
    subst (λ (o : Op). Written (limits_at setup (key_of o)) (before.records (key_of o)) o before given) is.2
    (ended_written setup from before (end_outcome before.activity.stagings from handle bytes) is.0 is.1 carried)
written_by setup before (Ok (PartOfSet from (Start entry))) op two is carried = absurd is
written_by setup before (Ok (PartOfSet from (Middle handle bytes))) op two is carried = absurd is
written_by setup before (Ok (Live command body)) op two is carried = absurd is
written_by setup before (Ok (Get key)) op two is carried = absurd is
written_by setup before (Ok (SetStores first second)) op two is carried =
    stores_written setup before (of_kind.ChannelAccess first) (of_kind.ChannelAccess second) op (reply setup before (Ok (SetStores first second))) two (both_or_none setup before first second) carried is
written_by setup before (Ok (LaterPart handle transfer)) op two is carried = absurd is
written_by setup before (Err code) op two is carried = absurd is

-- ---- a history, from a place on

rest_replays : (setup : BoardFile) (first : State) (events later : List Event) (last : State) → IsReplay setup first (events ++ later) last → IsReplay setup (state_after setup first events) later last
rest_replays setup first [] later last run = run
rest_replays setup first (event ∷ events) later last run = rest_replays setup (after_call setup first event.call) events later last run.1

after_both : (setup : BoardFile) (first : State) (events later : List Event) → state_after setup first (events ++ later) ≡ state_after setup (state_after setup first events) later
after_both setup first [] later = refl
after_both setup first (event ∷ events) later = after_both setup (after_call setup first event.call) events later

-- the answer to a Get of a record that has this value
answered_by : (setup : BoardFile) (before : State) (r : Result Request ℕ) (key : Key) (of : Limits) (value : List ℕ) → IsGetOf r key → limits_at setup key ≡ Some of → before.records key ≡ Some value
    → (reply setup before r).0 ≡ shown_by r of (view of value before.activity.live)
answered_by setup before (Ok (Get named)) key of value is at had =
    λ i. get_answer ((ap (limits_at setup) is ∙ at) i) ((ap before.records is ∙ had) i) before.activity.live (unknown_code setup named)
answered_by setup before (Ok (LaterPart handle transfer)) key of value is at had =
    λ i. later_answer ((ap (limits_at setup) is ∙ at) i) ((ap before.records is ∙ had) i) before.activity.live (unknown_code setup (of_key.BiosAttribute handle)) transfer
answered_by setup before (Ok (Live command body)) key of value is at had = absurd is
answered_by setup before (Ok (Set op)) key of value is at had = absurd is
answered_by setup before (Ok (SetStores first second)) key of value is at had = absurd is
answered_by setup before (Ok (PartOfSet from part)) key of value is at had = absurd is
answered_by setup before (Err code) key of value is at had = absurd is

pub gets_what_was_set : GetsWhatWasSet
gets_what_was_set setup first last op before between later set get shown h =
    let key : Key = key_of op in
    let s : State = state_after setup first before in
    let from_set : IsReplay setup s (set ∷ (between ++ (get ∷ later))) last = rest_replays setup first before (set ∷ (between ++ (get ∷ later))) last h.replays in
    let mid : State = after_call setup s set.call in
    let t : State = state_after setup mid between in
    let from_get : IsReplay setup t (get ∷ later) last = rest_replays setup mid between (get ∷ later) last from_set.1 in
    let carried : (reply setup s (asked_by h.setter)).0.code ≡ success = ap (λ (a : Answered). a.code) (subst (IsAnsweredCall setup s) h.set_is from_set.0) ∙ h.carried_out in
    let w : Written (limits_at setup key) (s.records key) op s (reply setup s (asked_by h.setter)) = written_by setup s (asked_by h.setter) op (names_two h.setter) h.is_set carried in
    let mid_is : mid ≡ (reply setup s (asked_by h.setter)).1 = ap (after_call setup s) h.set_is in
    let has : t.records key ≡ Some w.new = calls_keep setup mid between key h.unwritten ∙ ap (λ (m : State). m.records key) mid_is ∙ w.has in
    let answered : (reply setup t (asked_by h.getter)).0 ≡ shown = subst (IsAnsweredCall setup t) h.get_is from_get.0 in
    let is : shown ≡ shown_by (asked_by h.getter) w.of (view w.of w.new t.activity.live) =
    sym answered ∙ answered_by setup t (asked_by h.getter) key w.of w.new h.is_get w.limits_are has in
    record {
      limits = w.of;
      old = w.old;
      new = w.new;
      limits_are = w.limits_are;
      had = w.had;
      was_set = w.was_set;
      is_shown = subst (λ (m : State). shown ≡ shown_by (asked_by h.getter) w.of (view w.of w.new m.activity.live)) (sym (after_both setup first before (set ∷ between))) is;
    }
