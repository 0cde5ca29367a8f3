-- What a seat's list keeps of an answer that the board gave where the request was looked at.
use Rattle.std.specs.Prelude.{Result, Ok, Err, true, false, IsOk, IfOk, OnOk, OnErr, ◌∷◌, [], ◌++◌}
use Rattle.std.proofs.Common.{◌≡◌, ◌+◌, ◌≤◌, ◌<◌, ℕ, List, length, drop, refl, sym, ◌∙◌, ap, subst, arith, length-append}
use Rattle.std.proofs.Math.Arith.{lt_of_le-ne}
use Rattle.two_wire.specs.Sizes.{most_pldm_reply_data}
use Rattle.record_base.specs.declared.message.Asked.{Asked}
use Rattle.record_base.specs.declared.message.Answered.{Answered}
use Rattle.record_base.specs.Meaning.{room_for}
use Rattle.cfg_records.specs.declared.board_file.BoardFile.{BoardFile}
use Rattle.bmc_board.specs.declared.board.Board.{Board}
use Rattle.bmc_board.specs.Gives.{GivesReply}
use Rattle.bmc_board.specs.declared.asked_ref.AskedRef.{AskedRef}
use Rattle.bmc_board.specs.Asking.{as_asked}
use Rattle.bmc_board.specs.Carrying.{code_given}
use Rattle.bmc_shared.specs.declared.event.Call.{Call}
use Rattle.bmc_shared.specs.declared.event.Call.TheVariants.{Exchanged}
use Rattle.bmc_shared.specs.declared.event.Event.{Event}
use Rattle.bmc_shared.specs.declared.held.PeriodFull.{PeriodFull}
use Rattle.bmc_shared.specs.Entries.{exchanged}
use Rattle.bmc_shared.specs.Calls.{GainsCall, ExchangesHere, KeepsHere}
use Rattle.bmc_shared.proofs.Here.{room_is, call_is}
use Rattle.bmc_shared.specs.declared.seat.Seat.{Seat}
use Rattle.bmc_shared.specs.Seated.{LeavesSeat}

-- the call of an answer in a value of its own is the one that was kept
pub kept_as : (calls kept : List Call) (asked question : Asked) (given : Result (Unit {0}) ℕ) (old new : List ℕ) (a : Answered) → asked ≡ question
    → (done : KeepsHere calls kept asked given old new) → a ≡ done.answered → GainsCall calls kept (Exchanged question a)
kept_as calls kept asked question given old new a same done said =
    subst (λ (q : Asked). GainsCall calls kept (Exchanged q a)) same (subst (λ (b : Answered). GainsCall calls kept (Exchanged asked b)) (sym said) done.gained)

-- the list gained the call of the answer that the board gave
kept_by : {S : Type 0} {E : Type 0} {g h : _} (setup : BoardFile) (before after : Board S g h) (events later : List Event) (seat : ℕ)
    (calls kept : List Call) (asked : AskedRef) (result : Result (Result (Unit {0}) ℕ) E) (old new shown : List ℕ)
    → IfOk result (λ given. ExchangesHere setup before after events later seat (as_asked asked) given old new)
    → IfOk result (λ given. GainsCall calls kept (exchanged asked (code_given given) shown))
    → shown ≡ drop (length old) new → IfOk result (λ given. KeepsHere calls kept (as_asked asked) given old new)
kept_by setup before after events later seat calls kept asked (Ok given) old new shown done gained taken = record {
  answered = done.answered;
  gives = done.gives;
  fits = done.fits;
  gained = gained ∙ ap (λ (call : Call). calls ++ call ∷ []) (call_is asked given old new shown (code_given given) done.answered done.gives refl taken);
}
kept_by setup before after events later seat calls kept asked (Err why) old new shown done gained taken = tt

-- the seat's list keeps the answer that the board gave
pub keeps_here : {S : Type 0} {E : Type 0} {g h : _} (setup : BoardFile) (before after : Board S g h) (events later : List Event) (seat : ℕ)
    (calls kept : List Call) (asked : AskedRef) (told result : Result (Result (Unit {0}) ℕ) E) (old new shown : List ℕ) → told ≡ result
    → IfOk result (λ given. ExchangesHere setup before after events later seat (as_asked asked) given old new)
    → IfOk result (λ given. GainsCall calls kept (exchanged asked (code_given given) shown))
    → shown ≡ drop (length old) new → IfOk told (λ given. KeepsHere calls kept (as_asked asked) given old new)
keeps_here setup before after events later seat calls kept asked told result old new shown same done gained taken =
    subst (λ r. IfOk r (λ given. KeepsHere calls kept (as_asked asked) given old new)) (sym same)
    (kept_by setup before after events later seat calls kept asked result old new shown done gained taken)

-- what is given stands behind the bytes that were there, and is no longer than the answer's data
behind : (given : Result (Unit {0}) ℕ) (old new : List ℕ) (a : Answered) → GivesReply given old new a
    → (length old ≤ length new) × (length new ≤ length old + length a.body)
behind (Ok done) old new a gives =
    let all : length new ≡ length old + length a.body = ap (λ (xs : List ℕ). length xs) gives.1 ∙ length-append old a.body in (omega (arith, all), omega (arith, all))
behind (Err code) old new a gives = let all : length new ≡ length old = ap (λ (xs : List ℕ). length xs) gives.1 in (omega (arith, all), omega (arith, all))

-- the reply is as long as what was there, or longer
pub starts_within : {S : Type 0} {E : Type 0} {g h : _} (setup : BoardFile) (before after : Board S g h) (events later : List Event) (seat : ℕ)
    (asked : Asked) (result : Result (Result (Unit {0}) ℕ) E) (start old new : List ℕ) → start ≡ old
    → IfOk result (λ given. ExchangesHere setup before after events later seat asked given old new) → OnOk result (length start ≤ length new)
starts_within setup before after events later seat asked (Ok given) start old new first done =
    subst (λ (xs : List ℕ). length xs ≤ length new) (sym first) (behind given old new done.answered done.gives).0
starts_within setup before after events later seat asked (Err why) start old new first done = tt

-- what was appended is no longer than any reply's data
pub fits_behind : {S : Type 0} {E : Type 0} {g h : _} (setup : BoardFile) (before after : Board S g h) (events later : List Event) (seat : ℕ)
    (asked : Asked) (result : Result (Result (Unit {0}) ℕ) E) (start old new : List ℕ) → start ≡ old
    → IfOk result (λ given. ExchangesHere setup before after events later seat asked given old new)
    → OnOk result (length new ≤ length start + most_pldm_reply_data)
fits_behind setup before after events later seat asked (Ok given) start old new first done =
    let most : length new ≤ length old + length done.answered.body = (behind given old new done.answered done.gives).1 in
    let few : length done.answered.body ≤ room_for asked = done.fits in
    let room : room_for asked ≤ 251 = room_is asked in
    subst (λ (xs : List ℕ). length new ≤ length xs + most_pldm_reply_data) (sym first) (omega (arith, most, few, room))
fits_behind setup before after events later seat asked (Err why) start old new first done = tt

-- a list has room for as many as were counted where more may be
pub has_room : (calls amount room most : ℕ) → calls ≡ amount → room ≡ most → amount < most → calls < room
has_room calls amount room most counted roomy place = omega (arith, counted, roomy, place)

-- where the history had a place, so has the seat's list
pub has_place : {A : Type 0} {E : Type 0} (result : Result A E) (calls amount room most : ℕ) → calls ≡ amount → room ≡ most
    → OnOk result (amount < most) → OnOk result (calls < room)
has_place (Ok given) calls amount room most counted roomy place = has_room calls amount room most counted roomy place
has_place (Err why) calls amount room most counted roomy place = tt

-- the seat's share counts what its list gained
pub still_counted : {A : Type 0} {E : Type 0} (result : Result A E) (calls kept : List Call) (call : A → Call) (amount later : ℕ) → length calls ≡ amount
    → IfOk result (λ given. GainsCall calls kept (call given)) → OnErr result (kept ≡ calls)
    → OnOk result (later ≡ amount + 1) → OnErr result (later ≡ amount) → length kept ≡ later
still_counted (Ok given) calls kept call amount later counted gained same more none =
    let all : length kept ≡ length calls + 1 = ap (λ (xs : List Call). length xs) gained ∙ length-append calls (call given ∷ []) in omega (arith, all, counted, more)
still_counted (Err why) calls kept call amount later counted gained same more none =
    let all : length kept ≡ length calls = ap (λ (xs : List Call). length xs) same in omega (arith, all, counted, none)

-- a list that gained one is as long as is counted, where one more is counted
pub one_more_counted : {A : Type 0} (held kept : List A) (gained : A) (count seen later : ℕ) → length held ≡ count → kept ≡ held ++ gained ∷ []
    → seen ≡ count → later ≡ seen + 1 → length kept ≡ later
one_more_counted {A = A} held kept gained count seen later counted gains same more =
    let all : length kept ≡ length held + 1 = ap (λ (xs : List A). length xs) gains ∙ length-append held (gained ∷ []) in omega (arith, all, counted, same, more)

-- a share that has one part has some
pub has_part : (parts before : ℕ) → parts ≡ before → before ≡ 1 → 0 < parts
has_part parts before same one = omega (arith, same, one)

-- the seat is left so, whichever of two equal results says it
pub leaves_seat : {J A : Type 0} {g h : _} (told result : Result A PeriodFull) (before : Seat J g) (after : Seat J h) → told ≡ result
    → OnOk result (after.refused ≡ before.refused) → OnErr result (after.calls.items ≡ before.calls.items) → OnErr result (after.refused ≡ true)
    → after.number ≡ before.number → LeavesSeat told before after
leaves_seat told result before after same mark list marked number =
    subst (λ r. LeavesSeat r before after) (sym same) (record { mark = mark; same_list = list; marked = marked; number = number })

-- a share has fewer calls than its history has room, where that isn't full
pub has_place_left : (amount total made most room : ℕ) → amount ≤ total → made ≡ total → made ≤ most → most ≡ room → (made ≡ room → ⊥)
    → amount < room
has_place_left amount total made most room bound counted within same free =
    let less : made < room = lt_of_le-ne (subst (λ (n : ℕ). made ≤ n) same within) free in omega (arith, bound, counted, less)

-- what holds of the list that was there holds of the one that came back
pub holds_of_list : {A E : Type 0} (result : Result A E) (list : A → List Event) (items : List Event) (Holds : List Event → Type 0)
    → IfOk result (λ a. list a ≡ items) → (IsOk result → Holds items) → IfOk result (λ a. Holds (list a))
holds_of_list (Ok a) list items Holds same holds = subst Holds (sym same) (holds refl)
holds_of_list (Err why) list items Holds same holds = tt

-- what is false isn't true
pub clash : false ≡ true → ⊥
clash both = cc both
