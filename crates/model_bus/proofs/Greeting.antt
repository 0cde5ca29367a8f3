-- After the greeting the rule answers as if the manager's window had been forgotten before.
use Rattle.std.proofs.Common.{◌≡◌, ◌≢◌, ℕ, zero, suc, ◌/◌, ◌+◌, ◌-◌, ◌<◌, ◌≤◌, Bool, true, false, ◌&&◌, eqb, List, [], ◌∷◌, ◌++◌, Option, Some, None, refl, sym, ◌∙◌, ap, subst, arith, ◌⊎◌, inl, inr, append-nil}
use Rattle.std.specs.Prelude.{cond}
use Rattle.std.specs.List.{list_all}
use Rattle.std.proofs.lemmas.Bool.{and_parts, eqb-true, and_left, eq-eqb, ne_eqb, cond_both, cond-true, cond-false, cases_eq, cases_Bool, true≢false, false_from_ne_true, not_from_true}
use Rattle.std.proofs.lemmas.Option.{none-some}
use Rattle.model_bus.specs.Request.{Request, Kept, Entry, Carried, Idled, is_same, carried_since}
use Rattle.model_bus.specs.Carried.{kept_for, requesters, is_busy, Outcome, Repeats, IsBusy, IsNew, outcome, outcome_of, log_after, Heard, HeardRequest, HeardIdle, log_with, outcomes}
use Rattle.model_bus.specs.Numbering.{Rules}
use Rattle.model_bus.specs.Greeting.{greeting, HearsNot, log_with_all, GreetsPort, IsNext, IsPast, InTurn, IsAside, AllAside, GreetingForgets}
use Rattle.model_bus.specs.Start.{IsFresh, FreshWindow}
use Rattle.model_bus.specs.Assembly.{SentPacket, Whole, joined}
use Rattle.model_bus.specs.GreetingPackets.{SinglesClear}
use Rattle.model_bus.proofs.NumberLaws.{IsNumbering, IsGreeting}
use Rattle.model_bus.proofs.Repeats.{is_same-number, Has, numbers_of, none_past, older_is_forgotten}
use Rattle.model_bus.proofs.Requesters.{is_some_list, has, has_carried, in_has, has_in, requesters_of}
use Rattle.model_bus.proofs.Sentence.{same_request}
use Rattle.model_bus.proofs.Slots.{slots_decide}

module _ (above : ℕ → ℕ → Bool) where
  -- what is repeated has the number
  repeated_has : (r : Request) (ks : List Kept) (newer : List ℕ) (reply : List ℕ) → kept_for above r newer ks ≡ Some reply → Has (numbers_of ks) r.number
  repeated_has r [] newer reply e = absurd (none-some reply e)
  repeated_has r (k ∷ ks) newer reply e =
      elim (cases_Bool (is_same r k.request && list_all (above k.request.number) newer)) [
        | inl t ↦ inl (sym (is_same-number r k.request (and_parts _ _ t).0))
        | inr f ↦ inr (repeated_has r ks (k.request.number ∷ newer) reply (sym (cond-false _ _ _ f) ∙ e))
      ]

  -- from the newest on, a number comes before any request that is this one
  abbrev pub Marked : ℕ → Request → List Kept → Type 0
  Marked mark r [] = Unit {0}
  Marked mark r (k ∷ ks) = (k.request.number ≡ mark) ⊎ ((k.request ≢ r) × Marked mark r ks)

  -- then the request repeats nothing
  marked_none : (r : Request) (mark : ℕ) → above r.number mark ≡ false → mark ≢ r.number → (ks : List Kept) (newer : List ℕ) → Marked mark r ks → kept_for above r newer ks ≡ None
  marked_none r mark stands apart [] newer m = refl
  marked_none r mark stands apart (k ∷ ks) newer (inl e) =
      let differs : is_same r k.request ≡ false = false_from_ne_true _ (λ t. apart (sym e ∙ sym (is_same-number r k.request t))) in
      cond-false _ _ _ (and_left _ _ differs) ∙ none_past above r mark stands ks (k.request.number ∷ newer) (inl e)
  marked_none r mark stands apart (k ∷ ks) newer (inr (other, rest)) =
      let differs : is_same r k.request ≡ false = false_from_ne_true _ (λ t. other (sym (same_request r k.request t))) in
      cond-false _ _ _ (and_left _ _ differs) ∙ marked_none r mark stands apart ks (k.request.number ∷ newer) rest

  -- a request that is repeated stands so before any whose number isn't above it
  repeat_marks : (r second : Request) → above r.number second.number ≡ false → (ks : List Kept) (newer : List ℕ) (reply : List ℕ) → kept_for above r newer ks ≡ Some reply
      → (list_all (above r.number) newer ≡ true) × Marked r.number second ks
  repeat_marks r second stands [] newer reply e = absurd (none-some reply e)
  repeat_marks r second stands (k ∷ ks) newer reply e =
      elim (cases_Bool (is_same r k.request && list_all (above k.request.number) newer)) [
        | inl t ↦
            let parts = and_parts _ _ t in
            let same = is_same-number r k.request parts.0 in
            (subst (λ (x : ℕ). list_all (above x) newer ≡ true) (sym same) parts.1, inl (sym same))
        | inr f ↦
            let next = repeat_marks r second stands ks (k.request.number ∷ newer) reply (sym (cond-false _ _ _ f) ∙ e) in
            let parts = and_parts (above r.number k.request.number) (list_all (above r.number) newer) next.0 in
            (parts.1, inr ((λ same. true≢false (sym parts.0 ∙ ap (λ (s : Request). above r.number s.number) same ∙ stands)), next.1))
      ]

  -- the log after the first greeting that isn't told that the port is busy
  first_marks : (k : Kept) (second : Request) → above k.request.number second.number ≡ false → (log : List Entry) (o : Option (List ℕ)) (busy : Bool)
      → kept_for above k.request [] (carried_since k.request.requester log) ≡ o → outcome_of o busy ≢ IsBusy
      → Marked k.request.number second (carried_since k.request.requester (log_after (outcome_of o busy) k log))
  first_marks k second stands log (Some reply) busy e heard = (repeat_marks k.request second stands (carried_since k.request.requester log) [] reply e).1
  first_marks k second stands log None true e heard = absurd (heard refl)
  first_marks k second stands log None false e heard =
      let since = carried_since k.request.requester log in
      subst (Marked k.request.number second) (sym (cond-true (eqb k.request.requester k.request.requester) (k ∷ since) since (eq-eqb k.request.requester k.request.requester refl))) (inl refl)

  -- and after each that comes before the second
  after_marks : (mark q : ℕ) (second : Request) (kept : Kept) (log : List Entry) (o : Outcome) → kept.request ≢ second
      → Marked mark second (carried_since q log) → Marked mark second (carried_since q (log_after o kept log))
  after_marks mark q second kept log (Repeats reply) other m = m
  after_marks mark q second kept log IsBusy other m = m
  after_marks mark q second kept log IsNew other m =
      cond_both (eqb kept.request.requester q) (kept ∷ carried_since q log) (carried_since q log) (Marked mark second) (λ t. inr (other, m)) (λ f. m)

  all_mark : (mark q : ℕ) (second : Request) (heards : List Heard) (log : List Entry) → HearsNot second heards
      → Marked mark second (carried_since q log) → Marked mark second (carried_since q (log_with_all above heards log))
  all_mark mark q second [] log others m = m
  all_mark mark q second (HeardRequest kept ∷ heards) log others m =
      all_mark mark q second heards (log_with above (HeardRequest kept) log) others.1 (after_marks mark q second kept log (outcome above kept.request log) others.0 m)
  all_mark mark q second (HeardIdle requester ∷ heards) log others m =
      all_mark mark q second heards (Idled requester ∷ log) others
      (cond_both (eqb requester q) [] (carried_since q log) (Marked mark second) (λ t. tt) (λ f. m))

-- a message of one packet is whole at once
alone : (sent : SentPacket) → sent.packet.last ≡ true → sent.packet.sequence ≡ 0 → joined [] sent ≡ (Whole (sent ∷ []), [])
alone sent last first = rw first (rw last refl)

pub singles_clear : SinglesClear
singles_clear [] sent start last first = cond-true _ _ _ start ∙ alone sent last first
singles_clear (waits ∷ rest) sent start last first = cond-true _ _ _ start ∙ alone sent last first

-- the first of equal lists
same_head : {x y : Kept} {xs ys : List Kept} → x ∷ xs ≡ y ∷ ys → x ≡ y
same_head e = cc

-- what isn't busy and repeats nothing is new
new_of : (o : Option (List ℕ)) (busy : Bool) → o ≡ None → outcome_of o busy ≢ IsBusy → outcome_of o busy ≡ IsNew
new_of (Some reply) busy e heard = absurd (none-some reply (sym e))
new_of None true e heard = absurd (heard refl)
new_of None false e heard = refl

-- a list with a number isn't empty
has_some : (ks : List Kept) (z : ℕ) → Has (numbers_of ks) z → is_some_list ks ≡ true
has_some [] z h = absurd h
has_some (k ∷ ks) z h = refl

some_more : (ks older : List Kept) → is_some_list ks ≡ true → is_some_list (ks ++ older) ≡ is_some_list ks
some_more [] older t = absurd (true≢false (sym t))
some_more (k ∷ ks) older t = refl

-- logs in which the same requesters carried something since their last idle have the same ones busy
busy_alike : (one other : List Entry) → ((q : ℕ) → is_some_list (carried_since q one) ≡ is_some_list (carried_since q other)) → (q : ℕ) → is_busy q one ≡ is_busy q other
busy_alike one other same q =
    let both : (p : ℕ) → has p (requesters one) ≡ has p (requesters other) = (λ p. has_carried p one ∙ same p ∙ sym (has_carried p other)) in
    sym ((slots_decide (requesters one) other (record {
      different = (requesters_of one).0;
      exact = λ p. (
        (λ is. has_in p (requesters other) (sym (both p) ∙ in_has p (requesters one) is)),
        (λ is. has_in p (requesters one) (both p ∙ in_has p (requesters other) is)),
      );
    })).1 q)

module _ (b : Rules) (numbers : IsNumbering b) (greeted : ℕ) (fresh : b.is_above (b.number_of 0) greeted ≡ false) where
  -- these have the number of the newest at the start, and those of the manager's requests so far
  abbrev Covers : ℕ → List Kept → Type 0
  Covers count newer = Has (numbers_of newer) greeted × ((d : ℕ) → d < count → Has (numbers_of newer) (b.number_of d))

  -- two logs that differ only in what the manager had carried before these
  record Alike (count : ℕ) (one other : List Entry) : Type 0 where
    others : (q : ℕ) → q ≢ b.manager → carried_since q one ≡ carried_since q other
    newer : List Kept
    older : List Kept
    mine : carried_since b.manager one ≡ newer ++ older
    also : carried_since b.manager other ≡ newer
    covers : (older ≡ []) ⊎ Covers count newer

  -- a number that keeps the request from repeating anything older
  abbrev Guard : List Kept → Request → Type 0
  Guard newer r = (z : ℕ) × Has (numbers_of newer) z × (b.is_above r.number z ≡ false)

  guard_at : (count n : ℕ) (newer : List Kept) (r : Request) → Covers count newer → n ≤ count → r.number ≡ b.number_of n → Guard newer r
  guard_at count zero newer r covers within is = (greeted, covers.0, ap (λ (x : ℕ). b.is_above x greeted) is ∙ fresh)
  guard_at count (suc n) newer r covers within is = (b.number_of n, covers.1 n (omega arith), ap (λ (x : ℕ). b.is_above x (b.number_of n)) is ∙ numbers.before n)

  guard_next : (count : ℕ) (newer : List Kept) (r : Request) → Covers count newer → IsNext b count r → Guard newer r
  guard_next count newer r covers next = guard_at count count newer r covers (omega arith) next.1

  guard_past : (count : ℕ) (newer : List Kept) (r : Request) → Covers count newer → IsPast b greeted count r → r.requester ≡ b.manager → Guard newer r
  guard_past count newer r covers past is =
      elim (past is) [
        | inl (n, before, number) ↦ guard_at count n newer r covers (omega arith) number
        | inr stands ↦ (greeted, covers.0, stands)
      ]

  -- the same is repeated
  kept_alike : (count : ℕ) (one other : List Entry) (h : Alike count one other) (r : Request) → (Covers count h.newer → r.requester ≡ b.manager → Guard h.newer r)
      → kept_for b.is_above r [] (carried_since r.requester one) ≡ kept_for b.is_above r [] (carried_since r.requester other)
  kept_alike count one other h r guards =
      elim (cases_eq r.requester b.manager) [
        | inr not_mine ↦ ap (kept_for b.is_above r []) (h.others r.requester not_mine)
        | inl is ↦
            let from : carried_since r.requester one ≡ h.newer ++ h.older = ap (λ (q : ℕ). carried_since q one) is ∙ h.mine in
            let to : h.newer ≡ carried_since r.requester other = sym h.also ∙ ap (λ (q : ℕ). carried_since q other) (sym is) in
            ap (kept_for b.is_above r []) from
            ∙ elim h.covers [
              | inl none ↦ ap (λ (ks : List Kept). kept_for b.is_above r [] (h.newer ++ ks)) none ∙ ap (kept_for b.is_above r []) (append-nil h.newer)
              | inr covers ↦ let guard = guards covers is in older_is_forgotten b.is_above r guard.0 guard.2 h.older h.newer [] (inr guard.1)
            ]
            ∙ ap (kept_for b.is_above r []) to
      ]

  some_alike : (count : ℕ) (one other : List Entry) → Alike count one other → (q : ℕ) → is_some_list (carried_since q one) ≡ is_some_list (carried_since q other)
  some_alike count one other h q =
      elim (cases_eq q b.manager) [
        | inr not_mine ↦ ap is_some_list (h.others q not_mine)
        | inl is ↦
            subst (λ (p : ℕ). is_some_list (carried_since p one) ≡ is_some_list (carried_since p other)) (sym is)
            (ap is_some_list h.mine
            ∙ elim h.covers [
              | inl none ↦ ap (λ (ks : List Kept). is_some_list (h.newer ++ ks)) none ∙ ap is_some_list (append-nil h.newer)
              | inr covers ↦ some_more h.newer h.older (has_some h.newer greeted covers.0)
            ]
            ∙ ap is_some_list (sym h.also))
      ]

  outcome_alike : (count : ℕ) (one other : List Entry) (h : Alike count one other) (r : Request) → (Covers count h.newer → r.requester ≡ b.manager → Guard h.newer r)
      → outcome b.is_above r one ≡ outcome b.is_above r other
  outcome_alike count one other h r guards =
      ap (λ (o : Option (List ℕ)). outcome_of o (is_busy r.requester one)) (kept_alike count one other h r guards)
      ∙ ap (outcome_of (kept_for b.is_above r [] (carried_since r.requester other))) (busy_alike one other (some_alike count one other h) r.requester)

  -- something is carried out in both
  carried_others : (k : Kept) (q : ℕ) (one other : List Entry) → carried_since q one ≡ carried_since q other → carried_since q (Carried k ∷ one) ≡ carried_since q (Carried k ∷ other)
  carried_others k q one other same = ap (λ (ks : List Kept). cond (eqb k.request.requester q) (k ∷ ks) ks) same

  carried_mine : (k : Kept) (log : List Entry) → k.request.requester ≡ b.manager → carried_since b.manager (Carried k ∷ log) ≡ k ∷ carried_since b.manager log
  carried_mine k log is = cond-true (eqb k.request.requester b.manager) (k ∷ carried_since b.manager log) (carried_since b.manager log) (eq-eqb k.request.requester b.manager is)

  carried_other : (k : Kept) (log : List Entry) → k.request.requester ≢ b.manager → carried_since b.manager (Carried k ∷ log) ≡ carried_since b.manager log
  carried_other k log is = cond-false (eqb k.request.requester b.manager) (k ∷ carried_since b.manager log) (carried_since b.manager log) (ne_eqb k.request.requester b.manager is)

  past_carried : (count : ℕ) (one other : List Entry) → Alike count one other → (k : Kept) → Alike count (Carried k ∷ one) (Carried k ∷ other)
  past_carried count one other h k =
      elim (cases_eq k.request.requester b.manager) [
        | inl is ↦ record {
          others = λ q not_mine. carried_others k q one other (h.others q not_mine);
          newer = k ∷ h.newer;
          older = h.older;
          mine = carried_mine k one is ∙ ap (λ (ks : List Kept). k ∷ ks) h.mine;
          also = carried_mine k other is ∙ ap (λ (ks : List Kept). k ∷ ks) h.also;
          covers = elim h.covers [ inl none ↦ inl none | inr covers ↦ inr (inr covers.0, λ d below. inr (covers.1 d below)) ];
        }
        | inr not_mine ↦ record {
          others = λ q other_one. carried_others k q one other (h.others q other_one);
          newer = h.newer;
          older = h.older;
          mine = carried_other k one not_mine ∙ h.mine;
          also = carried_other k other not_mine ∙ h.also;
          covers = h.covers;
        }
      ]

  past_alike : (count : ℕ) (one other : List Entry) → Alike count one other → (k : Kept) (o : Outcome) → Alike count (log_after o k one) (log_after o k other)
  past_alike count one other h k (Repeats reply) = h
  past_alike count one other h k IsBusy = h
  past_alike count one other h k IsNew = past_carried count one other h k

  -- one more of the manager's requests came
  counts_on : (count : ℕ) (newer : List Kept) → Covers count newer → Has (numbers_of newer) (b.number_of count) → Covers (count + 1) newer
  counts_on count newer covers here = (
    covers.0,
    λ d below. elim (cases_eq d count) [
      | inl same ↦ subst (λ (x : ℕ). Has (numbers_of newer) (b.number_of x)) (sym same) here
      | inr less ↦ covers.1 d (omega arith)
    ],
  )

  with_count : (count : ℕ) (one other : List Entry) (h : Alike count one other) → (Covers count h.newer → Has (numbers_of h.newer) (b.number_of count)) → Alike (count + 1) one other
  with_count count one other h here =
      record {
        others = h.others;
        newer = h.newer;
        older = h.older;
        mine = h.mine;
        also = h.also;
        covers = elim h.covers [ inl none ↦ inl none | inr covers ↦ inr (counts_on count h.newer covers (here covers)) ];
      }

  next_alike : (count : ℕ) (one other : List Entry) (h : Alike count one other) (k : Kept) → IsNext b count k.request → (o : Option (List ℕ)) (busy : Bool)
      → kept_for b.is_above k.request [] (carried_since k.request.requester other) ≡ o → is_busy k.request.requester other ≡ busy
      → Alike (count + 1) (log_after (outcome_of o busy) k one) (log_after (outcome_of o busy) k other)
  next_alike count one other h k next (Some reply) busy e is =
      let here : Has (numbers_of h.newer) k.request.number =
      repeated_has b.is_above k.request h.newer [] reply (ap (kept_for b.is_above k.request []) (sym h.also ∙ ap (λ (q : ℕ). carried_since q other) (sym next.0)) ∙ e) in
      with_count count one other h (λ covers. subst (Has (numbers_of h.newer)) next.1 here)
  next_alike count one other h k next None true e is =
      with_count count one other h
      (λ covers.
      let some : has k.request.requester (requesters other) ≡ true =
      has_carried k.request.requester other ∙ ap (λ (q : ℕ). is_some_list (carried_since q other)) next.0 ∙ ap is_some_list h.also ∙ has_some h.newer greeted covers.0 in
      absurd (true≢false (sym is ∙ and_left _ _ (not_from_true _ some))))
  next_alike count one other h k next None false e is =
      record {
        others = λ q not_mine. carried_others k q one other (h.others q not_mine);
        newer = k ∷ h.newer;
        older = h.older;
        mine = carried_mine k one next.0 ∙ ap (λ (ks : List Kept). k ∷ ks) h.mine;
        also = carried_mine k other next.0 ∙ ap (λ (ks : List Kept). k ∷ ks) h.also;
        covers = elim h.covers [
          | inl none ↦ inl none
          | inr covers ↦ inr (counts_on count (k ∷ h.newer) (inr covers.0, λ d below. inr (covers.1 d below)) (inl next.1))
        ];
      }

  -- a requester is forgotten in both
  idle_alike : (count : ℕ) (one other : List Entry) → Alike count one other → (p : ℕ) → Alike count (Idled p ∷ one) (Idled p ∷ other)
  idle_alike count one other h p =
      let still : (q : ℕ) → q ≢ b.manager → carried_since q (Idled p ∷ one) ≡ carried_since q (Idled p ∷ other) = (λ q not_mine. ap (λ (ks : List Kept). cond (eqb p q) [] ks) (h.others q not_mine)) in
      elim (cases_eq p b.manager) [
        | inl is ↦ record {
          others = still;
          newer = [];
          older = [];
          mine = cond-true (eqb p b.manager) [] (carried_since b.manager one) (eq-eqb p b.manager is);
          also = cond-true (eqb p b.manager) [] (carried_since b.manager other) (eq-eqb p b.manager is);
          covers = inl refl;
        }
        | inr not_mine ↦ record {
          others = still;
          newer = h.newer;
          older = h.older;
          mine = cond-false (eqb p b.manager) [] (carried_since b.manager one) (ne_eqb p b.manager not_mine) ∙ h.mine;
          also = cond-false (eqb p b.manager) [] (carried_since b.manager other) (ne_eqb p b.manager not_mine) ∙ h.also;
          covers = h.covers;
        }
      ]

  -- two outcomes and what follows
  both_same : (o p : Outcome) (os ps : List Outcome) → o ≡ p → os ≡ ps → o ∷ os ≡ p ∷ ps
  both_same o p os ps first rest = ap (λ (x : Outcome). x ∷ os) first ∙ ap (λ (xs : List Outcome). p ∷ xs) rest

  outcomes_alike : (heards : List Heard) (count : ℕ) (one other : List Entry) → Alike count one other → InTurn b greeted count heards → outcomes b.is_above one heards ≡ outcomes b.is_above other heards
  outcomes_alike [] count one other h turn = refl
  outcomes_alike (HeardRequest k ∷ heards) count one other h (inl (next, rest)) =
      let same = outcome_alike count one other h k.request (λ covers is. guard_next count h.newer k.request covers next) in
      let after = next_alike count one other h k next (kept_for b.is_above k.request [] (carried_since k.request.requester other)) (is_busy k.request.requester other) refl refl in
      let both : Alike (count + 1) (log_after (outcome b.is_above k.request one) k one) (log_after (outcome b.is_above k.request other) k other) =
      subst (λ (o : Outcome). Alike (count + 1) (log_after o k one) (log_after (outcome b.is_above k.request other) k other)) (sym same) after in
      both_same _ _ _ _ same (outcomes_alike heards (count + 1) _ _ both rest)
  outcomes_alike (HeardRequest k ∷ heards) count one other h (inr (past, rest)) =
      let same = outcome_alike count one other h k.request (λ covers is. guard_past count h.newer k.request covers past is) in
      let after = past_alike count one other h k (outcome b.is_above k.request other) in
      let both : Alike count (log_after (outcome b.is_above k.request one) k one) (log_after (outcome b.is_above k.request other) k other) =
      subst (λ (o : Outcome). Alike count (log_after o k one) (log_after (outcome b.is_above k.request other) k other)) (sym same) after in
      both_same _ _ _ _ same (outcomes_alike heards count _ _ both rest)
  outcomes_alike (HeardIdle p ∷ heards) count one other h turn = outcomes_alike heards count (Idled p ∷ one) (Idled p ∷ other) (idle_alike count one other h p) turn

-- where the window is fresh
module _ (b : Rules) (numbers : IsNumbering b) where
  fresh_alike : (newest : Kept) (older : List Kept) (log : List Entry) → carried_since b.manager log ≡ newest ∷ older → (fresh : IsFresh b (newest ∷ older)) → newest.request.requester ≡ b.manager
      → Alike b numbers newest.request.number fresh.1 0 log (Carried newest ∷ Idled b.manager ∷ log)
  fresh_alike newest older log is fresh of_manager =
      let q = newest.request.requester in
      record {
        others = λ p not_mine.
            sym (cond-false (eqb b.manager p) [] (carried_since p log) (ne_eqb b.manager p (λ e. not_mine (sym e))))
            ∙ sym (cond-false (eqb q p) (newest ∷ carried_since p (Idled b.manager ∷ log)) (carried_since p (Idled b.manager ∷ log)) (ne_eqb q p (λ e. not_mine (sym e ∙ of_manager))));
        newer = newest ∷ [];
        older = older;
        mine = is;
        also = carried_mine b numbers newest.request.number fresh.1 newest (Idled b.manager ∷ log) of_manager
            ∙ ap (λ (ks : List Kept). newest ∷ ks) (cond-true (eqb b.manager b.manager) [] (carried_since b.manager log) (eq-eqb b.manager b.manager refl));
        covers = inr (inl refl, λ d below. absurd (omega arith));
      }

  -- what the manager had carried is of the manager
  of_manager : (log : List Entry) (newest : Kept) (older : List Kept) → carried_since b.manager log ≡ newest ∷ older → newest.request.requester ≡ b.manager
  of_manager [] newest older is = absurd (true≢false (sym (ap is_some_list is)))
  of_manager (Idled p ∷ log) newest older is =
      elim (cases_eq p b.manager) [
        | inl mine ↦ absurd (true≢false (sym (ap is_some_list (sym (cond-true (eqb p b.manager) [] (carried_since b.manager log) (eq-eqb p b.manager mine)) ∙ is))))
        | inr other ↦ of_manager log newest older (sym (cond-false (eqb p b.manager) [] (carried_since b.manager log) (ne_eqb p b.manager other)) ∙ is)
      ]
  of_manager (Carried k ∷ log) newest older is =
      let since = carried_since b.manager log in
      elim (cases_eq k.request.requester b.manager) [
        | inl mine ↦ subst (λ (x : Kept). x.request.requester ≡ b.manager) (same_head (sym (cond-true (eqb k.request.requester b.manager) (k ∷ since) since (eq-eqb k.request.requester b.manager mine)) ∙ is)) mine
        | inr other ↦ of_manager log newest older (sym (cond-false (eqb k.request.requester b.manager) (k ∷ since) since (ne_eqb k.request.requester b.manager other)) ∙ is)
      ]

  forgets : (newest : Kept) (older : List Kept) (log : List Entry) (later : List Heard)
      → carried_since b.manager log ≡ newest ∷ older → IsFresh b (newest ∷ older) → InTurn b newest.request.number 0 later
      → outcomes b.is_above log later ≡ outcomes b.is_above (Carried newest ∷ Idled b.manager ∷ log) later
  forgets newest older log later is fresh turn =
      outcomes_alike b numbers newest.request.number fresh.1 later 0 _ _ (fresh_alike newest older log is fresh (of_manager log newest older is)) turn

  -- one greeting: the newest has its number, or one above it
  repeat_newest : (r : Request) (ks : List Kept) (newer : List ℕ) (reply : List ℕ) → kept_for b.is_above r newer ks ≡ Some reply → list_all (b.is_above r.number) newer ≡ true
  repeat_newest r [] newer reply e = absurd (none-some reply e)
  repeat_newest r (k ∷ ks) newer reply e =
      elim (cases_Bool (is_same r k.request && list_all (b.is_above k.request.number) newer)) [
        | inl t ↦ let parts = and_parts _ _ t in subst (λ (x : ℕ). list_all (b.is_above x) newer ≡ true) (sym (is_same-number r k.request parts.0)) parts.1
        | inr f ↦ (and_parts (b.is_above r.number k.request.number) (list_all (b.is_above r.number) newer) (repeat_newest r ks (k.request.number ∷ newer) reply (sym (cond-false _ _ _ f) ∙ e))).1
      ]

  newest_fresh : (r : Request) → (r.number ≢ b.number_of 0) × (b.is_above (b.number_of 0) r.number ≡ false)
      → ((x : ℕ) → b.is_above r.number x ≡ true → (x ≢ b.number_of 0) × (b.is_above (b.number_of 0) x ≡ false))
      → (ks : List Kept) (reply : List ℕ) → kept_for b.is_above r [] ks ≡ Some reply → IsFresh b ks
  newest_fresh r here above [] reply e = tt
  newest_fresh r here above (k ∷ ks) reply e =
      elim (cases_Bool (is_same r k.request)) [
        | inl t ↦ subst (λ (x : ℕ). (x ≢ b.number_of 0) × (b.is_above (b.number_of 0) x ≡ false)) (is_same-number r k.request t) here
        | inr f ↦
            let next = repeat_newest r ks (k.request.number ∷ []) reply (sym (cond-false _ _ _ (and_left _ _ f)) ∙ e) in
            above k.request.number (and_parts (b.is_above r.number k.request.number) true next).0
      ]

  only_fresh : (k : Kept) → k.request.requester ≡ b.manager → (k.request.number ≢ b.number_of 0) × (b.is_above (b.number_of 0) k.request.number ≡ false) → (log : List Entry) → FreshWindow b (Carried k ∷ log)
  only_fresh k mine here log =
      subst (IsFresh b) (sym (cond-true (eqb k.request.requester b.manager) (k ∷ carried_since b.manager log) (carried_since b.manager log) (eq-eqb k.request.requester b.manager mine))) here

  one_after : (k : Kept) → k.request.requester ≡ b.manager → (k.request.number ≢ b.number_of 0) × (b.is_above (b.number_of 0) k.request.number ≡ false)
      → ((x : ℕ) → b.is_above k.request.number x ≡ true → (x ≢ b.number_of 0) × (b.is_above (b.number_of 0) x ≡ false))
      → (log : List Entry) (o : Option (List ℕ)) (busy : Bool) → kept_for b.is_above k.request [] (carried_since b.manager log) ≡ o → outcome_of o busy ≢ IsBusy → FreshWindow b (log_after (outcome_of o busy) k log)
  one_after k mine here above log (Some reply) busy e heard = newest_fresh k.request here above (carried_since b.manager log) reply e
  one_after k mine here above log None true e heard = absurd (heard refl)
  one_after k mine here above log None false e heard = only_fresh k mine here log

  after_stays : (k : Kept) (log : List Entry) (o : Outcome) → IsAside b (HeardRequest k) → FreshWindow b log → FreshWindow b (log_after o k log)
  after_stays k log (Repeats reply) aside fresh = fresh
  after_stays k log IsBusy aside fresh = fresh
  after_stays k log IsNew aside fresh =
      cond_both (eqb k.request.requester b.manager) (k ∷ carried_since b.manager log) (carried_since b.manager log) (IsFresh b) (λ t. aside (eqb-true _ _ t)) (λ f. fresh)

  stays_fresh : (heard : Heard) (log : List Entry) → IsAside b heard → FreshWindow b log → FreshWindow b (log_with b.is_above heard log)
  stays_fresh (HeardRequest k) log aside fresh = after_stays k log (outcome b.is_above k.request log) aside fresh
  stays_fresh (HeardIdle p) log aside fresh = cond_both (eqb p b.manager) [] (carried_since b.manager log) (IsFresh b) (λ t. tt) (λ f. fresh)

  all_stay : (heards : List Heard) (log : List Entry) → AllAside b heards → FreshWindow b log → FreshWindow b (log_with_all b.is_above heards log)
  all_stay [] log aside fresh = fresh
  all_stay (heard ∷ heards) log aside fresh = all_stay heards (log_with b.is_above heard log) aside.1 (stays_fresh heard log aside.0 fresh)

  module _ (circle : ℕ) (are : IsGreeting b (b.number_of (circle / 2)) (b.number_of (circle / 2 - 1)) (b.number_of (circle - 1))) where
    second_new : (one two answer reply : List ℕ) (before : List Entry) (between : List Heard)
        → let first = greeting b (circle / 2 - 1) one answer in let second = greeting b (circle - 1) two reply in
        GreetsPort b first second before between
        → outcome b.is_above second.request (log_with_all b.is_above (HeardRequest first ∷ between) before) ≡ IsNew
    second_new one two answer reply before between greets =
        let first = greeting b (circle / 2 - 1) one answer in
        let second = greeting b (circle - 1) two reply in
        let start : List Entry = log_with b.is_above (HeardRequest first) before in
        let begun : Marked b.is_above first.request.number second.request (carried_since b.manager start) =
        first_marks b.is_above first second.request are.to before _ (is_busy b.manager before) refl greets.first_heard in
        let marked = all_mark b.is_above first.request.number b.manager second.request between start greets.between_them begun in
        new_of _ (is_busy b.manager (log_with_all b.is_above between start)) (marked_none b.is_above second.request first.request.number are.from are.apart _ [] marked) greets.second_heard

    greeted_fresh : (one two answer reply : List ℕ) (before : List Entry) (between : List Heard)
        → let first = greeting b (circle / 2 - 1) one answer in let second = greeting b (circle - 1) two reply in
        GreetsPort b first second before between
        → FreshWindow b (log_with b.is_above (HeardRequest second) (log_with_all b.is_above (HeardRequest first ∷ between) before))
    greeted_fresh one two answer reply before between greets =
        let second = greeting b (circle - 1) two reply in
        let log : List Entry = log_with_all b.is_above (HeardRequest (greeting b (circle / 2 - 1) one answer) ∷ between) before in
        subst (λ (o : Outcome). FreshWindow b (log_after o second log)) (sym (second_new one two answer reply before between greets)) (only_fresh second refl are.two_fresh log)

    one_fresh : (bytes answer : List ℕ) (before : List Entry)
        → let only = greeting b (circle / 2) bytes answer in
        outcome b.is_above only.request before ≢ IsBusy → FreshWindow b (log_with b.is_above (HeardRequest only) before)
    one_fresh bytes answer before heard = one_after (greeting b (circle / 2) bytes answer) refl are.half_fresh are.above_fresh before _ _ refl heard

    pub greeting_forgets : GreetingForgets circle b
    greeting_forgets = record {
      carried = second_new;
      two_freshen = greeted_fresh;
      one_freshens = one_fresh;
      greeted = λ bytes answer before later heard aside. all_stay later (log_with b.is_above (HeardRequest (greeting b (circle / 2) bytes answer)) before) aside (one_fresh bytes answer before heard);
      stays = stays_fresh;
      forgets = forgets;
    }
