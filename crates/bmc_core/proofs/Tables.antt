-- The windows of a port after each of its steps.
use Rattle.std.proofs.Common.{◌≡◌, ℕ, ◌<◌, List, [], ◌∷◌, length, get_or, Option, Some, None, cond, refl, sym, ◌∙◌, ap, subst, inl, inr, arith}
use Rattle.std.specs.Prelude.{◌↔◌, slice_get, ◌⊎◌, ◌==◌}
use Rattle.std.specs.Option.{option_map, option_and_then}
use Rattle.std.proofs.Math.ListN.{set}
use Rattle.std.proofs.lemmas.Bool.{cases_eq, cases_Bool, cond-true, cond-false, eq-eqb, ne_eqb}
use Rattle.std.proofs.lemmas.List.{get_or-set_same, get_or-set_other}
use Rattle.std.proofs.lemmas.Option.{same_Some, none-some, slice_get_read}
use Rattle.model_bus.specs.Request.{Kept, Entry, Carried, Idled, carried_since}
use Rattle.model_bus.specs.Carried.{requesters}
use Rattle.model_bus.specs.Numbering.{is_next}
use Rattle.model_bus.specs.Repeat.{In}
use Rattle.model_bus.specs.Slots.{AreSlots}
use Rattle.model_bus.specs.Window.{windows_of}
use Rattle.model_bus.proofs.Requesters.{requesters_of}
use Rattle.model_bus.proofs.WindowSteps.{window_here, window_next, window_far, window_other, window_idle, window_idle_other}
use Rattle.bmc_core.specs.Window.{WindowEntry, Room, pair_at, KeepsAtNumber, IsEmpty}
use Rattle.bmc_core.specs.Keeps.{HeldWindows, Reading, slot_of, owner_of, pair_in, kept_from, row, somes, WindowsKeep}
use Rattle.bmc_core.proofs.Rooms.{get_set, get_set_other}
use Rattle.bmc_core.proofs.Tied.{at, tie, untie, in_somes, from_somes, different}

-- the requester has a window
abbrev pub IsHere : HeldWindows → ℕ → Type 0
IsHere held q = (s : ℕ) × (slot_of held q ≡ Some s)

abbrev pub Own : HeldWindows → Type 0
Own held = (q s : ℕ) → (slot_of held q ≡ Some s) ↔ (owner_of held s ≡ Some q)

members : (held : HeldWindows) → Own held → (q : ℕ) → In q (somes held.owners) ↔ IsHere held q
members held own q = (
  (λ is. let found = from_somes held.owners q is in (found.0, (own q found.0).1 found.1)),
  (λ is. in_somes held.owners is.0 q ((own q is.0).0 is.1)),
)

apart : (held : HeldWindows) → Own held → (s t q : ℕ) → owner_of held s ≡ Some q → owner_of held t ≡ Some q → s ≡ t
apart held own s t q one other = same_Some s t (sym ((own q s).1 one) ∙ (own q t).1 other)

-- exactly a log's requesters have windows
slots_are : (held : HeldWindows) (log : List Entry) → Own held → ((q : ℕ) → IsHere held q ↔ In q (requesters log)) → AreSlots (somes held.owners) log
slots_are held log own exact = record {
  different = different held.owners (apart held own);
  exact = λ q. ((λ is. (exact q).0 ((members held own q).0 is)), (λ is. (members held own q).1 ((exact q).1 is)));
}

pub is_here : (numbers : ℕ) (reading : Reading) (held : HeldWindows) (log : List Entry) → WindowsKeep numbers reading held log → (q : ℕ) → IsHere held q ↔ In q (requesters log)
is_here numbers reading held log keeps q = (
  (λ is. (keeps.requesters.exact q).0 ((members held keeps.own q).1 is)),
  (λ is. (members held keeps.own q).0 ((keeps.requesters.exact q).1 is)),
)

-- ---- the requesters of a log with one entry more

since_carried : (k : Kept) (log : List Entry) (q : ℕ) → (k.request.requester ≡ q → ⊥) → carried_since q (Carried k ∷ log) ≡ carried_since q log
since_carried k log q other = cond-false (k.request.requester == q) (k ∷ carried_since q log) (carried_since q log) (ne_eqb k.request.requester q other)

since_here : (k : Kept) (log : List Entry) (q : ℕ) → k.request.requester ≡ q → carried_since q (Carried k ∷ log) ≡ k ∷ carried_since q log
since_here k log q same = cond-true (k.request.requester == q) (k ∷ carried_since q log) (carried_since q log) (eq-eqb k.request.requester q same)

since_idle : (p : ℕ) (log : List Entry) (q : ℕ) → p ≡ q → carried_since q (Idled p ∷ log) ≡ []
since_idle p log q same = cond-true (p == q) [] (carried_since q log) (eq-eqb p q same)

since_idled : (p : ℕ) (log : List Entry) (q : ℕ) → (p ≡ q → ⊥) → carried_since q (Idled p ∷ log) ≡ carried_since q log
since_idled p log q other = cond-false (p == q) [] (carried_since q log) (ne_eqb p q other)

some-none : (k : Kept) (ks : List Kept) → k ∷ ks ≡ [] → ⊥
some-none k ks e = cc

in_carried : (k : Kept) (log : List Entry) (q : ℕ) → In q (requesters (Carried k ∷ log)) ↔ ((k.request.requester ≡ q) ⊎ In q (requesters log))
in_carried k log q =
    let new = (requesters_of (Carried k ∷ log)).1 q in
    let old = (requesters_of log).1 q in (
      (λ is. elim (cases_eq k.request.requester q) [
        | inl same ↦ inl same
        | inr other ↦ inr (old.1 (λ e. new.0 is (since_carried k log q other ∙ e)))
      ]),
      (λ either. new.1 (λ e. elim (cases_eq k.request.requester q) [
        | inl same ↦ some-none k (carried_since q log) (sym (since_here k log q same) ∙ e)
        | inr other ↦ elim either [ inl same ↦ other same | inr is ↦ old.0 is (sym (since_carried k log q other) ∙ e) ]
      ])),
    )

in_idled : (p : ℕ) (log : List Entry) (q : ℕ) → In q (requesters (Idled p ∷ log)) ↔ ((p ≡ q → ⊥) × In q (requesters log))
in_idled p log q =
    let new = (requesters_of (Idled p ∷ log)).1 q in
    let old = (requesters_of log).1 q in (
      (λ is. (
        (λ same. new.0 is (since_idle p log q same)),
        old.1 (λ e. elim (cases_eq p q) [ inl same ↦ new.0 is (since_idle p log q same) | inr other ↦ new.0 is (since_idled p log q other ∙ e) ]),
      )),
      (λ both. new.1 (λ e. old.0 both.1 (sym (since_idled p log q both.0) ∙ e))),
    )

-- ---- what a window has after its step

module _ (numbers : ℕ) (reading : Reading) (log : List Entry) (q n : ℕ) (p : WindowEntry) where
  -- the requester's own rows, where they were the log's
  own_row : (old new : Room) → KeepsAtNumber numbers n p old new → ((m : ℕ) → m < numbers → option_map (kept_from reading q m) (pair_at old m) ≡ windows_of numbers log q m)
      → (m : ℕ) → m < numbers → option_map (kept_from reading q m) (pair_at new m) ≡ windows_of numbers (Carried (kept_from reading q n p) ∷ log) q m
  own_row old new kept rows m on =
      let k = kept_from reading q n p in
      ap (option_map (kept_from reading q m)) (kept m on)
      ∙ elim (cases_eq m n) [
        | inl same ↦
            ap (option_map (kept_from reading q m)) (cond-true (m == n) (Some p) (cond (is_next numbers n m) None (pair_at old m)) (eq-eqb m n same))
            ∙ ap (λ (x : ℕ). Some (kept_from reading q x p)) same
            ∙ sym (window_here numbers log q m k refl (sym same))
        | inr other ↦
            ap (option_map (kept_from reading q m)) (cond-false (m == n) (Some p) (cond (is_next numbers n m) None (pair_at old m)) (ne_eqb m n other))
            ∙ elim (cases_Bool (is_next numbers n m)) [
              | inl next ↦
                  ap (option_map (kept_from reading q m)) (cond-true (is_next numbers n m) None (pair_at old m) next)
                  ∙ sym (window_next numbers log q m k refl (λ e. other (sym e)) next)
              | inr far ↦
                  ap (option_map (kept_from reading q m)) (cond-false (is_next numbers n m) None (pair_at old m) far)
                  ∙ rows m on
                  ∙ sym (window_far numbers log q m k refl (λ e. other (sym e)) far)
            ]
      ]

pub room_pair : (held : HeldWindows) (s m : ℕ) (room : Room) → slice_get held.rooms s ≡ Some room → pair_in held (Some s) m ≡ pair_at room m
room_pair held s m room is = ap (option_and_then (λ (r : Room). pair_at r m)) is

-- another window than that which is written
pair_other : (held : HeldWindows) (s : ℕ) (new : Room) (o : Option ℕ) → ((t : ℕ) → o ≡ Some t → t ≡ s → ⊥) → (m : ℕ)
    → pair_in (record { slots = held.slots; owners = held.owners; rooms = set held.rooms s new }) o m ≡ pair_in held o m
pair_other held s new None differs m = refl
pair_other held s new (Some t) differs m = ap (option_and_then (λ (r : Room). pair_at r m)) (get_set_other held.rooms s t new (differs t refl))

module _ (numbers : ℕ) (reading : Reading) (held : HeldWindows) (log : List Entry) (keeps : WindowsKeep numbers reading held log) (q n : ℕ) (p : WindowEntry) (on : n < numbers) where
  -- what a requester that has a window has there
  rows_here : (s : ℕ) (old : Room) → slot_of held q ≡ Some s → slice_get held.rooms s ≡ Some old
      → (m : ℕ) → m < numbers → option_map (kept_from reading q m) (pair_at old m) ≡ windows_of numbers log q m
  rows_here s old mine is m m_on =
      ap (option_map (kept_from reading q m)) (sym (room_pair held s m old is))
      ∙ ap (λ (o : Option ℕ). option_map (kept_from reading q m) (pair_in held o m)) (sym mine)
      ∙ keeps.rows q m m_on

  -- a requester that has a window has its request kept there
  pub carried_here : (s : ℕ) (old new : Room) → slot_of held q ≡ Some s → slice_get held.rooms s ≡ Some old → s < length held.rooms → KeepsAtNumber numbers n p old new
      → WindowsKeep numbers reading (record { slots = held.slots; owners = held.owners; rooms = set held.rooms s new }) (Carried (kept_from reading q n p) ∷ log)
  carried_here s old new mine is within kept =
      let after : HeldWindows = record { slots = held.slots; owners = held.owners; rooms = set held.rooms s new } in
      let k : Kept = kept_from reading q n p in
      record {
        rows = λ r m m_on.
            elim (cases_eq q r) [
              | inl same ↦
                  subst (λ (x : ℕ). row reading after x m ≡ windows_of numbers (Carried k ∷ log) x m) same
                  (ap (λ (o : Option ℕ). option_map (kept_from reading q m) (pair_in after o m)) mine
                  ∙ ap (option_map (kept_from reading q m)) (room_pair after s m new (get_set held.rooms s new within))
                  ∙ own_row numbers reading log q n p old new kept (rows_here s old mine is) m m_on)
              | inr other ↦
                  ap (option_map (kept_from reading r m))
                  (pair_other held s new (slot_of held r) (λ t theirs same. other (same_Some q r (sym ((keeps.own q s).0 mine) ∙ ap (owner_of held) (sym same) ∙ (keeps.own r t).0 theirs))) m)
                  ∙ keeps.rows r m m_on
                  ∙ sym (window_other numbers log r m k other)
            ];
        requesters = slots_are after (Carried k ∷ log) keeps.own (λ r. (
          (λ is. (in_carried k log r).1 (inr ((is_here numbers reading held log keeps r).0 is))),
          (λ is. elim ((in_carried k log r).0 is) [
            | inl same ↦ (s, ap (slot_of held) (sym same) ∙ mine)
            | inr there ↦ (is_here numbers reading held log keeps r).1 there
          ]),
        ));
        own = keeps.own;
        on_circle = (on, keeps.on_circle);
      }

  -- a requester that has none is given a free one
  pub carried_there : (s : ℕ) (empty new : Room) → slot_of held q ≡ None → owner_of held s ≡ None → q < length held.slots → s < length held.owners → s < length held.rooms
      → IsEmpty numbers empty → KeepsAtNumber numbers n p empty new
      → WindowsKeep numbers reading (record { slots = set held.slots q (Some s); owners = set held.owners s (Some q); rooms = set held.rooms s new }) (Carried (kept_from reading q n p) ∷ log)
  carried_there s empty new mine free within_q within_s within none kept =
      let after : HeldWindows = record { slots = set held.slots q (Some s); owners = set held.owners s (Some q); rooms = set held.rooms s new } in
      let k : Kept = kept_from reading q n p in
      let own : Own after = (λ a b. (
        tie held.slots held.owners q s within_q within_s free (λ x y. (keeps.own x y).0) a b,
        tie held.owners held.slots s q within_s within_q mine (λ x y. (keeps.own y x).1) b a,
      )) in
      let slot_same : slot_of after q ≡ Some s = get_or-set_same held.slots q (Some s) None within_q in
      let slot_other : (r : ℕ) → (q ≡ r → ⊥) → slot_of after r ≡ slot_of held r = (λ r other. get_or-set_other held.slots q r (Some s) None (λ e. other (sym e))) in
      record {
        rows = λ r m m_on.
            elim (cases_eq q r) [
              | inl same ↦
                  subst (λ (x : ℕ). row reading after x m ≡ windows_of numbers (Carried k ∷ log) x m) same
                  (ap (λ (o : Option ℕ). option_map (kept_from reading q m) (pair_in after o m)) slot_same
                  ∙ ap (option_map (kept_from reading q m)) (room_pair after s m new (get_set held.rooms s new within))
                  ∙ own_row numbers reading log q n p empty new kept
                  (λ x x_on. ap (option_map (kept_from reading q x)) (none x x_on) ∙ ap (λ (o : Option ℕ). option_map (kept_from reading q x) (pair_in held o x)) (sym mine) ∙ keeps.rows q x x_on)
                  m m_on)
              | inr other ↦
                  ap (λ (o : Option ℕ). option_map (kept_from reading r m) (pair_in after o m)) (slot_other r other)
                  ∙ ap (option_map (kept_from reading r m))
                  (pair_other held s new (slot_of held r) (λ t theirs same. none-some r (sym free ∙ ap (owner_of held) (sym same) ∙ (keeps.own r t).0 theirs)) m)
                  ∙ keeps.rows r m m_on
                  ∙ sym (window_other numbers log r m k other)
            ];
        requesters = slots_are after (Carried k ∷ log) own (λ r. (
          (λ is. (in_carried k log r).1 (elim (cases_eq q r) [
            | inl same ↦ inl same
            | inr other ↦ inr ((is_here numbers reading held log keeps r).0 (is.0, sym (slot_other r other) ∙ is.1))
          ])),
          (λ is. elim (cases_eq q r) [
            | inl same ↦ (s, ap (slot_of after) (sym same) ∙ slot_same)
            | inr other ↦
                elim ((in_carried k log r).0 is) [
                  | inl same ↦ absurd (other same)
                  | inr there ↦ let old = (is_here numbers reading held log keeps r).1 there in (old.0, slot_other r other ∙ old.1)
                ]
          ]),
        ));
        own = own;
        on_circle = (on, keeps.on_circle);
      }

module _ (numbers : ℕ) (reading : Reading) (held : HeldWindows) (log : List Entry) (keeps : WindowsKeep numbers reading held log) (q : ℕ) where
  -- a requester's window is forgotten
  pub idle_here : (s : ℕ) → slot_of held q ≡ Some s → q < length held.slots → s < length held.owners
      → WindowsKeep numbers reading (record { slots = set held.slots q None; owners = set held.owners s None; rooms = held.rooms }) (Idled q ∷ log)
  idle_here s mine within_q within_s =
      let after : HeldWindows = record { slots = set held.slots q None; owners = set held.owners s None; rooms = held.rooms } in
      let own : Own after = (λ a b. (
        untie held.slots held.owners q s within_q ((keeps.own q s).0 mine) (λ x y. (keeps.own x y).0) a b,
        untie held.owners held.slots s q within_s mine (λ x y. (keeps.own y x).1) b a,
      )) in
      let slot_none : slot_of after q ≡ None = get_or-set_same held.slots q None None within_q in
      let slot_other : (r : ℕ) → (q ≡ r → ⊥) → slot_of after r ≡ slot_of held r = (λ r other. get_or-set_other held.slots q r None None (λ e. other (sym e))) in
      record {
        rows = λ r m m_on.
            elim (cases_eq q r) [
              | inl same ↦
                  ap (λ (o : Option ℕ). option_map (kept_from reading r m) (pair_in after o m)) (ap (slot_of after) (sym same) ∙ slot_none)
                  ∙ sym (window_idle numbers log r m q same)
              | inr other ↦
                  ap (λ (o : Option ℕ). option_map (kept_from reading r m) (pair_in held o m)) (slot_other r other)
                  ∙ keeps.rows r m m_on
                  ∙ sym (window_idle_other numbers log r m q other)
            ];
        requesters = slots_are after (Idled q ∷ log) own (λ r. (
          (λ is. (in_idled q log r).1 (elim (cases_eq q r) [
            | inl same ↦ absurd (none-some is.0 (sym (ap (slot_of after) (sym same) ∙ slot_none) ∙ is.1))
            | inr other ↦ (other, (is_here numbers reading held log keeps r).0 (is.0, sym (slot_other r other) ∙ is.1))
          ])),
          (λ is.
              let both = (in_idled q log r).0 is in
              let old = (is_here numbers reading held log keeps r).1 both.1 in
              (old.0, slot_other r both.0 ∙ old.1)),
        ));
        own = own;
        on_circle = keeps.on_circle;
      }

  -- one that has none stays without
  pub idle_there : slot_of held q ≡ None → WindowsKeep numbers reading held (Idled q ∷ log)
  idle_there mine =
      let other : (r s : ℕ) → slot_of held r ≡ Some s → q ≡ r → ⊥ = (λ r s is same. none-some s (sym mine ∙ ap (slot_of held) same ∙ is)) in
      record {
        rows = λ r m m_on.
            elim (cases_eq q r) [
              | inl same ↦
                  ap (λ (o : Option ℕ). option_map (kept_from reading r m) (pair_in held o m)) (ap (slot_of held) (sym same) ∙ mine)
                  ∙ sym (window_idle numbers log r m q same)
              | inr differs ↦ keeps.rows r m m_on ∙ sym (window_idle_other numbers log r m q differs)
            ];
        requesters = slots_are held (Idled q ∷ log) keeps.own (λ r. (
          (λ is. (in_idled q log r).1 (other r is.0 is.1, (is_here numbers reading held log keeps r).0 is)),
          (λ is. (is_here numbers reading held log keeps r).1 ((in_idled q log r).0 is).1),
        ));
        own = keeps.own;
        on_circle = keeps.on_circle;
      }

-- the same where the code writes it
pub given_there : (numbers : ℕ) (reading : Reading) (held : HeldWindows) (log : List Entry) → WindowsKeep numbers reading held log → (q n : ℕ) (p : WindowEntry) → n < numbers
    → (s at_byte slot : ℕ) (empty new : Room) → at_byte ≡ q → slot ≡ s → slot_of held q ≡ None → owner_of held s ≡ None → q < length held.slots → s < length held.owners → s < length held.rooms
    → IsEmpty numbers empty → KeepsAtNumber numbers n p empty new
    → WindowsKeep numbers reading (record { slots = set held.slots at_byte (Some slot); owners = set held.owners s (Some q); rooms = set held.rooms s new }) (Carried (kept_from reading q n p) ∷ log)
given_there numbers reading held log keeps q n p on s at_byte slot empty new here same mine free within_q within_s within none kept =
    subst (λ (slots : List (Option ℕ)). WindowsKeep numbers reading (record { slots = slots; owners = set held.owners s (Some q); rooms = set held.rooms s new }) (Carried (kept_from reading q n p) ∷ log))
    (sym (ap (λ (i : ℕ). set held.slots i (Some slot)) here ∙ ap (λ (x : ℕ). set held.slots q (Some x)) same))
    (carried_there numbers reading held log keeps q n p on s empty new mine free within_q within_s within none kept)

pub kept_there : (numbers : ℕ) (reading : Reading) (held : HeldWindows) (log : List Entry) → WindowsKeep numbers reading held log → (q n : ℕ) (p : WindowEntry) → n < numbers
    → (s place : ℕ) (old new : Room) → place ≡ s → slot_of held q ≡ Some s → old ≡ get_or held.rooms place old → s < length held.rooms → KeepsAtNumber numbers n p old new
    → WindowsKeep numbers reading (record { slots = held.slots; owners = held.owners; rooms = set held.rooms place new }) (Carried (kept_from reading q n p) ∷ log)
kept_there numbers reading held log keeps q n p on s place old new here mine read within kept =
    subst (λ (i : ℕ). WindowsKeep numbers reading (record { slots = held.slots; owners = held.owners; rooms = set held.rooms i new }) (Carried (kept_from reading q n p) ∷ log)) (sym here)
    (carried_here numbers reading held log keeps q n p on s old new mine (ap (slice_get held.rooms) (sym here) ∙ slice_get_read held.rooms (length held.rooms) place old refl (omega arith) read) within kept)

pub idled_there : (numbers : ℕ) (reading : Reading) (held : HeldWindows) (log : List Entry) → WindowsKeep numbers reading held log → (q : ℕ)
    → (s at_byte place : ℕ) → at_byte ≡ q → place ≡ s → slot_of held q ≡ Some s → q < length held.slots → s < length held.owners
    → WindowsKeep numbers reading (record { slots = set held.slots at_byte None; owners = set held.owners place None; rooms = held.rooms }) (Idled q ∷ log)
idled_there numbers reading held log keeps q s at_byte place here same mine within_q within_s =
    subst (λ (i : ℕ). WindowsKeep numbers reading (record { slots = set held.slots i None; owners = set held.owners place None; rooms = held.rooms }) (Idled q ∷ log)) (sym here)
    (subst (λ (i : ℕ). WindowsKeep numbers reading (record { slots = set held.slots q None; owners = set held.owners i None; rooms = held.rooms }) (Idled q ∷ log)) (sym same)
    (idle_here numbers reading held log keeps q s mine within_q within_s))

-- nobody has a window at first
pub none_kept : (numbers : ℕ) (reading : Reading) (slots owners : List (Option ℕ)) (rooms : List Room) → ((q : ℕ) → at slots q ≡ None) → ((s : ℕ) → at owners s ≡ None)
    → WindowsKeep numbers reading (record { slots = slots; owners = owners; rooms = rooms }) []
none_kept numbers reading slots owners rooms no_slot no_owner =
    let held : HeldWindows = record { slots = slots; owners = owners; rooms = rooms } in
    let own : Own held = (λ q s. (
      (λ is. absurd (none-some s (sym (no_slot q) ∙ is))),
      (λ is. absurd (none-some q (sym (no_owner s) ∙ is))),
    )) in
    record {
      rows = λ r m m_on. ap (λ (o : Option ℕ). option_map (kept_from reading r m) (pair_in held o m)) (no_slot r);
      requesters = slots_are held [] own (λ q. ((λ is. absurd (none-some is.0 (sym (no_slot q) ∙ is.1))), (λ is. absurd is)));
      own = own;
      on_circle = tt;
    }
