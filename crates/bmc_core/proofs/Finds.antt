-- What a port finds is what the rule says.
use Rattle.std.proofs.Common.{◌≡◌, ℕ, ◌<◌, ◌≤◌, Bool, true, false, not, ◌&&◌, ltb, List, length, get_or, Option, Some, None, cond, refl, sym, ◌∙◌, ap, subst, inl, inr, arith}
use Rattle.std.specs.Prelude.{slice_get, ◌==◌}
use Rattle.std.specs.List.{position, position_or_len}
use Rattle.std.specs.Option.{option_map, is_none}
use Rattle.std.specs.Str.{bytes_eq}
use Rattle.std.proofs.lemmas.Bool.{cond_both, cases_lt, cond-true, cond-false, eq-eqb, and_left, and_from, lt-ltb, le-leb, lt-leb, ltb-true, not_from_true, not_from_false, false_from_ne_true}
use Rattle.std.proofs.lemmas.Option.{none-some, cond_some, slice_get_read}
use Rattle.model_bus.specs.Request.{Request as Heard, Kept, Entry}
use Rattle.model_bus.specs.Carried.{requesters, is_busy, has_no_slot, IsBusy, IsNew, outcome, outcome_of}
use Rattle.model_bus.specs.Numbering.{is_above}
use Rattle.model_bus.specs.Window.{reply_in, RowsAreTheRule}
use Rattle.model_bus.proofs.Requesters.{has, in_has, has_in}
use Rattle.model_bus.proofs.Slots.{slots_decide}
use Rattle.model_bus.proofs.WindowRows.{rows_64, rows_32}
use Rattle.bmc_core.specs.Circle.{is_circle}
use Rattle.bmc_core.specs.Window.{WindowEntry, Room, pair_at, reply_to}
use Rattle.bmc_core.specs.Keeps.{HeldWindows, Reading, slot_of, pair_in, kept_from, somes, WindowsKeep}
use Rattle.bmc_core.proofs.Circles.{circles}
use Rattle.bmc_core.proofs.Tables.{room_pair}
use Rattle.bmc_core.proofs.Tied.{in_somes, from_somes, full, room as with_room}

rule : (numbers : ℕ) → is_circle numbers ≡ true → RowsAreTheRule numbers
rule numbers is = elim (circles numbers is) [ inl size ↦ subst RowsAreTheRule (sym size) rows_64 | inr size ↦ subst RowsAreTheRule (sym size) rows_32 ]

-- the request that the bytes say
abbrev pub said : Reading → ℕ → ℕ → List ℕ → Heard
said reading q n bytes = record { requester = q; number = n; bytes = reading.request bytes }

-- a row tells by the bytes that are kept
by_bytes : (reading : Reading) (q n : ℕ) (bytes : List ℕ) (o : Option WindowEntry)
    → reply_in (said reading q n bytes) (option_map (kept_from reading q n) o) ≡ option_map reading.reply (reply_to bytes o)
by_bytes reading q n bytes None = refl
by_bytes reading q n bytes (Some p) =
    ap (λ (t : Bool). cond t (Some (reading.reply p.reply)) None)
    (ap (λ (t : Bool). (t && (n == n)) && bytes_eq (reading.request bytes) (reading.request p.request)) (eq-eqb q q refl)
    ∙ ap (λ (t : Bool). t && bytes_eq (reading.request bytes) (reading.request p.request)) (eq-eqb n n refl)
    ∙ reading.same bytes p.request)
    ∙ sym (cond_both (bytes_eq bytes p.request) (Some p.reply) None (λ o. option_map reading.reply o ≡ cond (bytes_eq bytes p.request) (Some (reading.reply p.reply)) None)
    (λ t. sym (cond-true (bytes_eq bytes p.request) (Some (reading.reply p.reply)) None t))
    (λ f. sym (cond-false (bytes_eq bytes p.request) (Some (reading.reply p.reply)) None f)))

-- the first free place of a list, or none
pub place_within : (os : List (Option ℕ)) (i : ℕ) → position is_none os ≡ Some i → (position_or_len is_none os < length os) × (position_or_len is_none os ≡ i)
place_within os i is =
    let parts = cond_some (ltb (position_or_len is_none os) (length os)) (position_or_len is_none os) i is in
    (ltb-true (position_or_len is_none os) (length os) parts.0, parts.1)

no_place : (os : List (Option ℕ)) → position is_none os ≡ None → length os ≤ position_or_len is_none os
no_place os is =
    elim (cases_lt (position_or_len is_none os) (length os)) [
      | inl within ↦
          absurd (none-some (position_or_len is_none os)
          (sym is ∙ cond-true (ltb (position_or_len is_none os) (length os)) (Some (position_or_len is_none os)) None (lt-ltb (position_or_len is_none os) (length os) within)))
      | inr past ↦ past
    ]

-- an element that is read
pub reads : {X : Type 0} (xs : List X) (s i : ℕ) (x : X) → i ≡ s → i < length xs → x ≡ get_or xs i x → slice_get xs s ≡ Some x
reads xs s i x same within read = ap (slice_get xs) (sym same) ∙ slice_get_read xs (length xs) i x refl within read

no_both : (t : Bool) → (t && false) ≡ false
no_both true = refl
no_both false = refl

never_busy : (o : Option (List ℕ)) → outcome_of o false ≡ IsBusy → ⊥
never_busy None e = cc
never_busy (Some reply) e = cc

module _ (numbers : ℕ) (circle : is_circle numbers ≡ true) (reading : Reading) (held : HeldWindows) (log : List Entry) (keeps : WindowsKeep numbers reading held log) (q : ℕ) where
  -- what the rule says, by what the window has
  pub by_row : (n : ℕ) (bytes : List ℕ) → n < numbers
      → outcome (is_above numbers) (said reading q n bytes) log ≡ outcome_of (option_map reading.reply (reply_to bytes (pair_in held (slot_of held q) n))) (is_busy q log)
  by_row n bytes on =
      rule numbers circle (said reading q n bytes) log on keeps.on_circle
      ∙ ap (λ (o : Option Kept). outcome_of (reply_in (said reading q n bytes) o) (is_busy q log)) (sym (keeps.rows q n on))
      ∙ ap (λ (o : Option (List ℕ)). outcome_of o (is_busy q log)) (by_bytes reading q n bytes (pair_in held (slot_of held q) n))

  by_slots : is_busy q log ≡ has_no_slot q (somes held.owners)
  by_slots = (slots_decide (somes held.owners) log keeps.requesters).1 q

  -- who has a window isn't busy
  pub not_busy : (s : ℕ) → slot_of held q ≡ Some s → is_busy q log ≡ false
  not_busy s mine = by_slots ∙ and_left _ _ (not_from_true _ (in_has q (somes held.owners) (in_somes held.owners s q ((keeps.own q s).0 mine))))

  -- nor is anybody where a window is free
  pub not_full : length held.owners ≡ 8 → position_or_len is_none held.owners < length held.owners → is_busy q log ≡ false
  not_full eight within =
      let less = (with_room held.owners within).0 in
      by_slots ∙ ap (λ (t : Bool). not (has q (somes held.owners)) && t) (lt-leb 8 (length (somes held.owners)) (omega arith)) ∙ no_both (not (has q (somes held.owners)))

  -- whoever has none is, where none is free
  pub all_full : length held.owners ≡ 8 → length held.owners ≤ position_or_len is_none held.owners → slot_of held q ≡ None → is_busy q log ≡ true
  all_full eight past none =
      let many = full held.owners past in
      by_slots ∙ and_from _ _
      (not_from_false _ (false_from_ne_true _ (λ t. let there = from_somes held.owners q (has_in q (somes held.owners) t) in none-some there.0 (sym none ∙ (keeps.own q there.0).1 there.1))))
      (le-leb 8 (length (somes held.owners)) (omega arith))

  -- what is found where the requester has a window
  pub finds : (n : ℕ) (bytes : List ℕ) (s : ℕ) (room : Room) (found : Option (List ℕ)) → n < numbers → slot_of held q ≡ Some s → slice_get held.rooms s ≡ Some room
      → found ≡ reply_to bytes (pair_at room n) → outcome_of (option_map reading.reply found) false ≡ outcome (is_above numbers) (said reading q n bytes) log
  finds n bytes s room found on mine is tells =
      sym (by_row n bytes on
      ∙ ap (outcome_of (option_map reading.reply (reply_to bytes (pair_in held (slot_of held q) n)))) (not_busy s mine)
      ∙ ap (λ (o : Option ℕ). outcome_of (option_map reading.reply (reply_to bytes (pair_in held o n))) false) mine
      ∙ ap (λ (o : Option WindowEntry). outcome_of (option_map reading.reply (reply_to bytes o)) false) (room_pair held s n room is)
      ∙ ap (λ (o : Option (List ℕ)). outcome_of (option_map reading.reply o) false) (sym tells))

  -- and where it has none
  finds_none : (n : ℕ) (bytes : List ℕ) (busy : Bool) → n < numbers → slot_of held q ≡ None → is_busy q log ≡ busy
      → outcome_of None busy ≡ outcome (is_above numbers) (said reading q n bytes) log
  finds_none n bytes busy on none is =
      sym (by_row n bytes on
      ∙ ap (λ (o : Option ℕ). outcome_of (option_map reading.reply (reply_to bytes (pair_in held o n))) (is_busy q log)) none
      ∙ ap (outcome_of None) is)

  pub finds_free : (n : ℕ) (bytes : List ℕ) (i : ℕ) → n < numbers → slot_of held q ≡ None → length held.owners ≡ 8 → position is_none held.owners ≡ Some i
      → outcome_of None false ≡ outcome (is_above numbers) (said reading q n bytes) log
  finds_free n bytes i on none eight is = finds_none n bytes false on none (not_full eight (place_within held.owners i is).0)

  pub finds_busy : (n : ℕ) (bytes : List ℕ) → n < numbers → slot_of held q ≡ None → length held.owners ≡ 8 → position is_none held.owners ≡ None
      → outcome_of None true ≡ outcome (is_above numbers) (said reading q n bytes) log
  finds_busy n bytes on none eight is = finds_none n bytes true on none (all_full eight (no_place held.owners is) none)

  -- so a request that is new isn't of a requester without a window where none is free
  pub busy_differs : (n : ℕ) (bytes : List ℕ) → n < numbers → slot_of held q ≡ None → length held.owners ≡ 8 → position is_none held.owners ≡ None
      → outcome (is_above numbers) (said reading q n bytes) log ≡ IsNew → ⊥
  busy_differs n bytes on none eight is new = let differs : IsBusy ≡ IsNew = finds_busy n bytes on none eight is ∙ new in cc

  -- nor is a request busy whose requester has a window, or may have one
  pub not_busy_here : (n : ℕ) (bytes : List ℕ) (s : ℕ) → n < numbers → slot_of held q ≡ Some s → outcome (is_above numbers) (said reading q n bytes) log ≡ IsBusy → ⊥
  not_busy_here n bytes s on mine busy =
      never_busy (option_map reading.reply (reply_to bytes (pair_in held (slot_of held q) n)))
      (ap (outcome_of (option_map reading.reply (reply_to bytes (pair_in held (slot_of held q) n)))) (sym (not_busy s mine)) ∙ sym (by_row n bytes on) ∙ busy)

  pub not_busy_there : (n : ℕ) (bytes : List ℕ) (i : ℕ) → n < numbers → slot_of held q ≡ None → length held.owners ≡ 8 → position is_none held.owners ≡ Some i
      → outcome (is_above numbers) (said reading q n bytes) log ≡ IsBusy → ⊥
  not_busy_there n bytes i on none eight is busy = never_busy None (finds_free n bytes i on none eight is ∙ busy)

module _ (numbers : ℕ) (reading : Reading) (held : HeldWindows) (log : List Entry) (keeps : WindowsKeep numbers reading held log) (q : ℕ) where
  -- the requesters of the log are those that have a window
  pub had : (s : ℕ) → slot_of held q ≡ Some s → has q (requesters log) ≡ true
  had s mine = in_has q (requesters log) ((keeps.requesters.exact q).0 (in_somes held.owners s q ((keeps.own q s).0 mine)))

  pub had_none : slot_of held q ≡ None → has q (requesters log) ≡ false
  had_none none =
      false_from_ne_true _ (λ t.
      let there = from_somes held.owners q ((keeps.requesters.exact q).1 (has_in q (requesters log) t)) in
      none-some there.0 (sym none ∙ (keeps.own q there.0).1 there.1))
