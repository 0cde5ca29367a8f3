-- A seat's list, compared with a history.
use Rattle.std.specs.Prelude.{slice_get, filter}
use Rattle.std.proofs.Common.{◌≡◌, ◌==◌, ◌+◌, ◌↔◌, ◌<◌, ℕ, suc, List, ◌∷◌, length, map, drop, drop-cons, add-one, get_or, Some, Bool, true, false, cond, arith, sym, ◌∙◌, ap, length-drop}
use Rattle.std.proofs.lemmas.Option.{slice_get_within, get_or_from_slice_get, slice_get-get_or}
use Rattle.bmc_shared.specs.declared.event.Call.{Call}
use Rattle.bmc_shared.specs.declared.event.Event.{Event}
use Rattle.bmc_shared.specs.Replay.{calls_of}

-- what is there is the first of what is left
left_at : {X : Type 0} (xs : List X) (k : ℕ) (x : X) → slice_get xs k ≡ Some x → drop k xs ≡ x ∷ drop (k + 1) xs
left_at xs k x there =
    rw (add-one) (drop-cons xs k x (slice_get_within xs k x there) ∙ ap (λ y. y ∷ drop (suc k) xs) (get_or_from_slice_get xs k x x there))

-- the first of what is left is what is there
there_at : {X : Type 0} (xs rest : List X) (k : ℕ) (x : X) → drop k xs ≡ x ∷ rest → slice_get xs k ≡ Some x
there_at xs rest k x left =
    let many : length (drop k xs) ≡ suc (length rest) = ap length left in
    let low : k < length xs = omega (arith, many, length-drop k xs) in
    slice_get-get_or xs k x low ∙ ap (λ y. Some y) (ap (λ ys. get_or ys 0 x) (sym (drop-cons xs k x low) ∙ left))

-- the calls of a seat, where the event is its, and where it is another's
calls_from : (seat : ℕ) (events : List Event) (k : ℕ) (event : Event) (is : Bool) → slice_get events k ≡ Some event → (event.seat == seat) ≡ is
    → calls_of seat (drop k events) ≡ map (λ e. e.call) (cond is (event ∷ filter (λ e. e.seat == seat) (drop (k + 1) events)) (filter (λ e. e.seat == seat) (drop (k + 1) events)))
calls_from seat events k event is there own =
    ap (calls_of seat) (left_at events k event there)
    ∙ ap (λ b. map (λ e. e.call) (cond b (event ∷ filter (λ e. e.seat == seat) (drop (k + 1) events)) (filter (λ e. e.seat == seat) (drop (k + 1) events)))) own

-- where another seat called, what is left says the same
pub passes : (seat : ℕ) (events : List Event) (calls : List Call) (k n : ℕ) (event : Event) → slice_get events k ≡ Some event → (event.seat == seat) ≡ false
    → ((calls_of seat events ≡ calls) ↔ (calls_of seat (drop k events) ≡ drop n calls))
    → (calls_of seat events ≡ calls) ↔ (calls_of seat (drop (k + 1) events) ≡ drop n calls)
passes seat events calls k n event there own same =
    let from = calls_from seat events k event false there own in
    ((λ all. sym from ∙ same.0 all), (λ left. same.1 (from ∙ left)))

-- where the seat called, and its list has that next, too
pub agrees : (seat : ℕ) (events : List Event) (calls : List Call) (k n : ℕ) (event : Event) → slice_get events k ≡ Some event → (event.seat == seat) ≡ true
    → slice_get calls n ≡ Some event.call
    → ((calls_of seat events ≡ calls) ↔ (calls_of seat (drop k events) ≡ drop n calls))
    → (calls_of seat events ≡ calls) ↔ (calls_of seat (drop (k + 1) events) ≡ drop (n + 1) calls)
agrees seat events calls k n event there own next same =
    let from = calls_from seat events k event true there own in
    let first = left_at calls n event.call next in (
      (λ all. ap (drop 1) (sym from ∙ same.0 all ∙ first)),
      (λ left. same.1 (from ∙ ap (λ xs. event.call ∷ xs) left ∙ sym first)),
    )

-- where all is the same, its list has that next
pub has_next : (seat : ℕ) (events : List Event) (calls : List Call) (k n : ℕ) (event : Event) → slice_get events k ≡ Some event → (event.seat == seat) ≡ true
    → ((calls_of seat events ≡ calls) ↔ (calls_of seat (drop k events) ≡ drop n calls))
    → calls_of seat events ≡ calls → slice_get calls n ≡ Some event.call
has_next seat events calls k n event there own same all =
    there_at calls (calls_of seat (drop (k + 1) events)) n event.call (sym (same.0 all) ∙ calls_from seat events k event true there own)
