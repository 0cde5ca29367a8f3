-- Events of an agenda, one after another.
use Rattle.std.proofs.Common.{◌≡◌, ◌≢◌, ◌+◌, ◌++◌, ◌∙◌, sym, ap, subst, ℕ, List, [], ◌∷◌, length, Bool, Option, Some, arith}
use Rattle.std.proofs.lemmas.List.{append_assoc, append-nil, length-append}
use Rattle.bmc_board.specs.declared.bench.Bench.{Bench}
use Rattle.bmc_shared.specs.declared.event.Call.{Call}
use Rattle.bmc_shared.specs.declared.seat.Seat.{Seat}
use Rattle.bmc_ports.specs.declared.timetable.Timed.{Timed}
use Rattle.bmc_ports.specs.declared.timetable.TimedEnd.{TimedEnd}
use Rattle.bmc_ports.specs.declared.timetable.TimedEnd.TheVariants.{Full}
use Rattle.bmc_ports.specs.Scanning.{BenchCall}
use Rattle.bmc_ports.specs.Timing.{CallsEvent, GainsCalls, HappenFrom, IsPlayed, event_at}

-- what happens from a place on, and then from the place to which that came
happen_both : (repeats : Bool) (list : List Timed) (from mid : ℕ) (first later : List Call) → mid ≡ from + length first
    → HappenFrom repeats list from first → HappenFrom repeats list mid later → HappenFrom repeats list from (first ++ later)
happen_both repeats list from mid [] later far all then =
    let same : mid ≡ from = omega (arith, far) in subst (λ (n : ℕ). HappenFrom repeats list n later) same then
happen_both repeats list from mid (call ∷ first) later far (one, all) then =
    let on : mid ≡ from + 1 + length first = omega (arith, far) in
    (one, happen_both repeats list (from + 1) mid first later on all then)

-- there is an event, and the call has it happen
calls_event : (event : Option Bench) (one : Bench) (call : Call) → event ≡ Some one → BenchCall one call → CallsEvent event call
calls_event event one call is happens = subst (λ (e : Option Bench). CallsEvent e call) (sym is) happens

-- the next one happens
pub gains_more : (repeats : Bool) (list : List Timed) (from to : ℕ) (held kept more : List Call) (call : Call) (event : Bench)
    → GainsCalls repeats list from to held kept → event_at repeats list to ≡ Some event
    → more ≡ kept ++ call ∷ [] → BenchCall event call → GainsCalls repeats list from (to + 1) held more
gains_more repeats list from to held kept more call event gains is put happens =
    let longer : length (gains.gained ++ call ∷ []) ≡ length gains.gained + 1 = length-append gains.gained (call ∷ []) in
    let far = gains.far in record {
      gained = gains.gained ++ call ∷ [];
      calls = put ∙ ap (λ (calls : List Call). calls ++ call ∷ []) gains.calls ∙ append_assoc held gains.gained (call ∷ []);
      far = omega (arith, far, longer);
      happened = happen_both repeats list from to gains.gained (call ∷ []) far gains.happened (calls_event (event_at repeats list to) event call is happens, tt);
    }

-- nothing of the list happened
pub gains_none : (repeats : Bool) (list : List Timed) (from : ℕ) (held : List Call) → GainsCalls repeats list from from held held
gains_none repeats list from held = record { gained = []; calls = sym (append-nil held); far = omega arith; happened = tt }

-- some of the list happened, and then what stands behind it
pub gains_both : (repeats : Bool) (list : List Timed) (from mid to : ℕ) (held between kept : List Call)
    → GainsCalls repeats list from mid held between → GainsCalls repeats list mid to between kept → GainsCalls repeats list from to held kept
gains_both repeats list from mid to held between kept begins then =
    let first : List Call = begins.gained in
    let later : List Call = then.gained in
    let both : length (first ++ later) ≡ length first + length later = length-append first later in record {
      gained = first ++ later;
      calls = then.calls ∙ ap (λ (calls : List Call). calls ++ later) begins.calls ∙ append_assoc held first later;
      far = omega (arith, begins.far, then.far, both);
      happened = happen_both repeats list from mid first later begins.far begins.happened then.happened;
    }

-- a scanner that found room goes on, and its seat comes back
pub played_again : {J : Type 0} {f g h : _} (repeats : Bool) (list : List Timed) (from mid to : ℕ) (seat : Seat J f) (next : Seat J g) (after : Seat J h) (one end : TimedEnd) → one ≢ Full
    → IsPlayed repeats list from mid seat next one → IsPlayed repeats list mid to next after end → IsPlayed repeats list from to seat after end
played_again repeats list from mid to seat next after one end room begins then = record {
  number = then.number ∙ begins.number;
  marked = then.marked;
  mark = λ found. then.mark found ∙ begins.mark room;
  over = then.over;
  gains = gains_both repeats list from mid to seat.calls.items next.calls.items after.calls.items begins.gains then.gains;
}

-- the same, where the agenda and the place are the same
pub same_played : {J : Type 0} {g h : _} (how again : Bool) (list these : List Timed) (from place to : ℕ) (seat : Seat J g) (after : Seat J h) (end : TimedEnd)
    → how ≡ again → list ≡ these → from ≡ place
    → IsPlayed how list from to seat after end → IsPlayed again these place to seat after end
same_played how again list these from place to seat after end alike same at played =
    subst (λ (r : Bool). IsPlayed r these place to seat after end) alike
    (subst (λ (l : List Timed). IsPlayed how l place to seat after end) same (subst (λ (n : ℕ). IsPlayed how list n to seat after end) at played))
