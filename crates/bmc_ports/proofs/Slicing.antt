-- A worker's turns, one after another.
use Rattle.std.proofs.Common.{◌≡◌, ◌+◌, ◌++◌, ◌∙◌, refl, sym, ap, subst, ℕ, List, [], ◌∷◌, length, Option, None, Some, arith}
use Rattle.std.proofs.lemmas.List.{append_assoc, length-append}
use Rattle.two_wire.specs.declared.Bus.{Bus}
use Rattle.bmc_core.specs.Port.{bus_of}
use Rattle.wire_links.specs.declared.link.Link.{Ghosts}
use Rattle.wire_links.specs.Counted.{counted_on}
use Rattle.wire_links.proofs.Counting.{counted_twice}
use Rattle.bmc_shared.specs.declared.event.Call.{Call}
use Rattle.bmc_shared.specs.declared.seat.Seat.{Seat}
use Rattle.bmc_shared.specs.declared.worker.End.{End}
use Rattle.bmc_shared.specs.declared.worker.End.TheVariants.{Turns, Full}
use Rattle.bmc_ports.specs.declared.lane.Lane.{Lane}
use Rattle.bmc_ports.specs.declared.silence.Silence.{Silence}
use Rattle.bmc_ports.specs.Since.{Hearing}
use Rattle.bmc_ports.specs.Senders.{IsFrom}
use Rattle.bmc_ports.specs.Silence.{AreCounted, silent_turns}
use Rattle.bmc_ports.specs.Slices.{AreTurns, FindRoom, WorkerEnd, IsBack, IsTurn, TurnsMade}
use Rattle.bmc_ports.proofs.Since.{counts_both, counts_still}

-- no turn was made
counted_still : (least : Option ℕ) (on : Bus) (silence : Silence) → AreCounted least on silence [] silence
counted_still None on silence = refl
counted_still (Some least) on silence = λ who within. counts_still (IsFrom on who) (silent_turns silence who)

-- turns, and then others of the same lane
counted_both : (least same : Option ℕ) (on that : Bus) (before mid after : Silence) (first later : List Hearing) → same ≡ least → that ≡ on
    → AreCounted least on before first mid → AreCounted same that mid later after → AreCounted least on before (first ++ later) after
counted_both None same on that before mid after first later is are begins then =
    let still : AreCounted None that mid later after = subst (λ (least : Option ℕ). AreCounted least that mid later after) is then in
    still ∙ begins
counted_both (Some least) same on that before mid after first later is are begins then =
    let counted : AreCounted (Some least) on mid later after = subst (λ (b : Bus). AreCounted (Some least) b mid later after) are
    (subst (λ (o : Option ℕ). AreCounted o that mid later after) is then) in
    λ who within.
    counts_both (IsFrom on who) (silent_turns before who) (silent_turns mid who) (silent_turns after who) first later (begins who within)
    (counted who within)

-- ---- turns
module _ {L : Type 0} (of : Ghosts L) where
  found_both : (first later : List Hearing) (held list kept : List Call) (before mid after : Lane L)
      → FindRoom of first held list before mid → FindRoom of later list kept mid after → FindRoom of (first ++ later) held kept before after
  found_both [] later held list kept before mid after (same, still) then =
      subst (λ (xs : List Call). FindRoom of later xs kept before after) (sym same)
      (subst (λ (lane : Lane L). FindRoom of later list kept lane after) (sym still) then)
  found_both (heard ∷ first) later held list kept before mid after (next, lane, turn, found) then =
      (next, lane, turn, found_both first later next list kept lane mid after found then)

  turns_both : (end : End) (first later : List Hearing) (held list kept : List Call) (before mid after : Lane L)
      → FindRoom of first held list before mid → AreTurns of end later list kept mid after → AreTurns of end (first ++ later) held kept before after
  turns_both Turns first later held list kept before mid after found then = found_both first later held list kept before mid after found then
  turns_both Full first later held list kept before mid after found then = record {
    first = first ++ then.first;
    last = then.last;
    list = then.list;
    mid = then.mid;
    all = ap (λ xs. first ++ xs) then.all ∙ sym (append_assoc first then.first (then.last ∷ []));
    found = found_both first then.first held list then.list before mid then.mid found then.found;
    full = then.full;
  }

  one_turn : (end : End) (heard : Hearing) (held kept : List Call) (before after : Lane L)
      → IsTurn of end heard held kept before after → AreTurns of end (heard ∷ []) held kept before after
  one_turn Turns heard held kept before after turn = (kept, after, turn, (refl, refl))
  one_turn Full heard held kept before after turn =
      record { first = []; last = heard; list = held; mid = before; all = refl; found = (refl, refl); full = turn }

  -- none was made
  pub makes_still : (held : List Call) (lane : Lane L) → TurnsMade of Turns [] held held lane lane
  makes_still held lane = record {
    turns = omega arith;
    calls = refl;
    quiet = counts_still (λ frame. Unit {0}) lane.quiet;
    silence = counted_still lane.forget (bus_of lane.port) lane.silence;
    forget = refl;
    bus = refl;
    made = (refl, refl);
  }

  -- one was made
  makes_one : (end : End) (heard : Hearing) (held kept : List Call) (before after : Lane L)
      → IsTurn of end heard held kept before after → TurnsMade of end (heard ∷ []) held kept before after
  makes_one end heard held kept before after turn = record {
    turns = omega (arith, turn.turns);
    calls = turn.made.next.calls;
    quiet = turn.quiet;
    silence = turn.silence;
    forget = turn.forget;
    bus = turn.bus;
    made = one_turn end heard held kept before after turn;
  }

  -- some were made, and then others
  makes_both : (end : End) (first later : List Hearing) (held list kept : List Call) (before mid after : Lane L)
      → TurnsMade of Turns first held list before mid → TurnsMade of end later list kept mid after → TurnsMade of end (first ++ later) held kept before after
  makes_both end first later held list kept before mid after begins then =
      let count : ℕ = (of.counts_of before.link).calls in
      let both : length later + length first ≡ length (first ++ later) = omega (arith, length-append first later) in record {
        turns = omega (arith, length-append first later, begins.turns, then.turns);
        calls = then.calls ∙ ap (λ (calls : ℕ). counted_on calls (length later)) begins.calls ∙ counted_twice count (length first) (length later) ∙ ap (counted_on count) both;
        quiet = counts_both (λ frame. Unit {0}) before.quiet mid.quiet after.quiet first later begins.quiet then.quiet;
        silence = counted_both before.forget mid.forget (bus_of before.port) (bus_of mid.port) before.silence mid.silence after.silence first later
            begins.forget begins.bus begins.silence then.silence;
        forget = then.forget ∙ begins.forget;
        bus = then.bus ∙ begins.bus;
        made = turns_both end first later held list kept before mid after begins.made then.made;
      }

  -- some were made, and then one
  pub makes_more : (end : End) (first : List Hearing) (heard : Hearing) (held list kept : List Call) (before mid after : Lane L)
      → TurnsMade of Turns first held list before mid → IsTurn of end heard list kept mid after → TurnsMade of end (first ++ heard ∷ []) held kept before after
  makes_more end first heard held list kept before mid after begins turn =
      makes_both end first (heard ∷ []) held list kept before mid after begins (makes_one end heard list kept mid after turn)

  -- the last one was made
  pub ends_so : (end : End) (first : List Hearing) (heard : Hearing) (held list kept : List Call) (before mid after : Lane L)
      → TurnsMade of Turns first held list before mid → IsTurn of end heard list kept mid after → WorkerEnd of end held kept before after
  ends_so end first heard held list kept before mid after begins turn = record {
    heard = first ++ heard ∷ [];
    least = λ some. omega (arith, length-append first (heard ∷ []));
    makes = makes_more end first heard held list kept before mid after begins turn;
  }

  -- all were made
  pub ends_with_all : (heard : List Hearing) (held kept : List Call) (before after : Lane L) → length heard ≡ before.turns
      → TurnsMade of Turns heard held kept before after → WorkerEnd of Turns held kept before after
  ends_with_all heard held kept before after all makes = record { heard = heard; least = λ some. omega (arith, all, some); makes = makes }

  -- a worker that went on goes on once more
  goes_both : (end : End) (held list kept : List Call) (before mid after : Lane L)
      → WorkerEnd of Turns held list before mid → WorkerEnd of end list kept mid after → WorkerEnd of end held kept before after
  goes_both end held list kept before mid after begins then = record {
    heard = begins.heard ++ then.heard;
    least = λ some. omega (arith, length-append begins.heard then.heard, begins.least some);
    makes = makes_both end begins.heard then.heard held list kept before mid after begins.makes then.makes;
  }

  -- and its seat comes back
  pub back_again : {J : Type 0} {f g h : _} (seat : Seat J f) (lane : Lane L) (next : Seat J g) (mid : Lane L) (one : End) (after : Seat J h) (left : Lane L) (end : End) → one ≡ Turns
      → IsBack of seat lane next mid one → IsBack of next mid after left end → IsBack of seat lane after left end
  back_again seat lane next mid one after left end room begins then = record {
    number = then.number ∙ begins.number;
    marked = then.marked;
    mark = λ same. then.mark same ∙ begins.mark room;
    goes = goes_both end seat.calls.items next.calls.items after.calls.items lane mid left
        (subst (λ (e : End). WorkerEnd of e seat.calls.items next.calls.items lane mid) room begins.goes) then.goes;
  }
