-- Events whose bytes lie one behind another.
use Rattle.std.specs.Prelude.{All, map}
use Rattle.std.proofs.Common.{◌≡◌, ◌≤◌, ℕ, List, [], ◌∷◌, ◌+◌, ◌-◌, ◌++◌, length, take, drop, refl, sym, ◌∙◌, ap, arith}
use Rattle.std.proofs.lemmas.List.{length-append, length-drop, take_all, take-append-le, drop-append-le, map-append}
use Rattle.std.proofs.lemmas.List.Elements.{All-head, All-tail}
use Rattle.std.proofs.Math.Seq.{take-append_seam, drop-append_seam}
use Rattle.bmc_shared.specs.declared.entry.Head.{Head}
use Rattle.bmc_shared.specs.declared.entry.Mark.{Mark}
use Rattle.bmc_shared.specs.Entries.{call_of, between, event_of, EntryLies}

-- what lies among the first bytes stays there
between_stays : (from to : ℕ) (xs ys : List ℕ) → from ≤ to → to ≤ length xs → between from to (xs ++ ys) ≡ between from to xs
between_stays from to xs ys rising within =
    ap (take (to - from)) (drop-append-le from xs ys (omega (arith, rising, within)))
    ∙ take-append-le (to - from) (drop from xs) ys (omega (arith, length-drop from xs, within, rising))

-- what was added lies behind them
between_added : (xs ys : List ℕ) → between (length xs) (length xs + length ys) (xs ++ ys) ≡ ys
between_added xs ys =
    ap (take (length xs + length ys - length xs)) (drop-append_seam xs ys) ∙ take_all (length xs + length ys - length xs) ys (omega arith)

-- bytes that were replaced by as many are these, whichever were there
pub whole : (old new : List ℕ) (n : ℕ) → n ≡ length old → length new ≡ length old → take n (new ++ drop (length new) old) ≡ new
whole old new n all same = ap (λ (m : ℕ). take m (new ++ drop (length new) old)) (all ∙ sym same) ∙ take-append_seam new (drop (length new) old)

-- the event of a mark stays
event_stays : (xs ys : List ℕ) (mark : Mark) → EntryLies (length xs) mark → event_of (xs ++ ys) mark ≡ event_of xs mark
event_stays xs ys mark lies =
    let request : between mark.request mark.reply (xs ++ ys) ≡ between mark.request mark.reply xs =
    between_stays mark.request mark.reply xs ys lies.request (omega (arith, lies.reply, lies.within)) in
    let reply : between mark.reply mark.end (xs ++ ys) ≡ between mark.reply mark.end xs = between_stays mark.reply mark.end xs ys lies.reply lies.within in
    λ i. record { seat = mark.seat; call = call_of mark.head (request i) (reply i) }

events_stay : (xs ys : List ℕ) (marks : List Mark) → All (EntryLies (length xs)) marks → map (event_of (xs ++ ys)) marks ≡ map (event_of xs) marks
events_stay xs ys [] all = refl
events_stay xs ys (mark ∷ marks) all =
    let first : event_of (xs ++ ys) mark ≡ event_of xs mark = event_stays xs ys mark (All-head (EntryLies (length xs)) mark marks all) in
    let rest : map (event_of (xs ++ ys)) marks ≡ map (event_of xs) marks = events_stay xs ys marks (All-tail (EntryLies (length xs)) mark marks all) in
    λ i. first i ∷ rest i

-- a mark lies among more bytes
lies_more : (n m : ℕ) (mark : Mark) → n ≤ m → EntryLies n mark → EntryLies m mark
lies_more n m mark more lies = record {
  request = lies.request;
  reply = lies.reply;
  within = omega (arith, lies.within, more);
  short_request = lies.short_request;
  short_reply = lies.short_reply;
}

all_lie : (xs ys : List ℕ) (marks : List Mark) → All (EntryLies (length xs)) marks → All (EntryLies (length (xs ++ ys))) marks
all_lie xs ys marks all k d below =
    let longer : length (xs ++ ys) ≡ length xs + length ys = length-append xs ys in
    lies_more (length xs) (length (xs ++ ys)) _ (omega (arith, longer)) (all k d below)

-- the mark of what is added behind the bytes
abbrev pub mark_behind : ℕ → Head → List ℕ → List ℕ → List ℕ → Mark
mark_behind seat head bytes request reply = record {
  seat = seat;
  head = head;
  request = length bytes;
  reply = length bytes + length request;
  end = length bytes + length request + length reply;
}

-- the event that is added is the last
pub events_gained : (seat : ℕ) (head : Head) (marks : List Mark) (bytes request reply : List ℕ) → All (EntryLies (length bytes)) marks
    → map (event_of ((bytes ++ request) ++ reply)) (marks ++ mark_behind seat head bytes request reply ∷ [])
    ≡ map (event_of bytes) marks ++ record { seat = seat; call = call_of head request reply } ∷ []
events_gained seat head marks bytes request reply all =
    let more : List ℕ = bytes ++ request in
    let longer : length more ≡ length bytes + length request = length-append bytes request in
    let mark : Mark = mark_behind seat head bytes request reply in
    let stay : map (event_of (more ++ reply)) marks ≡ map (event_of bytes) marks =
    events_stay more reply marks (all_lie bytes request marks all) ∙ events_stay bytes request marks all in
    let asked : between mark.request mark.reply (more ++ reply) ≡ request =
    between_stays mark.request mark.reply more reply (omega arith) (omega (arith, longer)) ∙ between_added bytes request in
    let told : between mark.reply mark.end (more ++ reply) ≡ reply =
    ap (λ (n : ℕ). between n (n + length reply) (more ++ reply)) (sym longer) ∙ between_added more reply in
    map-append (event_of (more ++ reply)) marks (mark ∷ []) ∙ (λ i. stay i ++ record { seat = seat; call = call_of head (asked i) (told i) } ∷ [])
