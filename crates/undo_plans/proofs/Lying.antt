-- Requests whose data lie one behind another.
use Rattle.std.specs.Prelude.{All, map, slice_range}
use Rattle.std.proofs.Common.{◌<◌, zero, suc, get_or}
use Rattle.std.proofs.Common.{◌≡◌, ◌≤◌, ℕ, List, [], ◌∷◌, ◌+◌, ◌-◌, ◌++◌, length, take, drop, refl, sym, ◌∙◌, ap, subst, arith}
use Rattle.std.proofs.lemmas.List.{length-append, length-drop, length-take-le, take_all, take-append-le, take-append-drop, drop-append-le}
use Rattle.std.proofs.lemmas.List.Elements.{All-head, All-tail, All-append}
use Rattle.std.proofs.Math.Seq.{drop-append_seam}
use Rattle.undo_plans.specs.declared.undo_request.Head.{Head}
use Rattle.undo_plans.specs.declared.undo_request.Mark.{Mark}
use Rattle.undo_plans.specs.Fitting.{FitsMessages}
use Rattle.undo_plans.specs.Requests.{request_of, request_at, RequestLies, AreLaid}
use Rattle.undo_plans.specs.Steps.{most_steps}
use Rattle.undo_plans.proofs.Marked.{still_counted}

-- what lies among the first bytes stays there
range_stays : (from to : ℕ) (xs ys : List ℕ) → from ≤ to → to ≤ length xs → slice_range (xs ++ ys) from to ≡ slice_range xs from to
range_stays from to xs ys rising within =
    ap (take (to - from)) (drop-append-le from xs ys (omega (arith, rising, within)))
    ∙ take-append-le (to - from) (drop from xs) ys (omega (arith, length-drop from xs, within, rising))

-- what was added lies behind them
range_added : (xs ys : List ℕ) → slice_range (xs ++ ys) (length xs) (length xs + length ys) ≡ ys
range_added xs ys =
    ap (take (length xs + length ys - length xs)) (drop-append_seam xs ys) ∙ take_all (length xs + length ys - length xs) ys (omega arith)

-- what lies among the first bytes stays there while others take the place of those behind
range_kept : (from to kept : ℕ) (xs ys : List ℕ) → from ≤ to → to ≤ kept → kept ≤ length xs → slice_range (take kept xs ++ ys) from to ≡ slice_range xs from to
range_kept from to kept xs ys rising within there =
    let short : length (take kept xs) ≡ kept = length-take-le kept xs there in
    range_stays from to (take kept xs) ys rising (omega (arith, short, within))
    ∙ sym (range_stays from to (take kept xs) (drop kept xs) rising (omega (arith, short, within)))
    ∙ ap (λ (bytes : List ℕ). slice_range bytes from to) (take-append-drop kept xs)

-- the requests that count stay
pub members_stay : (kept : ℕ) (xs ys : List ℕ) (marks : List Mark) → kept ≤ length xs → All (RequestLies (take kept xs)) marks
    → map (request_at (take kept xs ++ ys)) marks ≡ map (request_at xs) marks
members_stay kept xs ys [] there all = refl
members_stay kept xs ys (mark ∷ marks) there all =
    let lies = All-head (RequestLies (take kept xs)) mark marks all in
    let within : mark.end ≤ kept = omega (arith, lies.within, length-take-le kept xs there) in
    let first : request_at (take kept xs ++ ys) mark ≡ request_at xs mark =
    ap (request_of mark.head) (range_kept mark.start mark.end kept xs ys lies.rising within there) in
    let rest = members_stay kept xs ys marks there (All-tail (RequestLies (take kept xs)) mark marks all) in
    λ i. first i ∷ rest i

-- the mark of data behind the first bytes
abbrev pub mark_behind : Head → ℕ → List ℕ → Mark
mark_behind head kept body = record { head = head; start = kept; end = kept + length body }

-- the data that were added are the request's
pub request_added : (head : Head) (kept : ℕ) (xs body : List ℕ) → kept ≤ length xs → request_at (take kept xs ++ body) (mark_behind head kept body) ≡ request_of head body
request_added head kept xs body there =
    let short : length (take kept xs) ≡ kept = length-take-le kept xs there in
    ap (request_of head) (subst (λ (n : ℕ). slice_range (take kept xs ++ body) n (n + length body) ≡ body) short (range_added (take kept xs) body))

-- ---- the marks of a list

-- a mark lies among bytes still while others are put behind them
still_lies : (xs ys : List ℕ) (mark : Mark) → RequestLies xs mark → RequestLies (xs ++ ys) mark
still_lies xs ys mark lies = record {
  rising = lies.rising;
  within = omega (arith, lies.within, length-append xs ys);
  short = subst FitsMessages (ap (request_of mark.head) (sym (range_stays mark.start mark.end xs ys lies.rising lies.within))) lies.short;
}

-- so do all of them
all_still : (xs ys : List ℕ) (marks : List Mark) → All (RequestLies xs) marks → All (RequestLies (xs ++ ys)) marks
all_still xs ys marks all i d below = still_lies xs ys (get_or marks i d) (all i d below)

-- the mark of data that were added
added_lies : (head : Head) (kept : ℕ) (xs body : List ℕ) → kept ≤ length xs → FitsMessages (request_of head body) → RequestLies (take kept xs ++ body) (mark_behind head kept body)
added_lies head kept xs body there fits = record {
  rising = omega arith;
  within = omega (arith, length-append (take kept xs) body, length-take-le kept xs there);
  short = subst FitsMessages (sym (request_added head kept xs body there)) fits;
}

-- all of one is that one
alone : (P : Mark → Type 0) (mark : Mark) → P mark → All P (mark ∷ [])
alone P mark is zero d below = is
alone P mark is (suc i) d below = absurd (omega (arith, below))

-- the marks lie as they should once a request waits
pub laid_with : (marks : List Mark) (counted kept : ℕ) (xs body : List ℕ) (head : Head) → AreLaid marks counted kept xs → counted < most_steps → FitsMessages (request_of head body)
    → AreLaid (take counted marks ++ mark_behind head kept body ∷ []) counted kept (take kept xs ++ body)
laid_with marks counted kept xs body head laid few fits =
    let mark = mark_behind head kept body in
    let long : length (take counted marks ++ mark ∷ []) ≡ counted + 1 = length-append (take counted marks) (mark ∷ []) ∙ ap (λ (n : ℕ). n + 1) (length-take-le counted marks laid.there) in
    let bytes : take kept (take kept xs ++ body) ≡ take kept xs =
    take-append-le kept (take kept xs) body (omega (arith, length-take-le kept xs laid.within)) ∙ take_all kept (take kept xs) (omega (arith, length-take-le kept xs laid.within)) in
    record {
      there = omega (arith, long);
      one = omega (arith, long);
      few = omega (arith, long, few);
      within = omega (arith, length-append (take kept xs) body, length-take-le kept xs laid.within);
      each = subst (λ (ys : List ℕ). All (RequestLies ys) (take counted (take counted marks ++ mark ∷ []))) (sym bytes)
          (subst (All (RequestLies (take kept xs))) (sym (still_counted marks counted mark laid.there)) laid.each);
      all = All-append (RequestLies (take kept xs ++ body)) (take counted marks) (mark ∷ []) (all_still (take kept xs) body (take counted marks) laid.each)
          (alone (RequestLies (take kept xs ++ body)) mark (added_lies head kept xs body laid.within fits));
    }
