use Rattle.std.proofs.Common.{◌++◌, ◌∷◌, [], ◌∙◌, List, ℕ, ◌≤◌, length, ap, sym, subst, arith}
use Rattle.std.proofs.lemmas.List.{take_all, take-append-le, length-append}
use Rattle.wire_links.specs.Scripts.{most_kept}
use Rattle.wire_links.proofs.mem_link.MemLink.keep.Goals as goal

pub returns-then-len-lt-MOST_KEPT-clause-sent : goal.returns-then-len-lt-MOST_KEPT-clause-sent
returns-then-len-lt-MOST_KEPT-clause-sent c =
    let sent : List (List ℕ) = c.args.self.now.sent.items in
    let more : List (List ℕ) = c.args.frame.now ∷ [] in
    let short : length (sent ++ more) ≤ most_kept = subst (λ (n : ℕ). n ≤ most_kept) (sym (length-append sent more)) (omega arith) in
    c.push_reserved.ensures.items ∙ ap (λ (frame : List ℕ). sent ++ frame ∷ []) c.copy.ensures ∙ sym (take_all most_kept (sent ++ more) short)

pub returns-else-len-lt-MOST_KEPT-clause-sent : goal.returns-else-len-lt-MOST_KEPT-clause-sent
returns-else-len-lt-MOST_KEPT-clause-sent c =
    let sent : List (List ℕ) = c.args.self.now.sent.items in
    let more : List (List ℕ) = c.args.frame.now ∷ [] in
    sym (take-append-le most_kept sent more (omega arith) ∙ take_all most_kept sent (omega arith))
