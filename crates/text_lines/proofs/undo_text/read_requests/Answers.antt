use Rattle.std.proofs.Common.{◌≡◌, ◌+◌, ◌<◌, ◌++◌, ◌==◌, ◌∷◌, [], ℕ, true, inr, List, length, refl, sym, ◌∙◌, ap, subst, arith, rules}
use Rattle.std.proofs.lemmas.Bool.{eqb-true}
use Rattle.std.proofs.lemmas.List.{length-append}
use Rattle.record_base.specs.declared.message.Asked.{Asked}
use Rattle.text_lines.specs.Versions.{head_length}
use Rattle.text_lines.specs.UndoText.{AreLinesOf}
use Rattle.text_lines.proofs.UndoLists.{Begun, begun_more, begun_bad, no_request, past, not_empty}
use Rattle.text_lines.proofs.undo_text.read_requests.Goals as goal

pub returns-then-len-eq-MOST_REQUESTS-clause-fault : goal.returns-then-len-eq-MOST_REQUESTS-clause-fault
returns-then-len-eq-MOST_REQUESTS-clause-fault c =
    let first : c.head_lines-first.result + 1 ≡ head_length c.args.version + 1 = ap (λ k. k + 1) c.head_lines-first.ensures in
    let n = c.head_lines-first.result + 1 + c.len.result in
    let some = not_empty c.loop-rest.rest.now c.is_empty.result c.loop-rest-test.true c.is_empty.ensures in
    inr (
      n,
      refl,
      begun_bad c.args.version c.args.text.now c.loop-rest.requests.members c.loop-rest.rest.now n c.loop-rest.invariant.1 (omega (arith, first, c.len.ensures.value)) (omega (arith, c.loop-rest.invariant.2)) some
          (past c.args.version n c.loop-rest.rest.now (omega (arith, first, c.len.ensures.value, c.len-in-loop-rest.ensures.value, c.if-len-eq-MOST_REQUESTS.true))),
    )

pub returns-in_default-found-clause-fault : goal.returns-in_default-found-clause-fault
returns-in_default-found-clause-fault c =
    let first : c.head_lines-first.result + 1 ≡ head_length c.args.version + 1 = ap (λ k. k + 1) c.head_lines-first.ensures in
    let n = c.head_lines-first.result + 1 + c.len.result in
    let some = not_empty c.loop-rest.rest.now c.is_empty.result c.loop-rest-test.true c.is_empty.ensures in
    let none = rw c.in_default-found.is at c.in-Ok-add_first.ensures.lines in
    inr (
      n,
      refl,
      begun_bad c.args.version c.args.text.now c.loop-rest.requests.members c.loop-rest.rest.now n c.loop-rest.invariant.1 (omega (arith, first, c.len.ensures.value)) (omega (arith, c.loop-rest.invariant.2)) some
          (no_request c.args.version n c.loop-rest.rest.now (omega (arith, first)) none),
    )

pub loop-rest-preserved : goal.loop-rest-preserved
loop-rest-preserved c =
    let found = rw c.in-Some.is at c.in-Ok-add_first.ensures.lines in
    let longer : length c.add_first.new.requests.members ≡ length c.loop-rest.requests.members + 1 = ap (λ (l : List Asked). length l) found.1 ∙ length-append c.loop-rest.requests.members (found.0 ∷ []) in (
      search rules,
      subst (λ (l : List Asked). Begun c.args.text.now l c.in-Some.behind.now) (sym found.1) (begun_more c.args.text.now c.loop-rest.requests.members c.loop-rest.rest.now _ found.0 c.loop-rest.invariant.1 found.2),
      omega (arith, longer, c.loop-rest.invariant.2, c.if-len-eq-MOST_REQUESTS.false, c.len-in-loop-rest.ensures.value),
      c.add_first.ensures.none,
    )

nil_behind : (xs : List ℕ) → xs ++ [] ≡ xs
nil_behind [] = refl
nil_behind (x ∷ xs) = ap (λ (ys : List ℕ). x ∷ ys) (nil_behind xs)

-- a text with nothing behind its lines is those lines
all_lines : (text : List ℕ) (requests : List Asked) (rest : List ℕ) → Begun text requests rest → (length rest == 0) ≡ true → AreLinesOf text requests
all_lines text requests [] begun empty = record {
  lines = begun.lines;
  spelt = begun.spelt ∙ nil_behind _;
  each = begun.each;
}
all_lines text requests (b ∷ rest) begun empty = let none : length (b ∷ rest) ≡ 0 = eqb-true _ _ empty in absurd (omega (arith, none))

pub returns : goal.returns
returns c = record {
  lines = all_lines c.args.text.now c.loop-rest.requests.members c.loop-rest.rest.now c.loop-rest.invariant.1 (sym c.is_empty.ensures ∙ c.loop-rest-test.false);
  few = c.loop-rest.invariant.2;
  waiting = c.loop-rest.invariant.3;
  fault = tt;
}

-- what is behind a line is shorter than the text
shorter : (line rest behind : List ℕ) (feed : ℕ) → rest ≡ line ++ feed ∷ behind → length behind < length rest
shorter line rest behind feed is = let size = ap (λ (xs : List ℕ). length xs) is in let both = length-append line (feed ∷ behind) in omega (arith, size, both)

pub loop-rest-smaller : goal.loop-rest-smaller
loop-rest-smaller c =
    let found = rw c.in-Some.is at c.in-Ok-add_first.ensures.lines in
    shorter found.2.0 c.loop-rest.rest.now c.in-Some.behind.now _ found.2.1
