use Rattle.std.proofs.Common.{◌≡◌, ◌-◌, ◌++◌, ◌∷◌, [], ℕ, List, length, map, reverse, drop, arith, refl, sym, ap, subst, string_bytes}
use Rattle.std.specs.List.{AllZip, flat_map}
use Rattle.std.proofs.lemmas.List.{drop_all}
use Rattle.text_lines.specs.Cuts.{ended}
use Rattle.record_base.specs.declared.message.Asked.{Asked}
use Rattle.undo_plans.specs.Requests.{meant}
use Rattle.text_lines.specs.UndoText.{IsRequestLine, line_of}
use Rattle.text_lines.proofs.UndoLists.{Pushed, pushed_more}
use Rattle.text_lines.proofs.undo_text.push_requests.Goals.{After-loop-place}
use Rattle.text_lines.proofs.undo_text.push_requests.Goals as goal

pub loop-place-preserved : goal.loop-place-preserved
loop-place-preserved c =
    let got = rw c.unwrap-request.ensures at c.get.ensures.there in
    record {
      low = omega (arith, c.loop-place.invariant.low);
      pushed = pushed_more c.args.requests.now.members (c.loop-place.place - 1) c.loop-place.place (meant c.unwrap-request.result) (string_bytes c.args.text.now) (string_bytes c.loop-place.text) (string_bytes c.push_request.new.text)
          (omega (arith, c.loop-place-test.true)) got c.loop-place.invariant.pushed c.in_ok-push_request.ensures.text c.in_ok-push_request.ensures.lines;
    }

-- all lines are pushed once none is left
pushed_all : (c : After-loop-place) → Pushed c.args.requests.now.members 0 (string_bytes c.args.text.now) (string_bytes c.loop-place.text)
pushed_all c =
    let none : c.loop-place.place ≡ 0 = omega (arith, c.loop-place-test.false) in
    subst (λ (p : ℕ). Pushed c.args.requests.now.members p (string_bytes c.args.text.now) (string_bytes c.loop-place.text)) none c.loop-place.invariant.pushed

pub returns-clause-text : goal.returns-clause-text
returns-clause-text c = (pushed_all c).text

pub returns-clause-lines : goal.returns-clause-lines
returns-clause-lines c = (pushed_all c).each

pub returns-clause-few : goal.returns-clause-few
returns-clause-few c = omega (arith, c.len-place.ensures.value, c.len-place.ensures.few)

nothing_behind : (xs : List ℕ) → xs ≡ xs ++ []
nothing_behind [] = refl
nothing_behind (x ∷ xs) = ap (λ (l : List ℕ). x ∷ l) (nothing_behind xs)

-- and before the first, none is
pushed_none : (requests : List Asked) (place : ℕ) (text : List ℕ) → place ≡ length requests → Pushed requests place text text
pushed_none requests place text at =
    let none : [] ≡ drop place requests = sym (drop_all place requests (omega (arith, at))) in
    record {
      text = subst (λ (l : List Asked). text ≡ text ++ flat_map ended (map line_of (reverse l))) none (nothing_behind text);
      each = λ plain. subst (λ (l : List Asked). AllZip IsRequestLine (map line_of (reverse l)) (reverse l)) none tt;
    }

pub loop-place-init : goal.loop-place-init
loop-place-init c = record {
  low = omega (arith, c.len-place.ensures.value);
  pushed = pushed_none c.args.requests.now.members c.len-place.result (string_bytes c.args.text.now) c.len-place.ensures.value;
}
