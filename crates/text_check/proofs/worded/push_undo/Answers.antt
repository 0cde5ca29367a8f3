use Rattle.std.proofs.Common.{◌≡◌, ◌-◌, ℕ, suc, List, [], arith, drop, refl, reverse, string_bytes, subst, sym, take}
use Rattle.std.specs.List.{enumerate_from}
use Rattle.std.proofs.lemmas.List.{drop_all}
use Rattle.record_base.specs.declared.message.Asked.{Asked}
use Rattle.undo_plans.specs.Requests.{meant}
use Rattle.record_words.specs.RequestWords.{undo_words_of}
use Rattle.text_check.specs.Telling.{Tells}
use Rattle.text_check.specs.Worded.{IsUndoLine, undo_line}
use Rattle.text_check.proofs.Lined.{Say, few_taken, tells_before, tells_none}
use Rattle.text_check.proofs.worded.push_undo.Goals as goal

pub loop-place-init : goal.loop-place-init
loop-place-init c =
    let items = take c.args.count (enumerate_from 0 c.args.requests.now.members) in
    let none : drop c.args.count items ≡ [] = drop_all c.args.count items (few_taken c.args.count (enumerate_from 0 c.args.requests.now.members)) in (
      omega arith,
      omega (arith, c.requires),
      subst (λ (l : List (ℕ × Asked)). Tells (Say (IsUndoLine c.args.name.now) (reverse l)) (string_bytes c.args.text.now) (string_bytes c.args.text.now)) (sym none)
          (tells_none (IsUndoLine c.args.name.now) (string_bytes c.args.text.now)),
    )

pub loop-place-preserved : goal.loop-place-preserved
loop-place-preserved c =
    let got = rw c.unwrap-request.ensures at c.get.ensures.there in
    let place = c.loop-place.place - 1 in
    let next : c.loop-place.place ≡ suc place = omega (arith, c.loop-place-test.true) in
    let members = c.args.requests.now.members in
    let asked = meant c.unwrap-request.result in
    let words = undo_words_of c.undo_in_words-words.result in
    let line = undo_line c.args.name.now place words in
    let so = subst (λ (n : ℕ). Tells (Say (IsUndoLine c.args.name.now) (reverse (drop n (take c.args.count (enumerate_from 0 members))))) (string_bytes c.args.text.now) (string_bytes c.loop-place.text))
    next c.loop-place.invariant.2 in (
      omega (arith, c.loop-place.invariant.0),
      omega (arith, c.loop-place.invariant.1),
      tells_before (IsUndoLine c.args.name.now) members c.args.count place asked line (string_bytes c.args.text.now) (string_bytes c.loop-place.text) (string_bytes c.push_back.new.text)
          (omega (arith, c.loop-place.invariant.0, c.loop-place-test.true)) got so (record { words = words; said = c.undo_in_words-words.ensures; spelt = refl }) c.in_ok-push_back.ensures,
    )

pub returns : goal.returns
returns c =
    let none : c.loop-place.place ≡ 0 = omega (arith, c.loop-place-test.false) in
    subst (λ (n : ℕ). Tells (Say (IsUndoLine c.args.name.now) (reverse (drop n (take c.args.count (enumerate_from 0 c.args.requests.now.members))))) (string_bytes c.args.text.now) (string_bytes c.loop-place.text))
    none c.loop-place.invariant.2
