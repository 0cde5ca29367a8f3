use Rattle.std.proofs.Common.{◌≡◌, List, reverse, length, drop, ap, ◌∙◌, arith}
use Rattle.std.proofs.lemmas.List.{length-reverse}
use Rattle.undo_plans.specs.declared.undo_request.Mark.{Mark}
use Rattle.undo_plans.specs.Requests.{request_at}
use Rattle.undo_plans.proofs.Marked.{all_counted, none_waits, turned, whole}
use Rattle.undo_plans.proofs.requests.Requests.reverse.Goals as goal

pub returns-clause-members : goal.returns-clause-members
returns-clause-members c =
    let marks : List Mark = c.self.inside.marks.items in
    let f = request_at c.self.inside.bytes.items in
    let all = all_counted f marks c.self.inside.counted c.self.invariant.there (ap (λ l. l.waiting) c.self.view_is ∙ c.requires) in
    let is : c.reverse.new.self ≡ reverse marks = c.reverse.ensures.after ∙ ap reverse c.as_mut_slice.ensures.value in
    turned f marks _ c.self.inside.counted all (whole c.self.inside.marks.len marks c.reverse.new.self _ (omega (arith, c.self.inside.marks.ok)) is) ∙ ap (λ l. reverse l.members) c.self.view_is

pub returns-clause-waiting : goal.returns-clause-waiting
returns-clause-waiting c =
    let marks : List Mark = c.self.inside.marks.items in
    let f = request_at c.self.inside.bytes.items in
    let all = all_counted f marks c.self.inside.counted c.self.invariant.there (ap (λ l. l.waiting) c.self.view_is ∙ c.requires) in
    let is : c.reverse.new.self ≡ reverse marks = c.reverse.ensures.after ∙ ap reverse c.as_mut_slice.ensures.value in
    let turned_round = whole c.self.inside.marks.len marks c.reverse.new.self (drop (length c.reverse.new.self) marks) (omega (arith, c.self.inside.marks.ok)) is in
    none_waits f _ c.self.inside.counted (omega (arith, all, length-reverse marks, ap (λ (xs : List Mark). length xs) turned_round))
