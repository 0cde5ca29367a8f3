use Rattle.std.proofs.Common.{rules, ◌≡◌, ◌++◌, length, ap, ◌∙◌, arith}
use Rattle.std.specs.Option.{option_to_list}
use Rattle.undo_plans.specs.Requests.{request_at}
use Rattle.undo_plans.proofs.Marked.{all_count, none_waits}
use Rattle.undo_plans.proofs.requests.Requests.keep.Goals as goal

pub returns-clause-members : goal.returns-clause-members
returns-clause-members c =
    all_count (request_at c.self.inside.bytes.items) c.self.inside.marks.items c.self.inside.counted c.len-self-inside.result c.self.invariant.there c.self.invariant.one (search rules)
    ∙ ap (λ l. l.members ++ option_to_list l.waiting) c.self.view_is

pub returns-clause-waiting : goal.returns-clause-waiting
returns-clause-waiting c =
    let all : c.len-self-inside.result ≡ length c.self.inside.marks.items = search rules in
    none_waits (request_at c.self.inside.bytes.items) c.self.inside.marks.items c.len-self-inside.result (omega (arith, all))
