use Rattle.std.proofs.Common.{rules, ◌≡◌, ◌<◌, ◌++◌, ◌∷◌, [], List, ℕ, length, map, take, Some, sym, ap, subst, arith, ◌∙◌}
use Rattle.std.specs.Prelude.{slice_get}
use Rattle.std.proofs.lemmas.List.{length-map, length-take-le}
use Rattle.undo_plans.specs.Steps.{most_steps}
use Rattle.undo_plans.specs.declared.undo_request.Head.{Head}
use Rattle.undo_plans.specs.declared.undo_request.Mark.{Mark}
use Rattle.undo_plans.specs.Requests.{request_at, AreLaid}
use Rattle.undo_plans.proofs.Lying.{members_stay, mark_behind, request_added, laid_with}
use Rattle.undo_plans.proofs.Marked.{still_counted, waits}
use Rattle.undo_plans.proofs.requests.Requests.prepare.Goals as goal

pub returns-clause-members : goal.returns-clause-members
returns-clause-members c =
    let bytes : List ℕ = c.self.inside.bytes.items in
    let marks : List Mark = c.self.inside.marks.items in
    let kept : ℕ = c.self.inside.kept in
    let body : List ℕ = c.parts-head.result.1.now in
    let mark : Mark = mark_behind c.parts-head.result.0 kept body in
    let written : c.extend_from_slice.new.self.items ≡ take kept bytes ++ body = search rules in
    let marked : c.push_reserved.new.self.items ≡ take c.self.inside.counted marks ++ mark ∷ [] = search rules in
    (λ i. map (request_at (written i)) (take c.self.inside.counted (marked i)))
    ∙ ap (map (request_at (take kept bytes ++ body))) (still_counted marks c.self.inside.counted mark c.self.invariant.there)
    ∙ members_stay kept bytes body (take c.self.inside.counted marks) c.self.invariant.within c.self.invariant.each
    ∙ ap (λ l. l.members) c.self.view_is

pub returns-clause-waiting : goal.returns-clause-waiting
returns-clause-waiting c =
    let bytes : List ℕ = c.self.inside.bytes.items in
    let marks : List Mark = c.self.inside.marks.items in
    let kept : ℕ = c.self.inside.kept in
    let body : List ℕ = c.parts-head.result.1.now in
    let mark : Mark = mark_behind c.parts-head.result.0 kept body in
    let written : c.extend_from_slice.new.self.items ≡ take kept bytes ++ body = search rules in
    let marked : c.push_reserved.new.self.items ≡ take c.self.inside.counted marks ++ mark ∷ [] = search rules in
    (λ i. slice_get (map (request_at (written i)) (marked i)) c.self.inside.counted)
    ∙ waits (request_at (take kept bytes ++ body)) marks c.self.inside.counted mark c.self.invariant.there
    ∙ ap (λ asked. Some asked) (request_added c.parts-head.result.0 kept bytes body c.self.invariant.within ∙ c.parts-head.ensures.parts)

pub invariant_of-self : goal.invariant_of-self
invariant_of-self c =
    let bytes : List ℕ = c.self.inside.bytes.items in
    let marks : List Mark = c.self.inside.marks.items in
    let counted : ℕ = c.self.inside.counted in
    let head : Head = c.parts-head.result.0 in
    let body : List ℕ = c.parts-head.result.1.now in
    let written : c.extend_from_slice.new.self.items ≡ take c.self.inside.kept bytes ++ body = search rules in
    let marked : c.push_reserved.new.self.items ≡ take counted marks ++ mark_behind head c.self.inside.kept body ∷ [] = search rules in
    let members : length (map (request_at bytes) (take counted marks)) ≡ length c.args.self.now.members = ap (λ l. length l.members) c.self.view_is in
    let few : counted < most_steps = omega (arith, c.requires.few, members, length-map (take counted marks) (request_at bytes), length-take-le counted marks c.self.invariant.there) in
    subst (λ (x : List Mark × List ℕ). AreLaid x.0 counted c.self.inside.kept x.1) (λ i. (sym marked i, sym written i))
    (laid_with marks counted c.self.inside.kept bytes body head c.self.invariant few c.parts-head.ensures.fits)
