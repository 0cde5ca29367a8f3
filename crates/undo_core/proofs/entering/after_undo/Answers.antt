use Rattle.std.proofs.Common.{rules, ◌≡◌, ◌==◌, ◌+◌, length, Some, None, true, false, sym, ◌∙◌, arith}
use Rattle.std.specs.Prelude.{slice_get}
use Rattle.bios_attr.specs.EntryParts.{request_at}
use Rattle.undo_plans.specs.Requests.{meant}
use Rattle.two_wire.specs.Codes.{success}
use Rattle.model_bus.specs.Answered.{Answered}
use Rattle.undo_core.proofs.Replies.{undo_goes_on, undo_ends, undo_refused}
use Rattle.undo_core.specs.declared.stage.Stage.TheVariants.{Opened, AtRefused}
use Rattle.undo_core.specs.declared.stage.Task.TheVariants.{Undoes}
use Rattle.undo_core.proofs.Begun.{none_replied}
use Rattle.undo_core.proofs.Replied as replied
use Rattle.undo_core.proofs.Placed.{undo_placed}
use Rattle.undo_core.proofs.entering.after_undo.Goals as goal

pub returns-in-Some-clause-after : goal.returns-in-Some-clause-after
returns-in-Some-clause-after c plan stopped = replied.undid plan stopped c.args.step c.args.parts c.args.reply c.args.requests.now c.args.requests.now (AtRefused c.args.step c.in-Some.code) (λ names first rest part replies is many.
    let a : Answered = record { code = c.args.reply.code; body = c.args.reply.body.now } in
    let there : slice_get c.args.requests.now.members c.args.step ≡ Some (meant c.unwrap-member.result) = rw c.unwrap-member.ensures at c.get.ensures.there in
    let same : c.args.reply.code ≡ c.in-Some.code = search rules in
    let fails : (c.args.reply.code == success) ≡ false = search rules in
    undo_refused names plan stopped c.args.requests.now replies c.args.step c.args.parts a (meant c.unwrap-member.result) c.in-Some.code first rest part there is same fails)

pub returns-in-Some-request-clause-after : goal.returns-in-Some-request-clause-after
returns-in-Some-request-clause-after c plan stopped = replied.undid plan stopped c.args.step c.args.parts c.args.reply c.args.requests.now c.args.requests.now (Opened true (Undoes c.args.step) (c.args.parts + 1) c.in-Some-request.asked) (λ names first rest part replies is many.
    let a : Answered = record { code = c.args.reply.code; body = c.args.reply.body.now } in
    let there : slice_get c.args.requests.now.members c.args.step ≡ Some (meant c.unwrap-member.result) = rw c.unwrap-member.ensures at c.get.ensures.there in
    let done : c.args.reply.code ≡ 0 = search rules in
    let made : request_at (meant c.unwrap-member.result) (c.args.parts + 1) ≡ Some c.in-Some-request.asked = sym c.request.ensures.request ∙ c.in-Some-request.is in
    undo_goes_on names plan stopped c.args.requests.now replies c.args.step c.args.parts a (meant c.unwrap-member.result) c.in-Some-request.asked first rest part there is many done made)

pub returns-in-None-clause-after : goal.returns-in-None-clause-after
returns-in-None-clause-after c plan stopped = replied.undid plan stopped c.args.step c.args.parts c.args.reply c.args.requests.now c.args.requests.now c.undo_stage.result (λ names first rest part replies is many.
    let a : Answered = record { code = c.args.reply.code; body = c.args.reply.body.now } in
    let there : slice_get c.args.requests.now.members c.args.step ≡ Some (meant c.unwrap-member.result) = rw c.unwrap-member.ensures at c.get.ensures.there in
    let done : c.args.reply.code ≡ 0 = search rules in
    let made : request_at (meant c.unwrap-member.result) (c.args.parts + 1) ≡ None = sym c.request.ensures.request ∙ c.in-None.is in
    undo_ends names plan stopped c.args.requests.now replies c.args.step c.args.parts a (meant c.unwrap-member.result) c.undo_stage.result first rest part there is many done made
    (c.undo_stage.ensures.stage names plan replies))

pub returns-in-Some-clause-left : goal.returns-in-Some-clause-left
returns-in-Some-clause-left c plan any = omega (arith, c.requires.parts)

pub returns-in-Some-request-clause-left : goal.returns-in-Some-request-clause-left
returns-in-Some-request-clause-left c plan any = omega (arith, c.requires.parts)

pub returns-in-None-clause-left : goal.returns-in-None-clause-left
returns-in-None-clause-left c plan any = omega (arith, c.requires.parts, c.undo_stage.ensures.left (length plan) (length any.members))

pub returns-in-None-clause-free : goal.returns-in-None-clause-free
returns-in-None-clause-free c = none_replied c.undo_stage.result c.undo_stage.ensures.first

pub returns-in-Some-request-clause-placed : goal.returns-in-Some-request-clause-placed
returns-in-Some-request-clause-placed c plan =
    let there : slice_get c.args.requests.now.members c.args.step ≡ Some (meant c.unwrap-member.result) = rw c.unwrap-member.ensures at c.get.ensures.there in
    let made : request_at (meant c.unwrap-member.result) (c.args.parts + 1) ≡ Some c.in-Some-request.asked = sym c.request.ensures.request ∙ c.in-Some-request.is in
    undo_placed plan c.args.requests.now c.args.step (c.args.parts + 1) (meant c.unwrap-member.result) c.in-Some-request.asked there made

pub returns-in-Some-clause-placed : goal.returns-in-Some-clause-placed
returns-in-Some-clause-placed c plan = omega (arith, c.requires.step, c.len-members.ensures.value, c.len-members.ensures.few)
