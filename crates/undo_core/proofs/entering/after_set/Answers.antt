use Rattle.std.proofs.Common.{rules, ◌≡◌, ◌+◌, ℕ, drop, Some, None, true, sym, ◌∙◌, ap, subst, add-one, arith}
use Rattle.std.specs.Prelude.{slice_get}
use Rattle.std.proofs.lemmas.Option.{same_Some}
use Rattle.record_base.specs.declared.op.Op.{Op}
use Rattle.bios_attr.specs.EntryParts.{request_at}
use Rattle.record_kinds.specs.Series.{set_whole}
use Rattle.model_bus.specs.Answered.{Answered}
use Rattle.model_undo.specs.Machine as machine
use Rattle.undo_core.specs.Shown.{words_of, backs, IsStage}
use Rattle.undo_core.specs.Room.{HasRoom}
use Rattle.undo_core.proofs.Backs.{one_kept}
use Rattle.undo_core.proofs.Going.{next_sent, not_yet, acknowledged}
use Rattle.undo_core.proofs.Replies.{set_goes_on, set_ends, waited}
use Rattle.undo_core.specs.declared.stage.Stage.TheVariants.{Opened}
use Rattle.undo_core.specs.declared.stage.Task.TheVariants.{Sets}
use Rattle.undo_core.proofs.Replied as replied
use Rattle.undo_core.proofs.Begun.{is_there, none_replied}
use Rattle.undo_core.proofs.Placed.{set_placed}
use Rattle.undo_core.proofs.entering.after_set.Goals as goal

pub returns-in-Some-clause-after : goal.returns-in-Some-clause-after
returns-in-Some-clause-after c any = replied.set_refused c.args.steps.now c.args.stopped c.args.step c.args.parts c.args.reply c.args.requests.now c.in-Some.code any (search rules) (search rules)

pub returns-in-Some-set_next-clause-after : goal.returns-in-Some-set_next-clause-after
returns-in-Some-set_next-clause-after c = replied.set c.args.steps.now c.args.stopped c.args.step c.args.parts c.args.reply c.args.requests.now c.args.requests.now (Opened true (Sets c.args.step) (c.args.parts + 1) c.in-Some-set_next.asked)
    (λ names op back part replies there waits many.
    let a : Answered = record { code = c.args.reply.code; body = c.args.reply.body.now } in
    let is_op : c.unwrap-op.result ≡ op = same_Some c.unwrap-op.result op (sym c.unwrap-op.ensures ∙ c.get.ensures ∙ there) in
    let done : c.args.reply.code ≡ 0 = search rules in
    let made : request_at (set_whole op) (c.args.parts + 1) ≡ Some c.in-Some-set_next.asked =
    ap (λ (o : Op). request_at (set_whole o) (c.args.parts + 1)) (sym is_op) ∙ sym c.set_next.ensures ∙ c.in-Some-set_next.is in
    set_goes_on names c.args.steps.now c.args.stopped c.args.requests.now replies c.args.step c.args.parts a op back c.in-Some-set_next.asked part there waits many done made)
    (λ names op back part there waits many.
    let a : Answered = record { code = c.args.reply.code; body = c.args.reply.body.now } in
    let is_op : c.unwrap-op.result ≡ op = same_Some c.unwrap-op.result op (sym c.unwrap-op.ensures ∙ c.get.ensures ∙ there) in
    let done : c.args.reply.code ≡ 0 = search rules in
    let made : request_at (set_whole op) (c.args.parts + 1) ≡ Some c.in-Some-set_next.asked =
    ap (λ (o : Op). request_at (set_whole o) (c.args.parts + 1)) (sym is_op) ∙ sym c.set_next.ensures ∙ c.in-Some-set_next.is in
    not_yet names a c.args.step op back part (backs c.args.requests.now.members) c.in-Some-set_next.asked _ done (next_sent names (set_whole op) part.before a.body c.args.parts many) made)

pub returns-in-None-clause-after : goal.returns-in-None-clause-after
returns-in-None-clause-after c = replied.set c.args.steps.now c.args.stopped c.args.step c.args.parts c.args.reply c.args.requests.now c.keep.new.self c.step_stage.result
    (λ names op back part replies there waits many.
    let a : Answered = record { code = c.args.reply.code; body = c.args.reply.body.now } in
    let is_op : c.unwrap-op.result ≡ op = same_Some c.unwrap-op.result op (sym c.unwrap-op.ensures ∙ c.get.ensures ∙ there) in
    let done : c.args.reply.code ≡ 0 = search rules in
    let made : request_at (set_whole op) (c.args.parts + 1) ≡ None =
    ap (λ (o : Op). request_at (set_whole o) (c.args.parts + 1)) (sym is_op) ∙ sym c.set_next.ensures ∙ c.in-None.is in
    set_ends names c.args.steps.now c.args.stopped c.keep.new.self replies c.args.step c.args.parts a op back c.step_stage.result part many done made
    (subst (λ (n : ℕ). IsStage names c.args.steps.now c.keep.new.self replies c.step_stage.result (machine.next_stage (words_of names) c.args.stopped n (slice_get c.args.steps.now n))) (add-one c.args.step)
    (c.step_stage.ensures.stage names c.keep.new.self replies)))
    (λ names op back part there waits many.
    let a : Answered = record { code = c.args.reply.code; body = c.args.reply.body.now } in
    let is_op : c.unwrap-op.result ≡ op = same_Some c.unwrap-op.result op (sym c.unwrap-op.ensures ∙ c.get.ensures ∙ there) in
    let done : c.args.reply.code ≡ 0 = search rules in
    let made : request_at (set_whole op) (c.args.parts + 1) ≡ None =
    ap (λ (o : Op). request_at (set_whole o) (c.args.parts + 1)) (sym is_op) ∙ sym c.set_next.ensures ∙ c.in-None.is in
    acknowledged names a c.args.step op back part (backs c.args.requests.now.members) _ done (next_sent names (set_whole op) part.before a.body c.args.parts many) made
    ∙ waited c.args.requests.now.members c.args.requests.now.waiting (set_whole back) waits ∙ ap backs (sym c.keep.ensures.members))

pub returns-in-None-clause-room : goal.returns-in-None-clause-room
returns-in-None-clause-room c =
    c.step_stage.ensures.room c.keep.new.self
    (subst (λ (n : ℕ). HasRoom (drop n c.args.steps.now) c.keep.new.self) (sym (add-one c.args.step)) (record {
      places = omega (arith, c.requires.room.places, c.keep.ensures.places);
      room = omega (arith, c.requires.room.room, c.keep.ensures.room);
    }))

pub returns-in-Some-clause-left : goal.returns-in-Some-clause-left
returns-in-Some-clause-left c = omega (arith, c.requires.step, c.requires.parts)

pub returns-in-Some-set_next-clause-left : goal.returns-in-Some-set_next-clause-left
returns-in-Some-set_next-clause-left c = omega (arith, c.requires.step, c.requires.parts)

pub returns-in-None-clause-left : goal.returns-in-None-clause-left
returns-in-None-clause-left c =
    let one = one_kept c.args.requests.now.members c.keep.new.self.members c.args.requests.now.waiting c.keep.ensures.members in
    omega (arith, c.requires.step, c.requires.parts, c.step_stage.ensures.left c.keep.new.self, one)

pub returns-in-None-clause-few : goal.returns-in-None-clause-few
returns-in-None-clause-few c =
    let one = one_kept c.args.requests.now.members c.keep.new.self.members c.args.requests.now.waiting c.keep.ensures.members in
    omega (arith, c.requires.few, c.step_stage.ensures.few, one)

pub unwrap-op-requires : goal.unwrap-op-requires
unwrap-op-requires c = is_there c.args.steps.now c.args.step c.get.result c.get.ensures c.requires.step

pub returns-in-Some-clause-few : goal.returns-in-Some-clause-few
returns-in-Some-clause-few c = omega (arith, c.requires.few, c.requires.step, c.len-steps.ensures)

pub returns-in-Some-clause-room : goal.returns-in-Some-clause-room
returns-in-Some-clause-room c = record { places = omega arith; room = omega arith }

pub returns-in-Some-set_next-clause-room : goal.returns-in-Some-set_next-clause-room
returns-in-Some-set_next-clause-room c = c.requires.room

pub returns-in-Some-set_next-clause-planned : goal.returns-in-Some-set_next-clause-planned
returns-in-Some-set_next-clause-planned c = c.requires.step

pub returns-in-None-clause-free : goal.returns-in-None-clause-free
returns-in-None-clause-free c = none_replied c.step_stage.result c.step_stage.ensures.first

pub step_stage-requires : goal.step_stage-requires
step_stage-requires c = omega (arith, c.requires.step)

pub overflow_add-step : goal.overflow_add-step
overflow_add-step c = omega (arith, c.requires.step, c.len-steps.ensures, c.len-steps.type_inv)

pub returns-in-Some-set_next-clause-placed : goal.returns-in-Some-set_next-clause-placed
returns-in-Some-set_next-clause-placed c =
    let there : slice_get c.args.steps.now c.args.step ≡ Some c.unwrap-op.result = sym c.get.ensures ∙ c.unwrap-op.ensures in
    let made : request_at (set_whole c.unwrap-op.result) (c.args.parts + 1) ≡ Some c.in-Some-set_next.asked = sym c.set_next.ensures ∙ c.in-Some-set_next.is in
    set_placed c.args.steps.now c.args.requests.now c.args.step (c.args.parts + 1) c.unwrap-op.result c.in-Some-set_next.asked there made c.requires.waits

pub returns-in-None-clause-placed : goal.returns-in-None-clause-placed
returns-in-None-clause-placed c = c.step_stage.ensures.placed c.keep.new.self
