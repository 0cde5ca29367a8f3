use Rattle.std.proofs.Common.{rules, ◌≡◌, Some, None, true, false, refl, sym, ◌∙◌, ap, subst, arith}
use Rattle.std.specs.Prelude.{slice_get}
use Rattle.std.proofs.lemmas.Option.{same_Some}
use Rattle.record_base.specs.declared.op.Op.{Op}
use Rattle.bios_attr.specs.EntryParts.{first_request}
use Rattle.record_kinds.specs.Limits.{set_asked, inverse}
use Rattle.record_kinds.specs.Series.{set_whole}
use Rattle.model_undo.specs.Machine as machine
use Rattle.model_undo.specs.declared.phase.Why.TheVariants.{Stop, NotRestorable}
use Rattle.undo_core.specs.declared.stage.Stage.TheVariants.{Opened, AtHalt}
use Rattle.undo_core.specs.declared.stage.Task.TheVariants.{Sets}
use Rattle.undo_core.specs.Shown.{words_of, own, IsStage}
use Rattle.undo_core.specs.Room.{most_data}
use Rattle.undo_core.proofs.Rooms.{begins_with, same_kind, place_for, bytes_for_one, room_left}
use Rattle.undo_core.proofs.ShortValues.{short_undo}
use Rattle.undo_core.proofs.Begun.{is_there}
use Rattle.undo_plans.proofs.FirstRequest.{begins_at}
use Rattle.bios_attr.specs.EntryParts.{request_at}
use Rattle.std.specs.Prelude.{IsSome}
use Rattle.undo_core.proofs.Placed.{set_placed}
use Rattle.undo_core.proofs.getting.got_stage.Goals as goal

pub returns-in_default-clause-stage : goal.returns-in_default-clause-stage
returns-in_default-clause-stage c names op replies there =
    let is_op : c.unwrap-op.result ≡ op = same_Some c.unwrap-op.result op (sym c.unwrap-op.ensures ∙ c.get.ensures ∙ there) in
    let none : inverse op c.args.shown.now ≡ None = ap (λ (o : Op). inverse o c.args.shown.now) (sym is_op) ∙ sym c.inverse.ensures ∙ c.in_default.is in
    subst (IsStage names c.args.steps.now c.args.requests.now replies (AtHalt c.args.step NotRestorable)) (sym (λ i. machine.set_stage (words_of names) c.args.stopped c.args.step op (none i))) (refl, refl)

pub returns-then-stopped-clause-stage : goal.returns-then-stopped-clause-stage
returns-then-stopped-clause-stage c names op replies there =
    let is_op : c.unwrap-op.result ≡ op = same_Some c.unwrap-op.result op (sym c.unwrap-op.ensures ∙ c.get.ensures ∙ there) in
    let made : inverse op c.args.shown.now ≡ Some c.in-Some.back = ap (λ (o : Op). inverse o c.args.shown.now) (sym is_op) ∙ sym c.in-Some.ensures in
    subst (IsStage names c.args.steps.now c.args.requests.now replies (AtHalt c.args.step Stop)) (sym (λ i. machine.set_stage (words_of names) (c.if-stopped.true i) c.args.step op (made i))) (refl, refl)

pub returns-clause-stage : goal.returns-clause-stage
returns-clause-stage c names op replies there =
    let is_op : c.unwrap-op.result ≡ op = same_Some c.unwrap-op.result op (sym c.unwrap-op.ensures ∙ c.get.ensures ∙ there) in
    let back = c.in-Some.back in
    let made : inverse op c.args.shown.now ≡ Some back = ap (λ (o : Op). inverse o c.args.shown.now) (sym is_op) ∙ sym c.in-Some.ensures in
    let goes : c.args.stopped ≡ false = search rules in
    let asks : c.set_asked.result ≡ first_request (set_whole op) = c.set_asked.ensures ∙ ap set_asked is_op ∙ sym (begins_with op) in
    let here : IsStage names c.args.steps.now c.prepare_set.new.requests replies (Opened true (Sets c.args.step) 0 c.set_asked.result) (machine.begun (words_of names) (machine.Sets c.args.step op back)) =
    (refl, (refl, there, c.prepare_set.ensures.waiting), refl, tt, ap (own names) asks) in
    subst (IsStage names c.args.steps.now c.prepare_set.new.requests replies (Opened true (Sets c.args.step) 0 c.set_asked.result))
    (sym (λ i. machine.set_stage (words_of names) (goes i) c.args.step op (made i))) here

pub prepare_set-requires-clause-place : goal.prepare_set-requires-clause-place
prepare_set-requires-clause-place c =
    place_for c.args.steps.now c.args.step _ c.args.requests.now (sym c.get.ensures ∙ c.unwrap-op.ensures) c.requires.room

pub prepare_set-requires-clause-room : goal.prepare_set-requires-clause-room
prepare_set-requires-clause-room c =
    let there : slice_get c.args.steps.now c.args.step ≡ Some c.unwrap-op.result = sym c.get.ensures ∙ c.unwrap-op.ensures in
    let kind : most_data c.in-Some.back ≡ most_data c.unwrap-op.result = same_kind c.unwrap-op.result c.in-Some.back c.args.shown.now (sym c.in-Some.ensures) in
    omega (arith, kind, bytes_for_one c.args.steps.now c.args.step c.unwrap-op.result c.args.requests.now there c.requires.room)

pub prepare_set-requires-clause-short : goal.prepare_set-requires-clause-short
prepare_set-requires-clause-short c = short_undo c.unwrap-op.result c.in-Some.back c.args.shown.now (sym c.in-Some.ensures)

pub returns-clause-room : goal.returns-clause-room
returns-clause-room c =
    let there : slice_get c.args.steps.now c.args.step ≡ Some c.unwrap-op.result = sym c.get.ensures ∙ c.unwrap-op.ensures in
    let kind : most_data c.in-Some.back ≡ most_data c.unwrap-op.result = same_kind c.unwrap-op.result c.in-Some.back c.args.shown.now (sym c.in-Some.ensures) in
    room_left c.args.steps.now c.args.step (most_data c.in-Some.back) c.unwrap-op.result c.args.requests.now c.prepare_set.new.requests there c.requires.room
    (omega (arith, kind)) c.prepare_set.ensures.places c.prepare_set.ensures.room

pub unwrap-op-requires : goal.unwrap-op-requires
unwrap-op-requires c = is_there c.args.steps.now c.args.step c.get.result c.get.ensures c.requires.step

pub returns-clause-placed : goal.returns-clause-placed
returns-clause-placed c =
    let op = c.unwrap-op.result in
    let there : slice_get c.args.steps.now c.args.step ≡ Some op = sym c.get.ensures ∙ c.unwrap-op.ensures in
    let asks : request_at (set_whole op) 0 ≡ Some c.set_asked.result = begins_at (set_whole op) ∙ ap Some (begins_with op ∙ sym c.set_asked.ensures) in
    set_placed c.args.steps.now c.prepare_set.new.requests c.args.step 0 op c.set_asked.result there asks (subst IsSome (sym c.prepare_set.ensures.waiting) refl)
