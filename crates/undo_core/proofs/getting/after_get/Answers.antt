use Rattle.std.proofs.Common.{rules, ◌≡◌, ◌+◌, ◌*◌, suc, ◌++◌, ◌∷◌, [], ◌<◌, Bool, true, false, if◌then◌else◌, List, ℕ, length, Some, None, refl, sym, ◌∙◌, ap, subst, add-one, arith}
use Rattle.std.specs.Prelude.{slice_get}
use Rattle.std.proofs.lemmas.Option.{same_Some}
use Rattle.std.proofs.lemmas.List.{length-drop}
use Rattle.pldm_base.specs.Parts.{part_length}
use Rattle.bios_attr.specs.EntryParts.{before_part, joined}
use Rattle.record_base.specs.declared.key.Key.{Key}
use Rattle.record_base.specs.declared.key.Key.TheVariants as key
use Rattle.record_kinds.specs.Limits.{key_of, inverse}
use Rattle.undo_plans.specs.Showing.{shown_by}
use Rattle.model_bus.specs.Answered.{Answered}
use Rattle.model_undo.specs.Machine as machine
use Rattle.undo_core.specs.Joining.{most_joined, get_after_reply}
use Rattle.undo_core.specs.Shown.{words_of, own, IsStage}
use Rattle.model_undo.specs.declared.phase.Why.TheVariants.{Stop}
use Rattle.undo_core.specs.declared.stage.Stage.TheVariants.{Opened, AtHalt}
use Rattle.undo_core.specs.declared.stage.Task.TheVariants.{Gets}
use Rattle.undo_core.proofs.Going.{one_more, next_got, more_stage, last_stage}
use Rattle.undo_core.proofs.Replied as replied
use Rattle.undo_core.proofs.JoinedBodies.{are_joined}
use Rattle.undo_core.proofs.Begun.{is_there}
use Rattle.undo_core.proofs.Placed.{next_at, got_placed}
use Rattle.undo_core.proofs.getting.after_get.Goals as goal

-- a reply that came first is alone, and several show what they show joined
alone : (of : Key) (before : List (List ℕ)) (body : List ℕ) → length before ≡ 0 → shown_by of (before ++ body ∷ []) ≡ shown_by of (body ∷ [])
alone of [] body none = refl
alone of (first ∷ others) body some = absurd (omega (arith, some))

several : (of : Key) (before : List (List ℕ)) (body : List ℕ) → 0 < length before → shown_by of (before ++ body ∷ []) ≡ joined (before ++ body ∷ [])
several (key.BiosAttribute handle) [] body some = absurd (omega (arith, some))
several (key.BiosAttribute handle) (first ∷ []) body some = refl
several (key.BiosAttribute handle) (first ∷ second ∷ before) body some = refl
several _ before body some = refl

pub returns-in-Some-clause-after : goal.returns-in-Some-clause-after
returns-in-Some-clause-after c = replied.get_refused c.args.steps.now c.args.stopped c.args.step c.args.parts c.args.reply c.args.requests.now c.in-Some.code c.args.replies.now (search rules) (search rules)

pub returns-then-parts-eq0-clause-after : goal.returns-then-parts-eq0-clause-after
returns-then-parts-eq0-clause-after c = replied.got c.args.steps.now c.args.stopped c.args.step c.args.parts c.args.reply c.args.requests.now c.got_stage.new.requests c.got_stage.result c.args.replies.now c.args.replies.now c.got_stage.ensures.members (λ names op part there many got.
    let a : Answered = record { code = c.args.reply.code; body = c.args.reply.body.now } in
    let is_op : c.unwrap-op.result ≡ op = same_Some c.unwrap-op.result op (sym c.unwrap-op.ensures ∙ c.get.ensures ∙ there) in
    let done : c.args.reply.code ≡ 0 = search rules in
    let last : get_after_reply (key_of op) (c.args.parts + 1) a.body ≡ None =
    (λ i. get_after_reply ((ap key_of (sym is_op) ∙ sym c.key.ensures) i) (c.args.parts + 1) a.body) ∙ sym c.next_part.ensures.asked ∙ c.in_default-next_part.is in
    let of : c.key-then-parts-eq0.result ≡ key_of op = c.key-then-parts-eq0.ensures ∙ ap key_of is_op in
    let shown : c.shown_alone-shown.result.now ≡ shown_by (key_of op) (part.before ++ a.body ∷ []) =
    c.shown_alone-shown.ensures ∙ ap (λ (k : Key). shown_by k (a.body ∷ [])) of ∙ sym (alone (key_of op) part.before a.body (many ∙ c.if-parts-eq0.true)) in
    subst (IsStage names c.args.steps.now c.got_stage.new.requests c.args.replies.now c.got_stage.result)
    (ap (λ (l : List ℕ). machine.set_stage (words_of names) c.args.stopped c.args.step op (inverse op l)) shown
    ∙ sym (last_stage names c.args.stopped c.args.steps.now a (machine.Gets c.args.step op) part _ done (next_got names (key_of op) part.before a.body c.args.parts many) last))
    (c.got_stage.ensures.stage names op c.args.replies.now there))

pub returns-clause-after : goal.returns-clause-after
returns-clause-after c = replied.got c.args.steps.now c.args.stopped c.args.step c.args.parts c.args.reply c.args.requests.now c.got_stage-2.new.requests c.got_stage-2.result c.args.replies.now c.end.new.self c.got_stage-2.ensures.members (λ names op part there many got.
    let a : Answered = record { code = c.args.reply.code; body = c.args.reply.body.now } in
    let is_op : c.unwrap-op.result ≡ op = same_Some c.unwrap-op.result op (sym c.unwrap-op.ensures ∙ c.get.ensures ∙ there) in
    let done : c.args.reply.code ≡ 0 = search rules in
    let last : get_after_reply (key_of op) (c.args.parts + 1) a.body ≡ None =
    (λ i. get_after_reply ((ap key_of (sym is_op) ∙ sym c.key.ensures) i) (c.args.parts + 1) a.body) ∙ sym c.next_part.ensures.asked ∙ c.in_default-next_part.is in
    let some : 0 < length part.before = omega (arith, many, c.if-parts-eq0.false) in
    let shown : c.as_slice.result.now ≡ shown_by (key_of op) (part.before ++ a.body ∷ []) =
    c.as_slice.ensures.value ∙ c.end.ensures part.before many got ∙ sym (several (key_of op) part.before a.body some) in
    subst (IsStage names c.args.steps.now c.got_stage-2.new.requests c.end.new.self c.got_stage-2.result)
    (ap (λ (l : List ℕ). machine.set_stage (words_of names) c.args.stopped c.args.step op (inverse op l)) shown
    ∙ sym (last_stage names c.args.stopped c.args.steps.now a (machine.Gets c.args.step op) part _ done (next_got names (key_of op) part.before a.body c.args.parts many) last))
    (c.got_stage-2.ensures.stage names op c.end.new.self there))

pub returns-then-stopped-clause-after : goal.returns-then-stopped-clause-after
returns-then-stopped-clause-after c = replied.got c.args.steps.now c.args.stopped c.args.step c.args.parts c.args.reply c.args.requests.now c.args.requests.now (AtHalt c.args.step Stop) c.args.replies.now c.args.replies.now refl (λ names op part there many got.
    let a : Answered = record { code = c.args.reply.code; body = c.args.reply.body.now } in
    let is_op : c.unwrap-op.result ≡ op = same_Some c.unwrap-op.result op (sym c.unwrap-op.ensures ∙ c.get.ensures ∙ there) in
    let done : c.args.reply.code ≡ 0 = search rules in
    let stops : c.args.stopped ≡ true = search rules in
    let asked = c.in-Some-next_part.asked in
    let made : get_after_reply (key_of op) (c.args.parts + 1) a.body ≡ Some asked =
    (λ i. get_after_reply ((ap key_of (sym is_op) ∙ sym c.key.ensures) i) (c.args.parts + 1) a.body) ∙ sym c.next_part.ensures.asked ∙ c.in-Some-next_part.is in
    let next : machine.Part (words_of names) = record { asked = own names asked; before = machine.bodies_with (words_of names) a part } in
    subst (IsStage names c.args.steps.now c.args.requests.now c.args.replies.now (AtHalt c.args.step Stop))
    (sym (more_stage names c.args.stopped c.args.steps.now a (machine.Gets c.args.step op) part asked _ done (next_got names (key_of op) part.before a.body c.args.parts many) made
    ∙ ap (λ (b : Bool). if b then machine.AtHalt c.args.step Stop else machine.Opened true (machine.Gets c.args.step op) next) stops)) (refl, refl))

pub returns-in-Some-next_part-clause-after : goal.returns-in-Some-next_part-clause-after
returns-in-Some-next_part-clause-after c = replied.got c.args.steps.now c.args.stopped c.args.step c.args.parts c.args.reply c.args.requests.now c.args.requests.now (Opened true (Gets c.args.step) (c.args.parts + 1) c.in-Some-next_part.asked) c.args.replies.now c.take.new.self refl (λ names op part there many got.
    let a : Answered = record { code = c.args.reply.code; body = c.args.reply.body.now } in
    let is_op : c.unwrap-op.result ≡ op = same_Some c.unwrap-op.result op (sym c.unwrap-op.ensures ∙ c.get.ensures ∙ there) in
    let done : c.args.reply.code ≡ 0 = search rules in
    let goes : c.args.stopped ≡ false = search rules in
    let asked = c.in-Some-next_part.asked in
    let made : get_after_reply (key_of op) (c.args.parts + 1) a.body ≡ Some asked =
    (λ i. get_after_reply ((ap key_of (sym is_op) ∙ sym c.key.ensures) i) (c.args.parts + 1) a.body) ∙ sym c.next_part.ensures.asked ∙ c.in-Some-next_part.is in
    let next : machine.Part (words_of names) = record { asked = own names asked; before = machine.bodies_with (words_of names) a part } in
    subst (IsStage names c.args.steps.now c.args.requests.now c.take.new.self (Opened true (Gets c.args.step) (c.args.parts + 1) asked))
    (sym (more_stage names c.args.stopped c.args.steps.now a (machine.Gets c.args.step op) part asked _ done (next_got names (key_of op) part.before a.body c.args.parts many) made
    ∙ ap (λ (b : Bool). if b then machine.AtHalt c.args.step Stop else machine.Opened true (machine.Gets c.args.step op) next) goes))
    (refl, (refl, there), one_more part.before a.body c.args.parts many, are_joined c.take.new.self part.before a.body (c.take.ensures.joined part.before many got), refl))

pub returns-in-Some-clause-left : goal.returns-in-Some-clause-left
returns-in-Some-clause-left c any = omega (arith, c.requires.step, c.requires.parts)

pub returns-then-stopped-clause-left : goal.returns-then-stopped-clause-left
returns-then-stopped-clause-left c any = omega (arith, c.requires.step, c.requires.parts)

pub returns-in-Some-next_part-clause-left : goal.returns-in-Some-next_part-clause-left
returns-in-Some-next_part-clause-left c any = omega (arith, c.requires.step, c.requires.parts)

pub returns-then-parts-eq0-clause-left : goal.returns-then-parts-eq0-clause-left
returns-then-parts-eq0-clause-left c any = omega (arith, c.requires.step, c.requires.parts, c.got_stage.ensures.left any)

pub returns-clause-left : goal.returns-clause-left
returns-clause-left c any = omega (arith, c.requires.step, c.requires.parts, c.got_stage-2.ensures.left any)

pub returns-in-Some-next_part-clause-parted : goal.returns-in-Some-next_part-clause-parted
returns-in-Some-next_part-clause-parted c = omega (arith, c.in-Some-next_part.ensures.full.goes_on)

pub returns-in-Some-next_part-clause-room : goal.returns-in-Some-next_part-clause-room
returns-in-Some-next_part-clause-room c = c.requires.room

pub take-requires-clause-few : goal.take-requires-clause-few
take-requires-clause-few c = c.requires.filled

pub take-requires-clause-room : goal.take-requires-clause-room
take-requires-clause-room c =
    let full = c.in-Some-next_part.ensures.full in
    omega (arith, full.full, full.goes_on, length-drop before_part c.args.reply.body.now)

pub returns-in-Some-next_part-clause-filled : goal.returns-in-Some-next_part-clause-filled
returns-in-Some-next_part-clause-filled c =
    let full : length c.args.reply.body.now ≡ before_part + part_length = c.in-Some-next_part.ensures.full.full in
    let most : most_joined (c.args.parts + 1) ≡ before_part + part_length * suc c.args.parts = ap most_joined (add-one c.args.parts) in
    omega (arith, full, most, c.take.ensures.few, length-drop before_part c.args.reply.body.now)

pub end-requires-clause-few : goal.end-requires-clause-few
end-requires-clause-few c = c.requires.filled

pub unwrap-op-requires : goal.unwrap-op-requires
unwrap-op-requires c = is_there c.args.steps.now c.args.step c.get.result c.get.ensures c.requires.step

pub returns-in-Some-next_part-clause-placed : goal.returns-in-Some-next_part-clause-placed
returns-in-Some-next_part-clause-placed c =
    let op = c.unwrap-op.result in
    let there : slice_get c.args.steps.now c.args.step ≡ Some op = sym c.get.ensures ∙ c.unwrap-op.ensures in
    let made : get_after_reply (key_of op) (c.args.parts + 1) c.args.reply.body.now ≡ Some c.in-Some-next_part.asked =
    (λ i. get_after_reply (sym c.key.ensures i) (c.args.parts + 1) c.args.reply.body.now) ∙ sym c.next_part.ensures.asked ∙ c.in-Some-next_part.is in
    got_placed c.args.steps.now c.args.requests.now c.args.step (c.args.parts + 1) op c.in-Some-next_part.asked there
    (next_at (key_of op) c.args.parts c.args.reply.body.now c.in-Some-next_part.asked made)
