use Rattle.std.proofs.Common.{rules, ◌≡◌, ◌+◌, ◌≤◌, ℕ, List, length, sym, ◌∙◌, ap, subst, arith}
use Rattle.record_base.specs.declared.message.Asked.{Asked}
use Rattle.undo_plans.specs.Requests.{RequestList}
use Rattle.undo_plans.specs.declared.kept_stage.KeptStage.{KeptStage}
use Rattle.undo_plans.specs.declared.journal.Contents.{Contents}
use Rattle.undo_plans.specs.Bounds.{most_replies}
use Rattle.undo_plans.specs.KeptManager.{IsSound, waiting_at, stopped_at, replies_at}
use Rattle.undo_core.specs.declared.stage.Stage.{Stage}
use Rattle.undo_core.specs.Bounds.{most_backs, replies_left}
use Rattle.undo_core.specs.Placed.{IsPlaced}
use Rattle.undo_core.specs.Stages.{kept_stage}
use Rattle.undo_core.proofs.Journals.{told_stays, replies_stay}
use Rattle.undo_core.proofs.Revived.{planned_by, kept_enough, parted_at, filled_at, placed_stays, unsent_at, room_ahead}
use Rattle.undo_core.proofs.manager.Manager.revive.Goals as goal

pub invariant_of-result : goal.invariant_of-result
invariant_of-result c =
    let held : Contents = c.args.journal.contents in
    let at : Stage = c.stage_of-stage.result in
    let new : RequestList = c.make_room.new.requests in
    let sound : IsSound held.steps held.requests (kept_stage at) held.stopped held.counts held.replies.items =
    subst (λ (k : KeptStage). IsSound held.steps held.requests k held.stopped held.counts held.replies.items) (sym c.stage_of-stage.ensures.kept) c.args.journal.sound in
    let placed : IsPlaced held.steps new at = placed_stays held.steps held.requests new at c.make_room.ensures.members c.make_room.ensures.waiting c.stage_of-stage.ensures.placed in
    let backs : length new.members ≡ length held.requests.members = ap (λ (l : List Asked). length l) c.make_room.ensures.members in
    let shown : length c.in-Ok-of.replies ≡ length held.replies.items = ap (λ (l : List ℕ). length l) (c.in-Ok-of.ensures ∙ c.as_slice.ensures.value) in
    record {
      planned = planned_by held.steps held.requests at c.stage_of-stage.ensures.placed;
      kept = kept_enough held.steps new at placed;
      few = subst (λ (n : ℕ). n ≤ most_backs at) (sym backs) sound.stage.few;
      counted = subst (λ (n : ℕ). held.counts.ipmb + held.counts.smbus + replies_left (length held.steps) n at ≤ most_replies) (sym backs) sound.counts;
      roomy = room_ahead held.steps new at c.in-Ok-make_room.ensures.room;
      parted = parted_at held.steps held.requests at sound.stage.place;
      filled = filled_at at c.in-Ok-of.replies (omega (arith, shown, sound.replies));
      placed = placed;
      unsent = unsent_at at c.in-Some.retries c.resent_at-resent.result c.resent_at-resent.ensures;
    }

pub returns-clause-kept : goal.returns-clause-kept
returns-clause-kept c =
    let held : Contents = c.args.journal.contents in
    let at : Stage = c.stage_of-stage.result in
    let is : kept_stage at ≡ held.stage = c.stage_of-stage.ensures.kept in
    let sound : IsSound held.steps held.requests (kept_stage at) held.stopped held.counts held.replies.items =
    subst (λ (k : KeptStage). IsSound held.steps held.requests k held.stopped held.counts held.replies.items) (sym is) c.args.journal.sound in
    let retries : c.in-Some.retries ≡ held.retries = search rules in
    let names : c.args.names ≡ held.names = search rules in
    let stopped : stopped_at (kept_stage at) held.stopped ≡ held.stopped = told_stays (kept_stage at) held.stopped sound.stopped in
    let shown : c.in-Ok-of.replies ≡ held.replies.items = c.in-Ok-of.ensures ∙ c.as_slice.ensures.value in
    let replies : replies_at (kept_stage at) c.in-Ok-of.replies ≡ held.replies.items =
    ap (λ (l : List ℕ). replies_at (kept_stage at) l) shown ∙ replies_stay (kept_stage at) held.replies.items sound.replies in
    λ i. record {
      plan = held.steps;
      retries = retries i;
      names = names i;
      listed = held.listed;
      stage = is i;
      stopped = stopped i;
      members = c.make_room.ensures.members i;
      waiting = waiting_at (is i) (c.make_room.ensures.waiting i);
      counts = record { ipmb = held.counts.ipmb; smbus = held.counts.smbus };
      replies = replies i;
    }
