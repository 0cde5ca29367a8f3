use Rattle.std.proofs.Common.{◌+◌, refl, sym, ◌∙◌, subst, true≢false}
use Rattle.model_lab.specs.Played.{after}
use Rattle.lab_run.specs.declared.lab_state.Lab.{Lab}
use Rattle.lab_run.specs.Shown.{Represents}
use Rattle.lab_play.proofs.Offers.{drawn_more, not_taken}
use Rattle.lab_play.proofs.schedule_drawing.Drawing.offer.Goals as goal
use Rattle.lab_play.proofs.schedule_drawing.Drawing.offer.Goals.{else-not-self-via-then-not-self+else-may_join_late, else-not-self-via-else-not-self}

pub returns-in_ok-push-in-Ok-clause-offered : goal.returns-in_ok-push-in-Ok-clause-offered
returns-in_ok-push-in-Ok-clause-offered c = (
  c.in_ok-push-in-Ok.ensures.items,
  refl,
  λ file first drawn.
      drawn_more file first c.args.self.now _ c.deref_mut.result.now c.args.event (c.len-place.result + 1) c.deref_mut.ensures.value drawn
      c.in-Ok.ensures.steps c.in-Ok.ensures.watched c.in_ok-push-in-Ok.ensures.items refl (sym c.has_line.ensures ∙ c.if-not-has_line.false)
      (λ never. elim c.else-not-self.branch [
        | else-not-self-via-then-not-self+else-may_join_late w ↦ w.may_join_late.ensures w.if-may_join_late.false file (after file c.args.self.now.events.items first)
            (subst (λ (l : Lab). Represents file l (after file c.args.self.now.events.items first)) (sym w.deref.ensures) drawn.shows) drawn.watches
        | else-not-self-via-else-not-self w ↦ absurd (true≢false (sym w.if-not-self.false ∙ never))
      ]),
)

pub returns-in-Err-clause-offered : goal.returns-in-Err-clause-offered
returns-in-Err-clause-offered c =
    not_taken c.args.self.now c.deref_mut.result.now c.step_watched.new.lab c.step_watched.new.watch c.args.event (c.len-place.result + 1) c.in-Err.why c.not_taken.result c.deref_mut.ensures.value
    c.in-Err.ensures.steps c.in-Err.ensures.watched c.not_taken.ensures
