use Rattle.std.proofs.Common.{List, refl, sym, ◌∙◌, ap, subst}
use Rattle.std.specs.Prelude.{slice_get}
use Rattle.model_undo.specs.declared.call.Call.TheVariants.{Start}
use Rattle.model_undo.specs.Machine as machine
use Rattle.undo_core.specs.Shown.{words_of, IsStage}
use Rattle.record_base.specs.declared.op.Op.{Op}
use Rattle.undo_core.specs.declared.stage.Stage.{Stage}
use Rattle.undo_core.proofs.Calling.{refused, made, no_start, shows_start, start_turn, first_is_next, enters_does}
use Rattle.undo_core.proofs.Placed.{unsent_at_first}
use Rattle.undo_core.proofs.manager.Manager.start.Goals as goal

pub returns-in_default : goal.returns-in_default
returns-in_default c names s shows = refused names Start _ s _ shows (no_start names c.args.self.now s shows c.in_default.not-AtStart)

pub returns : goal.returns
returns c names s shows =
    let t = machine.first_stage (words_of names) (slice_get s.machine.plan 0) in
    let begins = shows_start names c.args.self.now.steps c.args.self.now.undo.requests c.args.self.now.replies s.machine.stage (subst (λ (r : Stage). IsStage names c.args.self.now.steps c.args.self.now.undo.requests c.args.self.now.replies r s.machine.stage) c.in-AtStart.is shows.stage) in
    let at : IsStage names c.args.self.now.steps c.args.self.now.undo.requests c.args.self.now.replies c.step_stage-self.result t =
    subst (IsStage names c.args.self.now.steps c.args.self.now.undo.requests c.args.self.now.replies c.step_stage-self.result)
    (first_is_next names (slice_get c.args.self.now.steps 0) ∙ ap (λ (plan : List Op). machine.first_stage (words_of names) (slice_get plan 0)) (sym shows.plan))
    (c.step_stage-self.ensures.stage names c.args.self.now.undo.requests c.args.self.now.replies) in
    made names Start _ s _ _ (start_turn names s.machine begins)
    (enters_does names _ s t _
    (record {
      named = shows.named;
      is_named = shows.is_named;
      listed = shows.listed;
      plan = shows.plan;
      retries = shows.retries;
      stage = at;
      stopped = shows.stopped;
      resent = refl;
      undo = shows.undo;
      counts = shows.counts;
      sequence = shows.sequence;
      instance = shows.instance;
      joined = shows.joined;
    })
    (c.open_frames.ensures names c.args.self.now.steps c.args.self.now.undo.requests c.args.self.now.replies t shows.named at))

pub invariant_of-self-clause-placed : goal.invariant_of-self-clause-placed
invariant_of-self-clause-placed c = c.step_stage-self.ensures.placed c.args.self.now.undo.requests

pub invariant_of-self-clause-unsent : goal.invariant_of-self-clause-unsent
invariant_of-self-clause-unsent c = unsent_at_first c.step_stage-self.result
