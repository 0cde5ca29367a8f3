use Rattle.std.proofs.Common.{rules, ◌≡◌, ℕ, Bool, true, false, refl, ◌∙◌, ap, subst}
use Rattle.record_base.specs.declared.message.Asked.{Asked}
use Rattle.model_undo.specs.declared.call.Call.TheVariants.{Again}
use Rattle.model_undo.specs.Machine as machine
use Rattle.undo_core.specs.Shown.{IsStage}
use Rattle.undo_core.specs.declared.stage.Task.{Task}
use Rattle.undo_core.specs.declared.stage.Stage.{Stage}
use Rattle.undo_core.specs.declared.stage.Stage.TheVariants as stage
use Rattle.undo_core.proofs.Calling.{refused, made, no_again, shows_opened, again_turn, enters_does}
use Rattle.undo_core.specs.Placed.{IsPlaced}
use Rattle.undo_core.proofs.manager.Manager.again.Goals as goal

pub returns-in_default : goal.returns-in_default
returns-in_default c names s shows =
    refused names Again _ s _
    (record {
      named = shows.named;
      is_named = shows.is_named;
      listed = shows.listed;
      plan = shows.plan;
      retries = shows.retries;
      stage = shows.stage;
      stopped = shows.stopped;
      resent = shows.resent;
      undo = shows.undo;
      counts = shows.counts;
      sequence = shows.sequence;
      instance = shows.instance;
      joined = shows.joined;
    })
    (no_again names c.args.self.now s shows (c.in_default.not-Opened false))

pub returns-then-heeded : goal.returns-then-heeded
returns-then-heeded c names s shows =
    let stays = subst (λ (r : Stage). IsStage names c.args.self.now.steps c.args.self.now.undo.requests c.args.self.now.replies r s.machine.stage) c.in-Opened.is shows.stage in
    let heeds : c.in-Opened.heeded ≡ true = search rules in
    let was = c.in-Opened.is in
    refused names Again _ s _
    (record {
      named = shows.named;
      is_named = shows.is_named;
      listed = shows.listed;
      plan = shows.plan;
      retries = shows.retries;
      stage = stays;
      stopped = shows.stopped;
      resent = shows.resent;
      undo = shows.undo;
      counts = shows.counts;
      sequence = shows.sequence;
      instance = shows.instance;
      joined = shows.joined;
    })
    (no_again names c.args.self.now s shows (λ (task : Task) (parts : ℕ) (asked : Asked) (is : c.args.self.now.stage ≡ stage.Opened false task parts asked). (cc)))

pub returns : goal.returns
returns c names s shows =
    let unheeded : c.in-Opened.heeded ≡ false = search rules in
    let o = shows_opened names c.args.self.now.steps c.args.self.now.undo.requests c.args.self.now.replies false c.in-Opened.task c.in-Opened.parts c.in-Opened.asked s.machine.stage
    (subst (λ (r : Stage). IsStage names c.args.self.now.steps c.args.self.now.undo.requests c.args.self.now.replies r s.machine.stage)
    (c.in-Opened.is ∙ ap (λ (h : Bool). stage.Opened h c.in-Opened.task c.in-Opened.parts c.in-Opened.asked) unheeded) shows.stage) in
    let at : IsStage names c.args.self.now.steps c.args.self.now.undo.requests c.args.self.now.replies (stage.Opened true c.in-Opened.task c.in-Opened.parts c.in-Opened.asked) (machine.Opened true o.of o.part) =
    (refl, o.task_is, o.counted, o.got, o.asked_is) in
    made names Again _ s _ _ (again_turn names s.machine o.of o.part o.is)
    (enters_does names _ s (machine.Opened true o.of o.part) _
    (record {
      named = shows.named;
      is_named = shows.is_named;
      listed = shows.listed;
      plan = shows.plan;
      retries = shows.retries;
      stage = at;
      stopped = shows.stopped;
      resent = refl;
      undo = shows.undo;
      counts = shows.counts;
      sequence = shows.sequence;
      instance = shows.instance;
      joined = shows.joined;
    })
    (c.open_frames.ensures names c.args.self.now.steps c.args.self.now.undo.requests c.args.self.now.replies (machine.Opened true o.of o.part) shows.named at))

pub invariant_of-self-then-heeded-clause-placed : goal.invariant_of-self-then-heeded-clause-placed
invariant_of-self-then-heeded-clause-placed c = subst (IsPlaced c.args.self.now.steps c.args.self.now.undo.requests) c.in-Opened.is c.args.self.now.placed

pub invariant_of-self-2-clause-placed : goal.invariant_of-self-2-clause-placed
invariant_of-self-2-clause-placed c = subst (IsPlaced c.args.self.now.steps c.args.self.now.undo.requests) c.in-Opened.is c.args.self.now.placed
