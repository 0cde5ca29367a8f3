use Rattle.std.proofs.Common.{rules, ◌≡◌, ◌+◌, nat_lt, Bool, true, false, ℕ, None, refl, ◌∙◌, ap, subst, arith}
use Rattle.std.proofs.lemmas.Bool.{lt-ltb, le-ltb}
use Rattle.record_base.specs.declared.message.Asked.{Asked}
use Rattle.model_undo.specs.declared.call.Call.TheVariants.{Quiet}
use Rattle.model_undo.specs.Machine as machine
use Rattle.undo_core.specs.Shown.{IsStage}
use Rattle.undo_core.specs.declared.stage.Task.{Task}
use Rattle.undo_core.specs.declared.stage.Stage.{Stage}
use Rattle.undo_core.specs.declared.stage.Stage.TheVariants as stage
use Rattle.undo_core.proofs.Calling.{refused, made, no_quiet, shows_opened, quiet_resends, quiet_unsettles, resends_does, rests_does}
use Rattle.undo_core.specs.Placed.{IsPlaced}
use Rattle.undo_core.proofs.manager.Manager.quiet.Goals as goal

pub returns-in_default : goal.returns-in_default
returns-in_default c names s shows =
    refused names Quiet _ s _
    (record {
      named = shows.named;
      is_named = shows.is_named;
      listed = shows.listed;
      plan = shows.plan;
      retries = shows.retries;
      stage = shows.stage;
      stopped = shows.stopped;
      resent = shows.resent;
      undo = shows.undo;
      counts = shows.counts;
      sequence = shows.sequence;
      instance = shows.instance;
      joined = shows.joined;
    })
    (no_quiet names c.args.self.now s shows (c.in_default.not-Opened true))

pub returns-then-not-heeded : goal.returns-then-not-heeded
returns-then-not-heeded c names s shows =
    let stays = subst (λ (r : Stage). IsStage names c.args.self.now.steps c.args.self.now.undo.requests c.args.self.now.replies r s.machine.stage) c.in-Opened.is shows.stage in
    let unheeded : c.in-Opened.heeded ≡ false = search rules in
    let was = c.in-Opened.is in
    refused names Quiet _ s _
    (record {
      named = shows.named;
      is_named = shows.is_named;
      listed = shows.listed;
      plan = shows.plan;
      retries = shows.retries;
      stage = stays;
      stopped = shows.stopped;
      resent = shows.resent;
      undo = shows.undo;
      counts = shows.counts;
      sequence = shows.sequence;
      instance = shows.instance;
      joined = shows.joined;
    })
    (no_quiet names c.args.self.now s shows (λ (task : Task) (parts : ℕ) (asked : Asked) (is : c.args.self.now.stage ≡ stage.Opened true task parts asked). (cc)))

pub returns-then-self-number : goal.returns-then-self-number
returns-then-self-number c names s shows =
    let heeds : c.in-Opened.heeded ≡ true = search rules in
    let o = shows_opened names c.args.self.now.steps c.args.self.now.undo.requests c.args.self.now.replies true c.in-Opened.task c.in-Opened.parts c.in-Opened.asked s.machine.stage
    (subst (λ (r : Stage). IsStage names c.args.self.now.steps c.args.self.now.undo.requests c.args.self.now.replies r s.machine.stage)
    (c.in-Opened.is ∙ ap (λ (h : Bool). stage.Opened h c.in-Opened.task c.in-Opened.parts c.in-Opened.asked) heeds) shows.stage) in
    let enough : nat_lt s.machine.resent s.machine.retries ≡ false = le-ltb s.machine.resent s.machine.retries (omega (arith, shows.resent, shows.retries, c.number.ensures.value)) in
    made names Quiet _ s None _ (quiet_unsettles names s.machine o.of o.part o.is enough)
    (rests_does names _ s (record s.machine { stage = machine.Opened false o.of o.part })
    (record {
      named = shows.named;
      is_named = shows.is_named;
      listed = shows.listed;
      plan = shows.plan;
      retries = shows.retries;
      stage = (refl, o.task_is, o.counted, o.got, o.asked_is);
      stopped = shows.stopped;
      resent = shows.resent;
      undo = shows.undo;
      counts = shows.counts;
      sequence = shows.sequence;
      instance = shows.instance;
      joined = shows.joined;
    }))

pub returns : goal.returns
returns c names s shows =
    let stays = subst (λ (r : Stage). IsStage names c.args.self.now.steps c.args.self.now.undo.requests c.args.self.now.replies r s.machine.stage) c.in-Opened.is shows.stage in
    let heeds : c.in-Opened.heeded ≡ true = search rules in
    let o = shows_opened names c.args.self.now.steps c.args.self.now.undo.requests c.args.self.now.replies true c.in-Opened.task c.in-Opened.parts c.in-Opened.asked s.machine.stage
    (subst (λ (h : Bool). IsStage names c.args.self.now.steps c.args.self.now.undo.requests c.args.self.now.replies (stage.Opened h c.in-Opened.task c.in-Opened.parts c.in-Opened.asked) s.machine.stage) heeds stays) in
    let less : nat_lt s.machine.resent s.machine.retries ≡ true = lt-ltb s.machine.resent s.machine.retries (omega (arith, shows.resent, shows.retries, c.number.ensures.value)) in
    made names Quiet _ s _ _ (quiet_resends names s.machine o.of o.part o.is less)
    (resends_does names _ s (s.machine.resent + 1) _
    (record {
      named = shows.named;
      is_named = shows.is_named;
      listed = shows.listed;
      plan = shows.plan;
      retries = shows.retries;
      stage = stays;
      stopped = shows.stopped;
      resent = ap (λ (n : ℕ). n + 1) shows.resent;
      undo = shows.undo;
      counts = shows.counts;
      sequence = shows.sequence;
      instance = shows.instance;
      joined = shows.joined;
    })
    (c.open_frames.ensures names c.args.self.now.steps c.args.self.now.undo.requests c.args.self.now.replies s.machine.stage shows.named stays))

pub invariant_of-self-then-not-heeded-clause-placed : goal.invariant_of-self-then-not-heeded-clause-placed
invariant_of-self-then-not-heeded-clause-placed c = subst (IsPlaced c.args.self.now.steps c.args.self.now.undo.requests) c.in-Opened.is c.args.self.now.placed

pub invariant_of-self-then-self-number-clause-placed : goal.invariant_of-self-then-self-number-clause-placed
invariant_of-self-then-self-number-clause-placed c = subst (IsPlaced c.args.self.now.steps c.args.self.now.undo.requests) c.in-Opened.is c.args.self.now.placed

pub invariant_of-self-2-clause-placed : goal.invariant_of-self-2-clause-placed
invariant_of-self-2-clause-placed c = subst (IsPlaced c.args.self.now.steps c.args.self.now.undo.requests) c.in-Opened.is c.args.self.now.placed
