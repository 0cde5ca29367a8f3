use Rattle.std.proofs.Common.{rules, ◌≡◌, ◌≤◌, ◌<◌, ◌+◌, length, Bool, true, false, refl, ◌∙◌, ap, subst, arith}
use Rattle.two_wire.specs.declared.Bus.{Bus}
use Rattle.undo_plans.specs.Fitting.{most_requests}
use Rattle.bmc_core.specs.Wires.{bus_of}
use Rattle.model_bus.specs.Answered.{Answered}
use Rattle.model_undo.specs.Words.{is_busy}
use Rattle.model_undo.specs.Machine.{one_answered}
use Rattle.undo_core.specs.declared.stage.Stage.{Stage}
use Rattle.undo_core.specs.declared.stage.Stage.TheVariants.{Opened}
use Rattle.undo_core.specs.Bounds.{steps_needed, undone_needed, most_backs, left_at, left_of, most_replies, steps_ahead, parts_at, most_replied}
use Rattle.undo_core.specs.Room.{HasRoom}
use Rattle.undo_core.specs.Counted.{counts_of}
use Rattle.undo_core.proofs.Replies.{took_reply}
use Rattle.undo_core.specs.Placed.{IsPlaced}
use Rattle.undo_core.proofs.Placed.{unsent_at_first}
use Rattle.undo_core.proofs.manager.Manager.on_reply.Goals as goal

pub invariant_of-self : goal.invariant_of-self
invariant_of-self c =
    let self = c.args.self.now in
    let task = c.in-Opened-true-default-default-default.task in
    let parts = c.in-Opened-true-default-default-default.parts in
    let asked = c.in-Opened-true-default-default-default.asked in
    let left : self.counts.ipmb + self.counts.smbus + left_of self.steps self.undo.requests task parts ≤ most_replies =
    subst (λ (s : Stage). self.counts.ipmb + self.counts.smbus + left_at self.steps self.undo.requests s ≤ most_replies) c.in-Opened-true-default-default-default.is self.counted in
    record {
      planned = c.stage_after-self.ensures.planned;
      kept = c.stage_after-self.ensures.kept;
      few = c.stage_after-self.ensures.few;
      counted = omega (arith, left, c.after-counts.ensures.sum, c.stage_after-self.ensures.left);
      roomy = c.stage_after-self.ensures.room;
      parted = c.stage_after-self.ensures.parted;
      filled = c.stage_after-self.ensures.filled;
      placed = c.stage_after-self.ensures.placed;
      unsent = unsent_at_first c.stage_after-self.result;
    }

pub returns : goal.returns
returns c names s shows =
    let a : Answered = record { code = c.args.reply.code; body = c.args.reply.body.now } in
    let task = c.in-Opened-true-default-default-default.task in
    let parts = c.in-Opened-true-default-default-default.parts in
    let asked = c.in-Opened-true-default-default-default.asked in
    let heeds : c.in-Opened-true-default-default-default.heeded ≡ true = search rules in
    let was : c.args.self.now.stage ≡ Opened true task parts asked = c.in-Opened-true-default-default-default.is ∙ ap (λ (h : Bool). Opened h task parts asked) heeds in
    let free : is_busy c.args.reply.code ≡ false = search rules in
    let counted : counts_of c.after-counts.result ≡ one_answered (bus_of asked) (counts_of c.args.self.now.counts) =
    c.after-counts.ensures.counts ∙ ap (λ (b : Bus). one_answered b (counts_of c.args.self.now.counts)) (search rules) in
    took_reply names s a c.args.self.now _ c.open_frames.result task parts asked shows (record {
      was = was;
      free = free;
      named = refl;
      listed = refl;
      plan = refl;
      retries = refl;
      stopped = refl;
      resent = refl;
      joined = refl;
      undo = c.stage_after-self.ensures.after.undo names;
      counts = counted;
      sequence = c.sequence.ensures;
      instance = c.instance.ensures;
      stage = c.stage_after-self.ensures.after.stage names;
      sends = λ at named shown. c.open_frames.ensures names c.args.self.now.steps c.stage_after-self.new.requests c.stage_after-self.new.replies at named shown;
    })

pub stage_after-self-requires-clause-steps : goal.stage_after-self-requires-clause-steps
stage_after-self-requires-clause-steps c = subst (λ (s : Stage). steps_needed s ≤ length c.args.self.now.steps) c.in-Opened-true-default-default-default.is c.args.self.now.planned

pub stage_after-self-requires-clause-undone : goal.stage_after-self-requires-clause-undone
stage_after-self-requires-clause-undone c = subst (λ (s : Stage). undone_needed s ≤ length c.args.self.now.undo.requests.members) c.in-Opened-true-default-default-default.is c.args.self.now.kept

pub stage_after-self-requires-clause-few : goal.stage_after-self-requires-clause-few
stage_after-self-requires-clause-few c = subst (λ (s : Stage). length c.args.self.now.undo.requests.members ≤ most_backs s) c.in-Opened-true-default-default-default.is c.args.self.now.few

pub stage_after-self-requires-clause-room : goal.stage_after-self-requires-clause-room
stage_after-self-requires-clause-room c = subst (λ (s : Stage). HasRoom (steps_ahead c.args.self.now.steps s) c.args.self.now.undo.requests) c.in-Opened-true-default-default-default.is c.args.self.now.roomy

pub stage_after-self-requires-clause-parts : goal.stage_after-self-requires-clause-parts
stage_after-self-requires-clause-parts c = subst (λ (s : Stage). parts_at s < most_requests) c.in-Opened-true-default-default-default.is c.args.self.now.parted

pub stage_after-self-requires-clause-filled : goal.stage_after-self-requires-clause-filled
stage_after-self-requires-clause-filled c = subst (λ (s : Stage). length c.args.self.now.replies ≤ most_replied s) c.in-Opened-true-default-default-default.is c.args.self.now.filled

pub stage_after-self-requires-clause-waits : goal.stage_after-self-requires-clause-waits
stage_after-self-requires-clause-waits c =
    let self = c.args.self.now in
    (subst (IsPlaced self.steps self.undo.requests) c.in-Opened-true-default-default-default.is self.placed).waits
