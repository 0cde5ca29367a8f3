use Rattle.std.proofs.Common.{rules, ◌≡◌, ◌↔◌, ℕ, List, Bool, true, None, if◌then◌else◌, sym, ◌∙◌, ap, subst}
use Rattle.two_wire.specs.declared.Bus.TheVariants.{Smbus}
use Rattle.mctp_net.specs.declared.taken.Taken.{Taken}
use Rattle.mctp_net.specs.declared.taken.Taken.TheVariants.{Waiting}
use Rattle.mctp_net.specs.Assembly.{Assemblies, drop_cause, dropped_for, after as kept_after, message_of, IsPieceTaken}
use Rattle.mctp_net.specs.Places.{seen}
use Rattle.undo_plans.specs.declared.names.Names.{Names}
use Rattle.model_lab.specs.ManagerSteps.{board_plans, rests, joins, hears_packet, hears_reply}
use Rattle.undo_core.specs.Shown.{IsStepResult}
use Rattle.undo_core.proofs.Heard.{joined_with, whole_joins, whole_ends}
use Rattle.undo_core.proofs.manager.Manager.on_packet.Goals as goal

pub returns : goal.returns
returns c names s shows =
    let P = board_plans names in
    let m = c.args.self.now in
    let p = c.args.packet.now in
    let own : s.names.own_eid ≡ m.names.own_eid = ap (λ (n : Names). n.own_eid) (shows.is_named ∙ sym shows.named) in
    let same : kept_after m.names.own_eid (seen m.joined) p ≡ kept_after s.names.own_eid s.joined p = λ i. kept_after (sym own i) (sym shows.joined i) p in
    let kept : seen c.take.new.self ≡ kept_after s.names.own_eid s.joined p = c.take.ensures.after ∙ same in
    let here : drop_cause m.names.own_eid (seen m.joined) p ≡ None = sym c.take.ensures.dropped ∙ ap dropped_for c.in-Whole.is in
    let none : drop_cause s.names.own_eid s.joined p ≡ None = (λ i. drop_cause (own i) (shows.joined i) p) ∙ here in
    let ended : p.end ≡ true = whole_ends m.names.own_eid (seen m.joined) p here
    (subst (λ (t : Taken). (t ≡ Waiting) ↔ IsPieceTaken m.names.own_eid (seen m.joined) p) c.in-Whole.is c.take.ensures.waiting) in
    let ours : c.joins.result ≡ true = search rules in
    let after = joined_with names p s in
    let body : c.as_slice.result.now ≡ (message_of after.joined p).body =
    c.as_slice.ensures.value ∙ c.from_slice-message.ensures ∙ c.body.ensures.value ∙ ap (λ (a : Assemblies). (message_of a p).body) kept in
    let hears : hears_packet P p s ≡ hears_reply P Smbus c.as_slice.result.now after =
    c.joins.ensures names s shows ∙ ap (λ (b : Bool). if b then joins P p s else rests P s) ours ∙ whole_joins names s p none ended
    ∙ ap (λ (bytes : List ℕ). hears_reply P Smbus bytes after) (sym body) in
    subst (IsStepResult names c.on_message.new.self c.on_message.result) (sym hears) (c.on_message.ensures names after (record {
      named = shows.named;
      is_named = shows.is_named;
      listed = shows.listed;
      plan = shows.plan;
      retries = shows.retries;
      stage = shows.stage;
      stopped = shows.stopped;
      resent = shows.resent;
      undo = shows.undo;
      counts = shows.counts;
      sequence = shows.sequence;
      instance = shows.instance;
      joined = sym kept;
    }))

pub invariant_of-self : goal.invariant_of-self
invariant_of-self c = record {
  planned = c.args.self.now.planned;
  kept = c.args.self.now.kept;
  few = c.args.self.now.few;
  counted = c.args.self.now.counted;
  roomy = c.args.self.now.roomy;
  parted = c.args.self.now.parted;
  filled = c.args.self.now.filled;
  placed = c.args.self.now.placed;
  unsent = c.args.self.now.unsent;
}
