use Rattle.std.proofs.Common.{rules, ◌≡◌, ℕ, List, take, refl, sym, ◌∙◌, ap, subst}
use Rattle.std.proofs.Math.Seq.{take-length}
use Rattle.record_kinds.specs.Series.{Series}
use Rattle.mctp_net.specs.Assembly.{nothing}
use Rattle.model_undo.specs.declared.call.Call.TheVariants.{Undo}
use Rattle.model_undo.specs.Machine as machine
use Rattle.undo_core.specs.Shown.{words_of, backs, IsStage}
use Rattle.undo_core.proofs.Calling.{refused, made, no_undo, undo_turn, enters_does}
use Rattle.undo_core.proofs.Placed.{unsent_at_first}
use Rattle.undo_core.proofs.manager.Manager.undo.Goals as goal

pub returns-then-not-is_over : goal.returns-then-not-is_over
returns-then-not-is_over c names s shows =
    refused names Undo _ s _ shows (no_undo names c.args.self.now s shows (c.is_over.ensures.no_end (search rules)) (c.is_over.ensures.no_halt (search rules)))

pub returns : goal.returns
returns c names s shows =
    let requests = c.args.self.now.undo.requests in
    let t = machine.undo_stage (words_of names) s.machine.undo in
    let all : backs (take c.len.result requests.members) ≡ s.machine.undo =
    ap (λ (n : ℕ). backs (take n requests.members)) c.len.ensures.value ∙ ap backs (take-length requests.members) ∙ sym shows.undo in
    let at : IsStage names c.args.self.now.steps requests c.args.self.now.replies c.undo_stage-self.result t =
    subst (λ (xs : List Series). IsStage names c.args.self.now.steps requests c.args.self.now.replies c.undo_stage-self.result (machine.undo_stage (words_of names) xs)) all
    (c.undo_stage-self.ensures.stage names c.args.self.now.steps c.args.self.now.replies) in
    made names Undo _ s _ _ (undo_turn names c.args.self.now s shows (c.is_over.ensures.over (search rules)))
    (enters_does names _ (record s { joined = nothing }) t _
    (record {
      named = shows.named;
      is_named = shows.is_named;
      listed = shows.listed;
      plan = shows.plan;
      retries = shows.retries;
      stage = at;
      stopped = shows.stopped;
      resent = refl;
      undo = shows.undo;
      counts = shows.counts;
      sequence = shows.sequence;
      instance = shows.instance;
      joined = sym c.clear.ensures;
    })
    (c.open_frames.ensures names c.args.self.now.steps requests c.args.self.now.replies t shows.named at))

pub invariant_of-self-clause-placed : goal.invariant_of-self-clause-placed
invariant_of-self-clause-placed c = c.undo_stage-self.ensures.placed c.args.self.now.steps

pub invariant_of-self-clause-unsent : goal.invariant_of-self-clause-unsent
invariant_of-self-clause-unsent c = unsent_at_first c.undo_stage-self.result
