use Rattle.std.proofs.Common.{rules, ◌≡◌, ◌<◌, ◌+◌, ◌∷◌, [], ◌++◌, ◌∙◌, ap, arith, length, length-append}
use Rattle.bmc_board.specs.State.{state_of}
use Rattle.bmc_lab.proofs.Turns.{next_met, all_met}
use Rattle.bmc_lab.proofs.steps.try_steps.Goals as goal

pub loop-place-preserved : goal.loop-place-preserved
loop-place-preserved c =
    let within : c.loop-place.place < length c.args.steps.now = search rules in
    let grown : length c.push.new.self.items ≡ length (c.loop-place.findings.items ++ c.in_ok-finding.finding ∷ []) = ap length c.in_ok-push.ensures.items in
    let more : length c.push.new.self.items ≡ length c.loop-place.findings.items + 1 = grown ∙ length-append c.loop-place.findings.items (c.in_ok-finding.finding ∷ []) in (
      next_met c.loop-place.board.setup c.args.file c.args.steps.now c.loop-place.place c.loop-place.findings.items c.push.new.self.items _ _ (state_of c.try_step.new.board) c.in_ok-finding.finding within
          c.loop-place.invariant.0 c.loop-place.invariant.1 c.in_ok-finding.ensures.met c.in_ok-push.ensures.items,
      c.try_step.ensures.setup ∙ c.loop-place.invariant.1,
      omega (arith, more, c.loop-place.invariant.2),
    )

pub returns-clause-met : goal.returns-clause-met
returns-clause-met c =
    let full : c.loop-place.place ≡ length c.args.steps.now = search rules in
    (state_of c.loop-place.board, all_met c.args.file c.args.steps.now c.loop-place.place c.loop-place.findings.items _ _ full c.loop-place.invariant.0)

pub returns-clause-each : goal.returns-clause-each
returns-clause-each c =
    let full : c.loop-place.place ≡ length c.args.steps.now = search rules in
    c.loop-place.invariant.2 ∙ full
