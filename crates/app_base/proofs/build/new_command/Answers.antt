use Rattle.std.proofs.Common.{◌∙◌, sym}
use Rattle.app_base.proofs.Builders.{adds_rule, one_rule_more}
use Rattle.app_base.proofs.build.new_command.Goals as goal

pub loop-argument-preserved : goal.loop-argument-preserved
loop-argument-preserved c =
    let added = adds_rule _ _ _ _ _ c.loop-argument.invariant c.arg.ensures c.in_ok-command.ensures in
    (added.0 ∙ sym (one_rule_more _ c.args.arguments.now c.loop-argument.argument-index _ c.loop-argument-test.true), added.1)
