use Rattle.std.proofs.lemmas.Result.{IfOk-weaker}
use Rattle.app_base.proofs.Builders.{adds_rule}
use Rattle.bmcnet.specs.Line.{smbus_rule}
use Rattle.bmcnet.proofs.tasks.with_smbus_port.Goals as goal

pub returns : goal.returns
returns c app is =
    IfOk-weaker c.arg.result _ _ (λ command adds. adds_rule app smbus_rule c.args.command command c.smbus_port.result is c.smbus_port.ensures adds) c.arg.ensures
