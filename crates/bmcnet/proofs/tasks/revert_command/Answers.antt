use Rattle.bmcnet.proofs.tasks.revert_command.Goals as goal

pub returns : goal.returns
returns c = c.with_smbus_port.ensures _ c.in_ok-command.ensures
