use Rattle.bmc_ports.proofs.sender.sender.Goals as goal

pub returns-in-Ipmb : goal.returns-in-Ipmb
returns-in-Ipmb c = rw c.in-Ipmb.is c.ipmb_sender.ensures

pub returns-in-Smbus : goal.returns-in-Smbus
returns-in-Smbus c = rw c.in-Smbus.is c.smbus_sender.ensures
