use Rattle.bmc_core.proofs.PortEvents.{requests_leave_log, parts_leave_log}
use Rattle.bmc_core.proofs.port_laws.packets_leave_log.Goals as goal

pub returns-clause-requests : goal.returns-clause-requests
returns-clause-requests c = requests_leave_log

pub returns-clause-packets : goal.returns-clause-packets
returns-clause-packets c = parts_leave_log
