use Rattle.model_undo.proofs.examples.restarted_plan_ends_undone.Goals as goal
use Rattle.model_undo.proofs.Example.{message_restart, mixed_restart, message_halt, mixed_halt}

pub returns-clause-messages : goal.returns-clause-messages
returns-clause-messages c = message_restart

pub returns-clause-packets : goal.returns-clause-packets
returns-clause-packets c = mixed_restart

pub returns-clause-message_halt : goal.returns-clause-message_halt
returns-clause-message_halt c = message_halt

pub returns-clause-packet_halt : goal.returns-clause-packet_halt
returns-clause-packet_halt c = mixed_halt
