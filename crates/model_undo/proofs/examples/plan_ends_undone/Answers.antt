use Rattle.model_undo.proofs.examples.plan_ends_undone.Goals as goal
use Rattle.model_undo.proofs.Example.{message_run, mixed_run}

pub returns-clause-messages : goal.returns-clause-messages
returns-clause-messages c = message_run

pub returns-clause-packets : goal.returns-clause-packets
returns-clause-packets c = mixed_run
