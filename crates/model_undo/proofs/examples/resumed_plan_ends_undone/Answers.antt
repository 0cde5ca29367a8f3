use Rattle.model_undo.proofs.examples.resumed_plan_ends_undone.Goals as goal
use Rattle.model_undo.proofs.Example.{message_resume, mixed_resume}

pub returns-clause-messages : goal.returns-clause-messages
returns-clause-messages c = message_resume

pub returns-clause-packets : goal.returns-clause-packets
returns-clause-packets c = mixed_resume
