use Rattle.std.proofs.Common.{Result, Option, subst}
use Rattle.undo_core.specs.declared.sending.Sent.{Sent}
use Rattle.undo_core.specs.declared.phase.WrongPhase.{WrongPhase}
use Rattle.undo_core.specs.Shown.{IsCalled}
use Rattle.model_lab.specs.ManagerSteps.{called}
use Rattle.model_lab.specs.Meaning.{lab_names}
use Rattle.model_lab.specs.Played.{plans}
use Rattle.lab_run.proofs.Sent.{on_ok}
use Rattle.lab_run.proofs.ManagerSide.{called_shown, refused_shown}
use Rattle.lab_run.proofs.lab_state.Lab.call.Goals as goal

pub returns-in-Ok-clause-becomes : goal.returns-in-Ok-clause-becomes
returns-in-Ok-clause-becomes c = on_ok c.send.result c.send.ensures.becomes (λ sends file x shows.
    let m = c.made.new.manager in
    let deed = called plans c.args.call x.manager in
    called_shown file c.args.self.now x m shows c.send.new.self c.in-Ok.sent deed
    (subst (λ (r : Result (Option Sent) WrongPhase). IsCalled lab_names x.manager m r deed) c.in-Ok.is (c.made.ensures lab_names x.manager shows.manager))
    (sends file))

pub returns-in-Err-clause-becomes : goal.returns-in-Err-clause-becomes
returns-in-Err-clause-becomes c = λ file x shows.
    let m = c.made.new.manager in
    let deed = called plans c.args.call x.manager in
    refused_shown file c.args.self.now x m shows c.in-Err.field-0 deed
    (subst (λ (r : Result (Option Sent) WrongPhase). IsCalled lab_names x.manager m r deed) c.in-Err.is (c.made.ensures lab_names x.manager shows.manager))
