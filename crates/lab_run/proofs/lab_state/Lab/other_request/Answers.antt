use Rattle.std.proofs.Common.{sym, subst}
use Rattle.undo_plans.specs.declared.names.Names.{Names}
use Rattle.ipmb_frame.specs.Grammar.{IsRequest}
use Rattle.bmc_core.specs.Values.{Asks}
use Rattle.model_lab.specs.Meaning.{lab_names, request_of}
use Rattle.lab_run.proofs.Sent.{on_ok}
use Rattle.lab_run.proofs.lab_state.Lab.other_request.Goals as goal

pub returns-clause-becomes : goal.returns-clause-becomes
returns-clause-becomes c = on_ok c.hear_other.result c.hear_other.ensures.becomes (λ hears file x shows.
    let request = c.args.request.now in
    let bytes = subst (IsRequest (request_of c.args.self.now.names request)) (sym c.as_slice.ensures.value) c.request_frame-frame.ensures in
    hears file x (Asks (request_of lab_names request)) shows (subst (λ (n : Names). IsRequest (request_of n request) c.as_slice.result.now) shows.named bytes))
