use Rattle.std.proofs.Common.{Option, None, sym, subst}
use Rattle.undo_core.specs.declared.manager.Manager.{Manager}
use Rattle.undo_core.specs.declared.sending.Sent.{Sent}
use Rattle.undo_core.specs.Shown.{IsSent}
use Rattle.bmc_core.specs.declared.out.Out.{Out}
use Rattle.lab_run.specs.Shown.{Represents}
use Rattle.lab_run.specs.Hearing.{IgnoresFrame}
use Rattle.lab_run.proofs.Sent.{on_ok, on_any}
use Rattle.lab_run.proofs.Silence.{deaf}
use Rattle.lab_run.proofs.lab_state.Lab.noise.Goals as goal

pub returns-clause-stays : goal.returns-clause-stays
returns-clause-stays c = on_ok c.send.result c.send.ensures.becomes (λ sends file x shows noise.
    let heard = c.hear_other.new.self in
    let shown = c.in_ok-hear_other.ensures.noise file x shows noise in
    let still = deaf c.args.on c.args.bytes.now heard.manager c.on_frame-sent.new.self c.on_frame-sent.result noise c.on_frame-sent.ensures.no_response c.on_frame-sent.ensures.no_packet in
    sends file x None (subst (λ (m : Manager). Represents file (record heard { manager = m }) x) (sym still.0) shown) (subst (λ (s : Option Sent). IsSent s None) (sym still.1) tt))

pub returns-clause-ignored : goal.returns-clause-ignored
returns-clause-ignored c = on_any c.send.result (λ file x shows noise.
    subst (λ (o : Out). IgnoresFrame c.args.on c.args.bytes.now o.done) (sym c.send.ensures.out) (c.in_ok-hear_other.ensures.ignored file x shows noise))
