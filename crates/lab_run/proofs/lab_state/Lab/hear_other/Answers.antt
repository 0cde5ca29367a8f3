use Rattle.std.proofs.Common.{[], subst, sym}
use Rattle.bmc_core.specs.declared.out.Out.{Out}
use Rattle.bmc_core.specs.PortSteps.{hears}
use Rattle.model_lab.specs.declared.way.Way.TheVariants.{ToOthers}
use Rattle.model_lab.specs.Lab.{port_on, with_port}
use Rattle.model_lab.specs.Played.{plans}
use Rattle.lab_run.specs.Shown.{Represents}
use Rattle.lab_run.specs.Hearing.{IgnoresFrame}
use Rattle.lab_run.proofs.Sent.{on_ok, on_any}
use Rattle.lab_run.proofs.Silence.{none_sent}
use Rattle.lab_run.proofs.lab_state.Lab.hear_other.Goals as goal

pub returns-clause-becomes : goal.returns-clause-becomes
returns-clause-becomes c = on_ok c.send_out.result c.send_out.ensures.sent (λ sends file x v shows is.
    let heard = c.hear.ensures.port.heard file x v shows is in
    let d = hears file (port_on plans c.args.on x) x.board v in
    sends file (with_port plans c.args.on d.port (record x { board = d.board })) d.sent heard.shows heard.out)

pub returns-clause-noise : goal.returns-clause-noise
returns-clause-noise c = on_ok c.send_out.result c.send_out.ensures.sent (λ sends file x shows noise.
    let on = c.args.on in
    let heard = c.hear.ensures.port.noise file x shows noise in
    subst (Represents file c.send_out.new.self) (none_sent on ToOthers 0 x) (sends file (with_port plans on (port_on plans on x) (record x { board = x.board })) [] heard.shows heard.out))

pub returns-clause-ignored : goal.returns-clause-ignored
returns-clause-ignored c = on_any c.send_out.result (λ file x shows noise.
    subst (λ (o : Out). IgnoresFrame c.args.on c.args.bytes.now o.done) (sym c.send_out.ensures.out) (c.hear.ensures.port.ignored file x shows noise))
