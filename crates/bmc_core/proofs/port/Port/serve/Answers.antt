use Rattle.std.proofs.Common.{sym, subst}
use Rattle.bmc_core.specs.declared.port.Port.{Port}
use Rattle.bmc_core.specs.declared.port.Port.TheVariants.{Ipmb, Smbus}
use Rattle.bmc_core.specs.Port.{ServesFrameBy}
use Rattle.bmc_core.proofs.PortServing.{of_ipmb, of_smbus}
use Rattle.bmc_core.proofs.port.Port.serve.Goals as goal

pub returns-in-Ipmb-clause-served : goal.returns-in-Ipmb-clause-served
returns-in-Ipmb-clause-served g c =
    let before = c.args.kept.now in
    let carries = g.C.Carrier.carries c.args.carrier.now before in
    let refuses = g.C.Carrier.refuses c.args.carrier.now before in
    let s = c.serve.new in
    subst (λ (port : Port). ServesFrameBy carries refuses port c.args.bytes.now before c.serve.result (Ipmb s.self) s.out s.kept) (sym c.in-Ipmb.is)
    (of_ipmb carries refuses c.args.bytes.now before c.in-Ipmb.port s.self s.out s.kept c.serve.result c.serve.ensures)

pub returns-in-Smbus-clause-served : goal.returns-in-Smbus-clause-served
returns-in-Smbus-clause-served g c =
    let before = c.args.kept.now in
    let carries = g.C.Carrier.carries c.args.carrier.now before in
    let refuses = g.C.Carrier.refuses c.args.carrier.now before in
    let s = c.serve-in-Smbus.new in
    subst (λ (port : Port). ServesFrameBy carries refuses port c.args.bytes.now before c.serve-in-Smbus.result (Smbus s.self) s.out s.kept) (sym c.in-Smbus.is)
    (of_smbus carries refuses c.args.bytes.now before c.in-Smbus.port s.self s.out s.kept c.serve-in-Smbus.result c.serve-in-Smbus.ensures)
