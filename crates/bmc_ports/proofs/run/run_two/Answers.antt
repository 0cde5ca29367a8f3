use Rattle.bmc_ports.proofs.run.run_two.Goals as goal

pub returns : goal.returns
returns g c =
    let gave = c.in_ok-scanner.ensures in (gave.1, gave.2, gave.0)
