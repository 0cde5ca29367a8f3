use Rattle.bmc_ports.proofs.runner.run_once.Goals as goal

pub returns-in-Ok : goal.returns-in-Ok
returns-in-Ok g c =
    let gave = c.in-Ok.ensures in
    let is = c.give_back.ensures in
    record {
      first = rw is.first.0 (rw is.first.1 (rw is.first_end gave.1));
      second = rw is.second.0 (rw is.second.1 (rw is.second_end gave.2));
      scanner = rw is.scanner.0 (rw is.scanner.1 (rw is.scanner_end gave.0));
    }
