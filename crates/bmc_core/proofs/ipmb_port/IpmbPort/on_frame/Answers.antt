use Rattle.bmc_core.proofs.IpmbServing.{alone_hears}
use Rattle.bmc_core.proofs.ipmb_port.IpmbPort.on_frame.Goals as goal

pub returns-clause-heard : goal.returns-clause-heard
returns-clause-heard g c =
    (alone_hears c.args.self.now c.serve.new.self c.args.bytes.now c.args.board.now c.serve.new.kept c.serve.new.out c.serve.result c.serve.ensures).0

pub returns-clause-setup : goal.returns-clause-setup
returns-clause-setup g c =
    (alone_hears c.args.self.now c.serve.new.self c.args.bytes.now c.args.board.now c.serve.new.kept c.serve.new.out c.serve.result c.serve.ensures).1
