use Rattle.std.proofs.Common.{ℕ, List, [], refl, subst}
use Rattle.wire_links.specs.Trace.{TakesEach}
use Rattle.bmc_shared.specs.Serving.{frames_of}
use Rattle.bmc_shared.proofs.Calling.{takes, mark_left, number_left, drops}
use Rattle.bmc_shared.proofs.worker.take_frame.Goals as goal

pub returns-in-Ok-clause-takes : goal.returns-in-Ok-clause-takes
returns-in-Ok-clause-takes g c = record {
  sent = frames_of c.serve.new.out;
  step = takes c.args.port.now c.serve.new.self c.args.frame.now c.args.seat.now c.serve.new.kept c.serve.new.out c.in-Ok.served c.in-Ok.ensures.served;
  took = subst (λ (frames : List (List ℕ)). TakesEach g.L.Link c.args.link.now frames c.send_all.new.link) c.as_slice.ensures c.send_all.ensures.took;
}

pub returns-in-Ok-clause-mark : goal.returns-in-Ok-clause-mark
returns-in-Ok-clause-mark g c = mark_left c.args.port.now c.serve.new.self c.args.frame.now c.args.seat.now c.serve.new.kept c.serve.new.out c.in-Ok.served c.in-Ok.ensures.served

pub returns-in-Ok-clause-number : goal.returns-in-Ok-clause-number
returns-in-Ok-clause-number g c = number_left c.args.port.now c.serve.new.self c.args.frame.now c.args.seat.now c.serve.new.kept c.serve.new.out c.in-Ok.served c.in-Ok.ensures.served

pub returns-in-Err-clause-takes : goal.returns-in-Err-clause-takes
returns-in-Err-clause-takes g c = record {
  sent = [];
  step = drops c.args.port.now c.serve.new.self c.args.frame.now c.args.seat.now c.serve.new.kept c.serve.new.out c.in-Err.full c.in-Err.ensures.served;
  took = refl;
}
