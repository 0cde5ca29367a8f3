use Rattle.std.proofs.Common.{◌∙◌}
use Rattle.bmc_board.specs.State.{opened, state_of}
use Rattle.bmc_lab.proofs.Hearing.{hears_next}
use Rattle.bmc_lab.proofs.asking.heard.Goals as goal

pub loop-frame-preserved : goal.loop-frame-preserved
loop-frame-preserved c = (
  hears_next c.loop-frame.board.setup c.args.file c.in_ok-port.port (opened c.args.file) c.args.frames.now c.loop-frame.frame-index c.loop-frame.out c.loop-frame.port (state_of c.loop-frame.board)
      c.frame-item.result c.as_slice.result.now c.on_frame.new.out c.on_frame.new.self (state_of c.on_frame.new.board)
      c.loop-frame-test.true c.frame-item.is c.as_slice.ensures.value c.loop-frame.invariant.1 c.loop-frame.invariant.0 c.on_frame.ensures.heard,
  c.on_frame.ensures.setup ∙ c.loop-frame.invariant.1,
)
