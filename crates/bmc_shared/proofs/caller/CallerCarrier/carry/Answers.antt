use Rattle.bmc_board.specs.Asking.{as_asked}
use Rattle.bmc_shared.proofs.Calling.{called, found_no_room}
use Rattle.bmc_shared.proofs.caller.CallerCarrier.carry.Goals as goal

pub returns-clause-carried : goal.returns-clause-carried
returns-clause-carried g c =
    called c.args.seat.now c.exchange_into.new.seat (as_asked c.args.asked.now) (g.B.Buffer.bytes c.args.reply.now) (g.B.Buffer.bytes c.exchange_into.new.reply) c.exchange_into.result
    c.exchange_into.ensures.kept c.exchange_into.ensures.seat.mark c.exchange_into.ensures.seat.number

pub returns-clause-refused : goal.returns-clause-refused
returns-clause-refused g c =
    found_no_room c.args.seat.now c.exchange_into.new.seat c.exchange_into.result c.exchange_into.ensures.seat.same_list c.exchange_into.ensures.seat.marked c.exchange_into.ensures.seat.number
