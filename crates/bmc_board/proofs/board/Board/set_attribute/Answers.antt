use Rattle.std.proofs.Common.{subst, sym}
use Rattle.bmc_board.specs.Serves.{ReplyFits, ServesRequest}
use Rattle.bmc_board.proofs.AttributeSets.{asks_whole, asks_part}
use Rattle.bmc_board.proofs.board.Board.set_attribute.Goals as goal

pub set_whole-requires : goal.set_whole-requires
set_whole-requires g c =
    subst (λ asked. ReplyFits asked (g.B.Buffer.bytes c.args.to.now) g.B.Buffer.capacity) (asks_whole c.args.from c.args.body.now c.byte_at.result c.byte_at.ensures c.if-byte_at-eq-START_AND_END.true) c.requires

pub set_part-requires : goal.set_part-requires
set_part-requires g c =
    subst (λ asked. ReplyFits asked (g.B.Buffer.bytes c.args.to.now) g.B.Buffer.capacity) (asks_part c.args.from c.args.body.now c.byte_at.result c.byte_at.ensures c.if-byte_at-eq-START_AND_END.false) c.requires

pub returns-then-byte_at-eq-START_AND_END : goal.returns-then-byte_at-eq-START_AND_END
returns-then-byte_at-eq-START_AND_END g c =
    subst (λ asked. ServesRequest g.B.Buffer.bytes c.args.self.now c.set_whole.new.self asked c.set_whole.result c.args.to.now c.set_whole.new.to) (sym (asks_whole c.args.from c.args.body.now c.byte_at.result c.byte_at.ensures c.if-byte_at-eq-START_AND_END.true)) c.set_whole.ensures

pub returns-else-byte_at-eq-START_AND_END : goal.returns-else-byte_at-eq-START_AND_END
returns-else-byte_at-eq-START_AND_END g c =
    subst (λ asked. ServesRequest g.B.Buffer.bytes c.args.self.now c.set_part.new.self asked c.set_part.result c.args.to.now c.set_part.new.to) (sym (asks_part c.args.from c.args.body.now c.byte_at.result c.byte_at.ensures c.if-byte_at-eq-START_AND_END.false)) c.set_part.ensures
