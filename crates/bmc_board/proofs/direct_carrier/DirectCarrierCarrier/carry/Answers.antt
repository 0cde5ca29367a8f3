use Rattle.bmc_board.specs.Serves.{given_by}
use Rattle.bmc_board.specs.Asking.{as_asked}
use Rattle.bmc_board.proofs.direct_carrier.DirectCarrierCarrier.carry.Goals as goal

pub returns-clause-carried : goal.returns-clause-carried
returns-clause-carried g c =
    let given = given_by c.args.kept.now (as_asked c.args.asked.now) in
    record {
      answered = given.0;
      gives = c.answer_into.ensures.given;
      fits = c.answer_into.ensures.fits;
      carried = record { answer = λ i. (given.0, c.answer_into.ensures.left i); setup = c.answer_into.ensures.setup };
    }
