use Rattle.bmc_board.proofs.AnswerFacts.{stays_sound, answers_fit}
use Rattle.bmc_board.proofs.laws.sound_law.Goals as goal

pub returns-clause-records : goal.returns-clause-records
returns-clause-records c = stays_sound

pub returns-clause-fits : goal.returns-clause-fits
returns-clause-fits c = answers_fit
