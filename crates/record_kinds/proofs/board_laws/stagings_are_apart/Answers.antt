use Rattle.record_kinds.proofs.Apart.{others_left, others_stay}
use Rattle.record_kinds.proofs.board_laws.stagings_are_apart.Goals as goal

pub returns-clause-staged : goal.returns-clause-staged
returns-clause-staged c = others_stay

pub returns-clause-ended : goal.returns-clause-ended
returns-clause-ended c = others_left
