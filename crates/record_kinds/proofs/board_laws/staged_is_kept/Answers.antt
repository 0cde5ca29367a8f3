use Rattle.record_kinds.proofs.Apart.{own_last, none_left}
use Rattle.record_kinds.proofs.board_laws.staged_is_kept.Goals as goal

pub returns-clause-staged : goal.returns-clause-staged
returns-clause-staged c = own_last

pub returns-clause-ended : goal.returns-clause-ended
returns-clause-ended c = none_left
